use Rattle.std.proofs.Common.{◌<◌, ℕ, ◌+◌, List, ap, ap₂, sym, ◌∙◌, length, drop, get_or, arith}
use Rattle.std.proofs.lemmas.List.{take_rest, get_or_read}
use Rattle.event_graph.specs.{Step, Form, form_at, step_of_form, store_with, nothing, whole_mark}
use Rattle.event_graph.proofs.Packing.{opens_short, opens_whole, opens_long}
use Rattle.event_graph.proofs.steps.look_under.Goals as goal

pub returns-then-number-lt-WHOLE : goal.returns-then-number-lt-WHOLE
returns-then-number-lt-WHOLE c =
    let head = c.args.head.now in
    c.look_packed.ensures
    ∙ (ap₂ (λ (form : Form) (words : List ℕ). step_of_form form head.gap words) c.get.ensures (take_rest c.as_slice.result.now head.at
    ∙ ap (drop head.at) c.as_slice.ensures)
    ∙ sym (opens_short (store_with c.args.words.now c.args.shapes.now c.args.others.now) head c.if-number-lt-WHOLE.true))

pub returns-then-number : goal.returns-then-number
returns-then-number c =
    let at = c.args.head.now.at in
    let others = c.as_slice-then-number in
    let within : at < length others.result.now = rw others.ensures (c.requires.whole c.if-number.true) in
    c.look_whole.ensures
    ∙ (get_or_read others.result.now at c.index-as_slice-at.result within c.index-as_slice-at.is nothing
    ∙ (ap (λ (steps : List Step). get_or steps at nothing) others.ensures
    ∙ sym (opens_whole (store_with c.args.words.now c.args.shapes.now c.args.others.now) c.args.head.now c.if-number.true)))

pub returns : goal.returns
returns c =
    let at = c.args.head.now.at in
    let words = c.as_slice-words.result.now in
    let forms = c.args.shapes.now.items in
    let long : whole_mark < c.args.head.now.shape = omega arith in
    c.look_packed-2.ensures
    ∙ (ap₂ (λ (form : Form) (rest : List ℕ). step_of_form form (get_or words (at + 1) 0) rest) c.get-2.ensures (take_rest words (at + 2))
    ∙ (ap (λ (ws : List ℕ). step_of_form (form_at forms (get_or ws at 0)) (get_or ws (at + 1) 0) (drop (at + 2) ws))
    c.as_slice-words.ensures
    ∙ sym (opens_long (store_with c.args.words.now c.args.shapes.now c.args.others.now) c.args.head.now long)))
