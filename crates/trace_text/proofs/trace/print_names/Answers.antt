use Rattle.std.proofs.Common.{◌∙◌, ◌≡◌, ap, sym, List, ℕ, Bool, cond, ◌++◌, ◌∷◌, [], ltb}
use Rattle.std.proofs.{lemmas.Bool.lt-ltb, lemmas.Bool.le-ltb, lemmas.List.append-nil}
use Rattle.trace_text.specs.{module_name, name_event}
use Rattle.trace_text.proofs.{Lines.names_more, trace.print_names.Goals.then-number-gt0+in_ok-push, trace.print_names.Goals.else-number-gt0}
use Rattle.trace_text.proofs.trace.print_names.Goals as goal

pub loop-number-preserved : goal.loop-number-preserved
loop-number-preserved c =
    let n = c.loop-number.number in
    let text = c.loop-number.text in
    let comma : c.if-number-gt0.text ≡ text ++ cond (ltb 0 n) (44 ∷ []) [] = elim c.if-number-gt0.branch [
      | then-number-gt0+in_ok-push w ↦
          w.text-is ∙ (w.in_ok-push.ensures.ok ∙ ap (λ (b : Bool). text ++ cond b (44 ∷ []) []) (sym (lt-ltb 0 n w.if-number-gt0.true)))
      | else-number-gt0 w ↦
          w.text-is ∙ (sym (append-nil text) ∙ ap (λ (b : Bool). text ++ cond b (44 ∷ []) []) (sym (le-ltb 0 n w.if-number-gt0.false)))
    ] in
    names_more (λ i. name_event i (module_name c.args.design.now i)) n c.args.text.now text c.if-number-gt0.text
    c.push-in-loop-number.new.self c.print_name.new.text c.loop-number.invariant comma c.in_ok-push-2.ensures.ok
    (c.in_ok-print_name.ensures
    ∙ ap (λ (name : List ℕ). c.push-in-loop-number.new.self ++ name_event n name) c.module_name.ensures)
