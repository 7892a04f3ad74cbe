use Rattle.std.proofs.Common.{◌≡◌, ◌∙◌, ◌+◌, List, ℕ, ap, get_or, min, refl, set, arith}
use Rattle.engine_report.specs.{next_cycle}
use Rattle.engine_report.proofs.Giving.{walk_given, given_found}
use Rattle.engine_report.proofs.walk.StepWalk.give.Goals as goal

pub overflow_add-step : goal.overflow_add-step
overflow_add-step c =
    let o = c.args.owner in
    let within = c.requires.walk.within o c.requires.inside in
    let same : get_or c.as_slice.result.now o 0 ≡ get_or c.args.self.now.given o 0 = ap (λ (xs : List ℕ). get_or xs o 0)
    c.as_slice.ensures in
    omega (arith, within, c.lane_stays_short.ensures, same)

pub returns-clause-walk : goal.returns-clause-walk
returns-clause-walk c =
    let lanes = c.args.graph.now.lanes in
    let old = c.args.self.now in
    let o = c.args.owner in
    let same : get_or c.as_slice.result.now o 0 ≡ get_or old.given o 0 = ap (λ (xs : List ℕ). get_or xs o 0) c.as_slice.ensures in
    let next = c.cycle_at-next.ensures ∙ ap (λ (k : ℕ). next_cycle lanes o (k + 1)) same in
    walk_given lanes c.stays_sound.ensures old _ c.requires.walk o c.requires.inside c.requires.turn c.requires.due
    (c.put.ensures ∙ ap (λ (k : ℕ). set old.given o (k + 1)) same) (c.put-2.ensures ∙ ap (set old.next o) next) refl
    (c.min-self.ensures ∙ ap (min old.later) next) refl

pub returns-clause-found : goal.returns-clause-found
returns-clause-found c =
    let lanes = c.args.graph.now.lanes in
    let old = c.args.self.now in
    let o = c.args.owner in
    let same : get_or c.as_slice.result.now o 0 ≡ get_or old.given o 0 = ap (λ (xs : List ℕ). get_or xs o 0) c.as_slice.ensures in
    let next = c.cycle_at-next.ensures ∙ ap (λ (k : ℕ). next_cycle lanes o (k + 1)) same in
    given_found lanes c.stays_sound.ensures old _ c.requires.walk o c.requires.inside c.requires.turn c.requires.due
    (c.put.ensures ∙ ap (λ (k : ℕ). set old.given o (k + 1)) same) (c.put-2.ensures ∙ ap (set old.next o) next) refl
    (c.min-self.ensures ∙ ap (min old.later) next) refl (get_or c.as_slice.result.now o 0) same
