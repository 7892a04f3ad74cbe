use Rattle.std.proofs.Common.{◌∙◌, ◌++◌, ◌∷◌, [], ap₂, sym, zero-add, ℕ, List}
use Rattle.std.proofs.lemmas.List.FromFn.{map-range_with_len_more}
use Rattle.engine_report.specs.{next_cycle}
use Rattle.engine_report.proofs.walk.first_cycles.Goals as goal

pub loop-owner-preserved : goal.loop-owner-preserved
loop-owner-preserved c =
    let i = c.loop-owner.owner in
    c.in_ok-push.ensures.ok
    ∙ (ap₂ (λ (xs : List ℕ) (x : ℕ). xs ++ x ∷ []) c.loop-owner.invariant c.cycle_at.ensures
    ∙ sym (map-range_with_len_more (λ (j : ℕ). next_cycle c.args.graph.now.lanes j 0) 0 i i (zero-add i)))
