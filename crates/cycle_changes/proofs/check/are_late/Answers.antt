use Rattle.std.proofs.Common.{◌≡◌, ap, sym, subst, ◌∙◌, ℕ, arith, inl, inr, Some, None}
use Rattle.std.proofs.{lemmas.Bool.cases_lt, lemmas.List.get_or_past}
use Rattle.cycle_changes.specs.{Lane, lane_at, no_lane, determined, open_step}
use Rattle.engine_view.proofs.Bounds.{determined_at}
use Rattle.cycle_changes.proofs.check.are_late.Goals as goal

pub loop-owner-preserved : goal.loop-owner-preserved
loop-owner-preserved c = λ m l n q.
    elim (cases_lt m c.loop-owner.owner) [
      | inl w ↦ c.loop-owner.invariant m w n q
      | inr w ↦
          elim (cases_lt n c.args.limit) [
            | inr v ↦ v
            | inl v ↦
                let e : m ≡ c.loop-owner.owner = omega arith in
                let q' = subst (λ (j : ℕ). determined c.args.engine.now.graph.lanes c.args.engine.now.fifos.channels j ≡ Some n) e q in
                absurd (c.in_default.not-At n ((c.candidate.ensures.at n).1 (q', v)))
          ]
    ]

pub returns : goal.returns
returns c = λ e m n q.
    elim (cases_lt m c.loop-owner.owner) [
      | inl w ↦ c.loop-owner.invariant m w n q
      | inr w ↦
          let count = c.modules-owner-end.ensures.count in
          let none : open_step (lane_at c.args.engine.now.graph.lanes m) ≡ None =
          ap (λ (l : Lane). open_step l) (get_or_past c.args.engine.now.graph.lanes m no_lane (omega (arith, c.loop-owner-test.false))) in
          let z = sym (determined_at c.args.engine.now.graph.lanes c.args.engine.now.fifos.channels m None none) ∙ q in
          cc
    ]
