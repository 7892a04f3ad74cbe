-- Each step of a final core that agrees is right, and of those without a cycle none with a query is verified.
use Rattle.std.proofs.Common.{◌≡◌, ℕ, suc, ◌<◌, ◌≤◌, true, false, inl, inr, arith}
use Rattle.std.proofs.lemmas.Bool.{cases_Bool, cases_eq}
use Rattle.cycle_changes.specs.{Design, IsDesign, Trace, IsHistory, core_accesses, has_query, IsFinal, IsAgreed, kept, after_edit, IsRight}
use Rattle.event_timing.specs.Core.{Core}
use Rattle.event_timing.proofs.{Agreement.final_complete, Editing.cycles_rise, Editing.kept_same, Steps.done_more, Fronts.IsDone}
use Rattle.cycle_changes.proofs.{Keeping.kept_all, Begun.begun_right}

module _ {S : Type 0} (d : Design S) (h : Trace S) (i : IsDesign d) (y : IsHistory d h) (limit : ℕ) (x : Core S) (a : IsAgreed d h limit x)
    (f : IsFinal d limit x) where
  all_stay : (m : ℕ) → kept (x.cycle m) limit (x.timed m) ≡ x.timed m
  all_stay m = kept_all (x.cycle m) limit (x.timed m) (λ k l. a.time.below m k l)

  whole_done : IsDone d h (after_edit d x limit)
  whole_done =
      let same = λ (m k : ℕ) (l : k < kept (x.cycle m) limit (x.timed m)). kept_same (x.cycle m) limit (x.timed m) k l in
      record {
        within = λ m. omega (arith, all_stay m, a.time.within m);
        steps_then = λ m k l. rw (same m k l) (a.time.steps_then m k (omega (arith, all_stay m)));
        done_then = λ m k l. rw (same m k l) (a.time.done_then m k (omega (arith, all_stay m)));
        reply_then = λ m k l. rw (same m k l) (a.time.reply_then m k (omega (arith, all_stay m)));
      }

  pub final_right : (m k : ℕ) → k < x.timed m → IsRight d x m k
  final_right m k l =
      begun_right d h i y x a.marks (λ n j e p q. cycles_rise d h limit x a.time n j e p q) limit whole_done
      (λ n. omega (arith, all_stay n, final_complete d h i y limit x a f n limit (omega arith))) m k (omega (arith, all_stay m))

  -- of the steps without a cycle none with a query is verified
  pub final_plain : (m k : ℕ) → x.timed m ≤ k → k < x.emitted m → x.verified m k ≡ true → has_query (core_accesses d x m k) ≡ false
  final_plain m k l q v =
      elim (cases_Bool (has_query (core_accesses d x m k))) [
        | inr p ↦ p
        | inl p ↦ elim (cases_eq k (x.timed m)) [
          | inr w ↦ a.time.later_plain m k (omega arith) q v
          | inl w ↦
              let (c, b, e) = a.time.first_happens m (omega arith) (rw w at v) (rw w at p) in
              let next = e.1 in
              absurd (omega (arith, done_more d h m c e.0, final_complete d h i y limit x a f m (suc c) (omega arith)))
        ]
      ]
