-- A right record that is cut at a clock: its steps that stay, and what comes next.
use Rattle.std.proofs.{lemmas.Bool.Decides.nat_tests, lemmas.Bool.cases_lt, lemmas.Bool.lt-ltb, lemmas.Bool.ltb-false}
use Rattle.std.proofs.Common.{◌≡◌, ℕ, zero, suc, ◌+◌, ◌<◌, ◌≤◌, max, true, false, inl, inr, ap, subst, arith, ltb, Some}
use Rattle.event_timing.specs.{Access, Enablers.Known.From, Core.Core}
use Rattle.cycle_changes.specs.{Design, IsDesign, Trace, IsHistory, from, own_state, tally, core_accesses, core_reply, view, new_flags}
use Rattle.cycle_changes.specs.{AreOwnMarks, IsTimed, kept, after_edit, known_of, bound, candidate, unblocked_clock, IsStuck, IsRight}
use Rattle.cycle_changes.specs.{IsRightRecord, known_at}
use Rattle.event_timing.proofs.{Candidate.candidate_parts, Candidate.candidate_from, Fronts.IsDone, Agreement.run_ended}
use Rattle.event_timing.proofs.Editing.{kept_le, kept_same, time_from, edit_plain}
use Rattle.cycle_changes.proofs.{Keeping.Rise, Keeping.kept_beyond, Keeping.from_kept, Local.clock_parts, Marks.marks_cut}
use Rattle.cycle_changes.proofs.Cutting.{IsCut, cut_known, bound_down, bound_up, flags_cut}

module _ {S : Type 0} (d : Design S) (x : Core S) (right : (m k : ℕ) → k < x.timed m → IsRight d x m k) where
  -- the cycle of a right step is later than the one before
  later : (m k : ℕ) → suc k < x.timed m → x.cycle m k < x.cycle m (suc k)
  later m k l =
      let (u, b, c) = clock_parts _ _ _ ((right m (suc k) l).cycle) in
      omega arith

  pub rise : (m : ℕ) → Rise (x.cycle m) (x.timed m)
  rise m j zero p l = absurd (omega arith)
  rise m j (suc k) p l = grind (arith, later m k l, λ (q : j < k). rise m j k q (omega arith))

module _ {S : Type 0} (d : Design S) (i : IsDesign d) (limit : ℕ) (x : Core S) (r : IsRightRecord d limit x) where
  module _ (t : ℕ) where
    -- the record that is cut at the clock
    abbrev pub rest : Core S
    rest = after_edit d x t

    abbrev pub stay : ℕ → ℕ
    stay m = kept (x.cycle m) t (x.timed m)

    pub cut_marks : AreOwnMarks d rest
    cut_marks = marks_cut d x r.marks t

    pub stay_le : (m : ℕ) → stay m ≤ x.timed m
    stay_le m = kept_le (x.cycle m) t (x.timed m)

    pub cut_time : (h : Trace S) → IsHistory d h → IsDone d h rest → IsTimed d h limit rest
    cut_time h y w =
        time_from d h i y limit rest cut_marks w
        (λ m k l. r.answered m k (omega (arith, stay_le m)))
        (λ m k l. r.there m k (omega (arith, stay_le m)))
        (λ m k l. rw (kept_same (x.cycle m) t (x.timed m) k l) (r.below m k (omega (arith, stay_le m))))
        (λ m k l. grind (arith, nat_tests, r.verified m k, stay_le m))
        (λ m k l v. grind (arith, r.verified_answered m k l))
        (λ m k l q. edit_plain d x t m k l)

    -- what is known of an access of the first step that does not stay
    first_cut : (m : ℕ) (a : Access) → IsCut t (known_of d (view d rest) m a) (known_at d x m (stay m) a)
    first_cut m a =
        cut_known d i x t a.side a.channel (tally (core_accesses d x m) (core_reply d x m) a.side a.channel (stay m))

    reach_same : (m : ℕ) → unblocked_clock (view d rest) m ≡ from (x.cycle m) (stay m) + x.wait m (stay m)
    reach_same m = ap (λ (z : ℕ). z + x.wait m (stay m)) (from_kept (x.cycle m) t (x.timed m) (stay m) (omega arith))

    -- the first step that does not stay is determined, if it is at this clock
    pub next_determined : (m : ℕ) → stay m < x.timed m → x.cycle m (stay m) ≡ t → candidate d (view d rest) m ≡ Some t
    next_determined m l e =
        let (u, b, c) = clock_parts _ _ _ ((r.right m (stay m) l).cycle) in
        let b' = bound_down t (known_of d (view d rest) m) (known_at d x m (stay m)) (first_cut m) (core_accesses d x m (stay m)) u b
        (omega arith) in
        let o : ltb (stay m) (x.emitted m) ≡ true = lt-ltb (stay m) (x.emitted m) (omega (arith, r.within m)) in
        grind (arith, candidate_from d (view d rest) m u o b', reach_same m)

    -- and then its outcomes are those that are found in the cut record
    pub next_flags : (m : ℕ) → stay m < x.timed m → x.cycle m (stay m) ≡ t → new_flags d rest m t ≡ x.flags m (stay m)
    next_flags m l e =
        let same = flags_cut t (known_of d (view d rest) m) (known_at d x m (stay m)) (first_cut m) (core_accesses d x m (stay m)) in
        grind (arith, (r.right m (stay m) l).outcomes)

    next_later : t ≤ limit → (m c : ℕ) → candidate d (view d rest) m ≡ Some c → t ≤ c
    next_later q m c e =
        let (o, u, b, k) = candidate_parts d (view d rest) m c e in
        let b' = bound_up t (known_of d (view d rest) m) (known_at d x m (stay m)) (first_cut m) (core_accesses d x m (stay m)) u b in
        let s = reach_same m in
        elim (cases_lt (stay m) (x.timed m)) [
          | inl l ↦
              let (v, f, g) = clock_parts _ _ _ ((r.right m (stay m) l).cycle) in
              grind (arith, kept_beyond (x.cycle m) t (x.timed m) (stay m) (omega arith) l)
          | inr l ↦
              let p : stay m ≡ x.timed m = omega (arith, stay_le m) in
              let b'' = subst (λ (z : ℕ). bound (known_at d x m z) (core_accesses d x m z) ≡ From u) p b' in
              let o' = subst (λ (z : ℕ). ltb z (x.emitted m) ≡ true) p o in
              let f = candidate_from d (view d x) m u o' b'' in
              let s' = subst (λ (z : ℕ). unblocked_clock (view d rest) m ≡ from (x.cycle m) z + x.wait m z) p s in
              omega (arith, r.beyond m (max (unblocked_clock (view d x) m) u) f)
        ]

    next_ended : (m : ℕ) → ltb (stay m) (x.emitted m) ≡ false → d.is_over m (own_state d (view d rest) m (stay m)) ≡ true
    next_ended m o =
        let e : x.emitted m ≡ stay m = omega (arith, r.within m, stay_le m, ltb-false (stay m) (x.emitted m) o) in
        rw e at (run_ended d i x r.marks m (r.no_run m) (λ k q. r.answered m k (omega (arith, stay_le m)))
        (λ k q. r.there m k (omega (arith, stay_le m))))

    -- nothing else comes before the clock
    pub cut_stuck : t ≤ limit → IsStuck d (view d rest) t
    cut_stuck q = record { ended = next_ended; later = next_later q }
