-- A right record is the history: by induction on clocks, each clock of the record is one of the history.
use Rattle.std.proofs.Common.{◌≡◌, ℕ, zero, suc, ◌<◌, ◌≤◌, inl, inr, List, sym, ap, ◌∙◌, subst, arith, ltb, map, true}
use Rattle.std.proofs.lemmas.Bool.{lt-ltb}
use Rattle.flow_word.specs.declared.access.Side.TheVariants.{Pop}
use Rattle.event_timing.specs.{Access, Core.Core}
use Rattle.cycle_changes.specs.{Design, IsDesign, steps, done, new_flags, IsAgreed, elements_timed, possible_all, kept, after_edit, Trace}
use Rattle.cycle_changes.specs.{IsHistory, replies, reply_to, core_accesses, core_reply, core_tally, core_values, all_below, replies_of}
use Rattle.cycle_changes.specs.{view, IsRightRecord}
use Rattle.event_timing.proofs.Candidate.{candidate_done, candidate_steps, candidate_ready}
use Rattle.event_timing.proofs.{Earliest.earliest_right, Editing.kept_same, Editing.time_from, Fronts.IsDone, Fronts.agrees_done}
use Rattle.event_timing.proofs.{Replying.core_fronts, Replying.replies_right, Sure.new_sure}
use Rattle.cycle_changes.proofs.Keeping.{kept_none, kept_all, kept_more}
use Rattle.cycle_changes.proofs.Standing.{rise, cut_marks, cut_time, cut_stuck, next_determined, next_flags, stay_le}

module _ {S : Type 0} (d : Design S) (h : Trace S) (i : IsDesign d) (y : IsHistory d h) (limit : ℕ) (x : Core S)
    (r : IsRightRecord d limit x) where
  -- the record that is cut at a clock
  abbrev cut : ℕ → Core S
  cut t = after_edit d x t

  abbrev stay : ℕ → ℕ → ℕ
  stay t m = kept (x.cycle m) t (x.timed m)

  -- what the history does in a clock of the record
  record IsDoneAt (m k c : ℕ) : Type 0 where
    steps_at : steps d h c m ≡ true
    done_at : done d h m c ≡ k
    reply_at : core_reply d x m k ≡ replies d h c m

  module _ (t : ℕ) (q : t ≤ limit) (w : IsDone d h (cut t)) (m : ℕ) (l : stay t m < x.timed m) (e : x.cycle m (stay t m) ≡ t) where
    told : done d h m t ≡ stay t m → core_reply d x m (stay t m) ≡ replies d h t m
    unfolding replies
    told k =
        let b = cut_marks d i limit x r t in
        let g = agrees_done d h (cut t) b w in
        let u = cut_time d i limit x r t h y w in
        let f = next_determined d i limit x r t m l e in
        let asked : List Access = core_accesses d x m (stay t m) in
        let popped : ℕ → ℕ = λ ch. core_tally d x m Pop ch (stay t m) in
        let o : ltb (stay t m) (x.emitted m) ≡ true = lt-ltb (stay t m) (x.emitted m) (omega (arith, r.within m)) in
        let found = earliest_right d h i y (view d (cut t)) g m t o f (cut_stuck d i limit x r t q) in
        let right : x.flags m (stay t m) ≡ possible_all d h t asked = sym (next_flags d i limit x r t m l e) ∙ found in
        let known : all_below (elements_timed d (cut t)) popped asked (new_flags d (cut t) m t) ≡ true =
        new_sure d i (cut t) m t f in
        let sure : all_below (elements_timed d (cut t)) popped asked (possible_all d h t asked) ≡ true = rw (← found) known in
        let fronts = core_fronts d h i y limit (cut t) b u m t k asked (i.owned m (x.state m (stay t m))) in
        let now = candidate_ready d h i y (view d (cut t)) g m t f in
        ap (replies_of (core_values d x) popped asked) right
        ∙ (replies_right d h t (elements_timed d (cut t)) (core_values d x) popped asked fronts sure
        ∙ ap (λ (z : S). map (reply_to d h t) (d.accesses m z)) (r.marks.own_step m (stay t m) (omega (arith, r.within m)) ∙ sym now))

    next_done : IsDoneAt m (stay t m) t
    next_done =
        let g = agrees_done d h (cut t) (cut_marks d i limit x r t) w in
        let f = next_determined d i limit x r t m l e in
        let k = candidate_done d h i y (view d (cut t)) g m t f in
        record { steps_at = candidate_steps d h i y (view d (cut t)) g m t f; done_at = k; reply_at = told k }

  -- so many clocks of the record are the history's
  abbrev AreDone : ℕ → Type 0
  AreDone t = (m k : ℕ) → k < stay t m → IsDoneAt m k (x.cycle m k)

  done_from : (t : ℕ) → AreDone t → IsDone d h (cut t)
  done_from t f =
      let same = λ (m k : ℕ) (l : k < stay t m). kept_same (x.cycle m) t (x.timed m) k l in
      record {
        within = λ m. omega (arith, stay_le d i limit x r t m, r.within m);
        steps_then = λ m k l. rw (same m k l) (f m k l).steps_at;
        done_then = λ m k l. rw (same m k l) (f m k l).done_at;
        reply_then = λ m k l. rw (same m k l) (f m k l).reply_at;
      }

  all_done : (t : ℕ) → t ≤ limit → AreDone t
  all_done zero q m k l = let z = kept_none (x.cycle m) (x.timed m) in absurd (omega arith)
  all_done (suc t) q m k l =
      let before = all_done t (omega arith) in
      elim (kept_more (x.cycle m) t (x.timed m) (rise d x r.right m) k l) [
        | inl w ↦ before m k w
        | inr (e, c) ↦
            let p : stay t m < x.timed m = omega (arith, stay_le d i limit x r (suc t) m) in
            let c' = subst (λ (z : ℕ). x.cycle m z ≡ t) e c in
            let n = next_done t (omega arith) (done_from t before) m p c' in
            subst (λ (z : ℕ). IsDoneAt m z (x.cycle m z)) (sym e) (subst (λ (z : ℕ). IsDoneAt m (stay t m) z) (sym c') n)
      ]

  -- so are all
  each_done : (m k : ℕ) → k < x.timed m → IsDoneAt m k (x.cycle m k)
  each_done m k l = all_done limit (omega arith) m k (rw (kept_all (x.cycle m) limit (x.timed m) (λ j p. r.below m j p)) l)

  pub right_agrees : IsAgreed d h limit x
  right_agrees =
      let w : IsDone d h x = record {
        within = r.within;
        steps_then = λ m k l. (each_done m k l).steps_at;
        done_then = λ m k l. (each_done m k l).done_at;
        reply_then = λ m k l. (each_done m k l).reply_at;
      } in
      record {
        marks = r.marks;
        time = time_from d h i y limit x r.marks w r.answered r.there r.below r.verified r.verified_answered r.plain;
      }
