-- Before an edit, each step of an agreeing core is right, as far as the core has all that the history did.
use Rattle.std.proofs.Common.{◌≡◌, ℕ, ◌+◌, ◌<◌, ◌≤◌, max, Bool, true, false, List, [], ◌∷◌, map, sym, refl, ap, ap₂, ◌∙◌, subst, arith}
use Rattle.std.proofs.Common.{Some}
use Rattle.std.proofs.lemmas.Bool.{lt-ltb}
use Rattle.flow_word.specs.declared.access.Side.TheVariants.{Pop}
use Rattle.cycle_changes.specs.{Design, IsDesign, Reply, steps, done, from, tally, AreOwnMarks, FlagsFit, possible_all, kept, after_edit}
use Rattle.cycle_changes.specs.{Trace, IsHistory, replies, reply_to, known_of, unblocked_clock, flags_at, to_clock, bound, core_accesses}
use Rattle.cycle_changes.specs.{core_reply, core_tally, core_values, replies_of, view, IsRight, known_at}
use Rattle.event_timing.specs.{Access, Core.Core}
use Rattle.event_timing.proofs.{Steps.done_mono, Steps.same_clock, Earliest.candidate_can, Earliest.flags_late, Earliest.step_determined}
use Rattle.event_timing.proofs.{Fronts.IsDone, Fronts.agrees_done, Editing.kept_le, Editing.kept_below, Editing.kept_same}
use Rattle.event_timing.proofs.Candidate.{first_means, candidate_done, candidate_steps, candidate_parts, candidate_ready}
use Rattle.cycle_changes.proofs.Keeping.{Rise, kept_beyond, from_kept, kept_fewer}
use Rattle.cycle_changes.proofs.{Marks.marks_cut, Cutting.IsCut, Cutting.cut_known, Cutting.bound_up, Cutting.flags_cut}

-- ---- its outcomes

first_possible : List Reply → Bool
first_possible [] = false
first_possible (r ∷ rs) = r.possible

others : List Reply → List Reply
others [] = []
others (r ∷ rs) = rs

-- replies tell the flags
flags_told : {S : Type 0} → (d : Design S) (h : Trace S) (c : ℕ) (V : ℕ → List ℕ) (t : ℕ → ℕ) (xs : List Access) (bs : List Bool)
    → FlagsFit xs bs → replies_of V t xs bs ≡ map (reply_to d h c) xs → bs ≡ possible_all d h c xs
unfolding others first_possible
flags_told {S} d h c V t [] [] f e = refl
flags_told {S} d h c V t [] (b ∷ bs) f e = absurd f
flags_told {S} d h c V t (a ∷ xs) [] f e = absurd f
flags_told {S} d h c V t (a ∷ xs) (b ∷ bs) (f, fs) e =
    ap₂ (λ (z : Bool) (zs : List Bool). z ∷ zs) (ap first_possible e) (flags_told d h c V t xs bs fs (ap others e))

-- ---- the steps of a core before a clock

module _ {S : Type 0} (d : Design S) (h : Trace S) (i : IsDesign d) (y : IsHistory d h) (x : Core S) (b : AreOwnMarks d x)
    (rise : (m : ℕ) → Rise (x.cycle m) (x.timed m)) (t : ℕ) (w : IsDone d h (after_edit d x t))
    (all : (m : ℕ) → done d h m t ≤ kept (x.cycle m) t (x.timed m)) where
  module _ (c : ℕ) (l : c ≤ t) where
    abbrev cut : Core S
    cut = after_edit d x c

    abbrev stay : ℕ → ℕ
    stay m = kept (x.cycle m) c (x.timed m)

    -- what stays at the earlier clock stays at the later one
    stays : (m k : ℕ) → k < stay m → (k < kept (x.cycle m) t (x.timed m)) × (x.cycle m k < c)
    stays m k q = kept_fewer (x.cycle m) c t (x.timed m) l (rise m) k q

    then_cycle : (m k : ℕ) → k < kept (x.cycle m) t (x.timed m) → (after_edit d x t).cycle m k ≡ x.cycle m k
    then_cycle m k q = kept_same (x.cycle m) t (x.timed m) k q

    cut_done : IsDone d h cut
    cut_done =
        let same = λ (m k : ℕ) (q : k < stay m). then_cycle m k (stays m k q).0 ∙ sym (kept_same (x.cycle m) c (x.timed m) k q) in
        record {
          within = λ m. grind (arith, λ (q : x.emitted m < stay m). (stays m (x.emitted m) q).0, w.within m);
          steps_then = λ m k q. rw (← same m k q) (w.steps_then m k (stays m k q).0);
          done_then = λ m k q. rw (← same m k q) (w.done_then m k (stays m k q).0);
          reply_then = λ m k q. rw (← same m k q) (w.reply_then m k (stays m k q).0);
        }

    -- nobody is ahead
    none_ahead : (m : ℕ) → done d h m c ≤ stay m
    none_ahead m =
        let k : ℕ = stay m in
        let up = done_mono d h m c t l in
        let far = kept_beyond (x.cycle m) c (x.timed m) k (omega arith) in
        grind (arith, all m, kept_le (x.cycle m) t (x.timed m), then_cycle m k, w.done_then m k, done_mono d h m c (x.cycle m k))

  -- a step is the first that does not stay, where the record is cut at its own cycle
  here : (m k : ℕ) → k < x.timed m → kept (x.cycle m) (x.cycle m k) (x.timed m) ≡ k
  here m k q =
      let c : ℕ = x.cycle m k in
      let n : ℕ = kept (x.cycle m) c (x.timed m) in
      let far = kept_beyond (x.cycle m) c (x.timed m) n (omega arith) in
      grind (arith, kept_le (x.cycle m) c (x.timed m), rise m n k, kept_below (x.cycle m) c (x.timed m) (rise m) k)

  -- each step is right
  pub begun_right : (m k : ℕ) → k < kept (x.cycle m) t (x.timed m) → IsRight d x m k
  unfolding replies
  begun_right m k q =
      let c : ℕ = x.cycle m k in
      let l : c < t = (kept_fewer (x.cycle m) t t (x.timed m) (omega arith) (rise m) k q).1 in
      let l' : c ≤ t = omega arith in
      let k' : k < x.timed m = omega (arith, kept_le (x.cycle m) t (x.timed m)) in
      let e : kept (x.cycle m) c (x.timed m) ≡ k = here m k k' in
      let v = view d (after_edit d x c) in
      let g = agrees_done d h (after_edit d x c) (marks_cut d x b c) (cut_done c l') in
      let same = then_cycle c l' m k q in
      let st = subst (λ (z : ℕ). steps d h z m ≡ true) same (w.steps_then m k q) in
      let dn : done d h m c ≡ k = subst (λ (z : ℕ). done d h m z ≡ k) same (w.done_then m k q) in
      let rp = subst (λ (z : ℕ). core_reply d x m k ≡ replies d h z m) same (w.reply_then m k q) in
      let o : v.more m ≡ true = lt-ltb (kept (x.cycle m) c (x.timed m)) (x.emitted m) (omega (arith, e, w.within m)) in
      let n = none_ahead c l' in
      let (u, f, early) = step_determined d h i y v g m c n st (dn ∙ sym e) o in
      let clocks : u ≡ c = same_clock d h m u c (candidate_steps d h i y v g m u f) st
      (candidate_done d h i y v g m u f ∙ (e ∙ sym dn)) in
      let (o', p, bd, mx) = candidate_parts d v m u f in
      let cuts : (a : Access) → IsCut c (known_of d v m a) (known_at d x m (kept (x.cycle m) c (x.timed m)) a) =
      λ a. cut_known d i x c a.side a.channel
      (tally (core_accesses d x m) (core_reply d x m) a.side a.channel (kept (x.cycle m) c (x.timed m))) in
      let j : ℕ = kept (x.cycle m) c (x.timed m) in
      let asked : List Access = core_accesses d x m j in
      let whole = bound_up c (known_of d v m) (known_at d x m j) cuts asked p bd in
      let reached : unblocked_clock v m ≡ from (x.cycle m) j + x.wait m j =
      ap (λ (z : ℕ). z + x.wait m j) (from_kept (x.cycle m) c (x.timed m) j (omega arith)) in
      let clock : to_clock (from (x.cycle m) j + x.wait m j) (bound (known_at d x m j) asked) ≡ Some c =
      ap (to_clock (from (x.cycle m) j + x.wait m j)) whole
      ∙ ap (λ (z : ℕ). Some z) (ap (λ (z : ℕ). max z p) (sym reached) ∙ (mx ∙ clocks)) in
      let can = candidate_can d h i y v g m c o (f ∙ ap (λ (z : ℕ). Some z) clocks) in
      let late = flags_late d h v c (known_of d v m) asked n (first_means d h i y v g m c o (dn ∙ sym e)) can in
      let found : flags_at (known_at d x m j) c asked ≡ possible_all d h c asked =
      sym (flags_cut c (known_of d v m) (known_at d x m j) cuts asked) ∙ late in
      let stands = candidate_ready d h i y v g m c (f ∙ ap (λ (z : ℕ). Some z) clocks) in
      let state : x.state m k ≡ h.state c m =
      subst (λ (z : ℕ). x.state m z ≡ h.state c m) e
      (b.own_step m j (omega (arith, e, w.within m)) ∙ sym stands) in
      let told = flags_told d h c (core_values d x) (λ ch. core_tally d x m Pop ch k)
      (core_accesses d x m k) (x.flags m k) (b.fit m k (omega (arith, w.within m)))
      (rp ∙ ap (λ (s : S). map (reply_to d h c) (d.accesses m s)) (sym state)) in
      record {
        cycle = subst (λ (z : ℕ). to_clock (from (x.cycle m) z + x.wait m z) (bound (known_at d x m z) (core_accesses d x m z)) ≡ Some c) e
            clock;
        outcomes = subst (λ (z : ℕ). flags_at (known_at d x m z) c (core_accesses d x m z) ≡ possible_all d h c (core_accesses d x m z)) e
            found ∙ sym told;
      }
