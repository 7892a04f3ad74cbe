-- The next depths above those with which a plan is late are a cut.
use Rattle.std.proofs.Common.{◌≡◌, ℕ, ◌<◌, ◌≤◌, true, false, List, length, ◌∙◌, arith, inl, inr}
use Rattle.std.proofs.{lemmas.Bool.cases_Bool, lemmas.Bool.cases_lt, lemmas.List.get_or_past}
use Rattle.std.specs.Prelude.{slice_index, slice_index_or, All}
use Rattle.flow_design.specs.declared.limits.TheConstants.{FIFO_DEPTH}
use Rattle.flow_design.specs.declared.report.Verdict.TheVariants.{Done, Deadlock, Cycles, Ops}
use Rattle.depth_cuts.specs.{Plan, Verdict, is_fifo, kind_at, FitsEngine, verdict, with_depths, AreDepths, AreDeeper, AsksNothing, IsDoneBy}
use Rattle.depth_cuts.specs.{Engine, HoldsEnd, IsTried, Need, Cut, IsUnmet, AreRaised, IsNextNeed, AreNext, AreDeepest, IsNeedOf, IsCutFor}
use Rattle.depth_order.proofs.{Order.never_slower, Plans.fifo_inside}
use Rattle.path_check.proofs.Shown.{done_form}
use Rattle.depth_cuts.proofs.Needs.{met_or_short}

-- ---- done by a clock

done_later : (v : Verdict) (first clock : ℕ) → first ≤ clock → IsDoneBy first v → IsDoneBy clock v
done_later (Done end) first clock l done = omega arith
done_later (Deadlock c) first clock l done = done
done_later (Cycles c) first clock l done = done
done_later (Ops c) first clock l done = done

still_done : (p : Plan) (zs es : List ℕ) → FitsEngine p → AsksNothing p → (clock : ℕ) → AreDepths p zs → AreDepths p es
    → AreDeeper p es zs → IsDoneBy clock (verdict (with_depths p es)) → IsDoneBy clock (verdict (with_depths p zs))
still_done p zs es fits quiet clock z e lower done =
    let (first, is, early) = done_form clock (verdict (with_depths p es)) done in
    done_later (verdict (with_depths p zs)) first clock early (never_slower p fits quiet es zs e z lower first is)

-- ---- the cut

module _ (p : Plan) (ds zs : List ℕ) (a : AreDepths p ds) (r : AreRaised ds zs) where
  fifo_within : (f : ℕ) → is_fifo (kind_at p f) ≡ true → f < length ds
  fifo_within f e = let inside = fifo_inside p f e in let count = a.count in omega arith

  none_past : (f : ℕ) → is_fifo (kind_at p f) ≡ false → slice_index zs f ≡ 0
  none_past f e = elim (cases_lt f (length ds)) [
    | inl l ↦ (r.each f l).zero (a.others f e)
    | inr l ↦ let count = r.count in get_or_past zs f 0 (omega arith)
  ]

  -- the raised depths are depths for the plan's FIFOs
  pub raised_depths : AreDepths p zs
  raised_depths = record {
    count = r.count ∙ a.count;
    least = λ f e. let up = (r.each f (fifo_within f e)).up in let least = a.least f e in omega arith;
    most = λ f e. (r.each f (fifo_within f e)).most;
    others = none_past;
  }

  -- and none is greater than the deepest
  pub raised_lower : AreDeepest p → AreDeeper p zs p.depths
  raised_lower deepest f e = let most = (r.each f (fifo_within f e)).most in let all = deepest f e in omega arith

  some_fifo : (f : ℕ) → 0 < slice_index zs f → is_fifo (kind_at p f) ≡ true
  some_fifo f some = elim (cases_Bool (is_fifo (kind_at p f))) [
    | inl e ↦ e
    | inr e ↦ let none = none_past f e in absurd (omega arith)
  ]

  need_of : (need : Need) → IsNextNeed zs need → IsNeedOf p need
  need_of need n = let some = n.some in let next = n.next in record {
    fifo = some_fifo need.channel n.some;
    least = omega arith;
    most = n.most;
  }

  module _ (cut : Cut) (n : AreNext zs (length zs) cut.needs) where
    unmet : IsUnmet cut ds
    unmet k d l =
        let need = slice_index_or cut.needs k d in
        let its : IsNextNeed zs need = n.each k d l in
        let next = its.next in
        let up = (r.each need.channel (fifo_within need.channel (some_fifo need.channel its.some))).up in
        omega arith

    -- what falls short of each need is no deeper
    short_lower : (es : List ℕ) → AreDepths p es → All (λ m. slice_index es m.channel < m.depth) cut.needs → AreDeeper p es zs
    short_lower es b short f e = elim (cases_lt (slice_index zs f) FIFO_DEPTH) [
      | inr l ↦ let most = b.most f e in omega arith
      | inl l ↦
          let count = r.count in
          let within = fifo_within f e in
          let some = raised_depths.least f e in
          let (k, need, inside, is, channel) = n.all f (omega arith) (omega arith) l in
          let its : IsNextNeed zs need = rw is at (n.each k need inside) in
          let below : slice_index es need.channel < need.depth = rw is at (short k need inside) in
          let next = its.next in
          let here = rw channel at next in
          let there = rw channel at below in
          omega arith
    ]

    pub cut_of : FitsEngine p → AsksNothing p → (clock : ℕ) → (IsDoneBy clock (verdict (with_depths p zs)) → ⊥) → IsCutFor p clock ds cut
    cut_of fits quiet clock late = record {
      unmet = unmet;
      needs = λ k need l. need_of _ (n.each k need l);
      needed = λ es b done. elim (met_or_short es cut.needs) [
        | inl met ↦ met
        | inr short ↦ absurd (late (still_done p zs es fits quiet clock raised_depths b (short_lower es b short) done))
      ];
    }

-- ---- what a path shows

pub cut_shown : (p : Plan) (e : Engine) → HoldsEnd p e → AsksNothing p → AreDeepest p
    → (ds zs : List ℕ) → AreDepths p ds → AreRaised ds zs → (cut : Cut) → AreNext zs (length zs) cut.needs → (clock : ℕ)
    → (IsTried p e zs → IsDoneBy clock (verdict (with_depths p zs)) → ⊥) → IsCutFor p clock ds cut
cut_shown p e f quiet deepest ds zs a r cut n clock late =
    cut_of p ds zs a r cut n f.fits quiet clock
    (late (record { finished = f; quiet = quiet; fit = raised_depths p ds zs a r; lower = raised_lower p ds zs a r deepest }))
