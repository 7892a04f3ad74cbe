-- The lowered depths are done in time, and no lower ones are.
use Rattle.std.proofs.Common.{◌≡◌, ℕ, zero, suc, ◌<◌, ◌≤◌, true, false, List, length, refl, sym, ◌∙◌, ap, subst, arith, inl, inr}
use Rattle.std.proofs.{lemmas.Bool.cases_Bool, lemmas.Bool.cases_eq, lemmas.Bool.cases_lt, Math.Seq.set-set}
use Rattle.std.proofs.lemmas.List.{get_or-set_same, get_or-set_other, set-get_or, ext_get_or}
use Rattle.std.specs.Prelude.{slice_index, slice_set}
use Rattle.flow_design.specs.declared.limits.TheConstants.{FIFO_DEPTH}
use Rattle.least_depths.specs.{Plan, FitsEngine, is_fifo, kind_at, with_depth, verdict, with_depths, AreDepths, AreDeeper, AsksNothing}
use Rattle.least_depths.specs.{IsDoneBy, Found, is_done_by, is_in_time, least_for, lowered, AreLeast}
use Rattle.depth_order.proofs.Plans.{fifo_inside}
use Rattle.least_depths.proofs.Halves.{found_within, found_fits, none_fits_below}
use Rattle.least_depths.proofs.Depths.{test_done_by, done_by_test, no_later}
use Rattle.path_check.proofs.Depths.{depth_inside, set_depths, set_deeper, set_lower, own_depths}

-- ---- one FIFO lowered

-- the plan with other depths, that are no greater
pub record IsLower (p : Plan) (q : Plan) : Type 0 where
  pub same : q ≡ with_depths p q.depths
  pub depths : AreDepths p q.depths
  pub lower : AreDeeper p q.depths p.depths

-- where greater depths of the FIFO are done in time too
pub in_time_more : (p : Plan) → FitsEngine p → AsksNothing p → (ds : List ℕ) → AreDepths p ds → (f : ℕ) → is_fifo (kind_at p f) ≡ true
    → (clock a b : ℕ) → 1 ≤ a → a ≤ b → b ≤ FIFO_DEPTH → is_in_time (with_depths p ds) clock f a ≡ true
    → is_in_time (with_depths p ds) clock f b ≡ true
in_time_more p h none ds x f e clock a b low l high t =
    done_by_test clock (verdict (with_depths p (slice_set ds f b)))
    (no_later p h none (slice_set ds f a) (slice_set ds f b) (set_depths p ds f a x e low (omega arith))
    (set_depths p ds f b x e (omega arith) high)
    (set_deeper p ds ds f a b x x e (λ g k. omega arith) l) clock
    (test_done_by clock (verdict (with_depths p (slice_set ds f a))) t))

-- what is found for a FIFO of lower depths
module _ (p : Plan) (h : FitsEngine p) (ds : List ℕ) (x : AreDepths p ds) (f : ℕ) (e : is_fifo (kind_at p f) ≡ true) (clock : ℕ) where
  abbrev found : Found
  found = least_for (with_depths p ds) clock f

  within : (1 ≤ found.number) × (found.number ≤ slice_index ds f)
  within = let low = x.least f e in
      found_within (is_in_time (with_depths p ds) clock f) (slice_index ds f) 1 (slice_index ds f) low (omega arith)

  pub found_depths : AreDepths p (slice_set ds f found.number)
  found_depths = let (low, high) = within in let most = x.most f e in set_depths p ds f found.number x e low (omega arith)

  pub found_lower : AreDeeper p (slice_set ds f found.number) ds
  found_lower = set_lower p ds f found.number x e within.1

  -- where the depths are done in time, so are those with what is found
  pub found_in_time : IsDoneBy clock (verdict (with_depths p ds)) → IsDoneBy clock (verdict (with_depths p (slice_set ds f found.number)))
  found_in_time done =
      let low = x.least f e in
      let at : is_in_time (with_depths p ds) clock f (slice_index ds f) ≡ true =
      subst (λ (es : List ℕ). is_done_by clock (verdict (with_depths p es)) ≡ true) (sym (set-get_or ds f 0))
      (done_by_test clock (verdict (with_depths p ds)) done) in
      test_done_by clock _
      (found_fits (is_in_time (with_depths p ds) clock f) (slice_index ds f) 1 (slice_index ds f) low (omega arith) at)

  -- with a lesser depth they are not
  pub found_least : AsksNothing p → (d : ℕ) → 1 ≤ d → d < found.number → IsDoneBy clock (verdict (with_depths p (slice_set ds f d))) → ⊥
  found_least none d low below done =
      let first = x.least f e in
      let unfit = none_fits_below (is_in_time (with_depths p ds) clock f) FIFO_DEPTH (in_time_more p h none ds x f e clock)
      (slice_index ds f) 1 (slice_index ds f) first (omega arith) (omega arith) (x.most f e) d low below in
      let fit = done_by_test clock (verdict (with_depths p (slice_set ds f d))) done in
      absurd (cc)

-- ---- the first channels lowered

-- with any lesser depth of one of the first n channels the plan is not done in time
abbrev pub HasNoneBelow : Plan → ℕ → ℕ → List ℕ → Type 0
HasNoneBelow p clock n ds = (f : ℕ) → f < n → is_fifo (kind_at p f) ≡ true → (d : ℕ) → 1 ≤ d → d < slice_index ds f
    → IsDoneBy clock (verdict (with_depths p (slice_set ds f d))) → ⊥

pub record IsLowered (p : Plan) (clock n : ℕ) (q : Plan) : Type 0 where
  pub lower : IsLower p q
  pub done : IsDoneBy clock (verdict p) → IsDoneBy clock (verdict q)
  pub least : AsksNothing p → HasNoneBelow p clock n q.depths

lower_more : (p : Plan) (ds es : List ℕ) → AreDeeper p es ds → AreDeeper p ds p.depths → AreDeeper p es p.depths
lower_more p ds es a b f e = let x = a f e in let y = b f e in omega arith

-- a channel that is no FIFO
past_other : (p : Plan) (clock n : ℕ) (q : Plan) → is_fifo (kind_at p n) ≡ false → IsLowered p clock n q → IsLowered p clock (suc n) q
past_other p clock n q source x = record {
  lower = x.lower;
  done = x.done;
  least = λ none f l e. elim (cases_lt f n) [
    | inl before ↦ x.least none f before e
    | inr at ↦ let same : f ≡ n = omega arith in let other = ap (λ (k : ℕ). is_fifo (kind_at p k)) same in absurd (cc)
  ];
}

-- the depth of one FIFO more
past_fifo : (p : Plan) → FitsEngine p → (clock n : ℕ) (ds : List ℕ) → is_fifo (kind_at p n) ≡ true
    → IsLowered p clock n (with_depths p ds)
    → IsLowered p clock (suc n) (with_depths p (slice_set ds n (least_for (with_depths p ds) clock n).number))
past_fifo p h clock n ds e x =
    let a = x.lower.depths in
    let b = found_depths p h ds a n e clock in
    let less = found_lower p h ds a n e clock in
    let number = (least_for (with_depths p ds) clock n).number in
    record {
      lower = record { same = refl; depths = b; lower = lower_more p ds (slice_set ds n number) less x.lower.lower };
      done = λ done. found_in_time p h ds a n e clock (x.done done);
      least = λ none f l k d low below done. elim (cases_eq f n) [
        | inl same ↦
            let at = get_or-set_same ds n number 0 (depth_inside p ds n a e) in
            let here = ap (λ (g : ℕ). slice_index (slice_set ds n number) g) same in
            let twice = ap (λ (g : ℕ). verdict (with_depths p (slice_set (slice_set ds n number) g d))) same
            ∙ ap (λ (es : List ℕ). verdict (with_depths p es)) (set-set ds n number d) in
            found_least p h ds a n e clock none d low (omega arith) (subst (IsDoneBy clock) twice done)
        | inr other ↦
            let at = get_or-set_other ds n f number 0 other in
            let most = a.most f k in
            x.least none f (omega arith) k d low (omega arith)
            (no_later p h none (slice_set (slice_set ds n number) f d) (slice_set ds f d)
            (set_depths p (slice_set ds n number) f d b k low (omega arith)) (set_depths p ds f d a k low (omega arith))
            (set_deeper p (slice_set ds n number) ds f d d b a k less (omega arith)) clock done)
      ];
    }

pub lowered_first : (p : Plan) → FitsEngine p → (clock n : ℕ) → IsLowered p clock n (lowered p clock n).plan
unfolding lowered
lowered_first p h clock zero = record {
  lower = record { same = refl; depths = own_depths p h; lower = λ f e. omega arith };
  done = λ done. done;
  least = λ none f l. absurd (omega arith);
}
lowered_first p h clock (suc n) =
    let x = lowered_first p h clock n in
    elim (cases_Bool (is_fifo (kind_at p n))) [
      | inl e ↦
          let same = x.lower.same in
          let at = subst (IsLowered p clock n) same x in
          let more = past_fifo p h clock n (lowered p clock n).plan.depths e at in
          rw e (subst (λ (q : Plan). IsLowered p clock (suc n) (with_depth q n (least_for q clock n).number)) (sym same) more)
      | inr e ↦ rw e (past_other p clock n (lowered p clock n).plan e x)
    ]

-- ---- all channels lowered

-- lower depths that are done in time are these
pub none_lower : (p : Plan) → FitsEngine p → AsksNothing p → (clock : ℕ) (ds : List ℕ) → AreDepths p ds
    → HasNoneBelow p clock (length p.design.channels) ds → AreLeast p clock ds
none_lower p h none clock ds a least es b less done = ext_get_or 0 es ds (b.count ∙ sym a.count)
    (λ f l. elim (cases_Bool (is_fifo (kind_at p f))) [
      | inr source ↦ b.others f source ∙ sym (a.others f source)
      | inl e ↦ elim (cases_lt (slice_index es f) (slice_index ds f)) [
        | inr as_deep ↦ let lower = less f e in omega arith
        | inl below ↦
            let low = b.least f e in
            let most = b.most f e in
            absurd (least f (fifo_inside p f e) e (slice_index es f) low below
            (no_later p h none es (slice_set ds f (slice_index es f)) b (set_depths p ds f (slice_index es f) a e low most)
            (subst (λ (fs : List ℕ). AreDeeper p fs (slice_set ds f (slice_index es f))) (set-get_or es f 0)
            (set_deeper p es ds f (slice_index es f) (slice_index es f) b a e less (omega arith))) clock done))
      ]
    ])
