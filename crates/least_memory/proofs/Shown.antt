-- Floors and cuts that are shown to be needed.
use Rattle.std.proofs.Common.{◌≡◌, ℕ, ◌+◌, ◌<◌, inl, inr, true, false, min, max, List, length, refl, sym, ◌∙◌, ap, subst, arith}
use Rattle.std.proofs.Common.{length-append}
use Rattle.std.proofs.lemmas.Bool.{cases_Bool, cases_lt, cases_eq}
use Rattle.std.proofs.lemmas.List.{get_or-set_same, get_or-set_other, get_or_append_left}
use Rattle.std.proofs.{Math.Seq.get_or-append_seam, lemmas.List.Elements.All-push}
use Rattle.std.specs.Prelude.{slice_index, slice_set, ◌++◌, ◌∷◌, []}
use Rattle.flow_design.specs.declared.limits.TheConstants.{FIFO_DEPTH}
use Rattle.least_memory.specs.{Plan, Verdict, is_fifo, kind_at, FitsEngine, verdict, with_depths, AreDepths, AreDeeper, AsksNothing}
use Rattle.least_memory.specs.{IsDoneBy, IsLateBelow, is_done_by, Cut, Demands, AreNext, AreRaised, AreDeepest, IsCutFor, AreNeeded}
use Rattle.least_memory.specs.{IsFloor, IsNeeded}
use Rattle.path_check.proofs.Depths.{own_depths, set_depths, depth_inside}
use Rattle.least_depths.proofs.Depths.{no_later, done_by_test}
use Rattle.depth_cuts.proofs.Needed.{cut_of}

-- ---- floors

pub floor_shown : (p : Plan) → FitsEngine p → AsksNothing p → AreDeepest p → (clock f d floor : ℕ) → is_fifo (kind_at p f) ≡ true
    → IsLateBelow p clock f d → floor ≡ min (max d 1) FIFO_DEPTH → IsFloor p clock f floor
floor_shown p fits none deepest clock f d floor fifo late is = record {
  least = λ _. omega arith;
  most = λ _. omega arith;
  other = λ it. absurd (cc);
  needed = λ es a done. elim (cases_lt (slice_index es f) floor) [
    | inr enough ↦ enough
    | inl below ↦
        let own = own_depths p fits in
        let some = a.least f fifo in
        let most = a.most f fifo in
        let lone = set_depths p p.depths f (slice_index es f) own fifo some most in
        let deeper : AreDeeper p es (slice_set p.depths f (slice_index es f)) = λ g e. elim (cases_eq g f) [
          | inl same ↦
              rw same (rw (get_or-set_same p.depths f (slice_index es f) 0 (depth_inside p p.depths f own fifo)) (omega arith))
          | inr other ↦
              let deep = deepest g e in
              let its = a.most g e in
              rw (get_or-set_other p.depths f g (slice_index es f) 0 other) (omega arith)
        ] in
        absurd (late (slice_index es f) some most (omega arith)
        (no_later p fits none es (slice_set p.depths f (slice_index es f)) a lone deeper clock done))
  ];
}

-- ---- cuts

pub late_needed : (p : Plan) (clock : ℕ) (ds : List ℕ) (cut : Cut) → IsCutFor p clock ds cut → IsNeeded p clock cut
late_needed p clock ds cut x = record { needs = x.needs; needed = x.needed }

own_raised : (p : Plan) → FitsEngine p → (ds : List ℕ) → AreDepths p ds → AreRaised ds ds
own_raised p fits ds a = record {
  count = refl;
  few = let count = a.count in let few = fits.channel_count in omega arith;
  each = λ f l. record {
    up = omega arith;
    most = elim (cases_Bool (is_fifo (kind_at p f))) [
      | inl e ↦ a.most f e
      | inr e ↦ let none = a.others f e in omega arith
    ];
    zero = λ e. e;
  };
}

-- of depths that are not in time some FIFO has to be deeper
pub deeper_needed : (p : Plan) → FitsEngine p → AsksNothing p → (clock : ℕ) (ds : List ℕ) → AreDepths p ds → (cut : Cut)
    → AreNext ds (length ds) cut.needs → (v : Verdict) → v ≡ verdict (with_depths p ds) → is_done_by clock v ≡ false
    → IsNeeded p clock cut
deeper_needed p fits none clock ds a cut next v told late =
    late_needed p clock ds cut (cut_of p ds ds a (own_raised p fits ds a) cut next fits none clock (λ done.
    let t = done_by_test clock v (subst (IsDoneBy clock) (sym told) done) in
    absurd (cc)))

-- one cut more
pub one_more_needed : (p : Plan) (clock : ℕ) (old new : Demands) (cut : Cut) → AreNeeded p clock old → IsNeeded p clock cut
    → new ≡ record old { cuts = old.cuts ++ cut ∷ [] } → AreNeeded p clock new
one_more_needed p clock old new cut h n e = subst (AreNeeded p clock) (sym e) (record {
  widths = h.widths;
  narrow = h.narrow;
  floors = h.floors;
  cuts = All-push (IsNeeded p clock) old.cuts cut h.cuts n;
})

-- ---- numbers

-- the verdict of a run of the plan with these depths
pub run_told : (p q r : Plan) (ds : List ℕ) (v : Verdict) → q ≡ with_depths p ds → r ≡ q → v ≡ verdict r → v ≡ verdict (with_depths p ds)
run_told p q r ds v is ran told = told ∙ ap verdict (ran ∙ is)

-- one floor more
pub one_more_floor : (p : Plan) (clock : ℕ) (old new : List ℕ) (f floor : ℕ) → length old ≡ f
    → ((g : ℕ) → g < f → IsFloor p clock g (slice_index old g)) → IsFloor p clock f floor → new ≡ old ++ floor ∷ []
    → (length new ≡ f + 1) × ((g : ℕ) → g < f + 1 → IsFloor p clock g (slice_index new g))
one_more_floor p clock old new f floor count each here e = (
  ap length e ∙ (length-append old (floor ∷ []) ∙ omega arith),
  λ g l. elim (cases_lt g f) [
    | inl below ↦
        let same : slice_index new g ≡ slice_index old g =
        ap (λ (xs : List ℕ). slice_index xs g) e ∙ get_or_append_left old (floor ∷ []) 0 g (omega arith) in
        subst (IsFloor p clock g) (sym same) (each g below)
    | inr last ↦
        let at : g ≡ length old = omega arith in
        let same : slice_index new g ≡ floor =
        ap (λ (xs : List ℕ). slice_index xs g) e ∙ (ap (slice_index (old ++ floor ∷ [])) at ∙ get_or-append_seam old floor [] 0) in
        let is : g ≡ f = omega arith in
        subst (IsFloor p clock g) (sym same) (subst (λ (k : ℕ). IsFloor p clock k floor) (sym is) here)
  ],
)
