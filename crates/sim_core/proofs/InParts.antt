-- The next mark of a list that is kept in its parts.
use Rattle.std.proofs.Common.{◌≡◌, refl, ap, subst, ℕ, zero, suc, ◌<◌, ◌≤◌, List, [], ◌∷◌, length, drop, get_or, arith, Some}
use Rattle.std.proofs.lemmas.Option.{slice_get-get_or}
use Rattle.std.specs.Prelude.{slice_get}
use Rattle.sim_core.specs.{few_step, Access, Advance, IsFew, MarkHead, AreParts, marks_in}
use Rattle.module_interp.specs.declared.marks.MarkHead.TheVariants.{Few, Whole}
use Rattle.flow_design.specs.declared.state.Advance.TheVariants.{Step}
use Rattle.sim_core.proofs.Posting.{drop_some}

-- where no head is left, no mark is
pub no_heads : {heads : List MarkHead} (accesses : List Access) (others : List Advance) → heads ≡ [] → marks_in heads accesses others ≡ []
unfolding marks_in
no_heads accesses others none = rw none refl

-- the next head, and those after it
module _ (heads : List MarkHead) (i : ℕ) (d : MarkHead) (inside : i < length heads) where
  next_head : drop i heads ≡ get_or heads i d ∷ drop (suc i) heads
  next_head = drop_some heads i (get_or heads i d) (slice_get-get_or heads i d inside)

  module _ (accesses : List Access) (others : List Advance) where
    pub next_parts : AreParts (drop i heads) accesses others → AreParts (get_or heads i d ∷ drop (suc i) heads) accesses others
    next_parts = subst (λ (hs : List MarkHead). AreParts hs accesses others) next_head

    pub next_marks : marks_in (drop i heads) accesses others ≡ marks_in (get_or heads i d ∷ drop (suc i) heads) accesses others
    next_marks = ap (λ (hs : List MarkHead). marks_in hs accesses others) next_head

-- a step of few accesses, and what is left after it
module _ (gap first_query count : ℕ) (heads : List MarkHead) (accesses : List Access) (others : List Advance) where
  pub few_inside : AreParts (Few gap first_query count ∷ heads) accesses others
      → (count ≤ length accesses) × (IsFew (few_step gap first_query count accesses) × AreParts heads (drop count accesses) others)
  unfolding AreParts
  few_inside parts = parts

  pub few_marks : marks_in (Few gap first_query count ∷ heads) accesses others
      ≡ Step (few_step gap first_query count accesses) ∷ marks_in heads (drop count accesses) others
  unfolding marks_in
  few_marks = refl

-- a mark that is kept whole, and what is left after it
module _ (heads : List MarkHead) (accesses : List Access) where
  pub whole_inside : (others : List Advance) (taken : ℕ) → AreParts (Whole ∷ heads) accesses (drop taken others) → taken < length others
  unfolding AreParts
  whole_inside [] zero parts = absurd parts
  whole_inside [] (suc taken) parts = absurd parts
  whole_inside (mark ∷ others) zero parts = omega arith
  whole_inside (mark ∷ others) (suc taken) parts = let less = whole_inside others taken parts in omega arith

  pub whole_parts : (others : List Advance) (taken : ℕ) (mark : Advance) → slice_get others taken ≡ Some mark
      → AreParts (Whole ∷ heads) accesses (drop taken others) → AreParts heads accesses (drop (suc taken) others)
  unfolding AreParts
  whole_parts others taken mark there parts = rw (drop_some others taken mark there) at parts

  pub whole_marks : (others : List Advance) (taken : ℕ) (mark : Advance) → slice_get others taken ≡ Some mark
      → marks_in (Whole ∷ heads) accesses (drop taken others) ≡ mark ∷ marks_in heads accesses (drop (suc taken) others)
  unfolding marks_in
  whole_marks others taken mark there = rw (drop_some others taken mark there) refl
