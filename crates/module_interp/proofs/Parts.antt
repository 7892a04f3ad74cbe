-- One more mark among the parts of a list of marks.
use Rattle.std.proofs.Common.{◌≡◌, refl, ap, ℕ, suc, Bool, List, [], ◌∷◌, ◌++◌, length, drop, arith}
use Rattle.std.proofs.Math.Seq.{take-length}
use Rattle.std.proofs.lemmas.List.{take-append-le, drop-append-le, drop_all, length-append}
use Rattle.module_interp.specs.{Access, Plan, Advance, Own, IsFew, MarkHead, ModuleRun, StandsAt, few_step, marks_in, AreParts, IsEmitted}
use Rattle.module_interp.specs.declared.marks.MarkHead.TheVariants.{Few, Whole}
use Rattle.flow_design.specs.declared.state.Advance.TheVariants.{Step}

-- the parts hold one mark more, at the end
pub record IsOneMore (heads : List MarkHead) (accesses : List Access) (others : List Advance) (old : List Advance) (mark : Advance) : Type 0
  where
    pub parts : AreParts heads accesses others
    pub marks : marks_in heads accesses others ≡ old ++ mark ∷ []

pub no_parts : AreParts [] [] []
unfolding AreParts
no_parts = (refl, refl)

pub no_marks : marks_in [] [] [] ≡ []
unfolding marks_in
no_marks = refl

-- a step of few accesses more
pub few_more : (heads : List MarkHead) (accesses : List Access) (others : List Advance) → AreParts heads accesses others
    → (gap first_query : ℕ) (new : List Access) → IsFew (record { gap = gap; accesses = new; first_query = first_query })
    → IsOneMore (heads ++ Few gap first_query (length new) ∷ []) (accesses ++ new) others (marks_in heads accesses others)
    (Step (record { gap = gap; accesses = new; first_query = first_query }))
unfolding marks_in AreParts
few_more [] accesses others (none, no_others) gap first_query new few =
    let whole = take-length new in
    rw none record {
      parts = (omega arith, (rw whole few, (drop_all (length new) new (omega arith), no_others)));
      marks = ap (λ (xs : List Access). Step (record { gap = gap; accesses = xs; first_query = first_query }) ∷ []) whole;
    }
few_more (Few g f n ∷ heads) accesses others (inside, (is_few, parts)) gap first_query new few =
    let next = few_more heads (drop n accesses) others parts gap first_query new few in
    let same = take-append-le n accesses new inside in
    let rest = drop-append-le n accesses new inside in
    record {
      parts = (omega (arith, length-append accesses new), (rw same is_few, rw rest next.parts));
      marks = rw (same, rest) (ap (λ (xs : List Advance). Step (few_step g f n accesses) ∷ xs) next.marks);
    }
few_more (Whole ∷ heads) accesses [] parts gap first_query new few = absurd parts
few_more (Whole ∷ heads) accesses (mark ∷ others) parts gap first_query new few =
    let next = few_more heads accesses others parts gap first_query new few in
    record { parts = next.parts; marks = ap (λ (xs : List Advance). mark ∷ xs) next.marks }

-- a whole mark more
pub whole_more : (heads : List MarkHead) (accesses : List Access) (others : List Advance) → AreParts heads accesses others
    → (mark : Advance) → IsOneMore (heads ++ Whole ∷ []) accesses (others ++ mark ∷ []) (marks_in heads accesses others) mark
unfolding marks_in AreParts
whole_more [] accesses others (none, no_others) mark = rw no_others record { parts = (none, refl); marks = refl }
whole_more (Few g f n ∷ heads) accesses others (inside, (is_few, parts)) mark =
    let next = whole_more heads (drop n accesses) others parts mark in
    record {
      parts = (inside, (is_few, next.parts));
      marks = ap (λ (xs : List Advance). Step (few_step g f n accesses) ∷ xs) next.marks;
    }
whole_more (Whole ∷ heads) accesses [] parts mark = absurd parts
whole_more (Whole ∷ heads) accesses (first ∷ others) parts mark =
    let next = whole_more heads accesses others parts mark in
    record { parts = next.parts; marks = ap (λ (xs : List Advance). first ∷ xs) next.marks }

-- there is a head for each mark
pub head_each : (heads : List MarkHead) (accesses : List Access) (others : List Advance) → AreParts heads accesses others
    → length (marks_in heads accesses others) ≡ length heads
unfolding marks_in AreParts
head_each [] accesses others parts = refl
head_each (Few g f n ∷ heads) accesses others (inside, (is_few, parts)) = ap suc (head_each heads (drop n accesses) others parts)
head_each (Whole ∷ heads) accesses [] parts = absurd parts
head_each (Whole ∷ heads) accesses (mark ∷ others) parts = ap suc (head_each heads accesses others parts)

-- the mark that a run gave where it rests is the one that it gives from where it went on
pub emitted_from : {before went after : ModuleRun} {marks more : List Advance} {step : Bool}
    → ((p : Plan) (i : ℕ) (o : Own) → StandsAt p i o before → StandsAt p i o went)
    → IsEmitted went after marks more step → IsEmitted before after marks more step
emitted_from goes e = record {
  mark = e.mark;
  added = e.added;
  is = λ p i o s. e.is p i o (goes p i o s);
  sound = λ p i o s. e.sound p i o (goes p i o s);
  kind = e.kind;
  waits = e.waits;
}
