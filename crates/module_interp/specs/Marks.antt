-- The marks of a burst, as they are kept: steps of few accesses in parts, and others whole.
use Rattle.std.specs.Prelude.{◌≡◌, ℕ, ◌≤◌, Bool, List, [], ◌∷◌, ◌++◌, length, take, drop}
use Rattle.flow_word.specs.{Access, Step as StepOf}
use Rattle.flow_design.specs.{Plan, Advance, declared.state.Advance.TheVariants.Step}
use Rattle.lockstep_defs.specs.{Own}
use Rattle.module_interp.specs.{OwnRests.mark_at, declared.run.ModuleRun.ModuleRun, Runs.IsFew, Runs.IsSoundMark, Runs.StandsAt}
use Rattle.module_interp.specs.{Runs.is_step, Runs.waits, declared.marks.MarkHead.MarkHead, declared.marks.MarkParts.MarkParts}
use Rattle.module_interp.specs.declared.marks.MarkHead.TheVariants.{Few, Whole}

-- the step of this gap, with this many queries before it, which takes the first of these accesses
abbrev pub few_step : ℕ → ℕ → ℕ → List Access → StepOf
few_step gap first_query count accesses = record { gap = gap; accesses = take count accesses; first_query = first_query }

-- the marks that these heads tell: a step takes the accesses that are next, and a whole mark is the next of the others
unfoldable pub marks_in : List MarkHead → List Access → List Advance → List Advance
marks_in [] accesses others = []
marks_in (Few gap first_query count ∷ heads) accesses others =
    Step (few_step gap first_query count accesses) ∷ marks_in heads (drop count accesses) others
marks_in (Whole ∷ heads) accesses [] = []
marks_in (Whole ∷ heads) accesses (mark ∷ others) = mark ∷ marks_in heads accesses others

-- the heads take all of these accesses and of the others, and no more; and each of their steps has few accesses
unfoldable pub AreParts : List MarkHead → List Access → List Advance → Type 0
AreParts [] accesses others = (accesses ≡ []) × (others ≡ [])
AreParts (Few gap first_query count ∷ heads) accesses others =
    (count ≤ length accesses) × (IsFew (few_step gap first_query count accesses) × AreParts heads (drop count accesses) others)
AreParts (Whole ∷ heads) accesses [] = ⊥
AreParts (Whole ∷ heads) accesses (mark ∷ others) = AreParts heads accesses others

-- the marks in these parts
abbrev pub marks_of : MarkParts → List Advance
marks_of parts = marks_in parts.heads.items parts.accesses.items parts.others.items

abbrev pub AreInParts : MarkParts → Type 0
AreInParts parts = AreParts parts.heads.items parts.accesses.items parts.others.items

-- one more mark was given
pub record IsEmitted (before after : ModuleRun) (marks more : List Advance) (step : Bool) : Type 0 where
  pub mark : Advance
  pub added : more ≡ marks ++ mark ∷ []
  pub is : (p : Plan) (i : ℕ) (o : Own) → StandsAt p i o before → mark ≡ mark_at p i o
  pub sound : (p : Plan) (i : ℕ) (o : Own) → StandsAt p i o before → IsSoundMark (length o.steps) mark
  pub kind : is_step mark ≡ step
  pub waits : waits after ≡ step
