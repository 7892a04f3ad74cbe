-- Steps in the form in which a lane keeps them, and the steps that they stand for.
use Rattle.std.specs.Prelude.{◌≡◌, ℕ, ◌+◌, ◌*◌, ◌<◌, ◌≤◌, ◌^◌, ◌==◌, ◌&&◌, nat_lt, Bool, if◌then◌else◌, List, [], ◌∷◌, length, drop}
use Rattle.std.specs.Prelude.{slice_index, slice_index_or, All}
use Rattle.flow_word.specs.{Roomed, Step}
use Rattle.event_graph.specs.{declared.steps.Head.Head, declared.view.StepView.StepView, declared.view.LaneStep.LaneStep}
use Rattle.event_graph.specs.{declared.view.NewStep.NewStep, declared.view.NewStep.TheVariants.Few, declared.view.NewStep.TheVariants.Whole}
use Rattle.event_graph.specs.{Shapes.Form, Shapes.form_at, Words.Fits, Words.most_accesses, Words.slot_sizes, Words.accesses_in}

-- the step that a view tells, whose accesses are a slice
abbrev pub whole : StepView → Step
whole view = record { gap = view.gap; accesses = view.accesses.now; first_query = view.first_query }

-- the step that is to be added
abbrev pub new_step : NewStep → Step
new_step (Few view) = whole view
new_step (Whole step) = step

-- the step that a view shows which unpacks its accesses one by one
abbrev pub in_lane : LaneStep → Step
in_lane view = record { gap = view.gap; accesses = view.accesses; first_query = view.first_query }

-- the step has at least one access and at most so many, its numbers fit 32 bits, and its accesses fit a word each
pub record IsStepUpTo (most : ℕ) (step : Step) : Type 0 where
  pub some : 1 ≤ length step.accesses
  pub few : length step.accesses ≤ most
  pub gap : step.gap < 2 ^ 32
  pub first_query : step.first_query < 2 ^ 32
  pub fits : All Fits step.accesses

-- the step has few accesses, at least one, its numbers fit 32 bits, and its accesses fit a word each
abbrev pub IsFewStep : Step → Type 0
IsFewStep step = IsStepUpTo most_accesses step

-- a step that is copied has few accesses
abbrev pub IsFewIfCopied : NewStep → Type 0
IsFewIfCopied (Few view) = IsFewStep (whole view)
IsFewIfCopied (Whole step) = Unit {0}

-- ---- a step by its form and its words

-- how many words a step of this form takes
abbrev pub words_for : Form → ℕ
words_for form = (if form.counted then 1 else 0) + slot_sizes form.slots

-- the step of this form, where the words begin with its own
abbrev pub step_of_form : Form → ℕ → List ℕ → Step
step_of_form form gap words = record {
  gap = gap;
  accesses = accesses_in form.slots (drop (if form.counted then 1 else 0) words);
  first_query = if form.counted then slice_index words 0 else 0;
}

-- the most words of a step of few accesses: a shape, a gap, a number of queries, and three for each access
abbrev pub most_words : ℕ
most_words = 3 + 3 * most_accesses

-- ---- a step by its head

-- in place of the number of a shape: the step is kept whole
abbrev pub whole_mark : ℕ
whole_mark = 65534

-- in place of the number of a shape: this number and the gap are words
abbrev pub long_mark : ℕ
long_mark = 65535

-- what the steps of a lane are kept in
pub record Store : Type 0 where
  pub words : List ℕ
  pub forms : List Form
  pub others : List Step

-- these lists, without their room
abbrev pub store_with : Roomed ℕ → Roomed Form → Roomed Step → Store
store_with words forms others = record { words = words.items; forms = forms.items; others = others.items }

-- the default where no step is kept
abbrev pub nothing : Step
nothing = record { gap = 0; accesses = []; first_query = 0 }

-- the step of this shape and gap, with its words from there on
abbrev pub packed_step : Store → ℕ → ℕ → ℕ → Step
packed_step store shape gap at = step_of_form (form_at store.forms shape) gap (drop at store.words)

-- the step with this head, which has no number of a shape
abbrev pub other_step : Store → Head → Step
other_step store head =
    if head.shape == whole_mark then slice_index_or store.others head.at nothing
    else packed_step store (slice_index store.words head.at) (slice_index store.words (head.at + 1)) (head.at + 2)

-- the step with this head
unfoldable pub unpacked_step : Store → Head → Step
unpacked_step store head =
    if nat_lt head.shape whole_mark then packed_step store head.shape head.gap head.at else other_step store head

-- the shape and all words of a step are there
pub record IsPackedThere (store : Store) (number at : ℕ) : Type 0 where
  pub shape : number < length store.forms
  pub words : at + words_for (form_at store.forms number) ≤ length store.words

-- the step with this head is there
pub record IsStepThere (store : Store) (head : Head) : Type 0 where
  pub short : head.shape < whole_mark → IsPackedThere store head.shape head.at
  pub whole : head.shape ≡ whole_mark → head.at < length store.others
  pub long : whole_mark < head.shape → IsPackedThere store (slice_index store.words head.at) (head.at + 2)

-- ---- a step more

-- the shape and the gap fit a head
abbrev pub fit_head : ℕ → ℕ → Bool
fit_head shape gap = nat_lt shape whole_mark && nat_lt gap (2 ^ 16)

-- the head of a step of this shape and gap, with its first word there
abbrev pub step_head : ℕ → ℕ → ℕ → Head
step_head shape gap at =
    if fit_head shape gap then record { gap = gap; shape = shape; at = at } else record { gap = 0; shape = long_mark; at = at }

-- the words of what does not fit the head
abbrev pub head_words : ℕ → ℕ → List ℕ
head_words shape gap = if fit_head shape gap then [] else shape ∷ gap ∷ []

-- the word of a number of queries
abbrev pub count_words : ℕ → List ℕ
count_words first_query = if first_query == 0 then [] else first_query ∷ []

-- there is room for the words and the shapes of so many steps of few accesses
pub record CanPack (words : Roomed ℕ) (forms : Roomed Form) (steps : ℕ) : Type 0 where
  pub words_few : length words.items + most_words * steps < 2 ^ 32
  pub forms_few : length forms.items + steps < 2 ^ 29
  pub words_room : most_words * steps ≤ words.room
  pub forms_room : steps ≤ forms.room

-- each step that was there is still there, under the same head
abbrev pub KeepsInside : Store → Store → Type 0
KeepsInside old new = (head : Head) → IsStepThere old head → IsStepThere new head × (unpacked_step new head ≡ unpacked_step old head)

-- the step is there now, under this head, and so is each step from before
pub record IsStepKept (old new : Store) (step : Step) (head : Head) : Type 0 where
  pub is : unpacked_step new head ≡ step
  pub inside : IsStepThere new head
  pub before : KeepsInside old new

-- each step is there, and there is room for `room` further steps
pub record IsPacked (heads : Roomed Head) (words : Roomed ℕ) (forms : Roomed Form) (others : Roomed Step) (room : ℕ) : Type 0 where
  pub inside : All (IsStepThere (store_with words forms others)) heads.items
  pub packs : CanPack words forms room
  pub others_few : length others.items ≤ length heads.items
  pub few : length heads.items + room < 2 ^ 30
  pub heads_room : room ≤ heads.room
  pub others_room : room ≤ others.room
