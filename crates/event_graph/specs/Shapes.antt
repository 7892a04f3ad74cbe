-- Shapes of steps: what steps have in common that differ in their numbers alone.
use Rattle.std.specs.Prelude.{◌≡◌, ℕ, ◌+◌, ◌-◌, ◌/◌, ◌^◌, ◌<◌, ◌≤◌, min, Bool, false, List, [], length, map, take, slice_range}
use Rattle.std.specs.Prelude.{slice_index_or}
use Rattle.flow_word.specs.{Roomed, Access}
use Rattle.event_graph.specs.{declared.shapes.Shape.Shape, declared.shapes.ShapeView.ShapeView, Words.most_accesses, Words.access_slot}

-- a slot for each access, and whether a word says how many queries came before, which are none otherwise
pub record Form : Type 0 where
  pub slots : List ℕ
  pub counted : Bool

-- the default where there is no form
abbrev pub no_form : Form
no_form = record { slots = []; counted = false }

-- the form with this number
abbrev pub form_at : List Form → ℕ → Form
form_at forms number = slice_index_or forms number no_form

-- the form that a view shows
abbrev pub shown_form : ShapeView → Form
shown_form view = record { slots = view.slots.now; counted = view.counted }

-- the form of a step with these accesses
abbrev pub step_form : List Access → Bool → Form
step_form accesses counted = record { slots = map access_slot accesses; counted = counted }

-- the form of a shape that has its place among these slots
abbrev pub form_in : List ℕ → Shape → Form
form_in slots shape = record { slots = slice_range slots shape.at (shape.at + shape.count); counted = shape.counted }

-- the slots of a shape are there
abbrev pub IsShapeIn : List ℕ → Shape → Type 0
IsShapeIn slots shape = shape.at + shape.count ≤ length slots

-- how many further slots there can be: as many as there is memory for, and as many as have a number of 32 bits
abbrev pub slots_left : Roomed ℕ → ℕ
slots_left slots = min slots.room (2 ^ 32 - length slots.items)

-- for how many further shapes of few slots there is room
abbrev pub room_in : Roomed Shape → Roomed ℕ → ℕ
room_in shapes slots = min shapes.room (slots_left slots / most_accesses)

-- the number is that of the form; the earlier forms keep their numbers, and at most one was added
pub record IsNumbered (old new : List Form) (form : Form) (number : ℕ) : Type 0 where
  pub there : number < length new
  pub is : form_at new number ≡ form
  pub kept : take (length old) new ≡ old
  pub more : length new ≤ length old + 1
