-- What is noted of due operations before the replies, and what they write by their notes and replies.
use Rattle.std.specs.Prelude.{ℕ, ◌≡◌, ◌≤◌, List, [], ◌∷◌, ◌++◌, drop, length, slice_index, slice_index_or, slice_range, if◌then◌else◌}
use Rattle.std.specs.Prelude.{Option, Some, None}
use Rattle.std.specs.{List.filter_map, List.zip, Int.from_bool}
use Rattle.flow_design.specs.{Block, Op, Due, Effect, Reply, operation_at, ModuleState, declared.state.Reply.TheVariants.Done}
use Rattle.flow_design.specs.declared.expr.Op.TheVariants.{Set, Load, Store, Read, Write, TryRead, TryWrite, Empty, Full}
use Rattle.flow_design.specs.declared.state.Effect.TheVariants.{Variable, Word}
use Rattle.lockstep_defs.specs.{value_of, memory_of, address_in, value_in, is_yes, is_fifo_operation}
use Rattle.module_code.specs.{declared.noted.Note.Note, declared.noted.Noted.Noted, declared.noted.Notes.Notes}
use Rattle.module_code.specs.{declared.code.BlockCode.BlockCode, declared.code.Guarded.Guarded}

-- the value that an operation writes, where no reply decides it; else 0
abbrev pub noted_value : ModuleState → ℕ → Op ℕ → ℕ
noted_value s i (Set x e) = value_of s i e
noted_value s i (Load x n e) = slice_index (memory_of s n) (address_in s n (value_of s i e))
noted_value s i (Store n e a) = value_of s i a
noted_value s i (Read f x) = 0
noted_value s i (Write f e) = 0
noted_value s i (TryRead f x ok) = 0
noted_value s i (TryWrite f ok e) = 0
noted_value s i (Empty f x) = 0
noted_value s i (Full f x) = 0

abbrev pub noted_address : ModuleState → ℕ → Op ℕ → ℕ
noted_address s i (Set x e) = 0
noted_address s i (Load x n e) = 0
noted_address s i (Store n e a) = address_in s n (value_of s i e)
noted_address s i (Read f x) = 0
noted_address s i (Write f e) = 0
noted_address s i (TryRead f x ok) = 0
noted_address s i (TryWrite f ok e) = 0
noted_address s i (Empty f x) = 0
noted_address s i (Full f x) = 0

-- what is noted of a due operation
abbrev pub noted_for : Block → ModuleState → Due → Noted
noted_for b s d =
    let op = (operation_at b d.op).op in
    record { op = d.op; iteration = d.iteration; value = noted_value s d.iteration op; address = noted_address s d.iteration op }

-- what an operation writes, from its note and its reply
abbrev pub effects_from : Noted → Op ℕ → Reply → List Effect
effects_from n (Set x e) r = Variable n.iteration x n.value ∷ []
effects_from n (Load x m e) r = Variable n.iteration x n.value ∷ []
effects_from n (Store m e a) r = Word m n.address n.value ∷ []
effects_from n (Read f x) r = Variable n.iteration x (value_in r) ∷ []
effects_from n (Write f e) r = []
effects_from n (TryRead f x ok) r =
    (if is_yes r then Variable n.iteration x (value_in r) ∷ [] else []) ++ Variable n.iteration ok (from_bool (is_yes r)) ∷ []
effects_from n (TryWrite f ok e) r = Variable n.iteration ok (from_bool (is_yes r)) ∷ []
effects_from n (Empty f x) r = Variable n.iteration x (from_bool (is_yes r)) ∷ []
effects_from n (Full f x) r = Variable n.iteration x (from_bool (is_yes r)) ∷ []

-- what these operations write, from their notes: each FIFO operation takes the next reply
abbrev pub effects_by : Block → List Noted → List Reply → List Effect
effects_by b [] replies = []
effects_by b (n ∷ ns) replies =
    let op = (operation_at b n.op).op in
    effects_from n op (slice_index_or replies 0 Done) ++ effects_by b ns (if is_fifo_operation op then drop 1 replies else replies)

-- ---- the notes that are kept of a range of operations

abbrev pub no_notes : Notes
no_notes = record { from = 0; to = 0; count = 0; items = [] }

-- the operations of which there are notes
abbrev pub actions_in : BlockCode → Notes → List Guarded
actions_in code notes = slice_range code.actions notes.from notes.to

-- what was noted of an operation that is due, by its note
abbrev pub due_by : Guarded → Note → Noted
due_by g n = record { op = g.slot.op; iteration = n.iteration; value = n.value; address = n.address }

-- what was noted of an operation, by its note, if it is due
abbrev pub noted_by : Guarded × Note → Option Noted
noted_by (g, n) = if n.passes then Some (due_by g n) else None

-- what was noted of the due operations, in commit order
abbrev pub listed : BlockCode → Notes → List Noted
listed code notes = filter_map noted_by (zip (actions_in code notes) notes.items)

-- the notes are of operations of this code, and each of these has its note
pub record AreNotesIn (code : BlockCode) (notes : Notes) : Type 0 where
  pub rises : notes.from ≤ notes.to
  pub inside : notes.to ≤ length code.actions
  pub each : length (actions_in code notes) ≤ length notes.items
  pub counted : notes.count ≡ length (listed code notes)
