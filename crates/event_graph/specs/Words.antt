-- Accesses as slots and words: a slot says the kind and the channel, and words say the ordinal and the value.
use Rattle.std.specs.Prelude.{ℕ, ◌+◌, ◌-◌, ◌*◌, ◌/◌, ◌%◌, ◌^◌, ◌<◌, ◌==◌, Bool, true, false, not, ◌||◌, if◌then◌else◌, List, [], ◌∷◌, drop}
use Rattle.std.specs.Prelude.{slice_index, slice_index_or}
use Rattle.std.specs.{Int.from_bool, List.flat_map}
use Rattle.flow_word.specs.{Access, Kind}
use Rattle.flow_word.specs.declared.access.Kind.TheVariants.{Read, Write, TryRead, TryWrite, Empty, Full}

-- the access fits a slot and words
pub record Fits (access : Access) : Type 0 where
  pub channel : access.channel < 2 ^ 27
  pub ordinal : access.ordinal < 2 ^ 32

-- the most accesses of a step whose words and shape take one place of the room
abbrev pub most_accesses : ℕ
most_accesses = 8

-- the most accesses of a step that is kept as words
abbrev pub wide_accesses : ℕ
wide_accesses = 64

-- how many places of the room the words and the shape of a step with so many accesses take
abbrev pub places_for : ℕ → ℕ
places_for accesses = 1 + (accesses - 1) / most_accesses

-- ---- slots

-- the kind with this code
abbrev pub kind_with_code : ℕ → Kind
kind_with_code code = slice_index_or (Read ∷ Write ∷ TryRead ∷ TryWrite ∷ Empty ∷ []) code Full

abbrev pub code_of : Kind → ℕ
code_of Read = 0
code_of Write = 1
code_of TryRead = 2
code_of TryWrite = 3
code_of Empty = 4
code_of Full = 5

-- words say the value of an access with this slot; else it is 0
abbrev pub is_valued : ℕ → Bool
is_valued slot = slot / 8 % 2 == 1

-- an access of this kind writes
abbrev pub is_write : Kind → Bool
is_write Read = false
is_write Write = true
is_write TryRead = false
is_write TryWrite = true
is_write Empty = false
is_write Full = false

-- words say the value: that of a write also where it is 0, so that all writes of a channel have one slot
abbrev pub has_value : Kind → ℕ → Bool
has_value kind value = is_write kind || not (value == 0)

-- the slot of an access
abbrev pub access_slot : Access → ℕ
access_slot access = code_of access.kind + 8 * from_bool (has_value access.kind access.value) + 16 * access.channel

-- ---- words

-- how many words an access with this slot takes
abbrev pub slot_size : ℕ → ℕ
slot_size slot = if is_valued slot then 3 else 1

-- how many words the accesses with these slots take
abbrev pub slot_sizes : List ℕ → ℕ
slot_sizes [] = 0
slot_sizes (slot ∷ slots) = slot_size slot + slot_sizes slots

-- the words of an access: its ordinal, and the halves of its value, the low half first
abbrev pub words_of : Access → List ℕ
words_of access =
    access.ordinal ∷ (if has_value access.kind access.value then access.value % 2 ^ 32 ∷ access.value / 2 ^ 32 ∷ [] else [])

-- the words of some accesses
abbrev pub packed : List Access → List ℕ
packed accesses = flat_map words_of accesses

-- ---- accesses from slots and words

-- the access with this slot, where the words begin with its own
abbrev pub unpacked_access : ℕ → List ℕ → Access
unpacked_access slot words = record {
  kind = kind_with_code (slot % 8);
  channel = slot / 16;
  ordinal = slice_index words 0;
  value = if is_valued slot then slice_index words 1 + 2 ^ 32 * slice_index words 2 else 0;
}

-- the accesses with these slots, where the words begin with theirs
abbrev pub accesses_in : List ℕ → List ℕ → List Access
accesses_in [] words = []
accesses_in (slot ∷ slots) words = unpacked_access slot words ∷ accesses_in slots (drop (slot_size slot) words)
