-- Accesses that stand in words, one after another.
use Rattle.std.proofs.Common.{◌≡◌, refl, sym, ap, ap₂, ◌∙◌, ℕ, suc, ◌+◌, ◌*◌, ◌/◌, ◌%◌, ◌^◌, ◌<◌, ◌≤◌, ◌==◌, inl, inr, Bool, true, false}
use Rattle.std.proofs.Common.{cond, not, List, [], ◌∷◌, ◌++◌, length, map, drop, arith, length-append, length-drop}
use Rattle.std.proofs.lemmas.List.{drop-append-le}
use Rattle.std.proofs.lemmas.Bool.{cases_Bool, eqb-true, not-false, or_parts}
use Rattle.std.specs.Int.{from_bool}
use Rattle.event_graph.specs.{Access, Kind, kind_with_code, code_of, is_valued, is_write, has_value, access_slot, slot_size, slot_sizes}
use Rattle.event_graph.specs.{words_of, packed, unpacked_access, accesses_in, Form, step_form, words_for, step_of_form, count_words}
use Rattle.flow_word.specs.declared.access.Kind.TheVariants.{Read, Write, TryRead, TryWrite, Empty, Full}

-- ---- what stands at the front stays, with other words after it

access_more : (slot : ℕ) (ws more : List ℕ) → slot_size slot ≤ length ws → unpacked_access slot (ws ++ more) ≡ unpacked_access slot ws
access_more slot [] more here = elim (cases_Bool (is_valued slot)) [
  | inl e ↦ absurd (let three : 3 ≤ 0 = rw e at here in omega arith)
  | inr e ↦ absurd (let one : 1 ≤ 0 = rw e at here in omega arith)
]
access_more slot (a ∷ []) more here = elim (cases_Bool (is_valued slot)) [
  | inl e ↦ absurd (let three : 3 ≤ 1 = rw e at here in omega arith)
  | inr e ↦ rw e refl
]
access_more slot (a ∷ b ∷ []) more here = elim (cases_Bool (is_valued slot)) [
  | inl e ↦ absurd (let three : 3 ≤ 2 = rw e at here in omega arith)
  | inr e ↦ rw e refl
]
access_more slot (a ∷ b ∷ c ∷ ws) more here = refl

-- an access for each slot
pub accesses_count : (slots ws : List ℕ) → length (accesses_in slots ws) ≡ length slots
accesses_count [] ws = refl
accesses_count (slot ∷ slots) ws = ap suc (accesses_count slots (drop (slot_size slot) ws))

-- after the first access come the words of the others
rest_there : (slot : ℕ) (slots ws : List ℕ) → slot_sizes (slot ∷ slots) ≤ length ws → slot_sizes slots ≤ length (drop (slot_size slot) ws)
rest_there slot slots ws here = omega (arith, length-drop (slot_size slot) ws)

accesses_more : (slots ws more : List ℕ) → slot_sizes slots ≤ length ws → accesses_in slots (ws ++ more) ≡ accesses_in slots ws
accesses_more [] ws more here = refl
accesses_more (slot ∷ slots) ws more here =
    let first : slot_size slot ≤ length ws = omega arith in
    ap₂ (λ (x : Access) (xs : List Access). x ∷ xs) (access_more slot ws more first)
    (ap (accesses_in slots) (drop-append-le (slot_size slot) ws more first)
    ∙ accesses_more slots (drop (slot_size slot) ws) more (rest_there slot slots ws here))

counted_more : (counted : Bool) (slots : List ℕ) (gap : ℕ) (ws more : List ℕ) → cond counted 1 0 + slot_sizes slots ≤ length ws
    → step_of_form (record { slots = slots; counted = counted }) gap (ws ++ more)
    ≡ step_of_form (record { slots = slots; counted = counted }) gap ws
counted_more false slots gap ws more here =
    ap (λ (xs : List Access). record { gap = gap; accesses = xs; first_query = 0 }) (accesses_more slots ws more (omega arith))
counted_more true slots gap [] more here = absurd (omega (arith, here))
counted_more true slots gap (w ∷ ws) more here =
    ap (λ (xs : List Access). record { gap = gap; accesses = xs; first_query = w }) (accesses_more slots ws more (omega arith))

pub step_more : (form : Form) (gap : ℕ) (ws more : List ℕ) → words_for form ≤ length ws
    → step_of_form form gap (ws ++ more) ≡ step_of_form form gap ws
step_more form gap ws more here = counted_more form.counted form.slots gap ws more here

-- ---- the parts of a slot

small : (k : Kind) → code_of k < 6
small Read = omega arith
small Write = omega arith
small TryRead = omega arith
small TryWrite = omega arith
small Empty = omega arith
small Full = omega arith

coded : (k : Kind) → kind_with_code (code_of k) ≡ k
coded Read = refl
coded Write = refl
coded TryRead = refl
coded TryWrite = refl
coded Empty = refl
coded Full = refl

bit_small : (b : Bool) → from_bool b < 2
bit_small true = omega arith
bit_small false = omega arith

bit_set : (b : Bool) → (from_bool b == 1) ≡ b
bit_set true = refl
bit_set false = refl

record HasParts (slot code value channel : ℕ) : Type 0 where
  code_is : slot % 8 ≡ code
  value_is : slot / 8 % 2 ≡ value
  channel_is : slot / 16 ≡ channel

has_parts : (code value channel slot : ℕ) → slot ≡ code + 8 * value + 16 * channel → code < 6 → value < 2 → HasParts slot code value channel
has_parts code value channel slot is c v = record { code_is = omega arith; value_is = omega arith; channel_is = omega arith }

-- ---- an access that was packed is read back

no_value : (kind : Kind) (value : ℕ) → has_value kind value ≡ false → value ≡ 0
no_value kind value e = eqb-true value 0 (not-false (value == 0) (or_parts (is_write kind) (not (value == 0)) e).1)

halves : (value : ℕ) → value % 2 ^ 32 + 2 ^ 32 * (value / 2 ^ 32) ≡ value
halves value = omega arith

same_access : (a : Access) {kind : Kind} {channel ordinal value : ℕ} → kind ≡ a.kind → channel ≡ a.channel → ordinal ≡ a.ordinal
    → value ≡ a.value → record { kind = kind; channel = channel; ordinal = ordinal; value = value } ≡ a
same_access a k c o v = rw (k, c, o, v) refl

module _ (a : Access) where
  parts : HasParts (access_slot a) (code_of a.kind) (from_bool (has_value a.kind a.value)) a.channel
  parts = has_parts (code_of a.kind) (from_bool (has_value a.kind a.value)) a.channel (access_slot a) refl (small a.kind)
      (bit_small (has_value a.kind a.value))

  valued_back : is_valued (access_slot a) ≡ has_value a.kind a.value
  valued_back = rw parts.value_is (bit_set (has_value a.kind a.value))

  kind_back : kind_with_code (access_slot a % 8) ≡ a.kind
  kind_back = rw parts.code_is (coded a.kind)

  -- what is read from an access's words and what follows them
  record IsRead (words rest : List ℕ) : Type 0 where
    access : unpacked_access (access_slot a) words ≡ a
    others : drop (slot_size (access_slot a)) words ≡ rest

  read_back : (rest : List ℕ) → IsRead (words_of a ++ rest) rest
  read_back rest = by_value (has_value a.kind a.value) refl
    where
      by_value : (t : Bool) → has_value a.kind a.value ≡ t
          → IsRead (a.ordinal ∷ (cond t (a.value % 2 ^ 32 ∷ a.value / 2 ^ 32 ∷ []) [] ++ rest)) rest
      by_value true e = let v = valued_back ∙ e in record {
        access = same_access a kind_back parts.channel_is refl (rw v (halves a.value));
        others = rw v refl;
      }
      by_value false e = let v = valued_back ∙ e in record {
        access = same_access a kind_back parts.channel_is refl (rw v (sym (no_value a.kind a.value e)));
        others = rw v refl;
      }

  -- how many words it takes
  size_back : slot_size (access_slot a) ≡ length (words_of a)
  size_back = rw valued_back (by_value (has_value a.kind a.value))
    where
      by_value : (t : Bool) → cond t 3 1 ≡ length (a.ordinal ∷ cond t (a.value % 2 ^ 32 ∷ a.value / 2 ^ 32 ∷ []) [])
      by_value true = refl
      by_value false = refl

  size_few : length (words_of a) ≤ 3
  size_few = by_value (has_value a.kind a.value)
    where
      by_value : (t : Bool) → length (a.ordinal ∷ cond t (a.value % 2 ^ 32 ∷ a.value / 2 ^ 32 ∷ []) []) ≤ 3
      by_value true = omega arith
      by_value false = omega arith

-- ---- the accesses of a step

all_read : (items : List Access) → accesses_in (map access_slot items) (packed items) ≡ items
all_read [] = refl
all_read (a ∷ items) =
    let r = read_back a (packed items) in
    ap₂ (λ (x : Access) (xs : List Access). x ∷ xs) r.access (ap (accesses_in (map access_slot items)) r.others ∙ all_read items)

sizes_back : (items : List Access) → slot_sizes (map access_slot items) ≡ length (packed items)
sizes_back [] = refl
sizes_back (a ∷ items) = omega (arith, size_back a, sizes_back items, length-append (words_of a) (packed items))

pub packed_few : (items : List Access) → length (packed items) ≤ 3 * length items
packed_few [] = omega arith
packed_few (a ∷ items) = omega (arith, size_few a, packed_few items, length-append (words_of a) (packed items))

-- ---- a step

module _ (gap first_query : ℕ) (items : List Access) where
  pub step_back : step_of_form (step_form items (not (first_query == 0))) gap (count_words first_query ++ packed items)
      ≡ record { gap = gap; accesses = items; first_query = first_query }
  step_back = by_count (first_query == 0) refl
    where
      by_count : (t : Bool) → (first_query == 0) ≡ t
          → step_of_form (step_form items (not t)) gap (cond t [] (first_query ∷ []) ++ packed items)
          ≡ record { gap = gap; accesses = items; first_query = first_query }
      by_count true e =
          ap₂ (λ (xs : List Access) (q : ℕ). record { gap = gap; accesses = xs; first_query = q }) (all_read items)
          (sym (eqb-true first_query 0 e))
      by_count false e = ap (λ (xs : List Access). record { gap = gap; accesses = xs; first_query = first_query }) (all_read items)

  pub words_back : words_for (step_form items (not (first_query == 0))) ≡ length (count_words first_query ++ packed items)
  words_back = by_count (first_query == 0)
    where
      by_count : (t : Bool) → cond (not t) 1 0 + slot_sizes (map access_slot items) ≡ length (cond t [] (first_query ∷ []) ++ packed items)
      by_count true = omega (arith, sizes_back items)
      by_count false = omega (arith, sizes_back items)
