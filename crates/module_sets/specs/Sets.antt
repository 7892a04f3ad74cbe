-- Sets of modules, as words of 64 bits.
use Rattle.std.specs.Prelude.{◌≡◌, ◌≢◌, ◌↔◌, ℕ, ◌*◌, ◌/◌, ◌%◌, ◌<◌, ◌≤◌, ◌⊎◌, List, [], ◌∷◌, length, slice_index}
use Rattle.std.specs.Int.{bit_at}
use Rattle.module_sets.specs.declared.mask.Mask.{Mask}

-- ---- bits of a word

abbrev pub IsSet : ℕ → ℕ → Type 0
IsSet word bit = bit_at word bit ≡ 1

-- bit `bit` is the first one, from bit `from` on, that is set
pub record IsFirstBit (word from bit : ℕ) : Type 0 where
  pub after : from ≤ bit
  pub is_set : IsSet word bit
  pub first : (n : ℕ) → from ≤ n → n < bit → IsSet word n → ⊥

-- ---- sets

-- a module is in the set: its bit is set in its word
unfoldable pub Has : List ℕ → ℕ → Type 0
Has words n = IsSet (slice_index words (n / 64)) (n % 64)

-- how many modules a set has room for
abbrev pub capacity : List ℕ → ℕ
capacity words = 64 * length words

-- a mask has a module
abbrev pub IsIn : Mask → ℕ → Type 0
IsIn mask n = (mask.word ≡ n / 64) × IsSet mask.bits (n % 64)

-- one of the masks has the module
abbrev pub HasMask : List Mask → ℕ → Type 0
HasMask [] n = ⊥
HasMask (mask ∷ rest) n = IsIn mask n ⊎ HasMask rest n

-- ---- what changes a set

-- a set with module m added, if there is room for it
pub record IsAdded (old : List ℕ) (m : ℕ) (new : List ℕ) : Type 0 where
  pub room : length new ≡ length old
  pub has : (n : ℕ) → Has new n ↔ (Has old n ⊎ ((n ≡ m) × (n < capacity old)))

-- a set with the modules of masks added, as far as there is room for them
pub record IsJoined (old : List ℕ) (masks : List Mask) (new : List ℕ) : Type 0 where
  pub room : length new ≡ length old
  pub has : (n : ℕ) → Has new n ↔ (Has old n ⊎ (HasMask masks n × (n < capacity old)))

-- a set with module m removed
pub record IsRemoved (old : List ℕ) (m : ℕ) (new : List ℕ) : Type 0 where
  pub room : length new ≡ length old
  pub has : (n : ℕ) → Has new n ↔ (Has old n × (n ≢ m))

-- ---- looking for one

-- module m is the first one of the set, from number `from` on
pub record IsFirstFrom (words : List ℕ) (from m : ℕ) : Type 0 where
  pub after : from ≤ m
  pub has : Has words m
  pub first : (n : ℕ) → from ≤ n → n < m → Has words n → ⊥
