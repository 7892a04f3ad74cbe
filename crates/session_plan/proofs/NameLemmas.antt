-- Numbers of names.
use Rattle.std.proofs.Common.{◌≡◌, ℕ, ◌+◌, ◌<◌, ◌≤◌, List, [], ◌∷◌, ◌++◌, length, Option, None, Some, option_map, is_some, false, cond}
use Rattle.std.proofs.Common.{arith, length-append}
use Rattle.std.proofs.lemmas.Slice.Eq.{bytes_eq-Decides}
use Rattle.std.specs.{Option.option_or, Str.bytes_eq}
use Rattle.session_plan.specs.{place_among, name_number, Name}

-- a name's place, where one more name stands after
pub place_after : (names : List Name) (k n : Name)
    → place_among (names ++ k ∷ []) n ≡ option_or (place_among names n) (cond (bytes_eq n k) (Some (length names)) None)
place_after [] k n = grind arith
place_after (m ∷ names) k n = let e = place_after names k n in grind arith

-- a name's place among names and more names
pub place_append : (names more : List Name) (n : Name)
    → place_among (names ++ more) n ≡ option_or (place_among names n) (option_map (λ i. length names + i) (place_among more n))
place_append [] more n = grind arith
place_append (m ∷ names) more n = let e = place_append names more n in grind arith

-- a place is below the count of the names
pub place_below : (names : List Name) (n : Name) (i : ℕ) → place_among names n ≡ Some i → i < length names
place_below [] n i e = absurd cc
place_below (m ∷ names) n i e = grind (arith, place_below names n)

-- the number of a name among names and more names, by the two numbers
pub number_among : (names more : List Name) (n : Name) → name_number names n < length names
    → name_number names n ≡ name_number (names ++ more) n
number_among names more n h = grind (arith, place_append names more n)

pub number_after : (names more : List Name) (n : Name) → length names ≤ name_number names n
    → length names + name_number more n ≡ name_number (names ++ more) n
number_after names more n h = grind (arith, place_append names more n, place_below names n, length-append names more)

-- a table in which a name that had no number gets one
pub noted : (old new : Name → Option ℕ) (k : Name) (i : ℕ) → is_some (old k) ≡ false
    → ((n : Name) → new n ≡ cond (bytes_eq k n) (Some i) (old n)) → (n : Name)
    → new n ≡ option_or (old n) (cond (bytes_eq n k) (Some i) None)
noted old new k i none says n = grind (arith, says n, bytes_eq-Decides k n, bytes_eq-Decides n k)
