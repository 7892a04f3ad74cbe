-- The first item of a list that gives something.
use Rattle.std.specs.Prelude.{ℕ, ◌+◌, Bool, List, [], ◌∷◌, ◌++◌, Option, None, Some, option_map, if◌then◌else◌}

-- what the first item gives, at place 0, or what a later one gives, one place further
abbrev pub sooner : {B : Type 0} → Option B → Option (ℕ × B) → Option (ℕ × B)
sooner (Some y) later = Some (0, y)
sooner None later = option_map (λ p. (p.0 + 1, p.1)) later

-- the first item for which f gives something: its place, and what f gives
abbrev pub first_in : {A B : Type 0} → (A → Option B) → List A → Option (ℕ × B)
first_in f [] = None
first_in f (x ∷ xs) = sooner (f x) (first_in f xs)

-- the place of the first item that passes the test, if one does
abbrev pub place_where : {A : Type 0} → (A → Bool) → List A → Option ℕ
place_where p [] = None
place_where p (x ∷ xs) = if p x then Some 0 else option_map (λ k. k + 1) (place_where p xs)

-- the place of the first item that fails, if one does, where the test of an item depends on the items before it
abbrev pub first_after : {A : Type 0} → (List A → A → Bool) → List A → List A → Option ℕ
first_after fails before [] = None
first_after fails before (x ∷ xs) =
    if fails before x then Some 0 else option_map (λ k. k + 1) (first_after fails (before ++ x ∷ []) xs)

-- what this item gives, with the item, or what a later one gives
abbrev pub or_later : {A B : Type 0} → A → Option B → Option (A × B) → Option (A × B)
or_later x (Some y) later = Some (x, y)
or_later x None later = later

-- the first item for which f gives something, and what f gives
abbrev pub first_for : {A B : Type 0} → (A → Option B) → List A → Option (A × B)
first_for f [] = None
first_for f (x ∷ xs) = or_later x (f x) (first_for f xs)
