-- What holds of the elements of a list so far.
use Rattle.std.proofs.Common.{ℕ, ◌+◌, ◌<◌, ◌≤◌, List, length, get_or, take}
use Rattle.std.proofs.{lemmas.List.take_all, lemmas.List.take_more, lemmas.List.Elements.All-push}
use Rattle.std.specs.Prelude.{All}

-- one more
pub all_more : {X : Type 0} (P : X → Type 0) (xs : List X) (i : ℕ) (d : X) → i < length xs → All P (take i xs) → P (get_or xs i d)
    → All P (take (i + 1) xs)
all_more P xs i d l before here = rw (take_more xs i d l) (All-push P (take i xs) (get_or xs i d) before here)

-- and at the end of all
pub all_there : {X : Type 0} (P : X → Type 0) (xs : List X) (i : ℕ) → length xs ≤ i → All P (take i xs) → All P xs
all_there P xs i l all = rw (take_all i xs l) at all
