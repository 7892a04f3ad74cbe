-- A list in which one item is changed, seen through a function of its items.
use Rattle.std.proofs.Common.{◌≡◌, ◌≢◌, refl, ℕ, ◌+◌, ◌<◌, ◌≤◌, List, length, map, get_or, arith}
use Rattle.std.proofs.Math.ListN.{set}
use Rattle.std.proofs.lemmas.List.{map-set, get_or-map, get_or-set_same, get_or-set_other, length-map}
use Rattle.flow_word.specs.{UsesPlace}

-- where the item becomes what is shown as g of what was shown
pub shown_set : {X Y : Type 0} (f : X → Y) (g : Y → Y) (xs : List X) (i : ℕ) (old new : X) (d : Y) → i < length xs → old ≡ get_or xs i old
    → f new ≡ g (f old)
    → map f (set xs i new) ≡ set (map f xs) i (g (get_or (map f xs) i d))
shown_set f g xs i old new d h at e = rw (map-set f xs i new, e, get_or-map f xs i old d h, ← at) refl

-- the changed item, before and after
pub shown_old : {X : Type 0} (f : X → ℕ) (xs : List X) (i : ℕ) (old : X) → i < length xs → old ≡ get_or xs i old
    → get_or (map f xs) i 0 ≡ f old
shown_old f xs i old h at = rw (get_or-map f xs i old 0 h, ← at) refl

pub shown_new : {X : Type 0} (f : X → ℕ) (xs : List X) (i : ℕ) (new : X) → i < length xs → get_or (map f (set xs i new)) i 0 ≡ f new
shown_new f xs i new h = let k : i < length (map f xs) = rw (length-map xs f) h in
    rw (map-set f xs i new, get_or-set_same (map f xs) i (f new) 0 k) refl

-- any other item
pub shown_other : {X : Type 0} (f : X → ℕ) (xs : List X) (i k : ℕ) (new : X) → k ≢ i
    → get_or (map f (set xs i new)) k 0 ≡ get_or (map f xs) k 0
shown_other f xs i k new h = rw (map-set f xs i new, get_or-set_other (map f xs) i k (f new) 0 h) refl

-- where the number that is shown does not fall
pub shown_kept : {X : Type 0} (f : X → ℕ) (xs : List X) (i : ℕ) (old new : X) → i < length xs → old ≡ get_or xs i old → f old ≤ f new
    → (k : ℕ) → get_or (map f xs) k 0 ≤ get_or (map f (set xs i new)) k 0
shown_kept f xs i old new h at le k =
    let a = shown_old f xs i old h at in
    let b = shown_new f xs i new h in
    let other = shown_other f xs i k new in
    grind (arith, a, b, other)

-- where the number that is shown falls by one at most
pub used_place : {X : Type 0} (f : X → ℕ) (xs : List X) (i : ℕ) (old new : X) → i < length xs → old ≡ get_or xs i old → f old ≤ f new + 1
    → UsesPlace i (map f xs) (map f (set xs i new))
used_place f xs i old new h at less = record {
  own = rw (shown_old f xs i old h at, shown_new f xs i new h) less;
  others = λ k apart. omega (arith, shown_other f xs i k new apart);
}
