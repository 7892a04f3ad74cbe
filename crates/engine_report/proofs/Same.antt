-- What is read off the lists is what the theory's core tells of its modules.
use Rattle.std.proofs.Common.{◌≡◌, refl, ℕ, zero, suc, ◌+◌, ◌<◌, Bool, true, map, arith, Option}
use Rattle.std.specs.List.{range_with_len, filter, filter_map}

-- functions that are the same on these numbers
pub map_same : {Y : Type 0} (f g : ℕ → Y) (a n : ℕ) → ((i : ℕ) → i < a + n → f i ≡ g i)
    → map f (range_with_len a n) ≡ map g (range_with_len a n)
map_same f g a zero same = refl
map_same f g a (suc n) same = rw (same a (omega arith), map_same f g (a + 1) n (λ i l. same i (omega arith))) refl

pub found_same : {Y : Type 0} (f g : ℕ → Option Y) (a n : ℕ) → ((i : ℕ) → i < a + n → f i ≡ g i)
    → filter_map f (range_with_len a n) ≡ filter_map g (range_with_len a n)
found_same f g a zero same = refl
found_same f g a (suc n) same = rw (same a (omega arith), found_same f g (a + 1) n (λ i l. same i (omega arith))) refl

pub kept_same : {Y : Type 0} (f g : ℕ → Y) (p : ℕ → Bool) (a n : ℕ) → ((i : ℕ) → i < a + n → p i ≡ true → f i ≡ g i)
    → map f (filter p (range_with_len a n)) ≡ map g (filter p (range_with_len a n))
kept_same f g p a zero same = refl
kept_same f g p a (suc n) same =
    let here = same a (omega arith) in let later = kept_same f g p (a + 1) n (λ i l. same i (omega arith)) in grind arith
