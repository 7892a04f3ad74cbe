-- Sums modulo 2^64.
use Rattle.std.proofs.Common.{◌≡◌, ◌∙◌, ap, sym, ℕ, ◌+◌, ◌<◌, ◌%◌, ◌^◌, List, take, get_or, length}
use Rattle.std.proofs.{Math.Nat.mod-add-mod, lemmas.List.Sums.sum_by_more}
use Rattle.std.specs.Prelude.{sum_by}

-- the sum of the values before one, and that one
pub one_more : (values : List ℕ) (i : ℕ) → i < length values
    → (sum_by (λ v. v) (take i values) % 2 ^ 64 + get_or values i 0) % 2 ^ 64 ≡ sum_by (λ v. v) (take (i + 1) values) % 2 ^ 64
one_more values i h =
    mod-add-mod (sum_by (λ v. v) (take i values)) (2 ^ 64) (get_or values i 0)
    ∙ ap (λ n. n % 2 ^ 64) (sym (sum_by_more (λ v. v) values i 0 h))
