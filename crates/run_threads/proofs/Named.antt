-- Which modules a list of flags names.
use Rattle.std.proofs.Common.{◌≡◌, ◌≤◌, ℕ, inl, inr, true, false, get_or, replicate, arith}
use Rattle.std.proofs.{Math.ListN.get_or-eq_default, lemmas.Bool.cases_lt, lemmas.Bool.both_ways}
use Rattle.std.proofs.lemmas.List.{get_or-replicate, length-replicate}

-- none of them is set
none_set : (count m : ℕ) → get_or (replicate count false) m false ≡ false
none_set count m = elim (cases_lt m count) [
  | inl l ↦ get_or-replicate count m false false l
  | inr l ↦ get_or-eq_default (replicate count false) false (at_most (length-replicate count false) l)
]
  where
    at_most : {a b c : ℕ} → a ≡ b → b ≤ c → a ≤ c
    at_most {a} {b} {c} e l = omega arith

pub none_named : (count m : ℕ) → get_or (replicate count false) m false ≡ true → ⊥
none_named count m h = both_ways _ (none_set count m) h
