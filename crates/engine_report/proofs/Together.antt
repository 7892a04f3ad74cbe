-- How modules stand together, one more at a time.
use Rattle.std.proofs.Common.{◌≡◌, refl, ℕ, ◌+◌, map, [], ◌∷◌}
use Rattle.std.proofs.{Math.Bool.and-true, Math.Bool.or-false, lemmas.List.Sums.fold-append}
use Rattle.std.proofs.lemmas.List.Folds.{list_any-append, list_all-append}
use Rattle.std.specs.{Prelude.max, List.range_with_len}
use Rattle.engine_report.specs.{Standing, together, joined}
use Rattle.engine_report.proofs.Loops.{mapped_more}

pub together_more : (f : ℕ → Standing) (i : ℕ)
    → together (map f (range_with_len 0 (i + 1))) ≡ joined (together (map f (range_with_len 0 i))) (f i)
together_more f i =
    let before = map f (range_with_len 0 i) in
    let one = f i ∷ [] in
    rw (
      mapped_more f i,
      fold-append (λ clock (s : Standing). max clock s.stop) 0 before one,
      list_all-append (λ (s : Standing). s.ended) before one,
      list_any-append (λ (s : Standing). s.spent) before one,
      list_any-append (λ (s : Standing). s.determined) before one,
      and-true (f i).ended,
      or-false (f i).spent,
      or-false (f i).determined,
    ) refl
