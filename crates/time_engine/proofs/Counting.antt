-- How many of the accesses are queries, one access after the other.
use Rattle.std.proofs.Common.{◌≡◌, ap, ◌∙◌, ℕ, ◌+◌, List, [], ◌∷◌, ◌++◌, length, length-append, cond, not, arith}
use Rattle.std.proofs.lemmas.List.Elements.{filter-append}
use Rattle.std.specs.Prelude.{filter}
use Rattle.time_engine.specs.{is_blocking, Access}

one : (a : Access) → length (filter (λ (b : Access). not (is_blocking b.kind)) (a ∷ [])) ≡ cond (is_blocking a.kind) 0 1
one a = grind arith

pub queries_next : (come : List Access) (next : Access) (queries more : ℕ)
    → queries ≡ length (filter (λ (a : Access). not (is_blocking a.kind)) come)
    → more ≡ cond (is_blocking next.kind) 0 1
    → queries + more ≡ length (filter (λ (a : Access). not (is_blocking a.kind)) (come ++ next ∷ []))
queries_next come next queries more so is =
    let p = λ (a : Access). not (is_blocking a.kind) in
    let all = ap length (filter-append p come (next ∷ [])) ∙ length-append (filter p come) (filter p (next ∷ [])) in
    let last = one next in
    omega arith
