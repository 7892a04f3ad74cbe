-- One module more, and one value more.
use Rattle.std.proofs.Common.{◌≡◌, ◌∙◌, ◌<◌, ℕ, ◌+◌, ◌*◌, List, ◌++◌, ◌∷◌, [], refl, sym, ap, add-one, append-nil, append_assoc, arith, suc}
use Rattle.std.proofs.Common.{map}
use Rattle.std.proofs.lemmas.List.FromFn.{map-range_with_len_more}
use Rattle.std.specs.List.{range_with_len}
use Rattle.flow_gen.specs.{Statement, drawn, each, next, state_after, Drawn}

-- so far the statements of the first k modules are pushed, and their draws leave this state
pub record IsPushed (statements : ℕ → Drawn → List Statement) (seed k : ℕ) (old now : List Statement) (state : ℕ) : Type 0 where
  pub pushed : now ≡ old ++ each statements (drawn seed) k
  pub state_is : state ≡ state_after seed (3 * k)
  pub below : state < 65_537

pub none_more : (statements : ℕ → Drawn → List Statement) (draws : ℕ → Drawn) (old : List Statement)
    → old ++ each statements draws 0 ≡ old
unfolding each
none_more statements draws old = append-nil old

pub no_draw : (seed : ℕ) → state_after seed 0 ≡ seed
unfolding state_after
no_draw seed = refl

pub each_more : (statements : ℕ → Drawn → List Statement) (draws : ℕ → Drawn) (k : ℕ)
    → each statements draws (k + 1) ≡ each statements draws k ++ statements k (draws k)
unfolding each
each_more statements draws k = rw add-one refl

pub state_more : (seed k : ℕ) → state_after seed (3 * (k + 1)) ≡ next (next (next (state_after seed (3 * k))))
unfolding state_after
state_more seed k = let three : 3 * (k + 1) ≡ suc (suc (suc (3 * k))) = omega arith in rw three refl

pub ruleset pushing = (none_more, no_draw, each_more, state_more, append_assoc)

pub range_more : (n : ℕ) → range_with_len 0 (n + 1) ≡ range_with_len 0 n ++ n ∷ []
range_more n = sym (same (range_with_len 0 (n + 1))) ∙ map-range_with_len_more (λ v. v) 0 n n (omega arith)
    ∙ ap (λ (l : List ℕ). l ++ n ∷ []) (same (range_with_len 0 n))
  where
    same : (xs : List ℕ) → map (λ v. v) xs ≡ xs
    same [] = refl
    same (x ∷ xs) = ap (λ (l : List ℕ). x ∷ l) (same xs)
