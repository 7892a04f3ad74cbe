-- A module comes to its rest by its quiet clocks.
use Rattle.std.proofs.Common.{◌≡◌, ℕ, zero, suc, ◌+◌, ◌<◌, inl, inr, [], true, false, refl, sym, ap, arith, ◌∙◌}
use Rattle.std.proofs.lemmas.Bool.{cases_order, both_ways}
use Rattle.module_interp.specs.{Plan, ModuleState, FitsEngine, move, module_at, rests, skip, quiet, fits}
use Rattle.lockstep_defs.proofs.Resting.{skip_front, quiet_goes, quiet_rests, fits_move}

-- only one number of clocks leads to the first rest
one_first : (p : Plan) (i a b : ℕ) (s : ModuleState) → ((j : ℕ) → j < a → rests p i (skip p i j s) ≡ false)
    → rests p i (skip p i a s) ≡ true
    → ((j : ℕ) → j < b → rests p i (skip p i j s) ≡ false) → rests p i (skip p i b s) ≡ true → a ≡ b
one_first p i a b s goes rest goes_too rest_too = elim (cases_order a b) [
  | inl same ↦ same
  | inr (inl less) ↦ absurd (both_ways (rests p i (skip p i a s)) (goes_too a less) rest)
  | inr (inr more) ↦ absurd (both_ways (rests p i (skip p i b s)) (goes b more) rest_too)
]

-- at a rest there are no quiet clocks
pub none_at_rest : (p : Plan) → FitsEngine p → (i : ℕ) (s : ModuleState) → fits p i s ≡ true → rests p i s ≡ true → quiet p i s ≡ 0
none_at_rest p h i s f here =
    one_first p i (quiet p i s) 0 s (quiet_goes p i s) (quiet_rests p h i s f) (λ j l. absurd (omega arith)) here

-- elsewhere a move leads on
pub one_nearer : (p : Plan) → FitsEngine p → (i : ℕ) (s : ModuleState) → fits p i s ≡ true → rests p i s ≡ false
    → quiet p i s ≡ suc (quiet p i (move (module_at p i) s []))
one_nearer p h i s f here =
    let t = move (module_at p i) s [] in
    let rest : rests p i (skip p i (suc (quiet p i t)) s) ≡ true =
    ap (rests p i) (skip_front p i (quiet p i t) s) ∙ quiet_rests p h i t (fits_move p h i s [] f) in
    one_first p i (quiet p i s) (suc (quiet p i t)) s (quiet_goes p i s) (quiet_rests p h i s f) (before t refl) rest
  where
    before : (t : ModuleState) → move (module_at p i) s [] ≡ t → (j : ℕ) → j < suc (quiet p i t) → rests p i (skip p i j s) ≡ false
    before t e zero l = here
    before t e (suc j) l =
        ap (rests p i) (skip_front p i j s ∙ ap (skip p i j) e) ∙ quiet_goes p i t j (omega arith)

-- so many quiet clocks lead so far on
pub nearer : (p : Plan) → FitsEngine p → (i : ℕ) (s : ModuleState) → fits p i s ≡ true → (n : ℕ)
    → ((j : ℕ) → j < n → rests p i (skip p i j s) ≡ false) → quiet p i s ≡ n + quiet p i (skip p i n s)
nearer p h i s f zero goes = omega arith
nearer p h i s f (suc n) goes =
    let t = move (module_at p i) s [] in
    let first = one_nearer p h i s f (goes 0 (omega arith)) in
    let rest = nearer p h i t (fits_move p h i s [] f) n (λ j l. sym (ap (rests p i) (skip_front p i j s)) ∙ goes (suc j) (omega arith)) in
    let same : quiet p i (skip p i n t) ≡ quiet p i (skip p i (suc n) s) = ap (quiet p i) (sym (skip_front p i n s)) in
    omega arith

skip_more : (p : Plan) (i m n : ℕ) (s : ModuleState) → skip p i (n + m) s ≡ skip p i m (skip p i n s)
skip_more p i zero n s = ap (λ (k : ℕ). skip p i k s) (omega arith)
skip_more p i (suc m) n s =
    let e : n + suc m ≡ suc (n + m) = omega arith in
    ap (λ (k : ℕ). skip p i k s) e ∙ ap (λ (z : ModuleState). move (module_at p i) z []) (skip_more p i m n s)

-- and to the same rest
pub same_rest : (p : Plan) → FitsEngine p → (i : ℕ) (s : ModuleState) → fits p i s ≡ true → (n : ℕ)
    → ((j : ℕ) → j < n → rests p i (skip p i j s) ≡ false)
    → skip p i (quiet p i s) s ≡ skip p i (quiet p i (skip p i n s)) (skip p i n s)
same_rest p h i s f n goes =
    ap (λ (k : ℕ). skip p i k s) (nearer p h i s f n goes) ∙ skip_more p i (quiet p i (skip p i n s)) n s
