-- Of operations whose offsets are apart at most one is due.
use Rattle.std.proofs.Common.{◌≡◌, ◌≢◌, ℕ, zero, suc, ◌+◌, ◌*◌, ◌%◌, ◌-◌, ◌≤◌, ◌<◌, List, [], ◌∷◌, ◌++◌, map, length, get_or, Bool, true}
use Rattle.std.proofs.Common.{false, ◌&&◌, ◌==◌, cond, refl, sym, ◌∙◌, ap, subst, arith, add-zero}
use Rattle.std.proofs.{lemmas.Bool.ne_eqb, lemmas.Bool.eq-eqb, lemmas.Bool.eqb-true, Math.Nat.add-mul-mod_self_right}
use Rattle.std.specs.List.{flat_map, filter, enumerate_from, AllByRecursion}
use Rattle.lockstep_defs.specs.{Op, Timed, Block, Due, ModuleState, no_operation, block_of, operation_at, interval, live_count, ages_down}
use Rattle.lockstep_defs.specs.{ages, temps_of, passes, due_at, due_in, due}
use Rattle.flow_design.specs.declared.design.Module.{Module}

-- no two of these operations have offsets that are equal modulo II
abbrev pub AreApart : (Op ℕ → Bool) → ℕ → List Timed → Type 0
AreApart is ii [] = Unit {0}
AreApart is ii (t ∷ ts) =
    ((is t.op ≡ true) → AllByRecursion (λ u. (is u.op ≡ true) → t.offset % ii ≢ u.offset % ii) ts) × AreApart is ii ts

-- how many of the due operations are such
abbrev pub how_many : (Op ℕ → Bool) → Block → List Due → ℕ
how_many is b [] = 0
how_many is b (d ∷ ds) = cond (is (operation_at b d.op).op) 1 0 + how_many is b ds

how_many-append : (is : Op ℕ → Bool) (b : Block) (ds es : List Due) → how_many is b (ds ++ es) ≡ how_many is b ds + how_many is b es
how_many-append is b [] es = omega arith
how_many-append is b (d ∷ ds) es = let rest = how_many-append is b ds es in omega arith

-- ---- the operations at an age, whatever their guards

-- how many of the operations with these numbers are such
abbrev numbered : (Op ℕ → Bool) → Block → List ℕ → ℕ
numbered is b [] = 0
numbered is b (n ∷ ns) = cond (is (operation_at b n).op) 1 0 + numbered is b ns

abbrev at_age : (Op ℕ → Bool) → ℕ → List Timed → ℕ
at_age is a [] = 0
at_age is a (t ∷ ts) = cond (is t.op && (t.offset == a)) 1 0 + at_age is a ts

abbrev at_ages : (Op ℕ → Bool) → List ℕ → List Timed → ℕ
at_ages is [] ts = 0
at_ages is (a ∷ as') ts = at_age is a ts + at_ages is as' ts

-- these are the block's operations from number k on
abbrev StandFrom : Block → ℕ → List Timed → Type 0
StandFrom b k ts = (j : ℕ) → j < length ts → operation_at b (k + j) ≡ get_or ts j no_operation

counted : (is : Op ℕ → Bool) (b : Block) (a k : ℕ) (ts : List Timed) → StandFrom b k ts
    → numbered is b (map (λ t. t.0) (filter (λ t. (t.1).offset == a) (enumerate_from k ts))) ≡ at_age is a ts
counted is b a k [] h = refl
counted is b a k (t ∷ ts) h =
    let here : operation_at b k ≡ t = subst (λ (n : ℕ). operation_at b n ≡ t) (add-zero k) (h 0 (omega arith)) in
    let rest : numbered is b (map (λ t. t.0) (filter (λ t. (t.1).offset == a) (enumerate_from (k + 1) ts))) ≡ at_age is a ts =
    counted is b a (k + 1) ts (λ j l. subst (λ (n : ℕ). operation_at b n ≡ get_or ts j no_operation) (omega arith)
    (h (suc j) (omega arith))) in
    by_test (t.offset == a) here rest
  where
    by_test : (e : Bool) → operation_at b k ≡ t
        → numbered is b (map (λ t. t.0) (filter (λ t. (t.1).offset == a) (enumerate_from (k + 1) ts))) ≡ at_age is a ts
        → numbered is b (map (λ t. t.0)
        (cond e ((k, t) ∷ filter (λ t. (t.1).offset == a) (enumerate_from (k + 1) ts))
        (filter (λ t. (t.1).offset == a) (enumerate_from (k + 1) ts))))
        ≡ cond (is t.op && e) 1 0 + at_age is a ts
    by_test true here rest = same (is t.op) refl
      where
        same : (q : Bool) → is t.op ≡ q
            → cond (is (operation_at b k).op) 1 0 + numbered is b
            (map (λ t. t.0) (filter (λ t. (t.1).offset == a) (enumerate_from (k + 1) ts))) ≡ cond (q && true) 1 0 + at_age is a ts
        same true e = rw (here, e, rest)
        same false e = rw (here, e, rest)
    by_test false here rest = none (is t.op)
      where
        none : (q : Bool) → numbered is b (map (λ t. t.0) (filter (λ t. (t.1).offset == a) (enumerate_from (k + 1) ts)))
            ≡ cond (q && false) 1 0 + at_age is a ts
        none true = omega arith
        none false = omega arith

-- guards leave out some
passing : (is : Op ℕ → Bool) (b : Block) (test : ℕ → Bool) (i : ℕ) (ns : List ℕ)
    → how_many is b (map (λ n. record { iteration = i; op = n }) (filter test ns)) ≤ numbered is b ns
passing is b test i [] = omega arith
passing is b test i (n ∷ ns) = by_test (test n) (passing is b test i ns)
  where
    by_test : (e : Bool) → how_many is b (map (λ n. record { iteration = i; op = n }) (filter test ns)) ≤ numbered is b ns
        → how_many is b (map (λ n. record { iteration = i; op = n }) (cond e (n ∷ filter test ns) (filter test ns)))
        ≤ cond (is (operation_at b n).op) 1 0 + numbered is b ns
    by_test true h = omega arith
    by_test false h = omega arith

due_at_age : (is : Op ℕ → Bool) (b : Block) (s : ModuleState) (it : ℕ × ℕ) → how_many is b (due_in b s it) ≤ at_age is it.1 b.ops
unfolding due_at
due_at_age is b s it = omega (
  arith,
  passing is b (λ n. passes s.registers (temps_of s it.0) (operation_at b n).guard) it.0 (due_at b it.1),
  counted is b it.1 0 b.ops (λ j l. ap (operation_at b) (Rattle.std.proofs.Common.zero-add j)),
)

due_at_ages : (is : Op ℕ → Bool) (b : Block) (s : ModuleState) (n : ℕ) (as' : List ℕ)
    → how_many is b (flat_map (due_in b s) (enumerate_from n as')) ≤ at_ages is as' b.ops
due_at_ages is b s n [] = omega arith
due_at_ages is b s n (a ∷ as') =
    let rest = due_at_ages is b s (n + 1) as' in
    let here = due_at_age is b s (n, a) in
    rw how_many-append (omega arith)

-- ---- ages that are II apart

-- how many of the ages are x
abbrev hits : ℕ → List ℕ → ℕ
hits x [] = 0
hits x (a ∷ as') = cond (x == a) 1 0 + hits x as'

exchange_sum : (c e : Bool) (h a b x : ℕ) → x ≡ cond c h 0 + b → (cond (c && e) 1 0 + a) + x ≡ cond c (cond e 1 0 + h) 0 + (a + b)
exchange_sum true true h a b x q = omega arith
exchange_sum true false h a b x q = omega arith
exchange_sum false e h a b x q = omega arith

no_ages : (c : Bool) → 0 ≡ cond c 0 0 + 0
no_ages true = omega arith
no_ages false = omega arith

-- counted by ages or by operations it is the same
exchanged : (is : Op ℕ → Bool) (as' : List ℕ) (t : Timed) (ts : List Timed)
    → at_ages is as' (t ∷ ts) ≡ cond (is t.op) (hits t.offset as') 0 + at_ages is as' ts
exchanged is [] t ts = no_ages (is t.op)
exchanged is (a ∷ as') t ts = exchange_sum (is t.op) (t.offset == a) (hits t.offset as') (at_age is a ts) (at_ages is as' ts)
    (at_ages is as' (t ∷ ts)) (exchanged is as' t ts)

no_operations : (is : Op ℕ → Bool) (as' : List ℕ) → at_ages is as' [] ≡ 0
no_operations is [] = refl
no_operations is (a ∷ as') = let rest = no_operations is as' in omega arith

misses_above : (ii a n x : ℕ) → 0 < ii → a + n * ii ≤ x → hits x (ages_down ii a n) ≡ 0
misses_above ii a zero x pos h = refl
misses_above ii a (suc n) x pos h =
    let e : suc n * ii ≡ ii + n * ii = omega arith in
    let ne : x ≢ a + n * ii = omega arith in
    let rest = misses_above ii a n x pos (omega arith) in
    rw (ne_eqb x (a + n * ii) ne, rest)

-- they hit a number at most once, and only one of their remainder
hits_once : (ii a n x : ℕ) → 0 < ii → hits x (ages_down ii a n) ≤ cond (x % ii == a % ii) 1 0
hits_once ii a zero x pos = omega arith
hits_once ii a (suc n) x pos = by_test (hits_once ii a n x pos) (x == a + n * ii) refl
  where
    by_test : hits x (ages_down ii a n) ≤ cond (x % ii == a % ii) 1 0 → (e : Bool) → (x == a + n * ii) ≡ e
        → cond e 1 0 + hits x (ages_down ii a n) ≤ cond (x % ii == a % ii) 1 0
    by_test rest false e = omega arith
    by_test rest true e =
        let same : x ≡ a + n * ii = eqb-true x (a + n * ii) e in
        let above = misses_above ii a n x pos (omega arith) in
        let residue : x % ii ≡ a % ii = ap (λ (v : ℕ). v % ii) same ∙ add-mul-mod_self_right a n ii in
        rw (above, eq-eqb (x % ii) (a % ii) residue) (omega arith)

-- how many of the operations have an offset with this remainder
abbrev with_residue : (Op ℕ → Bool) → ℕ → ℕ → List Timed → ℕ
with_residue is ii r [] = 0
with_residue is ii r (t ∷ ts) = cond (is t.op && (t.offset % ii == r)) 1 0 + with_residue is ii r ts

one_operation : (c q : Bool) (h x y : ℕ) → h ≤ cond q 1 0 → x ≤ y → cond c h 0 + x ≤ cond (c && q) 1 0 + y
one_operation true q h x y l m = omega arith
one_operation false q h x y l m = omega arith

by_residue : (is : Op ℕ → Bool) (ii a n : ℕ) (ts : List Timed) → 0 < ii → at_ages is (ages_down ii a n) ts ≤ with_residue is ii (a % ii) ts
by_residue is ii a n [] pos = omega (arith, no_operations is (ages_down ii a n))
by_residue is ii a n (t ∷ ts) pos =
    rw (exchanged is (ages_down ii a n) t ts)
    (one_operation (is t.op) (t.offset % ii == a % ii) _ _ _ (hits_once ii a n t.offset pos) (by_residue is ii a n ts pos))

none_left : (is : Op ℕ → Bool) (ii x r : ℕ) (ts : List Timed) → x % ii ≡ r
    → AllByRecursion (λ u. (is u.op ≡ true) → x % ii ≢ u.offset % ii) ts → with_residue is ii r ts ≡ 0
none_left is ii x r [] e h = refl
none_left is ii x r (u ∷ ts) e h = by_tests (is u.op) (u.offset % ii == r) refl refl (none_left is ii x r ts e h.1)
  where
    by_tests : (c q : Bool) → is u.op ≡ c → (u.offset % ii == r) ≡ q → with_residue is ii r ts ≡ 0
        → cond (c && q) 1 0 + with_residue is ii r ts ≡ 0
    by_tests false q f g rest = omega arith
    by_tests true false f g rest = omega arith
    by_tests true true f g rest = absurd (h.0 f (e ∙ sym (eqb-true (u.offset % ii) r g)))

residue_once : (is : Op ℕ → Bool) (ii r : ℕ) (ts : List Timed) → AreApart is ii ts → with_residue is ii r ts ≤ 1
residue_once is ii r [] h = omega arith
residue_once is ii r (t ∷ ts) h = by_tests (is t.op) (t.offset % ii == r) refl refl (residue_once is ii r ts h.1)
  where
    by_tests : (c q : Bool) → is t.op ≡ c → (t.offset % ii == r) ≡ q → with_residue is ii r ts ≤ 1
        → cond (c && q) 1 0 + with_residue is ii r ts ≤ 1
    by_tests false q f g rest = omega arith
    by_tests true false f g rest = omega arith
    by_tests true true f g rest = omega (arith, none_left is ii t.offset r ts (eqb-true (t.offset % ii) r g) (h.0 f))

-- ---- all due operations

-- of operations that are apart at most one is due
pub due_once : (is : Op ℕ → Bool) (m : Module) (s : ModuleState) → AreApart is (interval (block_of m s)) (block_of m s).ops
    → 0 < interval (block_of m s)
    → how_many is (block_of m s) (due m s) ≤ 1
unfolding due ages
due_once is m s h pos =
    let b = block_of m s in
    let as' = ages_down (interval b) (s.control.clock - s.control.newest) (live_count b s.control) in
    omega (
      arith,
      due_at_ages is b s 0 as',
      by_residue is (interval b) (s.control.clock - s.control.newest) (live_count b s.control) b.ops pos,
      residue_once is (interval b) ((s.control.clock - s.control.newest) % interval b) b.ops h,
    )

residue_few : (is : Op ℕ → Bool) (ii r : ℕ) (ts : List Timed) → with_residue is ii r ts ≤ length (filter (λ t. is t.op) ts)
residue_few is ii r [] = omega arith
residue_few is ii r (t ∷ ts) = by_tests (is t.op) (t.offset % ii == r) (residue_few is ii r ts)
  where
    by_tests : (c q : Bool) → with_residue is ii r ts ≤ length (filter (λ t. is t.op) ts)
        → cond (c && q) 1 0 + with_residue is ii r ts ≤ length (cond c (t ∷ filter (λ t. is t.op) ts) (filter (λ t. is t.op) ts))
    by_tests false q rest = omega arith
    by_tests true false rest = omega arith
    by_tests true true rest = omega arith

-- no operation is due more than once
pub due_few : (is : Op ℕ → Bool) (m : Module) (s : ModuleState) → 0 < interval (block_of m s)
    → how_many is (block_of m s) (due m s) ≤ length (filter (λ t. is t.op) (block_of m s).ops)
unfolding due ages
due_few is m s pos =
    let b = block_of m s in
    let age = s.control.clock - s.control.newest in
    omega (
      arith,
      due_at_ages is b s 0 (ages_down (interval b) age (live_count b s.control)),
      by_residue is (interval b) age (live_count b s.control) b.ops pos,
      residue_few is (interval b) (age % interval b) b.ops,
    )

none_at_age : (is : Op ℕ → Bool) (a : ℕ) (ts : List Timed) → AllByRecursion (λ t. is t.op ≡ false) ts → at_age is a ts ≡ 0
none_at_age is a [] h = refl
none_at_age is a (t ∷ ts) h = let rest = none_at_age is a ts h.1 in rw (h.0, rest)

none_at_ages : (is : Op ℕ → Bool) (as' : List ℕ) (ts : List Timed) → AllByRecursion (λ t. is t.op ≡ false) ts → at_ages is as' ts ≡ 0
none_at_ages is [] ts h = refl
none_at_ages is (a ∷ as') ts h = let rest = none_at_ages is as' ts h in omega (arith, none_at_age is a ts h)

-- a block with no such operation has none due
pub none_due : (is : Op ℕ → Bool) (m : Module) (s : ModuleState) → AllByRecursion (λ t. is t.op ≡ false) (block_of m s).ops
    → how_many is (block_of m s) (due m s) ≡ 0
unfolding due
none_due is m s h =
    omega (
      arith,
      due_at_ages is (block_of m s) s 0 (ages (block_of m s) s.control),
      none_at_ages is (ages (block_of m s) s.control)
          (block_of m s).ops h,
    )
