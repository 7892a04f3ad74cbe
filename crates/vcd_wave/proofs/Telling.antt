-- The wave of a plan tells the fill of each FIFO in each clock.
use Rattle.std.proofs.Common.{◌≡◌, ◌≢◌, ℕ, zero, suc, ◌+◌, ◌-◌, ◌≤◌, ◌<◌, ◌==◌, ◌&&◌, Bool, true, false, not, cond, List, [], ◌∷◌, ◌++◌}
use Rattle.std.proofs.Common.{map, length, get_or, refl, sym, ◌∙◌, ap, ap₂, subst, arith, nat_le, nat_lt, ◌⊎◌, inl, inr}
use Rattle.std.proofs.lemmas.Bool.{cases_lt, cases_eq, le-ltb, lt-ltb, ne_eqb, eq-eqb, eqb-true, le-leb, lt-leb}
use Rattle.std.proofs.{lemmas.List.append-nil, lemmas.List.length-map, lemmas.List.map-append, lemmas.List.Concat.flat_map-append}
use Rattle.std.specs.List.{filter}
use Rattle.vcd_wave.specs.{Plan, fifos, fill, fills, last_clock, Change, Instant, differs, changes_between, instant_of, instant_at}
use Rattle.vcd_wave.specs.{instants_to, closing_instant, wave_of, has_some, last_or, told_in, told_fill, Varies}
use Rattle.vcd_wave.proofs.LineLemmas.{changes_to, changes_more, filter-append}
use Rattle.vcd_wave.proofs.Instants.{instants_zero, instants_more, later_is}

-- ---- one FIFO among the changes of a clock

abbrev of_fifo : ℕ → List Change → List ℕ
of_fifo i cs = map (λ (c : Change). c.fill) (filter (λ (c : Change). c.fifo == i) cs)

of-append : (i : ℕ) (xs ys : List Change) → of_fifo i (xs ++ ys) ≡ of_fifo i xs ++ of_fifo i ys
of-append i xs ys =
    ap (map (λ (c : Change). c.fill)) (filter-append (λ (c : Change). c.fifo == i) xs ys)
    ∙ map-append (λ (c : Change). c.fill) (filter (λ (c : Change). c.fifo == i) xs) (filter (λ (c : Change). c.fifo == i) ys)

-- what the change at a number says of FIFO i
one_of : (i n v : ℕ) (b : Bool) → of_fifo i (cond b (record { fifo = n; fill = v } ∷ []) []) ≡ cond (b && (n == i)) (v ∷ []) []
one_of i n v false = refl
one_of i n v true = by_test (n == i)
  where
    by_test : (t : Bool) → map (λ (c : Change). c.fill) (cond t (record { fifo = n; fill = v } ∷ []) []) ≡ cond t (v ∷ []) []
    by_test true = refl
    by_test false = refl

changed_to : (before now : List ℕ) (i n : ℕ)
    → of_fifo i (changes_to before now n) ≡ cond (nat_lt i n && differs before now i) (get_or now i 0 ∷ []) []
changed_to before now i zero =
    sym (ap (λ (b : Bool). cond (b && differs before now i) (get_or now i 0 ∷ []) []) (le-ltb i 0 (omega arith)))
changed_to before now i (suc n) =
    let e : suc n ≡ n + 1 = omega arith in
    ap (λ (m : ℕ). of_fifo i (changes_to before now m)) e
    ∙ (ap (of_fifo i) (changes_more before now n (differs before now n) refl)
    ∙ (of-append i (changes_to before now n) _
    ∙ (ap₂ (λ (xs ys : List ℕ). xs ++ ys) (changed_to before now i n) (one_of i n (get_or now n 0) (differs before now n))
    ∙ by_case (cases_eq i n))))
  where
    and_false : (b : Bool) → (b && false) ≡ false
    and_false true = refl
    and_false false = refl

    and_true : (b : Bool) → (b && true) ≡ b
    and_true true = refl
    and_true false = refl

    by_case : ((i ≡ n) ⊎ (i ≢ n))
        → cond (nat_lt i n && differs before now i) (get_or now i 0 ∷ []) []
        ++ cond (differs before now n && (n == i)) (get_or now n 0 ∷ []) []
        ≡ cond (nat_lt i (suc n) && differs before now i) (get_or now i 0 ∷ []) []
    by_case (inl same) =
        let less = le-ltb i n (omega arith) in
        let next = lt-ltb i (suc n) (omega arith) in
        let here = eq-eqb n i (sym same) in
        ap₂ (λ (a b : Bool). cond (a && differs before now i) (get_or now i 0 ∷ []) []
        ++ cond (differs before now n && b) (get_or now n 0 ∷ []) []) less here
        ∙ (ap (λ (m : ℕ). cond (differs before now m && true) (get_or now m 0 ∷ []) []) (sym same)
        ∙ (ap (λ (b : Bool). cond b (get_or now i 0 ∷ []) []) (and_true (differs before now i))
        ∙ sym (ap (λ (b : Bool). cond (b && differs before now i) (get_or now i 0 ∷ []) []) next)))
    by_case (inr apart) =
        let there = ne_eqb n i (λ e. apart (sym e)) in
        ap (λ (b : Bool). cond (nat_lt i n && differs before now i) (get_or now i 0 ∷ []) []
        ++ cond (differs before now n && b) (get_or now n 0 ∷ []) []) there
        ∙ (ap (λ (b : Bool). cond (nat_lt i n && differs before now i) (get_or now i 0 ∷ []) [] ++ cond b (get_or now n 0 ∷ []) [])
        (and_false (differs before now n))
        ∙ (append-nil _ ∙ ap (λ (b : Bool). cond (b && differs before now i) (get_or now i 0 ∷ []) []) (same_test (cases_lt i n))))
      where
        same_test : ((i < n) ⊎ (n ≤ i)) → nat_lt i n ≡ nat_lt i (suc n)
        same_test (inl l) = lt-ltb i n l ∙ sym (lt-ltb i (suc n) (omega arith))
        same_test (inr m) = le-ltb i n m ∙ sym (le-ltb i (suc n) (omega arith))

pub told-append : (i : ℕ) (xs ys : List Instant) → told_in i (xs ++ ys) ≡ told_in i xs ++ told_in i ys
told-append i xs ys = flat_map-append _ xs ys

told_instant : (i clock : ℕ) (cs : List Change) → told_in i (instant_of clock cs) ≡ of_fifo i cs
told_instant i clock [] = refl
told_instant i clock (x ∷ xs) = append-nil _

-- ---- clock after clock

pub last_push : (n : ℕ) (xs : List ℕ) (v : ℕ) → last_or n (xs ++ v ∷ []) ≡ v
last_push n [] v = refl
last_push n (x ∷ xs) v = last_push x xs v

varies_push : (n : ℕ) (xs : List ℕ) (v : ℕ) → Varies n xs → v ≢ last_or n xs → Varies n (xs ++ v ∷ [])
varies_push n [] v h other = (other, tt)
varies_push n (x ∷ xs) v h other = (h.0, varies_push x xs v h.1 other)

-- what is told up to a clock ends with the fill there, and varies
abbrev TellsUpTo : Plan → ℕ → ℕ → Type 0
TellsUpTo p i c = (last_or 0 (told_in i (instants_to p c)) ≡ get_or (fills p c) i 0) × Varies 0 (told_in i (instants_to p c))

-- what an instant adds of a FIFO
told_at : (p : Plan) (i c : ℕ) → i < length (fifos p)
    → told_in i (instant_at p (c + 1)) ≡ cond (differs (fills p c) (fills p (c + 1)) i) (get_or (fills p (c + 1)) i 0 ∷ []) []
told_at p i c l =
    let same : (c + 1) - 1 ≡ c = omega arith in
    let inside : i < length (fills p (c + 1)) = omega (arith, length-map (fifos p) (λ f. fill p f (c + 1))) in
    told_instant i (c + 1) (changes_between (fills p ((c + 1) - 1)) (fills p (c + 1)))
    ∙ (ap (λ (b : ℕ). of_fifo i (changes_between (fills p b) (fills p (c + 1)))) same
    ∙ (changed_to (fills p c) (fills p (c + 1)) i (length (fills p (c + 1)))
    ∙ ap (λ (b : Bool). cond (b && differs (fills p c) (fills p (c + 1)) i) (get_or (fills p (c + 1)) i 0 ∷ []) [])
    (lt-ltb i (length (fills p (c + 1))) inside)))

pub told_next : (p : Plan) (i c : ℕ) → i < length (fifos p)
    → told_in i (instants_to p (c + 1))
    ≡ told_in i (instants_to p c) ++ cond (differs (fills p c) (fills p (c + 1)) i) (get_or (fills p (c + 1)) i 0 ∷ []) []
told_next p i c l =
    ap (told_in i) (instants_more p c)
    ∙ (told-append i (instants_to p c) (instant_at p (c + 1)) ∙ ap (λ (xs : List ℕ). told_in i (instants_to p c) ++ xs) (told_at p i c l))

tells_next : (p : Plan) (i c : ℕ) → i < length (fifos p) → TellsUpTo p i c → (b : Bool) → differs (fills p c) (fills p (c + 1)) i ≡ b
    → TellsUpTo p i (c + 1)
tells_next p i c l before true e =
    let now = told_next p i c l
    ∙ ap (λ (b : Bool). told_in i (instants_to p c) ++ cond b (get_or (fills p (c + 1)) i 0 ∷ []) []) e in
    let other : get_or (fills p (c + 1)) i 0 ≢ last_or 0 (told_in i (instants_to p c)) =
    λ same. is_other (same ∙ before.0) in (
      ap (last_or 0) now ∙ last_push 0 (told_in i (instants_to p c)) (get_or (fills p (c + 1)) i 0),
      subst (Varies 0) (sym now) (varies_push 0 (told_in i (instants_to p c)) (get_or (fills p (c + 1)) i 0) before.1 other),
    )
  where
    is_other : get_or (fills p (c + 1)) i 0 ≡ get_or (fills p c) i 0 → ⊥
    is_other same =
        let wrong = sym e ∙ ap not (eq-eqb (get_or (fills p (c + 1)) i 0) (get_or (fills p c) i 0) same) in cc
tells_next p i c l before false e =
    let now = told_next p i c l
    ∙ (ap (λ (b : Bool). told_in i (instants_to p c) ++ cond b (get_or (fills p (c + 1)) i 0 ∷ []) []) e ∙ append-nil _) in (
      ap (last_or 0) now ∙ (before.0 ∙ sym same),
      subst (Varies 0) (sym now) before.1,
    )
  where
    not_false : (b : Bool) → not b ≡ false → b ≡ true
    not_false true h = refl
    not_false false h = cc

    same : get_or (fills p (c + 1)) i 0 ≡ get_or (fills p c) i 0
    same = eqb-true (get_or (fills p (c + 1)) i 0) (get_or (fills p c) i 0)
        (not_false (get_or (fills p (c + 1)) i 0 == get_or (fills p c) i 0) e)

pub tells_up_to : (p : Plan) (i : ℕ) → i < length (fifos p) → get_or (fills p 0) i 0 ≡ 0 → (c : ℕ) → TellsUpTo p i c
tells_up_to p i l first zero =
    subst (λ (xs : List Instant). (last_or 0 (told_in i xs) ≡ get_or (fills p 0) i 0) × Varies 0 (told_in i xs)) (sym (instants_zero p))
    (sym first, tt)
tells_up_to p i l first (suc c) =
    let e : c + 1 ≡ suc c = omega arith in
    subst (λ (n : ℕ). TellsUpTo p i n) e
    (tells_next p i c l (tells_up_to p i l first c) (differs (fills p c) (fills p (c + 1)) i) refl)

-- ---- the instants up to a clock

abbrev up_to : ℕ → List Instant → List Instant
up_to c xs = filter (λ (i : Instant). nat_le i.clock c) xs

-- an instant of a clock is kept or not, by its clock
kept_of : (c clock : ℕ) (cs : List Change) (b : Bool) → nat_le clock c ≡ b → up_to c (instant_of clock cs) ≡ cond b (instant_of clock cs) []
kept_of c clock [] true e = refl
kept_of c clock [] false e = refl
kept_of c clock (x ∷ xs) b e = ap (λ (t : Bool). cond t (record { clock = clock; changes = x ∷ xs } ∷ []) []) e ∙ by_test b
  where
    by_test : (t : Bool) → cond t (record { clock = clock; changes = x ∷ xs } ∷ []) [] ≡ cond t (instant_of clock (x ∷ xs)) []
    by_test true = refl
    by_test false = refl

all_kept : (p : Plan) (c m : ℕ) → m ≤ c → up_to c (instants_to p m) ≡ instants_to p m
all_kept p c zero l = ap (up_to c) (instants_zero p) ∙ sym (instants_zero p)
all_kept p c (suc m) l =
    let e : suc m ≡ m + 1 = omega arith in
    let more = ap (instants_to p) e ∙ instants_more p m in
    ap (up_to c) more
    ∙ (filter-append (λ (i : Instant). nat_le i.clock c) (instants_to p m) (instant_at p (m + 1))
    ∙ (ap₂ (λ (xs ys : List Instant). xs ++ ys) (all_kept p c m (omega arith))
    (kept_of c (m + 1) (changes_between (fills p ((m + 1) - 1)) (fills p (m + 1))) true (le-leb (m + 1) c (omega arith)))
    ∙ sym more))

none_kept : (p : Plan) (c n : ℕ) → up_to c (instants_to p (n + c)) ≡ instants_to p c
none_kept p c zero = ap (λ (m : ℕ). up_to c (instants_to p m)) (omega arith) ∙ all_kept p c c (omega arith)
none_kept p c (suc n) =
    let e : suc n + c ≡ (n + c) + 1 = omega arith in
    ap (λ (m : ℕ). up_to c (instants_to p m)) e
    ∙ (ap (up_to c) (instants_more p (n + c))
    ∙ (filter-append (λ (i : Instant). nat_le i.clock c) (instants_to p (n + c)) (instant_at p ((n + c) + 1))
    ∙ (ap₂ (λ (xs ys : List Instant). xs ++ ys) (none_kept p c n)
    (kept_of c ((n + c) + 1) (changes_between (fills p (((n + c) + 1) - 1)) (fills p ((n + c) + 1))) false
    (lt-leb ((n + c) + 1) c (omega arith)))
    ∙ append-nil _)))

-- a closing line says nothing
pub told_closing : (i c : ℕ) (b : Bool) (last : ℕ) → told_in i (up_to c (cond b (record { clock = last; changes = [] } ∷ []) [])) ≡ []
told_closing i c false last = refl
told_closing i c true last = by_test (nat_le last c)
  where
    by_test : (t : Bool) → told_in i (cond t (record { clock = last; changes = [] } ∷ []) []) ≡ []
    by_test true = refl
    by_test false = refl

told_here : (p : Plan) (i c : ℕ) → c ≤ last_clock p → told_in i (up_to c (wave_of p).later) ≡ told_in i (instants_to p c)
told_here p i c l =
    let e : (last_clock p - c) + c ≡ last_clock p = omega arith in
    let before = ap (λ (m : ℕ). up_to c (instants_to p m)) (sym e) ∙ none_kept p c (last_clock p - c) in
    ap (λ (xs : List Instant). told_in i (up_to c xs)) (later_is p)
    ∙ (ap (told_in i) (filter-append (λ (x : Instant). nat_le x.clock c) (instants_to p (last_clock p)) (closing_instant p (last_clock p)))
    ∙ (told-append i (up_to c (instants_to p (last_clock p))) (up_to c (closing_instant p (last_clock p)))
    ∙ (ap₂ (λ (xs ys : List ℕ). xs ++ ys) (ap (told_in i) before)
    (told_closing i c (nat_lt 0 (last_clock p) && not (has_some (instant_at p (last_clock p)))) (last_clock p))
    ∙ append-nil _)))

pub told_fill_is : (p : Plan) (i c : ℕ) → i < length (fifos p) → get_or (fills p 0) i 0 ≡ 0 → c ≤ last_clock p
    → told_fill (wave_of p) i c ≡ get_or (fills p c) i 0
unfolding told_fill
told_fill_is p i c l first m = ap (last_or 0) (told_here p i c m) ∙ (tells_up_to p i l first c).0
