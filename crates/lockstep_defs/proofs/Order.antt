-- The history stands in order of clocks and modules.
use Rattle.std.proofs.Common.{◌≡◌, ◌≢◌, ℕ, zero, suc, ◌+◌, ◌≤◌, ◌<◌, ◌==◌, List, [], ◌∷◌, ◌++◌, map, length, Bool, true, false, cond, refl}
use Rattle.std.proofs.Common.{sym, ◌∙◌, ap₂, subst, arith, ◌⊎◌, inl, inr}
use Rattle.std.proofs.lemmas.Bool.{cases_eq, cond-true, cond-false, eq-eqb, ne_eqb}
use Rattle.std.proofs.lemmas.List.Elements.{All-from_recursion, recursion_from_All}
use Rattle.std.specs.List.{filter, flat_map, enumerate_from, AllByRecursion, AllPairs}
use Rattle.lockstep_defs.specs.{Plan, Element, ClockState, ModuleState, HistoryStep, Exchange, steps_of, IsBefore, requests_of, moves}
use Rattle.lockstep_defs.specs.{answered, step_with, module_step, steps_in, state, history}
use Rattle.lockstep_defs.proofs.{Settled.history-zero, Settled.history-suc, Agrees.all_modules, Queue.all-append}

abbrev pub IsRising : List HistoryStep → Type 0
IsRising [] = Unit {0}
IsRising (s ∷ ss) = AllByRecursion (IsBefore s) ss × IsRising ss

all_map : (P Q : HistoryStep → Type 0) → ((s : HistoryStep) → P s → Q s) → (ss : List HistoryStep) → AllByRecursion P ss
    → AllByRecursion Q ss
all_map P Q f [] h = tt
all_map P Q f (s ∷ ss) h = (f s h.0, all_map P Q f ss h.1)

rising-append : (ss ts : List HistoryStep) → IsRising ss → IsRising ts → AllByRecursion (λ s. AllByRecursion (IsBefore s) ts) ss
    → IsRising (ss ++ ts)
rising-append [] ts h k between = k
rising-append (s ∷ ss) ts h k between = (all-append (IsBefore s) ss ts h.0 between.0, rising-append ss ts h.1 k between.1)

-- ---- the steps of one clock

-- a step of this clock, by a module from n on
abbrev IsFrom : ℕ → ℕ → HistoryStep → Type 0
IsFrom c n s = (s.clock ≡ c) × (n ≤ s.«module»)

step_with-from : (c i n : ℕ) (xs : List Exchange) → n ≤ i → AllByRecursion (IsFrom c n) (step_with c i xs)
step_with-from c i n [] h = tt
step_with-from c i n (x ∷ xs) h = ((refl, h), tt)

step_of-from : (p : Plan) (c n : ℕ) (contents : List (List Element)) (m : ℕ × ModuleState) → n ≤ m.0
    → AllByRecursion (IsFrom c n) (module_step p c contents m)
step_of-from p c n contents m h = by_test (moves p c contents m)
  where
    by_test : (b : Bool) → AllByRecursion (IsFrom c n) (cond b (step_with c m.0 (map (answered p c contents) (requests_of p m))) [])
    by_test true = step_with-from c m.0 n (map (answered p c contents) (requests_of p m)) h
    by_test false = tt

all_from : (p : Plan) (c : ℕ) (contents : List (List Element)) (n k : ℕ) (ss : List ModuleState) → n ≤ k
    → AllByRecursion (IsFrom c n) (flat_map (module_step p c contents) (enumerate_from k ss))
all_from p c contents n k [] h = tt
all_from p c contents n k (s ∷ ss) h =
    all-append (IsFrom c n) (module_step p c contents (k, s)) (flat_map (module_step p c contents) (enumerate_from (k + 1) ss))
    (step_of-from p c n contents (k, s) h) (all_from p c contents n (k + 1) ss (omega arith))

-- one module's step, and then those of later modules
one_then : (p : Plan) (c i : ℕ) (xs : List Exchange) (ts : List HistoryStep) → AllByRecursion (IsFrom c (i + 1)) ts → IsRising ts
    → IsRising (step_with c i xs ++ ts)
one_then p c i [] ts h k = k
one_then p c i (x ∷ xs) ts h k = (all_map (IsFrom c (i + 1)) _ (λ s from. later s from) ts h, k)
  where
    later : (s : HistoryStep) → IsFrom c (i + 1) s → IsBefore (record { clock = c; «module» = i; exchanges = x ∷ xs }) s
    later s from = let same = from.0 in let more = from.1 in inr (omega arith, omega arith)

clock_rises : (p : Plan) (c : ℕ) (contents : List (List Element)) (n : ℕ) (ss : List ModuleState)
    → IsRising (flat_map (module_step p c contents) (enumerate_from n ss))
clock_rises p c contents n [] = tt
clock_rises p c contents n (s ∷ ss) =
    by_test (moves p c contents (n, s)) (all_from p c contents (n + 1) (n + 1) ss (omega arith)) (clock_rises p c contents (n + 1) ss)
  where
    by_test : (b : Bool) → AllByRecursion (IsFrom c (n + 1)) (flat_map (module_step p c contents) (enumerate_from (n + 1) ss))
        → IsRising (flat_map (module_step p c contents) (enumerate_from (n + 1) ss))
        → IsRising (cond b (step_with c n (map (answered p c contents) (requests_of p (n, s)))) []
        ++ flat_map (module_step p c contents) (enumerate_from (n + 1) ss))
    by_test true h k = one_then p c n (map (answered p c contents) (requests_of p (n, s))) _ h k
    by_test false h k = k

-- ---- all clocks

steps_from : (p : Plan) (c : ℕ) (st : ClockState) → AllByRecursion (IsFrom c 0) (steps_in p c st)
unfolding steps_in
steps_from p c st = all_from p c st.contents 0 0 st.modules (omega arith)

steps_rise : (p : Plan) (c : ℕ) (st : ClockState) → IsRising (steps_in p c st)
unfolding steps_in
steps_rise p c st = clock_rises p c st.contents 0 st.modules

-- each step before clock c has a lesser clock
pub before_clock : (p : Plan) (c : ℕ) → AllByRecursion (λ s. s.clock < c) (history p c)
before_clock p zero = rw history-zero tt
before_clock p (suc c) =
    rw history-suc
    (all-append (λ s. s.clock < suc c) (history p c) (steps_in p c (state p c))
    (all_map (λ s. s.clock < c) (λ s. s.clock < suc c) (λ s l. omega arith) (history p c) (before_clock p c))
    (all_map (IsFrom c 0) (λ s. s.clock < suc c) (λ s from. let same = from.0 in omega arith) (steps_in p c (state p c))
    (steps_from p c (state p c))))

pub history_rises : (p : Plan) (c : ℕ) → IsRising (history p c)
history_rises p zero = rw history-zero tt
history_rises p (suc c) =
    rw history-suc
    (rising-append (history p c) (steps_in p c (state p c)) (history_rises p c) (steps_rise p c (state p c))
    (all_map (λ s. s.clock < c) (λ s. AllByRecursion (IsBefore s) (steps_in p c (state p c)))
    (λ s l. all_map (IsFrom c 0) (IsBefore s) (λ t from. let same = from.0 in inl (omega arith)) (steps_in p c (state p c))
    (steps_from p c (state p c)))
    (history p c) (before_clock p c)))

-- as a fact of each two steps
pairs-from_rising : (ss : List HistoryStep) → IsRising ss → AllPairs IsBefore ss
pairs-from_rising [] h i j d l m = absurd (omega arith)
pairs-from_rising (s ∷ ss) h zero zero d l m = absurd (omega arith)
pairs-from_rising (s ∷ ss) h zero (suc j) d l m = All-from_recursion (IsBefore s) ss h.0 j d (omega arith)
pairs-from_rising (s ∷ ss) h (suc i) zero d l m = absurd (omega arith)
pairs-from_rising (s ∷ ss) h (suc i) (suc j) d l m = pairs-from_rising ss h.1 i j d (omega arith) (omega arith)

pub in_order : (p : Plan) (c : ℕ) → AllPairs IsBefore (history p c)
in_order p c = pairs-from_rising (history p c) (history_rises p c)

rising-from_pairs : (ss : List HistoryStep) → AllPairs IsBefore ss → IsRising ss
rising-from_pairs [] h = tt
rising-from_pairs (s ∷ ss) h = (
  recursion_from_All (IsBefore s) ss (λ k d l. h 0 (suc k) d (omega arith) (omega arith)),
  rising-from_pairs ss (λ i j d l m. h (suc i) (suc j) d (omega arith) (omega arith)),
)

-- ---- no other list in order has the same steps of each module

never_both : (s t : HistoryStep) → IsBefore s t → IsBefore t s → ⊥
never_both s t (inl a) (inl b) = omega arith
never_both s t (inl a) (inr b) = let e = b.0 in omega arith
never_both s t (inr a) (inl b) = let e = a.0 in omega arith
never_both s t (inr a) (inr b) = let e = a.1 in let f = b.1 in omega arith

found : (P : HistoryStep → Type 0) (f : HistoryStep → Bool) (ss : List HistoryStep) (t : HistoryStep) (rest : List HistoryStep)
    → AllByRecursion P ss → filter f ss ≡ t ∷ rest → P t
found P f [] t rest h e = cc
found P f (s ∷ ss) t rest h e = by_test (f s) (found P f ss t rest h.1) h.0 e
  where
    by_test : (b : Bool) → (filter f ss ≡ t ∷ rest → P t) → P s → cond b (s ∷ filter f ss) (filter f ss) ≡ t ∷ rest → P t
    by_test true later here e = let same : s ≡ t = cc in subst P same here
    by_test false later here e = later e

own_first : (s : HistoryStep) (ss : List HistoryStep) → steps_of s.«module» (s ∷ ss) ≡ s ∷ steps_of s.«module» ss
own_first s ss = cond-true (s.«module» == s.«module») (s ∷ steps_of s.«module» ss) (steps_of s.«module» ss)
    (eq-eqb s.«module» s.«module» refl)

other_first : (i : ℕ) (s : HistoryStep) (ss : List HistoryStep) → (s.«module» ≢ i) → steps_of i (s ∷ ss) ≡ steps_of i ss
other_first i s ss ne = cond-false (s.«module» == i) (s ∷ steps_of i ss) (steps_of i ss) (ne_eqb s.«module» i ne)

-- two lists in order with the same steps of each module are the same
pub one_order : (ss ts : List HistoryStep) → IsRising ss → IsRising ts → ((i : ℕ) → steps_of i ss ≡ steps_of i ts) → ss ≡ ts
one_order [] [] a b h = refl
one_order [] (t ∷ ts) a b h = let e = h t.«module» ∙ own_first t ts in cc
one_order (s ∷ ss) [] a b h = let e = sym (own_first s ss) ∙ h s.«module» in cc
one_order (s ∷ ss) (t ∷ ts) a b h = by_case (one_order ss ts a.1 b.1) (cases_eq s.«module» t.«module»)
  where
    by_case : (((i : ℕ) → steps_of i ss ≡ steps_of i ts) → ss ≡ ts) → ((s.«module» ≡ t.«module») ⊎ (s.«module» ≡ t.«module» → ⊥))
        → (s ∷ ss) ≡ (t ∷ ts)
    by_case rest (inl e) =
        let both : s ∷ steps_of s.«module» ss ≡ t ∷ steps_of s.«module» ts =
        sym (own_first s ss)
        ∙ (h s.«module» ∙ cond-true (t.«module» == s.«module») (t ∷ steps_of s.«module» ts) (steps_of s.«module» ts)
        (eq-eqb t.«module» s.«module» (sym e))) in
        let same : s ≡ t = cc in
        ap₂ (λ (x : HistoryStep) (xs : List HistoryStep). x ∷ xs) same
        (rest (λ i. elim (cases_eq s.«module» i) [
          | inl k ↦ let here : steps_of s.«module» ss
              ≡ steps_of s.«module» ts = cc in subst (λ (j : ℕ). steps_of j ss ≡ steps_of j ts) k here
          | inr k ↦ sym (other_first i s ss k) ∙ (h i ∙ other_first i t ts (λ q. k (e ∙ q)))
        ]))
    by_case rest (inr ne) =
        let s_before = found (IsBefore s) (λ (x : HistoryStep). x.«module» == t.«module») ss t (steps_of t.«module» ts) a.0
        (sym (other_first t.«module» s ss ne) ∙ (h t.«module» ∙ own_first t ts)) in
        let t_before = found (IsBefore t) (λ (x : HistoryStep). x.«module» == s.«module») ts s (steps_of s.«module» ss) b.0
        (sym (other_first s.«module» t ts (λ q. ne (sym q))) ∙ (sym (h s.«module») ∙ own_first s ss)) in
        absurd (never_both s t s_before t_before)

pub only_history : (p : Plan) (c : ℕ) (steps : List HistoryStep) → AllPairs IsBefore steps
    → ((i : ℕ) → steps_of i steps ≡ steps_of i (history p c))
    → steps ≡ history p c
only_history p c steps h same = one_order steps (history p c) (rising-from_pairs steps h) (history_rises p c) same

-- ---- only modules of the plan have steps

step_number : (p : Plan) (c : ℕ) (contents : List (List Element)) (n : ℕ) (m : ℕ × ModuleState) → m.0 < n
    → AllByRecursion (λ s. s.«module» < n) (module_step p c contents m)
step_number p c contents n m h = by_test (moves p c contents m)
  where
    with_number : (xs : List Exchange) → AllByRecursion (λ s. s.«module» < n) (step_with c m.0 xs)
    with_number [] = tt
    with_number (x ∷ xs) = (h, tt)

    by_test : (b : Bool) → AllByRecursion (λ s. s.«module» < n)
        (cond b (step_with c m.0 (map (answered p c contents) (requests_of p m))) [])
    by_test true = with_number (map (answered p c contents) (requests_of p m))
    by_test false = tt

clock_numbers : (p : Plan) (c : ℕ) (contents : List (List Element)) (k n : ℕ) (ss : List ModuleState) → k + length ss ≤ n
    → AllByRecursion (λ s. s.«module» < n) (flat_map (module_step p c contents) (enumerate_from k ss))
clock_numbers p c contents k n [] h = tt
clock_numbers p c contents k n (s ∷ ss) h =
    all-append (λ (x : HistoryStep). x.«module» < n) (module_step p c contents (k, s))
    (flat_map (module_step p c contents) (enumerate_from (k + 1) ss))
    (step_number p c contents n (k, s) (omega arith)) (clock_numbers p c contents (k + 1) n ss (omega arith))

steps_number : (p : Plan) (c : ℕ) → AllByRecursion (λ s. s.«module» < length p.design.modules) (steps_in p c (state p c))
unfolding steps_in
steps_number p c = clock_numbers p c (state p c).contents 0 (length p.design.modules) (state p c).modules (omega (arith, all_modules p c))

pub history_numbers : (p : Plan) (c : ℕ) → AllByRecursion (λ s. s.«module» < length p.design.modules) (history p c)
history_numbers p zero = rw history-zero tt
history_numbers p (suc c) =
    rw history-suc
    (all-append (λ s. s.«module» < length p.design.modules) (history p c) (steps_in p c (state p c)) (history_numbers p c)
    (steps_number p c))
