-- Searches in lists in order of time.
use Rattle.std.proofs.Common.{◌≡◌, ◌⊎◌, ℕ, zero, suc, ◌+◌, ◌<◌, ◌≤◌, List, [], ◌∷◌, length, take, drop, get_or, arith, inl, inr, Bool, true}
use Rattle.std.proofs.Common.{false, ◌||◌, ◌&&◌, ltb, leb, refl, sym, ◌∙◌, ap, subst, Option, Some, None}
use Rattle.std.proofs.lemmas.Bool.{cases_lt, cases_eq, and_parts, leb-true, ltb-true, lt-leb}
use Rattle.std.proofs.lemmas.List.{take-append-drop, get_or_default}
use Rattle.std.specs.{Prelude.AllPairs, List.filter, List.AllByRecursion}
use Rattle.path_text.specs.{before, Span, LoggedAccess, is_of, Link, Find, latest_one, AreSpansSorted, AreChronological, find_clock}
use Rattle.path_text.specs.{precedes_link, precedes, lies_in}
use Rattle.port_clocks.proofs.Counts.{before_above, before_below, before_most}
use Rattle.flow_word.specs.declared.access.Kind.TheVariants.{Read}
use Rattle.path_text.proofs.Latest.{IsSooner, ahead, none}

-- ---- the span that has a clock

-- where one begins after the clock, all later ones do
pub above_middle : (spans : List Span) → AreSpansSorted spans → (middle clock : ℕ) (e : Span) → middle < length spans
    → clock < (get_or spans middle e).first → (k : ℕ) (d : Span) → middle ≤ k → k < length spans
    → clock < (get_or spans k d).first
above_middle spans a middle clock e l here k d m n = elim (cases_eq k middle) [
  | inl same ↦ rw same (rw (get_or_default spans middle d e l) here)
  | inr other ↦
      let before = a.in_order middle k d (omega arith) n in
      let some = a.some middle d l in
      let begins : clock < (get_or spans middle d).first = rw (get_or_default spans middle d e l) here in
      omega arith
]

-- where one ends by the clock, all earlier ones do
pub below_middle : (spans : List Span) → AreSpansSorted spans → (middle clock : ℕ) (e : Span) → middle < length spans
    → (get_or spans middle e).until ≤ clock → (k : ℕ) (d : Span) → k < middle + 1
    → (get_or spans k d).until ≤ clock
below_middle spans a middle clock e l here k d m = elim (cases_eq k middle) [
  | inl same ↦ rw same (rw (get_or_default spans middle d e l) here)
  | inr other ↦
      let before = a.in_order k middle d (omega arith) l in
      let some = a.some middle d l in
      let ends : (get_or spans middle d).until ≤ clock = rw (get_or_default spans middle d e l) here in
      omega arith
]

-- ---- how many clocks come before one

pub count_is : (xs : List ℕ) → AllPairs (λ a b. a ≤ b) xs → (n c : ℕ) → n ≤ length xs → ((k : ℕ) → k < n → get_or xs k 0 < c)
    → ((k : ℕ) → n ≤ k → k < length xs → c ≤ get_or xs k 0) → n ≡ before xs c
count_is xs h n c l below above = omega (arith, low n l below, high (cases_lt n (length xs)))
  where
    low : (n : ℕ) → n ≤ length xs → ((k : ℕ) → k < n → get_or xs k 0 < c) → n ≤ before xs c
    low zero l below = omega arith
    low (suc j) l below = before_above xs h j c (omega arith) (below j (omega arith))

    high : (n < length xs) ⊎ (length xs ≤ n) → before xs c ≤ n
    high (inl w) = before_below xs h n c w (above n (omega arith) w)
    high (inr w) = omega (arith, before_most xs c)

-- ---- the latest of the queries that are kept

-- what is read past the end of a list
abbrev pub no_access : LoggedAccess
no_access = record { event = record { «module» = 0; kind = Read; channel = 0; cycle = 0 }; outcome = false; value = None }

abbrev pub no_find : Find
no_find = record { access = no_access; missed = 0; pushed = 0 }

taken : (P : Find → Type 0) (xs : List Find) (n : ℕ) → ((k : ℕ) (d : Find) → k < n → k < length xs → P (get_or xs k d))
    → AllByRecursion P (take n xs)
taken P [] zero h = tt
taken P [] (suc n) h = tt
taken P (x ∷ xs) zero h = tt
taken P (x ∷ xs) (suc n) h = (h 0 x (omega arith) (omega arith), taken P xs n (λ k d l m. h (suc k) d (omega arith) (omega arith)))

left_over : (P : Find → Type 0) (xs : List Find) (n : ℕ) → ((k : ℕ) (d : Find) → n ≤ k → k < length xs → P (get_or xs k d))
    → AllByRecursion P (drop n xs)
left_over P [] zero h = tt
left_over P [] (suc n) h = tt
left_over P (x ∷ xs) zero h = (h 0 x (omega arith) (omega arith), left_over P xs zero (λ k d l m. h (suc k) d (omega arith) (omega arith)))
left_over P (x ∷ xs) (suc n) h = left_over P xs n (λ k d l m. h (suc k) d (omega arith) (omega arith))

at_most : (finds : List Find) → AreChronological finds → (n : ℕ) (e : Find) → n < length finds → (k : ℕ) (d : Find) → k ≤ n
    → find_clock (get_or finds k d) ≤ find_clock (get_or finds n e)
at_most finds h n e l k d m = elim (cases_eq k n) [
  | inl same ↦
      let at : get_or finds n d ≡ get_or finds n e = get_or_default finds n d e l in
      let first : get_or finds k d ≡ get_or finds n d = ap (λ (i : ℕ). get_or finds i d) same in
      let clocks = ap find_clock (first ∙ at) in
      omega arith
  | inr other ↦
      let at = ap find_clock (get_or_default finds n d e l) in
      let rises : find_clock (get_or finds k d) ≤ find_clock (get_or finds n d) = h k n d (omega arith) l in
      omega arith
]

pub later_middle : (finds : List Find) → AreChronological finds → (middle clock : ℕ) (e : Find) → middle < length finds
    → clock < find_clock (get_or finds middle e) → (k : ℕ) (d : Find) → middle ≤ k → k < length finds
    → clock < find_clock (get_or finds k d)
later_middle finds h middle clock e l here k d m n =
    let rises = at_most finds h k d n middle e m in
    omega arith

outside : (l : Link) (f : Find) → l.last < find_clock f → lies_in l f ≡ false
outside l f h =
    rw (lt-leb (find_clock f) l.last h) (no (is_of l.«module» f.access) (leb l.first (find_clock f)) (leb l.first f.missed))
  where
    no : (a b c : Bool) → (a && ((b && false) && c)) ≡ false
    no true true c = refl
    no true false c = refl
    no false b c = refl

pub none_beyond : (finds : List Find) (l : Link) (n : ℕ)
    → ((k : ℕ) (d : Find) → n ≤ k → k < length finds → l.last < find_clock (get_or finds k d))
    → None ≡ latest_one find_clock (filter (lies_in l) (drop n finds))
none_beyond finds l n h =
    sym (ap (latest_one find_clock) (none find_clock (lies_in l) (drop n finds)
    (left_over (λ f. lies_in l f ≡ false) finds n (λ k d m w. outside l (get_or finds k d) (h k d m w)))))

within_first : (l : Link) (f : Find) → lies_in l f ≡ true → l.first ≤ find_clock f
within_first l f e =
    let a = and_parts (is_of l.«module» f.access) ((leb l.first (find_clock f) && leb (find_clock f) l.last) && leb l.first f.missed) e in
    let b = and_parts (leb l.first (find_clock f) && leb (find_clock f) l.last) (leb l.first f.missed) a.1 in
    let c = and_parts (leb l.first (find_clock f)) (leb (find_clock f) l.last) b.0 in
    leb-true l.first (find_clock f) c.0

-- where the one at n comes before the link or before what was found, none up to it is later
pub ahead_is : (finds : List Find) → AreChronological finds → (l : Link) (n : ℕ) (e : Find) (found : Option Find) → n < length finds
    → precedes_link (get_or finds n e) l found ≡ true → found ≡ latest_one find_clock (filter (lies_in l) (drop (suc n) finds))
    → found ≡ latest_one find_clock (filter (lies_in l) finds)
ahead_is finds h l n e found m is rest =
    rest ∙ (sym (ahead find_clock (lies_in l) (take (suc n) finds) (drop (suc n) finds)
    (taken (λ f. lies_in l f ≡ true → IsSooner find_clock (find_clock f) (latest_one find_clock (filter (lies_in l) (drop (suc n) finds))))
    finds (suc n) (λ k d a b. earlier k d (at_most finds h n e m k d (omega arith)))))
    ∙ ap (λ (fs : List Find). latest_one find_clock (filter (lies_in l) fs)) (take-append-drop (suc n) finds))
  where
    by_found : (c : ℕ) → c ≤ find_clock (get_or finds n e) → (o : Option Find) → precedes (get_or finds n e) o ≡ true → IsSooner
        find_clock c o
    by_found c w None t = absurd cc
    by_found c w (Some g) t =
        let less = ltb-true (find_clock (get_or finds n e)) (find_clock g) t in
        omega arith

    by_first : (k : ℕ) (d : Find) → find_clock (get_or finds k d) ≤ find_clock (get_or finds n e) → (b : Bool)
        → ltb (find_clock (get_or finds n e)) l.first ≡ b → (b || precedes (get_or finds n e) found) ≡ true
        → lies_in l (get_or finds k d) ≡ true → IsSooner find_clock (find_clock (get_or finds k d)) found
    by_first k d w true less t inside =
        let before = ltb-true (find_clock (get_or finds n e)) l.first less in
        let from = within_first l (get_or finds k d) inside in
        absurd (omega arith)
    by_first k d w false less t inside = by_found (find_clock (get_or finds k d)) w found t

    earlier : (k : ℕ) (d : Find) → find_clock (get_or finds k d) ≤ find_clock (get_or finds n e) → lies_in l (get_or finds k d) ≡ true
        → IsSooner find_clock (find_clock (get_or finds k d)) (latest_one find_clock (filter (lies_in l) (drop (suc n) finds)))
    earlier k d w inside =
        subst (IsSooner find_clock (find_clock (get_or finds k d))) rest
        (by_first k d w (ltb (find_clock (get_or finds n e)) l.first) refl is inside)
