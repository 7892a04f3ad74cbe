-- How a module polls, access by access.
use Rattle.std.proofs.Common.{◌≡◌, ◌≢◌, ℕ, zero, suc, ◌+◌, ◌^◌, ◌≤◌, ◌<◌, List, [], ◌∷◌, ◌++◌, length, take, set, replicate, Bool, true}
use Rattle.std.proofs.Common.{false, ◌&&◌, ◌||◌, ◌==◌, not, cond, fold, Option, Some, None, refl, sym, ◌∙◌, ap, ap₂, subst, arith, get_or}
use Rattle.std.proofs.Common.{inl, inr, append_assoc, length-set}
use Rattle.std.proofs.lemmas.Bool.{cases_eq, eq-eqb, ne_eqb}
use Rattle.std.proofs.lemmas.List.{append-nil, length-take-le, take_more, get_or-set_same, get_or-set_other, get_or-replicate}
use Rattle.std.proofs.lemmas.List.{length-replicate}
use Rattle.std.proofs.{lemmas.List.Elements.filter-append, lemmas.List.Folds.list_any-append}
use Rattle.std.proofs.lemmas.List.Sums.{count_by-le-length, fold-append, length-filter, sum_by-cons}
use Rattle.std.specs.{Prelude.count_by, List.filter, List.list_any, List.range_with_len, List.AllByRecursion}
use Rattle.lockstep_defs.proofs.Queue.{all-append}
use Rattle.stall_text.specs.{Plan, last_clock, acts, LoggedAccess, access_clocks, is_missed, is_of, log_of_module, polls_in, polled_clocks}
use Rattle.stall_text.specs.{unpolled, one_if, polled_so_far, is_last, polling_with, polling_of, ArePollings}
use Rattle.stall_text.specs.declared.polls.Polling.{Polling}
use Rattle.timelines.proofs.Acts.{early}
use Rattle.stall_text.proofs.Accesses.{Climbs, climbs, clock_list, all_clocks, log_is}

-- ---- counts that differ in one clock

count_more : (f : ℕ → Bool) (a n : ℕ) → count_by f (range_with_len a (suc n)) ≡ one_if (f a) + count_by f (range_with_len (a + 1) n)
count_more f a n = sum_by-cons (λ x. one_if (f x)) a (range_with_len (a + 1) n)

same_count : (f g : ℕ → Bool) (a n : ℕ) → ((x : ℕ) → a ≤ x → f x ≡ g x) → count_by f (range_with_len a n) ≡ count_by g (range_with_len a n)
same_count f g a zero h = refl
same_count f g a (suc n) h =
    let first = ap one_if (h a (omega arith)) in
    let rest = same_count f g (a + 1) n (λ x l. h x (omega arith)) in
    omega (arith, count_more f a n, count_more g a n)

change_one : (f g : ℕ → Bool) (c : ℕ) → ((x : ℕ) → x ≢ c → f x ≡ g x) → (a n : ℕ) → a ≤ c → c < a + n
    → count_by g (range_with_len a n) + one_if (f c) ≡ count_by f (range_with_len a n) + one_if (g c)
change_one f g c h a zero l m = absurd (omega arith)
change_one f g c h a (suc n) l m = elim (cases_eq a c) [
  | inl here ↦
      let rest = same_count f g (a + 1) n (λ x k. h x (λ e. absurd (omega arith))) in
      let at_f = ap (λ (x : ℕ). one_if (f x)) here in
      let at_g = ap (λ (x : ℕ). one_if (g x)) here in
      omega (arith, count_more f a n, count_more g a n)
  | inr other ↦
      let first = ap one_if (h a other) in
      let rest = change_one f g c h (a + 1) n (omega arith) (omega arith) in
      omega (arith, count_more f a n, count_more g a n)
]

-- ---- one access more

abbrev at : ℕ → LoggedAccess → Bool
at c a = a.event.cycle == c

-- in that clock, and no missed query
abbrev gets : ℕ → LoggedAccess → Bool
gets c a = (a.event.cycle == c) && not (is_missed a)

any_last : (test : LoggedAccess → Bool) (xs : List LoggedAccess) (a : LoggedAccess)
    → list_any test (xs ++ a ∷ []) ≡ (list_any test xs || test a)
any_last test xs a = list_any-append test xs (a ∷ []) ∙ ap (λ (b : Bool). list_any test xs || b) (or_none (test a))
  where
    or_none : (b : Bool) → (b || false) ≡ b
    or_none true = refl
    or_none false = refl

-- no access comes in a later clock
abbrev UpTo : ℕ → List LoggedAccess → Type 0
UpTo c xs = AllByRecursion (λ a. a.event.cycle ≤ c) xs

none_later : (xs : List LoggedAccess) (l c : ℕ) → l < c → UpTo l xs → (list_any (at c) xs ≡ false) × (list_any (gets c) xs ≡ false)
none_later [] l c less h = (refl, refl)
none_later (a ∷ xs) l c less h =
    let rest = none_later xs l c less h.1 in
    let within = h.0 in
    let other = ne_eqb a.event.cycle c (λ e. absurd (omega arith)) in
    (rw other rest.0, rw other rest.1)

-- a clock with an access is within a bound of all
within : (xs : List LoggedAccess) (l c : ℕ) → UpTo c xs → list_any (at l) xs ≡ true → l ≤ c
within [] l c h e = absurd cc
within (a ∷ xs) l c h e = elim (cases_eq a.event.cycle l) [
  | inl here ↦ let bound = h.0 in omega arith
  | inr other ↦ within xs l c h.1 (sym (ap (λ (b : Bool). b || list_any (at l) xs) (ne_eqb a.event.cycle l other)) ∙ e)
]

-- what is kept of these accesses: their last clock, and whether each access of it was missed
abbrev LastIs : ℕ → Option ℕ → Bool → List LoggedAccess → Type 0
LastIs end None missing xs = (xs ≡ []) × (missing ≡ false)
LastIs end (Some l) missing xs =
    (l < end) × UpTo l xs × (list_any (at l) xs ≡ true) × (missing ≡ not (list_any (gets l) xs))

record Stands (end : ℕ) (xs : List LoggedAccess) (m : Polling) : Type 0 where
  count : polled_so_far m ≡ count_by (polls_in xs) (range_with_len 0 end)
  last : LastIs end m.last m.missing xs

module _ (end : ℕ) (xs : List LoggedAccess) (a : LoggedAccess) where
  abbrev c : ℕ
  c = a.event.cycle

  abbrev more : List LoggedAccess
  more = xs ++ a ∷ []

  elsewhere : (x : ℕ) → x ≢ c → polls_in more x ≡ polls_in xs x
  elsewhere x n =
      let other = ne_eqb c x (λ e. n (sym e)) in
      let seen = any_last (at x) xs a ∙ (ap (λ (b : Bool). list_any (at x) xs || b) other ∙ or_none (list_any (at x) xs)) in
      let got = any_last (gets x) xs a
      ∙ (ap (λ (b : Bool). list_any (gets x) xs || (b && not (is_missed a))) other ∙ or_none (list_any (gets x) xs)) in
      ap₂ (λ (s g : Bool). s && not g) seen got
    where
      or_none : (b : Bool) → (b || false) ≡ b
      or_none true = refl
      or_none false = refl

  counts : c < end → count_by (polls_in xs) (range_with_len 0 end) + one_if (polls_in more c)
      ≡ count_by (polls_in more) (range_with_len 0 end) + one_if (polls_in xs c)
  counts l = change_one (polls_in more) (polls_in xs) c elsewhere 0 end (omega arith) (omega arith)

  here : (c == c) ≡ true
  here = eq-eqb c c refl

  up_to : UpTo c xs → UpTo c more
  up_to h = all-append (λ x. x.event.cycle ≤ c) xs (a ∷ []) h (omega arith, tt)

  seen_now : list_any (at c) more ≡ true
  seen_now = any_last (at c) xs a ∙ (ap (λ (b : Bool). list_any (at c) xs || b) here ∙ or_true (list_any (at c) xs))
    where
      or_true : (b : Bool) → (b || true) ≡ true
      or_true true = refl
      or_true false = refl

  got_now : list_any (gets c) more ≡ (list_any (gets c) xs || not (is_missed a))
  got_now = any_last (gets c) xs a ∙ ap (λ (b : Bool). list_any (gets c) xs || (b && not (is_missed a))) here

  -- in a clock that has no access yet
  first_in : (m : Polling) → polled_so_far m ≡ count_by (polls_in xs) (range_with_len 0 end) → UpTo c xs → c < end
      → list_any (at c) xs ≡ false → list_any (gets c) xs ≡ false
      → Stands end more (record { before = polled_so_far m; last = Some c; missing = is_missed a })
  first_in m count up l unseen ungot =
      let missing : not (list_any (gets c) more) ≡ is_missed a =
      ap not (got_now ∙ ap (λ (b : Bool). b || not (is_missed a)) ungot) ∙ not_not (is_missed a) in
      let now : polls_in more c ≡ is_missed a = ap₂ (λ (s g : Bool). s && g) seen_now missing in
      let before : polls_in xs c ≡ false = ap (λ (s : Bool). s && not (list_any (gets c) xs)) unseen in
      let sum = counts l in
      let one = ap one_if now in
      let none = ap one_if before in
      record { count = omega arith; last = (l, up_to up, seen_now, sym missing) }
    where
      not_not : (b : Bool) → not (not b) ≡ b
      not_not true = refl
      not_not false = refl

  -- in the clock of the last
  again_in : (m : Polling) → polled_so_far m ≡ count_by (polls_in xs) (range_with_len 0 end) → UpTo c xs → c < end
      → list_any (at c) xs ≡ true → m.missing ≡ not (list_any (gets c) xs) → m.last ≡ Some c
      → Stands end more (record { before = m.before; last = m.last; missing = m.missing && is_missed a })
  again_in m count up l seen missing last =
      let now_missing : not (list_any (gets c) more) ≡ (m.missing && is_missed a) =
      ap not got_now ∙ (not_or (list_any (gets c) xs) (is_missed a) ∙ ap (λ (b : Bool). b && is_missed a) (sym missing)) in
      let now : polls_in more c ≡ (m.missing && is_missed a) = ap₂ (λ (s g : Bool). s && g) seen_now now_missing in
      let before : polls_in xs c ≡ m.missing = ap (λ (s : Bool). s && not (list_any (gets c) xs)) seen ∙ sym missing in
      let sum = counts l in
      let one = ap one_if now in
      let was = ap one_if before in
      record {
        count = omega arith;
        last = subst (λ (o : Option ℕ). LastIs end o (m.missing && is_missed a) more) (sym last) (l, up_to up, seen_now, sym now_missing);
      }
    where
      not_or : (b d : Bool) → not (b || not d) ≡ (not b && d)
      not_or true d = refl
      not_or false true = refl
      not_or false false = refl

  stands_more : (m : Polling) → Stands end xs m → UpTo c xs → c < end → Stands end more (polling_with m a)
  stands_more m h up l = by_last m.last refl h.last
    where
      new : Polling
      new = record { before = polled_so_far m; last = Some c; missing = is_missed a }

      by_last : (o : Option ℕ) → m.last ≡ o → LastIs end o m.missing xs → Stands end more (polling_with m a)
      by_last None e at_end =
          let unseen = ap (list_any (at c)) at_end.0 in
          let ungot = ap (list_any (gets c)) at_end.0 in
          subst (λ (o : Option ℕ). Stands end more (cond (is_last o c)
          (record { before = m.before; last = m.last; missing = m.missing && is_missed a }) new)) (sym e)
          (first_in m h.count up l unseen ungot)
      by_last (Some k) e at_end =
          let old : Polling = record { before = m.before; last = m.last; missing = m.missing && is_missed a } in
          let here_or_new : Stands end more (cond (is_last (Some k) c) old new) = elim (cases_eq k c) [
            | inl same ↦
                rw (eq-eqb k c same)
                (again_in m h.count up l (subst (λ (x : ℕ). list_any (at x) xs ≡ true) same at_end.2)
                (subst (λ (x : ℕ). m.missing ≡ not (list_any (gets x) xs)) same at_end.3) (e ∙ ap Some same))
            | inr other ↦
                let bound = within xs k c up at_end.2 in
                let none = none_later xs k c (omega arith) at_end.1 in
                rw (ne_eqb k c other) (first_in m h.count up l none.0 none.1)
          ] in
          subst (λ (o : Option ℕ). Stands end more (cond (is_last o c) old new)) (sym e) here_or_new

-- ---- all accesses

abbrev ComesAfter : ℕ → List LoggedAccess → LoggedAccess → Type 0
ComesAfter end done a = (a.event.cycle < end) × UpTo a.event.cycle done

later_too : (end : ℕ) (done : List LoggedAccess) (a : LoggedAccess) (rest : List LoggedAccess) → AllByRecursion (ComesAfter end done) rest
    → AllByRecursion (λ y. a.event.cycle ≤ y) (access_clocks rest) → AllByRecursion (ComesAfter end (done ++ a ∷ [])) rest
later_too end done a [] h up = tt
later_too end done a (b ∷ rest) h up = (
  (h.0.0, all-append (λ x. x.event.cycle ≤ b.event.cycle) done (a ∷ []) h.0.1 (up.0, tt)),
  later_too end done a rest h.1 up.1,
)

stands_all : (end : ℕ) (done rest : List LoggedAccess) (m : Polling) → Stands end done m → AllByRecursion (ComesAfter end done) rest
    → Climbs (access_clocks rest) → Stands end (done ++ rest) (fold polling_with m rest)
stands_all end done [] m h after up = subst (λ (xs : List LoggedAccess). Stands end xs m) (sym (append-nil done)) h
stands_all end done (a ∷ rest) m h after up =
    subst (λ (xs : List LoggedAccess). Stands end xs (fold polling_with (polling_with m a) rest)) (append_assoc done (a ∷ []) rest)
    (stands_all end (done ++ a ∷ []) rest (polling_with m a) (stands_more end done a m h after.0.1 after.0.0)
    (later_too end done a rest after.1 up.0) up.1)

none_polled : (a n : ℕ) → count_by (polls_in []) (range_with_len a n) ≡ 0
none_polled a zero = refl
none_polled a (suc n) = omega (arith, count_more (polls_in []) a n, none_polled (a + 1) n)

starts : (end : ℕ) → Stands end [] unpolled
starts end = record { count = sym (none_polled 0 end); last = (refl, refl) }

after_none : (end : ℕ) (xs : List LoggedAccess) → AllByRecursion (λ c. c < end) (access_clocks xs) → AllByRecursion (ComesAfter end []) xs
after_none end [] h = tt
after_none end (a ∷ xs) h = ((h.0, tt), after_none end xs h.1)

-- in so many clocks a module polls
pub polled_is : (p : Plan) (i : ℕ) → polled_so_far (polling_of (log_of_module p i)) ≡ polled_clocks p i
unfolding polled_clocks acts
polled_is p i =
    let clocks : access_clocks (log_of_module p i) ≡ clock_list (is_of i) (acts p) =
    ap (λ (log : List LoggedAccess). access_clocks (filter (is_of i) log)) (log_is p) in
    let up = subst Climbs (sym clocks) (climbs p (is_of i) (last_clock p)) in
    let below = subst (AllByRecursion (λ c. c < last_clock p)) (sym clocks)
    (all_clocks (λ c. c < last_clock p) (is_of i) (acts p) (early p (last_clock p))) in
    (stands_all (last_clock p) [] (log_of_module p i) unpolled (starts (last_clock p))
    (after_none (last_clock p) (log_of_module p i) below) up).count

-- ---- the loop

step_few : (m : Polling) (a : LoggedAccess) → polled_so_far (polling_with m a) ≤ polled_so_far m + 1
step_few m a = by_test (is_last m.last a.event.cycle) m.missing (is_missed a)
  where
    by_test : (b w d : Bool) → polled_so_far (cond b (record { before = m.before; last = m.last; missing = w && d })
        (record { before = m.before + one_if w; last = Some a.event.cycle; missing = d })) ≤ (m.before + one_if w) + 1
    by_test true true true = omega arith
    by_test true true false = omega arith
    by_test true false d = omega arith
    by_test false w true = omega arith
    by_test false w false = omega arith

few : (m : Polling) (xs : List LoggedAccess) → polled_so_far (fold polling_with m xs) ≤ polled_so_far m + length xs
few m [] = omega arith
few m (a ∷ xs) = let one = step_few m a in let rest = few (polling_with m a) xs in omega arith

pub polled_few : (i : ℕ) (log : List LoggedAccess) → polled_so_far (polling_of (filter (is_of i) log)) ≤ length log
polled_few i log =
    let all = few unpolled (filter (is_of i) log) in
    let some = length-filter (is_of i) log in
    let most = count_by-le-length (is_of i) log in
    omega arith

polling_more : (i : ℕ) (log : List LoggedAccess) (k : ℕ) (d : LoggedAccess) → k < length log
    → polling_of (filter (is_of i) (take (k + 1) log))
    ≡ cond (is_of i (get_or log k d)) (polling_with (polling_of (filter (is_of i) (take k log))) (get_or log k d))
    (polling_of (filter (is_of i) (take k log)))
polling_more i log k d l =
    let a = get_or log k d in
    ap (λ (xs : List LoggedAccess). polling_of (filter (is_of i) xs)) (take_more log k d l)
    ∙ (ap polling_of (filter-append (is_of i) (take k log) (a ∷ []))
    ∙ (fold-append polling_with unpolled (filter (is_of i) (take k log)) (cond (is_of i a) (a ∷ []) []) ∙ by_test (is_of i a)))
  where
    by_test : (b : Bool) → fold polling_with (polling_of (filter (is_of i) (take k log))) (cond b (get_or log k d ∷ []) [])
        ≡ cond b (polling_with (polling_of (filter (is_of i) (take k log))) (get_or log k d)) (polling_of (filter (is_of i) (take k log)))
    by_test true = refl
    by_test false = refl

-- the modules by the first accesses
pub record Polled (modules : ℕ) (log : List LoggedAccess) (pollings : List Polling) : Type 0 where
  pub count : length pollings ≡ modules
  pub each : (i : ℕ) → i < modules → get_or pollings i unpolled ≡ polling_of (filter (is_of i) log)

pub polled_none : (modules : ℕ) (pollings : List Polling) → pollings ≡ replicate modules unpolled → Polled modules [] pollings
polled_none modules pollings e = record {
  count = ap length e ∙ length-replicate modules unpolled;
  each = λ i l. ap (λ (ps : List Polling). get_or ps i unpolled) e ∙ get_or-replicate modules i unpolled unpolled l;
}

pub polled_more : (modules : ℕ) (log : List LoggedAccess) (k : ℕ) (d : LoggedAccess) (pollings new : List Polling) → k < length log
    → (get_or log k d).event.«module» < modules → Polled modules (take k log) pollings
    → new ≡ set pollings (get_or log k d).event.«module»
    (polling_with (get_or pollings (get_or log k d).event.«module» unpolled) (get_or log k d))
    → Polled modules (take (k + 1) log) new
polled_more modules log k d pollings new l inside h q =
    let a = get_or log k d in
    let j = a.event.«module» in
    let one = polling_with (get_or pollings j unpolled) a in
    record {
      count = ap length q ∙ (length-set pollings j one ∙ h.count);
      each = λ i m.
          let before = polling_of (filter (is_of i) (take k log)) in
          ap (λ (ps : List Polling). get_or ps i unpolled) q
          ∙ (elim (cases_eq j i) [
            | inl w ↦
                subst (λ (x : ℕ). get_or (set pollings j one) x unpolled ≡ polling_of (filter (is_of x) (take (k + 1) log))) w
                (get_or-set_same pollings j one unpolled (let n = h.count in omega arith)
                ∙ (ap (λ (x : Polling). polling_with x a) (h.each j inside)
                ∙ sym (polling_more j log k d l ∙ ap (λ (b : Bool). cond b (polling_with (polling_of (filter (is_of j) (take k log))) a)
                (polling_of (filter (is_of j) (take k log)))) (eq-eqb j j refl))))
            | inr w ↦
                get_or-set_other pollings j i one unpolled (λ e. w (sym e))
                ∙ (h.each i m
                ∙ sym (polling_more i log k d l ∙ ap (λ (b : Bool). cond b (polling_with before a) before) (ne_eqb j i w)))
          ]);
    }

-- with one clock more the number of clocks is still small
pub polled_room : (modules : ℕ) (log : List LoggedAccess) (k : ℕ) (d : LoggedAccess) (pollings : List Polling) → k < length log
    → (get_or log k d).event.«module» < modules → length log < 2 ^ 64 → Polled modules (take k log) pollings
    → polled_so_far (get_or pollings (get_or log k d).event.«module» unpolled) < 2 ^ 64
polled_room modules log k d pollings l inside short h =
    let j = (get_or log k d).event.«module» in
    let same = ap polled_so_far (h.each j inside) in
    let bound = polled_few j (take k log) in
    let all = length-take-le k log (omega arith) in
    omega arith

pub polled_all : (modules : ℕ) (log : List LoggedAccess) (pollings : List Polling) → length log < 2 ^ 64 → Polled modules log pollings
    → ArePollings modules log pollings
polled_all modules log pollings short h = record {
  count = h.count;
  each = h.each;
  few = λ i l. let bound = polled_few i log in let same = ap polled_so_far (h.each i l) in omega arith;
}
