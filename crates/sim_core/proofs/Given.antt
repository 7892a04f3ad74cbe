-- How many cycles actions give, by the lanes that are held.
use Rattle.std.proofs.Common.{◌≡◌, refl, ap, ℕ, zero, suc, ◌+◌, ◌<◌, ◌≤◌, cond, eqb, inl, inr, List, [], ◌∷◌, length, arith}
use Rattle.std.proofs.{lemmas.Bool.Decides.nat_tests, lemmas.List.get_or_past, lemmas.List.Sums.sum_by-cons}
use Rattle.std.proofs.lemmas.Bool.{cases_lt, eq-eqb}
use Rattle.sim_core.specs.{Lane, lane_at, no_lane, Action, assigns, sum_to, cycles_in, design, CoreView, theory_of, Goes, given}
use Rattle.event_timing.specs.Actions.Action.{Run, Assign, Answer, Earliest}
use Rattle.event_timing.proofs.Cost.{cycles_given}

-- ---- sums

sum_both : (f g h : ℕ → ℕ) (n : ℕ) → ((k : ℕ) → f k + g k ≡ h k) → sum_to f n + sum_to g n ≡ sum_to h n
unfolding sum_to
sum_both f g h zero e = omega arith
sum_both f g h (suc n) e = let rest = sum_both f g h n e in let here = e n in omega arith

sum_zero : (n : ℕ) → sum_to (λ k. 0) n ≡ 0
unfolding sum_to
sum_zero zero = refl
sum_zero (suc n) = let rest = sum_zero n in omega arith

sum_shifts : (f : ℕ → ℕ) (n : ℕ) → sum_to f (suc n) ≡ f 0 + sum_to (λ k. f (suc k)) n
unfolding sum_to
sum_shifts f zero = omega arith
sum_shifts f (suc n) = let rest = sum_shifts f n in omega arith

-- one at module m alone
abbrev one_at : ℕ → ℕ → ℕ
one_at m k = cond (eqb k m) 1 0

none_before : (m n : ℕ) → n ≤ m → sum_to (one_at m) n ≡ 0
unfolding sum_to
none_before m zero l = refl
none_before m (suc n) l =
    let rest = none_before m n (omega arith) in grind (arith, nat_tests)

sum_one : (m n : ℕ) → m < n → sum_to (one_at m) n ≡ 1
unfolding sum_to
sum_one m zero l = absurd (omega arith)
sum_one m (suc n) l =
    elim (cases_lt m n) [
      | inl less ↦ let rest = sum_one m n less in grind (arith, nat_tests)
      | inr most ↦ let rest = none_before m n most in grind (arith, nat_tests)
    ]

-- ---- of the first so many modules, which are all that are given a cycle

given_is : (actions : List Action) (n : ℕ) → ((m : ℕ) → n ≤ m → assigns m actions ≡ 0)
    → given actions ≡ sum_to (λ m. assigns m actions) n
given_is [] n f = let none = sum_zero n in omega arith
given_is (Run k ∷ rest) n f = given_is rest n f
given_is (Answer k ∷ rest) n f = given_is rest n f
given_is (Earliest k ∷ rest) n f = given_is rest n f
given_is (Assign k ∷ rest) n f =
    let before = given_is rest n (λ m l. let e = f m l in omega arith) in
    let both = sum_both (one_at k) (λ m. assigns m rest) (λ m. assigns m (Assign k ∷ rest)) n (λ m. refl) in
    let one = sum_one k n inside in
    omega arith
  where
    inside : k < n
    inside =
        elim (cases_lt k n) [
          | inl l ↦ l
          | inr l ↦
              let none = f k l in
              let same = eq-eqb k k refl in absurd (grind arith)
        ]

lanes_led : (f : ℕ → ℕ) (old new : List Lane) → length old ≡ length new
    → ((m : ℕ) → m < length new → f m + length (lane_at old m).cycles ≡ length (lane_at new m).cycles)
    → sum_to f (length new) + cycles_in old ≡ cycles_in new
unfolding sum_to
lanes_led f [] [] e g = omega arith
lanes_led f [] (l ∷ new) e g = absurd (omega arith)
lanes_led f (k ∷ old) [] e g = absurd (omega arith)
lanes_led f (k ∷ old) (l ∷ new) e g =
    let here = g 0 (omega arith) in
    let rest = lanes_led (λ m. f (suc m)) old new (omega arith) (λ m u. g (suc m) (omega arith)) in
    let a = sum_by-cons (λ (q : Lane). length q.cycles) k old in
    let b = sum_by-cons (λ (q : Lane). length q.cycles) l new in
    let c = sum_shifts f (length new) in
    omega arith

-- one tick for each cycle more
pub goes_cycles : (v w : CoreView) (before after : ℕ) → Goes v before w after → length v.held.lanes ≡ length w.held.lanes
    → after + cycles_in v.held.lanes ≡ before + cycles_in w.held.lanes
goes_cycles v w before after g same =
    let all = given_is g.actions (length w.held.lanes) outside in
    let led = lanes_led (λ m. assigns m g.actions) v.held.lanes w.held.lanes same (λ m l. each m) in
    let ticked = g.ticked in
    omega arith
  where
    each : (m : ℕ) → assigns m g.actions + length (lane_at v.held.lanes m).cycles ≡ length (lane_at w.held.lanes m).cycles
    each m = cycles_given (design v.plan) v.plan.cycles (theory_of v) g.actions (theory_of w) g.all m

    outside : (m : ℕ) → length w.held.lanes ≤ m → assigns m g.actions ≡ 0
    outside m l =
        let none : length (lane_at w.held.lanes m).cycles ≡ 0 = ap (λ (q : Lane). length q.cycles) (get_or_past w.held.lanes m no_lane l) in
        let sum = each m in
        omega arith
