-- How many modules use each channel.
use Rattle.std.proofs.Common.{◌≡◌, ℕ, ◌+◌, ◌≤◌, List, [], ◌∷◌, length, drop, count_by, slice_index, Bool, true, false, cond, refl, ap, ◌∙◌}
use Rattle.std.proofs.Common.{arith}
use Rattle.std.proofs.{lemmas.Bool.cond_both, lemmas.Bool.Decides.nat_tests, lemmas.List.at_drop_all, lemmas.List.Sums.sum_by-cons}
use Rattle.std.specs.{Prelude.min, Prelude.◌==◌, List.list_any, List.AllByRecursion, List.IsDistinct}
use Rattle.flow_word.specs.contracts.access.PortPartialEq.TheImpl.{ghosts}
use Rattle.flow_word.specs.declared.access.Side.TheVariants.{Pop, Push}
use Rattle.flow_check.specs.{Port, Side, same_port, users_wanted, ChannelKind, port_at, AreAlike, AreCounted, IsCounting}
use Rattle.flow_design.specs.declared.design.ChannelKind.TheVariants.{Source, Sink, Fifo}

-- ---- a port is once among those of a set

apart : (a k y : Port) → same_port a k ≡ true → ghosts.eq k y ≡ false → same_port a y ≡ false
apart a k y is not = grind (arith, nat_tests)

none_more : (a k : Port) (ks : List Port) → same_port a k ≡ true → AllByRecursion (λ y. ghosts.eq k y ≡ false) ks
    → list_any (same_port a) ks ≡ false
none_more a k [] is not = refl
none_more a k (y ∷ ks) is (first, later) =
    let here = apart a k y is first in let there = none_more a k ks is later in grind arith

pub counted_once : (a : Port) (ks : List Port) → IsDistinct ghosts.eq ks
    → count_by (same_port a) ks ≡ cond (list_any (same_port a) ks) 1 0
unfolding IsDistinct
counted_once a [] distinct = refl
counted_once a (k ∷ ks) (first, later) =
    let head = sum_by-cons (λ (p : Port). cond (same_port a p) 1 0) k ks in
    let rest = counted_once a ks later in
    cond_both (same_port a k) 1 0
    (λ (n : ℕ). count_by (same_port a) (k ∷ ks) ≡ n + count_by (same_port a) ks
    → count_by (same_port a) (k ∷ ks) ≡ cond (list_any (same_port a) (k ∷ ks)) 1 0)
    (λ is e. let none = none_more a k ks is first in grind arith)
    (λ is e. grind arith)
    head

-- ---- the end of a loop

pub none_left : {A : Type 0} (p : A → Bool) (xs : List A) (at : ℕ) → length xs ≤ at → count_by p (drop at xs) ≡ 0
none_left p xs at end = at_drop_all (count_by p) xs at end

pub all_counted : (side : Side) (ks : List Port) (before now : List ℕ) (at : ℕ) → length ks ≤ at → IsDistinct ghosts.eq ks
    → IsCounting (λ c. count_by (same_port (port_at side c)) (drop at ks)) (λ c. count_by (same_port (port_at side c)) ks) before now
    → AreCounted (λ c. cond (list_any (same_port (port_at side c)) ks) 1 0) before now
all_counted side ks before now at end distinct counting = record {
  count = counting.count;
  each = λ c l.
      let none = none_left (same_port (port_at side c)) ks at end in
      let same : slice_index now c ≡ slice_index now c + count_by (same_port (port_at side c)) (drop at ks) = omega (arith, none) in
      ap (λ (n : ℕ). min n 2) same ∙ counting.each c l
      ∙ ap (λ (n : ℕ). min (slice_index before c + n) 2) (counted_once (port_at side c) ks distinct);
}

-- ---- as many as a kind wants

wanted_few : (kind : ChannelKind) (side : Side) → users_wanted kind side ≤ 1
wanted_few Source Pop = omega arith
wanted_few Source Push = omega arith
wanted_few Sink Pop = omega arith
wanted_few Sink Push = omega arith
wanted_few (Fifo depth delay) side = omega arith

same_test : (a b w : ℕ) → AreAlike a b → w ≤ 1 → (a == w) ≡ (b == w)
same_test a b w alike few = grind (arith, nat_tests)

pub as_wanted : (kind : ChannelKind) (side : Side) (a b : ℕ) → AreAlike a b → (a == users_wanted kind side) ≡ (b == users_wanted kind side)
as_wanted kind side a b alike = same_test a b (users_wanted kind side) alike (wanted_few kind side)
