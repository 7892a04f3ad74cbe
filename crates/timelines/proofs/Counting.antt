-- In how many clocks something is done, clock by clock.
use Rattle.std.proofs.Common.{◌≡◌, ℕ, suc, ◌+◌, refl, ap, ◌∙◌, arith, Bool, cond, Some, None, Option, zero-add}
use Rattle.std.proofs.lemmas.List.Sums.{sum_by_push}
use Rattle.std.specs.List.{range_with_len, count_by}
use Rattle.timelines.specs.{Plan, Doing, doing, doing_passes, clocks_in}
use Rattle.flow_word.proofs.Ranges.{range_more}

pub clocks_none : (test : Doing → Bool) (p : Plan) (i : ℕ) → clocks_in test p i 0 ≡ 0
unfolding clocks_in
clocks_none test p i = refl

-- with a clock more
pub clocks_more : (test : Doing → Bool) (p : Plan) (i n : ℕ)
    → clocks_in test p i (suc n) ≡ clocks_in test p i n + cond (doing_passes test (doing p n i)) 1 0
unfolding clocks_in
clocks_more test p i n =
    ap (count_by (λ c. doing_passes test (doing p c i))) (range_more 0 n)
    ∙ (sum_by_push (λ (c : ℕ). cond (doing_passes test (doing p c i)) 1 0) (range_with_len 0 n) (0 + n)
    ∙ ap (λ (c : ℕ). clocks_in test p i n + cond (doing_passes test (doing p c i)) 1 0) (zero-add n))

pub clocks_done : (test : Doing → Bool) (p : Plan) (i n : ℕ) (d : Doing) → doing p n i ≡ Some d
    → clocks_in test p i (suc n) ≡ clocks_in test p i n + cond (test d) 1 0
clocks_done test p i n d e = clocks_more test p i n ∙ ap (λ (o : Option Doing). clocks_in test p i n + cond (doing_passes test o) 1 0) e

pub clocks_over : (test : Doing → Bool) (p : Plan) (i n : ℕ) → doing p n i ≡ None → clocks_in test p i (suc n) ≡ clocks_in test p i n
clocks_over test p i n e =
    clocks_more test p i n ∙ (ap (λ (o : Option Doing). clocks_in test p i n + cond (doing_passes test o) 1 0) e ∙ omega arith)
