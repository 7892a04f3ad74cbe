-- The numbers of the text add up to the clocks of the chain.
use Rattle.std.proofs.Common.{◌≡◌, ◌≢◌, ℕ, zero, suc, ◌+◌, ◌-◌, ◌*◌, ◌<◌, Bool, true, false, cond, Option, Some, None, List, [], ◌∷◌}
use Rattle.std.proofs.Common.{length, ◌≤◌, refl, sym, ap, ◌∙◌, arith, ◌⊎◌, inl, inr}
use Rattle.std.proofs.{lemmas.Bool.cases_lt, lemmas.Bool.eq-eqb, lemmas.Bool.ne_eqb, lemmas.List.Elements.recursion_from_All}
use Rattle.std.proofs.lemmas.List.Sums.{sum_by-cons, sum_by_push}
use Rattle.std.specs.{Prelude.sum_by, Prelude.IfSome, List.AllByRecursion, List.range_with_len}
use Rattle.flow_word.proofs.Ranges.{range_more}
use Rattle.path_text.specs.{Port, Side, Design, Plan, delay_at, clock_of, FitsEngine, is_port, verdict, lag_in, Link, spent, clocks_across}
use Rattle.path_text.specs.{under_way, chain_clocks, IsEnd, MovesLast, NoneMoves, Polled, told_links, told_polls, link_clocks, clocks_at}
use Rattle.path_text.specs.{clocks_spent, clocks_waited, crossings, clocks_waiting, waiting_at, IsLinkOf, IsPollOf, spent_clocks}
use Rattle.path_text.specs.{crossed_clocks, told_clocks, log_of}
use Rattle.flow_word.specs.declared.access.Side.TheVariants.{Pop, Push}
use Rattle.depth_order.proofs.Adds.{whole_chain, chain_to, no_chain}
use Rattle.path_text.proofs.{Told.told_links_are, Told.told_polls_are, Totals.chain_total, Totals.polled_total}

-- ---- sums over the first numbers

sum_zero : (f : ℕ → ℕ) (xs : List ℕ) → ((x : ℕ) → f x ≡ 0) → sum_by f xs ≡ 0
sum_zero f [] e = refl
sum_zero f (x ∷ xs) e = omega (arith, sum_by-cons f x xs, e x, sum_zero f xs e)

-- a sum that grows by another
sum_more : (f g h : ℕ → ℕ) (xs : List ℕ) → ((x : ℕ) → g x ≡ f x + h x) → sum_by g xs ≡ sum_by f xs + sum_by h xs
sum_more f g h [] e = refl
sum_more f g h (x ∷ xs) e =
    omega (arith, sum_by-cons f x xs, sum_by-cons g x xs, sum_by-cons h x xs, e x, sum_more f g h xs e)

-- a sum to which one number alone gives something
sum_none : (f : ℕ → ℕ) (a n : ℕ) → n ≤ a → ((x : ℕ) → x ≢ a → f x ≡ 0) → sum_by f (range_with_len 0 n) ≡ 0
sum_none f a zero l h = refl
sum_none f a (suc n) l h =
    ap (sum_by f) (range_more 0 n)
    ∙ (sum_by_push f (range_with_len 0 n) (0 + n) ∙ omega (arith, sum_none f a n (omega arith) h, h (0 + n) (λ e. omega arith)))

sum_one : (f : ℕ → ℕ) (a n v : ℕ) → a < n → f a ≡ v → ((x : ℕ) → x ≢ a → f x ≡ 0) → sum_by f (range_with_len 0 n) ≡ v
sum_one f a zero v l e h = absurd (omega arith)
sum_one f a (suc n) v l e h =
    ap (sum_by f) (range_more 0 n) ∙ (sum_by_push f (range_with_len 0 n) (0 + n) ∙ last (λ w. sum_one f a n v w e h) (cases_lt a n))
  where
    last : (a < n → sum_by f (range_with_len 0 n) ≡ v) → (a < n) ⊎ (n ≤ a) → sum_by f (range_with_len 0 n) + f (0 + n) ≡ v
    last below (inl w) = omega (arith, below w, h (0 + n) (λ e. omega arith))
    last below (inr w) =
        let z : 0 + n ≡ a = omega arith in
        omega (arith, sum_none f a n w h, ap f z ∙ e)

-- ---- the clocks of each module

clocks_here : (l : Link) → clocks_at l.module l ≡ link_clocks l
clocks_here l = rw (eq-eqb l.module l.module refl) refl

clocks_elsewhere : (l : Link) (m : ℕ) → m ≢ l.module → clocks_at m l ≡ 0
clocks_elsewhere l m n = rw (ne_eqb l.module m (λ e. n (sym e))) refl

spent_in_modules : (design : Design) (links : List Link) → AllByRecursion (IsLinkOf design) links
    → sum_by (clocks_spent links) (range_with_len 0 (length design.modules)) ≡ spent links
spent_in_modules design [] h = sum_zero (clocks_spent []) (range_with_len 0 (length design.modules)) (λ m. refl)
spent_in_modules design (l ∷ ls) h =
    omega (
      arith,
      sum_more (clocks_spent ls) (clocks_spent (l ∷ ls)) (λ m. clocks_at m l) (range_with_len 0 (length design.modules))
          (λ m. omega (arith, sum_by-cons (clocks_at m) l ls)),
      sum_one (λ m. clocks_at m l) l.module (length design.modules) (link_clocks l) h.0.mover (clocks_here l) (clocks_elsewhere l),
      spent_in_modules design ls h.1,
    )

-- ---- the crossings of each channel

-- the clocks that a crossing adds to those of channel f
abbrev across_at : Plan → Option Port → ℕ → ℕ
across_at p o f = cond (is_port (record { side = Pop; channel = f }) o) 1 0 * (delay_at p f - 1)

across_side : (p : Plan) (n f : ℕ) (side : Side) → f < n
    → sum_by (across_at p (Some (record { side = side; channel = f }))) (range_with_len 0 n) ≡ lag_in p side f - 1
across_side p n f Push l = sum_zero (across_at p (Some (record { side = Push; channel = f }))) (range_with_len 0 n) (λ g. omega arith)
across_side p n f Pop l =
    sum_one (across_at p (Some (record { side = Pop; channel = f }))) f n (delay_at p f - 1) l
    (rw (eq-eqb f f refl) (omega arith)) (λ g other. rw (ne_eqb g f other) (omega arith))

across_channels : (p : Plan) (n : ℕ) (o : Option Port) → IfSome o (λ a. a.channel < n)
    → sum_by (across_at p o) (range_with_len 0 n) ≡ clocks_across p o
across_channels p n None h = sum_zero (across_at p None) (range_with_len 0 n) (λ f. omega arith)
across_channels p n (Some a) h = across_side p n a.channel a.side h

times_more : (b : Bool) (n k : ℕ) → (cond b 1 0 + n) * k ≡ n * k + cond b 1 0 * k
times_more true n k = omega arith
times_more false n k = omega arith

under_way_in_channels : (p : Plan) (links : List Link) → AllByRecursion (IsLinkOf p.design) links
    → sum_by (λ f. crossings links Pop f * (delay_at p f - 1)) (range_with_len 0 (length p.design.channels)) ≡ under_way p links
under_way_in_channels p [] h =
    sum_zero (λ f. crossings [] Pop f * (delay_at p f - 1)) (range_with_len 0 (length p.design.channels)) (λ f. omega arith)
under_way_in_channels p (l ∷ ls) h =
    omega (
      arith,
      sum_more (λ f. crossings ls Pop f * (delay_at p f - 1)) (λ f. crossings (l ∷ ls) Pop f * (delay_at p f - 1))
          (across_at p l.crossed) (range_with_len 0 (length p.design.channels))
          (λ f.
          ap (λ (n : ℕ). n * (delay_at p f - 1))
          (sum_by-cons (λ (k : Link). cond (is_port (record { side = Pop; channel = f }) k.crossed) 1 0) l ls)
          ∙ times_more (is_port (record { side = Pop; channel = f }) l.crossed) (crossings ls Pop f) (delay_at p f - 1)),
      across_channels p (length p.design.channels) l.crossed h.0.crossed,
      under_way_in_channels p ls h.1,
    )

-- ---- the waiting on each channel

waiting_here : (q : Polled) → waiting_at q.channel q ≡ clocks_waiting q
waiting_here q = rw (eq-eqb q.channel q.channel refl) refl

waiting_elsewhere : (q : Polled) (f : ℕ) → f ≢ q.channel → waiting_at f q ≡ 0
waiting_elsewhere q f n = rw (ne_eqb q.channel f (λ e. n (sym e))) refl

waited_on_channels : (design : Design) (polls : List Polled) → AllByRecursion (IsPollOf design) polls
    → sum_by (clocks_waited polls) (range_with_len 0 (length design.channels)) ≡ sum_by clocks_waiting polls
waited_on_channels design [] h = sum_zero (clocks_waited []) (range_with_len 0 (length design.channels)) (λ f. refl)
waited_on_channels design (q ∷ polls) h =
    omega (
      arith,
      sum_by-cons clocks_waiting q polls,
      sum_more (clocks_waited polls) (clocks_waited (q ∷ polls)) (λ f. waiting_at f q) (range_with_len 0 (length design.channels))
          (λ f. omega (arith, sum_by-cons (waiting_at f) q polls)),
      sum_one (λ f. waiting_at f q) q.channel (length design.channels) (clocks_waiting q) h.0.inside (waiting_here q) (waiting_elsewhere q),
      waited_on_channels design polls h.1,
    )

-- ---- all of them

told_total : (p : Plan) → FitsEngine p → (polls : Bool) → told_clocks polls p
    ≡ spent (told_links polls p) + under_way p (told_links polls p) + sum_by clocks_waiting (told_polls polls p)
told_total p h polls =
    let links = recursion_from_All (IsLinkOf p.design) (told_links polls p) (told_links_are p h polls) in
    let found = recursion_from_All (IsPollOf p.design) (told_polls polls p) (told_polls_are p h polls) in
    omega (
      arith,
      spent_in_modules p.design (told_links polls p) links,
      under_way_in_channels p (told_links polls p) links,
      waited_on_channels p.design (told_polls polls p) found,
    )

numbers_are : (p : Plan) → FitsEngine p → (polls : Bool) → told_clocks polls p ≡ chain_clocks p (clock_of (verdict p))
numbers_are p h false = told_total p h false ∙ omega arith
numbers_are p h true =
    told_total p h true
    ∙ (polled_total p h (log_of p) (inr refl) (clock_of (verdict p)) ∙ sym (chain_total p h (clock_of (verdict p))))

pub numbers_to : (p : Plan) → FitsEngine p → (polls : Bool) (t : ℕ) → MovesLast p (clock_of (verdict p)) t → told_clocks polls p ≡ suc t
numbers_to p h polls t l = numbers_are p h polls ∙ chain_to p h (clock_of (verdict p)) t l

pub no_numbers : (p : Plan) → FitsEngine p → (polls : Bool) → NoneMoves p (clock_of (verdict p)) → told_clocks polls p ≡ 0
no_numbers p h polls none =
    numbers_are p h polls ∙ ap (λ (links : List Link). spent links + under_way p links) (no_chain p (clock_of (verdict p)) none)

pub numbers_whole : (p : Plan) → FitsEngine p → (polls : Bool) → IsEnd (verdict p) → told_clocks polls p ≡ clock_of (verdict p)
numbers_whole p h polls ends = numbers_are p h polls ∙ whole_chain p h ends

pub no_waiting : (p : Plan) → told_clocks false p ≡ spent_clocks false p + crossed_clocks false p
no_waiting p =
    let none = sum_zero (clocks_waited []) (range_with_len 0 (length p.design.channels)) (λ f. refl) in
    omega arith
