-- The clocks in which a module moves, and those in which it stands still by each cause, add up.
use Rattle.std.proofs.Common.{◌≡◌, ◌≢◌, ℕ, zero, suc, ◌+◌, ◌-◌, ◌<◌, ◌≤◌, List, [], ◌∷◌, refl, sym, ap, ◌∙◌, arith, Bool, true, false, cond}
use Rattle.std.proofs.Common.{subst, Some, None, Option, length, inl, inr, ◌⊎◌}
use Rattle.std.proofs.lemmas.Bool.{cases_lt, eq-eqb, ne_eqb}
use Rattle.std.proofs.lemmas.List.Sums.{sum_by_push, sum_by-cons}
use Rattle.std.specs.List.{range_with_len, sum_by, find, AllByRecursion}
use Rattle.timelines.specs.{Port, Side, Plan, Request, FitsEngine, clock_of, is_over, stalls, StandsAtPort, verdict, requests_of, state}
use Rattle.timelines.specs.{state_at, Doing, doing, doing_by, blocker, is_moving, is_still, is_still_at, clocks_in, moved_clocks}
use Rattle.timelines.specs.{still_clocks, still_clocks_at, IsOverFrom}
use Rattle.timelines.specs.declared.span.Doing.TheVariants.{Moves, Still}
use Rattle.flow_word.specs.declared.access.Side.TheVariants.{Pop, Push}
use Rattle.timing_bridge.proofs.Requests.{stand}
use Rattle.timelines.proofs.{Counting.clocks_none, Counting.clocks_done, Counting.clocks_over, Existing.none_stays}
use Rattle.flow_word.proofs.Ranges.{range_more}

-- ---- up to the clock in which it is over

-- the module is over below clock n from clock k on, and not before
record LivesTo (p : Plan) (i n k : ℕ) : Type 0 where
  pub within : k ≤ n
  pub before : (c : ℕ) → c < k → doing p c i ≢ None
  pub over : (c : ℕ) → k ≤ c → c < n → doing p c i ≡ None

some_other : (d : Doing) → Some d ≡ None → ⊥
some_other d e = cc

lives_to : (p : Plan) (i n : ℕ) → LivesTo p i n (clocks_in is_moving p i n + clocks_in is_still p i n)
lives_to p i zero = record {
  within = omega (arith, clocks_none is_moving p i, clocks_none is_still p i);
  before = λ c l. absurd (omega (arith, clocks_none is_moving p i, clocks_none is_still p i));
  over = λ c l q. absurd (omega arith);
}
lives_to p i (suc n) = by_doing (doing p n i) refl (lives_to p i n)
  where
    k : ℕ
    k = clocks_in is_moving p i n + clocks_in is_still p i n

    one : (d : Doing) → cond (is_moving d) 1 0 + cond (is_still d) 1 0 ≡ 1
    one Moves = refl
    one (Still port) = refl

    by_doing : (o : Option Doing) → doing p n i ≡ o → LivesTo p i n k
        → LivesTo p i (suc n) (clocks_in is_moving p i (suc n) + clocks_in is_still p i (suc n))
    by_doing None e h =
        let same : k ≡ clocks_in is_moving p i (suc n) + clocks_in is_still p i (suc n) =
        omega (arith, clocks_over is_moving p i n e, clocks_over is_still p i n e) in
        subst (LivesTo p i (suc n)) same (record {
          within = omega (arith, h.within);
          before = h.before;
          over = λ c l q. elim (cases_lt c n) [
            | inl w ↦ h.over c l w
            | inr w ↦ let z : n ≡ c = omega arith in subst (λ (c : ℕ). doing p c i ≡ None) z e
          ];
        })
    by_doing (Some d) e h =
        let full : k ≡ n = elim (cases_lt k n) [
          | inr w ↦ omega (arith, h.within)
          | inl w ↦
              let z : suc (n - 1) ≡ n = omega arith in
              let none = none_stays p (n - 1) i (h.over (n - 1) (omega arith) (omega arith)) in
              absurd (some_other d (sym e ∙ subst (λ (c : ℕ). doing p c i ≡ None) z none))
        ] in
        let same : suc n ≡ clocks_in is_moving p i (suc n) + clocks_in is_still p i (suc n) =
        omega (arith, clocks_done is_moving p i n d e, clocks_done is_still p i n d e, one d) in
        subst (LivesTo p i (suc n)) same (record {
          within = omega arith;
          before = λ c l g. elim (cases_lt c n) [
            | inl w ↦ h.before c (omega arith) g
            | inr w ↦ let z : c ≡ n = omega arith in some_other d (sym e ∙ subst (λ (c : ℕ). doing p c i ≡ None) z g)
          ];
          over = λ c l q. absurd (omega arith);
        })

pub over_from : (p : Plan) (i : ℕ) → IsOverFrom p i (moved_clocks p i + still_clocks p i)
over_from p i =
    let h = lives_to p i (clock_of (verdict p)) in
    record { within = h.within; before = h.before; over = h.over }

-- ---- the causes

same_request : (x y : Request) → Some x ≡ Some y → x ≡ y
same_request x y e = cc

-- the channel of a cause is one of the plan
found_stands : (p : Plan) (i : ℕ) (f : Request → Bool) (rs : List Request) → AllByRecursion (StandsAtPort p i) rs → (r : Request)
    → find f rs ≡ Some r → r.channel < length p.design.channels
found_stands p i f [] h r e = cc
found_stands p i f (x ∷ rs) h r e = by_test (f x) e (λ g. found_stands p i f rs h.1 r g)
  where
    by_test : (b : Bool) → cond b (Some x) (find f rs) ≡ Some r → (find f rs ≡ Some r → r.channel < length p.design.channels)
        → r.channel < length p.design.channels
    by_test true g later = subst (λ (y : Request). y.channel < length p.design.channels) (same_request x r g) (h.0).in_range
    by_test false g later = later g

pub cause_inside : (p : Plan) → FitsEngine p → (c i : ℕ) (port : Port) → doing p c i ≡ Some (Still port)
    → port.channel < length p.design.channels
unfolding doing
cause_inside p h c i port e = by_over (is_over p.ops (state_at p c i)) (blocker p c i) refl e
  where
    same_channel : (r : Request) (a : Port) → Some (doing_by (Some r)) ≡ Some (Still a) → r.channel ≡ a.channel
    same_channel r a e = cc

    by_over : (b : Bool) (o : Option Request) → blocker p c i ≡ o → cond b None (Some (doing_by o)) ≡ Some (Still port)
        → port.channel < length p.design.channels
    by_over true o z g = cc
    by_over false None z g = cc
    by_over false (Some r) z g =
        subst (λ (n : ℕ). n < length p.design.channels) (same_channel r port g)
        (found_stands p i (stalls p c (state p c).contents) (requests_of p (i, state_at p c i)) (stand p h i (state_at p c i)) r z)

-- a sum that grows by another
sum_more : (f g h : ℕ → ℕ) (xs : List ℕ) → ((x : ℕ) → g x ≡ f x + h x) → sum_by g xs ≡ sum_by f xs + sum_by h xs
sum_more f g h [] e = refl
sum_more f g h (x ∷ xs) e =
    omega (arith, sum_by-cons f x xs, sum_by-cons g x xs, sum_by-cons h x xs, e x, sum_more f g h xs e)

sum_none : (f : ℕ → ℕ) (a n : ℕ) → n ≤ a → ((x : ℕ) → x ≢ a → f x ≡ 0) → sum_by f (range_with_len 0 n) ≡ 0
sum_none f a zero l h = refl
sum_none f a (suc n) l h =
    ap (sum_by f) (range_more 0 n)
    ∙ (sum_by_push f (range_with_len 0 n) (0 + n) ∙ omega (arith, sum_none f a n (omega arith) h, h (0 + n) (λ e. omega arith)))

-- a sum to which one number alone gives one
sum_one : (f : ℕ → ℕ) (a n : ℕ) → a < n → f a ≡ 1 → ((x : ℕ) → x ≢ a → f x ≡ 0) → sum_by f (range_with_len 0 n) ≡ 1
sum_one f a zero l e h = absurd (omega arith)
sum_one f a (suc n) l e h =
    ap (sum_by f) (range_more 0 n) ∙ (sum_by_push f (range_with_len 0 n) (0 + n) ∙ last (λ w. sum_one f a n w e h) (cases_lt a n))
  where
    last : (a < n → sum_by f (range_with_len 0 n) ≡ 1) → (a < n) ⊎ (n ≤ a) → sum_by f (range_with_len 0 n) + f (0 + n) ≡ 1
    last below (inl w) = omega (arith, below w, h (0 + n) (λ e. omega arith))
    last below (inr w) =
        let z : 0 + n ≡ a = omega arith in
        omega (arith, sum_none f a n w h, ap f z ∙ e)

-- how often a cause is the one of a port, on either side
abbrev at_port : Doing → ℕ → ℕ
at_port d f =
    cond (is_still_at (record { side = Pop; channel = f }) d) 1 0 + cond (is_still_at (record { side = Push; channel = f }) d) 1 0

at_same : (side : Side) (f : ℕ) → at_port (Still (record { side = side; channel = f })) f ≡ 1
at_same Pop f = rw (eq-eqb f f refl) refl
at_same Push f = rw (eq-eqb f f refl) refl

at_other : (side : Side) (a f : ℕ) → f ≢ a → at_port (Still (record { side = side; channel = a })) f ≡ 0
at_other Pop a f n = rw (ne_eqb f a n) refl
at_other Push a f n = rw (ne_eqb f a n) refl

-- in how many clocks it stands still by a cause of this channel
abbrev at_channel : Plan → ℕ → ℕ → ℕ → ℕ
at_channel p i n f =
    clocks_in (is_still_at (record { side = Pop; channel = f })) p i n + clocks_in (is_still_at (record { side = Push; channel = f })) p i n

at_channel_done : (p : Plan) (i n f : ℕ) (d : Doing) → doing p n i ≡ Some d → at_channel p i (suc n) f ≡ at_channel p i n f + at_port d f
at_channel_done p i n f d e =
    omega (
      arith,
      clocks_done (is_still_at (record { side = Pop; channel = f })) p i n d e,
      clocks_done (is_still_at (record { side = Push; channel = f })) p i n d e,
    )

at_channel_over : (p : Plan) (i n f : ℕ) → doing p n i ≡ None → at_channel p i (suc n) f ≡ at_channel p i n f + 0
at_channel_over p i n f e =
    omega (
      arith,
      clocks_over (is_still_at (record { side = Pop; channel = f })) p i n e,
      clocks_over (is_still_at (record { side = Push; channel = f })) p i n e,
    )

sum_zero : (f : ℕ → ℕ) (xs : List ℕ) → ((x : ℕ) → f x ≡ 0) → sum_by f xs ≡ 0
sum_zero f [] e = refl
sum_zero f (x ∷ xs) e = omega (arith, sum_by-cons f x xs, e x, sum_zero f xs e)

causes_to : (p : Plan) → FitsEngine p → (i n : ℕ)
    → clocks_in is_still p i n ≡ sum_by (at_channel p i n) (range_with_len 0 (length p.design.channels))
causes_to p h i zero =
    clocks_none is_still p i
    ∙ sym (sum_zero (at_channel p i 0) (range_with_len 0 (length p.design.channels)) (λ f.
    omega (
      arith,
      clocks_none (is_still_at (record { side = Pop; channel = f })) p i,
      clocks_none (is_still_at (record { side = Push; channel = f })) p i,
    )))
causes_to p h i (suc n) = by_doing (doing p n i) refl (causes_to p h i n)
  where
    all : List ℕ
    all = range_with_len 0 (length p.design.channels)

    by_doing : (o : Option Doing) → doing p n i ≡ o → clocks_in is_still p i n ≡ sum_by (at_channel p i n) all
        → clocks_in is_still p i (suc n) ≡ sum_by (at_channel p i (suc n)) all
    by_doing None e g =
        omega (
          arith,
          clocks_over is_still p i n e,
          sum_more (at_channel p i n) (at_channel p i (suc n)) (λ f. 0) all (λ f. at_channel_over p i n f e),
          sum_zero (λ f. 0) all (λ f. refl),
        )
    by_doing (Some Moves) e g =
        omega (
          arith,
          clocks_done is_still p i n Moves e,
          sum_more (at_channel p i n) (at_channel p i (suc n)) (at_port Moves) all (λ f. at_channel_done p i n f Moves e),
          sum_zero (at_port Moves) all (λ f. refl),
        )
    by_doing (Some (Still port)) e g =
        omega (
          arith,
          clocks_done is_still p i n (Still port) e,
          sum_more (at_channel p i n) (at_channel p i (suc n)) (at_port (Still port)) all (λ f. at_channel_done p i n f (Still port) e),
          sum_one (at_port (Still port)) port.channel (length p.design.channels) (cause_inside p h n i port e)
              (at_same port.side port.channel) (λ f. at_other port.side port.channel f),
        )

pub causes_add_up : (p : Plan) (i : ℕ) → FitsEngine p
    → still_clocks p i ≡ sum_by (λ f. still_clocks_at p i Pop f + still_clocks_at p i Push f) (range_with_len 0 (length p.design.channels))
causes_add_up p i h = causes_to p h i (clock_of (verdict p))
