-- Along a path of waits no module goes on sooner.
use Rattle.std.proofs.Common.{◌≡◌, ℕ, zero, suc, ◌+◌, ◌-◌, ◌≤◌, ◌<◌, Bool, true, false, ◌||◌, ltb, List, [], ◌∷◌, refl, sym, ◌∙◌, ap, arith}
use Rattle.std.proofs.Common.{inl, inr, ◌⊎◌}
use Rattle.std.proofs.lemmas.Bool.{cases_Bool, cases_lt, and_parts, and_from, ltb-true, eqb-true}
use Rattle.path_check.specs.{Side, other_side, Design, Each, IsDesign, Trace, IsHistory, is_possible, can_do, can_all, can_move, moves_made}
use Rattle.path_check.specs.{blocks_at, can_wait_at, IsAfter, Paths.Same, Paths.Later, Paths.Own, Paths.Waits}
use Rattle.event_timing.specs.{Access}
use Rattle.event_timing.proofs.{OwnRuns.same_side_is, Standing.moves_lives, Standing.moves_can, Standing.moves_from}
use Rattle.depth_order.proofs.Ahead.{with_start, NoQueries, IsAlike, more_possible, more_can}
use Rattle.depth_order.proofs.Same.{made_0, made_more, made_same, made_up, made_mono, always_alike}
use Rattle.depth_order.proofs.Bound.{must_be, taken_no_more, none_before}

-- ---- who waits at a side of a channel, and moves, finds it possible

pub possible_there : {S : Type 0} → (d : Design S) (h : Trace S) (c ch : ℕ) (side : Side) (xs : List Access) → can_wait_at side ch xs ≡ true
    → can_all d h c xs ≡ true → is_possible d h c side ch ≡ true
possible_there {S} d h c ch side [] e can = absurd (cc)
possible_there {S} d h c ch side (a ∷ xs) e can =
    let parts = and_parts (can_do d h c a) (can_all d h c xs) can in
    by_test (cases_Bool (blocks_at side ch a)) parts.0 (λ rest. possible_there d h c ch side xs rest parts.1)
  where
    by_test : (blocks_at side ch a ≡ true) ⊎ (blocks_at side ch a ≡ false) → can_do d h c a ≡ true
        → (can_wait_at side ch xs ≡ true → is_possible d h c side ch ≡ true) → is_possible d h c side ch ≡ true
    by_test (inl here) first rest =
        let outer = and_parts _ _ here in
        let inner = and_parts _ _ outer.1 in
        let same = same_side_is a.side side inner.0 in
        let at = eqb-true a.channel ch inner.1 in
        let possible = must_be a.blocks (is_possible d h c a.side a.channel) outer.0 first in
        rw (same, at) at possible
    by_test (inr other) first rest = rest (sym (ap (λ (b : Bool). b || can_wait_at side ch xs) other) ∙ e)

pub owned_there : {S : Type 0} → (d : Design S) (m ch : ℕ) (side : Side) (xs : List Access) → Each (λ a. d.owner a.side a.channel ≡ m) xs
    → can_wait_at side ch xs ≡ true → d.owner side ch ≡ m
owned_there {S} d m ch side [] owned e = absurd (cc)
owned_there {S} d m ch side (a ∷ xs) owned e = by_test (cases_Bool (blocks_at side ch a)) (owned_there d m ch side xs owned.1)
  where
    by_test : (blocks_at side ch a ≡ true) ⊎ (blocks_at side ch a ≡ false) → (can_wait_at side ch xs ≡ true → d.owner side ch ≡ m)
        → d.owner side ch ≡ m
    by_test (inl here) rest =
        let inner = and_parts _ _ (and_parts _ _ here).1 in
        let same = same_side_is a.side side inner.0 in
        let at = eqb-true a.channel ch inner.1 in
        rw (same, at) at owned.0
    by_test (inr other) rest = rest (sym (ap (λ (b : Bool). b || can_wait_at side ch xs) other) ∙ e)

-- fewer were done than the start and the other side's together
fewer : {S : Type 0} → (d : Design S) (h : Trace S) (c ch : ℕ) (side : Side) → d.unlimited side ch ≡ false
    → is_possible d h c side ch ≡ true → h.taken c side ch < d.start side ch + h.taken (suc c - d.lag side ch) (other_side side) ch
fewer {S} d h c ch side limited e =
    let bound = ap (λ (b : Bool). b || ltb (h.taken c side ch) (d.start side ch + h.taken (suc c - d.lag side ch) (other_side side) ch))
    (sym limited) in
    ltb-true (h.taken c side ch) (d.start side ch + h.taken (suc c - d.lag side ch) (other_side side) ch) (bound ∙ e)

-- ---- paths

module _ {S : Type 0} (d : Design S) (start : Side → ℕ → ℕ) (h w : Trace S) (i : IsDesign d) (j : IsDesign (with_start d start))
    (none : NoQueries d) (x : IsHistory d h) (y : IsHistory (with_start d start) w) where
  -- before clock c of the other run module m has not gone on from where it stands in clock e of the one
  abbrev pub IsNotPast : ℕ → ℕ → ℕ → Type 0
  IsNotPast m e c = moves_made (with_start d start) w m c ≤ moves_made d h m e

  waits_on : (n f c a b ch : ℕ) (side : Side) → can_wait_at side ch (d.accesses n (h.state f n)) ≡ true → d.unlimited side ch ≡ false
      → start side ch + h.taken a (other_side side) ch ≤ h.taken f side ch → c ≤ b + d.lag side ch
      → IsNotPast (d.owner (other_side side) ch) a b
      → (e : ℕ) → e < c → moves_made (with_start d start) w n e ≡ moves_made d h n f → can_move (with_start d start) w e n ≡ true → ⊥
  waits_on n f c a b ch side stands limited few lag held e l count move =
      let g = with_start d start in
      let owned = owned_there d n ch side (d.accesses n (h.state f n)) (i.owned n (h.state f n)) stands in
      let alike = always_alike d start h w i j none x y n f e (sym count) in
      let stands_too : can_wait_at side ch (d.accesses n (w.state e n)) ≡ true =
      ap (λ (s : S). can_wait_at side ch (d.accesses n s)) alike.state ∙ stands in
      let there = fewer g w e ch side limited
      (possible_there g w e ch side (d.accesses n (w.state e n)) stands_too (moves_can g w e n move)) in
      let taken = alike.taken side ch owned in
      let before = made_mono g w (d.owner (other_side side) ch) (suc e - d.lag side ch) b (omega arith) in
      let others = taken_no_more d start h w i j none x y (other_side side) ch a (suc e - d.lag side ch) (omega arith) in
      omega arith

  -- who comes so many clocks after a module has not gone on so many clocks after that one has not
  pub holds_after : (m e n f v : ℕ) → IsAfter d start h m e n f v → (c : ℕ) → IsNotPast m e c → IsNotPast n f (c + v)
  holds_after m e n f v Same c l = let same : c + 0 ≡ c = omega arith in rw same l
  holds_after m e n f v (Later k b g u before after) c l =
      let held = holds_after m e k b u after c l in
      let up = made_mono d h k b g before in
      omega arith
  holds_after m e n f v (Own k b u move after) c l =
      let held = holds_after m e k b u after c l in
      let more = made_more d h k b move in
      let at : c + suc u ≡ suc (c + u) = omega arith in
      rw at (elim (cases_Bool (can_move (with_start d start) w (c + u) k)) [
        | inl moved ↦ omega (arith, made_more (with_start d start) w k (c + u) moved)
        | inr still ↦ omega (arith, made_same (with_start d start) w k (c + u) still)
      ])
  holds_after m e n f v (Waits k b u a z ch side stands limited few lag after) c l =
      let held = holds_after m e (d.owner (other_side side) ch) a z after c l in
      none_before (with_start d start) w k (moves_made d h k b) (c + u)
      (waits_on k b (c + u) a (c + z) ch side stands limited few (omega arith) held)

  -- from the beginning on
  pub held_from_start : (m n f v : ℕ) → IsAfter d start h m zero n f v → IsNotPast n f v
  held_from_start m n f v after =
      let z = made_0 (with_start d start) w m in
      let same : v ≡ 0 + v = omega arith in
      rw same (holds_after m 0 n f v after 0 (omega arith))

  -- a path that leads back to where it began holds its module for good
  round_before : (m e v : ℕ) → IsAfter d start h m e m e (suc v) → (c : ℕ) → (k : ℕ) → c ≤ k → IsNotPast m e c
  round_before m e v after zero k l = let z = made_0 (with_start d start) w m in omega arith
  round_before m e v after (suc c) zero l = absurd (omega arith)
  round_before m e v after (suc c) (suc k) l =
      let before = round_before m e v after (suc c - suc v) k (omega arith) in
      let held = holds_after m e m e (suc v) after (suc c - suc v) before in
      let up = made_mono (with_start d start) w m (suc c) ((suc c - suc v) + suc v) (omega arith) in
      omega arith

  pub held_for_good : (m e v : ℕ) → IsAfter d start h m e m e (suc v) → (c : ℕ) → IsNotPast m e c
  held_for_good m e v after c = round_before m e v after c c (omega arith)

  -- ---- with as many places or more in the one run, no module of the other is ever past it

  abbrev pub NoneIsPast : ℕ → Type 0
  NoneIsPast c = (b : ℕ) → b ≤ c → (m : ℕ) → IsNotPast m b b

  module _ (fewer_places : (side : Side) (ch : ℕ) → start side ch ≤ d.start side ch) where
    possible_too : (m c : ℕ) → NoneIsPast c → IsAlike d h w m c c → (a : Access) → d.owner a.side a.channel ≡ m
        → is_possible (with_start d start) w c a.side a.channel ≡ true → is_possible d h c a.side a.channel ≡ true
    possible_too m c all alike a owned e =
        let seen = suc c - d.lag a.side a.channel in
        let positive = i.lag_positive a.side a.channel in
        let others = taken_no_more d start h w i j none x y (other_side a.side) a.channel seen seen
        (all seen (omega arith) (d.owner (other_side a.side) a.channel)) in
        let first = fewer_places a.side a.channel in
        more_possible (d.unlimited a.side a.channel) (w.taken c a.side a.channel) (h.taken c a.side a.channel)
        (start a.side a.channel + w.taken seen (other_side a.side) a.channel)
        (d.start a.side a.channel + h.taken seen (other_side a.side) a.channel)
        (sym (alike.taken a.side a.channel owned)) (omega arith) e

    all_can_too : (m c : ℕ) → NoneIsPast c → IsAlike d h w m c c → (xs : List Access) → Each (λ a. d.owner a.side a.channel ≡ m) xs
        → can_all (with_start d start) w c xs ≡ true → can_all d h c xs ≡ true
    all_can_too m c all alike [] owned e = refl
    all_can_too m c all alike (a ∷ xs) owned e =
        let parts = and_parts (can_do (with_start d start) w c a) (can_all (with_start d start) w c xs) e in
        and_from _ _
        (more_can a.blocks (is_possible (with_start d start) w c a.side a.channel) (is_possible d h c a.side a.channel)
        (possible_too m c all alike a owned.0) parts.0)
        (all_can_too m c all alike xs owned.1 parts.1)

    moves_too : (m c : ℕ) → NoneIsPast c → IsAlike d h w m c c → can_move (with_start d start) w c m ≡ true → can_move d h c m ≡ true
    moves_too m c all alike e =
        let g = with_start d start in
        let lives : d.is_over m (h.state c m) ≡ false = ap (d.is_over m) (sym alike.state) ∙ moves_lives g w c m e in
        let there : can_all g w c (d.accesses m (h.state c m)) ≡ true =
        ap (λ (s : S). can_all g w c (d.accesses m s)) (sym alike.state) ∙ moves_can g w c m e in
        moves_from d h c m lives (all_can_too m c all alike (d.accesses m (h.state c m)) (i.owned m (h.state c m)) there)

    next_past : (c : ℕ) → NoneIsPast c → (m : ℕ) → IsNotPast m (suc c) (suc c)
    next_past c all m =
        let so_far = all c (omega arith) m in
        let up = made_up d h m c in
        elim (cases_Bool (can_move (with_start d start) w c m)) [
          | inr still ↦ omega (arith, made_same (with_start d start) w m c still)
          | inl move ↦
              let more = made_more (with_start d start) w m c move in
              elim (cases_lt (moves_made (with_start d start) w m c) (moves_made d h m c)) [
                | inl less ↦ omega arith
                | inr not_less ↦
                    let same : moves_made d h m c ≡ moves_made (with_start d start) w m c = omega arith in
                    let alike = always_alike d start h w i j none x y m c c same in
                    let too = made_more d h m c (moves_too m c all alike move) in
                    omega arith
              ]
        ]

    pub none_past : (c : ℕ) → NoneIsPast c
    none_past zero b l m =
        let e : b ≡ 0 = omega arith in
        let z = made_0 (with_start d start) w m in
        rw e (omega arith)
    none_past (suc c) b l m = elim (cases_lt b (suc c)) [
      | inl before ↦ none_past c b (omega arith) m
      | inr at ↦ let e : b ≡ suc c = omega arith in rw e (next_past c (none_past c) m)
    ]
