-- Where a module stands in each clock: so many local clocks after its latest step.
use Rattle.std.proofs.Common.{◌≡◌, ℕ, zero, suc, ◌+◌, ◌-◌, ◌<◌, ◌≤◌, min, true, false, inl, inr, [], refl, arith}
use Rattle.std.proofs.lemmas.Bool.{cases_Bool, and_parts, and_from, cases_lt, not-true, not_from_false}
use Rattle.event_timing.specs.{Design, IsDesign, after_skip, ready, is_some_access, Trace, IsHistory, can_move, replies, can_all, steps}
use Rattle.event_timing.specs.{rest, since}
use Rattle.event_timing.proofs.Steps.{rest_more, rest_same, since_more, since_same}

pub idle_moves : {S : Type 0} → (d : Design S) (h : Trace S) (c m : ℕ) → d.is_over m (h.state c m) ≡ false → d.accesses m (h.state c m) ≡ []
    → can_move d h c m ≡ true
unfolding can_move
idle_moves {S} d h c m o a = rw (o, a) refl

idle_replies : {S : Type 0} → (d : Design S) (h : Trace S) (c m : ℕ) → d.accesses m (h.state c m) ≡ [] → replies d h c m ≡ []
unfolding replies
idle_replies {S} d h c m a = rw a refl

-- a module that moves is not over
pub moves_lives : {S : Type 0} → (d : Design S) (h : Trace S) (c m : ℕ) → can_move d h c m ≡ true → d.is_over m (h.state c m) ≡ false
unfolding can_move
moves_lives {S} d h c m e = not-true _ (and_parts _ _ e).0

pub moves_can : {S : Type 0} → (d : Design S) (h : Trace S) (c m : ℕ) → can_move d h c m ≡ true
    → can_all d h c (d.accesses m (h.state c m)) ≡ true
unfolding can_move
moves_can {S} d h c m e = (and_parts _ _ e).1

pub moves_from : {S : Type 0} → (d : Design S) (h : Trace S) (c m : ℕ) → d.is_over m (h.state c m) ≡ false
    → can_all d h c (d.accesses m (h.state c m)) ≡ true → can_move d h c m ≡ true
unfolding can_move
moves_from {S} d h c m o a = and_from _ _ (not_from_false _ o) a

pub steps_moves : {S : Type 0} → (d : Design S) (h : Trace S) (c m : ℕ) → steps d h c m ≡ true → can_move d h c m ≡ true
unfolding steps
steps_moves {S} d h c m e = (and_parts _ _ e).0

pub steps_some : {S : Type 0} → (d : Design S) (h : Trace S) (c m : ℕ) → steps d h c m ≡ true
    → is_some_access (d.accesses m (h.state c m)) ≡ true
unfolding steps
steps_some {S} d h c m e = (and_parts _ _ e).1

pub steps_from : {S : Type 0} → (d : Design S) (h : Trace S) (c m : ℕ) → can_move d h c m ≡ true
    → is_some_access (d.accesses m (h.state c m)) ≡ true → steps d h c m ≡ true
unfolding steps
steps_from {S} d h c m e s = and_from _ _ e s

pub since_le : {S : Type 0} → (d : Design S) (h : Trace S) (m c : ℕ) → since d h m c ≤ c
unfolding since
since_le {S} d h m zero = omega arith
since_le {S} d h m (suc c) = grind (arith, since_le d h m c)

-- in clocks with no access it moves on
young : {S : Type 0} → (d : Design S) (h : Trace S) → IsDesign d → IsHistory d h → (m c t j : ℕ) (s : S) → j < d.quiet m s
    → h.state c m ≡ after_skip d m j s → h.state (suc c) m ≡ after_skip d m (suc j) s
young {S} d h i y m c t j s l e =
    let o = i.quiet_lives m s j l in
    let a = i.quiet_idle m s j l in
    grind (arith, y.state_moves c m, idle_moves d h c m, idle_replies d h c m)

-- then it stays till it steps
old : {S : Type 0} → (d : Design S) (h : Trace S) → (i : IsDesign d) → IsHistory d h → (m c : ℕ) (s : S) → i.fits m s ≡ true
    → h.state c m ≡ ready d m s → steps d h c m ≡ false → h.state (suc c) m ≡ ready d m s
old {S} d h i y m c s f e n =
    grind (arith, y.state_stays c m, moves_lives d h c m, i.quiet_ends m s f, steps_from d h c m)

-- so many local clocks after the state s that it had at clock t
abbrev pub Stands : {S : Type 0} → Design S → Trace S → ℕ → ℕ → ℕ → S → Type 0
Stands {S} d h m c t s = h.state c m ≡ after_skip d m (min (c - t) (d.quiet m s)) s

stands_fresh : {S : Type 0} → (d : Design S) (h : Trace S) (m c : ℕ) → Stands d h m c c (h.state c m)
stands_fresh {S} d h m c =
    let e : min (c - c) (d.quiet m (h.state c m)) ≡ 0 = omega arith in
    rw e refl

stands_on : {S : Type 0} → (d : Design S) (h : Trace S) → (i : IsDesign d) → IsHistory d h → (m c t : ℕ) (s : S) → i.fits m s ≡ true → t ≤ c
    → steps d h c m ≡ false → Stands d h m c t s → Stands d h m (suc c) t s
stands_on {S} d h i y m c t s f l n e =
    elim (cases_lt (c - t) (d.quiet m s)) [
      | inl g ↦
          let a : min (c - t) (d.quiet m s) ≡ c - t = omega arith in
          let b : min (suc c - t) (d.quiet m s) ≡ suc (c - t) = omega arith in
          rw b (young d h i y m c t (c - t) s g (rw a at e))
      | inr g ↦
          let a : min (c - t) (d.quiet m s) ≡ d.quiet m s = omega arith in
          let b : min (suc c - t) (d.quiet m s) ≡ d.quiet m s = omega arith in
          rw b (old d h i y m c s f (rw a at e) n)
    ]

pub rest_0 : {S : Type 0} → (d : Design S) (h : Trace S) (m : ℕ) → rest d h m 0 ≡ h.state 0 m
unfolding rest
rest_0 {S} d h m = refl

-- every state of a run fits
pub history_fits : {S : Type 0} → (d : Design S) (h : Trace S) → (i : IsDesign d) → IsHistory d h → (m c : ℕ)
    → i.fits m (h.state c m) ≡ true
history_fits {S} d h i y m zero = rw (y.state_0 m) (i.fits_opening m)
history_fits {S} d h i y m (suc c) =
    grind (arith, y.state_moves c m, y.state_stays c m, i.fits_move m (h.state c m) (replies d h c m), history_fits d h i y m c)

pub rest_fits : {S : Type 0} → (d : Design S) (h : Trace S) → (i : IsDesign d) → IsHistory d h → (m c : ℕ) → i.fits m (rest d h m c) ≡ true
rest_fits {S} d h i y m zero = rw (rest_0 d h m) (history_fits d h i y m 0)
rest_fits {S} d h i y m (suc c) =
    grind (arith, rest_more d h m c, rest_same d h m c, history_fits d h i y m (suc c), rest_fits d h i y m c)

pub since_0 : {S : Type 0} → (d : Design S) (h : Trace S) (m : ℕ) → since d h m 0 ≡ 0
unfolding since
since_0 {S} d h m = refl

pub where_now : {S : Type 0} → (d : Design S) (h : Trace S) → IsDesign d → IsHistory d h → (m c : ℕ)
    → Stands d h m c (since d h m c) (rest d h m c)
where_now {S} d h i y m zero = rw (rest_0 d h m, since_0 d h m) (stands_fresh d h m 0)
where_now {S} d h i y m (suc c) =
    elim (cases_Bool (steps d h c m)) [
      | inl e ↦ rw (rest_more d h m c e, since_more d h m c e) (stands_fresh d h m (suc c))
      | inr e ↦ rw (rest_same d h m c e, since_same d h m c e)
          (stands_on d h i y m c (since d h m c) (rest d h m c) (rest_fits d h i y m c) (since_le d h m c) e (where_now d h i y m c))
    ]

-- before its next accesses are reached a module does no step
pub early_no_step : {S : Type 0} → (d : Design S) (h : Trace S) → IsDesign d → IsHistory d h → (m c : ℕ)
    → c < since d h m c + d.quiet m (rest d h m c) → steps d h c m ≡ false
early_no_step {S} d h i y m c l =
    let j : min (c - since d h m c) (d.quiet m (rest d h m c)) ≡ c - since d h m c = omega (arith, since_le d h m c) in
    let e = rw j at (where_now d h i y m c) in
    let b : c - since d h m c < d.quiet m (rest d h m c) = omega (arith, since_le d h m c) in
    grind (arith, i.quiet_idle m (rest d h m c) (c - since d h m c) b, steps_some d h c m)

-- then it stands at them
pub late_ready : {S : Type 0} → (d : Design S) (h : Trace S) → IsDesign d → IsHistory d h → (m c : ℕ)
    → since d h m c + d.quiet m (rest d h m c) ≤ c → h.state c m ≡ ready d m (rest d h m c)
late_ready {S} d h i y m c l =
    let j : min (c - since d h m c) (d.quiet m (rest d h m c)) ≡ d.quiet m (rest d h m c) = omega arith in
    rw j at (where_now d h i y m c)

pub step_reached : {S : Type 0} → (d : Design S) (h : Trace S) → IsDesign d → IsHistory d h → (m c : ℕ) → steps d h c m ≡ true
    → since d h m c + d.quiet m (rest d h m c) ≤ c
step_reached {S} d h i y m c w = grind (arith, early_no_step d h i y m c)

-- so a step is done at them
pub step_ready : {S : Type 0} → (d : Design S) (h : Trace S) → IsDesign d → IsHistory d h → (m c : ℕ) → steps d h c m ≡ true
    → h.state c m ≡ ready d m (rest d h m c)
step_ready {S} d h i y m c w = late_ready d h i y m c (step_reached d h i y m c w)
