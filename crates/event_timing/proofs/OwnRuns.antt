-- A module's steps in a history are its own run on the history's replies.
use Rattle.std.proofs.{lemmas.Bool.Decides.nat_tests, lemmas.Bool.cases_Bool}
use Rattle.std.proofs.Common.{◌≡◌, ℕ, zero, suc, ◌+◌, ◌<◌, ◌≤◌, true, false, inl, inr, List, [], ◌∷◌, refl, ◌∙◌, arith, Option, Some, None}
use Rattle.event_timing.specs.{Side, other_side, same_side, Design, IsDesign, Access, Reply, ready, after_skip, is_some_access, takes_in}
use Rattle.event_timing.specs.{Each, Trace, IsHistory, replies, steps, done, rest, own, own_accesses, tally, place, View, Agrees}
use Rattle.event_timing.proofs.Steps.{never_falls, done_more, done_same, rest_more, rest_same, done_up, done_past, same_clock}
use Rattle.event_timing.proofs.Standing.{step_ready, rest_0, steps_moves, steps_from}

pub done_0 : {S : Type 0} → (d : Design S) (h : Trace S) (m : ℕ) → done d h m 0 ≡ 0
unfolding done
done_0 {S} d h m = refl

pub own_0 : {S : Type 0} → (d : Design S) (m : ℕ) (r : ℕ → List Reply) → own d m r 0 ≡ d.opening m
unfolding own
own_0 {S} d m r = refl

pub own_more : {S : Type 0} → (d : Design S) (m : ℕ) (r : ℕ → List Reply) (k : ℕ)
    → own d m r (suc k) ≡ d.move m (ready d m (own d m r k)) (r k)
unfolding own
own_more {S} d m r k = refl

skip_fits : {S : Type 0} → (d : Design S) → (i : IsDesign d) → (m n : ℕ) (s : S) → i.fits m s ≡ true → i.fits m (after_skip d m n s) ≡ true
skip_fits {S} d i m zero s f = f
skip_fits {S} d i m (suc n) s f = i.fits_move m (after_skip d m n s) [] (skip_fits d i m n s f)

-- every state of an own run fits
pub own_fits : {S : Type 0} → (d : Design S) → (i : IsDesign d) → (m : ℕ) (r : ℕ → List Reply) (k : ℕ) → i.fits m (own d m r k) ≡ true
own_fits {S} d i m r zero = rw (own_0 d m r) (i.fits_opening m)
own_fits {S} d i m r (suc k) =
    rw (own_more d m r k) (i.fits_move m (ready d m (own d m r k)) (r k)
    (skip_fits d i m (d.quiet m (own d m r k)) (own d m r k) (own_fits d i m r k)))

pub tally_0 : (a : ℕ → List Access) (r : ℕ → List Reply) (side : Side) (ch : ℕ) → tally a r side ch 0 ≡ 0
unfolding tally
tally_0 a r side ch = refl

pub tally_more : (a : ℕ → List Access) (r : ℕ → List Reply) (side : Side) (ch k : ℕ)
    → tally a r side ch (suc k) ≡ tally a r side ch k + takes_in side ch (a k) (r k)
unfolding tally
tally_more a r side ch k = refl

-- the replies are those that the history gave in the module's steps before clock c
abbrev pub Follows : {S : Type 0} → Design S → Trace S → ℕ → (ℕ → List Reply) → ℕ → Type 0
Follows {S} d h m r c = (e : ℕ) → e < c → steps d h e m ≡ true → r (done d h m e) ≡ replies d h e m

pub follows_less : {S : Type 0} → (d : Design S) (h : Trace S) (m : ℕ) (r : ℕ → List Reply) (c : ℕ) → Follows d h m r (suc c)
    → Follows d h m r c
follows_less {S} d h m r c f e l s = f e (omega arith) s

pub rest_own : {S : Type 0} → (d : Design S) (h : Trace S) → IsDesign d → IsHistory d h → (m : ℕ) (r : ℕ → List Reply) (c : ℕ)
    → Follows d h m r c → rest d h m c ≡ own d m r (done d h m c)
rest_own {S} d h i y m r zero f = rest_0 d h m ∙ (y.state_0 m ∙ (rw (done_0 d h m, own_0 d m r) refl))
rest_own {S} d h i y m r (suc c) f =
    let g = rest_own d h i y m r c (follows_less d h m r c f) in
    elim (cases_Bool (steps d h c m)) [
      | inl e ↦ rest_more d h m c e ∙ (y.state_moves c m (steps_moves d h c m e)
          ∙ (rw (done_more d h m c e, own_more d m r (done d h m c), step_ready d h i y m c e, g, f c (omega arith) e) refl))
      | inr e ↦ rw (rest_same d h m c e, done_same d h m c e) g
    ]

none_taken : (side : Side) (ch : ℕ) (xs : List Access) (rs : List Reply) → is_some_access xs ≡ false → takes_in side ch xs rs ≡ 0
none_taken side ch [] rs e = refl
none_taken side ch (a ∷ xs) rs e = cc

taken_still : {S : Type 0} → (d : Design S) (h : Trace S) → IsHistory d h → (c : ℕ) (side : Side) (ch : ℕ)
    → steps d h c (d.owner side ch) ≡ false → h.taken (suc c) side ch ≡ h.taken c side ch
taken_still {S} d h y c side ch e =
    let w : ℕ = d.owner side ch in
    let none = none_taken side ch (d.accesses w (h.state c w)) (replies d h c w) in
    grind (arith, y.taken_moves c side ch, y.taken_stays c side ch, steps_from d h c w)

-- the accesses of the first n steps are those of the own run
abbrev pub OwnAccesses : {S : Type 0} → Design S → ℕ → (ℕ → List Access) → (ℕ → List Reply) → ℕ → Type 0
OwnAccesses {S} d m a r n = (k : ℕ) → k < n → a k ≡ own_accesses d m r k

pub taken_own : {S : Type 0} → (d : Design S) (h : Trace S) → IsDesign d → IsHistory d h
    → (side : Side) (ch : ℕ) (a : ℕ → List Access) (r : ℕ → List Reply) (c : ℕ) → Follows d h (d.owner side ch) r c
    → OwnAccesses d (d.owner side ch) a r (done d h (d.owner side ch) c)
    → h.taken c side ch ≡ tally a r side ch (done d h (d.owner side ch) c)
taken_own {S} d h i y side ch a r zero f x = y.taken_0 side ch ∙ (rw (done_0 d h (d.owner side ch), tally_0 a r side ch) refl)
taken_own {S} d h i y side ch a r (suc c) f x =
    let w : ℕ = d.owner side ch in
    let g = taken_own d h i y side ch a r c (follows_less d h w r c f) (λ k l. x k (omega (arith, done_up d h w c))) in
    elim (cases_Bool (steps d h c w)) [
      | inl e ↦
          let n = done_more d h w c e in
          let o = rest_own d h i y w r c (follows_less d h w r c f) in
          y.taken_moves c side ch (steps_moves d h c w e) ∙ (rw (
            n,
            tally_more a r side ch (done d h w c),
            x (done d h w c) (omega arith),
            f c (omega arith) e,
            step_ready d h i y w c e,
            o,
            g,
          ) refl)
      | inr e ↦ taken_still d h y c side ch e ∙ (rw (done_same d h w c e) g)
    ]

-- the replies of a view that agrees are followed as long as no other step is done
pub follows : {S : Type 0} → (d : Design S) (h : Trace S) (v : View) → Agrees d h v → (m c : ℕ) → done d h m c ≤ v.timed m
    → Follows d h m (v.reply m) c
follows {S} d h v g m c l e b s =
    let k : done d h m e < v.timed m = omega (arith, done_past d h m e c s b) in
    let t = same_clock d h m (v.cycle m (done d h m e)) e (g.steps_then m (done d h m e) k) s (g.done_then m (done d h m e) k) in
    let p = g.reply_then m (done d h m e) k in
    rw t at p

pub tally_mono : (a : ℕ → List Access) (r : ℕ → List Reply) (side : Side) (ch p q : ℕ) → p ≤ q → tally a r side ch p ≤ tally a r side ch q
tally_mono a r side ch p q l = never_falls (tally a r side ch) (λ n. omega (arith, tally_more a r side ch n)) p q l

pub taken_mono : {S : Type 0} → (d : Design S) (h : Trace S) → IsHistory d h → (side : Side) (ch a b : ℕ) → a ≤ b
    → h.taken a side ch ≤ h.taken b side ch
taken_mono {S} d h y side ch a b l =
    never_falls (λ c. h.taken c side ch) (λ c. grind (arith, y.taken_moves c side ch, y.taken_stays c side ch)) a b l

-- it is the step of the pop (push) with i before it, or none of the first n is
abbrev pub IsPlace : (ℕ → List Access) → (ℕ → List Reply) → Side → ℕ → ℕ → ℕ → Option ℕ → Type 0
IsPlace a r side ch n i None = tally a r side ch n ≤ i
IsPlace a r side ch n i (Some j) = (j < n) × (tally a r side ch j ≤ i) × (i < tally a r side ch (suc j))

-- what `place` finds
pub place_says : (a : ℕ → List Access) (r : ℕ → List Reply) (side : Side) (ch n i : ℕ) → IsPlace a r side ch n i (place a r side ch n i)
unfolding place
place_says a r side ch zero i = omega (arith, tally_0 a r side ch)
place_says a r side ch (suc n) i = grind (arith, nat_tests, place_says a r side ch n i)

pub same_side_is : (a b : Side) → same_side a b ≡ true → a ≡ b
same_side_is a b e = grind arith

-- nobody pushes a source, and nobody pops a sink
closed_takes : {S : Type 0} → (d : Design S) (o : Side) (ch : ℕ) (xs : List Access) (rs : List Reply) → d.closed (other_side o) ch ≡ true
    → Each (λ a. d.closed (other_side a.side) a.channel ≡ false) xs → takes_in o ch xs rs ≡ 0
closed_takes {S} d o ch [] rs e g = refl
closed_takes {S} d o ch (a ∷ xs) [] e g = refl
closed_takes {S} d o ch (a ∷ xs) (r ∷ rs) e (g, gs) = grind (arith, nat_tests, same_side_is a.side o, closed_takes d o ch xs rs e gs)

pub closed_taken : {S : Type 0} → (d : Design S) (h : Trace S) → IsDesign d → IsHistory d h → (o : Side) (ch c : ℕ)
    → d.closed (other_side o) ch ≡ true → h.taken c o ch ≡ 0
closed_taken {S} d h i y o ch zero e = y.taken_0 o ch
closed_taken {S} d h i y o ch (suc c) e =
    let w : ℕ = d.owner o ch in
    let z = closed_takes d o ch (d.accesses w (h.state c w)) (replies d h c w) e (i.open_sides _ _) in
    grind (arith, y.taken_moves c o ch, y.taken_stays c o ch, closed_taken d h i y o ch c e)

-- there is one such step
pub place_unique : (a : ℕ → List Access) (r : ℕ → List Reply) (side : Side) (ch n i j : ℕ) → j < n → tally a r side ch j ≤ i
    → i < tally a r side ch (suc j) → place a r side ch n i ≡ Some j
place_unique a r side ch n i j l p q = grind (arith, place_says a r side ch n i, tally_mono a r side ch)
