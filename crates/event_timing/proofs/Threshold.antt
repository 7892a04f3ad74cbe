-- When an access of a module's first step without a cycle is possible.
use Rattle.std.proofs.lemmas.Bool.Decides.{nat_tests}
use Rattle.std.proofs.Common.{◌≡◌, ℕ, suc, ◌-◌, ◌<◌, ◌≤◌, true, false, ◌||◌, inl, inr, refl, ◌∙◌, arith, ltb, leb, Option, Some, None}
use Rattle.std.proofs.lemmas.Bool.{cases_Bool, cond-true, cond-false, ltb-false, or_parts}
use Rattle.event_timing.specs.{Side, other_side, Design, IsDesign, Trace, IsHistory, is_possible, done, tally, place, View, Agrees, Known}
use Rattle.event_timing.specs.{known, from_step, Enablers.Known.From, Enablers.Known.Never, Enablers.Known.Unknown}
use Rattle.flow_word.specs.declared.access.Side.TheVariants.{Pop, Push}
use Rattle.event_timing.proofs.Steps.{done_more, done_mono}
use Rattle.event_timing.proofs.OwnRuns.{follows, taken_own, taken_mono, tally_mono, IsPlace, place_says, closed_taken}

-- the history's counts are the view's, as long as no other step is done
pub taken_view : {S : Type 0} → (d : Design S) (h : Trace S) → IsDesign d → IsHistory d h → (v : View) → Agrees d h v
    → (side : Side) (ch c : ℕ) → done d h (d.owner side ch) c ≤ v.timed (d.owner side ch)
    → h.taken c side ch ≡ tally (v.accesses (d.owner side ch)) (v.reply (d.owner side ch)) side ch (done d h (d.owner side ch) c)
taken_view {S} d h i y v g side ch c l =
    taken_own d h i y side ch (v.accesses (d.owner side ch)) (v.reply (d.owner side ch)) c (follows d h v g (d.owner side ch) c l)
    (λ k q. g.accesses_then (d.owner side ch) k (omega arith))

-- a pop (push) is in the count from the clock after its cycle on
pub counted : {S : Type 0} → (d : Design S) (h : Trace S) → IsDesign d → IsHistory d h → (v : View) → Agrees d h v → (o : Side) (ch j n : ℕ)
    → j < v.timed (d.owner o ch) → tally (v.accesses (d.owner o ch)) (v.reply (d.owner o ch)) o ch j ≤ n
    → n < tally (v.accesses (d.owner o ch)) (v.reply (d.owner o ch)) o ch (suc j) → (c : ℕ)
    → ltb n (h.taken c o ch) ≡ ltb (v.cycle (d.owner o ch) j) c
counted {S} d h i y v g o ch j n l a b c =
    let w : ℕ = d.owner o ch in
    let e : ℕ = v.cycle w j in
    let k = g.done_then w j l in
    let k' = done_more d h w e (g.steps_then w j l) in
    let t = taken_view d h i y v g o ch (suc e) (omega arith) in
    let t' = rw (k', k) at t in
    let later : c ≤ e → h.taken c o ch ≤ n = λ q.
    let p = done_mono d h w c e q in
    omega (arith, taken_view d h i y v g o ch c (omega arith), tally_mono (v.accesses w) (v.reply w) o ch (done d h w c) j (omega arith)) in
    grind (arith, nat_tests, taken_mono d h y o ch (suc e) c)

-- what is known means this in clock c
abbrev pub Means : {S : Type 0} → Design S → Trace S → View → ℕ → Side → ℕ → Known → Type 0
Means {S} d h v c side ch (From u) = is_possible d h c side ch ≡ leb u c
Means {S} d h v c side ch Never = is_possible d h c side ch ≡ false
Means {S} d h v c side ch Unknown = done d h (d.owner (other_side side) ch) c ≤ v.timed (d.owner (other_side side) ch)
    → is_possible d h c side ch ≡ false

pub known_free : {S : Type 0} → (d : Design S) (v : View) (side : Side) (ch n : ℕ) → (d.unlimited side ch || ltb n (d.start side ch)) ≡ true
    → known d v side ch n ≡ From 0
unfolding known
known_free {S} d v side ch n e = cond-true _ _ _ e

pub known_never : {S : Type 0} → (d : Design S) (v : View) (side : Side) (ch n : ℕ)
    → (d.unlimited side ch || ltb n (d.start side ch)) ≡ false → d.closed side ch ≡ true → known d v side ch n ≡ Never
unfolding known
known_never {S} d v side ch n e f = cond-false _ _ _ e ∙ cond-true _ _ _ f

unfoldable pub enabler : {S : Type 0} → Design S → View → Side → ℕ → ℕ → Option ℕ
enabler {S} d v side ch n =
    place (v.accesses (d.owner (other_side side) ch)) (v.reply (d.owner (other_side side) ch)) (other_side side) ch
    (v.timed (d.owner (other_side side) ch)) (n - d.start side ch)

pub known_event : {S : Type 0} → (d : Design S) (v : View) (side : Side) (ch n : ℕ)
    → (d.unlimited side ch || ltb n (d.start side ch)) ≡ false → d.closed side ch ≡ false
    → known d v side ch n ≡ from_step (v.cycle (d.owner (other_side side) ch)) (d.lag side ch) (enabler d v side ch n)
unfolding known enabler
known_event {S} d v side ch n e f = cond-false _ _ _ e ∙ cond-false _ _ _ f

event_means : {S : Type 0} → (d : Design S) (h : Trace S) → IsDesign d → IsHistory d h → (v : View) → Agrees d h v
    → (side : Side) (ch c n : ℕ) → h.taken c side ch ≡ n → d.unlimited side ch ≡ false → d.start side ch ≤ n → (o : Option ℕ)
    → IsPlace (v.accesses (d.owner (other_side side) ch)) (v.reply (d.owner (other_side side) ch)) (other_side side) ch
    (v.timed (d.owner (other_side side) ch)) (n - d.start side ch) o
    → Means d h v c side ch (from_step (v.cycle (d.owner (other_side side) ch)) (d.lag side ch) o)
event_means {S} d h i y v g side ch c n t u l None p = λ q.
    let z = i.lag_positive side ch in
    let w : ℕ = d.owner (other_side side) ch in
    let q' = done_mono d h w (suc c - d.lag side ch) c (omega arith) in
    let a = taken_view d h i y v g (other_side side) ch (suc c - d.lag side ch) (omega arith) in
    let b = tally_mono (v.accesses w) (v.reply w) (other_side side) ch (done d h w (suc c - d.lag side ch)) (v.timed w) (omega arith) in
    grind (arith, nat_tests)
event_means {S} d h i y v g side ch c n t u l (Some j) (p1, p2, p3) =
    let z = i.lag_positive side ch in
    let k = counted d h i y v g (other_side side) ch j (n - d.start side ch) p1 p2 p3 (suc c - d.lag side ch) in
    grind (arith, nat_tests)

free_possible : {S : Type 0} → (d : Design S) (h : Trace S) (c : ℕ) (side : Side) (ch n : ℕ) → h.taken c side ch ≡ n
    → (d.unlimited side ch || ltb n (d.start side ch)) ≡ true → is_possible d h c side ch ≡ leb 0 c
free_possible {S} d h c side ch n t e = grind (arith, nat_tests)

other_other : (side : Side) → other_side (other_side side) ≡ side
other_other Pop = refl
other_other Push = refl

never_possible : {S : Type 0} → (d : Design S) (h : Trace S) → IsDesign d → IsHistory d h → (c : ℕ) (side : Side) (ch n : ℕ)
    → h.taken c side ch ≡ n
    → (d.unlimited side ch || ltb n (d.start side ch)) ≡ false → d.closed side ch ≡ true → is_possible d h c side ch ≡ false
never_possible {S} d h i y c side ch n t e f =
    let z = closed_taken d h i y (other_side side) ch (suc c - d.lag side ch) (rw (other_other side) f) in
    grind (arith, nat_tests)

-- what is known of an access is true in each clock in which n are before it
pub known_means : {S : Type 0} → (d : Design S) (h : Trace S) → IsDesign d → IsHistory d h → (v : View) → Agrees d h v
    → (side : Side) (ch c n : ℕ) → h.taken c side ch ≡ n → Means d h v c side ch (known d v side ch n)
unfolding enabler
known_means {S} d h i y v g side ch c n t =
    let from = event_means d h i y v g side ch c n t in
    let place = place_says (v.accesses (d.owner (other_side side) ch)) (v.reply (d.owner (other_side side) ch)) (other_side side) ch
    (v.timed (d.owner (other_side side) ch)) (n - d.start side ch) in
    elim (cases_Bool (d.unlimited side ch || ltb n (d.start side ch))) [
      | inl e ↦ rw (known_free d v side ch n e) (free_possible d h c side ch n t e)
      | inr e ↦
          elim (cases_Bool (d.closed side ch)) [
            | inl f ↦ rw (known_never d v side ch n e f) (never_possible d h i y c side ch n t e f)
            | inr f ↦
                let p = or_parts (d.unlimited side ch) (ltb n (d.start side ch)) e in
                rw (known_event d v side ch n e f) (from p.0 (ltb-false n (d.start side ch) p.1) (enabler d v side ch n) place)
          ]
    ]
