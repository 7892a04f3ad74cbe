-- The determined cycle of a step is the clock in which the history does it.
use Rattle.std.proofs.lemmas.Bool.Decides.{nat_tests}
use Rattle.std.proofs.Common.{◌≡◌, ℕ, zero, suc, ◌+◌, ◌-◌, ◌<◌, ◌≤◌, max, Bool, true, false, not, ◌&&◌, ◌||◌, inl, inr, List, [], ◌∷◌, sym}
use Rattle.std.proofs.Common.{refl, ap, ap₂, ◌∙◌, arith, zero-add, leb, Some}
use Rattle.std.proofs.lemmas.Bool.{cases_Bool, cond-true, cond-false, and_parts, both_ways, le-leb, leb-true}
use Rattle.event_timing.specs.{Side, Design, IsDesign, Access, Each, ready, steps, done, rest, since, Trace, IsHistory, is_possible}
use Rattle.event_timing.specs.{can_all, can_do, own, tally, View, Agrees, from, first_accesses, own_state, Known, known, known_of, both}
use Rattle.event_timing.specs.{bound, unblocked_clock, candidate, Enablers.Known.From, Enablers.Known.Never, Enablers.Known.Unknown}
use Rattle.event_timing.proofs.Steps.{done_more, done_same, done_mono, since_more, since_same}
use Rattle.event_timing.proofs.Standing.{early_no_step, late_ready, moves_can, moves_from, steps_moves, steps_from, since_0}
use Rattle.event_timing.proofs.OwnRuns.{follows, rest_own, done_0, own_fits}
use Rattle.event_timing.proofs.Threshold.{taken_view, Means, known_means}

pub both_parts : (k b : Known) (u : ℕ) → both k b ≡ From u → (p : ℕ) × (q : ℕ) × (k ≡ From p) × (b ≡ From q) × (max p q ≡ u)
both_parts (From p) (From q) u e = (p, q, refl, refl, cc)
both_parts (From p) Never u e = cc
both_parts (From p) Unknown u e = cc
both_parts Never b u e = cc
both_parts Unknown b u e = cc

leb_max : (p q c : ℕ) → (leb p c && leb q c) ≡ leb (max p q) c
leb_max p q c = grind (arith, nat_tests)

-- what is known of each of these accesses is true in clock c
abbrev pub EachMeans : {S : Type 0} → Design S → Trace S → View → ℕ → (Access → Known) → List Access → Type 0
EachMeans {S} d h v c know xs = Each (λ a. Means d h v c a.side a.channel (know a)) xs

pub can_blocks : {S : Type 0} → (d : Design S) (h : Trace S) (c : ℕ) (a : Access) → a.blocks ≡ true
    → can_do d h c a ≡ is_possible d h c a.side a.channel
can_blocks {S} d h c a b = ap (λ (z : Bool). not z || is_possible d h c a.side a.channel) b

pub bound_blocks : (know : Access → Known) (a : Access) (xs : List Access) → a.blocks ≡ true
    → bound know (a ∷ xs) ≡ both (know a) (bound know xs)
bound_blocks know a xs b = cond-true a.blocks (both (know a) (bound know xs)) (bound know xs) b

pub bound_free : (know : Access → Known) (a : Access) (xs : List Access) → a.blocks ≡ false → bound know (a ∷ xs) ≡ bound know xs
bound_free know a xs b = cond-false a.blocks (both (know a) (bound know xs)) (bound know xs) b

exact_more : {S : Type 0} → (d : Design S) (h : Trace S) (v : View) (c : ℕ) (know : Access → Known) (a : Access) (xs : List Access) (u : ℕ)
    → Means d h v c a.side a.channel (know a) → bound know (a ∷ xs) ≡ From u
    → ((q : ℕ) → bound know xs ≡ From q → can_all d h c xs ≡ leb q c) → can_all d h c (a ∷ xs) ≡ leb u c
exact_more {S} d h v c know a xs u g e ih =
    elim (cases_Bool a.blocks) [
      | inl b ↦
          let (p, q, k1, k2, k3) = both_parts (know a) (bound know xs) u (sym (bound_blocks know a xs b) ∙ e) in
          let g' : is_possible d h c a.side a.channel ≡ leb p c = rw k1 at g in
          grind (arith, leb_max p q c, ih q k2)
      | inr b ↦ grind (arith, ih u)
    ]

-- all of them can be done from the bound on
pub bound_exact : {S : Type 0} → (d : Design S) (h : Trace S) (v : View) (c : ℕ) (know : Access → Known) (xs : List Access) (u : ℕ)
    → EachMeans d h v c know xs → bound know xs ≡ From u → can_all d h c xs ≡ leb u c
bound_exact {S} d h v c know [] u g e = sym (le-leb u c (let k : u ≡ 0 = cc in omega arith))
bound_exact {S} d h v c know (a ∷ xs) u (g, gs) e = exact_more d h v c know a xs u g e (λ q k. bound_exact d h v c know xs q gs k)

found_one : {S : Type 0} → (d : Design S) (h : Trace S) (v : View) (c : ℕ) (side : Side) (ch : ℕ) → ((m : ℕ) → done d h m c ≤ v.timed m)
    → (k : Known) → Means d h v c side ch k → is_possible d h c side ch ≡ true → (u : ℕ) × (k ≡ From u) × (u ≤ c)
found_one {S} d h v c side ch n (From u) z p = (u, refl, leb-true u c (sym z ∙ p))
found_one {S} d h v c side ch n Never z p = absurd (both_ways _ z p)
found_one {S} d h v c side ch n Unknown z p = absurd (both_ways _ (z (n _)) p)

found_more : {S : Type 0} → (d : Design S) (h : Trace S) (v : View) (c : ℕ) (know : Access → Known) (a : Access) (xs : List Access)
    → ((m : ℕ) → done d h m c ≤ v.timed m) → Means d h v c a.side a.channel (know a) → can_do d h c a ≡ true
    → (u : ℕ) × (bound know xs ≡ From u) × (u ≤ c) → (u : ℕ) × (bound know (a ∷ xs) ≡ From u) × (u ≤ c)
found_more {S} d h v c know a xs n g e (u, k, l) =
    elim (cases_Bool a.blocks) [
      | inl b ↦
          let (p, k1, k2) = found_one d h v c a.side a.channel n (know a) g (sym (can_blocks d h c a b) ∙ e) in
          (max p u, bound_blocks know a xs b ∙ ap₂ both k1 k, omega arith)
      | inr b ↦ (u, bound_free know a xs b ∙ k, l)
    ]

-- where no module is ahead of the view, what can be done is known
pub bound_found : {S : Type 0} → (d : Design S) (h : Trace S) (v : View) (c : ℕ) (know : Access → Known) (xs : List Access)
    → ((m : ℕ) → done d h m c ≤ v.timed m) → EachMeans d h v c know xs → can_all d h c xs ≡ true
    → (u : ℕ) × (bound know xs ≡ From u) × (u ≤ c)
bound_found {S} d h v c know [] n g e = (0, refl, omega arith)
bound_found {S} d h v c know (a ∷ xs) n (g, gs) e =
    let (e1, e2) = and_parts (can_do d h c a) (can_all d h c xs) e in
    found_more d h v c know a xs n g e1 (bound_found d h v c know xs n gs e2)

access_means : {S : Type 0} → (d : Design S) (h : Trace S) → IsDesign d → IsHistory d h → (v : View) → Agrees d h v
    → (m c : ℕ) (side : Side) (ch : ℕ) → done d h m c ≡ v.timed m → d.owner side ch ≡ m
    → Means d h v c side ch (known d v side ch (tally (v.accesses m) (v.reply m) side ch (v.timed m)))
access_means {S} d h i y v g m c side ch k o =
    let l : done d h (d.owner side ch) c ≤ v.timed (d.owner side ch) = rw o (omega arith) in
    let t = taken_view d h i y v g side ch c l in
    let t' = rw (o, k) at t in
    known_means d h i y v g side ch c (tally (v.accesses m) (v.reply m) side ch (v.timed m)) t'

each_means : {S : Type 0} → (d : Design S) (h : Trace S) → IsDesign d → IsHistory d h → (v : View) → Agrees d h v → (m c : ℕ)
    → done d h m c ≡ v.timed m → (xs : List Access) → Each (λ a. d.owner a.side a.channel ≡ m) xs → EachMeans d h v c (known_of d v m) xs
each_means {S} d h i y v g m c k [] o = tt
each_means {S} d h i y v g m c k (a ∷ xs) (o, os) = (access_means d h i y v g m c a.side a.channel k o, each_means d h i y v g m c k xs os)

pub first_means : {S : Type 0} → (d : Design S) (h : Trace S) → IsDesign d → IsHistory d h → (v : View) → Agrees d h v → (m c : ℕ)
    → v.more m ≡ true → done d h m c ≡ v.timed m → EachMeans d h v c (known_of d v m) (first_accesses v m)
first_means {S} d h i y v g m c o k =
    let w : Each (λ a. d.owner a.side a.channel ≡ m) (first_accesses v m) = rw (g.accesses_first m o) (i.owned m _) in
    each_means d h i y v g m c k (first_accesses v m) w

-- the clock after the latest step with a cycle
abbrev pub begin : View → ℕ → ℕ
begin v m = from (v.cycle m) (v.timed m)

pub done_begin : {S : Type 0} → (d : Design S) (h : Trace S) (v : View) → Agrees d h v → (m n : ℕ) → n ≡ v.timed m
    → done d h m (from (v.cycle m) n) ≡ n
done_begin {S} d h v g m zero e = done_0 d h m
done_begin {S} d h v g m (suc k) e = grind (arith, done_more d h m (v.cycle m k), g.steps_then m k, g.done_then m k)

since_begin : {S : Type 0} → (d : Design S) (h : Trace S) (v : View) → Agrees d h v → (m n : ℕ) → n ≡ v.timed m
    → since d h m (from (v.cycle m) n) ≡ from (v.cycle m) n
since_begin {S} d h v g m zero e = since_0 d h m
since_begin {S} d h v g m (suc k) e = since_more d h m (v.cycle m k) (g.steps_then m k (omega arith))

since_stays : {S : Type 0} → (d : Design S) (h : Trace S) (m a n : ℕ) → done d h m (n + a) ≡ done d h m a
    → since d h m (n + a) ≡ since d h m a
since_stays {S} d h m a zero e = rw zero-add refl
since_stays {S} d h m a (suc n) e =
    let q : suc n + a ≡ suc (n + a) = omega arith in
    rw q (grind (
      arith,
      done_more d h m (n + a),
      done_same d h m (n + a),
      since_same d h m (n + a),
      done_mono d h m a (n + a),
      since_stays d h m a n,
    ))

-- from then on, as long as no other step is done, the module stands so many clocks after that clock
pub since_first : {S : Type 0} → (d : Design S) (h : Trace S) (v : View) → Agrees d h v → (m c : ℕ) → begin v m ≤ c
    → done d h m c ≡ v.timed m → since d h m c ≡ begin v m
since_first {S} d h v g m c l k =
    let q : (c - begin v m) + begin v m ≡ c = omega arith in
    let then = since_begin d h v g m (v.timed m) refl in
    grind (arith, q, since_stays d h m (begin v m) (c - begin v m), done_begin d h v g m (v.timed m) refl)

pub rest_first : {S : Type 0} → (d : Design S) (h : Trace S) → IsDesign d → IsHistory d h → (v : View) → Agrees d h v → (m c : ℕ)
    → done d h m c ≡ v.timed m → rest d h m c ≡ own d m (v.reply m) (v.timed m)
rest_first {S} d h i y v g m c k =
    let e = rest_own d h i y m (v.reply m) c (follows d h v g m c (omega arith)) in
    rw k at e

-- the facts of a determined step
pub candidate_parts : {S : Type 0} → (d : Design S) (v : View) (m c : ℕ) → candidate d v m ≡ Some c
    → (v.more m ≡ true) × (u : ℕ) × (bound (known_of d v m) (first_accesses v m) ≡ From u) × (max (unblocked_clock v m) u ≡ c)
unfolding candidate
candidate_parts {S} d v m c e = grind arith

pub candidate_from : {S : Type 0} → (d : Design S) (v : View) (m u : ℕ) → v.more m ≡ true
    → bound (known_of d v m) (first_accesses v m) ≡ From u → candidate d v m ≡ Some (max (unblocked_clock v m) u)
unfolding candidate
candidate_from {S} d v m u o b = grind arith

pub reach_then : {S : Type 0} → (d : Design S) (h : Trace S) → IsDesign d → IsHistory d h → (v : View) → Agrees d h v → (m c : ℕ)
    → v.more m ≡ true → begin v m ≤ c → done d h m c ≡ v.timed m → since d h m c + d.quiet m (rest d h m c) ≡ unblocked_clock v m
reach_then {S} d h i y v g m c o l k = rw (since_first d h v g m c l k, rest_first d h i y v g m c k, g.wait_first m o) refl

-- after its reach, a module that did no further step stands at its first step without a cycle
pub first_ready : {S : Type 0} → (d : Design S) (h : Trace S) → IsDesign d → IsHistory d h → (v : View) → Agrees d h v → (m c : ℕ)
    → v.more m ≡ true → unblocked_clock v m ≤ c → done d h m c ≡ v.timed m → h.state c m ≡ own_state d v m (v.timed m)
first_ready {S} d h i y v g m c o l k =
    let s = late_ready d h i y m c (rw (reach_then d h i y v g m c o (omega arith) k) l) in
    s ∙ ap (ready d m) (rest_first d h i y v g m c k)

pub no_step_before : {S : Type 0} → (d : Design S) (h : Trace S) → IsDesign d → IsHistory d h → (v : View) → Agrees d h v → (m c u : ℕ)
    → v.more m ≡ true
    → bound (known_of d v m) (first_accesses v m) ≡ From u → begin v m ≤ c → done d h m c ≡ v.timed m → c < max (unblocked_clock v m) u
    → steps d h c m ≡ false
no_step_before {S} d h i y v g m c u o b l k q =
    let r = reach_then d h i y v g m c o l k in
    let a = λ (p : unblocked_clock v m ≤ c). first_ready d h i y v g m c o p k in
    let e = bound_exact d h v c (known_of d v m) (first_accesses v m) u (first_means d h i y v g m c o k) b in
    grind (arith, nat_tests, early_no_step d h i y m c, moves_can d h c m, steps_moves d h c m, g.accesses_first m o)

still_first : {S : Type 0} → (d : Design S) (h : Trace S) → IsDesign d → IsHistory d h → (v : View) → Agrees d h v → (m u : ℕ)
    → v.more m ≡ true → bound (known_of d v m) (first_accesses v m) ≡ From u → (n : ℕ) → n + begin v m ≤ max (unblocked_clock v m) u
    → done d h m (n + begin v m) ≡ v.timed m
still_first {S} d h i y v g m u o b zero l = rw zero-add (done_begin d h v g m (v.timed m) refl)
still_first {S} d h i y v g m u o b (suc n) l =
    let k = still_first d h i y v g m u o b n (omega arith) in
    let q : suc n + begin v m ≡ suc (n + begin v m) = omega arith in
    rw q (done_same d h m (n + begin v m) (no_step_before d h i y v g m (n + begin v m) u o b (omega arith) k (omega arith)) ∙ k)

-- the determined cycle is the clock of the step in the history
pub candidate_done : {S : Type 0} → (d : Design S) (h : Trace S) → IsDesign d → IsHistory d h → (v : View) → Agrees d h v → (m c : ℕ)
    → candidate d v m ≡ Some c → done d h m c ≡ v.timed m
candidate_done {S} d h i y v g m c e =
    let (o, u, b, k) = candidate_parts d v m c e in
    let q : (c - begin v m) + begin v m ≡ c = omega arith in
    rw q at (still_first d h i y v g m u o b (c - begin v m) (omega arith))

pub candidate_ready : {S : Type 0} → (d : Design S) (h : Trace S) → IsDesign d → IsHistory d h → (v : View) → Agrees d h v → (m c : ℕ)
    → candidate d v m ≡ Some c → h.state c m ≡ own_state d v m (v.timed m)
candidate_ready {S} d h i y v g m c e =
    let (o, u, b, k) = candidate_parts d v m c e in
    first_ready d h i y v g m c o (omega arith) (candidate_done d h i y v g m c e)

pub candidate_steps : {S : Type 0} → (d : Design S) (h : Trace S) → IsDesign d → IsHistory d h → (v : View) → Agrees d h v → (m c : ℕ)
    → candidate d v m ≡ Some c → steps d h c m ≡ true
candidate_steps {S} d h i y v g m c e =
    let (o, u, b, k) = candidate_parts d v m c e in
    let n = candidate_done d h i y v g m c e in
    let s = candidate_ready d h i y v g m c e in
    let a = bound_exact d h v c (known_of d v m) (first_accesses v m) u (first_means d h i y v g m c o n) b in
    let z = i.quiet_ends m (own d m (v.reply m) (v.timed m)) (own_fits d i m (v.reply m) (v.timed m)) (g.lives_first m o) in
    let can = a ∙ le-leb u c (omega arith) in
    steps_from d h c m (moves_from d h c m (rw s (g.lives_first m o)) (rw (s, ← g.accesses_first m o) can)) (rw s z)
