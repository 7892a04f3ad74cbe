-- Where nothing else can be done, no step without a cycle comes before the least determined one.
use Rattle.std.proofs.Common.{◌≡◌, ℕ, zero, suc, ◌<◌, ◌≤◌, max, true, List, [], ◌∷◌, sym, refl, ap, ◌∙◌, arith, Some}
use Rattle.event_timing.specs.{Side, Design, IsDesign, Access, ready, Trace, IsHistory, is_possible, can_all, steps, done, View, Agrees}
use Rattle.event_timing.specs.{from, first_accesses, possible_all, Known, known_of, unblocked_clock, candidate, IsStuck, answer, is_decided}
use Rattle.event_timing.specs.{all_decided, flags_at, Enablers.Known.From, Enablers.Known.Never, Enablers.Known.Unknown}
use Rattle.event_timing.proofs.{Steps.done_more, Steps.done_same, Steps.done_less, OwnRuns.done_0, Threshold.Means}
use Rattle.event_timing.proofs.Standing.{step_ready, step_reached, moves_can, moves_lives, steps_moves}
use Rattle.event_timing.proofs.Candidate.{EachMeans, bound_found, first_means, candidate_from, candidate_done, candidate_steps}
use Rattle.event_timing.proofs.Candidate.{candidate_ready, reach_then, rest_first}

pub begin_passed : {S : Type 0} → (d : Design S) (h : Trace S) (v : View) → Agrees d h v → (m c n : ℕ) → n ≡ v.timed m → done d h m c ≡ n
    → from (v.cycle m) n ≤ c
begin_passed {S} d h v g m c zero e k = omega arith
begin_passed {S} d h v g m c (suc n) e k =
    let l : n < v.timed m = omega arith in
    done_less d h m (v.cycle m n) c (omega (arith, g.done_then m n l))

-- a step that the history does while nobody is ahead of the view is determined, at this clock or before
pub step_determined : {S : Type 0} → (d : Design S) (h : Trace S) → IsDesign d → IsHistory d h → (v : View) → Agrees d h v → (m c : ℕ)
    → ((n : ℕ) → done d h n c ≤ v.timed n) → steps d h c m ≡ true → done d h m c ≡ v.timed m → v.more m ≡ true
    → (e : ℕ) × (candidate d v m ≡ Some e) × (e ≤ c)
step_determined {S} d h i y v g m c n w k o =
    let b = begin_passed d h v g m c (v.timed m) refl k in
    let r : unblocked_clock v m ≤ c = rw (← reach_then d h i y v g m c o b k) (step_reached d h i y m c w) in
    let s = step_ready d h i y m c w ∙ ap (ready d m) (rest_first d h i y v g m c k) in
    let a = moves_can d h c m (steps_moves d h c m w) in
    let a' : can_all d h c (first_accesses v m) ≡ true = rw (g.accesses_first m o, ← s) a in
    let (u, f, l) = bound_found d h v c (known_of d v m) (first_accesses v m) n (first_means d h i y v g m c o k) a' in
    (max (unblocked_clock v m) u, candidate_from d v m u o f, omega arith)

ahead_never : {S : Type 0} → (d : Design S) (h : Trace S) → IsDesign d → IsHistory d h → (v : View) → Agrees d h v → (t : ℕ)
    → IsStuck d v t → (m c : ℕ) → c < t → ((n : ℕ) → done d h n c ≤ v.timed n) → steps d h c m ≡ true → done d h m c ≡ v.timed m → ⊥
ahead_never {S} d h i y v g t z m c l n w k =
    let s = step_ready d h i y m c w ∙ ap (ready d m) (rest_first d h i y v g m c k) in
    let a = ap (d.is_over m) (sym s) ∙ moves_lives d h c m (steps_moves d h c m w) in
    grind (arith, step_determined d h i y v g m c n w k, z.later m, z.ended m)

-- no step without a cycle is done before clock t
pub nobody_ahead : {S : Type 0} → (d : Design S) (h : Trace S) → IsDesign d → IsHistory d h → (v : View) → Agrees d h v → (t : ℕ)
    → IsStuck d v t → (c : ℕ) → c ≤ t → (m : ℕ) → done d h m c ≤ v.timed m
nobody_ahead {S} d h i y v g t z zero l m = omega (arith, done_0 d h m)
nobody_ahead {S} d h i y v g t z (suc c) l m =
    let n = λ (m : ℕ). nobody_ahead d h i y v g t z c (omega arith) m in
    grind (arith, n m, done_same d h m c, done_more d h m c, ahead_never d h i y v g t z m c l n)

answer_known : {S : Type 0} → (d : Design S) (h : Trace S) (v : View) (c : ℕ) (side : Side) (ch : ℕ) (k : Known) → is_decided k ≡ true
    → Means d h v c side ch k → is_possible d h c side ch ≡ answer k c
answer_known {S} d h v c side ch (From u) e g = g
answer_known {S} d h v c side ch Never e g = g
answer_known {S} d h v c side ch Unknown e g = cc

pub answer_late : {S : Type 0} → (d : Design S) (h : Trace S) (v : View) (c : ℕ) (side : Side) (ch : ℕ) (k : Known)
    → ((m : ℕ) → done d h m c ≤ v.timed m) → Means d h v c side ch k → is_possible d h c side ch ≡ answer k c
answer_late {S} d h v c side ch (From u) n g = g
answer_late {S} d h v c side ch Never n g = g
answer_late {S} d h v c side ch Unknown n g = g (n _)

flags_decided : {S : Type 0} → (d : Design S) (h : Trace S) (v : View) (c : ℕ) (know : Access → Known) (xs : List Access)
    → EachMeans d h v c know xs → can_all d h c xs ≡ true → all_decided know xs ≡ true → flags_at know c xs ≡ possible_all d h c xs
flags_decided {S} d h v c know [] g e f = refl
flags_decided {S} d h v c know (a ∷ xs) (g, gs) e f =
    grind (arith, answer_known d h v c a.side a.channel (know a), g, flags_decided d h v c know xs gs)

pub flags_late : {S : Type 0} → (d : Design S) (h : Trace S) (v : View) (c : ℕ) (know : Access → Known) (xs : List Access)
    → ((m : ℕ) → done d h m c ≤ v.timed m)
    → EachMeans d h v c know xs → can_all d h c xs ≡ true → flags_at know c xs ≡ possible_all d h c xs
flags_late {S} d h v c know [] n g e = refl
flags_late {S} d h v c know (a ∷ xs) n (g, gs) e =
    grind (arith, answer_late d h v c a.side a.channel (know a) n g, flags_late d h v c know xs n gs)

pub candidate_can : {S : Type 0} → (d : Design S) (h : Trace S) → IsDesign d → IsHistory d h → (v : View) → Agrees d h v → (m c : ℕ)
    → v.more m ≡ true → candidate d v m ≡ Some c → can_all d h c (first_accesses v m) ≡ true
candidate_can {S} d h i y v g m c o e =
    let s = candidate_ready d h i y v g m c e in
    let a = moves_can d h c m (steps_moves d h c m (candidate_steps d h i y v g m c e)) in
    rw (g.accesses_first m o, ← s) a

-- Answer: where all queries are decided, the answers are the history's
pub answers_right : {S : Type 0} → (d : Design S) (h : Trace S) → IsDesign d → IsHistory d h → (v : View) → Agrees d h v → (m c : ℕ)
    → v.more m ≡ true → candidate d v m ≡ Some c → all_decided (known_of d v m) (first_accesses v m) ≡ true
    → flags_at (known_of d v m) c (first_accesses v m) ≡ possible_all d h c (first_accesses v m)
answers_right {S} d h i y v g m c o e f =
    flags_decided d h v c (known_of d v m) (first_accesses v m) (first_means d h i y v g m c o (candidate_done d h i y v g m c e))
    (candidate_can d h i y v g m c o e) f

-- Earliest: where nobody is stuck below c, undecided queries are not possible
pub earliest_right : {S : Type 0} → (d : Design S) (h : Trace S) → IsDesign d → IsHistory d h → (v : View) → Agrees d h v → (m c : ℕ)
    → v.more m ≡ true
    → candidate d v m ≡ Some c → IsStuck d v c → flags_at (known_of d v m) c (first_accesses v m) ≡ possible_all d h c (first_accesses v m)
earliest_right {S} d h i y v g m c o e z =
    flags_late d h v c (known_of d v m) (first_accesses v m) (nobody_ahead d h i y v g c z c (omega arith))
    (first_means d h i y v g m c o (candidate_done d h i y v g m c e)) (candidate_can d h i y v g m c o e)
