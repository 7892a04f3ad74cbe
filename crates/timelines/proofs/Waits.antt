-- What a core tells of a module in each clock: whether it moves, and where it waits, which accesses are possible.
use Rattle.std.proofs.Common.{◌≡◌, ℕ, ◌<◌, ◌≤◌, true, List, [], ◌∷◌, sym, ◌∙◌, arith}
use Rattle.timelines.specs.{Design, IsDesign, Access, Each, ready, Trace, IsHistory, can_move, is_possible, done, View, Agrees, from, own}
use Rattle.timelines.specs.{tally, Known, answer, view, core_accesses, core_reply, IsAgreed, IsFinal, known_in, arrives}
use Rattle.event_timing.specs.Core.{Core}
use Rattle.event_timing.proofs.Threshold.{taken_view, Means, known_means}
use Rattle.event_timing.proofs.{Candidate.EachMeans, Earliest.answer_late, Fronts.agrees, Agreement.final_complete}
use Rattle.timelines.proofs.Placed.{moves_before, stands_at, at_step, at_last, moves_then}

-- ---- what is known of the accesses of any step is true while the module is at that step

access_means : {S : Type 0} → (d : Design S) (h : Trace S) → IsDesign d → IsHistory d h → (v : View) → Agrees d h v → (m c k : ℕ)
    → done d h m c ≡ k → k ≤ v.timed m → (a : Access) → d.owner a.side a.channel ≡ m
    → Means d h v c a.side a.channel (known_in d v m k a)
access_means {S} d h i y v g m c k e l a o =
    let b : done d h (d.owner a.side a.channel) c ≤ v.timed (d.owner a.side a.channel) = rw o (omega arith) in
    let t = taken_view d h i y v g a.side a.channel c b in
    let t' = rw (o, e) at t in
    known_means d h i y v g a.side a.channel c (tally (v.accesses m) (v.reply m) a.side a.channel k) t'

each_means : {S : Type 0} → (d : Design S) (h : Trace S) → IsDesign d → IsHistory d h → (v : View) → Agrees d h v → (m c k : ℕ)
    → done d h m c ≡ k → k ≤ v.timed m → (xs : List Access) → Each (λ a. d.owner a.side a.channel ≡ m) xs
    → EachMeans d h v c (known_in d v m k) xs
each_means {S} d h i y v g m c k e l [] o = tt
each_means {S} d h i y v g m c k e l (a ∷ xs) (o, os) =
    (access_means d h i y v g m c k e l a o, each_means d h i y v g m c k e l xs os)

each_answers : {S : Type 0} → (d : Design S) (h : Trace S) (v : View) (c : ℕ) → ((n : ℕ) → done d h n c ≤ v.timed n)
    → (know : Access → Known) (xs : List Access) → EachMeans d h v c know xs
    → Each (λ a. is_possible d h c a.side a.channel ≡ answer (know a) c) xs
each_answers {S} d h v c n know [] g = tt
each_answers {S} d h v c n know (a ∷ xs) (g, gs) =
    (answer_late d h v c a.side a.channel (know a) n g, each_answers d h v c n know xs gs)

-- ---- clock by clock

-- before it comes to step k a module moves
pub moves_early : {S : Type 0} → (d : Design S) (h : Trace S) → IsDesign d → IsHistory d h → (limit : ℕ) (x : Core S)
    → IsAgreed d h limit x → (m k c : ℕ) → k ≤ x.timed m → done d h m c ≡ k → c < arrives d x m k → can_move d h c m ≡ true
moves_early {S} d h i y limit x g m k c l e q = moves_before d h i y (view d x) (agrees d h limit x g.marks g.time) m c k e l q

-- then it stands at it, and what is known of each access there, by cycles of enablers and lags, says whether it is possible
pub waits_right : {S : Type 0} → (d : Design S) (h : Trace S) → IsDesign d → IsHistory d h → (limit : ℕ) (x : Core S)
    → IsAgreed d h limit x → IsFinal d limit x → (m k c : ℕ) → k ≤ x.timed m → k < x.emitted m → c ≤ limit → done d h m c ≡ k
    → arrives d x m k ≤ c
    → (h.state c m ≡ x.state m k)
    × Each (λ a. is_possible d h c a.side a.channel ≡ answer (known_in d (view d x) m k a) c) (core_accesses d x m k)
waits_right {S} d h i y limit x g f m k c l n b e q =
    let a = agrees d h limit x g.marks g.time in
    let s = stands_at d h i y (view d x) a m c k e l q in
    let s' = s ∙ sym (g.marks.own_step m k n) in
    let o : Each (λ a. d.owner a.side a.channel ≡ m) (core_accesses d x m k) = i.owned m (x.state m k) in (
      s',
      each_answers d h (view d x) c (λ w. final_complete d h i y limit x g f w c b) (known_in d (view d x) m k) (core_accesses d x m k)
          (each_means d h i y (view d x) a m c k e l (core_accesses d x m k) o),
    )

-- after its last step, with no further one, it stands at its end
pub ends_right : {S : Type 0} → (d : Design S) (h : Trace S) → IsDesign d → IsHistory d h → (limit : ℕ) (x : Core S)
    → IsAgreed d h limit x → (m c : ℕ) → done d h m c ≡ x.timed m → arrives d x m (x.timed m) ≤ c
    → h.state c m ≡ ready d m (own d m (core_reply d x m) (x.timed m))
ends_right {S} d h i y limit x g m c e q =
    stands_at d h i y (view d x) (agrees d h limit x g.marks g.time) m c (x.timed m) e (omega arith) q

-- ---- which clocks are those of a step

pub step_clocks : {S : Type 0} → (d : Design S) (h : Trace S) (limit : ℕ) (x : Core S) → IsAgreed d h limit x → (m k c : ℕ)
    → k < x.timed m → from (x.cycle m) k ≤ c → c ≤ x.cycle m k → done d h m c ≡ k
step_clocks {S} d h limit x g m k c l a b = at_step d h (view d x) (agrees d h limit x g.marks g.time) m k c l a b

pub last_clocks : {S : Type 0} → (d : Design S) (h : Trace S) → IsDesign d → IsHistory d h → (limit : ℕ) (x : Core S)
    → IsAgreed d h limit x → IsFinal d limit x → (m c : ℕ) → c ≤ limit → from (x.cycle m) (x.timed m) ≤ c → done d h m c ≡ x.timed m
last_clocks {S} d h i y limit x g f m c b a =
    at_last d h (view d x) (agrees d h limit x g.marks g.time) m c a (final_complete d h i y limit x g f m c b)

pub cycle_moves : {S : Type 0} → (d : Design S) (h : Trace S) (limit : ℕ) (x : Core S) → IsAgreed d h limit x → (m k : ℕ)
    → k < x.timed m → can_move d h (x.cycle m k) m ≡ true
cycle_moves {S} d h limit x g m k l = moves_then d h (view d x) (agrees d h limit x g.marks g.time) m k l
