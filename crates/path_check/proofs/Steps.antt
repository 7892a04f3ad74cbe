-- Paths of waits over the steps of a core that agrees with the run: a module comes to its next step, and to its end, and a step that
-- waits for another comes after it.
use Rattle.std.proofs.Common.{◌≡◌, ℕ, zero, suc, ◌+◌, ◌≤◌, ◌<◌, true, false, sym, ◌∙◌, ap, subst, arith}
use Rattle.path_check.specs.{Side, other_side, Design, IsDesign, done, Agrees, own, IsAgreed, Trace, IsHistory, can_move, core_accesses}
use Rattle.path_check.specs.{core_reply, core_tally, view, arrives, can_wait_at, IsAfter, Paths.Later, Paths.Own, Paths.Waits}
use Rattle.event_timing.specs.Core.{Core}
use Rattle.event_timing.proofs.Fronts.{agrees, core_tally_is}
use Rattle.event_timing.proofs.{Standing.early_no_step, Steps.done_more, Steps.done_same, Threshold.taken_view}
use Rattle.timelines.proofs.{Placed.arrives_is, Placed.arrives_before, Placed.stands_at, Waits.moves_early, Waits.cycle_moves}
use Rattle.path_check.proofs.After.{owned_there}

-- the clocks from a step to where its module comes to the next one, or to its end
abbrev pub gap_after : {S : Type 0} → Design S → Core S → ℕ → ℕ → ℕ
gap_after {S} d x n k = suc (d.quiet n (own d n (core_reply d x n) (suc k)))

module _ {S : Type 0} (d : Design S) (start : Side → ℕ → ℕ) (h : Trace S) (i : IsDesign d) (y : IsHistory d h) (limit : ℕ) (x : Core S)
    (g : IsAgreed d h limit x) (m e : ℕ) where
  -- what the core claims
  its : Agrees d h (view d x)
  its = agrees d h limit x g.marks g.time

  -- ---- quiet clocks

  -- after its step k, and so many clocks later, a module has done no other step
  quiet_done : (n k j : ℕ) → k < x.timed n → j + suc (x.cycle n k) ≤ arrives d x n (suc k) → done d h n (j + suc (x.cycle n k)) ≡ suc k
  quiet_done n k zero l q =
      let at : 0 + suc (x.cycle n k) ≡ suc (x.cycle n k) = omega arith in
      rw at (done_more d h n (x.cycle n k) (g.time.steps_then n k l) ∙ ap suc (g.time.done_then n k l))
  quiet_done n k (suc j) l q =
      let c = j + suc (x.cycle n k) in
      let at : suc j + suc (x.cycle n k) ≡ suc c = omega arith in
      let before = quiet_done n k j l (omega arith) in
      let comes = arrives_is d h i y (view d x) its n c (suc k) before l in
      rw at (done_same d h n c (early_no_step d h i y n c (omega arith)) ∙ before)

  -- it moves in each of these clocks
  pub moves_last : (n k j : ℕ) → k < x.timed n → j + suc (x.cycle n k) < arrives d x n (suc k)
      → can_move d h (j + suc (x.cycle n k)) n ≡ true
  moves_last n k j l q =
      moves_early d h i y limit x g n (suc k) (j + suc (x.cycle n k)) l (quiet_done n k j l (omega arith)) q

  pub moves_on : (n k j w : ℕ) → k < x.timed n → j + suc (x.cycle n k) ≤ arrives d x n (suc k)
      → IsAfter d start h m e n (x.cycle n k) w → IsAfter d start h m e n (j + suc (x.cycle n k)) (j + suc w)
  moves_on n k zero w l q after =
      let at : 0 + suc (x.cycle n k) ≡ suc (x.cycle n k) = omega arith in
      let more : 0 + suc w ≡ suc w = omega arith in
      rw (at, more) (Own n (x.cycle n k) w (cycle_moves d h limit x g n k l) after)
  moves_on n k (suc j) w l q after =
      let c = j + suc (x.cycle n k) in
      let at : suc j + suc (x.cycle n k) ≡ suc c = omega arith in
      let more : suc j + suc w ≡ suc (j + suc w) = omega arith in
      let before = moves_on n k j w l (omega arith) after in
      let move = moves_last n k j l (omega arith) in
      rw (at, more) (Own n c (j + suc w) move before)

  -- ---- a module's next step

  pub comes_next : (n k w : ℕ) → suc k < x.timed n → IsAfter d start h m e n (x.cycle n k) w
      → IsAfter d start h m e n (x.cycle n (suc k)) (w + gap_after d x n k)
  comes_next n k w l after =
      let quiet = d.quiet n (own d n (core_reply d x n) (suc k)) in
      let comes = arrives_before d h i y (view d x) its n (suc k) l in
      let first : quiet + suc (x.cycle n k) ≡ arrives d x n (suc k) = omega arith in
      let there = moves_on n k quiet w (omega arith) (omega arith) after in
      let clocks : w + suc quiet ≡ quiet + suc w = omega arith in
      rw clocks (Later n (quiet + suc (x.cycle n k)) (x.cycle n (suc k)) (quiet + suc w) (omega arith) there)

  -- ---- a step that waits for another

  tally_there : (n k ch : ℕ) (side : Side) → k < x.timed n → d.owner side ch ≡ n
      → h.taken (x.cycle n k) side ch ≡ core_tally d x n side ch k
  tally_there n k ch side l o =
      let same = g.time.done_then n k l in
      let within : done d h (d.owner side ch) (x.cycle n k) ≤ x.timed (d.owner side ch) = rw (o, same) (omega arith) in
      let taken = taken_view d h i y (view d x) its side ch (x.cycle n k) within in
      let there = rw (o, same) at taken in
      there ∙ core_tally_is d x n side ch k

  state_there : (n k : ℕ) → k < x.timed n → h.state (x.cycle n k) n ≡ x.state n k
  state_there n k l =
      let within = g.time.within n in
      stands_at d h i y (view d x) its n (x.cycle n k) k (g.time.done_then n k l) (omega arith)
      (arrives_before d h i y (view d x) its n k l)
      ∙ sym (g.marks.own_step n k (omega arith))

  -- step l of module n has taken all that is there before step k of the module at the other side is done
  pub comes_after : (b k n l w ch : ℕ) (side : Side) → k < x.timed b → l < x.timed n → d.owner (other_side side) ch ≡ b
      → can_wait_at side ch (core_accesses d x n l) ≡ true → d.unlimited side ch ≡ false
      → start side ch + core_tally d x b (other_side side) ch k ≤ core_tally d x n side ch l
      → IsAfter d start h m e b (x.cycle b k) w → IsAfter d start h m e n (x.cycle n l) (w + d.lag side ch)
  comes_after b k n l w ch side p q owner waits limited few after =
      let state = state_there n l q in
      let own = owned_there d n ch side (core_accesses d x n l) (i.owned n (x.state n l)) waits in
      let waits_there : can_wait_at side ch (d.accesses n (h.state (x.cycle n l) n)) ≡ true =
      ap (λ (s : S). can_wait_at side ch (d.accesses n s)) state ∙ waits in
      let here = tally_there n l ch side q own in
      let others = tally_there b k ch (other_side side) p owner in
      Waits n (x.cycle n l) (w + d.lag side ch) (x.cycle b k) w ch side waits_there limited (omega arith) (omega arith)
      (subst (λ (z : ℕ). IsAfter d start h m e z (x.cycle b k) w) (sym owner) after)
