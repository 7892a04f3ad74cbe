-- How a module in a loop goes on: within an iteration, with a next one, or out of its block.
use Rattle.std.proofs.Common.{◌≡◌, ℕ, suc, ◌+◌, ◌-◌, ◌*◌, ◌≤◌, ◌<◌, List, [], length, get_or, drop, Bool, true, false, ◌&&◌, refl, sym, ◌∙◌}
use Rattle.std.proofs.Common.{ap, arith, ◌==◌, nat_lt}
use Rattle.std.proofs.{lemmas.Bool.ltb-true, lemmas.Bool.ltb-false, Math.Nat.mul-le-mul_right}
use Rattle.std.proofs.lemmas.List.{get_or-drop, length-drop}
use Rattle.std.specs.Prelude.{slice_index}
use Rattle.serial_order.specs.{Block, Timed, Control, ModuleState, is_loop, interval, temps_of, requests, ticked, decided, started, stopped}
use Rattle.serial_order.specs.{finished, followed, again_of, is_block_over, Used, writes, SerialProgress, all_given}
use Rattle.serial_order.specs.declared.order.Used.TheVariants.{Register, Memory, Reading, Writing}
use Rattle.flow_design.specs.declared.design.Module.{Module}
use Rattle.lockstep_defs.proofs.{Live.live_iff, Moves.commits_keep}
use Rattle.serial_order.proofs.{Lists.Among, Outcomes.Setting, Alike.held, Offsets.IsFit, Offsets.HasStores, Offsets.upto}
use Rattle.serial_order.proofs.Windows.{IsNarrow, IsChain, HoldsAlike, live_in, IsSlot, TempsAlike, IsInLoop, HasCommitted}
use Rattle.serial_order.proofs.Overlap.{after_clock, has_committed, clock_is}

-- ---- parts of a move

pub decided_not : (b : Block) (s : ModuleState) → (s.control.looping && (s.control.clock - s.control.newest == interval b)) ≡ false
    → decided b s ≡ s
unfolding decided
decided_not b s e = rw e refl

pub decided_stop : (b : Block) (s : ModuleState) → (s.control.looping && (s.control.clock - s.control.newest == interval b)) ≡ true
    → (slice_index s.registers (again_of b.kind) == 0) ≡ true → decided b s ≡ stopped s
unfolding decided
decided_stop b s e f = rw (e, f) refl

pub decided_start : (b : Block) (s : ModuleState) → (s.control.looping && (s.control.clock - s.control.newest == interval b)) ≡ true
    → (slice_index s.registers (again_of b.kind) == 0) ≡ false → decided b s ≡ started b s
unfolding decided
decided_start b s e f = rw (e, f) refl

pub finished_not : (m : Module) (b : Block) (s : ModuleState) → is_block_over b s.control ≡ false → finished m b s ≡ s
unfolding finished
finished_not m b s e = rw e refl

pub finished_now : (m : Module) (b : Block) (s : ModuleState) → is_block_over b s.control ≡ true → finished m b s ≡ followed m b.next s
unfolding finished
finished_now m b s e = rw e refl

-- ---- the clock goes up

-- the rules of a block of a serial module
pub record IsSerial (c : Setting) : Type 0 where
  pub fit : IsFit c
  pub narrow : IsNarrow c
  pub short : interval c.block ≤ c.block.len
  pub again : is_loop c.block.kind ≡ true → again_of c.block.kind < length c.owner.registers
  pub early : is_loop c.block.kind ≡ true → (w : Timed) → Among w c.block.ops → writes (Register (again_of c.block.kind)) w.op ≡ true
      → w.offset < interval c.block

-- after a commit, a local clock later
pub record HasTicked (c : Setting) (from : ℕ → SerialProgress) (n t : ℕ) (k : Control) (p : SerialProgress) : Type 0 where
  pub control : p.state.control ≡ record k { clock = k.clock + 1 }
  pub stores : HasStores c.owner p.state
  pub length_is : length p.state.temps ≡ live_in c p
  pub temps : TempsAlike c from n (suc t) (live_in c p) (λ a. a) p
  pub things : HoldsAlike c from n (suc t) p

-- the state after a commit, where so many operations were counted
abbrev pub tick_of : Setting → ℕ → SerialProgress → SerialProgress
tick_of c count p = record { state = ticked c.block (record p.state { count = count }); done = p.done }

module _ (c : Setting) (from : ℕ → SerialProgress) (n t : ℕ) (p : SerialProgress) (serial : IsSerial c) (chain : IsChain c from n)
    (h : IsInLoop c from n t p) where
  same_control : (after_clock c p).state.control ≡ p.state.control
  same_control =
      ap (λ (x : SerialProgress). x.state.control) (sym (clock_is c p serial.fit.pops h.block))
      ∙ (commits_keep c.owner p.state (all_given c.lists p.done (requests c.channels c.owner p.state))).0

  pub same_end : (after_clock c p).state.ended ≡ p.state.ended
  same_end =
      ap (λ (x : SerialProgress). x.state.ended) (sym (clock_is c p serial.fit.pops h.block))
      ∙ (commits_keep c.owner p.state (all_given c.lists p.done (requests c.channels c.owner p.state))).2

  ticked_control : (count : ℕ)
      → (tick_of c count (after_clock c p)).state.control ≡ record p.state.control { clock = p.state.control.clock + 1 }
  unfolding ticked
  ticked_control count = ap (λ (k : Control). record k { clock = k.clock + 1 }) same_control

  ticked_temps : (count : ℕ) → (tick_of c count (after_clock c p)).state.temps
      ≡ drop (length (after_clock c p).state.temps - live_in c (tick_of c count (after_clock c p))) (after_clock c p).state.temps
  unfolding ticked
  ticked_temps count = refl

  ticked_holds : (count : ℕ) (u : Used) → held u (tick_of c count (after_clock c p)) ≡ held u (after_clock c p)
  unfolding ticked
  ticked_holds count (Register x) = refl
  ticked_holds count (Memory m) = refl
  ticked_holds count (Reading f) = refl
  ticked_holds count (Writing f) = refl

  ticked_stores : (count : ℕ) → HasStores c.owner (after_clock c p).state → HasStores c.owner (tick_of c count (after_clock c p)).state
  unfolding ticked
  ticked_stores count s = record { registers = s.registers; memories = s.memories; words = s.words }

  pub ticked_ended : (count : ℕ) → (tick_of c count (after_clock c p)).state.ended ≡ p.state.ended
  unfolding ticked
  ticked_ended count = same_end

  -- no more iterations are live then
  fewer : (q : SerialProgress) → q.state.control ≡ record p.state.control { clock = p.state.control.clock + 1 } → live_in c q ≤ live_in c p
  fewer q e = by_test (nat_lt (live_in c p) (live_in c q)) refl
    where
      by_test : (b : Bool) → nat_lt (live_in c p) (live_in c q) ≡ b → live_in c q ≤ live_in c p
      by_test false f = ltb-false _ _ f
      by_test true f =
          let more = ltb-true (live_in c p) (live_in c q) f in
          let live = (live_iff c.block q.state.control (live_in c p) serial.fit.some).0 more in
          let begun = live.has_started in
          let young = live.is_young in
          let clock : q.state.control.clock ≡ p.state.control.clock + 1 = ap (λ (k : Control). k.clock) e in
          let newest : q.state.control.newest ≡ p.state.control.newest = ap (λ (k : Control). k.newest) e in
          let at = h.clock in
          let since = h.newest in
          let started = h.started in
          let still = (live_iff c.block p.state.control (live_in c p) serial.fit.some).1
          (record { has_started = omega arith; is_young = omega arith }) in absurd (omega arith)

  pub has_ticked : (count : ℕ) → HasTicked c from n t p.state.control (tick_of c count (after_clock c p))
  has_ticked count = record {
    control = ticked_control count;
    stores = ticked_stores count
        (record { registers = commit.places.registers; memories = commit.places.memories; words = commit.places.words });
    length_is =
        ap length (ticked_temps count) ∙ (length-drop _ (after_clock c p).state.temps
        ∙ (let few = fewer (tick_of c count (after_clock c p)) (ticked_control count) in
        let all = commit.places.temps in omega arith));
    temps = λ j i a slot. later_temps j i a slot (fewer (tick_of c count (after_clock c p)) (ticked_control count));
    things = λ u thing i a low age later earlier. ticked_holds count u ∙ commit.things u thing i a low age later earlier;
  }
    where
      commit : HasCommitted c from n t (live_in c p) (after_clock c p)
      commit = has_committed c from n t p serial.fit serial.narrow chain h

      later_temps : (j i a : ℕ) → IsSlot c n (suc t) (live_in c (tick_of c count (after_clock c p))) j i a
          → live_in c (tick_of c count (after_clock c p)) ≤ live_in c p
          → temps_of (tick_of c count (after_clock c p)).state (live_in c (tick_of c count (after_clock c p)) - 1 - j)
          ≡ temps_of (upto c a (from i)).state 0
      later_temps j i a slot few =
          let there = slot.there in
          let number = slot.number in
          let age = slot.age in
          let started = h.started in
          let all = commit.places.temps in
          let low : i ≤ n = omega arith in
          let products : i * interval c.block ≤ n * interval c.block = mul-le-mul_right (interval c.block) low in
          let left : ℕ = live_in c (tick_of c count (after_clock c p)) in
          ap (λ (ts : List (List ℕ)). get_or ts (left - 1 - j) []) (ticked_temps count)
          ∙ (get_or-drop (length (after_clock c p).state.temps - left) (after_clock c p).state.temps (left - 1 - j) []
          ∙ (ap (λ (x : ℕ). temps_of (after_clock c p).state x) (omega arith)
          ∙ (commit.temps j i (a - 1) (record { there = omega arith; number = number; age = omega arith })
          ∙ ap (λ (x : ℕ). temps_of (upto c x (from i)).state 0) (omega arith))))
