-- Where a walk over the clocks of a FIFO's ports stands, as it goes on.
use Rattle.std.proofs.Common.{◌≡◌, ◌≢◌, ℕ, zero, suc, ◌+◌, ◌-◌, ◌<◌, ◌≤◌, List, length, arith, length-append, sym, ◌∙◌, ap, inl, inr}
use Rattle.std.proofs.lemmas.Bool.{cases_lt, lt-ltb, ltb-true}
use Rattle.port_clocks.specs.{Port, Side, Plan, FitsEngine, HistoryStep, moved, history, state, steps_in, fill, last_clock, moved_before}
use Rattle.port_clocks.specs.{PortWalk, FifoWalk, PassesAt, WalkStandsAt, IsFifoWalk, next_of}
use Rattle.flow_word.specs.declared.access.Side.TheVariants.{Pop, Push}
use Rattle.lockstep_defs.proofs.Queue.{moved-nil, moved-append, moves_once}
use Rattle.lockstep_defs.proofs.{Rules.keeps_ports, Settled.history-zero, Settled.history-suc}
use Rattle.timelines.proofs.FillCounts.{counted}

-- ---- how many elements pass a port before a clock

moved_zero : (p : Plan) (side : Side) (f : ℕ) → moved_before p side f 0 ≡ 0
moved_zero p side f = ap (λ (steps : List HistoryStep). length (moved side f steps)) (history-zero p) ∙ ap length (moved-nil side f)

-- in one clock at most one more
moved_next : (p : Plan) → FitsEngine p → (side : Side) (f c : ℕ)
    → (moved_before p side f c ≤ moved_before p side f (suc c)) × (moved_before p side f (suc c) ≤ suc (moved_before p side f c))
moved_next p fits side f c =
    let both = ap (λ (steps : List HistoryStep). length (moved side f steps)) (history-suc p c)
    ∙ (ap length (moved-append side f (history p c) (steps_in p c (state p c)))
    ∙ length-append (moved side f (history p c)) (moved side f (steps_in p c (state p c)))) in
    let once = moves_once p (keeps_ports p fits) c (state p c) side f in
    (omega arith, omega arith)

moved_grows : (p : Plan) → FitsEngine p → (side : Side) (f c n : ℕ) → moved_before p side f c ≤ moved_before p side f (n + c)
moved_grows p fits side f c zero = let e = ap (moved_before p side f) (let z : zero + c ≡ c = omega arith in z) in omega arith
moved_grows p fits side f c (suc n) =
    let e = ap (moved_before p side f) (let z : suc n + c ≡ suc (n + c) = omega arith in z) in
    let one = moved_next p fits side f (n + c) in
    omega (arith, moved_grows p fits side f c n)

pub moved_rises : (p : Plan) → FitsEngine p → (side : Side) (f c d : ℕ) → c ≤ d → moved_before p side f c ≤ moved_before p side f d
moved_rises p fits side f c d l =
    let e = ap (moved_before p side f) (let z : (d - c) + c ≡ d = omega arith in z) in
    omega (arith, moved_grows p fits side f c (d - c))

moved_few : (p : Plan) → FitsEngine p → (side : Side) (f c : ℕ) → moved_before p side f c ≤ c
moved_few p fits side f zero = omega (arith, moved_zero p side f)
moved_few p fits side f (suc c) = let one = moved_next p fits side f c in omega (arith, moved_few p fits side f c)

-- ---- one port

module _ (p : Plan) (fits : FitsEngine p) (port : Port) where
  abbrev passed : ℕ → ℕ
  passed c = moved_before p port.side port.channel c

  -- up to its clock no more than its number have passed, and after it more
  not_yet : (n next c : ℕ) → PassesAt p port n next → c ≤ last_clock p → c ≤ next → passed c ≤ n
  not_yet n next c at l early = elim (cases_lt n (passed c)) [
    | inl more ↦ absurd (omega (arith, ltb-true next c (sym (at c l) ∙ lt-ltb n (passed c) more)))
    | inr few ↦ few
  ]

  by_now : (n next c : ℕ) → PassesAt p port n next → c ≤ last_clock p → next < c → n < passed c
  by_now n next c at l late = ltb-true n (passed c) (at c l ∙ lt-ltb next c late)

  -- it stands at each clock up to the next one in which an element passes
  pub stands_still : (walk : PortWalk) (a b : ℕ) → WalkStandsAt p port a walk → a ≤ b → b ≤ walk.next → b ≤ last_clock p
      → WalkStandsAt p port b walk
  stands_still walk a b s from until within = record {
    count =
        let most = not_yet walk.count walk.next b s.next within until in
        omega (arith, s.count, moved_rises p fits port.side port.channel a b from);
    next = s.next;
  }

  pub few_passed : (walk : PortWalk) (clock : ℕ) → WalkStandsAt p port clock walk → walk.count ≤ clock
  few_passed walk clock s = omega (arith, s.count, moved_few p fits port.side port.channel clock)

  -- its own clock is at most the next one
  pub stands_before : (walk : PortWalk) (clock : ℕ) → WalkStandsAt p port clock walk → clock ≤ last_clock p → clock ≤ walk.next
  stands_before walk clock s within = elim (cases_lt walk.next clock) [
    | inl late ↦ absurd (omega (arith, by_now walk.count walk.next clock s.next within late, s.count))
    | inr early ↦ early
  ]

  -- no element passes in this clock
  pub stands_on : (walk : PortWalk) (clock : ℕ) → WalkStandsAt p port clock walk → clock ≤ walk.next → walk.next ≢ clock
      → clock < last_clock p
      → WalkStandsAt p port (clock + 1) walk
  stands_on walk clock s early other within =
      stands_still walk clock (clock + 1) s (omega arith) (omega arith) (omega arith)

  -- one does
  pub stands_after : (walk new : PortWalk) (clock : ℕ) → WalkStandsAt p port clock walk → walk.next ≡ clock → clock < last_clock p
      → new.count ≡ walk.count + 1 → PassesAt p port new.count new.next → WalkStandsAt p port (clock + 1) new
  stands_after walk new clock s now within count next = record {
    count =
        let more = by_now walk.count walk.next (suc clock) s.next (omega arith) (omega arith) in
        let one = moved_next p fits port.side port.channel clock in
        let e = ap passed (let z : clock + 1 ≡ suc clock = omega arith in z) in
        omega (arith, s.count);
    next = next;
  }

-- ---- a FIFO

pub walk_fill : (p : Plan) → FitsEngine p → (walk : FifoWalk) → IsFifoWalk p walk → (clock : ℕ) → walk.clock ≤ clock → clock ≤ next_of walk
    → clock ≤ last_clock p → walk.pushes.count - walk.pops.count ≡ fill p walk.channel clock
walk_fill p fits walk w clock from until within =
    let pop : Port = record { side = Pop; channel = walk.channel } in
    let push : Port = record { side = Push; channel = walk.channel } in
    let popped = (stands_still p fits pop walk.pops walk.clock clock w.pops from (omega arith) within).count in
    let pushed = (stands_still p fits push walk.pushes walk.clock clock w.pushes from (omega arith) within).count in
    omega (arith, counted p fits walk.channel clock w.inside w.fifo)

-- at the clock of the next pop or push, before that
pub pops_stand : (p : Plan) → FitsEngine p → (walk : FifoWalk) → IsFifoWalk p walk → (clock : ℕ) → clock ≡ next_of walk → clock <
    last_clock p
    → WalkStandsAt p (record { side = Pop; channel = walk.channel }) clock walk.pops
pops_stand p fits walk w clock is within =
    let pop : Port = record { side = Pop; channel = walk.channel } in
    let push : Port = record { side = Push; channel = walk.channel } in
    let before = stands_before p fits pop walk.pops walk.clock w.pops w.within in
    let before_too = stands_before p fits push walk.pushes walk.clock w.pushes w.within in
    stands_still p fits pop walk.pops walk.clock clock w.pops (omega arith) (omega arith) (omega arith)

pub pushes_stand : (p : Plan) → FitsEngine p → (walk : FifoWalk) → IsFifoWalk p walk → (clock : ℕ) → clock ≡ next_of walk → clock <
    last_clock p
    → WalkStandsAt p (record { side = Push; channel = walk.channel }) clock walk.pushes
pushes_stand p fits walk w clock is within =
    let pop : Port = record { side = Pop; channel = walk.channel } in
    let push : Port = record { side = Push; channel = walk.channel } in
    let before = stands_before p fits pop walk.pops walk.clock w.pops w.within in
    let before_too = stands_before p fits push walk.pushes walk.clock w.pushes w.within in
    stands_still p fits push walk.pushes walk.clock clock w.pushes (omega arith) (omega arith) (omega arith)
