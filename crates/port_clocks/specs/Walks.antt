-- How far a walk over the clocks of a FIFO's ports is.
use Rattle.std.specs.Prelude.{ℕ, ◌≡◌, ◌<◌, ◌≤◌, ◌^◌, ◌-◌, nat_lt, IsTrue, min, length}
use Rattle.flow_word.specs.{Port, declared.access.Side.TheVariants.Pop, declared.access.Side.TheVariants.Push}
use Rattle.flow_design.specs.{Plan, is_fifo, kind_at}
use Rattle.timelines.specs.{last_clock, moved_before}
use Rattle.port_clocks.specs.{declared.walk.PortWalk.PortWalk, declared.walk.FifoWalk.FifoWalk}

-- a number that is later than each clock
abbrev pub never : ℕ
never = 2 ^ 64 - 1

-- the element with this number, counted from 0, passes a port in this clock: up to the verdict's clock, more elements have passed
-- before exactly those clocks that come after this one
abbrev pub PassesAt : Plan → Port → ℕ → ℕ → Type 0
PassesAt p port number clock =
    (c : ℕ) → c ≤ last_clock p → nat_lt number (moved_before p port.side port.channel c) ≡ nat_lt clock c

-- a walk is at a clock: it knows how many elements passed the port before, and in which clock the next one does
pub record WalkStandsAt (p : Plan) (port : Port) (clock : ℕ) (walk : PortWalk) : Type 0 where
  pub count : walk.count ≡ moved_before p port.side port.channel clock
  pub next : PassesAt p port walk.count walk.next

-- the walk of a FIFO is at one clock of the plan at both of its ports
pub record IsFifoWalk (p : Plan) (walk : FifoWalk) : Type 0 where
  pub inside : walk.channel < length p.design.channels
  pub fifo : IsTrue (is_fifo (kind_at p walk.channel))
  pub within : walk.clock ≤ last_clock p
  pub pops : WalkStandsAt p (record { side = Pop; channel = walk.channel }) walk.clock walk.pops
  pub pushes : WalkStandsAt p (record { side = Push; channel = walk.channel }) walk.clock walk.pushes

-- the clock of the next pop or push of a walk
abbrev pub next_of : FifoWalk → ℕ
next_of walk = min walk.pops.next walk.pushes.next
