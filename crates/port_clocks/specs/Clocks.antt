-- The clocks in which elements pass a port of a plan: its pops of a channel, or its pushes.
use Rattle.std.specs.Prelude.{ℕ, ◌≡◌, ◌≤◌, List}
use Rattle.flow_word.specs.{Port}
use Rattle.flow_design.specs.{Plan}
use Rattle.timelines.specs.{last_clock, moved_before}
use Rattle.port_clocks.specs.Leads.{before, AreClocks}

-- these are the clocks before the verdict's in which elements pass the port: before each clock there are as many as elements passed
-- before it
pub record ArePortClocks (p : Plan) (port : Port) (clocks : List ℕ) : Type 0 where
  pub in_order : AreClocks (last_clock p) clocks
  pub counts : (c : ℕ) → c ≤ last_clock p → before clocks c ≡ moved_before p port.side port.channel c
