-- How full a FIFO is, by the clocks of its pops and pushes.
use Rattle.std.specs.Prelude.{ℕ, ◌≡◌, ◌+◌, ◌-◌, List, map}
use Rattle.flow_design.specs.{Plan}
use Rattle.port_clocks.specs.{ahead_clocks, peak}
use Rattle.stall_text.specs.{declared.fifos.Filling.Filling, Stalls.empty_clocks, Stalls.full_clocks}

-- each of these clocks, `by` clocks later
abbrev pub shifted : ℕ → List ℕ → List ℕ
shifted by clocks = map (λ c. c + by) clocks

-- in how many clocks below `clock` a FIFO with this delay has no element that can be popped, by the clocks of its pops and pushes
abbrev pub empty_by : ℕ → ℕ → List ℕ → List ℕ → ℕ
empty_by delay clock pops pushes = clock - ahead_clocks 1 (shifted (delay - 1) pushes) pops clock

-- the filling is that of channel f
pub record IsFilling (p : Plan) (f : ℕ) (filling : Filling) : Type 0 where
  pub most : filling.most ≡ peak p f
  pub empty : filling.empty ≡ empty_clocks p f
  pub full : filling.full ≡ full_clocks p f
