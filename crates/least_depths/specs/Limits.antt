-- A lower cycle limit that keeps an end by a clock as it is.
use Rattle.std.specs.Prelude.{ℕ, max, nat_lt, if◌then◌else◌}
use Rattle.flow_design.specs.{Plan}

-- the clock as a cycle limit, at least 1, where the plan's own limit is later; otherwise that limit
abbrev pub limit_for : ℕ → ℕ → ℕ
limit_for clock cycles = if nat_lt clock cycles then max clock 1 else cycles

-- the plan with a cycle limit no later than this clock, or 1
abbrev pub limited : ℕ → Plan → Plan
limited clock p = record p { cycles = limit_for clock p.cycles }
