use Rattle.std.proofs.Common.{◌≡◌, ◌++◌, drop}
use Rattle.engine_report.specs.{channel_at, timed_values}
use Rattle.engine_report.proofs.outputs.timed_values.Given as goal

-- what is left to add comes from the pushes after those that were looked at
abbrev pub invariant-loop-before : goal.invariant-loop-before
invariant-loop-before l = timed_values l.engine.graph.lanes (channel_at l.engine.fifos.channels l.channel).pushes
    ≡ l.values ++ timed_values l.engine.graph.lanes (drop l.before (channel_at l.engine.fifos.channels l.channel).pushes)
