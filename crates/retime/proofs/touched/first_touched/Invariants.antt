use Rattle.std.proofs.Common.{◌+◌}
use Rattle.retime.specs.{channel_at}
use Rattle.retime.proofs.Filling.{IsFullBefore}
use Rattle.retime.proofs.touched.first_touched.Given as goal

abbrev pub invariant-loop-before : goal.invariant-loop-before
invariant-loop-before l = IsFullBefore l.graph.lanes (channel_at l.fifos.channels l.edit.channel) l.full (l.before + 1)
