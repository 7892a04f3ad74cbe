use Rattle.std.proofs.Common.{◌≡◌, length}
use Rattle.std.specs.List.{range_with_len, filter}
use Rattle.depth_sweep.specs.{is_fifo, kind_at}
use Rattle.depth_sweep.proofs.fifos.fifo_count.Given as goal

abbrev pub invariant-loop-channel : goal.invariant-loop-channel
invariant-loop-channel l = l.count ≡ length (filter (λ f. is_fifo (kind_at l.plan f)) (range_with_len 0 l.channel))
