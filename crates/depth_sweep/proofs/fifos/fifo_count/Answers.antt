use Rattle.std.proofs.Common.{arith, ◌∙◌, sym, ap, length}
use Rattle.depth_sweep.specs.{is_fifo, kind_at}
use Rattle.depth_sweep.proofs.Counting.{counted_more, few_kept, left_out}
use Rattle.depth_sweep.proofs.fifos.fifo_count.Goals.{then-is_fifo, else-is_fifo}
use Rattle.depth_sweep.proofs.fifos.fifo_count.Goals as goal

pub overflow_add-count : goal.overflow_add-count
overflow_add-count c =
    omega (arith, c.loop-channel.invariant, few_kept (λ f. is_fifo (kind_at c.args.plan.now f)) c.loop-channel.channel)

pub loop-channel-preserved : goal.loop-channel-preserved
loop-channel-preserved c =
    elim c.if-is_fifo.branch [
      | then-is_fifo w ↦
          counted_more (λ f. is_fifo (kind_at c.args.plan.now f)) c.loop-channel.channel c.loop-channel.count c.if-is_fifo.count
          c.is_fifo.result c.loop-channel.invariant c.is_fifo.ensures w.if-is_fifo.true w.count-is
      | else-is_fifo w ↦
          w.count-is ∙ (c.loop-channel.invariant ∙ sym (ap length (left_out (λ f. is_fifo (kind_at c.args.plan.now f))
          c.loop-channel.channel c.is_fifo.result c.is_fifo.ensures w.if-is_fifo.false)))
    ]
