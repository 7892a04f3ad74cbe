use Rattle.std.proofs.Common.{arith, sym, ◌∙◌, ap, ◌++◌, List, ℕ}
use Rattle.vcd_wave.specs.{line, var_tokens}
use Rattle.vcd_wave.proofs.LineLemmas.{declared_yes, declared_no, names_few}
use Rattle.vcd_wave.proofs.lines.print_vars.Goals.{then-is_fifo+in_ok-print_var, else-is_fifo}
use Rattle.vcd_wave.proofs.lines.print_vars.Goals as goal

pub overflow_add-count : goal.overflow_add-count
overflow_add-count c =
    omega (arith, names_few c.args.channels.now c.loop-channel.channel-index, c.loop-channel.invariant.is_count)

pub loop-channel-preserved : goal.loop-channel-preserved
loop-channel-preserved c =
    elim c.if-is_fifo.branch [
      | then-is_fifo+in_ok-print_var w ↦ rw (w.text-is, w.count-is)
          (declared_yes c.args.channels.now c.args.text.now c.loop-channel.text _ c.loop-channel.channel-index c.loop-channel.count
          c.channel-item.result c.loop-channel-test.true c.channel-item.is (sym w.if-is_fifo.ensures) c.loop-channel.invariant
          (w.in_ok-print_var.ensures
          ∙ ap (λ (name : List ℕ). c.loop-channel.text ++ line (var_tokens (c.loop-channel.count, name))) w.bytes.ensures))
      | else-is_fifo w ↦ rw (w.text-is, w.count-is)
          (declared_no c.args.channels.now c.args.text.now c.loop-channel.text c.loop-channel.channel-index c.loop-channel.count
          c.channel-item.result c.loop-channel-test.true c.channel-item.is (sym w.if-is_fifo.ensures) c.loop-channel.invariant)
    ]
