use Rattle.std.proofs.Common.{◌∙◌, sym, ap, subst, ℕ, ◌+◌, List, ◌++◌, get_or}
use Rattle.std.proofs.lemmas.List.{get_or_read}
use Rattle.depth_advice.specs.{Channel, is_fifo, no_channel, line, depth_tokens}
use Rattle.depth_advice.proofs.DepthLines.{IsPrinting, depth_passed, depth_printed}
use Rattle.depth_advice.proofs.depth_lines.print_depths.Goals.{then-is_fifo+in_ok-print_depth, else-is_fifo}
use Rattle.depth_advice.proofs.depth_lines.print_depths.Goals as goal

pub loop-at-preserved : goal.loop-at-preserved
loop-at-preserved c =
    let channels = c.args.channels.now in
    let depths = c.args.depths.now in
    let at = c.loop-at.at in
    let here = c.loop-at-test.true in
    let first = c.args.text.now in
    let text = c.loop-at.text in
    let so_far = c.loop-at.invariant in
    let same = sym c.index-channels-at.is ∙ get_or_read channels at c.index-channels-at.result here c.index-channels-at.is no_channel in
    let kind = sym (ap (λ (channel : Channel). is_fifo channel.kind) same) ∙ sym c.is_fifo.ensures in
    elim c.if-is_fifo.branch [
      | then-is_fifo+in_ok-print_depth w ↦
          let again = w.index-channels-at-then-is_fifo in
          let channel = get_or_read channels at again.result here again.is no_channel in
          let printed = w.text-is ∙ (w.in_ok-print_depth.ensures
          ∙ ap (λ (channel : Channel). text ++ line (depth_tokens (channel, get_or depths at 0))) channel) in
          subst (λ (t : List ℕ). IsPrinting first t channels depths (at + 1)) (sym printed)
          (depth_printed channels depths at here c.requires first text (kind ∙ w.if-is_fifo.true) so_far)
      | else-is_fifo w ↦
          subst (λ (t : List ℕ). IsPrinting first t channels depths (at + 1)) (sym w.text-is)
          (depth_passed channels depths at here c.requires first text (kind ∙ w.if-is_fifo.false) so_far)
    ]
