use Rattle.std.proofs.Common.{◌∙◌, ap, ◌++◌, List, ℕ}
use Rattle.vcd_wave.specs.{line, time_tokens, change_tokens}
use Rattle.vcd_wave.proofs.LineLemmas.{opening_more}
use Rattle.vcd_wave.proofs.lines.print_opening.Goals as goal

pub loop-fifo-preserved : goal.loop-fifo-preserved
loop-fifo-preserved c =
    c.in_ok-print_change.ensures
    ∙ (ap (λ (t : List ℕ). t ++ line (change_tokens (record { fifo = c.loop-fifo.fifo; fill = 0 }))) c.loop-fifo.invariant
    ∙ opening_more (c.args.text.now ++ line (time_tokens 0)) c.loop-fifo.fifo)
