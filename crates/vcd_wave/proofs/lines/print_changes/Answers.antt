use Rattle.std.proofs.Common.{◌∙◌, ap, ◌++◌, List, ℕ, get_or}
use Rattle.vcd_wave.specs.{line, change_of, change_tokens}
use Rattle.vcd_wave.proofs.LineLemmas.{changes_push}
use Rattle.vcd_wave.proofs.lines.print_changes.Goals as goal

pub loop-change-preserved : goal.loop-change-preserved
loop-change-preserved c =
    c.in_ok-print_change.ensures
    ∙ (ap (λ (t : List ℕ). t ++ line (change_tokens (change_of (get_or c.args.changes.now c.loop-change.change-index (record {
      fifo = 0;
      fill = 0;
    })))))
    c.loop-change.invariant
    ∙ changes_push c.args.text.now c.args.changes.now c.loop-change.change-index (record { fifo = 0; fill = 0 }) c.loop-change-test.true)
