use Rattle.std.proofs.Common.{sym, ◌∙◌, ap, ℕ, min}
use Rattle.flow_design.specs.declared.limits.TheConstants.{FIFO_DEPTH}
use Rattle.least_memory.proofs.Shown.{floor_shown}
use Rattle.least_memory.proofs.demands.floor_of.Goals as goal

pub returns : goal.returns
returns c =
    floor_shown c.args.core.now.plan c.agrees.ensures.fits c.requires.quiet c.requires.deepest c.args.clock c.args.channel
    c.in_ok-depth.depth c.min.result (sym c.is_fifo.ensures ∙ c.if-not-is_fifo.false) c.in_ok-depth.ensures
    (c.min.ensures ∙ ap (λ (n : ℕ). min n FIFO_DEPTH) c.max.ensures)
