use Rattle.std.proofs.Common.{◌≡◌, ◌∙◌}
use Rattle.module_code.specs.{block_of, decided}
use Rattle.lockstep_defs.proofs.Blocks.{block_sound, some_interval}
use Rattle.flow_design.proofs.Failing.{on_err}
use Rattle.module_code.proofs.Moving.{gone_on_again}
use Rattle.module_code.proofs.control.go_on.Goals as goal

pub returns-in_err-finish-clause-left : goal.returns-in_err-finish-clause-left
returns-in_err-finish-clause-left c =
    let m = c.args.of.now in
    let s = c.args.state.now in
    let decision : c.decide.new.state ≡ decided (block_of m s) s = rw c.block_of-block.ensures at c.in_ok-decide.ensures.decided in
    on_err c.from_residual-in_err-finish.result
    (gone_on_again m s c.finish.new.state
    (some_interval c.requires.module.0 m _ (block_sound c.requires.module.0 m s.control.block c.requires.module.1 c.requires.there))
    (c.in_err-finish.ensures.unchanged ∙ decision))
