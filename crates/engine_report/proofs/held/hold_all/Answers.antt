use Rattle.std.proofs.{Common.arith, lemmas.Grind.common_steps}
use Rattle.engine_report.proofs.{Loops.found_more, held.hold_all.Goals.in-Some+in_ok-push, held.hold_all.Goals.in_default}
use Rattle.engine_report.proofs.held.hold_all.Goals as goal

pub loop-owner-preserved : goal.loop-owner-preserved
loop-owner-preserved c =
    elim c.match-held_by.branch [
      | in-Some+in_ok-push w ↦ grind (arith, found_more)
      | in_default w ↦ grind (arith, common_steps, found_more)
    ]
