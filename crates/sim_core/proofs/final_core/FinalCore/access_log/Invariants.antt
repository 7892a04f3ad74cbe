use Rattle.std.proofs.Common.{◌≡◌, take}
use Rattle.std.specs.Prelude.{flat_map}
use Rattle.sim_core.specs.{logged_at}
use Rattle.sim_core.proofs.final_core.FinalCore.access_log.Given as goal

abbrev pub invariant-loop-key : goal.invariant-loop-key
invariant-loop-key l = l.log ≡ flat_map (logged_at l.core.held) (take l.key-index l.key-items)
