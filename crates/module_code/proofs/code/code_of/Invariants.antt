use Rattle.std.proofs.Common.{◌≡◌, map, take}
use Rattle.std.specs.Prelude.{All}
use Rattle.module_code.specs.{IsGuardedOf}
use Rattle.module_code.proofs.code.code_of.Given as goal

-- the operations of the slots so far
abbrev pub invariant-loop-slot : goal.invariant-loop-slot
invariant-loop-slot l = record {
  slots : map (λ g. g.slot) l.actions ≡ take l.slot-index l.slot-items;
  each : All (IsGuardedOf l.channels l.of l.block l.room) l.actions;
}
