-- What the caller's turns tell its pass.
use Rattle.std.specs.Prelude.{◌≡◌}
use mathlib.Core.List.{IsPrefix}
use Rattle.turn_lock.specs.{PassView}
use Rattle.timing_bridge.specs.{HubEntry}

-- w is the performance pass v after further turns
pub record HasMoreTurns (v w : PassView HubEntry) : Type 0 where
  pub begins : IsPrefix v.seen w.seen
  pub made : w.made ≡ v.made
