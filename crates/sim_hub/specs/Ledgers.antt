-- The history of a ledger.
use Rattle.std.specs.Prelude.{List}
use Rattle.timing_bridge.specs.{HubEntry, history_of}
use Rattle.sim_hub.specs.{declared.kept.BoxedLedger.BoxedLedger, declared.ledger.HubLedger.HubLedger}

-- the history of a ledger: the opening of its plan, and all turns since
abbrev pub entries_in : HubLedger → List HubEntry
entries_in l = history_of l.core.plan l.turns.items

-- the history of a ledger that a turn lock protects
abbrev pub entries_under : BoxedLedger → List HubEntry
entries_under b = entries_in b.ledger.value
