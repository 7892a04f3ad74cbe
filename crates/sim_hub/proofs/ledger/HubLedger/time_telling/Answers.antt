use Rattle.sim_hub.proofs.Ledgers.{tells_ready}
use Rattle.sim_hub.proofs.ledger.HubLedger.time_telling.Goals as goal

pub returns-clause-tells : goal.returns-clause-tells
returns-clause-tells c =
    let l = c.time-answer.new.self in
    let e = c.add_ready.ensures in
    tells_ready l.core l.turns.items l.out l.short _ l.kept c.add_ready.new.self c.args.ready.now c.add_ready.new.ready e.unchanged
    e.ready e.kept e.only e.room
