use Rattle.std.proofs.{Common.◌<◌, Common.length, lemmas.List.length-map}
use Rattle.fifo_table.proofs.SoundKinds.{read_kind, lag_least, lag_most}
use Rattle.fifo_table.proofs.table.FifoTable.lag.Goals as goal

pub returns-clause-least : goal.returns-clause-least
returns-clause-least c =
    let there : c.args.channel < length c.self.inside.channels.items = rw (← c.self.view_is, length-map) at c.requires in
    let kind = read_kind c.self.inside.channels.items c.args.channel c.index.result.now there c.index.ensures c.self.invariant in
    rw c.lag.ensures (lag_least c.index.result.now.kind c.args.side kind)

pub returns-clause-most : goal.returns-clause-most
returns-clause-most c =
    let there : c.args.channel < length c.self.inside.channels.items = rw (← c.self.view_is, length-map) at c.requires in
    let kind = read_kind c.self.inside.channels.items c.args.channel c.index.result.now there c.index.ensures c.self.invariant in
    rw c.lag.ensures (lag_most c.index.result.now.kind c.args.side kind)
