use Rattle.std.proofs.Common.{rules}
use Rattle.turn_lock.proofs.Freeing.{frees}
use Rattle.turn_lock.proofs.pass.TurnLock.free.Goals as goal

pub store-requires : goal.store-requires
store-requires g c = (c.requires.lock, search rules, frees g.K.Kept.history g.K.Kept.bearer _ _ _ c.args.seat.me c.requires.ready)
