use Rattle.std.proofs.Common.{rules}
use Rattle.turn_lock.proofs.Splitting.{splits}
use Rattle.turn_lock.proofs.pass.TurnLock.split.Goals as goal

pub split_seat-new-requires : goal.split_seat-new-requires
split_seat-new-requires g c = let p = c.args.first in
    (c.requires.own, search rules, splits g.K.Kept.history g.K.Kept.bearer _ _ _ p.alive c.requires.first c.requires.room)
