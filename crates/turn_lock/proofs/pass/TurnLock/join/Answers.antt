use Rattle.std.proofs.Common.{rules}
use Rattle.turn_lock.proofs.Joining.{joins}
use Rattle.turn_lock.proofs.pass.TurnLock.join.Goals as goal

pub join_seat-requires : goal.join_seat-requires
join_seat-requires g c = let p = c.args.pass in let o = c.args.other in (
  c.requires.own.0,
  c.requires.own.1,
  o.outside.1,
  search rules,
  joins g.K.Kept.history g.K.Kept.bearer _ _ _ _ _ p.alive
      c.requires.first o.alive o.outside.0,
)
