use Rattle.std.proofs.Common.{rules, Some, ◌∙◌}
use Rattle.turn_lock.proofs.Swapping.{swaps}
use Rattle.turn_lock.proofs.pass.TurnLock.try_take.Goals as goal

pub swap-was_free-requires : goal.swap-was_free-requires
swap-was_free-requires g c = (
  c.requires.own,
  search rules,
  swaps g.K.Kept.history g.K.Kept.bearer _ _ _ c.args.pass.seat.me
      c.args.pass.alive,
)

pub exchange-requires : goal.exchange-requires
exchange-requires g c = let t = c.swap-was_free.ensures in let won = t.2.0 c.if-was_free.true in let e = c.args.pass.outside.1 in
    (t.0 ∙ c.requires.own, (Some won.0, search rules))
