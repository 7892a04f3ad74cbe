use Rattle.std.proofs.Common.{rules, ◌∙◌, ◌≡◌, Some, sym, subst}
use mathlib.Core.Option.{some-injective}
use Rattle.turn_lock.specs.{ShowsAll}
use Rattle.turn_lock.proofs.{Histories.Some-same, Closing.closes}
use Rattle.turn_lock.proofs.pass.TurnLock.close.Goals as goal

pub unwrap-requires : goal.unwrap-requires
unwrap-requires g c = let p = c.args.last in
    let d = closes g.K.Kept.history g.K.Kept.bearer _ _ p.seat.me.0 _ _ p.alive p.outside.0 c.requires.first c.requires.joined
    c.close_with-closed.ensures.values.2 in
    let is : Some d.0 ≡ c.take-value.result = some-injective _ _ (sym d.1 ∙ c.take-value.ensures.value) in search rules

pub returns : goal.returns
returns g c = let p = c.args.last in
    let d = closes g.K.Kept.history g.K.Kept.bearer _ _ p.seat.me.0 _ _ p.alive p.outside.0 c.requires.first c.requires.joined
    c.close_with-closed.ensures.values.2 in
    let is = Some-same _ _ (some-injective _ _ (sym d.1 ∙ c.take-value.ensures.value) ∙ c.unwrap.ensures) in
    record { all = subst (λ x. ShowsAll g.K.Kept.bearer p.seat.me.0 (g.K.Kept.history x)) is d.2 }
