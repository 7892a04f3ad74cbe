use Rattle.std.proofs.Common.{rules, Some, [], ◌∷◌, ◌∙◌, ap, sym, ◌++◌, subst}
use Rattle.turn_lock.specs.{Owns, Views.after_entry}
use Rattle.turn_lock.proofs.Adding.{adds, owns_more}
use Rattle.turn_lock.proofs.pass.TurnLock.put.Goals as goal

pub fetch_add-requires : goal.fetch_add-requires
fetch_add-requires g c = let t = c.args.turn in let home = c.bring_home-seat.ensures in let me = ap (λ m. m.0) home.seat in
    let longer = c.requires.longer in (
      home.lock,
      search rules,
      adds g.K.Kept.history g.K.Kept.bearer _ _ _ c.bring_home-seat.result.me t.value longer.0 (ap (λ v. v.spent) me ∙ t.hold.alive)
          (ap (λ v. v.is_holder) me ∙ t.hold.inside.0) (ap (λ m. m.1) home.seat)
          (longer.1 ∙ ap (λ v. v.history ++ longer.0 ∷ []) (sym me)) (longer.2 ∙ ap (λ v. Some v.number) (sym me)) c.requires.room,
    )

pub free-requires-clause-owns : goal.free-requires-clause-owns
free-requires-clause-owns g c = let t = c.args.turn in let home = c.bring_home-seat.ensures in let me = ap (λ m. m.0) home.seat in
    let longer = c.requires.longer in let log = g.K.Kept.history t.value in
    let is = c.fetch_add.ensures.2.1 t.value longer.0 (ap (λ m. m.1) home.seat)
    (longer.1 ∙ ap (λ v. v.history ++ longer.0 ∷ []) (sym me)) in
    subst (λ v. Owns g.K.Kept.bearer v.history v) (sym (is ∙ ap (after_entry log longer.0) me))
    (owns_more g.K.Kept.bearer log longer.0 t.hold.seat.me.0 t.hold.own longer.1 longer.2)
