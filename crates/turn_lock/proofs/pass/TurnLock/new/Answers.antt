use Rattle.std.proofs.Common.{rules, Some, [], ◌∷◌, ◌++◌, ◌∙◌, ◌≡◌, subst, sym, ap}
use Rattle.turn_lock.specs.{Ruled, Views.first_view}
use Rattle.atomic_table.specs.Table.{opening}
use Rattle.turn_lock.proofs.Making.{opens}
use Rattle.turn_lock.proofs.pass.TurnLock.new.Goals as goal

pub new-requires : goal.new-requires
new-requires g c = let H = g.K.Kept.history in let x = c.args.kept in
    let items : c.push.new.self.items ≡ Some x ∷ [] = let empty : c.new-slots.result.items ≡ [] = c.new-slots.ensures.items in
    ◌∙◌ {a = c.push.new.self.items} {b = c.new-slots.result.items ++ Some x ∷ []} c.in_ok-push.ensures.items
    (ap (λ l. l ++ Some x ∷ []) empty) in
    let seen : first_view c.args.passes (H x) ≡ first_view c.args.passes (H c.of.result.value) = ap (λ y. first_view c.args.passes (H y))
    (sym c.of.ensures) in
    subst (λ s. Ruled H g.K.Kept.bearer c.args.passes s) (λ i. opening (0 ∷ c.count-count.result ∷ []) (sym items i) (seen i))
    (opens H g.K.Kept.bearer c.args.passes c.count-count.result x (search rules) c.requires.some c.requires.unused)
