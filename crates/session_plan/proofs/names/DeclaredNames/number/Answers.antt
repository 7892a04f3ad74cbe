use Rattle.std.proofs.{Common.map, Common.arith, lemmas.List.length-map}
use Rattle.session_plan.proofs.NameLemmas.{place_below}
use Rattle.session_plan.proofs.names.DeclaredNames.number.Goals as goal

pub returns-in-Some-clause-most : goal.returns-in-Some-clause-most
returns-in-Some-clause-most c =
    let below = place_below (map (λ k. k.now) c.self.inside.all) c.args.name.now c.in-Some.number.now in
    let known = c.self.invariant.1 c.args.name.now in
    grind (arith, length-map, c.get.ensures.value)
