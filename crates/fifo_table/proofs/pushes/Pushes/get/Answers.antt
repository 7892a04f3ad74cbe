use Rattle.std.proofs.{Common.arith, lemmas.Option.slice_get-map}
use Rattle.fifo_table.specs.{Pushed}
use Rattle.fifo_table.proofs.pushes.Pushes.get.Goals as goal

pub returns-in-Some-Some : goal.returns-in-Some-Some
returns-in-Some-Some c =
    let at = slice_get-map (λ (p : Pushed). p.at) c.args.self.now.items c.args.before in
    let value = slice_get-map (λ (p : Pushed). p.value) c.args.self.now.items c.args.before in
    grind arith

pub returns-in_default : goal.returns-in_default
returns-in_default c = let value = slice_get-map (λ (p : Pushed). p.value) c.args.self.now.items c.args.before in grind arith

pub returns-in_default-2 : goal.returns-in_default-2
returns-in_default-2 c = let at = slice_get-map (λ (p : Pushed). p.at) c.args.self.now.items c.args.before in grind arith
