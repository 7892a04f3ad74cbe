use Rattle.std.proofs.{Common.ℕ, Common.ap₂, lemmas.Bool.eqb-true}
use Rattle.path_check.specs.{Place}
use Rattle.path_check.proofs.paths.is_same.Goals as goal

pub returns-then-first-last : goal.returns-then-first-last
returns-then-first-last c = λ e.
    let make : ℕ → ℕ → Place = λ m k. record { «module» = m; step = k } in
    ap₂ make c.if-first-last.true (eqb-true c.args.first.step c.args.last.step e)
