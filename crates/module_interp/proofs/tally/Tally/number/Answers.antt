use Rattle.std.proofs.Common.{◌+◌, ℕ, ap, arith}
use Rattle.module_interp.specs.{Access, side_of}
use Rattle.module_interp.proofs.Tallies.{moved_few}
use Rattle.module_interp.proofs.tally.Tally.number.Goals as goal

pub overflow_add-access : goal.overflow_add-access
overflow_add-access c =
    let (before, (h, small)) = c.requires.tally in
    omega (arith, c.count_of.ensures before h, moved_few (side_of c.args.access.now.kind) c.args.access.now.channel before)

pub returns : goal.returns
returns c before h =
    let made : ℕ → Access = λ k. record c.args.access.now { ordinal = 1 + k } in
    ap made (c.count_of.ensures before h)
