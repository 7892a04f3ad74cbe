use Rattle.std.proofs.Common.{◌≡◌, ap, arith}
use Rattle.module_interp.specs.{ModuleState, after_move, gone_on, declared.path.Stage.TheVariants.Ticked}
use Rattle.module_interp.proofs.{Counting.gone_on_up, Keeping.at_stage}
use Rattle.module_interp.proofs.path.Path.settle.Goals as goal

pub go_on-requires-clause-few : goal.go_on-requires-clause-few
go_on-requires-clause-few c =
    let x = c.args.self.now in
    let small = c.requires.path.is.operations in
    let same : (after_move x).count ≡ (gone_on x.of x.state).count = ap (λ (s : ModuleState). s.count) (at_stage x Ticked c.in-Ticked.is) in
    omega (arith, (gone_on_up x.of x.state).0)
