use Rattle.std.proofs.Common.{sym, ◌∙◌, arith}
use Rattle.path_check.specs.{depths_with}
use Rattle.path_check.proofs.Ends.{path_never_ends}
use Rattle.path_check.proofs.paths.never_ends.Goals as goal

pub returns-else-clocks-eq0 : goal.returns-else-clocks-eq0
returns-else-clocks-eq0 c = λ e.
    path_never_ends c.args.engine.now (depths_with c.args.depths.now c.args.edit) c.args.path.now c.in-Some.clocks c.in-Some.ensures
    (omega (arith, c.if-clocks-eq0.false)) (sym c.nth_place.ensures ∙ (c.is_same.ensures e ∙ c.nth_place-in-Some.ensures))
