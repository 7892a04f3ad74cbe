use Rattle.std.proofs.{Common.ap, Common.◌∙◌, Common.arith, lemmas.Bool.leb-true}
use Rattle.path_check.specs.{cycle_at, moves_after, depths_with}
use Rattle.path_check.proofs.Ends.{path_ends_late}
use Rattle.path_check.proofs.paths.ends_after.Goals as goal

pub returns-in-Some : goal.returns-in-Some
returns-in-Some c = λ e.
    let lanes = c.args.engine.now.graph.lanes in
    let first = c.cycle_of-first.ensures ∙ ap (cycle_at lanes) c.nth_place.ensures in
    let after = c.clocks_after-after.ensures ∙ ap (moves_after lanes c.args.engine.now.ends.items) c.nth_place-in-Some.ensures in
    let late = leb-true c.args.clock c.saturating_add-in-Some.result e in
    path_ends_late c.args.engine.now (depths_with c.args.depths.now c.args.edit) c.args.path.now c.in-Some.clocks c.in-Some.ensures
    c.args.clock
    (omega (arith, c.saturating_add.ensures, c.saturating_add-in-Some.ensures))
