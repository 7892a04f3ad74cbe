use Rattle.std.proofs.{Common.◌≡◌, Common.suc, Common.sym, Common.ap, Common.subst, Common.arith, lemmas.Option.get_or_from_slice_get}
use Rattle.std.specs.Prelude.{All}
use Rattle.path_check.specs.{Step, lane_at, no_lane, in_lane, IsAccess, no_step, depths_with}
use Rattle.path_check.proofs.Reading.{lags_add, gaps_add}
use Rattle.path_check.proofs.waits.clocks_between.Goals as goal

pub look-step-requires : goal.look-step-requires
look-step-requires c = record { owner = c.requires.next.owner; step = c.requires.next.step }

pub returns-then-next-before-eq1 : goal.returns-then-next-before-eq1
returns-then-next-before-eq1 c =
    let step = in_lane c.look-step.result in
    let steps = (lane_at c.args.engine.now.graph.lanes c.args.next.module).steps in
    let is = get_or_from_slice_get steps c.args.next.step step no_step c.look-step.ensures.step in
    let next : c.args.next.step ≡ suc c.args.before.step = omega (arith, c.if-before-next.true, c.if-next-before-eq1.true) in
    gaps_add c.args.engine.now (depths_with c.args.depths.now c.args.edit) c.args.before c.args.next c.look-step.result.gap
    (sym (ap (λ (s : Step). s.gap) is))
    c.requires.next c.if-next-before.true next

pub find_lag-requires : goal.find_lag-requires
find_lag-requires c =
    let step = in_lane c.look-step.result in
    let steps = (lane_at c.args.engine.now.graph.lanes c.args.next.module).steps in
    subst (All (IsAccess c.args.engine.now.fifos.channels))
    (ap (λ (s : Step). s.accesses) (get_or_from_slice_get steps c.args.next.step step step c.look-step.ensures.step))
    (c.requires.accesses c.args.next.module no_lane c.requires.next.owner c.args.next.step step c.requires.next.step)

pub returns : goal.returns
returns c =
    let step = in_lane c.look-step.result in
    let steps = (lane_at c.args.engine.now.graph.lanes c.args.next.module).steps in
    let is = ap (λ (s : Step). s.accesses) (get_or_from_slice_get steps c.args.next.step step no_step c.look-step.ensures.step) in
    lags_add c.args.engine.now (depths_with c.args.depths.now c.args.edit) c.args.before c.args.next c.find_lag.result c.requires.before
    c.requires.next
    (rw is c.find_lag.ensures)
