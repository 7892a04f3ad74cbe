use Rattle.std.proofs.{Common.◌≡◌, Common.◌≤◌, Common.length, Common.arith, Common.Some, lemmas.Option.slice_get_past}
use Rattle.time_engine.specs.{lane_at, in_lane, open_step, clocks_of}
use Rattle.time_engine.proofs.Candidates.{says_nothing, says_waits, says_at, says_beyond, may_take}
use Rattle.time_engine.proofs.timing.candidate_and_queries.Goals as goal

pub returns-then-first-len : goal.returns-then-first-len
returns-then-first-len c =
    let lane = lane_at c.args.graph.now.lanes c.args.owner in
    let all : length lane.steps ≤ length lane.cycles = omega arith in
    let says = says_nothing c.args.graph.now.lanes c.args.fifos.now.channels c.args.owner c.args.limit
    (slice_get_past lane.steps (length lane.cycles) all) in
    record {
      nothing = says.nothing;
      waits = says.waits;
      beyond = says.beyond;
      at = says.at;
      may_take = λ cycle e. cc;
    }

pub returns-in-Err : goal.returns-in-Err
returns-in-Err c =
    let there : open_step (lane_at c.args.graph.now.lanes c.args.owner) ≡ Some (in_lane c.look-step.result) =
    rw (← c.frontier-first.ensures.count) c.look-step.ensures.step in
    let says = says_waits c.args.graph.now.lanes c.args.fifos.now.channels c.args.owner c.args.limit (in_lane c.look-step.result)
    c.in-Err.access
    there c.in-Err.ensures.waits in
    record {
      nothing = says.nothing;
      waits = says.waits;
      beyond = says.beyond;
      at = says.at;
      may_take = λ cycle e. cc;
    }

pub returns-in-Ok : goal.returns-in-Ok
returns-in-Ok c =
    let lanes = c.args.graph.now.lanes in
    let channels = c.args.fifos.now.channels in
    let step = in_lane c.look-step.result in
    let there : open_step (lane_at lanes c.args.owner) ≡ Some step = rw (← c.frontier-first.ensures.count) c.look-step.ensures.step in
    let latest = rw c.last_cycle.ensures.cycle at c.in-Ok.ensures.latest in
    let says = says_at lanes channels c.args.owner c.args.limit step c.in-Ok.cycle there
    c.in-Ok.ensures.none_waits latest c.if-cycle-limit.true in
    let takes = may_take lanes c.args.owner c.args.limit step (clocks_of lanes channels step.accesses) c.in-Ok.cycle c.requires.owner
    c.requires.limit there
    (rw (← c.frontier-first.ensures.count) c.look-step.ensures.apart) latest c.if-cycle-limit.true in
    record {
      nothing = says.nothing;
      waits = says.waits;
      beyond = says.beyond;
      at = says.at;
      may_take = λ cycle e. let same : c.in-Ok.cycle ≡ cycle = cc in record {
        may = rw (← same) takes;
        count = λ s is. let same : s ≡ step = cc in rw same c.in-Ok.ensures.queries;
      };
    }

pub returns-in-Ok-2 : goal.returns-in-Ok-2
returns-in-Ok-2 c =
    let lanes = c.args.graph.now.lanes in
    let channels = c.args.fifos.now.channels in
    let step = in_lane c.look-step.result in
    let there : open_step (lane_at lanes c.args.owner) ≡ Some step = rw (← c.frontier-first.ensures.count) c.look-step.ensures.step in
    let latest = rw c.last_cycle.ensures.cycle at c.in-Ok.ensures.latest in
    let says = says_beyond lanes channels c.args.owner c.args.limit step c.in-Ok.cycle there
    c.in-Ok.ensures.none_waits latest c.if-cycle-limit.false in
    record {
      nothing = says.nothing;
      waits = says.waits;
      beyond = says.beyond;
      at = says.at;
      may_take = λ cycle e. cc;
    }
