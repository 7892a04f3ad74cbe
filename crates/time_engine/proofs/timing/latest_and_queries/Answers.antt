use Rattle.std.proofs.Common.{◌≡◌, ◌∙◌, ◌+◌, refl, sym, ap, List, [], ◌∷◌, ◌++◌, length, append-nil, length-append, arith}
use Rattle.time_engine.specs.{Access, is_waiting}
use Rattle.time_engine.proofs.{First.none_more, First.position_found, First.position_none, LatestClocks.latest_none}
use Rattle.time_engine.proofs.{LatestClocks.clocks_of-none, LatestClocks.latest_next, Counting.queries_next, Yielded.within, Yielded.here}
use Rattle.time_engine.proofs.{Yielded.onward, timing.latest_and_queries.Goals.In-Some, timing.latest_and_queries.Goals.In-None}
use Rattle.time_engine.proofs.timing.latest_and_queries.Goals as goal

pub loop-access-init : goal.loop-access-init
loop-access-init c = record {
  all = sym c.iter-access-items.ensures ∙ sym c.into_iter-access-iterator.ensures.into_iter_gives;
  count = refl;
  none = λ k d h. absurd (omega arith);
  latest = rw (clocks_of-none c.args.graph.now.lanes c.args.fifos.now.channels) (latest_none c.args.clock);
  queries = refl;
  few = omega arith;
}

-- the accesses that came, this one, and those that are left
parts : (c : In-Some) → c.args.accesses.now ≡ c.loop-access.yielded ++ c.in-Some.access ∷ c.next.new.self
parts c = c.loop-access.invariant.all ∙ ap (λ (xs : List Access). c.loop-access.yielded ++ xs) c.in-Some.ensures.steps

pub returns-in-None-later-clause-waits : goal.returns-in-None-later-clause-waits
returns-in-None-later-clause-waits c =
    let is = parts (goal.at.returns-in-None-later-clause-waits c).In-Some in
    let xs = c.args.accesses.now in
    rw c.loop-access.invariant.count (position_found (is_waiting c.args.graph.now.lanes c.args.fifos.now.channels) xs
    (length c.loop-access.yielded) c.in-Some.access (within xs _ _ _ is) c.loop-access.invariant.none
    (rw (here xs _ _ _ is c.in-Some.access) (sym c.in-None-later.ensures.waits)))

pub loop-access-preserved : goal.loop-access-preserved
loop-access-preserved c =
    let is = parts (goal.at.loop-access-preserved c).In-Some in
    let xs = c.args.accesses.now in
    let ys = c.loop-access.yielded in
    let longer : length (ys ++ c.in-Some.access ∷ []) ≡ length ys + 1 = length-append ys (c.in-Some.access ∷ []) in
    record {
      all = onward xs ys _ _ is;
      count = let count = c.loop-access.invariant.count in omega arith;
      none = rw longer (none_more (is_waiting c.args.graph.now.lanes c.args.fifos.now.channels) xs (length ys) c.in-Some.access
          (within xs _ _ _ is) c.loop-access.invariant.none
          (rw (here xs _ _ _ is c.in-Some.access) (sym c.in-Some-later.ensures.waits)));
      latest = latest_next c.args.graph.now.lanes c.args.fifos.now.channels ys c.in-Some.access c.args.clock c.loop-access.cycle
          c.in-Some-later.later c.loop-access.invariant.latest c.in-Some-later.ensures.later;
      queries = queries_next ys c.in-Some.access c.loop-access.queries c.query_count-queries.result c.loop-access.invariant.queries
          c.query_count-queries.ensures.count;
      few = let most = c.query_count-queries.ensures.most in let few = c.loop-access.invariant.few in omega arith;
    }

-- all have come
ended : (c : In-None) → c.args.accesses.now ≡ c.loop-access.yielded
ended c =
    c.loop-access.invariant.all ∙ (ap (λ (xs : List Access). c.loop-access.yielded ++ xs) c.in-None.ensures.steps.0
    ∙ append-nil c.loop-access.yielded)

pub returns-clause-none_waits : goal.returns-clause-none_waits
returns-clause-none_waits c =
    position_none (is_waiting c.args.graph.now.lanes c.args.fifos.now.channels) c.args.accesses.now (length c.loop-access.yielded)
    (sym (ap length (ended (goal.at.returns-clause-none_waits c).In-None))) c.loop-access.invariant.none
