use Rattle.std.proofs.Common.{◌+◌, ◌-◌, ap, arith, ℕ}
use Rattle.block_schedule.proofs.Due.{same_bound, newest_rank, in_one_phase, many_ranks, due_is, slots_inside}
use Rattle.block_schedule.proofs.schedule.Schedule.due.Goals as goal

pub overflow_sub-end : goal.overflow_sub-end
overflow_sub-end c =
    many_ranks c.requires.0 c.args.self.now c.args.age c.args.live c.rank-end.result c.requires.1.0 c.requires.1.1 c.rank-end.ensures

pub overflow_sub-result : goal.overflow_sub-result
overflow_sub-result c =
    many_ranks c.requires.0 c.args.self.now c.args.age c.args.live c.rank-end.result c.requires.1.0 c.requires.1.1 c.rank-end.ensures

pub range-from-requires-clause-one : goal.range-from-requires-clause-one
range-from-requires-clause-one c =
    let (b, (is, below)) = c.requires in
    let one = in_one_phase b c.args.self.now c.args.age c.args.live is below in
    let same = newest_rank b c.args.self.now c.args.age c.rank-end.result is c.rank-end.ensures in
    (one.phase, (omega (arith, one.from, same), omega (arith, one.to, same)))

pub returns-clause-places : goal.returns-clause-places
returns-clause-places c b is =
    let s = c.args.self.now in
    let newest : ℕ = c.rank-end.result in
    let oldest : ℕ = newest + 1 - c.args.live in
    let below = same_bound c.requires.0 b s c.args.age c.args.live c.requires.1.0 is c.requires.1.1 in
    let some = many_ranks b s c.args.age c.args.live newest is below c.rank-end.ensures in
    let same = newest_rank b s c.args.age newest is c.rank-end.ensures in
    due_is b s c.args.age c.args.live (newest + 1) c.range-from.result.0 c.range-from.result.1 is below
    (ap (λ (r : ℕ). r + 1) same) some c.range-from.ensures

pub returns-clause-inside : goal.returns-clause-inside
returns-clause-inside c b is =
    let s = c.args.self.now in
    let newest : ℕ = c.rank-end.result in
    let oldest : ℕ = newest + 1 - c.args.live in
    let below = same_bound c.requires.0 b s c.args.age c.args.live c.requires.1.0 is c.requires.1.1 in
    let some = many_ranks b s c.args.age c.args.live newest is below c.rank-end.ensures in
    slots_inside b s c.args.live (newest + 1) c.range-from.result.0 c.range-from.result.1 is some c.range-from.ensures
