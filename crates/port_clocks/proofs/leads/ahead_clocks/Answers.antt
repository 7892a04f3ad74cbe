use Rattle.std.proofs.Common.{◌≡◌, ◌≤◌, length, get_or, arith}
use Rattle.port_clocks.proofs.Counts.{counted_turn, turn_before, turn_reach, ahead_none, ahead_at_most, before_most}
use Rattle.port_clocks.proofs.leads.ahead_clocks.Goals as goal

pub loop-at-init : goal.loop-at-init
loop-at-init c = record {
  total = ahead_none c.args.margin c.args.first.now c.args.second.now;
  within = omega arith;
  early = λ k l m. omega arith;
  reach = λ d l m. omega arith;
}

pub overflow_add-total : goal.overflow_add-total
overflow_add-total c =
    let first = c.args.first.now in
    let second = c.args.second.now in
    let i = c.loop-at.at in
    let early = c.loop-at.invariant.early i (omega arith) c.loop-at-test.true in
    let ahead : c.loop-at.from ≤ c.min-until.result = let w = c.loop-at.invariant.within in omega arith in
    let sum = counted_turn c.args.margin first second i c.loop-at.from c.min-until.result c.loop-at.total c.clocks_after-total.result
    c.requires.first c.requires.some ahead
    (turn_before second c.requires.second i c.loop-at.from c.min-until.result c.args.clock c.loop-at-test.true c.min-until.ensures
    c.loop-at.invariant.reach) c.loop-at.invariant.total c.clocks_after-total.ensures in
    omega (arith, ahead_at_most c.args.margin first second c.min-until.result)

pub loop-at-preserved : goal.loop-at-preserved
loop-at-preserved c =
    let first = c.args.first.now in
    let second = c.args.second.now in
    let i = c.loop-at.at in
    let early = c.loop-at.invariant.early i (omega arith) c.loop-at-test.true in
    let ahead : c.loop-at.from ≤ c.min-until.result = let w = c.loop-at.invariant.within in omega arith in
    record {
      total = counted_turn c.args.margin first second i c.loop-at.from c.min-until.result c.loop-at.total c.clocks_after-total.result
          c.requires.first c.requires.some ahead
          (turn_before second c.requires.second i c.loop-at.from c.min-until.result c.args.clock c.loop-at-test.true c.min-until.ensures
          c.loop-at.invariant.reach) c.loop-at.invariant.total c.clocks_after-total.ensures;
      within = omega arith;
      early = λ k l m. let least : get_or second i 0 ≤ get_or second k 0 = c.requires.second i k 0 (omega arith) m in omega arith;
      reach = turn_reach second c.requires.second i c.min-until.result c.args.clock c.loop-at-test.true c.min-until.ensures;
    }

pub overflow_add-result : goal.overflow_add-result
overflow_add-result c =
    let first = c.args.first.now in
    let second = c.args.second.now in
    let all : c.loop-at.at ≡ length second = omega arith in
    let sum = counted_turn c.args.margin first second (length second) c.loop-at.from c.args.clock c.loop-at.total c.clocks_after.result
    c.requires.first c.requires.some c.loop-at.invariant.within
    (λ d x y. let low = c.loop-at.invariant.reach d x y in omega (arith, before_most second d))
    c.loop-at.invariant.total c.clocks_after.ensures in
    omega (arith, ahead_at_most c.args.margin first second c.args.clock)

pub returns : goal.returns
returns c =
    let first = c.args.first.now in
    let second = c.args.second.now in
    let all : c.loop-at.at ≡ length second = omega arith in
    counted_turn c.args.margin first second (length second) c.loop-at.from c.args.clock c.loop-at.total c.clocks_after.result
    c.requires.first c.requires.some c.loop-at.invariant.within
    (λ d x y. let low = c.loop-at.invariant.reach d x y in omega (arith, before_most second d))
    c.loop-at.invariant.total c.clocks_after.ensures
