use Rattle.std.proofs.Common.{◌∙◌, ◌≤◌, ◌<◌, ◌+◌, ◌-◌, ◌^◌, sym, subst, arith}
use Rattle.std.specs.Prelude.{All, AllPairs}
use Rattle.port_clocks.proofs.Counts.{ahead_at_most}
use Rattle.stall_text.proofs.Fills.{later_rises, later_early}
use Rattle.stall_text.proofs.fifos.filling_of.Goals as goal

pub ahead_clocks-requires-clause-first : goal.ahead_clocks-requires-clause-first
ahead_clocks-requires-clause-first c =
    subst (AllPairs (λ a b. a ≤ b)) (sym (c.as_slice.ensures ∙ c.in_ok-ready.ensures))
    (later_rises (c.args.delay - 1) c.args.pushes.now c.requires.pushes.rise)

pub ahead_clocks-requires-clause-early : goal.ahead_clocks-requires-clause-early
ahead_clocks-requires-clause-early c =
    let most = c.requires.delay in
    subst (All (λ x. x + 1 < 2 ^ 64)) (sym (c.as_slice.ensures ∙ c.in_ok-ready.ensures))
    (later_early (c.args.delay - 1) c.args.clock c.args.pushes.now (omega arith) c.requires.clock c.requires.pushes.below)

pub overflow_sub-result : goal.overflow_sub-result
overflow_sub-result c =
    let most = ahead_at_most 1 c.as_slice.result.now c.args.pops.now c.args.clock in
    let e = c.ahead_clocks.ensures in
    omega arith
