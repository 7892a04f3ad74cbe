use Rattle.std.proofs.Common.{◌-◌, arith}
use Rattle.flow_grammar.proofs.PrefixLoop.{taken, refused, at_end, did_take, did_refuse}
use Rattle.flow_grammar.proofs.prefix.read_back.Goals as goal

pub loop-at-init : goal.loop-at-init
loop-at-init g c =
    (omega arith, at_end (λ t. t.now) (g.K.KnownNames.knows c.args.known.now) c.args.tokens.now c.new-stack.result c.new-stack.ensures)

pub returns-then-not-branch : goal.returns-then-not-branch
returns-then-not-branch g c =
    refused (λ t. t.now) (g.K.KnownNames.knows c.args.known.now) c.args.tokens.now c.loop-at.at (c.loop-at.at - 1) _ c.split_at.result.1.now
    c.split_at-in-loop-at.result.1.now c.loop-at.stack
    (omega arith) c.loop-at.invariant.0 c.loop-at.invariant.1 c.split_at.ensures.back c.split_at-in-loop-at.ensures.back
    (did_refuse _ _ _ c.if-not-branch.true c.in_ok-take.ensures)

pub loop-at-preserved : goal.loop-at-preserved
loop-at-preserved g c = (
  omega arith,
  taken (λ t. t.now) (g.K.KnownNames.knows c.args.known.now) c.args.tokens.now c.loop-at.at (c.loop-at.at - 1) _ c.split_at.result.1.now
      c.split_at-in-loop-at.result.1.now c.loop-at.stack
      (omega arith) c.loop-at.invariant.0 c.loop-at.invariant.1 c.split_at.ensures.back c.split_at-in-loop-at.ensures.back c.take.new.stack
      (did_take _ _ _ c.if-not-branch.false c.in_ok-take.ensures),
)
