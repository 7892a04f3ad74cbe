use Rattle.std.proofs.{Common.subst, Common.take, lemmas.List.take_all, lemmas.List.Elements.All-more, lemmas.List.Elements.All-weaker}
use Rattle.std.specs.Prelude.{All}
use Rattle.module_interp.specs.{Timed, IsGathered}
use Rattle.module_interp.proofs.Gathered.{gathered_more}
use Rattle.module_interp.proofs.own_channels.gather.Goals as goal

pub loop-timed-preserved : goal.loop-timed-preserved
loop-timed-preserved c =
    let ops = c.args.ops.now in
    let i = c.loop-timed.timed-index in
    let old = c.loop-timed.channels.items in
    let new = c.gather_one.new.channels.items in
    record {
      kept = λ f h. c.in_ok-gather_one.ensures.kept f (c.loop-timed.invariant.kept f h);
      gathered = All-more (λ (t : Timed). IsGathered c.args.side new t.op) ops i c.timed-item.result c.loop-timed-test.true
          (All-weaker (λ (t : Timed). IsGathered c.args.side old t.op) (λ (t : Timed). IsGathered c.args.side new t.op)
          (λ t h. gathered_more c.args.side old new c.in_ok-gather_one.ensures.kept t.op h) (take i ops) c.loop-timed.invariant.gathered)
          (subst (λ (t : Timed). IsGathered c.args.side new t.op) c.timed-item.is c.in_ok-gather_one.ensures.gathered);
    }

pub returns-clause-gathered : goal.returns-clause-gathered
returns-clause-gathered c =
    subst (All (λ (t : Timed). IsGathered c.args.side c.loop-timed.channels.items t.op))
    (take_all c.loop-timed.timed-index c.args.ops.now c.loop-timed-test.false) c.loop-timed.invariant.gathered
