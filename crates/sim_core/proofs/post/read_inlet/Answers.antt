use Rattle.std.proofs.{Common.◌∙◌, Common.ℕ, Common.drop, Common.sym, Common.ap, Common.arith, lemmas.Result.IfOk-weaker}
use Rattle.sim_core.specs.{popped_in, values_at}
use Rattle.sim_core.proofs.Reading.{own_values, others_values}
use Rattle.sim_core.proofs.post.read_inlet.Goals as goal

pub read_channel-requires-clause-unread : goal.read_channel-requires-clause-unread
read_channel-requires-clause-unread c =
    c.requires.unread c.args.channel
    (let i = c.pops.ensures.inside c.if-not-pops.false in let r = c.requires.readers in omega arith)

pub returns-then-not-pops-clause-values : goal.returns-then-not-pops-clause-values
returns-then-not-pops-clause-values c =
    c.new.ensures
    ∙ sym (others_values c.args.fifos.now.channels c.args.inlets.now.readers.now c.args.inlets.now.owner (popped_in c.args.run.now)
    c.args.channel c.requires.readers (c.pops.ensures.other c.if-not-pops.true))

pub returns-clause-values : goal.returns-clause-values
returns-clause-values c =
    IfOk-weaker c.read_channel.result _ _ (λ words is. is ∙ (ap (λ (n : ℕ). drop n (values_at c.args.fifos.now.channels c.args.channel))
    c.popped.ensures.counted
    ∙ sym (own_values c.args.fifos.now.channels c.args.inlets.now.readers.now c.args.inlets.now.owner (popped_in c.args.run.now)
    c.args.channel (c.pops.ensures.inside c.if-not-pops.false) (c.pops.ensures.mine c.if-not-pops.false)))) c.read_channel.ensures.values
