use Rattle.std.proofs.Common.{◌≡◌, ℕ, suc, ◌+◌, sym, subst, ◌∙◌, arith}
use Rattle.sim_core.specs.{values_at, IsReadingValues}
use Rattle.sim_core.proofs.Posting.{values_first, values_more}
use Rattle.sim_core.proofs.post.read_values.Goals as goal

pub loop-at-preserved : goal.loop-at-preserved
loop-at-preserved c =
    let z : suc c.loop-at.at ≡ c.loop-at.at + 1 = omega arith in
    subst (λ (n : ℕ). IsReadingValues (values_at c.args.fifos.now.channels c.args.channel) c.args.first c.push.new.self n) z
    (values_more (values_at c.args.fifos.now.channels c.args.channel) c.args.first c.loop-at.values c.push.new.self c.loop-at.at
    c.in-Some-value.word c.loop-at.invariant (sym c.value.ensures ∙ c.in-Some-value.is) c.in_ok-push.ensures.ok)

pub loop-at-init : goal.loop-at-init
loop-at-init c =
    values_first (values_at c.args.fifos.now.channels c.args.channel) c.args.first c.args.values.now c.in-Some.at c.requires.begins
    (let a = c.in-Some.ensures.1 in let l = c.len.ensures in omega arith)
