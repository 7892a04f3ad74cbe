use Rattle.std.proofs.Common.{◌∙◌, ap, subst, arith, ℕ, ◌<◌, List, length}
use Rattle.std.specs.Prelude.{IfSome, Option}
use Rattle.path_text.specs.{Port, Channel, delay_of}
use Rattle.path_text.proofs.Owned.{owners_count, before_pop, before_push, channel_is}
use Rattle.flow_word.specs.declared.access.Side.TheVariants as side
use Rattle.path_text.proofs.walk.before_link.Goals as goal

pub bounds-pushers-channel : goal.bounds-pushers-channel
bounds-pushers-channel c =
    let inside = subst
    (λ (o : Option Port). IfSome o (λ a. a.channel < length c.args.plan.now.design.channels)) c.in_ok-port.was c.requires.crossed in
    let count = ap (λ (xs : List ℕ). length xs) c.requires.pushers ∙ owners_count c.args.plan.now side.Push in
    omega arith

pub bounds-poppers-channel : goal.bounds-poppers-channel
bounds-poppers-channel c =
    let inside = subst
    (λ (o : Option Port). IfSome o (λ a. a.channel < length c.args.plan.now.design.channels)) c.in_ok-port.was c.requires.crossed in
    let count = ap (λ (xs : List ℕ). length xs) c.requires.poppers ∙ owners_count c.args.plan.now side.Pop in
    omega arith

pub returns-in-Pop : goal.returns-in-Pop
returns-in-Pop c =
    let p = c.args.plan.now in
    let a = c.in_ok-port.port in
    let inside = subst (λ (o : Option Port). IfSome o (λ a. a.channel < length p.design.channels)) c.in_ok-port.was c.requires.crossed in
    before_pop p c.args.link.now a c.args.pushers.now c.delay.result c.in_ok-port.was c.in-Pop.is inside c.requires.pushers
    (c.delay.ensures ∙ ap (λ (ch : Channel). delay_of ch.kind) (channel_is p.design.channels c.as_slice.result.now a.channel
    c.index-as_slice-channel.result inside c.as_slice.ensures))

pub returns-in-Push : goal.returns-in-Push
returns-in-Push c =
    let p = c.args.plan.now in
    let a = c.in_ok-port.port in
    let inside = subst (λ (o : Option Port). IfSome o (λ a. a.channel < length p.design.channels)) c.in_ok-port.was c.requires.crossed in
    before_push p c.args.link.now a c.args.poppers.now c.in_ok-port.was c.in-Push.is inside c.requires.poppers
