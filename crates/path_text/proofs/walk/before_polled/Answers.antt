use Rattle.std.proofs.Common.{sym, ap, subst, arith, ◌∙◌, ℕ, ◌<◌, List, length, slice_index}
use Rattle.std.specs.Prelude.{IfSome, Option, Some}
use Rattle.path_text.specs.{Polled, before_by}
use Rattle.path_text.proofs.Owned.{owners_count, owner_at}
use Rattle.flow_word.specs.declared.access.Side.TheVariants as side
use Rattle.path_text.proofs.walk.before_polled.Goals as goal

pub bounds-pushers-polled : goal.bounds-pushers-polled
bounds-pushers-polled c =
    let p = c.args.plan.now in
    let inside = subst (λ (o : Option Polled). IfSome o (λ q. q.channel < length p.design.channels)) c.in-Some.is c.requires.polled in
    let count = ap (λ (xs : List ℕ). length xs) c.requires.pushers ∙ owners_count p side.Push in
    omega arith

pub returns-in-Some : goal.returns-in-Some
returns-in-Some c =
    let p = c.args.plan.now in
    let q = c.in-Some.polled in
    let inside = subst (λ (o : Option Polled). IfSome o (λ q. q.channel < length p.design.channels)) c.in-Some.is c.requires.polled in
    let there = ap (λ (xs : List ℕ). slice_index xs q.channel) c.requires.pushers ∙ owner_at p side.Push q.channel inside in
    ap (λ (m : ℕ). Some (record { «module» = m; clock = q.pushed })) there ∙ sym (ap (before_by p c.args.step.now.link) c.in-Some.is)
