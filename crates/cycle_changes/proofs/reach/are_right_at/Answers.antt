use Rattle.std.proofs.Common.{sym, subst, ◌∙◌, ℕ, ◌-◌, ◌<◌, ◌≤◌, arith}
use Rattle.std.proofs.lemmas.Option.{slice_get-get_or}
use Rattle.cycle_changes.specs.{channel_at, places_of, place_of, held_in, first_of}
use Rattle.cycle_changes.proofs.Reaching.{as_after, as_before, as_owner, as_there, has_owner, looked_between}
use Rattle.cycle_changes.proofs.reach.are_right_at.Goals.{in-Some-taker, in-None-taker}
use Rattle.cycle_changes.proofs.reach.are_right_at.Goals as goal

pub are_right_in-requires-clause-owner : goal.are_right_in-requires-clause-owner
are_right_in-requires-clause-owner c =
    has_owner c.args.engine.now c.requires.core c.args.port.side c.args.port.channel c.requires.channel (c.args.ordinal - 1)
    c.in-Some.taker (sym c.place-taker.ensures ∙ c.in-Some.is)

pub returns-in-Some : goal.returns-in-Some
returns-in-Some c = λ e.
    let engine = c.args.engine.now in
    let port = c.args.port in
    let n = c.args.ordinal in
    let taker = c.in-Some.taker in
    let there = sym c.place-taker.ensures ∙ c.in-Some.is in
    looked_between (held_in engine) port.side port.channel n taker.module 0 taker.step (c.are_right_in.ensures e)
    (λ m k l q. (
      as_owner engine c.requires.core port.side port.channel n m k l q (n - 1) taker there,
      omega arith,
      as_after engine c.requires.core port.side port.channel n m k l q (n - 1) taker there (omega arith),
    ))

pub frontier-last-requires : goal.frontier-last-requires
frontier-last-requires c =
    has_owner c.args.engine.now c.requires.core c.args.port.side c.args.port.channel c.requires.channel (c.args.ordinal - 2)
    c.in-Some-place.before (sym c.place.ensures ∙ c.in-Some-place.is)

pub are_right_in-requires-in-Some-place-clause-owner : goal.are_right_in-requires-in-Some-place-clause-owner
are_right_in-requires-in-Some-place-clause-owner c =
    has_owner c.args.engine.now c.requires.core c.args.port.side c.args.port.channel c.requires.channel (c.args.ordinal - 2)
    c.in-Some-place.before (sym c.place.ensures ∙ c.in-Some-place.is)

pub returns-after-taker-2 : goal.returns-after-taker-2
returns-after-taker-2 c = λ e.
    let engine = c.args.engine.now in
    let port = c.args.port in
    let n = c.args.ordinal in
    let before = c.in-Some-place.before in
    let there = sym c.place.ensures ∙ c.in-Some-place.is in
    let not_first = c.if-ordinal-eq1.false in
    looked_between (held_in engine) port.side port.channel n before.module c.saturating_add-first.result c.match-taker-2.last
    (c.are_right_in-in-Some-place.ensures e)
    (λ m k l q.
    let owner = as_owner engine c.requires.core port.side port.channel n m k l q (n - 2) before there in
    let low = as_before engine c.requires.core port.side port.channel n m k l q (n - 2) before there (omega arith) in
    let l' = subst (λ (v : ℕ). k < first_of (held_in engine) v) (sym owner) l in
    let high : k ≤ c.match-taker-2.last =
    elim c.match-taker-2.branch [
      | in-Some-taker w ↦
          let last = as_after engine c.requires.core port.side port.channel n m k l q (n - 1) w.in-Some-taker.taker
          (sym c.place-taker.ensures ∙ w.in-Some-taker.is) (omega arith) in
          omega (arith, w.last-is)
      | in-None-taker w ↦ omega (arith, w.last-is, w.frontier-last.ensures.count)
    ] in
    (owner, omega (arith, c.saturating_add-first.ensures), high))

pub returns-in-None-place : goal.returns-in-None-place
returns-in-None-place c = λ e m k l q.
    let engine = c.args.engine.now in
    let port = c.args.port in
    let n = c.args.ordinal in
    let not_first = c.if-ordinal-eq1.false in
    let most = as_there engine c.requires.core port.side port.channel n m k l q in
    let places = places_of port.side (channel_at engine.fifos.channels port.channel) in
    let some = slice_get-get_or places (n - 2) (place_of 0 0) (omega arith) in
    let none = sym some ∙ (sym c.place.ensures ∙ c.in-None-place.is) in
    cc
