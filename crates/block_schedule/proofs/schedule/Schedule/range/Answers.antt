use Rattle.std.proofs.Common.{◌≡◌, ◌*◌, ◌/◌, ◌+◌, ◌%◌, ◌<◌, arith, length, get_or, subst, sym, ℕ}
use Rattle.std.proofs.lemmas.Nat.{div-add-mod', mod_below}
use Rattle.flow_design.specs.declared.limits.TheConstants.{LIVE_ITERATIONS}
use Rattle.block_schedule.specs.{IsRange}
use Rattle.block_schedule.proofs.Ages.{narrow_range}
use Rattle.block_schedule.proofs.schedule.Schedule.range.Goals as goal

pub returns-then-are_within : goal.returns-then-are_within
returns-then-are_within c =
    let (p, one) = c.requires.one in
    let q : ℕ = c.args.first / LIVE_ITERATIONS in
    let slots = c.args.self.now.slots.items in
    let phases = c.args.self.now.phases.items in
    let phase = c.in-Some.phase.now in
    let there : q < length phases = rw c.deref.ensures.value at c.in-Some.ensures.lookup.3.0 in
    let read : phase ≡ get_or phases q phase = rw c.deref.ensures.value at (c.in-Some.ensures.lookup.3.1 phase) in
    let wide : IsRange slots (q * LIVE_ITERATIONS) (q * LIVE_ITERATIONS + LIVE_ITERATIONS) phase.0 phase.1 =
    subst (λ (x : ℕ × ℕ). IsRange slots (q * LIVE_ITERATIONS) (q * LIVE_ITERATIONS + LIVE_ITERATIONS) x.0 x.1) (sym read)
    (c.requires.phases q phase there) in
    let whole : q * LIVE_ITERATIONS + c.args.first % LIVE_ITERATIONS ≡ c.args.first = div-add-mod' c.args.first LIVE_ITERATIONS in
    let rest = mod_below c.args.first LIVE_ITERATIONS (omega arith) in
    narrow_range slots c.args.first c.args.end (q * LIVE_ITERATIONS) (q * LIVE_ITERATIONS + LIVE_ITERATIONS) phase.0 phase.1
    c.requires.in_order (omega arith) c.requires.some (omega arith) wide
    (rw c.deref-in-Some.ensures.value at (c.are_within.ensures.first c.if-are_within.true))
    (rw c.deref-in-Some.ensures.value at (c.are_within.ensures.last c.if-are_within.true))
