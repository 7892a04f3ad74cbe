use Rattle.std.proofs.Common.{◌≡◌, sym, arith, subst, ◌+◌, ℕ}
use Rattle.block_schedule.specs.{live_count, IsNextPhase, HasNoPhase, IsNextDue}
use Rattle.block_schedule.proofs.Next.{IsRound, turn_of, next_round, found_next, turn_next}
use Rattle.block_schedule.proofs.schedule.Schedule.next_due.Goals as goal

pub loop-start-preserved : goal.loop-start-preserved
loop-start-preserved c b is stands =
    let k = c.args.control.now in
    let none : HasNoPhase b c.loop-start.whole (live_count b k) c.loop-start.phase =
    subst (λ (n : ℕ). HasNoPhase b c.loop-start.whole n c.loop-start.phase) (c.live_count-live.ensures b is)
    (c.next_phase.ensures.none b is c.in_default.is) in
    subst (λ (ii : ℕ). IsRound b k (c.loop-start.whole + 1) (c.loop-start.start + ii) 0) (sym is.same_interval)
    (next_round b k c.loop-start.whole c.loop-start.start c.loop-start.phase is.limits.some stands.has_started
    (c.loop-start.invariant b is stands) none)

pub returns-in-Some : goal.returns-in-Some
returns-in-Some c b is stands =
    let k = c.args.control.now in
    let found : IsNextPhase b c.loop-start.whole (live_count b k) c.loop-start.phase c.in-Some.next =
    subst (λ (n : ℕ). IsNextPhase b c.loop-start.whole n c.loop-start.phase c.in-Some.next) (c.live_count-live.ensures b is)
    (c.in-Some.ensures.some b is) in
    let turn : c.turn-turn.result ≡ turn_of b k = rw (is.same_interval, is.same_len) at c.turn-turn.ensures in
    found_next b k c.loop-start.whole c.loop-start.start c.loop-start.phase c.in-Some.next is.limits stands
    (c.loop-start.invariant b is stands) (omega (arith, c.loop-start-test.true)) found

pub returns : goal.returns
returns c b is stands =
    let k = c.args.control.now in
    let turn : c.turn-turn.result ≡ turn_of b k = rw (is.same_interval, is.same_len) at c.turn-turn.ensures in
    subst (λ (n : ℕ). IsNextDue b k n) (sym turn)
    (turn_next b k c.loop-start.whole c.loop-start.start c.loop-start.phase stands (c.loop-start.invariant b is stands)
    (omega (arith, c.loop-start-test.false)))
