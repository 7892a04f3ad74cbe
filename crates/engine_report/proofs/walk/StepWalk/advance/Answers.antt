use Rattle.std.proofs.Common.{arith}
use Rattle.std.specs.Prelude.{IsNone}
use Rattle.engine_report.proofs.Giving.{round_found, end_found}
use Rattle.engine_report.proofs.walk.StepWalk.advance.Goals as goal

pub loop-found-preserved : goal.loop-found-preserved
loop-found-preserved c =
    let none : IsNone c.loop-found.found = grind (arith, c.is_none.ensures, c.loop-found-test.true) in
    record {
      walk = c.find-found-in-loop-found.ensures.walk;
      found = round_found c.args.graph.now.lanes c.stays_sound.ensures c.args.self.now c.loop-found.self c.begin_round.new.self
          c.find-found-in-loop-found.new.self
          c.loop-found.found c.find-found-in-loop-found.result none c.loop-found.invariant.walk
          c.loop-found.invariant.found c.if-self-lt-NEVER.true c.begin_round.ensures.given c.begin_round.ensures.next
          c.begin_round.ensures.clock c.begin_round.ensures.later c.begin_round.ensures.turn c.find-found-in-loop-found.ensures.found;
    }

pub returns-else-self-lt-NEVER-clause-none : goal.returns-else-self-lt-NEVER-clause-none
returns-else-self-lt-NEVER-clause-none c =
    end_found c.args.graph.now.lanes c.stays_sound.ensures c.args.self.now c.loop-found.self c.loop-found.found
    c.loop-found.invariant.walk c.loop-found.invariant.found (omega (arith, c.if-self-lt-NEVER.false))
