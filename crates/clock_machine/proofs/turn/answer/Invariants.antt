use Rattle.std.proofs.Common.{◌≡◌, ◌++◌, map, take, false}
use Rattle.std.specs.List.{list_any}
use Rattle.clock_machine.specs.{stalls, reply, answered, outcomes_in, popped, pushed}
use Rattle.clock_machine.proofs.turn.answer.Given as goal

abbrev pub invariant-loop-request : goal.invariant-loop-request
invariant-loop-request l =
    let so_far = map (answered l.at.of.now.plan.now l.at.clock l.at.contents.now) (take l.request-index l.requests) in
    record {
      free : list_any (stalls l.at.of.now.plan.now l.at.clock l.at.contents.now) (take l.request-index l.requests) ≡ false;
      replies : l.replies ≡ map (reply l.at.of.now.plan.now l.at.clock l.at.contents.now) (take l.request-index l.requests);
      outcomes : l.outcomes ≡ l.initial.outcomes ++ outcomes_in so_far;
      pops : l.traffic.pops ≡ l.initial.traffic.pops ++ popped so_far;
      pushes : l.traffic.pushes ≡ l.initial.traffic.pushes ++ pushed so_far;
    }
