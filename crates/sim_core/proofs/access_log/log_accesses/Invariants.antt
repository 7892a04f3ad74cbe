use Rattle.std.proofs.Common.{◌≡◌, ◌+◌, ◌<◌, ◌^◌, ◌++◌, [], length, map}
use Rattle.std.specs.Prelude.{All}
use Rattle.sim_core.specs.{paired, replies_told, logged, access_request, step_doing}
use Rattle.sim_core.proofs.access_log.log_accesses.Given as goal

-- what the accesses give is what is logged so far and what the others give
abbrev pub invariant-loop-access : goal.invariant-loop-access
invariant-loop-access g l = record {
  log : l.initial.log
      ++ map (logged (step_doing l.key []))
      (paired (map access_request l.accesses) (replies_told (g.A.Answers.reply l.replies) 0 0 l.accesses))
      ≡ l.log
      ++ map (logged (step_doing l.key []))
      (paired (map access_request l.access-iterator) (replies_told (g.A.Answers.reply l.replies) l.place l.asked l.access-iterator));
  known : All (g.A.Answers.knows l.replies) l.access-iterator;
  place : l.place + length l.access-iterator < 2 ^ 32;
  asked : l.asked + length l.access-iterator < 2 ^ 32;
}
