use Rattle.std.proofs.Common.{◌≡◌, length}
use Rattle.sim_core.specs.{IsSearching}
use Rattle.sim_core.proofs.readers.find_users.Given as goal

abbrev pub invariant-loop-owner : goal.invariant-loop-owner
invariant-loop-owner l = record {
  count : length l.users.items ≡ length l.plan.design.channels;
  finding : IsSearching l.side l.plan.design.modules l.none l.users.items l.owner;
}
