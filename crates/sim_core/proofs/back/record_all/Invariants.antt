use Rattle.std.proofs.Common.{◌≡◌, List, length, drop, Option}
use Rattle.sim_core.specs.{Plan, ModuleRun, Task, AreParts, marks_in, marks_of, core_in, AreReturned}
use Rattle.sim_core.proofs.Returning.{IsReturningOn}
use Rattle.sim_core.proofs.back.record_all.Given as goal

abbrev pub invariant-loop-head : goal.invariant-loop-head
invariant-loop-head l = record {
  lanes : length l.engine.graph.lanes ≡ length l.initial.engine.graph.lanes;
  parts : AreParts (drop l.head-index l.head-items) l.accesses (drop l.taken l.others.items);
  on : (p : Plan) (out : List (Option ModuleRun)) (last : Task)
      → (t : AreReturned p l.initial.engine out l.owner (marks_of l.fn.marks) last)
      → IsReturningOn p l.engine out l.owner t.task.mail t.short last
      (marks_in (drop l.head-index l.head-items) l.accesses (drop l.taken l.others.items)) (core_in p l.initial.engine)
      (length (marks_of l.fn.marks));
}
