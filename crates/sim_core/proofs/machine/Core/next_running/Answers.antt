use Rattle.std.proofs.Common.{◌≡◌, ℕ, ◌<◌, ◌≤◌, List, Option, None, Some, length, arith}
use Rattle.std.specs.Prelude.{IfSome}
use Rattle.sim_core.specs.{held_in, Lacks, lent_of, AreUnrunnable, AreWaking, CoreView, theory_of}
use Rattle.sim_core.proofs.machine.Core.next_running.Goals as goal

before_found : (v : CoreView) (running : List ℕ) → AreWaking v.plan (theory_of v) running → (count from : ℕ)
    → count ≡ length v.plan.design.modules → (r : Option ℕ) → IfSome r (λ m. m < count)
    → IfSome r (λ m. (n : ℕ) → from ≤ n → n < m → Lacks running n) → IfSome r (λ m. AreUnrunnable v from m)
before_found v running are count from same None below before = tt
before_found v running are count from same (Some m) below before = λ n l u. are.none n (omega arith) (before n l u)

pub returns-clause-before : goal.returns-clause-before
returns-clause-before c =
    let v : CoreView = record {
      plan = c.self.inside.plan;
      held = held_in c.self.inside.engine;
      lent = lent_of c.self.inside.runs.items;
    } in
    rw (← c.self.view_is) (before_found v c.self.inside.due.running c.self.invariant.due_are.running_are c.modules.result c.args.from
    (rw (← c.self.view_is) at c.modules.ensures.count) c.first_below.result c.first_below.ensures.below c.first_below.ensures.before)

pub returns-clause-none : goal.returns-clause-none
returns-clause-none c =
    let v : CoreView = record {
      plan = c.self.inside.plan;
      held = held_in c.self.inside.engine;
      lent = lent_of c.self.inside.runs.items;
    } in
    let same : c.modules.result ≡ length v.plan.design.modules = rw (← c.self.view_is) at c.modules.ensures.count in
    rw (← c.self.view_is) (λ e n l u. c.self.invariant.due_are.running_are.none n u (c.first_below.ensures.none e n l (omega arith)))
