use Rattle.std.proofs.Common.{ℕ, ◌<◌, ◌≤◌, List, Option, None, Some, length, arith}
use Rattle.std.specs.Prelude.{IfSome}
use Rattle.sim_core.specs.{held_in, Lacks, AreAsking, lent_of, AreUntimable, CoreView, theory_of}
use Rattle.sim_core.proofs.machine.Core.next_asking.Goals as goal

before_found : (v : CoreView) (asking : List ℕ) → AreAsking v.plan (theory_of v) asking → (from to : ℕ)
    → to ≤ length v.plan.design.modules → (r : Option ℕ) → IfSome r (λ m. m < to)
    → IfSome r (λ m. (n : ℕ) → from ≤ n → n < m → Lacks asking n) → IfSome r (λ m. AreUntimable v from m)
before_found v asking are from to most None below before = tt
before_found v asking are from to most (Some m) below before = λ n l u. are.idle n (omega arith) (before n l u)

pub returns-clause-before : goal.returns-clause-before
returns-clause-before c =
    let v : CoreView = record {
      plan = c.self.inside.plan;
      held = held_in c.self.inside.engine;
      lent = lent_of c.self.inside.runs.items;
    } in
    rw (← c.self.view_is) (before_found v c.self.inside.due.asking c.self.invariant.due_are.asking_are c.args.from c.args.to
    (rw (← c.self.view_is) at c.requires) c.first_below.result c.first_below.ensures.below c.first_below.ensures.before)

pub returns-clause-none : goal.returns-clause-none
returns-clause-none c =
    let v : CoreView = record {
      plan = c.self.inside.plan;
      held = held_in c.self.inside.engine;
      lent = lent_of c.self.inside.runs.items;
    } in
    let most : c.args.to ≤ length v.plan.design.modules = rw (← c.self.view_is) at c.requires in
    rw (← c.self.view_is) (λ e n l u. c.self.invariant.due_are.asking_are.idle n (omega arith) (c.first_below.ensures.none e n l u))
