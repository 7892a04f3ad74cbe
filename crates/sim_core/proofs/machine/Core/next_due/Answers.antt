use Rattle.std.proofs.Common.{◌≡◌, ℕ, ◌<◌, ◌≤◌, Option, None, Some, length, arith}
use Rattle.std.specs.Prelude.{IfSome}
use Rattle.sim_core.specs.{held_in, DueModules, lent_of, IsStill, CoreView, theory_of, AreDue, IsOutside}
use Rattle.sim_core.proofs.Waking.{still_outside}
use Rattle.sim_core.proofs.machine.Core.next_due.Goals as goal

before_found : (v : CoreView) (due : DueModules) → AreDue v.plan (theory_of v) due → (count from : ℕ) → count ≡ length v.plan.design.modules
    → (r : Option ℕ) → IfSome r (λ m. m < count) → IfSome r (λ m. (n : ℕ) → from ≤ n → n < m → IsOutside due n)
    → IfSome r (λ m. (n : ℕ) → from ≤ n → n < m → IsStill v n)
before_found v due are count from same None below before = tt
before_found v due are count from same (Some m) below before = λ n l u. still_outside v due are n (omega arith) (before n l u)

pub returns-clause-before : goal.returns-clause-before
returns-clause-before c =
    let v : CoreView = record {
      plan = c.self.inside.plan;
      held = held_in c.self.inside.engine;
      lent = lent_of c.self.inside.runs.items;
    } in
    rw (← c.self.view_is) (before_found v c.self.inside.due c.self.invariant.due_are c.modules-count.result c.args.from
    (rw (← c.self.view_is) at c.modules-count.ensures.count) c.first_from.result c.first_from.ensures.below c.first_from.ensures.before)

pub returns-clause-none : goal.returns-clause-none
returns-clause-none c =
    let v : CoreView = record {
      plan = c.self.inside.plan;
      held = held_in c.self.inside.engine;
      lent = lent_of c.self.inside.runs.items;
    } in
    let same : c.modules-count.result ≡ length v.plan.design.modules = rw (← c.self.view_is) at c.modules-count.ensures.count in
    rw (← c.self.view_is) (λ e n l u. still_outside v c.self.inside.due c.self.invariant.due_are n u
    (c.first_from.ensures.none e n l (omega arith)))
