use Rattle.std.proofs.Common.{ℕ, ◌+◌, ◌-◌, ◌*◌, ◌<◌, ◌≤◌, arith, mul-le-mul_right}
use Rattle.engine_view.proofs.cursor.Cursor.acted.Goals as goal

-- all jumps and a round are less than an action
falls : (a b count old : ℕ) → a < b
    → a * ((count + 1) * (count + 1)) + (count * (count + 1) + (count - 0)) < b * ((count + 1) * (count + 1)) + old
falls a b count old l =
    let more : (a + 1) * ((count + 1) * (count + 1)) ≤ b * ((count + 1) * (count + 1)) =
    mul-le-mul_right ((count + 1) * (count + 1)) (omega arith) in
    omega arith

pub returns-clause-less : goal.returns-clause-less
returns-clause-less c = λ before after l. rw (← c.self.view_is) (falls after before c.self.inside.count _ l)
