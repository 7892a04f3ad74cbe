use Rattle.std.proofs.Common.{inl, inr}
use Rattle.outcome_guard.proofs.Beginning.{begins}
use Rattle.outcome_guard.proofs.prefix.one_is_prefix.Goals as goal

pub returns-then-starts_with : goal.returns-then-starts_with
returns-then-starts_with c =
    let says = begins c.args.a.now c.args.b.now c.starts_with.result c.starts_with.ensures.value in
    ((λ yes. inr (says.0 yes)), (λ one. c.if-starts_with.true))

pub returns-else-starts_with : goal.returns-else-starts_with
returns-else-starts_with c =
    let long = begins c.args.a.now c.args.b.now c.starts_with.result c.starts_with.ensures.value in
    let short = begins c.args.b.now c.args.a.now c.starts_with-else-starts_with.result c.starts_with-else-starts_with.ensures.value in (
      (λ yes. inl (short.0 yes)),
      (λ one. elim one [
        | inl a_first ↦ short.1 a_first
        | inr b_first ↦ let yes = long.1 b_first in let no = c.if-starts_with.false in cc
      ]),
    )
