use Rattle.std.proofs.Common.{◌∙◌, ◌+◌, ap, arith, length, position, sym}
use Rattle.std.specs.Prelude.{option_map}
use Rattle.core_actions.specs.{is_query_access}
use Rattle.core_actions.proofs.Firsts.{passed_none, passed_more, passed_here}
use Rattle.core_actions.proofs.searching.query_in.Goals as goal

pub loop-access-init : goal.loop-access-init
loop-access-init c =
    let same = c.into_iter-access-iterator.ensures.into_iter_gives ∙ c.iter-access-items.ensures in (
      passed_none is_query_access c.args.accesses.now ∙ ap (λ xs. option_map (λ k. k + 0) (position is_query_access xs)) (sym same),
      omega (arith, ap length same),
    )

pub returns-then-is_query : goal.returns-then-is_query
returns-then-is_query c =
    let n = c.loop-access.number in
    sym (c.loop-access.invariant.0
    ∙ ap (λ xs. option_map (λ k. k + n) (position is_query_access xs)) c.in-Some.ensures.steps
    ∙ passed_here is_query_access c.in-Some.access c.next.new.self n (sym c.if-is_query.ensures))

pub overflow_add-number : goal.overflow_add-number
overflow_add-number c = omega (arith, c.loop-access.invariant.1, ap length c.in-Some.ensures.steps, c.requires)

pub loop-access-preserved : goal.loop-access-preserved
loop-access-preserved c =
    let n = c.loop-access.number in (
      c.loop-access.invariant.0
          ∙ ap (λ xs. option_map (λ k. k + n) (position is_query_access xs)) c.in-Some.ensures.steps
          ∙ passed_more is_query_access c.in-Some.access c.next.new.self n (sym c.if-is_query.ensures),
      omega (arith, c.loop-access.invariant.1, ap length c.in-Some.ensures.steps),
    )

pub returns : goal.returns
returns c =
    sym (c.loop-access.invariant.0
    ∙ ap (λ xs. option_map (λ k. k + c.loop-access.number) (position is_query_access xs)) c.in-None.ensures.steps.0)
