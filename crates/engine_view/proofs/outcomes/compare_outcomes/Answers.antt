use Rattle.std.proofs.Common.{◌≡◌, ◌∙◌, refl, ap, List, [], ◌∷◌, ◌++◌, length, get_or, length-append}
use Rattle.engine_view.specs.{Access, log_at, Query}
use Rattle.flow_word.specs.declared.access.Kind.TheVariants.{Read}
use Rattle.time_engine.proofs.Yielded.{within, here, onward}
use Rattle.engine_view.proofs.{Comparing.compares_more, Comparing.compares_not, outcomes.compare_outcomes.Goals.In-Some}
use Rattle.engine_view.proofs.outcomes.compare_outcomes.Goals as goal

abbrev no_access : Access
no_access = record { kind = Read; channel = 0; ordinal = 0; value = 0 }

-- the accesses that came, this one, and those that are left
parts : (c : In-Some) → c.args.step.now.accesses ≡ c.loop-access.yielded ++ c.in-Some.access ∷ c.next.new.self
parts c = c.loop-access.invariant.0 ∙ ap (λ (xs : List Access). c.loop-access.yielded ++ xs) c.in-Some.ensures.steps

-- this access, by its place
same : (c : In-Some) → get_or c.args.step.now.accesses (length c.loop-access.yielded) no_access ≡ c.in-Some.access
same c = here c.args.step.now.accesses _ _ _ (parts c) no_access

pub returns-then-not-is_alike-clause-differs : goal.returns-then-not-is_alike-clause-differs
returns-then-not-is_alike-clause-differs c = λ q e.
    let some = (goal.at.returns-then-not-is_alike-clause-differs c).In-Some in
    let access = c.in-Some.access in
    let query : Query = record {
      «module» = c.args.owner;
      number = c.loop-access.number;
      kind = access.kind;
      channel = access.channel;
      ordinal = access.ordinal;
    } in
    let other = compares_not c.args.graph.now.lanes c.args.fifos.now.channels c.args.cycle c.args.step.now.accesses
    (log_at c.args.log.now.logs c.args.owner).outcomes c.args.step.now.first_query (length c.loop-access.yielded) c.loop-access.number
    no_access c.loop-access.invariant.1 c.args.owner query (within c.args.step.now.accesses _ _ _ (parts some))
    (rw (same some) (λ s. let y = (rw c.outcome-outcome.ensures at c.if-not-is_alike.ensures.1) s in cc)) refl refl
    (rw (same some) refl) (rw (same some) refl) (rw (same some) refl) in
    let is : query ≡ q = cc in
    rw is at other

pub loop-access-preserved : goal.loop-access-preserved
loop-access-preserved c =
    let some = (goal.at.loop-access-preserved c).In-Some in
    let longer = length-append c.loop-access.yielded (c.in-Some.access ∷ []) in (
      onward c.args.step.now.accesses _ _ _ (parts some),
      rw longer (compares_more c.args.graph.now.lanes c.args.fifos.now.channels c.args.cycle c.args.step.now.accesses
          (log_at c.args.log.now.logs c.args.owner).outcomes c.args.step.now.first_query (length c.loop-access.yielded)
          c.loop-access.number no_access c.loop-access.invariant.1 c.query_count-number.result
          (within c.args.step.now.accesses _ _ _ (parts some))
          (rw (same some) (rw (← c.outcome-outcome.ensures) (c.if-not-is_alike.ensures.0 refl)))
          (rw (same some) c.query_count-number.ensures.count)),
    )
