use Rattle.std.proofs.Common.{◌≡◌, ◌∙◌, sym, ap, List, [], ◌∷◌, ◌++◌, length, get_or, length-append}
use Rattle.engine_view.specs.{Access}
use Rattle.flow_word.specs.declared.access.Kind.TheVariants.{Read}
use Rattle.time_engine.proofs.Yielded.{within, here, onward}
use Rattle.engine_view.proofs.{Writing.writes_not, Writing.writes_one, outcomes.write_outcomes.Goals.In-Some}
use Rattle.engine_view.proofs.outcomes.write_outcomes.Goals as goal

abbrev no_access : Access
no_access = record { kind = Read; channel = 0; ordinal = 0; value = 0 }

-- the accesses that came, this one, and those that are left
parts : (c : In-Some) → c.args.accesses.now ≡ c.loop-access.yielded ++ c.in-Some.access ∷ c.next.new.self
parts c = c.loop-access.invariant.0 ∙ ap (λ (xs : List Access). c.loop-access.yielded ++ xs) c.in-Some.ensures.steps

-- this access, by its place
same : (c : In-Some) → get_or c.args.accesses.now (length c.loop-access.yielded) no_access ≡ c.in-Some.access
same c = here c.args.accesses.now _ _ _ (parts c) no_access

pub loop-access-preserved-then-not-is_blocking : goal.loop-access-preserved-then-not-is_blocking
loop-access-preserved-then-not-is_blocking c =
    let some = (goal.at.loop-access-preserved-then-not-is_blocking c).In-Some in
    let longer = length-append c.loop-access.yielded (c.in-Some.access ∷ []) in (
      onward c.args.accesses.now _ _ _ (parts some),
      rw longer (writes_one c.args.graph.now.lanes c.args.fifos.now.channels c.args.cycle c.args.owner c.args.accesses.now
          c.args.log.now c.loop-access.log (length c.loop-access.yielded) no_access c.loop-access.invariant.1
          (within c.args.accesses.now _ _ _ (parts some)) c.add.new.self c.outcome_in-outcome.result
          (rw (same some) (sym c.is_blocking.ensures ∙ c.if-not-is_blocking.true)) (rw (same some) c.outcome_in-outcome.ensures)
          c.add.ensures.logs c.add.ensures.rooms.own c.add.ensures.rooms.others),
    )

pub loop-access-preserved : goal.loop-access-preserved
loop-access-preserved c =
    let some = (goal.at.loop-access-preserved c).In-Some in
    let longer = length-append c.loop-access.yielded (c.in-Some.access ∷ []) in (
      onward c.args.accesses.now _ _ _ (parts some),
      rw longer (writes_not c.args.graph.now.lanes c.args.fifos.now.channels c.args.cycle c.args.owner c.args.accesses.now
          c.args.log.now c.loop-access.log (length c.loop-access.yielded) no_access c.loop-access.invariant.1
          (within c.args.accesses.now _ _ _ (parts some))
          (rw (same some) (sym c.is_blocking.ensures ∙ c.if-not-is_blocking.false))),
    )
