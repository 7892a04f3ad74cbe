use Rattle.engine_report.specs.{Access}
use Rattle.flow_word.specs.declared.access.Kind.TheVariants.{Read}
use Rattle.std.proofs.Common.{◌≡◌, ◌∙◌, ap, List, [], ◌∷◌, ◌++◌, length, length-append, rules}
use Rattle.time_engine.proofs.Yielded.{within, here, onward}
use Rattle.engine_report.proofs.{Waiting.waited_more, spans.wait.Goals.In-Some}
use Rattle.engine_report.proofs.spans.wait.Goals as goal

abbrev no_access : Access
no_access = record { kind = Read; channel = 0; ordinal = 0; value = 0 }

-- the accesses that came, this one, and those that are left
parts : (c : In-Some) → c.args.accesses.now ≡ c.loop-access.yielded ++ c.in-Some.access ∷ c.next.new.self
parts c = c.loop-access.invariant.0 ∙ ap (λ (xs : List Access). c.loop-access.yielded ++ xs) c.in-Some.ensures.steps

pub loop-access-preserved : goal.loop-access-preserved
loop-access-preserved c =
    let is = parts (goal.at.loop-access-preserved c).In-Some in
    let longer = length-append c.loop-access.yielded (c.in-Some.access ∷ []) in (
      onward c.args.accesses.now _ _ _ is,
      rw longer (waited_more c.args.engine.now.graph.lanes c.args.engine.now.fifos.channels c.args.accesses.now c.args.until
          (length c.loop-access.yielded) c.args.spans.now c.loop-access.spans c.wait_for.new.spans no_access
          (within c.args.accesses.now _ _ _ is) c.loop-access.invariant.1
          (rw (here c.args.accesses.now _ _ _ is no_access) (search rules))),
    )
