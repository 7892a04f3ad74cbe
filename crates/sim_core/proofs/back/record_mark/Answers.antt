use Rattle.std.proofs.Common.{ap}
use Rattle.engine_view.proofs.Roomy.{used_taken}
use Rattle.sim_core.specs.{next_mark, taken_at}
use Rattle.sim_core.proofs.Returning as returning
use Rattle.sim_core.proofs.back.record_mark.Goals as goal

pub emit_step-requires-clause-step : goal.emit_step-requires-clause-step
emit_step-requires-clause-step c =
    let (p, (runs, n)) = c.requires.next in returning.step_fits n c.requires.owner (ap next_mark c.in-Few.is)

pub record_whole-requires-clause-next : goal.record_whole-requires-clause-next
record_whole-requires-clause-next c =
    let (p, (runs, n)) = c.requires.next in (p, (runs, rw (ap next_mark c.in-Whole.is) at n))

pub returns-in-Few-clause-emits : goal.returns-in-Few-clause-emits
returns-in-Few-clause-emits c p runs n = record {
  core = returning.core_emitted n c.requires.owner (ap next_mark c.in-Few.is) c.emit_step.ensures.emitted;
  acts = returning.acts_emitted n c.requires.owner (ap next_mark c.in-Few.is) c.emit_step.ensures.emitted;
}

pub returns-in-Few-clause-ports : goal.returns-in-Few-clause-ports
returns-in-Few-clause-ports c = λ side k.
    rw (ap (λ m. taken_at side k (next_mark m)) c.in-Few.is) (used_taken c.emit_step.ensures.emitted.room side k)

pub returns-in-Whole-clause-emits : goal.returns-in-Whole-clause-emits
returns-in-Whole-clause-emits c p runs n = c.record_whole.ensures.emits p runs (rw (ap next_mark c.in-Whole.is) at n)

pub returns-in-Whole-clause-ports : goal.returns-in-Whole-clause-ports
returns-in-Whole-clause-ports c = λ side k.
    rw (ap (λ m. taken_at side k (next_mark m)) c.in-Whole.is) (c.record_whole.ensures.ports side k)
