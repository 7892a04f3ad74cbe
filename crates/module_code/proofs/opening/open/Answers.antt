use Rattle.std.proofs.Common.{sym, ◌∙◌, ap, subst}
use Rattle.module_code.specs.{ModuleState, IsStateOf}
use Rattle.lockstep_defs.proofs.States.{opened_state}
use Rattle.module_code.proofs.Begins.{opened_clock, opened_count}
use Rattle.module_code.proofs.opening.open.Goals as goal

pub returns-clause-sound : goal.returns-clause-sound
returns-clause-sound c = subst (λ (s : ModuleState). IsStateOf c.args.of.now s) (sym c.in_ok-state.ensures)
    (opened_state c.requires.0 c.args.of.now c.requires.1)

pub returns-clause-clock : goal.returns-clause-clock
returns-clause-clock c = ap (λ (s : ModuleState). s.control.clock) c.in_ok-state.ensures ∙ opened_clock c.args.of.now

pub returns-clause-count : goal.returns-clause-count
returns-clause-count c = ap (λ (s : ModuleState). s.count) c.in_ok-state.ensures ∙ opened_count c.args.of.now
