use Rattle.std.proofs.Common.{◌∙◌, ℕ, List, [], Bool, ap, length}
use Rattle.std.specs.Prelude.{replicate}
use Rattle.clock_machine.specs.{no_memo}
use Rattle.clock_machine.proofs.Coming.{first_come}
use Rattle.clock_machine.proofs.run.open_run.Goals as goal

pub returns : goal.returns
returns c codes keep =
    first_come c.args.plan.now keep _ c.in_ok-open_all.ensures.state c.in_ok-open_all.ensures.fit
    (c.in_ok-memos_for.ensures ∙ ap (λ (n : ℕ). replicate n no_memo) (ap length c.modules.ensures))
    (c.in_ok-no_answers.ensures ∙ ap (λ (n : ℕ). replicate {A = List Bool} n []) (ap length c.modules.ensures))
    c.new.ensures.traffic c.new.ensures.events
