use Rattle.std.proofs.Common.{◌≡◌, sym, ◌∙◌, subst, List, length}
use Rattle.module_code.specs.{ModuleState, Reply, move, IsStateOf, counted}
use Rattle.lockstep_defs.proofs.States.{move_state}
use Rattle.module_code.proofs.{Moving.moved_is, moves.make_move.Goals.In_ok-go_on}
use Rattle.module_code.proofs.moves.make_move.Goals as goal

moved : (c : In_ok-go_on) → c.go_on.new.state ≡ move c.args.of.now c.args.state.now c.args.replies.now
moved c =
    let committed : c.commit.new.state ≡ counted c.args.of.now c.args.state.now c.args.replies.now =
    subst (λ (rs : List Reply). c.commit.new.state ≡ counted c.args.of.now c.args.state.now rs) c.new.ensures
    (c.commit.ensures.committed c.requires.can.0 c.args.of.now c.requires.can.1) in
    c.in_ok-go_on.ensures.gone
    ∙ moved_is c.args.of.now c.args.state.now c.commit.new.state c.tick_to.new.state c.args.replies.now committed
    c.tick_to.ensures.ticked

pub returns-clause-moved : goal.returns-clause-moved
returns-clause-moved c = moved c

pub returns-clause-runnable : goal.returns-clause-runnable
returns-clause-runnable c = λ alive. record {
  state = subst (λ (s : ModuleState). IsStateOf c.args.of.now s) (sym (moved c))
      (move_state (length c.requires.can.0) c.args.of.now c.requires.can.1.of c.args.state.now c.args.replies.now
      c.requires.can.1.state.state
      c.requires.can.1.state.running);
  running = alive;
}
