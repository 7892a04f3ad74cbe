use Rattle.std.proofs.Common.{◌≢◌, ◌∙◌, ◌<◌, List, ℕ, ap, arith, get_or, length}
use Rattle.engine_report.proofs.Giving.{walk_passed, same_steps}
use Rattle.engine_report.proofs.walk.StepWalk.find.Goals as goal

pub loop-owner-preserved : goal.loop-owner-preserved
loop-owner-preserved c =
    let lanes = c.args.graph.now.lanes in
    let old = c.loop-owner.self in
    let new = c.pass.new.self in
    let w = c.loop-owner.invariant.walk in
    let o = c.loop-owner.owner in
    let inside : o < length lanes = let n = c.modules-owner-end.ensures.count in let l = c.loop-owner-test.true in omega arith in
    let idle : get_or old.next o 0 ≢ old.clock =
    λ e. c.if-as_slice-owner.false (ap (λ (xs : List ℕ). get_or xs o 0) c.as_slice.ensures ∙ e) in
    record {
      walk = walk_passed lanes old new w o inside c.loop-owner.invariant.turn idle c.pass.ensures.given c.pass.ensures.next
          c.pass.ensures.clock c.pass.ensures.later c.pass.ensures.turn;
      turn = c.pass.ensures.turn;
      clock = c.pass.ensures.clock ∙ c.loop-owner.invariant.clock;
      given = c.pass.ensures.given ∙ c.loop-owner.invariant.given;
      steps = λ steps h. same_steps lanes old new w o inside c.loop-owner.invariant.turn idle c.pass.ensures.given c.pass.ensures.next
          c.pass.ensures.clock c.pass.ensures.later c.pass.ensures.turn steps (c.loop-owner.invariant.steps steps h);
    }
