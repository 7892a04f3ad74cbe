use Rattle.std.proofs.Common.{◌∙◌, sym, subst, take, ◌+◌}
use Rattle.path_text.specs.{AreMoved}
use Rattle.path_text.proofs.MovedClocks.{moved_none, moved_no, moved_yes}
use Rattle.path_text.proofs.moved.moved_clocks.Goals.{then-is_moved+in_ok-push_clock, else-is_moved}
use Rattle.path_text.proofs.moved.moved_clocks.Goals as goal

pub loop-access-init : goal.loop-access-init
loop-access-init c = moved_none c.args.side c.args.channels c.in_ok-clocks.clocks c.in_ok-clocks.ensures

pub loop-access-preserved : goal.loop-access-preserved
loop-access-preserved c =
    let log = c.args.log.now in
    let k = c.loop-access.access-index in
    let l = c.loop-access-test.true in
    let more = AreMoved c.args.side c.args.channels (take (k + 1) log) in
    elim c.if-is_moved.branch [
      | then-is_moved+in_ok-push_clock w ↦
          subst more (sym w.clocks-is)
          (moved_yes c.args.side c.args.channels log k _ l c.loop-access.clocks w.push_clock.new.clocks (c.requires k _ l)
          (sym c.is_moved.ensures ∙ w.if-is_moved.true) c.loop-access.invariant w.in_ok-push_clock.ensures)
      | else-is_moved w ↦
          subst more (sym w.clocks-is)
          (moved_no c.args.side c.args.channels log k _ l c.loop-access.clocks (sym c.is_moved.ensures ∙ w.if-is_moved.false)
          c.loop-access.invariant)
    ]
