use Rattle.cycle_changes.proofs.check.is_right_around.Goals as goal

pub returns : goal.returns
returns c = λ e.
    record {
      below = c.is_below.ensures c.if-not-is_below.false;
      own = c.look.ensures.0 c.if-not-look.false;
      following = c.is_next_right.ensures c.if-not-is_next_right.false;
      waiting = c.are_waiting_right.ensures e;
    }
