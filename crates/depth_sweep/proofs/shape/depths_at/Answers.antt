use Rattle.std.proofs.{Common.arith, Common.◌+◌, Common.◌-◌, Common.◌/◌, lemmas.Nat.mod_below}
use Rattle.depth_sweep.proofs.Grids.{next_unit, next_some, one_depth_more, no_fifo_left}
use Rattle.depth_sweep.proofs.shape.depths_at.Goals as goal

pub nonzero_div-rest : goal.nonzero_div-rest
nonzero_div-rest c =
    let s = c.args.shape.now in
    next_some s.lo s.hi c.requires.shape.ordered s.fifos c.loop-fifo._fifo c.loop-fifo.unit c.loop-fifo-test.true c.loop-fifo.invariant.unit

pub nonzero_rem-rest : goal.nonzero_rem-rest
nonzero_rem-rest c =
    let s = c.args.shape.now in
    next_some s.lo s.hi c.requires.shape.ordered s.fifos c.loop-fifo._fifo c.loop-fifo.unit c.loop-fifo-test.true c.loop-fifo.invariant.unit

pub loop-fifo-preserved : goal.loop-fifo-preserved
loop-fifo-preserved c =
    let s = c.args.shape.now in
    let i = c.loop-fifo._fifo in
    let unit = c.loop-fifo.unit in
    let inside = c.loop-fifo-test.true in
    let so_far = c.loop-fifo.invariant in
    record {
      unit = next_unit s.lo s.hi c.requires.shape.ordered s.fifos i unit inside so_far.unit;
      inside = mod_below c.loop-fifo.rest (unit / (s.hi - s.lo + 1))
          (next_some s.lo s.hi c.requires.shape.ordered s.fifos i unit inside so_far.unit);
      left = one_depth_more s.lo s.hi c.requires.shape.ordered s.fifos i c.args.number unit c.loop-fifo.rest c.loop-fifo.depths
          c.push.new.self inside so_far.unit so_far.inside so_far.left c.in_ok-push.ensures.ok;
    }

pub returns : goal.returns
returns c =
    let s = c.args.shape.now in
    let so_far = c.loop-fifo.invariant in
    no_fifo_left s.lo s.hi s.fifos c.loop-fifo._fifo c.loop-fifo.unit c.loop-fifo.rest c.args.number c.loop-fifo.depths
    (omega (arith, c.loop-fifo.auto._fifo-end)) so_far.unit so_far.inside so_far.left
