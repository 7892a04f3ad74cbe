use Rattle.std.proofs.Common.{◌∙◌, sym, ap, subst, arith, length}
use Rattle.depth_sweep.proofs.Grids.{IsList, list_at}
use Rattle.depth_sweep.proofs.parallel.point_numbered.Goals as goal

module _ (c : goal.In_ok-depths) where
  depths_are : IsList c.args.shape.now.lo c.args.shape.now.hi c.args.shape.now.fifos c.in_ok-depths.depths
  depths_are =
      let s = c.args.shape.now in
      subst (IsList s.lo s.hi s.fifos) (sym c.in_ok-depths.ensures)
      (list_at s.lo s.hi c.requires.shape.ordered s.fifos c.args.number (omega (arith, c.requires.shape.lists, c.requires.number)))

pub simulate-requires-clause-count : goal.simulate-requires-clause-count
simulate-requires-clause-count c =
    (depths_are c).count ∙ (c.requires.fifos ∙ sym (ap length c.requires.channels))

pub simulate-requires-clause-limits : goal.simulate-requires-clause-limits
simulate-requires-clause-limits c = λ k d inside.
    let limit = (depths_are c).each k d inside in
    (omega (arith, limit.0, c.requires.shape.least), omega (arith, limit.1, c.requires.shape.most))
