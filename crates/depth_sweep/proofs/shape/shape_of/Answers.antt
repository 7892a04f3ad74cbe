use Rattle.std.proofs.Common.{◌∙◌, sym, ap, subst, ℕ, ◌≤◌, length, Option, SomeIff}
use Rattle.depth_sweep.specs.{grid, GridShape, declared.shape.TheConstants.MOST_POINTS}
use Rattle.depth_sweep.proofs.Grids.{power_long}
use Rattle.depth_sweep.proofs.shape.shape_of.Goals as goal

pub returns-in_err-lists : goal.returns-in_err-lists
returns-in_err-lists c =
    let lo = c.args.lo in
    let hi = c.args.hi in
    let n = c.args.fifos in
    let lists = length (grid lo hi n) in
    subst (λ (o : Option GridShape). SomeIff o (lists ≤ MOST_POINTS) (record { lo = lo; hi = hi; fifos = n; lists = lists }))
    (sym c.from_residual.ensures)
    (λ few. c.in_err-lists.ensures (subst (λ (k : ℕ). k ≤ MOST_POINTS) (power_long lo hi c.requires.ordered n) few))

pub returns : goal.returns
returns c =
    let lo = c.args.lo in
    let hi = c.args.hi in
    let n = c.args.fifos in
    let long = power_long lo hi c.requires.ordered n in (
      subst (λ (k : ℕ). k ≤ MOST_POINTS) (sym long) c.in_ok-lists.ensures.0,
      ap (λ (k : ℕ). record { lo = lo; hi = hi; fifos = n; lists = k }) (c.in_ok-lists.ensures.1 ∙ sym long),
    )
