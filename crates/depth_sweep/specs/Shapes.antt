-- The shape of a grid.
use Rattle.std.specs.Prelude.{◌≡◌, ◌≤◌, length}
use Rattle.depth_sweep.specs.{declared.shape.GridShape.GridShape, Grid.grid}

-- the depths go from at least 1 to the greatest, and the shape says how many lists the grid has
pub record IsShape (shape : GridShape) : Type 0 where
  pub least : 1 ≤ shape.lo
  pub ordered : shape.lo ≤ shape.hi
  pub most : shape.hi ≤ 64
  pub lists : shape.lists ≡ length (grid shape.lo shape.hi shape.fifos)
