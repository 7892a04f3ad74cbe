-- The text of the sizes.
use Rattle.std.specs.Prelude.{ℕ, List, [], ◌∷◌, codes}
use Rattle.flow_design.specs.{Plan}
use Rattle.report_text.specs.{text_of_lines, verdict_tokens}
use Rattle.depth_advice.specs.{depth_lines}
use Rattle.least_depths.specs.Least.{sizes}

-- the text of the sizes: `size`, the verdict, and `depth NAME D` for each FIFO in order of declaration
unfoldable pub size_text : ℕ → Plan → List ℕ
size_text slack p =
    text_of_lines
    ((codes "size" ∷ []) ∷ verdict_tokens (sizes slack p).verdict ∷ depth_lines p.design.channels (sizes slack p).depths)
