-- The text of the least memory.
use Rattle.std.specs.Prelude.{ℕ, List, [], ◌∷◌, codes, decimal}
use Rattle.flow_design.specs.{Plan}
use Rattle.report_text.specs.{text_of_lines, verdict_tokens}
use Rattle.depth_advice.specs.{depth_lines}
use Rattle.least_memory.specs.{Choices.memory_bits, Least.leasts}

-- the text of the least memory: `least`, the verdict, `bits N`, and `depth NAME D` for each FIFO in order of declaration
unfoldable pub least_text : ℕ → Plan → List ℕ
least_text slack p =
    text_of_lines
    ((codes "least" ∷ []) ∷ verdict_tokens (leasts slack p).verdict
    ∷ (codes "bits" ∷ decimal (memory_bits p.design.channels (leasts slack p).depths) ∷ [])
    ∷ depth_lines p.design.channels (leasts slack p).depths)
