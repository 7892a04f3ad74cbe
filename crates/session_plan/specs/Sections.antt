-- The statements of a session, by sections: a module begins with its `module`, and a block with its `block` or `loop`.
use Rattle.std.specs.Prelude.{ℕ, Bool, true, false, not, List, [], ◌∷◌, take_while, Option, None, Some, if◌then◌else◌}
use Rattle.flow_design.specs.{Statement, Name}
use Rattle.flow_design.specs.declared.session.Statement.TheVariants.{Source, Sink, Fifo, Module, Reg, Mem, Block, Loop, Temp}
use Rattle.session_plan.specs.{declared.section.Level.Level, declared.section.Sort.Sort}
use Rattle.session_plan.specs.declared.section.Level.TheVariants as level
use Rattle.session_plan.specs.declared.section.Sort.TheVariants as sort

-- the statement begins a section of this level: a module, or a block
abbrev pub begins : Level → Statement → Bool
begins level.Modules (Module n) = true
begins level.Blocks (Block n len) = true
begins level.Blocks (Loop n ii len again) = true
begins l s = false

-- the statements up to the next section of this level
abbrev pub body_of : Level → List Statement → List Statement
body_of level rest = take_while (λ s. not (begins level s)) rest

-- each section of this level: the statement that begins it, and those after it up to the next section
abbrev pub sections : Level → List Statement → List (Statement × List Statement)
sections level [] = []
sections level (s ∷ rest) = if begins level s then (s, body_of level rest) ∷ sections level rest else sections level rest

-- the name that a statement declares for something of this sort, if it declares one
abbrev pub declared : Sort → Statement → Option Name
declared sort.Channels (Source n w) = Some n
declared sort.Channels (Sink n w) = Some n
declared sort.Channels (Fifo n w depth delay) = Some n
declared sort.Registers (Reg n w) = Some n
declared sort.Memories (Mem n w len) = Some n
declared sort.Blocks (Block n len) = Some n
declared sort.Blocks (Loop n ii len again) = Some n
declared sort.Temps (Temp n w) = Some n
declared k s = None

-- the width of the register, or temp, that a statement declares, if it declares one
abbrev pub declared_width : Sort → Statement → Option ℕ
declared_width sort.Registers (Reg n w) = Some w
declared_width sort.Temps (Temp n w) = Some w
declared_width k s = None
