-- The generated session: modules in a row, each of which adds a number to 1,000 values.
use Rattle.std.specs.Prelude.{◌+◌, ◌-◌, ◌*◌, ◌%◌, ◌==◌, ◌++◌, ◌∷◌, ℕ, zero, suc, List, [], None, codes, decimal, if◌then◌else◌}
use Rattle.std.specs.List.{range_with_len}
use Rattle.flow_design.specs.declared.expr.Expr.TheVariants.{Number, Var, Binary}
use Rattle.flow_design.specs.{declared.expr.BinOp.TheVariants.Add, declared.expr.BinOp.TheVariants.LtU, Statement, Name}
use Rattle.flow_design.specs.declared.expr.Op.TheVariants.{Set, Read, Write, Full}
use Rattle.flow_design.specs.declared.session.Statement.TheVariants.{Flow, Source, Sink, Fifo, Module, Reg, Loop, At, Stop, Input, End}
use Rattle.flow_gen.specs.declared.draws.Drawn.{Drawn}
use Rattle.flow_print.specs.{canonical_text}

-- ---- draws

-- the state after a draw from this one; it is the number that is drawn
abbrev pub next : ℕ → ℕ
next state = (75 * state + 74) % 65_537

-- the state after n draws; the seed is the first state
unfoldable pub state_after : ℕ → ℕ → ℕ
state_after seed zero = seed
state_after seed (suc n) = next (state_after seed n)

-- the numbers for one module that three draws from this state give
abbrev pub drawn_from : ℕ → Drawn
drawn_from state = record {
  interval = 1 + next state % 3;
  addend = next (next state) % 256;
  depth = 1 + next (next (next state)) % 4;
}

-- the numbers for module k: each module has three draws, in order
abbrev pub drawn : ℕ → ℕ → Drawn
drawn seed k = drawn_from (state_after seed (3 * k))

-- ---- names

abbrev pub fifo_name : ℕ → Name
fifo_name k = codes "f" ++ decimal k

abbrev pub generated_name : ℕ → Name
generated_name k = codes "m" ++ decimal k

-- the channel that module k pops: the first module pops the source, and each other one the FIFO before it
abbrev pub input_channel : ℕ → Name
input_channel k = if k == 0 then codes "a" else fifo_name k

-- the channel that module k pushes: the last module pushes the sink, and each other one the FIFO after it
abbrev pub output_of : ℕ → ℕ → Name
output_of modules k = if k + 1 == modules then codes "y" else fifo_name (k + 1)

-- ---- statements

-- the FIFO after module k
abbrev pub fifo_after : ℕ → Drawn → List Statement
fifo_after k drawn = Fifo (fifo_name (k + 1)) 32 drawn.depth 1 ∷ []

-- a module's registers, and its loop: LEN is one clock more than II
unfoldable pub head_of : Name → ℕ → List Statement
head_of name interval =
    Module name ∷ Reg (codes "x") 32 ∷ Reg (codes "n") 32 ∷ Reg (codes "g") 1 ∷ Reg (codes "e") 1
    ∷ Loop (codes "l") interval (interval + 1) (codes "g") ∷ []

-- a module's operations in the first clock of an iteration; another iteration follows where n is below 999
unfoldable pub first_clock : Name → Name → List Statement
first_clock input output =
    At 0 None (Read input (codes "x"))
    ∷ At 0 None (Full output (codes "e"))
    ∷ At 0 None (Set (codes "n") (Binary Add (Var (codes "n")) (Number 1)))
    ∷ At 0 None (Set (codes "g") (Binary LtU (Var (codes "n")) (Number 999)))
    ∷ []

-- a module's operation in the second clock of an iteration, and the end of the loop
unfoldable pub second_clock : Name → ℕ → List Statement
second_clock output addend =
    At 1 None (Write output (Binary Add (Var (codes "x")) (Binary Add (Number addend) (Var (codes "e"))))) ∷ Stop ∷ []

-- the statements of module k of a session with this many modules
abbrev pub module_statements : ℕ → ℕ → Drawn → List Statement
module_statements modules k drawn =
    head_of (generated_name k) drawn.interval
    ++ (first_clock (input_channel k) (output_of modules k) ++ second_clock (output_of modules k) drawn.addend)

-- the statements for each of the first n modules, with their draws
unfoldable pub each : (ℕ → Drawn → List Statement) → (ℕ → Drawn) → ℕ → List Statement
each statements draws zero = []
each statements draws (suc n) = each statements draws n ++ statements n (draws n)

-- the values of the source: the numbers from 0 to 999
unfoldable pub generated_values : List ℕ
generated_values = range_with_len 0 1000

-- the session whose modules have these draws: there is a FIFO after each module but the last
abbrev pub generated_session : (ℕ → Drawn) → ℕ → List Statement
generated_session draws modules =
    (Flow 1 ∷ Source (codes "a") 32 ∷ Sink (codes "y") 32 ∷ [])
    ++ (each fifo_after draws (modules - 1)
    ++ (each (module_statements modules) draws modules ++ Input (codes "a") generated_values ∷ End ∷ []))

-- the session with this many modules that a seed gives; and then, its text
unfoldable pub session : ℕ → ℕ → List Statement
session seed modules = generated_session (drawn seed) modules

abbrev pub session_text : ℕ → ℕ → List ℕ
session_text seed modules = canonical_text (session seed modules)
