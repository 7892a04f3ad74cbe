-- The parts of a statement, one for each token that writes it: the table of the language's forms.
use Rattle.std.specs.Prelude.{ℕ, ◌-◌, ◌^◌, List, [], ◌∷◌, ◌++◌, map, codes, Option, None, Some}
use Rattle.flow_design.specs.declared.limits.TheConstants.{MEMORY_WORDS, BLOCK_CLOCKS, FIFO_DEPTH, FIFO_DELAY}
use Rattle.flow_design.specs.{Statement, Op, Name, Expr, declared.expr.Expr.TheOpen.Expr-F, declared.expr.Expr.fold-Expr}
use Rattle.flow_design.specs.declared.expr.UnOp.TheVariants.{Not}
use Rattle.flow_design.specs.declared.session.Statement.TheVariants.{Flow, Source, Sink, Fifo, Module, Reg, Mem, Block, Loop, Temp, At}
use Rattle.flow_design.specs.declared.session.Statement.TheVariants.{Goto, Branch, Stop, Input, Limits, Depth, End}
use Rattle.flow_grammar.specs.{declared.version.TheConstants.NEWEST, Keywords.keyword_word, Keywords.verb_word, Operators.operator_word}
use Rattle.flow_grammar.specs.declared.operator.Operator.TheVariants.{One, Two, Extend, Choose}
use Rattle.flow_design.specs.declared.expr.Op.TheVariants as op
use Rattle.flow_grammar.specs.declared.keyword.Keyword.TheVariants as keyword
use Rattle.flow_grammar.specs.declared.keyword.Verb.TheVariants as verb

-- the spaces of names: in each a name is declared at most once
pub data Space : Type 0 where
  ChannelName ModuleName RegisterName MemoryName TempName BlockName : Space

-- the sorts of declared names that a statement may use
pub data Sort : Type 0 where
  AnyChannel ASource AFifo ARegister AMemory AVariable : Sort

-- the part of a statement that one token writes
pub data Part : Type 0 where
  -- a fixed word
  Word : List ℕ → Part
  -- a new name in this space
  New : Space → Name → Part
  -- a name of this sort that is declared before
  Use : Sort → Name → Part
  -- the name of a block, which may be declared later
  Label : Name → Part
  -- a number, which must be from the first number to the second
  Num : ℕ → ℕ → ℕ → Part

-- ---- numbers by their ranges

abbrev width : ℕ → Part
width n = Num 1 64 n

abbrev capacity : ℕ → Part
capacity n = Num 1 FIFO_DEPTH n

-- the delay of a FIFO, in clocks
abbrev latency : ℕ → Part
latency n = Num 1 FIFO_DELAY n

abbrev words : ℕ → Part
words n = Num 1 MEMORY_WORDS n

abbrev clocks : ℕ → Part
clocks n = Num 1 BLOCK_CLOCKS n

abbrev pub plain : ℕ → Part
plain n = Num 0 (2 ^ 64 - 1) n

-- ---- expressions, in prefix form

-- the parts of a layer of an expression, whose operands have these parts
abbrev pub layer_parts : Expr-F Name (List Part) → List Part
layer_parts (Expr-F.Number n) = plain n ∷ []
layer_parts (Expr-F.Var name) = Use AVariable name ∷ []
layer_parts (Expr-F.Unary Not a) = Word (operator_word (One Not)) ∷ a
layer_parts (Expr-F.Binary o a b) = Word (operator_word (Two o)) ∷ a ++ b
layer_parts (Expr-F.Sext k a) = Word (operator_word Extend) ∷ width k ∷ a
layer_parts (Expr-F.Pick a b c) = Word (operator_word Choose) ∷ a ++ (b ++ c)

unfoldable pub expr_parts : Expr Name → List Part
expr_parts = fold-Expr Name (List Part) layer_parts

-- ---- operations

abbrev pub op_parts : Op Name → List Part
op_parts (op.Set r e) = Word (verb_word verb.Set) ∷ Use AVariable r ∷ expr_parts e
op_parts (op.Load r m e) = Word (verb_word verb.Load) ∷ Use AVariable r ∷ Use AMemory m ∷ expr_parts e
op_parts (op.Store m e f) = Word (verb_word verb.Store) ∷ Use AMemory m ∷ expr_parts e ++ expr_parts f
op_parts (op.Read f r) = Word (verb_word verb.Read) ∷ Use AnyChannel f ∷ Use AVariable r ∷ []
op_parts (op.Write f e) = Word (verb_word verb.Write) ∷ Use AnyChannel f ∷ expr_parts e
op_parts (op.TryRead f r ok) = Word (verb_word verb.TryRead) ∷ Use AnyChannel f ∷ Use AVariable r ∷ Use AVariable ok ∷ []
op_parts (op.TryWrite f ok e) = Word (verb_word verb.TryWrite) ∷ Use AnyChannel f ∷ Use AVariable ok ∷ expr_parts e
op_parts (op.Empty f r) = Word (verb_word verb.Empty) ∷ Use AnyChannel f ∷ Use AVariable r ∷ []
op_parts (op.Full f r) = Word (verb_word verb.Full) ∷ Use AnyChannel f ∷ Use AVariable r ∷ []

abbrev pub guard_parts : Option Name → List Part
guard_parts None = []
guard_parts (Some r) = Word (codes "if") ∷ Use AVariable r ∷ []

-- ---- FIFOs

-- the depth, and then the delay, of a FIFO for which it is not written
abbrev pub default_depth : ℕ
default_depth = 2

abbrev pub default_delay : ℕ
default_delay = 1

-- the parts of a FIFO: without depth and delay, with a depth, and with both
abbrev pub bare_parts : Name → ℕ → List Part
bare_parts n w = Word (keyword_word keyword.Fifo) ∷ New ChannelName n ∷ width w ∷ []

abbrev pub depth_parts : Name → ℕ → ℕ → List Part
depth_parts n w depth = Word (keyword_word keyword.Fifo) ∷ New ChannelName n ∷ width w ∷ capacity depth ∷ []

abbrev pub fifo_parts : Name → ℕ → ℕ → ℕ → List Part
fifo_parts n w depth delay = Word (keyword_word keyword.Fifo) ∷ New ChannelName n ∷ width w ∷ capacity depth ∷ latency delay ∷ []

-- ---- statements

abbrev pub parts : Statement → List Part
parts (Flow n) = Word (keyword_word keyword.Flow) ∷ Num 1 NEWEST n ∷ []
parts (Source n w) = Word (keyword_word keyword.Source) ∷ New ChannelName n ∷ width w ∷ []
parts (Sink n w) = Word (keyword_word keyword.Sink) ∷ New ChannelName n ∷ width w ∷ []
parts (Fifo n w depth delay) = fifo_parts n w depth delay
parts (Module n) = Word (keyword_word keyword.Module) ∷ New ModuleName n ∷ []
parts (Reg n w) = Word (keyword_word keyword.Reg) ∷ New RegisterName n ∷ width w ∷ []
parts (Mem n w l) = Word (keyword_word keyword.Mem) ∷ New MemoryName n ∷ width w ∷ words l ∷ []
parts (Block n l) = Word (keyword_word keyword.Block) ∷ New BlockName n ∷ clocks l ∷ []
parts (Loop n ii l r) =
    Word (keyword_word keyword.Loop) ∷ New BlockName n ∷ clocks ii ∷ clocks l ∷ Word (codes "while") ∷ Use ARegister r ∷ []
parts (Temp n w) = Word (keyword_word keyword.Temp) ∷ New TempName n ∷ width w ∷ []
parts (At off guard o) = Word (keyword_word keyword.At) ∷ plain off ∷ guard_parts guard ++ op_parts o
parts (Goto b) = Word (keyword_word keyword.Goto) ∷ Label b ∷ []
parts (Branch r b c) = Word (keyword_word keyword.Branch) ∷ Use ARegister r ∷ Label b ∷ Label c ∷ []
parts Stop = Word (keyword_word keyword.Stop) ∷ []
parts (Input n values) = Word (keyword_word keyword.Input) ∷ Use ASource n ∷ map plain values
parts (Limits c o) = Word (keyword_word keyword.Limits) ∷ plain c ∷ plain o ∷ []
parts (Depth n d) = Word (keyword_word keyword.Depth) ∷ Use AFifo n ∷ capacity d ∷ []
parts End = Word (keyword_word keyword.End) ∷ []
