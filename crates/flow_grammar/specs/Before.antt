-- What the statements before a line declare, as functions of these statements, the latest first.
use Rattle.std.specs.Prelude.{ℕ, Bool, true, false, List, [], ◌∷◌, ◌==◌, length, count_by, sum_by, take_while, unwrap_or, Option, None}
use Rattle.std.specs.Prelude.{Some}
use Rattle.std.specs.List.{filter_map, list_any}
use Rattle.flow_design.specs.{Statement, Name}
use Rattle.flow_design.specs.declared.session.Statement.TheVariants.{Flow, Source, Sink, Fifo, Module, Reg, Mem, Block, Loop, Temp, At}
use Rattle.flow_design.specs.declared.session.Statement.TheVariants.{Input, Depth}
use Rattle.flow_grammar.specs.Tokens.{is_word}

-- ---- the version of the language

abbrev pub flow_number : Statement → Option ℕ
flow_number (Flow v) = Some v
flow_number s = None

-- the version that these statements declare: 1 where there is no `flow`
abbrev pub version : List Statement → ℕ
version [] = 1
version (s ∷ earlier) = unwrap_or (flow_number s) (version earlier)

-- FIFOs have delays in this version
abbrev pub has_delays : ℕ → Bool
has_delays v = v == 2

-- ---- what is declared, and how much

abbrev pub is_no_module : Statement → Bool
is_no_module (Module n) = false
is_no_module s = true

abbrev pub is_no_block : Statement → Bool
is_no_block (Block n l) = false
is_no_block (Loop n ii l r) = false
is_no_block s = true

-- the statements of the module in which a line would stand; and then, those of its body
abbrev pub statements_in_module : List Statement → List Statement
statements_in_module earlier = take_while is_no_module earlier

abbrev pub in_body : List Statement → List Statement
in_body earlier = take_while is_no_block earlier

abbrev pub source_name : Statement → Option Name
source_name (Source n w) = Some n
source_name s = None

abbrev pub declared_fifo : Statement → Option Name
declared_fifo (Fifo n w depth delay) = Some n
declared_fifo s = None

abbrev pub declared_channel : Statement → Option Name
declared_channel (Source n w) = Some n
declared_channel (Sink n w) = Some n
declared_channel (Fifo n w depth delay) = Some n
declared_channel s = None

abbrev pub declared_module : Statement → Option Name
declared_module (Module n) = Some n
declared_module s = None

abbrev pub register_name : Statement → Option Name
register_name (Reg n w) = Some n
register_name s = None

abbrev pub memory_name : Statement → Option Name
memory_name (Mem n w l) = Some n
memory_name s = None

abbrev pub temp_name : Statement → Option Name
temp_name (Temp n w) = Some n
temp_name s = None

abbrev pub block_name : Statement → Option Name
block_name (Block n l) = Some n
block_name (Loop n ii l r) = Some n
block_name s = None

abbrev pub input_name : Statement → Option Name
input_name (Input n values) = Some n
input_name s = None

abbrev pub input_count : Statement → ℕ
input_count (Input n values) = length values
input_count s = 0

abbrev pub word_count : Statement → ℕ
word_count (Mem n w l) = l
word_count s = 0

abbrev pub is_operation : Statement → Bool
is_operation (At off guard o) = true
is_operation s = false

abbrev pub is_edit : Statement → Bool
is_edit (Depth n d) = true
is_edit s = false

abbrev pub channels : List Statement → List Name
channels earlier = filter_map declared_channel earlier

abbrev pub sources : List Statement → List Name
sources earlier = filter_map source_name earlier

abbrev pub declared_fifos : List Statement → List Name
declared_fifos earlier = filter_map declared_fifo earlier

abbrev pub modules : List Statement → List Name
modules earlier = filter_map declared_module earlier

abbrev pub registers : List Statement → List Name
registers earlier = filter_map register_name (statements_in_module earlier)

abbrev pub memories : List Statement → List Name
memories earlier = filter_map memory_name (statements_in_module earlier)

-- how many words all memories of the session have
abbrev pub memory_words : List Statement → ℕ
memory_words earlier = sum_by word_count earlier

abbrev pub blocks : List Statement → List Name
blocks earlier = filter_map block_name (statements_in_module earlier)

abbrev pub temps : List Statement → List Name
temps earlier = filter_map temp_name (in_body earlier)

abbrev pub operations : List Statement → ℕ
operations earlier = count_by is_operation (in_body earlier)

abbrev pub inputs : List Statement → List Name
inputs earlier = filter_map input_name earlier

abbrev pub input_values : List Statement → ℕ
input_values earlier = sum_by input_count earlier

abbrev pub edits : List Statement → ℕ
edits earlier = count_by is_edit earlier

-- the name is one of these
abbrev pub is_among : List Name → Name → Bool
is_among names n = list_any (λ m. is_word n m) names
