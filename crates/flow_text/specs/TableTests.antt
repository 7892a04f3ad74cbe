-- The tests of a statement, by the tables of what is declared before it.
use Rattle.std.specs.Prelude.{ℕ, ◌+◌, Bool, true, List, ◌++◌, ◌&&◌, not, nat_le, nat_lt, length, if◌then◌else◌, Option, None, Some, Result}
use Rattle.std.specs.Prelude.{Err}
use Rattle.std.specs.List.{list_all}
use Rattle.flow_design.specs.{declared.limits.TheConstants.ALL_MEMORY_WORDS, declared.limits.TheConstants.EDITS, Statement}
use Rattle.flow_design.specs.declared.session.Statement.TheVariants.{Source, Sink, Fifo, Module, Reg, Mem, Block, Loop, Temp, At, Input}
use Rattle.flow_design.specs.declared.session.Statement.TheVariants.{Depth}
use Rattle.flow_grammar.specs.{Code, may_stand, is_among, is_in_range, is_within, has_small_trees, first_broken, judged, Part, Space, Sort}
use Rattle.flow_grammar.specs.{parts, declared.fault.Code.TheVariants.Syntax}
use Rattle.flow_grammar.specs.Parts.{New, Use, ChannelName, ModuleName, RegisterName, MemoryName, TempName, BlockName, AnyChannel, ASource}
use Rattle.flow_grammar.specs.Parts.{AFifo, ARegister, AMemory, AVariable}
use Rattle.flow_text.specs.declared.tables.Tables.{Tables}

abbrev Name : Type 0
Name = List ℕ

-- the names that are declared in a space
abbrev pub names_in_space : Tables → Space → List Name
names_in_space t ChannelName = t.channels
names_in_space t ModuleName = t.modules
names_in_space t RegisterName = t.registers ++ t.memories
names_in_space t MemoryName = t.registers ++ t.memories
names_in_space t TempName = t.registers ++ (t.memories ++ t.temps)
names_in_space t BlockName = t.blocks

abbrev pub is_new_in : Tables → Part → Bool
is_new_in t (New space name) = not (is_among (names_in_space t space) name)
is_new_in t part = true

abbrev pub is_first_input_in : Tables → Statement → Bool
is_first_input_in t (Input n values) = not (is_among t.inputs n)
is_first_input_in t s = true

-- the names of a sort that are declared
abbrev pub names_of_sort : Tables → Sort → List Name
names_of_sort t AnyChannel = t.channels
names_of_sort t ASource = t.sources
names_of_sort t AFifo = t.fifos
names_of_sort t ARegister = t.registers
names_of_sort t AMemory = t.memories
names_of_sort t AVariable = t.registers ++ t.temps

abbrev pub is_known_in : Tables → Part → Bool
is_known_in t (Use sort name) = is_among (names_of_sort t sort) name
is_known_in t part = true

-- the limits allow one more statement like this
abbrev pub tables_have_room : Tables → Statement → Bool
tables_have_room t (Source n w) = nat_lt (length t.channels) t.limits.channels
tables_have_room t (Sink n w) = nat_lt (length t.channels) t.limits.channels
tables_have_room t (Fifo n w depth delay) = nat_lt (length t.channels) t.limits.channels
tables_have_room t (Module n) = nat_lt (length t.modules) t.limits.modules
tables_have_room t (Reg n w) = nat_lt (length t.registers) t.limits.registers
tables_have_room t (Mem n w l) = nat_lt (length t.memories) t.limits.memories && nat_le (t.memory_words + l) ALL_MEMORY_WORDS
tables_have_room t (Block n l) = nat_lt (length t.blocks) t.limits.blocks
tables_have_room t (Loop n ii l r) = nat_lt (length t.blocks) t.limits.blocks
tables_have_room t (Temp n w) = nat_lt (length t.temps) t.limits.temps
tables_have_room t (At off guard o) = nat_lt t.operations t.limits.operations && has_small_trees o
tables_have_room t (Input n values) = nat_le (t.input_values + length values) t.limits.input_values
tables_have_room t (Depth n d) = nat_lt t.edits EDITS
tables_have_room t s = true

-- the first rule that a statement breaks, if it breaks one
unfoldable pub fault_by : Tables → Statement → Option Code
fault_by t s =
    first_broken (list_all is_in_range (parts s) && is_within t.limits s) (list_all (is_new_in t) (parts s) && is_first_input_in t s)
    (list_all (is_known_in t) (parts s)) (tables_have_room t s)

-- the first test that tokens fail which write this statement; `Syntax` where they write none
abbrev pub form_fault_by : Tables → Option Statement → Option Code
form_fault_by t None = Some Syntax
form_fault_by t (Some s) = if may_stand s t.place then fault_by t s else Some Syntax

-- what tokens give that write this statement: the first test that they fail, or the statement
abbrev pub reading_by : Tables → Option Statement → Result Statement Code
reading_by t None = Err Syntax
reading_by t (Some s) = judged (form_fault_by t (Some s)) s
