-- The rules of reading for one statement: the first rule that it breaks after the statements before it, which are given the latest
-- first.
use Rattle.std.specs.Prelude.{◌≡◌, ℕ, ◌+◌, Bool, true, List, ◌++◌, ◌&&◌, ◌||◌, ◌==◌, not, nat_le, nat_lt, reverse, take, slice_get, Option}
use Rattle.std.specs.Prelude.{None, Some, length, if◌then◌else◌}
use Rattle.std.specs.List.{list_all}
use Rattle.flow_design.specs.{Expr, Op, Scale, Statement, limits_at, nodes, depth, Name, declared.limits.Limits.Limits}
use Rattle.flow_design.specs.declared.limits.TheConstants.{EXPRESSION_NODES, EXPRESSION_DEPTH, ALL_MEMORY_WORDS, EDITS}
use Rattle.flow_design.specs.declared.session.Statement.TheVariants.{Source, Sink, Fifo, Module, Reg, Mem, Block, Loop, Temp, At, Input}
use Rattle.flow_design.specs.declared.session.Statement.TheVariants.{Depth}
use Rattle.flow_grammar.specs.{declared.fault.Code.Code, Tokens.token_is_name, Places.place_reached, Places.is_end, Places.may_follow}
use Rattle.flow_grammar.specs.declared.fault.Code.TheVariants.{BadNumber, DoubleName, UnknownName, TooMany}
use Rattle.flow_grammar.specs.Parts.{Part, New, Use, Label, Num, Space, ChannelName, ModuleName, RegisterName, MemoryName, TempName}
use Rattle.flow_grammar.specs.Parts.{BlockName, Sort, AnyChannel, ASource, AFifo, ARegister, AMemory, AVariable, default_delay, parts}
use Rattle.flow_grammar.specs.Before.{version, has_delays, channels, sources, declared_fifos, modules, registers, memories, blocks, temps}
use Rattle.flow_grammar.specs.Before.{memory_words, operations, inputs, input_values, edits, is_among}
use Rattle.flow_design.specs.declared.expr.Op.TheVariants as op

-- ---- names and numbers

-- a name in this part has the letters of a name
abbrev pub is_well_named : Part → Bool
is_well_named (New space name) = token_is_name name
is_well_named (Use sort name) = token_is_name name
is_well_named (Label name) = token_is_name name
is_well_named part = true

abbrev pub is_in_range : Part → Bool
is_in_range (Num least most n) = nat_le least n && nat_le n most
is_in_range part = true

-- the sizes of a statement are within these limits
abbrev pub is_within : Limits → Statement → Bool
is_within limits (Fifo n w depth delay) = nat_le depth limits.fifo_depth
is_within limits (Mem n w l) = nat_le l limits.memory_words
is_within limits (Block n l) = nat_le l limits.block_clocks
is_within limits (Loop n ii l r) = nat_le ii limits.block_clocks && nat_le l limits.block_clocks
is_within limits (Depth n d) = nat_le d limits.fifo_depth
is_within limits s = true

-- the sizes of a statement are within the limits of the scale
abbrev pub is_sized : Scale → Statement → Bool
is_sized scale s = is_within (limits_at scale) s

-- the names that are declared in a space; registers, memories and the body's temps share one
abbrev pub taken : List Statement → Space → List Name
taken earlier ChannelName = channels earlier
taken earlier ModuleName = modules earlier
taken earlier RegisterName = registers earlier ++ memories earlier
taken earlier MemoryName = registers earlier ++ memories earlier
taken earlier TempName = registers earlier ++ (memories earlier ++ temps earlier)
taken earlier BlockName = blocks earlier

abbrev pub is_new : List Statement → Part → Bool
is_new earlier (New space name) = not (is_among (taken earlier space) name)
is_new earlier part = true

-- the statement is no second `input` for its source
abbrev pub is_first_input : List Statement → Statement → Bool
is_first_input earlier (Input n values) = not (is_among (inputs earlier) n)
is_first_input earlier s = true

-- the names of a sort that are declared
abbrev pub named : List Statement → Sort → List Name
named earlier AnyChannel = channels earlier
named earlier ASource = sources earlier
named earlier AFifo = declared_fifos earlier
named earlier ARegister = registers earlier
named earlier AMemory = memories earlier
named earlier AVariable = registers earlier ++ temps earlier

abbrev pub is_known : List Statement → Part → Bool
is_known earlier (Use sort name) = is_among (named earlier sort) name
is_known earlier part = true

-- ---- counts

-- an expression has no more nodes and levels than the limits allow
abbrev pub is_small : Expr Name → Bool
is_small e = nat_le (nodes e) EXPRESSION_NODES && nat_le (depth e) EXPRESSION_DEPTH

-- each expression of an operation has no more nodes and levels than the limits allow
abbrev pub has_small_trees : Op Name → Bool
has_small_trees (op.Set r e) = is_small e
has_small_trees (op.Load r m e) = is_small e
has_small_trees (op.Store m e f) = is_small e && is_small f
has_small_trees (op.Write f e) = is_small e
has_small_trees (op.TryWrite f ok e) = is_small e
has_small_trees o = true

-- after the earlier statements the limits of the scale allow one more statement like this
abbrev pub has_room : Scale → List Statement → Statement → Bool
has_room scale earlier (Source n w) = nat_lt (length (channels earlier)) (limits_at scale).channels
has_room scale earlier (Sink n w) = nat_lt (length (channels earlier)) (limits_at scale).channels
has_room scale earlier (Fifo n w depth delay) = nat_lt (length (channels earlier)) (limits_at scale).channels
has_room scale earlier (Module n) = nat_lt (length (modules earlier)) (limits_at scale).modules
has_room scale earlier (Reg n w) = nat_lt (length (registers earlier)) (limits_at scale).registers
has_room scale earlier (Mem n w l) =
    nat_lt (length (memories earlier)) (limits_at scale).memories && nat_le (memory_words earlier + l) ALL_MEMORY_WORDS
has_room scale earlier (Block n l) = nat_lt (length (blocks earlier)) (limits_at scale).blocks
has_room scale earlier (Loop n ii l r) = nat_lt (length (blocks earlier)) (limits_at scale).blocks
has_room scale earlier (Temp n w) = nat_lt (length (temps earlier)) (limits_at scale).temps
has_room scale earlier (At off guard o) = nat_lt (operations earlier) (limits_at scale).operations && has_small_trees o
has_room scale earlier (Input n values) = nat_le (input_values earlier + length values) (limits_at scale).input_values
has_room scale earlier (Depth n d) = nat_lt (edits earlier) EDITS
has_room scale earlier s = true

-- ---- versions

-- the statement is one of this version: before FIFOs had delays, each of them had the delay 1
abbrev pub fits_version : ℕ → Statement → Bool
fits_version v (Fifo n w depth delay) = has_delays v || (delay == default_delay)
fits_version v s = true

-- ---- the first rule that a statement breaks

-- the code of the first of four tests that fails
abbrev pub first_broken : Bool → Bool → Bool → Bool → Option Code
first_broken ranged new known room =
    if not ranged then Some BadNumber
    else if not new then Some DoubleName
    else if not known then Some UnknownName
    else if not room then Some TooMany
    else None

unfoldable pub statement_fault : Scale → List Statement → Statement → Option Code
statement_fault scale earlier s =
    first_broken (list_all is_in_range (parts s) && is_sized scale s) (list_all (is_new earlier) (parts s) && is_first_input earlier s)
    (list_all (is_known earlier) (parts s)) (has_room scale earlier s)

-- ---- sessions that keep the rules

-- the session is complete: its last statement is `end`
unfoldable pub is_complete : List Statement → Bool
is_complete statements = is_end (place_reached (reverse statements))

-- a statement keeps the rules after these statements
pub record KeepsRules (scale : Scale) (before : List Statement) (s : Statement) : Type 0 where
  -- the names in it have the letters of names
  pub well_named : list_all is_well_named (parts s) ≡ true
  -- it is a statement of the version that is declared before it
  pub fits : fits_version (version (reverse before)) s ≡ true
  -- it may stand after the statements before it
  pub permitted : may_follow (reverse before) s ≡ true
  -- its numbers are in range, its new names are new, the names that it uses are declared, and it is not one too many
  pub faultless : statement_fault scale (reverse before) s ≡ None

-- each statement of a whole session keeps the rules, as in each session that a text stands for
pub record KeepsReadingRules (scale : Scale) (statements : List Statement) : Type 0 where
  pub each : (i : ℕ) (s : Statement) → slice_get statements i ≡ Some s → KeepsRules scale (take i statements) s
  pub over : is_complete statements ≡ true
