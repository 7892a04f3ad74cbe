-- The statement that the tokens of a line write under a version of the language, whatever its numbers are.
use Rattle.std.specs.Prelude.{ℕ, Bool, List, [], ◌∷◌, ◌&&◌, map, codes, if◌then◌else◌, Option, None, Some, option_map}
use Rattle.std.specs.List.{list_all}
use Rattle.flow_design.specs.{Expr, Statement, Op, Token}
use Rattle.flow_design.specs.declared.session.Statement.TheVariants.{Flow, Source, Sink, Fifo, Module, Reg, Mem, Block, Loop, Temp, At}
use Rattle.flow_design.specs.declared.session.Statement.TheVariants.{Goto, Branch, Stop, Input, Limits, Depth, End}
use Rattle.flow_grammar.specs.{declared.keyword.Keyword.Keyword, declared.keyword.Verb.Verb, Before.has_delays, Keywords.keyword_of}
use Rattle.flow_grammar.specs.{Keywords.verb_of, Parts.default_depth, Parts.default_delay, Trees.Trees, Trees.trees_of}
use Rattle.flow_grammar.specs.Tokens.{is_number, token_is_name, number_of, is_word}
use Rattle.flow_design.specs.declared.expr.Op.TheVariants as op
use Rattle.flow_grammar.specs.declared.keyword.Keyword.TheVariants as keyword
use Rattle.flow_grammar.specs.declared.keyword.Verb.TheVariants as verb

abbrev pub only_if : {A : Type 0} → Bool → A → Option A
only_if test x = if test then Some x else None

abbrev pub if_then : {A : Type 0} → Bool → Option A → Option A
if_then test x = if test then x else None

unfoldable pub flow_of : List Token → Option Statement
flow_of (n ∷ []) = only_if (is_number n) (Flow (number_of n))
flow_of ts = None

abbrev pub name_width : (Token → ℕ → Statement) → List Token → Option Statement
name_width make (n ∷ w ∷ []) = only_if (token_is_name n && is_number w) (make n (number_of w))
name_width make ts = None

-- the FIFO that these tokens write after their keyword; only a version with delays has a form with one
unfoldable pub fifo_of : ℕ → List Token → Option Statement
fifo_of version (n ∷ w ∷ []) = only_if (token_is_name n && is_number w) (Fifo n (number_of w) default_depth default_delay)
fifo_of version (n ∷ w ∷ d ∷ []) =
    only_if (token_is_name n && (is_number w && is_number d)) (Fifo n (number_of w) (number_of d) default_delay)
fifo_of version (n ∷ w ∷ d ∷ e ∷ []) =
    if_then (has_delays version)
    (only_if (token_is_name n && (is_number w && (is_number d && is_number e))) (Fifo n (number_of w) (number_of d) (number_of e)))
fifo_of version ts = None

abbrev pub one_name : (Token → Statement) → List Token → Option Statement
one_name make (n ∷ []) = only_if (token_is_name n) (make n)
one_name make ts = None

unfoldable pub mem_of : List Token → Option Statement
mem_of (n ∷ w ∷ l ∷ []) = only_if (token_is_name n && (is_number w && is_number l)) (Mem n (number_of w) (number_of l))
mem_of ts = None

unfoldable pub loop_of : List Token → Option Statement
loop_of (n ∷ ii ∷ l ∷ w ∷ r ∷ []) =
    only_if (token_is_name n && (is_number ii && (is_number l && (is_word w (codes "while") && token_is_name r))))
    (Loop n (number_of ii) (number_of l) r)
loop_of ts = None

abbrev pub one_tree : Option Trees → Option (Expr Token)
one_tree (Some (e ∷ [])) = Some e
one_tree trees = None

abbrev pub two_trees : (Expr Token → Expr Token → Op Token) → Option Trees → Option (Op Token)
two_trees make (Some (e ∷ f ∷ [])) = Some (make e f)
two_trees make trees = None

abbrev pub set_of : List Token → Option (Op Token)
set_of (r ∷ ts) = if_then (token_is_name r) (option_map (op.Set r) (one_tree (trees_of ts)))
set_of ts = None

abbrev pub load_of : List Token → Option (Op Token)
load_of (r ∷ m ∷ ts) = if_then (token_is_name r && token_is_name m) (option_map (op.Load r m) (one_tree (trees_of ts)))
load_of ts = None

abbrev pub store_of : List Token → Option (Op Token)
store_of (m ∷ ts) = if_then (token_is_name m) (two_trees (op.Store m) (trees_of ts))
store_of ts = None

abbrev pub two_names : (Token → Token → Op Token) → List Token → Option (Op Token)
two_names make (f ∷ r ∷ []) = only_if (token_is_name f && token_is_name r) (make f r)
two_names make ts = None

abbrev pub write_of : List Token → Option (Op Token)
write_of (f ∷ ts) = if_then (token_is_name f) (option_map (op.Write f) (one_tree (trees_of ts)))
write_of ts = None

abbrev pub try_read_of : List Token → Option (Op Token)
try_read_of (f ∷ r ∷ ok ∷ []) = only_if (token_is_name f && (token_is_name r && token_is_name ok)) (op.TryRead f r ok)
try_read_of ts = None

abbrev pub try_write_of : List Token → Option (Op Token)
try_write_of (f ∷ ok ∷ ts) = if_then (token_is_name f && token_is_name ok) (option_map (op.TryWrite f ok) (one_tree (trees_of ts)))
try_write_of ts = None

-- the operation that tokens write after their verb
abbrev pub op_form_of : Verb → List Token → Option (Op Token)
op_form_of verb.Set ts = set_of ts
op_form_of verb.Load ts = load_of ts
op_form_of verb.Store ts = store_of ts
op_form_of verb.Read ts = two_names op.Read ts
op_form_of verb.Write ts = write_of ts
op_form_of verb.TryRead ts = try_read_of ts
op_form_of verb.TryWrite ts = try_write_of ts
op_form_of verb.Empty ts = two_names op.Empty ts
op_form_of verb.Full ts = two_names op.Full ts

abbrev pub op_form_if : Option Verb → List Token → Option (Op Token)
op_form_if None ts = None
op_form_if (Some v) ts = op_form_of v ts

-- the operation that tokens write, of which the first is a verb
unfoldable pub op_of : List Token → Option (Op Token)
op_of [] = None
op_of (v ∷ ts) = op_form_if (verb_of v) ts

-- the `at` that tokens write after its offset: an operation, perhaps with a guard before it
abbrev pub guarded_of : ℕ → List Token → Option Statement
guarded_of off (i ∷ r ∷ ts) =
    if is_word i (codes "if") then if_then (token_is_name r) (option_map (At off (Some r)) (op_of ts))
    else option_map (At off None) (op_of (i ∷ r ∷ ts))
guarded_of off ts = option_map (At off None) (op_of ts)

unfoldable pub at_of : List Token → Option Statement
at_of (off ∷ ts) = if_then (is_number off) (guarded_of (number_of off) ts)
at_of ts = None

unfoldable pub branch_of : List Token → Option Statement
branch_of (r ∷ b ∷ c ∷ []) = only_if (token_is_name r && (token_is_name b && token_is_name c)) (Branch r b c)
branch_of ts = None

unfoldable pub input_of : List Token → Option Statement
input_of (n ∷ ts) = only_if (token_is_name n && list_all is_number ts) (Input n (map number_of ts))
input_of ts = None

unfoldable pub limits_of : List Token → Option Statement
limits_of (c ∷ o ∷ []) = only_if (is_number c && is_number o) (Limits (number_of c) (number_of o))
limits_of ts = None

abbrev pub bare : Statement → List Token → Option Statement
bare statement [] = Some statement
bare statement (t ∷ ts) = None

-- the statement that tokens write after their keyword
abbrev pub form_of : ℕ → Keyword → List Token → Option Statement
form_of version keyword.Flow ts = flow_of ts
form_of version keyword.Source ts = name_width Source ts
form_of version keyword.Sink ts = name_width Sink ts
form_of version keyword.Fifo ts = fifo_of version ts
form_of version keyword.Module ts = one_name Module ts
form_of version keyword.Reg ts = name_width Reg ts
form_of version keyword.Mem ts = mem_of ts
form_of version keyword.Block ts = name_width Block ts
form_of version keyword.Loop ts = loop_of ts
form_of version keyword.Temp ts = name_width Temp ts
form_of version keyword.At ts = at_of ts
form_of version keyword.Goto ts = one_name Goto ts
form_of version keyword.Branch ts = branch_of ts
form_of version keyword.Stop ts = bare Stop ts
form_of version keyword.Input ts = input_of ts
form_of version keyword.Limits ts = limits_of ts
form_of version keyword.Depth ts = name_width Depth ts
form_of version keyword.End ts = bare End ts

abbrev pub form_if : ℕ → Option Keyword → List Token → Option Statement
form_if version None ts = None
form_if version (Some k) ts = form_of version k ts

-- the statement that tokens write, of which the first is a keyword
unfoldable pub statement_of : ℕ → List Token → Option Statement
statement_of version [] = None
statement_of version (k ∷ ts) = form_if version (keyword_of k) ts
