-- The checking fault of a session: the first rule that it breaks, at the line of the first statement that breaks it.
use Rattle.std.specs.Prelude.{◌≡◌, ℕ, List, Option, Some, option_map}
use Rattle.flow_design.specs.{Scale, Statement}
use Rattle.flow_grammar.specs.{Code, TextFault, ReadFail}
use Rattle.flow_grammar.specs.declared.fault.ReadFail.TheVariants.{Text, OutOfMemory}
use Rattle.session_plan.specs.{plan_of}
use Rattle.flow_check.specs.{declared.item.Item.Item, Places.line_of, Rules.checking_fault}

abbrev pub fault_on_line : List Statement → List ℕ → Code × Item → TextFault
fault_on_line statements lines (code, item) = record { line = line_of statements lines item; code = code }

-- the checking fault of these statements at a scale, if they have one; these are the numbers of their lines
abbrev pub fault_of : Scale → List Statement → List ℕ → Option TextFault
fault_of scale statements lines = option_map (fault_on_line statements lines) (checking_fault scale (plan_of scale statements))

-- a refusal is right: it tells the checking fault, or that memory ran out
abbrev pub IsRefusal : Scale → List Statement → List ℕ → ReadFail → Type 0
IsRefusal scale statements lines (Text fault) = fault_of scale statements lines ≡ Some fault
IsRefusal scale statements lines OutOfMemory = Unit {0}
