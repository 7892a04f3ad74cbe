-- Which statement of a session breaks which rule of checking, and which one a refusal tells.
use Rattle.std.specs.Prelude.{◌≡◌, ℕ, ◌<◌, Bool, true, false, List, ◌∷◌, ◌++◌, length, take, slice_get, slice_index, All, Option, None}
use Rattle.std.specs.Prelude.{Some}
use Rattle.flow_design.specs.{Scale, Statement, Channel, Block, Plan, declared.design.Module.Module}
use Rattle.flow_grammar.specs.{Code, TextFault}
use Rattle.session_plan.specs.{plan_of}
use Rattle.flow_check.specs.{declared.item.Spot.Spot, declared.item.Item.Item, Places.items_of}
use Rattle.flow_check.specs.declared.item.Spot.TheVariants.{Head, Operation, Terminator}
use Rattle.flow_check.specs.Rules.{leads_out, breaks_limits, lacks_users, clashes, is_bad_loop, is_too_late, is_on_wrong_side, rules}
use Rattle.flow_grammar.specs.declared.fault.Code.TheVariants as code
use Rattle.flow_check.specs.declared.item.Item.TheVariants as item

-- there is a value, and it passes the test
abbrev pub some_passes : {A : Type 0} → (A → Bool) → Option A → Bool
some_passes test None = false
some_passes test (Some x) = test x

-- a spot of a block breaks a rule
abbrev pub spot_breaks : Scale → Code → Module → Block → Spot → Bool
spot_breaks scale code.UnknownName m b Terminator = leads_out (length m.blocks) b.next
spot_breaks scale code.PortClash m b (Operation k) = some_passes (clashes b.kind (take k b.ops)) (slice_get b.ops k)
spot_breaks scale code.BadLoop m b Head = is_bad_loop scale b.len b.kind
spot_breaks scale code.BadOffset m b (Operation k) = some_passes (is_too_late b.len) (slice_get b.ops k)
spot_breaks scale code.WrongSide m b (Operation k) = some_passes (is_on_wrong_side m) (slice_get b.ops k)
spot_breaks scale rule m b spot = false

-- the limits of a plan break a rule
abbrev pub limits_break : Scale → Code → Plan → Bool
limits_break scale code.BadLimit plan = breaks_limits scale plan.cycles plan.ops
limits_break scale rule plan = false

-- a channel of a plan breaks a rule
abbrev pub channel_breaks : Code → Plan → ℕ → Channel → Bool
channel_breaks code.Ends plan f c = lacks_users plan.design.modules (f, c)
channel_breaks rule plan f c = false

-- an item of a plan breaks a rule
abbrev pub breaks : Scale → Plan → Code → Item → Bool
breaks scale plan rule item.Limits = limits_break scale rule plan
breaks scale plan rule (item.Channel f) = some_passes (channel_breaks rule plan f) (slice_get plan.design.channels f)
breaks scale plan rule (item.InModule m (b, spot)) =
    some_passes (λ own. some_passes (λ block. spot_breaks scale rule own block spot) (slice_get own.blocks b))
    (slice_get plan.design.modules m)

-- the item of the statement at a place breaks a rule
abbrev pub statement_breaks : Scale → List Statement → Code → ℕ → Bool
statement_breaks scale statements rule place =
    some_passes (some_passes (breaks scale (plan_of scale statements) rule)) (slice_get (items_of statements) place)

-- a refusal tells the first statement that breaks the first rule that is broken
pub record TellsFirst (scale : Scale) (statements : List Statement) (lines : List ℕ) (fault : TextFault) : Type 0 where
  -- it tells the line of a statement that breaks its rule
  pub place : ℕ
  pub line : fault.line ≡ slice_index lines place
  pub broken : statement_breaks scale statements fault.code place ≡ true
  -- no statement before it breaks that rule
  pub first : (i : ℕ) → i < place → statement_breaks scale statements fault.code i ≡ false
  -- no item of the plan breaks a rule that comes before that rule
  pub earlier : List Code
  pub later : List Code
  pub order : rules ≡ earlier ++ fault.code ∷ later
  pub kept : All (λ rule. (i : Item) → breaks scale (plan_of scale statements) rule i ≡ false) earlier
