-- What the session of each number of modules passes, whatever its draws: these tests compute.
use Rattle.std.proofs.Common.{◌≡◌, ℕ, suc, ◌+◌, ◌-◌, ◌*◌, ◌^◌, ◌<◌, List, [], ◌∷◌, length, Bool, true, refl, not, is_some, sum_by}
use Rattle.std.proofs.lemmas.Bool.{agree_below_at}
use Rattle.std.specs.{Prelude.◌&&◌, Prelude.nat_le, Prelude.nat_lt, Prelude.codes, Fmt.digits, List.list_all}
use Rattle.flow_design.specs.{declared.limits.TheConstants.STANDARD, declared.limits.Scale.TheVariants.Standard}
use Rattle.flow_design.specs.declared.session.Statement.TheVariants.{At, Input}
use Rattle.flow_gen.specs.{Statement, each, first_clock, head_of, second_clock, generated_session, generated_values, Drawn, Code}
use Rattle.flow_gen.specs.{token_is_name, version, operations, may_follow, Part, parts, is_well_named, fits_version, is_new, is_first_input}
use Rattle.flow_gen.specs.{is_known, has_room, is_complete, token_of, plan_of, plan_module, block, broken_by}
use Rattle.flow_grammar.specs.Parts.{Num, Use, AnyChannel, AVariable}
use Rattle.flow_design.specs.declared.expr.Op.TheVariants as op
use Rattle.flow_grammar.specs.declared.fault.Code.TheVariants as code

-- the parts of a statement, but for its expression the variables that may stand there
abbrev pub variables : List Part
variables = Use AVariable (codes "n") ∷ Use AVariable (codes "x") ∷ Use AVariable (codes "e") ∷ []

abbrev pub seen : Statement → List Part
seen (At off guard (op.Set r e)) = Use AVariable r ∷ variables
seen (At off guard (op.Write f e)) = Use AnyChannel f ∷ variables
seen s = parts s

-- there is room for a statement, but for its expression
abbrev pub has_place : List Statement → Statement → Bool
has_place earlier (At off guard o) = nat_lt (operations earlier) STANDARD.operations
has_place earlier s = has_room Standard earlier s

-- no token of the part is long
abbrev pub is_brief : Part → Bool
is_brief (Num least most n) = nat_le most (2 ^ 64 - 1)
is_brief p = nat_le (length (token_of p)) 64

-- no token of a statement is long, and it keeps the rules of reading, but for its numbers and its expression
abbrev pub keeps : List Statement → Statement → Bool
keeps earlier s =
    list_all is_brief (seen s) && (list_all is_well_named (seen s) && (fits_version (version earlier) s && (may_follow earlier s
    && (list_all (is_new earlier) (seen s) && (is_first_input earlier s
    && (list_all (is_known earlier) (seen s) && has_place earlier s))))))

abbrev pub follow : List Statement → List Statement → Bool
follow earlier [] = true
follow earlier (s ∷ rest) = keeps earlier s && follow (s ∷ earlier) rest

-- so many parts a statement has at most
abbrev pub most_parts : Statement → ℕ
most_parts (Input n given) = 1002
most_parts s = 20

-- the rules of checking that do not speak of numbers
abbrev pub rules : List Code
rules = code.UnknownName ∷ code.BadLimit ∷ code.Ends ∷ code.PortClash ∷ code.WrongSide ∷ []

module _ (draws : ℕ → Drawn) where
  unfoldable pub reads : ℕ → Bool
  reads n =
      follow [] (generated_session draws (suc n))
      && (is_complete (generated_session draws (suc n))
      && nat_le (sum_by (λ s. 65 * most_parts s + 1) (generated_session draws (suc n))) STANDARD.text_bytes)

  unfoldable pub checks : ℕ → Bool
  checks n = list_all (λ rule. not (is_some (broken_by Standard (plan_of Standard (generated_session draws (suc n))) rule))) rules

  pub all_read : (n : ℕ) → n < 64 → reads n ≡ true
  unfolding reads each head_of first_clock second_clock generated_values digits token_is_name may_follow is_complete
  all_read n below = agree_below_at reads (λ k. true) 64 n refl below

  pub all_checked : (n : ℕ) → n < 64 → checks n ≡ true
  unfolding checks each head_of first_clock second_clock generated_values digits plan_of plan_module block
  all_checked n below = agree_below_at checks (λ k. true) 64 n refl below
