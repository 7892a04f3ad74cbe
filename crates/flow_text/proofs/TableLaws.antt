-- The tables of statements: their tests are those of the grammar, and one statement more is accepted.
use Rattle.std.proofs.Common.{◌≡◌, List, ◌∷◌, Option, None, Some, refl, arith}
use Rattle.std.proofs.lemmas.List.Sums.{sum_by-cons, take_while-cons}
use Rattle.std.specs.{Prelude.◌&&◌, Prelude.if◌then◌else◌, Prelude.cond, List.list_all}
use Rattle.flow_grammar.specs.declared.fault.Code.TheVariants.{Syntax}
use Rattle.flow_text.specs.{in_body, is_no_module, is_no_block, word_count, is_operation, input_count, is_edit, Part, parts, may_stand}
use Rattle.flow_text.specs.{may_follow, statement_fault, form_fault, Scale, Statement, tables_of, tables_with, fault_by, form_fault_by}
use Rattle.flow_text.specs.{is_new_in, is_first_input_in, is_known_in, tables_have_room}
use Rattle.flow_design.specs.declared.session.Statement.TheVariants.{Flow}
use Rattle.flow_grammar.specs.Rules as rules

-- what a part is by the tables and by the grammar
part_same : (scale : Scale) (earlier : List Statement) (p : Part)
    → (is_new_in (tables_of scale earlier) p ≡ rules.is_new earlier p)
    × (is_known_in (tables_of scale earlier) p ≡ rules.is_known earlier p)
unfolding tables_of
part_same scale earlier p = (grind arith, grind arith)

-- and what a statement is
statement_same : (scale : Scale) (s : Statement) (earlier : List Statement)
    → (is_first_input_in (tables_of scale earlier) s ≡ rules.is_first_input earlier s)
    × (tables_have_room (tables_of scale earlier) s ≡ rules.has_room scale earlier s)
unfolding tables_of
statement_same scale (Flow n) earlier = (refl, refl)
statement_same scale s earlier = (refl, refl)

place_same : (scale : Scale) (s : Statement) (earlier : List Statement) → may_stand s (tables_of scale earlier).place ≡ may_follow earlier s
unfolding tables_of may_follow
place_same scale s earlier = refl

fault_same : (scale : Scale) (s : Statement) (earlier : List Statement)
    → fault_by (tables_of scale earlier) s ≡ statement_fault scale earlier s
unfolding fault_by statement_fault tables_of
fault_same scale s earlier =
    λ i. rules.first_broken (list_all rules.is_in_range (parts s) && rules.is_sized scale s)
    (list_all (λ p. (part_same scale earlier p).0 i) (parts s) && (statement_same scale s earlier).0 i)
    (list_all (λ p. (part_same scale earlier p).1 i) (parts s)) ((statement_same scale s earlier).1 i)

-- the first test that tokens fail, by the tables and by the grammar
pub form_fault_same : (scale : Scale) (s : Option Statement) (earlier : List Statement)
    → form_fault_by (tables_of scale earlier) s ≡ form_fault scale earlier s
form_fault_same scale None earlier = refl
form_fault_same scale (Some s) earlier = λ i. if place_same scale s earlier i then fault_same scale s earlier i else Some Syntax

-- the tables of one statement more
pub accepted_same : (scale : Scale) (s : Statement) (earlier : List Statement)
    → tables_with (tables_of scale earlier) s ≡ tables_of scale (s ∷ earlier)
unfolding tables_of
accepted_same scale s earlier =
    let own = take_while-cons is_no_module s earlier in let body = take_while-cons is_no_block s earlier in
    let operations = sum_by-cons (λ x. cond (is_operation x) 1 0) s (in_body earlier) in
    let words = sum_by-cons word_count s earlier in let values = sum_by-cons input_count s earlier in
    let edits = sum_by-cons (λ x. cond (is_edit x) 1 0) s earlier in
    grind arith
