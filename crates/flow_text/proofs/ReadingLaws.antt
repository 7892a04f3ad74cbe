-- Reading the lines one after the other, with the tables of the statements before each.
use Rattle.std.proofs.Common.{◌≡◌, ℕ, ◌+◌, ◌≤◌, List, [], ◌∷◌, length, Option, None, Some, Result, Ok, true, false, refl, sym, ap, subst}
use Rattle.std.proofs.Common.{◌∙◌, append_assoc, arith}
use Rattle.std.proofs.lemmas.List.{append-nil, reverse-append}
use Rattle.std.specs.Prelude.{reverse}
use Rattle.flow_text.specs.{Scale, Statement, Token, Code, TextFault, ReadFail, lines_of, tokens_of, statement_of, form_fault, tokens_fault}
use Rattle.flow_text.specs.{statement_in, line_fault, version, place_reached, is_end, is_complete, ◌>>=◌, Read, judged, reading, at_line}
use Rattle.flow_text.specs.{line_reading, with_statement, with_number, prepended, ended, TextFails, Tables, tables_of, reading_by, said_by}
use Rattle.flow_text.specs.{tokens_reading_by, line_reading_by, accepted_if, lines_left, bytes_left, KeepsTables, IsLineAdded, with_prefix}
use Rattle.flow_text.specs.declared.progress.Progress.{Progress}
use Rattle.flow_grammar.specs.Tokens.{Line}
use Rattle.flow_text.proofs.TableLaws.{form_fault_same, accepted_same}
use Rattle.flow_grammar.specs.declared.fault.ReadFail.TheVariants as fails

-- ---- a line by the tables

said_same : (scale : Scale) (s : Option Statement) (earlier : List Statement)
    → said_by (reading_by (tables_of scale earlier) s) ≡ judged (form_fault scale earlier s) s
said_same scale s earlier = let same = form_fault_same scale s earlier in grind arith

tokens_same : (scale : Scale) (tokens : List Token) (earlier : List Statement)
    → tokens_reading_by (tables_of scale earlier) tokens
    ≡ judged (tokens_fault scale earlier tokens) (statement_of (version earlier) tokens)
unfolding tokens_reading_by statement_of tables_of
tokens_same scale [] earlier = refl
tokens_same scale (x ∷ xs) earlier = said_same scale (statement_of (version earlier) (x ∷ xs)) earlier

pub line_same : (scale : Scale) (before : List Statement) (line : Line)
    → line_reading_by (tables_of scale (reverse before)) line ≡ line_reading scale before line
unfolding line_reading_by line_reading line_fault statement_in
line_same scale before line = let same = tokens_same scale (tokens_of line) (reverse before) in grind arith

-- ---- the tables after a line

more_tables : (scale : Scale) (before : List Statement) (said : Option Statement)
    → accepted_if (tables_of scale (reverse before)) said ≡ tables_of scale (reverse (with_statement before said))
more_tables scale before None = refl
more_tables scale before (Some s) = accepted_same scale s (reverse before) ∙ ap (tables_of scale) (sym (reverse-append before (s ∷ [])))

pub is_added : (old new : Progress) (said : Option Statement) (number : ℕ) (line : Line)
    → KeepsTables old → at_line number (line_reading_by old.tables line) ≡ Ok said → new.tables ≡ accepted_if old.tables said
    → new.statements ≡ with_statement old.statements said → new.numbers ≡ with_number old.numbers number said → new.scale ≡ old.scale
    → IsLineAdded old new number line
is_added old new said number line k r t s m z = record {
  said = said;
  reads = ap (at_line number) (sym (ap (λ (x : Tables). line_reading_by x line) k ∙ line_same old.scale old.statements line)) ∙ r;
  statements = s;
  numbers = m;
  same_scale = z;
  kept = t ∙ ap (λ (x : Tables). accepted_if x said) k ∙ more_tables old.scale old.statements said
      ∙ (λ i. tables_of (sym z i) (reverse (sym s i)));
}

pub line_fails : (old : Progress) (fail : ReadFail) (number : ℕ) (line : Line) → KeepsTables old
    → TextFails fail (at_line number (line_reading_by old.tables line))
    → TextFails fail (at_line number (line_reading old.scale old.statements line))
line_fails old fail number line k f =
    subst (λ (r : Result (Option Statement) Code). TextFails fail (at_line number r))
    (ap (λ (x : Tables). line_reading_by x line) k ∙ line_same old.scale old.statements line) f

-- ---- the lines as a loop reads them

-- where the loop stands
pub record Reaches (scale : Scale) (text : List ℕ) (p : Progress) (n : ℕ) (left : Option (List ℕ)) : Type 0 where
  pub same_scale : p.scale ≡ scale
  pub kept : KeepsTables p
  pub room : n + bytes_left left ≤ length text + 1
  pub so_far : with_prefix p.statements p.numbers (reading scale p.statements n (lines_left left)) ≡ reading scale [] 0 (lines_of text)

regroup : (statements : List Statement) (numbers : List ℕ) (n : ℕ) (statement : Option Statement) (read : Result Read TextFault)
    → with_prefix statements numbers (read >>= λ r. Ok (prepended n statement r))
    ≡ with_prefix (with_statement statements statement) (with_number numbers n statement) read
regroup statements numbers n statement read = grind (arith, append_assoc)

goes_on : (scale : Scale) (statements : List Statement) (numbers : List ℕ) (n : ℕ) (line : Line) (lines : List Line)
    (statement : Option Statement) (total : Result Read TextFault)
    → at_line (n + 1) (line_reading scale statements line) ≡ Ok statement
    → with_prefix statements numbers (reading scale statements n (line ∷ lines)) ≡ total
    → with_prefix (with_statement statements statement) (with_number numbers (n + 1) statement)
    (reading scale (with_statement statements statement) (n + 1) lines)
    ≡ total
unfolding reading
goes_on scale statements numbers n line lines statement total h so_far =
    let rest = reading scale (with_statement statements statement) (n + 1) lines in
    sym (regroup statements numbers (n + 1) statement rest) ∙ (rw h at so_far)

stops : (scale : Scale) (e : ReadFail) (statements : List Statement) (numbers : List ℕ) (n : ℕ) (line : Line) (lines : List Line)
    (total : Result Read TextFault)
    → TextFails e (at_line (n + 1) (line_reading scale statements line))
    → with_prefix statements numbers (reading scale statements n (line ∷ lines)) ≡ total → TextFails e total
unfolding reading
stops scale fails.OutOfMemory statements numbers n line lines total h so_far = tt
stops scale (fails.Text fault) statements numbers n line lines total h so_far = sym (rw h at so_far)

-- one line more
pub next : (scale : Scale) (text : List ℕ) (p q : Progress) (n : ℕ) (left after : Option (List ℕ)) (rest line : List ℕ)
    → Reaches scale text p n left → left ≡ Some rest → lines_of rest ≡ line ∷ lines_left after → bytes_left after ≤ length rest
    → IsLineAdded p q (n + 1) line → Reaches scale text q (n + 1) after
next scale text p q n left after rest line r l e shorter a =
    let s = a.statements in let m = a.numbers in
    record {
      same_scale = a.same_scale ∙ r.same_scale;
      kept = a.kept;
      room = (let k = rw l at r.room in omega arith);
      so_far = (λ i. with_prefix (s i) (m i) (reading scale (s i) (n + 1) (lines_left after)))
          ∙ goes_on scale p.statements p.numbers n line (lines_left after) a.said (reading scale [] 0 (lines_of text))
          (rw (← r.same_scale) a.reads)
          (let k = rw l at r.so_far in rw (← e) k);
    }

pub stops_here : (scale : Scale) (e : ReadFail) (text : List ℕ) (p : Progress) (n : ℕ) (left after : Option (List ℕ)) (rest line : List ℕ)
    → Reaches scale text p n left → left ≡ Some rest → lines_of rest ≡ line ∷ lines_left after
    → TextFails e (at_line (n + 1) (line_reading p.scale p.statements line)) → TextFails e (reading scale [] 0 (lines_of text))
stops_here scale e text p n left after rest line r l f h =
    stops scale e p.statements p.numbers n line (lines_left after) (reading scale [] 0 (lines_of text)) (rw (← r.same_scale) h)
    (let k = rw l at r.so_far in rw (← f) k)

-- ---- the end

over_at : (before : List Statement) → is_end (place_reached (reverse before)) ≡ is_complete before
unfolding is_complete
over_at before = refl

pub closes : (statements : List Statement) (numbers : List ℕ) (n : ℕ) → is_end (place_reached (reverse statements)) ≡ true
    → with_prefix statements numbers (ended (is_complete statements) n) ≡ Ok (statements, numbers)
closes statements numbers n h = rw (sym (over_at statements) ∙ h, append-nil, append-nil) refl

pub is_cut : (statements : List Statement) (numbers : List ℕ) (n : ℕ) → is_end (place_reached (reverse statements)) ≡ false
    → with_prefix statements numbers (ended (is_complete statements) n) ≡ ended false n
is_cut statements numbers n h = rw (sym (over_at statements) ∙ h) refl
