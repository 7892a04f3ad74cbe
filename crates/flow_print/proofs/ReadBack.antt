-- The canonical text of a session that keeps the rules stands for that session.
use Rattle.std.proofs.Common.{◌≡◌, ℕ, suc, ◌+◌, ◌≤◌, List, [], ◌∷◌, ◌++◌, map, length, take, Bool, true, false, None, Some, refl, sym, ap}
use Rattle.std.proofs.Common.{subst, ◌∙◌, append_assoc, append-nil, inl, inr, arith}
use Rattle.std.proofs.{lemmas.Bool.eqb-true, lemmas.List.reverse-append}
use Rattle.std.specs.Prelude.{slice_get, reverse, ◌==◌, ◌||◌, if◌then◌else◌}
use Rattle.std.specs.List.{list_all, join_with_byte, range_with_len}
use Rattle.flow_print.specs.{Scale, limits_at, Statement, Token, lines_of, tokens_of, version, has_delays, may_follow, Spelled, WritesFifo}
use Rattle.flow_print.specs.{Writes, parts, depth_parts, fifo_parts, default_delay, statements_among, numbers_among, IsInOrder, StandsFor}
use Rattle.flow_print.specs.{is_well_named, is_in_range, fits_version, statement_fault, is_complete, KeepsRules, KeepsReadingRules}
use Rattle.flow_print.specs.{written_parts, statement_tokens, version_of, canonical_text}
use Rattle.flow_design.specs.declared.session.Statement.TheVariants.{Flow, Fifo}
use Rattle.flow_grammar.specs.Tokens.{Line}
use Rattle.flow_grammar.proofs.{TextLaws.Words, TextLaws.InOrderFrom, TextLaws.in_order_of, VersionLaws.same_version}
use Rattle.flow_print.proofs.SplitLemmas.{is_printed, line_permitted, tokens_of_line, text_lines}
use Rattle.flow_print.proofs.PartLemmas.{parts_printed, fit_parts, written_pass}

-- ---- one line

range_of : (scale : Scale) (earlier : List Statement) (s : Statement) → statement_fault scale earlier s ≡ None
    → list_all is_in_range (parts s) ≡ true
unfolding statement_fault
range_of scale earlier s h = grind arith

-- a statement of the version is written by what is printed of it
writes_printed : (v : ℕ) (ts : List Token) (s : Statement) → fits_version v s ≡ true → Spelled ts (written_parts v s) → Writes v ts s
writes_printed v ts (Fifo n w depth delay) f p = go (has_delays v) refl f p
  where
    go : (b : Bool) → has_delays v ≡ b → b || (delay == default_delay) ≡ true
        → Spelled ts (if b then fifo_parts n w depth delay else depth_parts n w depth) → WritesFifo v ts n w depth delay
    go true h k q = inl (h, q)
    go false h k q = inr (inl (eqb-true delay default_delay k, q))
writes_printed v ts s f p = p

abbrev printed_line : ℕ → Statement → Line
printed_line v s = join_with_byte 32 (statement_tokens v s)

printed : (scale : Scale) (v : ℕ) (before : List Statement) (s : Statement) → KeepsRules scale before s
    → (list_all is_printed (statement_tokens v s) ≡ true) × Spelled (statement_tokens v s) (written_parts v s)
printed scale v before s k =
    parts_printed (written_parts v s) (fit_parts v s) (written_pass v is_well_named s k.well_named)
    (written_pass v is_in_range s (range_of scale (reverse before) s k.faultless))

-- in order, where the line writes the statement in the version that is declared before it
line_in_order : (scale : Scale) (v : ℕ) (before : List Statement) (s : Statement) → KeepsRules scale before s
    → ((ts : List Token) → Spelled ts (written_parts v s) → Writes (version (reverse before)) ts s)
    → IsInOrder scale before (printed_line v s) (Some s)
line_in_order scale v before s k writes =
    let p = printed scale v before s k in
    record {
      bytes = line_permitted (statement_tokens v s) p.0;
      says = writes (tokens_of (printed_line v s))
          (subst (λ (ts : List Token). Spelled ts (written_parts v s)) (sym (tokens_of_line (statement_tokens v s) p.0)) p.1);
      stands = record { permitted = k.permitted; faultless = k.faultless };
    }

-- ---- all lines

-- each statement keeps the rules after those before it
abbrev Keep : Scale → List Statement → List Statement → Type 0
Keep scale front ss = (i : ℕ) (s : Statement) → slice_get ss i ≡ Some s → KeepsRules scale (front ++ take i ss) s

keep_first : (scale : Scale) (front : List Statement) (s : Statement) (ss : List Statement) → Keep scale front (s ∷ ss)
    → KeepsRules scale front s
keep_first scale front s ss k = subst (λ (b : List Statement). KeepsRules scale b s) (append-nil front) (k 0 s refl)

keep_rest : (scale : Scale) (front : List Statement) (s : Statement) (ss : List Statement) → Keep scale front (s ∷ ss)
    → Keep scale (front ++ s ∷ []) ss
keep_rest scale front s ss k i t e =
    subst (λ (b : List Statement). KeepsRules scale b t) (sym (append_assoc front (s ∷ []) (take i ss))) (k (suc i) t e)

-- what the lines of the statements say, and the line without a byte after them
abbrev said_of : List Statement → Words
said_of ss = map (λ s. Some s) ss ++ None ∷ []

-- after statements that declare the version
all_in_order : (scale : Scale) (v : ℕ) (front ss : List Statement) (e : Statement) (earlier : List Statement)
    → reverse front ≡ e ∷ earlier → version (e ∷ earlier) ≡ v → Keep scale front ss
    → InOrderFrom scale front (map (printed_line v) ss ++ [] ∷ []) (said_of ss)
unfolding InOrderFrom tokens_of
all_in_order scale v front [] e earlier r h k = (record { bytes = refl; says = refl; stands = tt }, tt)
all_in_order scale v front (s ∷ ss) e earlier r h k =
    let here = keep_first scale front s ss k in
    let declared : version (reverse front) ≡ v = ap version r ∙ h in
    let fits : fits_version v s ≡ true = subst (λ (n : ℕ). fits_version n s ≡ true) declared here.fits in
    let permitted : may_follow (e ∷ earlier) s ≡ true = subst (λ (es : List Statement). may_follow es s ≡ true) r here.permitted in (
      line_in_order scale v front s here (λ ts p. subst (λ (n : ℕ). Writes n ts s) (sym declared) (writes_printed v ts s fits p)),
      all_in_order scale v (front ++ s ∷ []) ss s (e ∷ earlier) (reverse-append front (s ∷ []) ∙ ap (λ (es : List Statement). s ∷ es) r)
          (same_version e earlier s permitted ∙ h) (keep_rest scale front s ss k),
    )

-- from the first statement on, which declares the version
all_lines : (scale : Scale) (ss : List Statement) → Keep scale [] ss
    → InOrderFrom scale [] (map (printed_line (version_of ss)) ss ++ [] ∷ []) (said_of ss)
unfolding InOrderFrom tokens_of may_follow
all_lines scale [] k = (record { bytes = refl; says = refl; stands = tt }, tt)
all_lines scale (Flow v ∷ ss) k =
    let here = keep_first scale [] (Flow v) ss k in (
      line_in_order scale v [] (Flow v) here (λ ts p. p),
      all_in_order scale v (Flow v ∷ []) ss (Flow v) [] refl refl (keep_rest scale [] (Flow v) ss k),
    )
all_lines scale (s ∷ ss) k = absurd (let p = (keep_first scale [] s ss k).permitted in cc)

all_printed : (scale : Scale) (v : ℕ) (front ss : List Statement) → Keep scale front ss
    → list_all (list_all is_printed) (map (statement_tokens v) ss) ≡ true
all_printed scale v front [] k = refl
all_printed scale v front (s ∷ ss) k =
    let here = (printed scale v front s (keep_first scale front s ss k)).0 in
    let rest = all_printed scale v (front ++ s ∷ []) ss (keep_rest scale front s ss k) in
    rw (here, rest) refl

lines_printed : (v : ℕ) (ss : List Statement) → map (join_with_byte 32) (map (statement_tokens v) ss) ≡ map (printed_line v) ss
lines_printed v [] = refl
lines_printed v (s ∷ ss) = ap (λ (r : List Line). printed_line v s ∷ r) (lines_printed v ss)

lines_are : (scale : Scale) (ss : List Statement) → Keep scale [] ss
    → lines_of (canonical_text ss) ≡ map (printed_line (version_of ss)) ss ++ [] ∷ []
unfolding canonical_text
lines_are scale ss k =
    text_lines (map (statement_tokens (version_of ss)) ss) (all_printed scale (version_of ss) [] ss k)
    ∙ ap (λ (r : List Line). r ++ [] ∷ []) (lines_printed (version_of ss) ss)

same_statements : (ss : List Statement) → ss ≡ statements_among (said_of ss)
same_statements [] = refl
same_statements (s ∷ ss) = ap (λ (r : List Statement). s ∷ r) (same_statements ss)

same_numbers : (n : ℕ) (ss : List Statement) → range_with_len n (length ss) ≡ numbers_among n (said_of ss)
same_numbers n [] = refl
same_numbers n (s ∷ ss) = ap (λ (r : List ℕ). n ∷ r) (same_numbers (n + 1) ss)

pub reads_back : (scale : Scale) (ss : List Statement) → KeepsReadingRules scale ss
    → length (canonical_text ss) ≤ (limits_at scale).text_bytes
    → StandsFor scale (canonical_text ss) ss (range_with_len 1 (length ss))
reads_back scale ss rules short = record {
  short = short;
  said = said_of ss;
  in_order = in_order_of scale (lines_of (canonical_text ss)) (said_of ss)
      (subst (λ (lines : List Line). InOrderFrom scale [] lines (said_of ss)) (sym (lines_are scale ss rules.each))
      (all_lines scale ss rules.each));
  over = subst (λ (xs : List Statement). is_complete xs ≡ true) (same_statements ss) rules.over;
  statements_are = same_statements ss;
  numbers_are = same_numbers 1 ss;
}
