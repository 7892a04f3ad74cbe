-- The text of the session stands for it: the session keeps the rules of reading, and the text is not too long.
use Rattle.std.proofs.Common.{◌≡◌, ℕ, zero, suc, ◌+◌, ◌-◌, ◌*◌, ◌≤◌, ◌^◌, List, [], ◌∷◌, ◌++◌, length, map, take, Some, true, refl, sym}
use Rattle.std.proofs.Common.{subst, append_assoc, append-nil, arith, length-append, slice_get, sum_by}
use Rattle.std.proofs.{lemmas.Bool.and_from, lemmas.Bool.and_parts, lemmas.Bool.leb-true, lemmas.Fmt.length-decimal-le}
use Rattle.std.proofs.{lemmas.List.reverse-append, lemmas.List.Concat.flat_map-cons, lemmas.List.Sums.sum_by-cons}
use Rattle.std.specs.{Prelude.reverse, List.list_all, List.join_with_byte, List.range_with_len}
use Rattle.flow_design.specs.{declared.limits.TheConstants.STANDARD, declared.limits.Scale.TheVariants.Standard}
use Rattle.flow_gen.specs.{Statement, Part, parts, StandsFor, is_well_named, is_first_input, is_in_range, is_new, is_known, statement_fault}
use Rattle.flow_gen.specs.{KeepsReadingRules, KeepsRules, line, text_of_lines, token_of, statement_tokens, written_parts, canonical_text}
use Rattle.flow_gen.specs.{drawn, session, generated_session, session_text}
use Rattle.flow_grammar.specs.Parts.{Word, Num}
use Rattle.flow_print.proofs.{PartLemmas.written_pass, ReadBack.reads_back}
use Rattle.flow_gen.proofs.Passing.{is_brief, keeps, follow, most_parts, reads, all_read}
use Rattle.flow_gen.proofs.Fitting.{Fits, AllFit, session_fits}

-- ---- the rules of reading

keeps_rules : (before : List Statement) (s : Statement) → keeps (reverse before) s ≡ true → Fits s → KeepsRules Standard before s
unfolding statement_fault
keeps_rules before s h f =
    let named = and_parts _ _ (and_parts _ _ h).1 in
    let version = and_parts _ _ named.1 in let follows = and_parts _ _ version.1 in let new = and_parts _ _ follows.1 in
    let first = and_parts _ _ new.1 in let known = and_parts _ _ first.1 in let ranges = f.ranges in
    let all_new = and_from (list_all (is_new (reverse before)) (parts s)) (is_first_input (reverse before) s)
    (f.covers (is_new (reverse before)) (λ w short. refl) (λ n below. refl) new.0) first.0 in
    let all_known = f.covers (is_known (reverse before)) (λ w short. refl) (λ n below. refl) known.0 in
    let room = f.room (reverse before) known.1 in
    record {
      well_named = f.covers is_well_named (λ w short. refl) (λ n below. refl) named.0;
      fits = version.0;
      permitted = follows.0;
      faultless = rw (ranges, f.sized, all_new, all_known, room) refl;
    }

each_keeps : (before rest : List Statement) → follow (reverse before) rest ≡ true → AllFit rest → (i : ℕ) (s : Statement)
    → slice_get rest i ≡ Some s → KeepsRules Standard (before ++ take i rest) s
each_keeps before [] h f i s e = absurd cc
each_keeps before (t ∷ rest) h f zero s e =
    let same : t ≡ s = cc in
    subst (λ (l : List Statement). KeepsRules Standard l s) (sym (append-nil before))
    (subst (KeepsRules Standard before) same (keeps_rules before t (and_parts _ _ h).0 f.0))
each_keeps before (t ∷ rest) h f (suc i) s e =
    subst (λ (l : List Statement). KeepsRules Standard l s) (append_assoc before (t ∷ []) (take i rest))
    (each_keeps (before ++ t ∷ []) rest (subst (λ (l : List Statement). follow l rest ≡ true) (sym (reverse-append before (t ∷ [])))
    (and_parts _ _ h).1) f.1 i s e)

-- ---- the length of the text

token_short : (p : Part) → is_brief p ≡ true → is_in_range p ≡ true → length (token_of p) ≤ 64
token_short (Num least most n) brief ranges =
    let high : n ≤ most = leb-true n most (and_parts _ _ ranges).1 in
    let wide : most ≤ 2 ^ 64 - 1 = leb-true most (2 ^ 64 - 1) brief in
    omega (arith, length-decimal-le 20 n (omega arith) (omega (arith, high, wide)) (omega (arith, high, wide)))
token_short (Word w) brief ranges = leb-true _ 64 brief
token_short p brief ranges = leb-true _ 64 brief

tokens_short : (ps : List Part) → list_all is_brief ps ≡ true → list_all is_in_range ps ≡ true
    → length (join_with_byte 32 (map token_of ps)) ≤ 65 * length ps
tokens_short [] brief ranges = omega arith
tokens_short (p ∷ []) brief ranges = omega (arith, token_short p (and_parts _ _ brief).0 (and_parts _ _ ranges).0)
tokens_short (p ∷ r ∷ ps) brief ranges =
    let own = token_short p (and_parts _ _ brief).0 (and_parts _ _ ranges).0 in
    let later : length (join_with_byte 32 (map token_of (r ∷ ps))) ≤ 65 * length (r ∷ ps)
    = tokens_short (r ∷ ps) (and_parts _ _ brief).1
    (and_parts _ _ ranges).1 in
    omega (arith, own, later, length-append (token_of p) (32 ∷ join_with_byte 32 (map token_of (r ∷ ps))))

-- no more parts are written under version 1
no_more : (s : Statement) → length (written_parts 1 s) ≤ length (parts s)
no_more s = grind arith

line_short : (earlier : List Statement) (s : Statement) → keeps earlier s ≡ true → Fits s
    → length (line (statement_tokens 1 s)) ≤ 65 * most_parts s + 1
line_short earlier s h f =
    let brief = written_pass 1 is_brief s (f.covers is_brief (λ w short. short) (λ n below. refl) (and_parts _ _ h).0) in
    let short = tokens_short (written_parts 1 s) brief (written_pass 1 is_in_range s f.ranges) in
    omega (arith, short, no_more s, f.few, length-append (join_with_byte 32 (statement_tokens 1 s)) (10 ∷ []))

text_short : (earlier rest : List Statement) → follow earlier rest ≡ true → AllFit rest
    → length (text_of_lines (map (statement_tokens 1) rest)) ≤ sum_by (λ s. 65 * most_parts s + 1) rest
text_short earlier [] h f = omega arith
text_short earlier (s ∷ rest) h f =
    let own = line_short earlier s (and_parts _ _ h).0 f.0 in
    let later = text_short (s ∷ earlier) rest (and_parts _ _ h).1 f.1 in
    rw (flat_map-cons line (statement_tokens 1 s) (map (statement_tokens 1) rest), sum_by-cons (λ s. 65 * most_parts s + 1) s rest)
    (omega (arith, own, later, length-append (line (statement_tokens 1 s)) (text_of_lines (map (statement_tokens 1) rest))))

-- ---- the whole

pub kept : (seed modules : ℕ) → 1 ≤ modules → modules ≤ 64 → KeepsReadingRules Standard (session seed modules)
unfolding session reads
kept seed zero some most = absurd (omega arith)
kept seed (suc n) some most =
    let tests = and_parts (follow [] (generated_session (drawn seed) (suc n))) _ (all_read (drawn seed) n (omega arith)) in record {
      each = each_keeps [] (generated_session (drawn seed) (suc n)) tests.0 (session_fits seed (suc n));
      over = (and_parts _ _ tests.1).0;
    }

short : (seed modules : ℕ) → 1 ≤ modules → modules ≤ 64 → length (session_text seed modules) ≤ STANDARD.text_bytes
unfolding session reads canonical_text
short seed zero some most = absurd (omega arith)
short seed (suc n) some most =
    let ss : List Statement = generated_session (drawn seed) (suc n) in
    let tests = and_parts (follow [] ss) _ (all_read (drawn seed) n (omega arith)) in
    let few : sum_by (λ s. 65 * most_parts s + 1) ss ≤ STANDARD.text_bytes = leb-true _ STANDARD.text_bytes (and_parts _ _ tests.1).1 in
    omega (arith, few, text_short [] ss tests.0 (session_fits seed (suc n)))

pub stands : (seed modules : ℕ) → 1 ≤ modules → modules ≤ 64
    → StandsFor Standard (session_text seed modules) (session seed modules) (range_with_len 1 (length (session seed modules)))
stands seed modules some most = reads_back Standard (session seed modules) (kept seed modules some most) (short seed modules some most)
