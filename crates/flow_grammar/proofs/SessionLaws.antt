-- A session that a text stands for keeps the rules of reading, and its line numbers rise.
use Rattle.std.proofs.Common.{◌≡◌, ℕ, zero, suc, ◌+◌, ◌<◌, ◌≤◌, List, [], ◌∷◌, ◌++◌, length, take, None, Some, true, refl, sym, ap, subst}
use Rattle.std.proofs.Common.{◌∙◌, append_assoc, inl, inr, arith}
use Rattle.std.proofs.{lemmas.List.append-nil, lemmas.List.Kept.AllPairs-cons, lemmas.Bool.or_right, lemmas.Bool.and_from}
use Rattle.std.proofs.lemmas.List.Elements.{All-nil, All-cons}
use Rattle.std.specs.{Prelude.slice_get, Prelude.reverse, Prelude.◌||◌, Prelude.◌==◌, List.list_all, List.All, List.AllPairs}
use Rattle.flow_grammar.specs.{Scale, Statement, Token, Name, token_is_name, lines_of, tokens_of, version, has_delays, statements_among}
use Rattle.flow_grammar.specs.{numbers_among, StandsFor, Part, parts, bare_parts, depth_parts, fifo_parts, default_delay, Spells, Spelled}
use Rattle.flow_grammar.specs.{WritesFifo, Writes, is_well_named, fits_version, KeepsRules, KeepsReadingRules}
use Rattle.flow_grammar.specs.{Tokens.Line, Parts.Word, Parts.Num}
use Rattle.flow_design.specs.declared.session.Statement.TheVariants.{Fifo}
use Rattle.flow_grammar.proofs.TextLaws.{Words, InOrderFrom, ordered}

-- ---- names

spelled_named : (t : Token) (p : Part) → Spells t p → is_well_named p ≡ true
spelled_named t (Word w) s = refl
spelled_named t (Num least most n) s = refl
spelled_named t name s = subst (λ (x : Token). token_is_name x ≡ true) s.1 s.0

all_named : (ts : List Token) (ps : List Part) → Spelled ts ps → list_all is_well_named ps ≡ true
all_named [] [] s = refl
all_named (t ∷ ts) (p ∷ ps) s = and_from (is_well_named p) (list_all is_well_named ps) (spelled_named t p s.0) (all_named ts ps s.1)
all_named ts ps s = absurd s

-- a written FIFO has names that are names
fifo_named : (v : ℕ) (ts : List Token) (n : Name) (w depth delay : ℕ) → WritesFifo v ts n w depth delay
    → list_all is_well_named (fifo_parts n w depth delay) ≡ true
fifo_named v ts n w depth delay (inl h) = all_named ts (fifo_parts n w depth delay) h.1
fifo_named v ts n w depth delay (inr (inl h)) = all_named ts (depth_parts n w depth) h.1
fifo_named v ts n w depth delay (inr (inr h)) = all_named ts (bare_parts n w) h.2

-- and is one of the version
fifo_fits : (v : ℕ) (ts : List Token) (n : Name) (w depth delay : ℕ) → WritesFifo v ts n w depth delay
    → has_delays v || (delay == default_delay) ≡ true
fifo_fits v ts n w depth delay (inl h) = rw h.0 refl
fifo_fits v ts n w depth delay (inr (inl h)) = or_right (has_delays v) (delay == default_delay) (rw h.0 refl)
fifo_fits v ts n w depth delay (inr (inr h)) = or_right (has_delays v) (delay == default_delay) (rw h.1 refl)

written_named : (v : ℕ) (ts : List Token) (s : Statement) → Writes v ts s → list_all is_well_named (parts s) ≡ true
written_named v ts (Fifo n w depth delay) h = fifo_named v ts n w depth delay h
written_named v ts s h = all_named ts (parts s) h

written_fits : (v : ℕ) (ts : List Token) (s : Statement) → Writes v ts s → fits_version v s ≡ true
written_fits v ts (Fifo n w depth delay) h = fifo_fits v ts n w depth delay h
written_fits v ts s h = refl

-- ---- statements

keeps_from : (scale : Scale) (front : List Statement) (lines : List Line) (said : Words) → InOrderFrom scale front lines said
    → (i : ℕ) (s : Statement) → slice_get (statements_among said) i ≡ Some s → KeepsRules scale (front ++ take i (statements_among said)) s
unfolding InOrderFrom
keeps_from scale front [] [] p i s e = absurd cc
keeps_from scale front (line ∷ lines) (None ∷ said) p i s e = keeps_from scale front lines said p.1 i s e
keeps_from scale front (line ∷ lines) (Some st ∷ said) p zero s e =
    let same : st ≡ s = (cc) in
    subst (λ (b : List Statement). KeepsRules scale b s) (sym (append-nil front))
    (subst (λ (x : Statement). KeepsRules scale front x) same
    (record {
      well_named = written_named (version (reverse front)) (tokens_of line) st p.0.says;
      fits = written_fits (version (reverse front)) (tokens_of line) st p.0.says;
      permitted = p.0.stands.permitted;
      faultless = p.0.stands.faultless;
    }))
keeps_from scale front (line ∷ lines) (Some st ∷ said) p (suc i) s e =
    subst (λ (b : List Statement). KeepsRules scale b s) (append_assoc front (st ∷ []) (take i (statements_among said)))
    (keeps_from scale (front ++ st ∷ []) lines said p.1 i s e)
keeps_from scale front lines said p i s e = absurd p

pub keeps_rules : (scale : Scale) (text : List ℕ) (s : List Statement) (l : List ℕ) → StandsFor scale text s l → KeepsReadingRules scale s
keeps_rules scale text s l p =
    subst (KeepsReadingRules scale) (sym p.statements_are)
    (record { each = keeps_from scale [] (lines_of text) p.said (ordered scale (lines_of text) p.said p.in_order); over = p.over })

-- ---- line numbers

as_many : (n : ℕ) (said : Words) → length (numbers_among n said) ≡ length (statements_among said)
as_many n [] = refl
as_many n (None ∷ said) = as_many (n + 1) said
as_many n (Some s ∷ said) = ap suc (as_many (n + 1) said)

pub numbered : (scale : Scale) (text : List ℕ) (s : List Statement) (l : List ℕ) → StandsFor scale text s l → length l ≡ length s
numbered scale text s l p = ap length p.numbers_are ∙ as_many 1 p.said ∙ sym (ap length p.statements_are)

at_least : (n m : ℕ) (said : Words) → n ≤ m → All (λ x. n ≤ x) (numbers_among m said)
at_least n m [] h = All-nil (λ x. n ≤ x)
at_least n m (None ∷ said) h = at_least n (m + 1) said (omega arith)
at_least n m (Some s ∷ said) h = All-cons (λ x. n ≤ x) m (numbers_among (m + 1) said) h (at_least n (m + 1) said (omega arith))

rising_from : (n : ℕ) (said : Words) → AllPairs (λ a b. a < b) (numbers_among n said)
rising_from n [] = λ i j d l m. absurd (omega arith)
rising_from n (None ∷ said) = rising_from (n + 1) said
rising_from n (Some s ∷ said) =
    AllPairs-cons (λ a b. a < b) n (numbers_among (n + 1) said)
    (λ k d l. let h = at_least (n + 1) (n + 1) said (omega arith) k d l in omega arith) (rising_from (n + 1) said)

pub rising : (scale : Scale) (text : List ℕ) (s : List Statement) (l : List ℕ) → StandsFor scale text s l → AllPairs (λ a b. a < b) l
rising scale text s l p = subst (AllPairs (λ a b. a < b)) (sym p.numbers_are) (rising_from 1 p.said)
