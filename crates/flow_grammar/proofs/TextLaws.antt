-- The lines read one after the other give what the text as a whole stands for, or its fault.
use Rattle.std.proofs.Common.{◌≡◌, ℕ, List, [], ◌∷◌, ◌⊎◌, inl, inr, Bool, true, false, cond, Option, None, Some, refl, sym, subst, ◌∙◌}
use Rattle.std.proofs.Common.{zero, suc, ◌+◌, ◌≤◌, ◌<◌, ◌++◌, length, take, get_or, Result, Ok, Err, ap, append_assoc, arith}
use Rattle.std.proofs.{lemmas.List.append-nil, lemmas.Bool.cases_lt, lemmas.Bool.cond_both}
use Rattle.std.specs.{Prelude.reverse, List.list_all}
use Rattle.flow_grammar.specs.{Statement, Scale, limits_at, Session, Token, Code, version, statement_of, Writes, may_follow}
use Rattle.flow_grammar.specs.{statement_fault, is_complete, TextFault, ReadFail, tokens_of, is_permitted, lines_of, form_fault}
use Rattle.flow_grammar.specs.{tokens_fault, statement_in, line_fault, IsInOrder, IsNoStatement, BreaksRule, Fails, statements_among}
use Rattle.flow_grammar.specs.{numbers_among, LinesAreInOrder, FailsFirst, HasNoEnd, StandsFor, HasFault, IsAnswer, ReadsAs, session_of}
use Rattle.flow_grammar.specs.{Said, ◌>>=◌, Read, reading, at_line, judged, line_reading, with_statement, prepended, ended, TextGives}
use Rattle.flow_grammar.specs.Tokens.{Line}
use Rattle.flow_grammar.specs.declared.fault.Code.TheVariants.{NotAscii, Syntax, Truncated, TooLong}
use Rattle.flow_grammar.proofs.SpellingLaws.{written_is_read, read_is_written}
use Rattle.flow_grammar.specs.declared.fault.ReadFail.TheVariants as fails

pub no_tokens : (v : ℕ) (s : Statement) → statement_of v [] ≡ Some s → ⊥
unfolding statement_of
no_tokens v s e = cc

module _ (scale : Scale) (before : List Statement) (line : Line) where
  abbrev earlier : List Statement
  earlier = reverse before

  abbrev declared : ℕ
  declared = version earlier

  -- ---- a line without a fault

  sound_tokens : (ts : List Token) → tokens_of line ≡ ts → (o : Option Statement) → statement_of declared ts ≡ o
      → list_all is_permitted line ≡ true → tokens_fault scale earlier ts ≡ None → IsInOrder scale before line o
  unfolding statement_of
  sound_tokens [] t None e b h = record { bytes = b; says = t; stands = tt }
  sound_tokens [] t (Some s) e b h = absurd cc
  sound_tokens (x ∷ xs) t None e b h = absurd (grind arith)
  sound_tokens (x ∷ xs) t (Some s) e b h = record {
    bytes = b;
    says = rw t (read_is_written declared (x ∷ xs) s e);
    stands = record { permitted = grind arith; faultless = grind arith };
  }

  pub order_of_line : line_fault scale before line ≡ None → IsInOrder scale before line (statement_in before line)
  unfolding line_fault statement_in
  order_of_line h = sound_tokens (tokens_of line) refl (statement_of declared (tokens_of line)) refl (grind arith) (grind arith)

  pub line_of_order : (o : Option Statement) → IsInOrder scale before line o
      → (line_fault scale before line ≡ None) × (statement_in before line ≡ o)
  unfolding line_fault statement_in statement_of
  line_of_order None p = (rw (p.bytes, p.says) refl, rw p.says refl)
  line_of_order (Some s) p =
      let read = written_is_read declared (tokens_of line) s p.says in
      let bytes = p.bytes in let permitted = p.stands.permitted in let faultless = p.stands.faultless in (grind arith, read)

  -- ---- a line with a fault

  form_fails : (ts : List Token) → tokens_of line ≡ ts → (ts ≡ [] → ⊥) → (o : Option Statement) → statement_of declared ts ≡ o
      → (code : Code) → form_fault scale earlier o ≡ Some code
      → (IsNoStatement before line × (code ≡ Syntax)) ⊎ BreaksRule scale before line code
  form_fails ts t some None e code h =
      inl (
        record {
          some_token = λ n. some (sym t ∙ n);
          none = λ s w. absurd (let q = written_is_read declared (tokens_of line) s w in let r = rw t at q in cc);
        },
        (cc),
      )
  form_fails ts t some (Some s) e code h = go (may_follow earlier s) refl h
    where
      wrote : Writes declared (tokens_of line) s
      wrote = rw t (read_is_written declared ts s e)

      go : (b : Bool) → may_follow earlier s ≡ b → cond b (statement_fault scale earlier s) (Some Syntax) ≡ Some code
          → (IsNoStatement before line × (code ≡ Syntax)) ⊎ BreaksRule scale before line code
      go true p f = inr (record { statement = s; writes = wrote; permitted = p; fault = f })
      go false p f = inl (
        record {
          some_token = λ n. some (sym t ∙ n);
          none = λ x w.
              let q = written_is_read declared (tokens_of line) x w in
              let r = rw t at q in
              let same : s ≡ x = (cc) in
              subst (λ (y : Statement). may_follow earlier y ≡ false) same p;
        },
        (cc),
      )

  tokens_fails : (ts : List Token) → tokens_of line ≡ ts → (code : Code) → tokens_fault scale earlier ts ≡ Some code
      → (IsNoStatement before line × (code ≡ Syntax)) ⊎ BreaksRule scale before line code
  tokens_fails [] t code h = absurd cc
  tokens_fails (x ∷ xs) t code h = form_fails (x ∷ xs) t (λ e. absurd cc) (statement_of declared (x ∷ xs)) refl code h

  pub fails_of_line : (code : Code) → line_fault scale before line ≡ Some code → Fails scale before line code
  unfolding line_fault
  fails_of_line code h =
      cond_both (list_all is_permitted line) (tokens_fault scale earlier (tokens_of line)) (Some NotAscii)
      (λ (o : Option Code). o ≡ Some code → Fails scale before line code) (λ b f. inr (b, tokens_fails (tokens_of line) refl code f))
      (λ b f. inl (b, (cc))) h

  no_statement : (ts : List Token) → tokens_of line ≡ ts → IsNoStatement before line → tokens_fault scale earlier ts ≡ Some Syntax
  no_statement [] t p = absurd (p.some_token t)
  no_statement (x ∷ xs) t p =
      let none = λ (s : Statement) (e : statement_of declared (x ∷ xs) ≡ Some s). p.none s (rw t (read_is_written declared (x ∷ xs) s e)) in
      grind arith

  broken_rule : (ts : List Token) → tokens_of line ≡ ts → (code : Code) → BreaksRule scale before line code
      → tokens_fault scale earlier ts ≡ Some code
  unfolding statement_of
  broken_rule ts t code p =
      let read = rw t at (written_is_read declared (tokens_of line) p.statement p.writes) in
      let permitted = p.permitted in let fault = p.fault in grind arith

  pub line_of_fails : (code : Code) → Fails scale before line code → line_fault scale before line ≡ Some code
  unfolding line_fault
  line_of_fails code (inl p) = rw (p.0, p.1) refl
  line_of_fails code (inr (b, inl p)) = rw (b, no_statement (tokens_of line) refl p.0, p.1) refl
  line_of_fails code (inr (b, inr p)) = rw b (broken_rule (tokens_of line) refl code p)

-- ---- the lines read one after the other give what the text as a whole stands for, or its fault

abbrev pub Words : Type 0
Words = List (Option Statement)

-- ---- lines in order, one after the other

unfoldable pub InOrderFrom : Scale → List Statement → List Line → Words → Type 0
InOrderFrom scale front [] [] = Unit {0}
InOrderFrom scale front [] (o ∷ said) = ⊥
InOrderFrom scale front (line ∷ lines) [] = ⊥
InOrderFrom scale front (line ∷ lines) (o ∷ said) = IsInOrder scale front line o × InOrderFrom scale (with_statement front o) lines said

among_more : (front : List Statement) (o : Option Statement) (said : Words)
    → with_statement front o ++ statements_among said ≡ front ++ statements_among (o ∷ said)
among_more front None said = refl
among_more front (Some s) said = append_assoc front (s ∷ []) (statements_among said)

same_length : (scale : Scale) (front : List Statement) (lines : List Line) (said : Words) → InOrderFrom scale front lines said
    → length said ≡ length lines
unfolding InOrderFrom
same_length scale front [] [] p = refl
same_length scale front (line ∷ lines) (o ∷ said) p = ap suc (same_length scale (with_statement front o) lines said p.1)
same_length scale front lines said p = absurd p

each_of : (scale : Scale) (front : List Statement) (lines : List Line) (said : Words) → InOrderFrom scale front lines said
    → (i : ℕ) → i < length lines → IsInOrder scale (front ++ statements_among (take i said)) (get_or lines i []) (get_or said i None)
unfolding InOrderFrom
each_of scale front [] said p i l = absurd (omega arith)
each_of scale front (line ∷ lines) [] p i l = absurd p
each_of scale front (line ∷ lines) (o ∷ said) p zero l =
    subst (λ (b : List Statement). IsInOrder scale b line o) (sym (append-nil front)) p.0
each_of scale front (line ∷ lines) (o ∷ said) p (suc i) l =
    subst (λ (b : List Statement). IsInOrder scale b (get_or lines i []) (get_or said i None)) (among_more front o (take i said))
    (each_of scale (with_statement front o) lines said p.1 i (omega arith))

order_from : (scale : Scale) (front : List Statement) (lines : List Line) (said : Words) → length said ≡ length lines
    → ((i : ℕ) → i < length lines → IsInOrder scale (front ++ statements_among (take i said)) (get_or lines i []) (get_or said i None))
    → InOrderFrom scale front lines said
unfolding InOrderFrom
order_from scale front [] [] e each = tt
order_from scale front (line ∷ lines) (o ∷ said) e each = (
  subst (λ (b : List Statement). IsInOrder scale b line o) (append-nil front) (each 0 (omega arith)),
  order_from scale (with_statement front o) lines said (omega arith)
      (λ i l. subst (λ (b : List Statement). IsInOrder scale b (get_or lines i []) (get_or said i None))
      (sym (among_more front o (take i said))) (each (suc i) (omega arith))),
)
order_from scale front lines said e each = absurd (omega arith)

pub ordered : (scale : Scale) (lines : List Line) (said : Words) → LinesAreInOrder scale lines said → InOrderFrom scale [] lines said
ordered scale lines said p = order_from scale [] lines said p.count p.each

pub in_order_of : (scale : Scale) (lines : List Line) (said : Words) → InOrderFrom scale [] lines said → LinesAreInOrder scale lines said
in_order_of scale lines said p = record { count = same_length scale [] lines said p; each = each_of scale [] lines said p }

-- ---- what is told of the lines after some statements

record Stands (scale : Scale) (front : List Statement) (n : ℕ) (lines : List Line) (r : Read) : Type 0 where
  said : Words
  in_order : InOrderFrom scale front lines said
  statements_are : r.0 ≡ statements_among said
  numbers_are : r.1 ≡ numbers_among (n + 1) said
  over : is_complete (front ++ statements_among said) ≡ true

record FailsFrom (scale : Scale) (front : List Statement) (n : ℕ) (lines : List Line) (fault : TextFault) : Type 0 where
  said : Words
  some : length said < length lines
  in_order : InOrderFrom scale front (take (length said) lines) said
  fails : Fails scale (front ++ statements_among said) (get_or lines (length said) []) fault.code
  line : fault.line ≡ n + (length said + 1)

record CutFrom (scale : Scale) (front : List Statement) (n : ℕ) (lines : List Line) (fault : TextFault) : Type 0 where
  said : Words
  in_order : InOrderFrom scale front lines said
  not_over : is_complete (front ++ statements_among said) ≡ false
  code : fault.code ≡ Truncated
  line : fault.line ≡ n + length lines

Tells : Scale → List Statement → ℕ → List Line → Result Read TextFault → Type 0
Tells scale front n lines (Ok r) = Stands scale front n lines r
Tells scale front n lines (Err fault) = FailsFrom scale front n lines fault ⊎ CutFrom scale front n lines fault

-- ---- reading tells it

tells_end : (scale : Scale) (front : List Statement) (n : ℕ) (over : Bool) → is_complete front ≡ over
    → Tells scale front n [] (ended over n)
unfolding Tells InOrderFrom
tells_end scale front n true h =
    record { said = []; in_order = tt; statements_are = refl; numbers_are = refl; over = rw (append-nil front) h }
tells_end scale front n false h =
    inr (record { said = []; in_order = tt; not_over = rw (append-nil front) h; code = refl; line = omega arith })

module _ (scale : Scale) (front : List Statement) (n : ℕ) (line : Line) (lines : List Line) (s : Option Statement)
    (here : IsInOrder scale front line s) where
  abbrev next : List Statement
  next = with_statement front s

  over_more : (b : Bool) (said : Words) → is_complete (next ++ statements_among said) ≡ b
      → is_complete (front ++ statements_among (s ∷ said)) ≡ b
  over_more b said h = sym (ap is_complete (among_more front s said)) ∙ h

  firsts : (o : Option Statement) (r : Read) (said : Words) → r.0 ≡ statements_among said
      → (prepended (n + 1) o r).0 ≡ statements_among (o ∷ said)
  firsts o r said h = grind arith

  seconds : (o : Option Statement) (r : Read) (said : Words) → r.1 ≡ numbers_among (n + 1 + 1) said
      → (prepended (n + 1) o r).1 ≡ numbers_among (n + 1) (o ∷ said)
  seconds o r said h = grind arith

  stands_more : (r : Read) → Stands scale next (n + 1) lines r → Stands scale front n (line ∷ lines) (prepended (n + 1) s r)
  unfolding InOrderFrom
  stands_more r p = record {
    said = s ∷ p.said;
    in_order = (here, p.in_order);
    statements_are = firsts s r p.said p.statements_are;
    numbers_are = seconds s r p.said p.numbers_are;
    over = over_more true p.said p.over;
  }

  fails_more : (fault : TextFault) → FailsFrom scale next (n + 1) lines fault → FailsFrom scale front n (line ∷ lines) fault
  unfolding InOrderFrom
  fails_more fault p = record {
    said = s ∷ p.said;
    some = (let l = p.some in omega arith);
    in_order = (here, p.in_order);
    fails = subst (λ (b : List Statement). Fails scale b (get_or lines (length p.said) []) fault.code) (among_more front s p.said) p.fails;
    line = (let l = p.line in omega arith);
  }

  cut_more : (fault : TextFault) → CutFrom scale next (n + 1) lines fault → CutFrom scale front n (line ∷ lines) fault
  unfolding InOrderFrom
  cut_more fault p = record {
    said = s ∷ p.said;
    in_order = (here, p.in_order);
    not_over = over_more false p.said p.not_over;
    code = p.code;
    line = (let l = p.line in omega arith);
  }

  tells_more : (read : Result Read TextFault) → Tells scale next (n + 1) lines read
      → Tells scale front n (line ∷ lines) (read >>= λ r. Ok (prepended (n + 1) s r))
  unfolding Tells
  tells_more (Ok r) p = stands_more r p
  tells_more (Err fault) (inl p) = inl (fails_more fault p)
  tells_more (Err fault) (inr p) = inr (cut_more fault p)

tells_line : (scale : Scale) (front : List Statement) (n : ℕ) (line : Line) (lines : List Line) (o : Option Code)
    → line_fault scale front line ≡ o
    → Tells scale (with_statement front (statement_in front line)) (n + 1) lines
    (reading scale (with_statement front (statement_in front line)) (n + 1) lines)
    → Tells scale front n (line ∷ lines)
    (at_line (n + 1) (judged o (statement_in front line)) >>= λ s. reading scale (with_statement front s) (n + 1) lines
    >>= λ r. Ok (prepended (n + 1) s r))
unfolding Tells InOrderFrom
tells_line scale front n line lines None h rest =
    tells_more scale front n line lines (statement_in front line) (order_of_line scale front line h)
    (reading scale (with_statement front (statement_in front line)) (n + 1) lines) rest
tells_line scale front n line lines (Some code) h rest = inl (record {
  said = [];
  some = omega arith;
  in_order = tt;
  fails = subst (λ (b : List Statement). Fails scale b line code) (sym (append-nil front)) (fails_of_line scale front line code h);
  line = omega arith;
})

tells : (scale : Scale) (front : List Statement) (n : ℕ) (lines : List Line) → Tells scale front n lines (reading scale front n lines)
unfolding reading line_reading
tells scale front n [] = tells_end scale front n (is_complete front) refl
tells scale front n (line ∷ lines) =
    tells_line scale front n line lines (line_fault scale front line) refl
    (tells scale (with_statement front (statement_in front line)) (n + 1) lines)

-- ---- and nothing else is told

goes_on : (scale : Scale) (front : List Statement) (n : ℕ) (line : Line) (lines : List Line) (s : Option Statement)
    → IsInOrder scale front line s
    → reading scale front n (line ∷ lines) ≡ (reading scale (with_statement front s) (n + 1) lines >>= λ r. Ok (prepended (n + 1) s r))
unfolding reading line_reading
goes_on scale front n line lines s here = let e = line_of_order scale front line s here in rw (e.0, e.1) refl

abbrev good : Read → Result Read TextFault
good r = Ok r

abbrev bad : TextFault → Result Read TextFault
bad fault = Err fault

same_read : (r : Read) (s : List Statement) (l : List ℕ) → r.0 ≡ s → r.1 ≡ l → good r ≡ good (s, l)
same_read r s l e f = λ i. Ok (e i, f i)

end_reads : (scale : Scale) (front : List Statement) (n : ℕ) (over : Bool) → is_complete (front ++ []) ≡ over
    → reading scale front n [] ≡ ended over n
unfolding reading
end_reads scale front n over h = let o = rw (append-nil front) at h in rw o refl

stands_only : (scale : Scale) (front : List Statement) (n : ℕ) (lines : List Line) (said : Words) → InOrderFrom scale front lines said
    → is_complete (front ++ statements_among said) ≡ true
    → reading scale front n lines ≡ Ok (statements_among said, numbers_among (n + 1) said)
unfolding InOrderFrom
stands_only scale front n [] [] p over = end_reads scale front n true over
stands_only scale front n (line ∷ lines) (o ∷ said) p over =
    goes_on scale front n line lines o p.0
    ∙ ap (λ (read : Result Read TextFault). read >>= λ r. Ok (prepended (n + 1) o r))
    (stands_only scale (with_statement front o) (n + 1) lines said p.1 (ap is_complete (among_more front o said) ∙ over))
    ∙ put o
  where
    put : (x : Option Statement)
        → good (prepended (n + 1) x (statements_among said, numbers_among (n + 1 + 1) said))
        ≡ good (statements_among (x ∷ said), numbers_among (n + 1) (x ∷ said))
    put None = refl
    put (Some s) = refl
stands_only scale front n lines said p over = absurd p

same_fault : (a b : TextFault) → a.line ≡ b.line → a.code ≡ b.code → a ≡ b
same_fault a b l c = λ i. record { line = l i; code = c i }

err_is : (a : TextFault) (l : ℕ) (c : Code) → a.line ≡ l → a.code ≡ c → bad (record { line = l; code = c }) ≡ bad a
err_is a l c e f = λ i. Err (same_fault (record { line = l; code = c }) a (sym e) (sym f) i)

first_fails : (scale : Scale) (front : List Statement) (n : ℕ) (line : Line) (lines : List Line) (fault : TextFault)
    → Fails scale (front ++ []) line fault.code
    → fault.line ≡ n + (0 + 1)
    → reading scale front n (line ∷ lines) ≡ Err fault
unfolding reading line_reading
first_fails scale front n line lines fault f e =
    let h = line_of_fails scale front line fault.code
    (subst (λ (b : List Statement). Fails scale b line fault.code) (append-nil front) f) in
    rw h (err_is fault (n + 1) fault.code (omega arith) refl)

fails_only : (scale : Scale) (front : List Statement) (n : ℕ) (lines : List Line) (fault : TextFault) (said : Words)
    → length said < length lines
    → InOrderFrom scale front (take (length said) lines) said
    → Fails scale (front ++ statements_among said) (get_or lines (length said) []) fault.code → fault.line ≡ n + (length said + 1)
    → reading scale front n lines ≡ Err fault
unfolding InOrderFrom
fails_only scale front n [] fault said l p f e = absurd (omega arith)
fails_only scale front n (line ∷ lines) fault [] l p f e = first_fails scale front n line lines fault f e
fails_only scale front n (line ∷ lines) fault (o ∷ said) l p f e =
    goes_on scale front n line lines o p.0
    ∙ ap (λ (read : Result Read TextFault). read >>= λ r. Ok (prepended (n + 1) o r))
    (fails_only scale (with_statement front o) (n + 1) lines fault said (omega arith) p.1
    (subst (λ (b : List Statement). Fails scale b (get_or lines (length said) []) fault.code) (sym (among_more front o said)) f)
    (omega arith))

cut_only : (scale : Scale) (front : List Statement) (n : ℕ) (lines : List Line) (fault : TextFault) (said : Words)
    → InOrderFrom scale front lines said
    → is_complete (front ++ statements_among said) ≡ false
    → fault.code ≡ Truncated → fault.line ≡ n + length lines → reading scale front n lines ≡ Err fault
unfolding InOrderFrom
cut_only scale front n [] fault [] p over c e = end_reads scale front n false over ∙ err_is fault n Truncated (omega arith) c
cut_only scale front n (line ∷ lines) fault (o ∷ said) p over c e =
    goes_on scale front n line lines o p.0
    ∙ ap (λ (read : Result Read TextFault). read >>= λ r. Ok (prepended (n + 1) o r))
    (cut_only scale (with_statement front o) (n + 1) lines fault said p.1 (ap is_complete (among_more front o said) ∙ over) c (omega arith))
cut_only scale front n lines fault said p over c e = absurd p

-- ---- texts

-- the lines of a text give an answer to it
pub answer_of_lines : (scale : Scale) (text : List ℕ) (read : Result Read TextFault) → length text ≤ (limits_at scale).text_bytes
    → reading scale [] 0 (lines_of text) ≡ read
    → Said scale text read
unfolding Tells
answer_of_lines scale text read short e = go read (subst (Tells scale [] 0 (lines_of text)) e (tells scale [] 0 (lines_of text)))
  where
    go : (read : Result Read TextFault) → Tells scale [] 0 (lines_of text) read → Said scale text read
    go (Ok r) p =
        record {
          short = short;
          said = p.said;
          in_order = in_order_of scale (lines_of text) p.said p.in_order;
          over = p.over;
          statements_are = p.statements_are;
          numbers_are = p.numbers_are;
        }
    go (Err fault) (inl p) = inr (
      short,
      inl (record {
        said = p.said;
        some = p.some;
        in_order = in_order_of scale (take (length p.said) (lines_of text)) p.said p.in_order;
        fails = p.fails;
        line = (let l = p.line in omega arith);
      }),
    )
    go (Err fault) (inr p) =
        inr (
          short,
          inr
              (record {
                said = p.said;
                in_order = in_order_of scale (lines_of text) p.said p.in_order;
                not_over = p.not_over;
                code = p.code;
                line = (let l = p.line in omega arith);
              }),
        )

-- what a text stands for, its lines give
pub session_is : (scale : Scale) (text : List ℕ) (s : List Statement) (l : List ℕ) → StandsFor scale text s l
    → reading scale [] 0 (lines_of text) ≡ Ok (s, l)
session_is scale text s l p =
    stands_only scale [] 0 (lines_of text) p.said (ordered scale (lines_of text) p.said p.in_order) p.over
    ∙ sym (same_read (s, l) (statements_among p.said) (numbers_among 1 p.said) p.statements_are p.numbers_are)

-- and its fault too
pub fault_is : (scale : Scale) (text : List ℕ) (fault : TextFault)
    → FailsFirst scale (lines_of text) fault ⊎ HasNoEnd scale (lines_of text) fault
    → reading scale [] 0 (lines_of text) ≡ Err fault
fault_is scale text fault (inl p) =
    fails_only scale [] 0 (lines_of text) fault p.said p.some
    (ordered scale (take (length p.said) (lines_of text)) p.said p.in_order) p.fails
    (let l = p.line in omega arith)
fault_is scale text fault (inr p) =
    cut_only scale [] 0 (lines_of text) fault p.said (ordered scale (lines_of text) p.said p.in_order) p.not_over p.code
    (let l = p.line in omega arith)

-- each text has an answer
pub some_answer : (scale : Scale) (text : List ℕ) → (answer : Result Read TextFault) × Said scale text answer
some_answer scale text = elim (cases_lt (limits_at scale).text_bytes (length text)) [
  | inl long ↦ (Err (record { line = 0; code = TooLong }), inl (long, refl))
  | inr short ↦ (reading scale [] 0 (lines_of text), answer_of_lines scale text (reading scale [] 0 (lines_of text)) short refl)
]

-- and no other
pub same_answer : (scale : Scale) (text : List ℕ) (a b : Result Read TextFault) → Said scale text a → Said scale text b → a ≡ b
same_answer scale text (Ok r) (Ok q) p s = sym (session_is scale text r.0 r.1 p) ∙ session_is scale text q.0 q.1 s
same_answer scale text (Ok r) (Err g) p (inl s) = absurd (let x = p.short in let y = s.0 in omega arith)
same_answer scale text (Ok r) (Err g) p (inr s) = sym (session_is scale text r.0 r.1 p) ∙ fault_is scale text g s.1
same_answer scale text (Err f) (Ok q) (inl p) s = absurd (let x = s.short in let y = p.0 in omega arith)
same_answer scale text (Err f) (Ok q) (inr p) s = sym (fault_is scale text f p.1) ∙ session_is scale text q.0 q.1 s
same_answer scale text (Err f) (Err g) (inl p) (inl s) = λ i. Err ((p.1 ∙ sym s.1) i)
same_answer scale text (Err f) (Err g) (inl p) (inr s) = absurd (let x = p.0 in let y = s.0 in omega arith)
same_answer scale text (Err f) (Err g) (inr p) (inl s) = absurd (let x = s.0 in let y = p.0 in omega arith)
same_answer scale text (Err f) (Err g) (inr p) (inr s) = sym (fault_is scale text f p.1) ∙ fault_is scale text g s.1

-- ---- what a reader answers

-- a reader that gives what the lines give answers the text
pub answer_given : (scale : Scale) (text : List ℕ) (result : Result (Session × List ℕ) ReadFail)
    → length text ≤ (limits_at scale).text_bytes
    → TextGives (λ read. (read.0.statements, read.1)) result (reading scale [] 0 (lines_of text)) → IsAnswer scale text (session_of result)
answer_given scale text (Ok read) short h = answer_of_lines scale text (Ok (read.0.statements, read.1)) short h
answer_given scale text (Err fails.OutOfMemory) short h = tt
answer_given scale text (Err (fails.Text fault)) short h = answer_of_lines scale text (Err fault) short h

-- an answer is the one answer
pub only_answer : (scale : Scale) (text : List ℕ) (result : Result Read ReadFail) (wanted : Result Read TextFault)
    → IsAnswer scale text result → Said scale text wanted
    → ReadsAs result wanted
only_answer scale text (Ok r) wanted a p = same_answer scale text wanted (Ok r) p a
only_answer scale text (Err fails.OutOfMemory) wanted a p = tt
only_answer scale text (Err (fails.Text fault)) wanted a p = same_answer scale text wanted (Err fault) p a

pub only_session : (scale : Scale) (text : List ℕ) (result : Result Read ReadFail) (s : List Statement) (l : List ℕ)
    → IsAnswer scale text result
    → StandsFor scale text s l → ReadsAs result (Ok (s, l))
only_session scale text result s l a p = only_answer scale text result (Ok (s, l)) a p

pub only_fault : (scale : Scale) (text : List ℕ) (result : Result Read ReadFail) (fault : TextFault) → IsAnswer scale text result
    → HasFault scale text fault
    → ReadsAs result (Err fault)
only_fault scale text result fault a p = only_answer scale text result (Err fault) a p
