-- The version is declared by the first statement, and what is written in version 1 is written in version 2 too.
use Rattle.std.proofs.Common.{◌≡◌, ℕ, ◌+◌, List, [], ◌∷◌, ◌++◌, map, true, Option, None, Some, refl, sym, ap, subst, ◌∙◌, inl, inr, arith}
use Rattle.std.proofs.lemmas.List.{reverse-append}
use Rattle.std.specs.Prelude.{reverse}
use Rattle.flow_grammar.specs.{Scale, Statement, Token, lines_of, tokens_of, version, has_delays, parts, Spelled, Writes, with_statement}
use Rattle.flow_grammar.specs.{DifferInVersion, SameButVersion, place_after, takes_flow, may_follow, statements_among, numbers_among}
use Rattle.flow_grammar.specs.{IsInOrder, StandsFor, Tokens.Line}
use Rattle.flow_design.specs.declared.session.Statement.TheVariants.{Flow, Fifo}
use Rattle.flow_grammar.proofs.{SpellingLaws.written_is_read, TextLaws.no_tokens, TextLaws.Words, TextLaws.InOrderFrom, TextLaws.ordered}

-- ---- `flow` stands at the start alone

no_flow_after : (s : Statement) → takes_flow (place_after s) ≡ true → ⊥
no_flow_after s h = grind arith

-- after other statements none declares a version
pub no_flow_later : (e : Statement) (earlier : List Statement) (v : ℕ) → may_follow (e ∷ earlier) (Flow v) ≡ true → ⊥
unfolding may_follow
no_flow_later e earlier v h = no_flow_after e h

-- so the version stays
pub same_version : (e : Statement) (earlier : List Statement) (s : Statement) → may_follow (e ∷ earlier) s ≡ true
    → version (s ∷ e ∷ earlier) ≡ version (e ∷ earlier)
same_version e earlier (Flow v) h = absurd (no_flow_later e earlier v h)
same_version e earlier s h = refl

not_after : (x : Statement) (xs : List Statement) (v : ℕ) → may_follow (reverse (x ∷ xs)) (Flow v) ≡ true → ⊥
not_after x xs v h = go (reverse xs) (subst (λ (e : List Statement). may_follow e (Flow v) ≡ true) (reverse-append (x ∷ []) xs) h)
  where
    go : (ys : List Statement) → may_follow (ys ++ x ∷ []) (Flow v) ≡ true → ⊥
    go [] k = no_flow_later x [] v k
    go (y ∷ ys) k = no_flow_later y (ys ++ x ∷ []) v k

-- ---- what is written in the earlier version is written in the later one

later_writes : (v w : ℕ) → (has_delays v ≡ true → has_delays w ≡ true) → (ts : List Token) (s : Statement) → Writes v ts s → Writes w ts s
later_writes v w up ts (Fifo n x depth delay) (inl h) = inl (up h.0, h.1)
later_writes v w up ts (Fifo n x depth delay) (inr h) = inr h
later_writes v w up ts s h = h

delays_kept : (ys : List Statement) → has_delays (version (ys ++ Flow 1 ∷ [])) ≡ true → has_delays (version (ys ++ Flow 2 ∷ [])) ≡ true
delays_kept [] h = refl
delays_kept (y ∷ ys) h = let later = delays_kept ys in grind arith

module _ (scale : Scale) (xs : List Statement) where
  abbrev first : ℕ
  first = version (reverse (Flow 1 ∷ xs))

  abbrev second : ℕ
  second = version (reverse (Flow 2 ∷ xs))

  up : has_delays first ≡ true → has_delays second ≡ true
  up h =
      let one = reverse-append (Flow 1 ∷ []) xs in let two = reverse-append (Flow 2 ∷ []) xs in
      let kept = delays_kept (reverse xs) in grind arith

  no_word : (v : ℕ) (line : Line) (s : Statement) → tokens_of line ≡ [] → Writes v (tokens_of line) s → ⊥
  no_word v line s e w = no_tokens v s (written_is_read v [] s (subst (λ (ts : List Token). Writes v ts s) e w))

  -- a line says the same after both
  same_line : (line : Line) (o u : Option Statement) → IsInOrder scale (Flow 1 ∷ xs) line o → IsInOrder scale (Flow 2 ∷ xs) line u → o ≡ u
  same_line line None None h k = refl
  same_line line None (Some t) h k = absurd (no_word second line t h.says k.says)
  same_line line (Some s) None h k = absurd (no_word first line s k.says h.says)
  same_line line (Some s) (Some t) h k =
      sym (written_is_read second (tokens_of line) s (later_writes first second up (tokens_of line) s h.says))
      ∙ written_is_read second (tokens_of line) t k.says

same_lines : (scale : Scale) (xs : List Statement) (lines : List Line) (said told : Words)
    → InOrderFrom scale (Flow 1 ∷ xs) lines said → InOrderFrom scale (Flow 2 ∷ xs) lines told → said ≡ told
unfolding InOrderFrom
same_lines scale xs [] [] [] p q = refl
same_lines scale xs [] (o ∷ said) told p q = absurd p
same_lines scale xs [] [] (u ∷ told) p q = absurd q
same_lines scale xs (line ∷ lines) [] told p q = absurd p
same_lines scale xs (line ∷ lines) (o ∷ said) [] p q = absurd q
same_lines scale xs (line ∷ lines) (None ∷ said) (None ∷ told) p q =
    ap (λ (r : Words). None ∷ r) (same_lines scale xs lines said told p.1 q.1)
same_lines scale xs (line ∷ lines) (None ∷ said) (Some t ∷ told) p q = absurd (let e = same_line scale xs line None (Some t) p.0 q.0 in cc)
same_lines scale xs (line ∷ lines) (Some s ∷ said) (None ∷ told) p q = absurd (let e = same_line scale xs line (Some s) None p.0 q.0 in cc)
same_lines scale xs (line ∷ lines) (Some s ∷ said) (Some t ∷ told) p q =
    let e : s ≡ t = (let o = same_line scale xs line (Some s) (Some t) p.0 q.0 in cc) in
    let q' = subst (λ (x : Statement). InOrderFrom scale (Flow 2 ∷ (xs ++ x ∷ [])) lines told) (sym e) q.1 in
    let rest = same_lines scale (xs ++ s ∷ []) lines said told p.1 q' in
    λ i. Some (e i) ∷ rest i

-- ---- the lines up to the first statement

-- lines that say nothing
abbrev nothing : List Line → Words
nothing front = map (λ line. None) front

record Opens (scale : Scale) (v : ℕ) (front after : List Line) (said : Words) : Type 0 where
  rest : Words
  are : said ≡ nothing front ++ Some (Flow v) ∷ rest
  in_order : InOrderFrom scale (Flow v ∷ []) after rest

module _ (scale : Scale) (v : ℕ) (line : Line) (after : List Line) (says : Spelled (tokens_of line) (parts (Flow v))) where
  is_flow : (before : List Statement) (o : Option Statement) → IsInOrder scale before line o → o ≡ Some (Flow v)
  is_flow before None h = absurd (subst (λ (ts : List Token). Spelled ts (parts (Flow v))) h.says says)
  is_flow before (Some s) h =
      sym (written_is_read (version (reverse before)) (tokens_of line) s h.says)
      ∙ written_is_read (version (reverse before)) (tokens_of line) (Flow v) says

  no_later : (x : Statement) (xs : List Statement) (front : List Line) (said : Words)
      → InOrderFrom scale (x ∷ xs) (front ++ line ∷ after) said
      → ⊥
  unfolding InOrderFrom
  no_later x xs [] [] p = p
  no_later x xs [] (o ∷ said) p =
      let h = subst (λ (u : Option Statement). IsInOrder scale (x ∷ xs) line u) (is_flow (x ∷ xs) o p.0) p.0 in
      not_after x xs v h.stands.permitted
  no_later x xs (f ∷ front) [] p = p
  no_later x xs (f ∷ front) (None ∷ said) p = no_later x xs front said p.1
  no_later x xs (f ∷ front) (Some s ∷ said) p = no_later x (xs ++ s ∷ []) front said p.1

  opens : (front : List Line) (said : Words) → InOrderFrom scale [] (front ++ line ∷ after) said → Opens scale v front after said
  unfolding InOrderFrom
  opens [] [] p = absurd p
  opens [] (o ∷ said) p =
      let e = is_flow [] o p.0 in
      record {
        rest = said;
        are = λ i. e i ∷ said;
        in_order = subst (λ (u : Option Statement). InOrderFrom scale (with_statement [] u) after said) e p.1;
      }
  opens (f ∷ front) [] p = absurd p
  opens (f ∷ front) (None ∷ said) p =
      let r = opens front said p.1 in
      record { rest = r.rest; are = ap (λ (ws : Words). None ∷ ws) r.are; in_order = r.in_order }
  opens (f ∷ front) (Some s ∷ said) p = absurd (no_later s [] front said p.1)

-- ---- texts that differ in the version alone

first_among : (front : List Line) (v : ℕ) (rest : Words)
    → statements_among (nothing front ++ Some (Flow v) ∷ rest) ≡ Flow v ∷ statements_among rest
first_among [] v rest = refl
first_among (f ∷ front) v rest = first_among front v rest

same_numbers : (n : ℕ) (front : List Line) (v w : ℕ) (rest : Words)
    → numbers_among n (nothing front ++ Some (Flow v) ∷ rest) ≡ numbers_among n (nothing front ++ Some (Flow w) ∷ rest)
same_numbers n [] v w rest = refl
same_numbers n (f ∷ front) v w rest = same_numbers (n + 1) front v w rest

pub versions_agree : (scale : Scale) (first second : List ℕ) (s t : List Statement) (l m : List ℕ)
    → DifferInVersion first second → StandsFor scale first s l → StandsFor scale second t m → SameButVersion s t × (l ≡ m)
versions_agree scale first second s t l m d p q =
    let a = opens scale 1 d.one d.after d.says_one d.front p.said
    (subst (λ (lines : List Line). InOrderFrom scale [] lines p.said) d.first_lines (ordered scale (lines_of first) p.said p.in_order)) in
    let b = opens scale 2 d.two d.after d.says_two d.front q.said
    (subst (λ (lines : List Line). InOrderFrom scale [] lines q.said) d.second_lines (ordered scale (lines_of second) q.said q.in_order)) in
    let same : a.rest ≡ b.rest = same_lines scale [] d.after a.rest b.rest a.in_order b.in_order in
    let told : q.said ≡ nothing d.front ++ Some (Flow 2) ∷ a.rest =
    b.are ∙ sym (ap (λ (rest : Words). nothing d.front ++ Some (Flow 2) ∷ rest) same) in (
      record {
        after = statements_among a.rest;
        first_are = p.statements_are ∙ ap statements_among a.are ∙ first_among d.front 1 a.rest;
        second_are = q.statements_are ∙ ap statements_among told ∙ first_among d.front 2 a.rest;
      },
      p.numbers_are ∙ ap (numbers_among 1) a.are ∙ same_numbers 1 d.front 1 2 a.rest ∙ sym (ap (numbers_among 1) told) ∙ sym q.numbers_are,
    )
