-- One word of the parser's walk, by what it looks like, and what is refused whatever follows.
use Rattle.std.proofs.Common.{◌≡◌, ◌∙◌, ℕ, List, [], ◌∷◌, ◌+◌, ◌&&◌, ◌==◌, Option, Some, None, refl, sym, ap, ap₂, subst, true, false, Bool}
use Rattle.std.proofs.Common.{cond, length, arith, suc, not, is_some, eqb-true}
use Rattle.std.proofs.{lemmas.Str.chars-encodes, lemmas.Bool.Decides.nat_tests}
use Rattle.std.specs.{Prelude.slice_get, Prelude.option_and_then, Prelude.encode_utf8_all, List.AllByRecursion, List.after_first}
use Rattle.std.specs.{List.before_first, List.prefix_len, Option.option_map_or, Char.encode_utf8, Str.bytes_eq, Str.chars, Str.IsUtf8}
use Rattle.clap.specs.{Lexer.has_byte, Lexer.long_of, Lexer.long_of_rest, Lexer.short_of, Kinds.Kinds, Kinds.or_else}
use Rattle.clap.specs.Walk.{subcommand_met, Held, Rule, Step, Waiting, Walk, after_flag, after_step, arg_by_index, arg_by_long, idle}
use Rattle.clap.specs.Walk.{long_met, next, option, takes_values, Row, plain_word, to_positional, value, walked, word_met}
use Rattle.clap.specs.Faults.{bundle_fault, bundle_step_fault, option_fault, flag_word_fault, flags_fault, long_fault, react_fault}
use Rattle.clap.specs.Faults.{step_fault, turn_fault, walk_fault, word_fault}
use Rattle.cli_words.specs.CommandWords.{Cycles, Ops, Positional, Slack, Unknown}
use Rattle.cli_words.specs.{Key, Arguments, Text, begins_with_hyphen, is_equals, option_named, text_after_equals, meaning_of}
use Rattle.cli_words.proofs.{RowLemmas.rules, RowLemmas.top, AcceptedLemmas.hyphen}
use Rattle.cli_words.proofs.WalkSteps.{Fails, at, first_clear, and_false, rule_at, settle_at, some_kind}
use Rattle.clap.specs.declared.error.kind.ErrorKind.TheVariants as kind

-- ---- where the walk stands between two words

abbrev pub between : Arguments → Held → Walk
between said h = at idle (suc (length said.positionals)) false h

-- after `--`
abbrev pub after_end : Arguments → Held → Walk
after_end said h = at idle (suc (length said.positionals)) true h

-- ---- what a word looks like, to both

-- a word that goes to a positional, or to an option that waits
pub record IsPlain (word : Text) : Type 0 where
  pub other : bytes_eq word (45 ∷ 45 ∷ []) ≡ false
  pub long : long_of word ≡ None
  pub short : short_of word ≡ None
  pub kind : meaning_of word ≡ Positional

-- no word of text has such a form that the flags after its hyphen are no characters
abbrev HasFlags : ℕ → Text → Type 0
HasFlags y ys = (x : ℕ) × (slice_get (chars (y ∷ ys)) 0 ≡ Some x)

pub data ViewName : Text → Type 0 where
  as_plain : (word : Text) → begins_with_hyphen word ≡ false → IsPlain word → ViewName word
  dash : ViewName hyphen
  ends : ViewName (45 ∷ 45 ∷ [])
  long : (x : ℕ) (xs : Text) → ViewName (45 ∷ 45 ∷ x ∷ xs)
  short : (y : ℕ) (ys : Text) → (y == 45) ≡ false → ViewName (45 ∷ y ∷ ys)

view_second : (y : ℕ) (ys : Text) (b : Bool) → (y == 45) ≡ b → ViewName (45 ∷ y ∷ ys)
view_second y [] true e = subst (λ c. ViewName (45 ∷ c ∷ [])) (sym (eqb-true y 45 e)) ends
view_second y (x ∷ xs) true e = subst (λ c. ViewName (45 ∷ c ∷ x ∷ xs)) (sym (eqb-true y 45 e)) (long x xs)
view_second y ys false e = short y ys e

view_first : (x : ℕ) (xs : Text) (b : Bool) → (x == 45) ≡ b → ViewName (x ∷ xs)
view_first x xs false e = as_plain (x ∷ xs) e
    (record { other = grind arith; long = grind arith; short = grind arith; kind = grind (arith, nat_tests) })
view_first x [] true e = subst (λ c. ViewName (c ∷ [])) (sym (eqb-true x 45 e)) dash
view_first x (y ∷ ys) true e = subst (λ c. ViewName (c ∷ y ∷ ys)) (sym (eqb-true x 45 e)) (view_second y ys (y == 45) refl)

pub view : (word : Text) → ViewName word
view [] = as_plain [] refl (record { other = refl; long = refl; short = refl; kind = refl })
view (x ∷ xs) = view_first x xs (x == 45) refl

-- a lone hyphen is plain
pub hyphen_plain : IsPlain hyphen
hyphen_plain = record { other = refl; long = refl; short = refl; kind = refl }

-- text has a character after a first hyphen
pub has_flags : (y : ℕ) (ys : Text) → IsUtf8 (45 ∷ y ∷ ys) → HasFlags y ys
unfolding chars encode_utf8
has_flags y ys u = go (chars (y ∷ ys)) refl
  where
    spelt : 45 ∷ chars (y ∷ ys) ≡ u.0
    spelt = ap chars (sym u.1.1) ∙ chars-encodes u.0 u.1.0

    go : (l : Text) → chars (y ∷ ys) ≡ l → HasFlags y ys
    go [] e =
        let alone : u.0 ≡ 45 ∷ [] = sym spelt ∙ ap (λ t. 45 ∷ t) e in
        let short : 45 ∷ [] ≡ 45 ∷ y ∷ ys = sym (ap encode_utf8_all alone) ∙ u.1.1 in
        absurd (omega (arith, ap length short))
    go (c ∷ cs) e = (c, ap (λ t. slice_get t 0) e)

before_more : (x : ℕ) (xs : Text) → (x == 61) ≡ false → before_first is_equals (x ∷ xs) ≡ x ∷ before_first is_equals xs
before_more x xs e =
    let more : 1 + prefix_len (λ c. not (is_equals c)) xs ≡ suc (prefix_len (λ c. not (is_equals c)) xs) = omega arith in
    rw (e, more) refl

after_more : (x : ℕ) (xs : Text) → (x == 61) ≡ false → after_first is_equals (x ∷ xs) ≡ after_first is_equals xs
after_more x xs e =
    let more : 1 + prefix_len (λ c. not (is_equals c)) xs + 1 ≡ suc (prefix_len (λ c. not (is_equals c)) xs + 1) = omega arith in
    rw (e, more) refl

no_option : (y : ℕ) (ys : Text) (v : Option Text) → (y == 45) ≡ false → option_named (45 ∷ before_first is_equals (y ∷ ys)) v ≡ Unknown
no_option y ys v e = let more = before_more y ys in grind (arith, nat_tests)

-- a short word is no option
pub short_unknown : (y : ℕ) (ys : Text) → (y == 45) ≡ false → meaning_of (45 ∷ y ∷ ys) ≡ Unknown
short_unknown y ys e =
    let first = before_more 45 (y ∷ ys) refl in let none = no_option y ys (text_after_equals (45 ∷ y ∷ ys)) e in grind (arith, nat_tests)

-- the name and the value of a long word
abbrev pub name_in : ℕ → Text → Text
name_in x xs = before_first is_equals (x ∷ xs)

abbrev pub own_value : ℕ → Text → Option Text
own_value x xs = cond (has_byte 61 (x ∷ xs)) (Some (after_first is_equals (x ∷ xs))) None

pub long_word_of : (x : ℕ) (xs : Text)
    → meaning_of (45 ∷ 45 ∷ x ∷ xs) ≡ option_named (45 ∷ 45 ∷ name_in x xs) (own_value x xs)
long_word_of x xs =
    ap₂ option_named (before_more 45 (45 ∷ x ∷ xs) refl ∙ ap (λ n. 45 ∷ n) (before_more 45 (x ∷ xs) refl))
    (ap (λ v. cond (has_byte 61 (x ∷ xs)) (Some v) None)
    (after_more 45 (45 ∷ x ∷ xs) refl ∙ after_more 45 (x ∷ xs) refl))

-- ---- one word, where nothing or an option waits

module _ (p : ℕ) (word : Text) (h : Held) (plain : IsPlain word) where
  met_plain : word_met rules [] false idle p word h ≡ (h, value)
  met_plain = rw (plain.other, plain.long, plain.short) refl

  no_word_fault : word_fault top [] false idle word h ≡ []
  no_word_fault = rw (plain.other, plain.long, plain.short) refl

  pub turn_plain : turn_fault top [] (at idle p false h) word ≡ step_fault top p h value
  turn_plain = rw (met_plain, no_word_fault) refl

  pub walked_plain : walked rules [] (at idle p false h) word
      ≡ to_positional rules (arg_by_index rules p) word (at idle p false h) h
  unfolding walked
  walked_plain = rw met_plain refl

-- an option takes a plain word
abbrev pub waiting_for : Key → List Row → ℕ → Held
waiting_for key rows skip = record { rows = rows; pending = Some ((rule_at key).id, []); skip = skip }

-- an option waits for its value
abbrev pub awaiting : Key → Arguments → List Row → ℕ → Walk
awaiting key said rows skip =
    at (option (rule_at key).id) (suc (length said.positionals)) false (waiting_for key rows skip)

abbrev pub with_word : Key → Text → List Row → ℕ → Held
with_word key word rows skip = record { rows = rows; pending = Some ((rule_at key).id, word ∷ []); skip = skip }

module _ (key : Key) (p : ℕ) (word : Text) (rows : List Row) (skip : ℕ) (plain : IsPlain word) where
  taken_met : word_met rules [] false (option (rule_at key).id) p word (waiting_for key rows skip)
      ≡ plain_word rules (option (rule_at key).id) word (waiting_for key rows skip)
  taken_met = rw (plain.other, plain.long, plain.short) refl

  taken_fault : word_fault top [] false (option (rule_at key).id) word (waiting_for key rows skip) ≡ []
  taken_fault = rw (plain.other, plain.long, plain.short) refl

taken_word : (key : Key) (word : Text) (rows : List Row) (skip : ℕ)
    → plain_word rules (option (rule_at key).id) word (waiting_for key rows skip)
    ≡ (with_word key word rows skip, next idle)
taken_word Cycles word rows skip = refl
taken_word Ops word rows skip = refl
taken_word Slack word rows skip = refl

pub turn_taken : (key : Key) (p : ℕ) (word : Text) (rows : List Row) (skip : ℕ) → IsPlain word
    → turn_fault top [] (at (option (rule_at key).id) p false (waiting_for key rows skip)) word ≡ []
turn_taken key p word rows skip plain =
    rw (taken_met key p word rows skip plain ∙ taken_word key word rows skip, taken_fault key p word rows skip plain) refl

pub walked_taken : (key : Key) (p : ℕ) (word : Text) (rows : List Row) (skip : ℕ) → IsPlain word
    → walked rules [] (at (option (rule_at key).id) p false (waiting_for key rows skip)) word ≡ at idle p false
    (with_word key word rows skip)
unfolding walked
walked_taken key p word rows skip plain = rw (taken_met key p word rows skip plain ∙ taken_word key word rows skip) refl

-- ---- a word that begins with a hyphen

abbrev long_met_as : Text → Held → Option Rule → Option Text → Held × Step
long_met_as word h o v = after_flag rules idle word (long_met rules o v h).0 (long_met rules o v h).1

abbrev pub long_turn : Text → ℕ → Held → Option Rule → Option Text → Kinds
long_turn word p h o v =
    or_else (long_fault rules false o v h)
    (step_fault top p (long_met_as word h o v).0 (long_met_as word h o v).1)

abbrev pub long_walk : Text → ℕ → Held → Option Rule → Option Text → Walk
long_walk word p h o v =
    after_step rules word (at idle p false h) (long_met_as word h o v).0 (long_met_as word h o v).1

pub long_turn_is : (x : ℕ) (xs : Text) (p : ℕ) (h : Held)
    → turn_fault top [] (at idle p false h) (45 ∷ 45 ∷ x ∷ xs)
    ≡ long_turn (45 ∷ 45 ∷ x ∷ xs) p h (arg_by_long rules (name_in x xs)) (own_value x xs)
long_turn_is x xs p h = refl

pub long_walk_is : (x : ℕ) (xs : Text) (p : ℕ) (h : Held)
    → walked rules [] (at idle p false h) (45 ∷ 45 ∷ x ∷ xs)
    ≡ long_walk (45 ∷ 45 ∷ x ∷ xs) p h (arg_by_long rules (name_in x xs)) (own_value x xs)
unfolding walked
long_walk_is x xs p h = refl

-- a long word is a fault where what is pending is one
long_bad : (o : Option Rule) (v : Option Text) (h : Held) → (settle_at h ≡ [] → ⊥)
    → long_fault rules false o v h ≡ [] → ⊥
long_bad None v h bad e = some_kind _ _ e
long_bad (Some a) v h bad e = go (takes_values a) v e
  where
    go : (b : Bool) (w : Option Text)
        → cond b (option_fault rules false a w h) (cond (is_some w) (kind.TooManyValues ∷ []) (react_fault rules false a [] h)) ≡ [] → ⊥
    go true None f = bad f
    go false (Some x) f = some_kind _ _ f
    go b w f = bad (first_clear _ _ f)

pub long_refused : (waiting : Waiting) (x : ℕ) (xs : Text) (p : ℕ) (h : Held) → (settle_at h ≡ [] → ⊥)
    → turn_fault top [] (at waiting p false h) (45 ∷ 45 ∷ x ∷ xs) ≡ [] → ⊥
long_refused idle x xs p h bad e =
    long_bad (arg_by_long rules (name_in x xs)) (own_value x xs) h bad (first_clear _ _ e)
long_refused waiting x xs p h bad e =
    long_bad (arg_by_long rules (name_in x xs)) (own_value x xs) h bad (first_clear _ _ e)

module _ (y : ℕ) (ys : Text) (ne : (y == 45) ≡ false) where
  short_other : bytes_eq (45 ∷ y ∷ ys) (45 ∷ 45 ∷ []) ≡ false
  short_other = ap (λ b. b && bytes_eq ys []) ne

  short_long : long_of (45 ∷ y ∷ ys) ≡ None
  short_long = ap (λ b. option_and_then long_of_rest (cond b (Some ys) None)) ne

  short_flags : short_of (45 ∷ y ∷ ys) ≡ Some (y ∷ ys)
  short_flags = ap (λ b. cond b None (Some (y ∷ ys))) ne

  short_bundle : HasFlags y ys → (h : Held) → h.skip ≡ 0
      → bundle_fault rules false (y ∷ ys) h ≡ kind.UnknownArgument ∷ []
  unfolding flags_fault
  short_bundle f h none =
      ap (λ k. flags_fault rules false k (y ∷ ys) h.skip (record h { skip = 0 }))
      (let l : length (y ∷ ys) ≡ suc (length ys) = refl in l)
      ∙ ap (λ k. flags_fault rules false (suc (length ys)) (y ∷ ys) k (record h { skip = 0 })) none
      ∙ ap (λ o. bundle_step_fault rules false o (y ∷ ys) 0 (record h { skip = 0 })
      (flags_fault rules false (length ys))) f.1

  short_fault : HasFlags y ys → (h : Held) → h.skip ≡ 0
      → cond (bytes_eq (45 ∷ y ∷ ys) (45 ∷ 45 ∷ [])) [] (flag_word_fault rules false (long_of (45 ∷ y ∷ ys)) (45 ∷ y ∷ ys) h)
      ≡ kind.UnknownArgument ∷ []
  short_fault f h none =
      ap (λ b. cond b [] (flag_word_fault rules false (long_of (45 ∷ y ∷ ys)) (45 ∷ y ∷ ys) h)) short_other
      ∙ ap (λ l. flag_word_fault rules false l (45 ∷ y ∷ ys) h) short_long
      ∙ ap (λ s. option_map_or (λ flags. bundle_fault rules false flags h) s []) short_flags
      ∙ short_bundle f h none

  pub short_refused : (waiting : Waiting) (p : ℕ) (h : Held) → HasFlags y ys → h.skip ≡ 0
      → turn_fault top [] (at waiting p false h) (45 ∷ y ∷ ys) ≡ [] → ⊥
  short_refused idle p h f none e = some_kind _ _ (sym (short_fault f h none) ∙ first_clear _ _ e)
  short_refused waiting p h f none e = some_kind _ _ (sym (short_fault f h none) ∙ first_clear _ _ e)

-- ---- what is pending is a fault

step_bad : (p : ℕ) (h : Held) → (settle_at h ≡ [] → ⊥) → step_fault top p h value ≡ [] → ⊥
step_bad p h bad e = grind (arith, and_false)

pub stuck_trailing : (waiting : Waiting) (p : ℕ) (h : Held) → (settle_at h ≡ [] → ⊥) → (words : List Text)
    → Fails (at waiting p true h) words
unfolding walk_fault
stuck_trailing waiting p h bad [] = λ e s. bad s
stuck_trailing waiting p h bad (word ∷ rest) = λ e s. step_bad p h bad (first_clear _ _ e)

-- after `--` what is pending is as it was
pub after_ends : (waiting : Waiting) (p : ℕ) (h : Held) → subcommand_met [] waiting (45 ∷ 45 ∷ []) ≡ None
    → (rest : List Text) → Fails (at waiting p true h) rest
    → Fails (at waiting p false h) ((45 ∷ 45 ∷ []) ∷ rest)
unfolding walk_fault walked
after_ends idle p h none rest f = f
after_ends waiting p h none rest f = f

turn_fails : (w : Walk) (word : Text) (rest : List Text) → (turn_fault top [] w word ≡ [] → ⊥)
    → Fails w (word ∷ rest)
unfolding walk_fault
turn_fails w word rest bad = λ e s. bad (first_clear _ _ e)

-- a word after an option that waits, where it begins with a hyphen
hyphen_word : (waiting : Waiting) (p : ℕ) (h : Held) → (settle_at h ≡ [] → ⊥)
    → subcommand_met [] waiting (45 ∷ 45 ∷ []) ≡ None → h.skip ≡ 0 → (word : Text) (rest : List Text)
    → IsUtf8 word → ViewName word
    → (IsPlain word → Fails (at waiting p false h) (word ∷ rest)) → Fails (at waiting p false h) (word ∷ rest)
hyphen_word waiting p h bad none skip _ rest u (as_plain word b is) otherwise = otherwise is
hyphen_word waiting p h bad none skip word rest u dash otherwise = otherwise hyphen_plain
hyphen_word waiting p h bad none skip word rest u ends otherwise =
    after_ends waiting p h none rest (stuck_trailing waiting p h bad rest)
hyphen_word waiting p h bad none skip word rest u (long x xs) otherwise =
    turn_fails _ _ rest (long_refused waiting x xs p h bad)
hyphen_word waiting p h bad none skip word rest u (short y ys ne) otherwise =
    turn_fails _ _ rest (short_refused y ys ne waiting p h (has_flags y ys u) skip)

pub stuck_idle : (p : ℕ) (h : Held) → (settle_at h ≡ [] → ⊥) → h.skip ≡ 0 → (words : List Text)
    → AllByRecursion IsUtf8 words → Fails (at idle p false h) words
unfolding walk_fault
stuck_idle p h bad skip [] u = λ e s. bad s
stuck_idle p h bad skip (word ∷ rest) u =
    hyphen_word idle p h bad refl skip word rest u.0 (view word)
    (λ plain. turn_fails _ word rest (λ e. step_bad p h bad (sym (turn_plain p word h plain) ∙ e)))
