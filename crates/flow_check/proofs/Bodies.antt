-- Statements that keep the rules of reading, and what these give of bodies.
use Rattle.std.proofs.Common.{◌≡◌, ℕ, suc, ◌+◌, ◌<◌, ◌≤◌, List, [], ◌∷◌, ◌++◌, length, take, take_while, Option, None, Some, option_map}
use Rattle.std.proofs.Common.{is_some, Bool, true, false, not, cond, refl, sym, ap, subst, ◌∙◌, arith, true≢false, append_assoc, slice_get}
use Rattle.std.proofs.Common.{IfSome, count_by, append-nil}
use Rattle.std.proofs.{lemmas.Bool.and_parts, lemmas.Bool.Decides.nat_tests, lemmas.List.reverse-append, lemmas.List.Sums.take_while-cons}
use Rattle.std.proofs.{lemmas.List.Sums.sum_by-cons, lemmas.List.Elements.All-nil, lemmas.List.Elements.All-cons}
use Rattle.std.proofs.lemmas.List.Folds.{list_any-append, list_all-append}
use Rattle.std.specs.{Prelude.◌&&◌, Prelude.reverse, Prelude.nat_le, Str.bytes_eq}
use Rattle.std.specs.List.{list_all, filter_map, cons_option, All}
use Rattle.flow_check.specs.{Statement, Scale, limits_at, Expr, UnOp, Op, reach, nodes, depth, IsExpressionSound, Timed, Next, Name}
use Rattle.flow_check.specs.{places_written, expressions_of, memory_used, port_of, parts, Part, expr_parts, op_parts, may_follow, is_among}
use Rattle.flow_check.specs.{is_no_module, is_no_block, channels, registers, memories, temps, declared_channel, register_name, memory_name}
use Rattle.flow_check.specs.{temp_name, is_operation, in_body, is_well_named, is_in_range, is_new, is_known, is_sized, has_room}
use Rattle.flow_check.specs.{statement_fault, KeepsRules, KeepsReadingRules, is_small, has_small_trees, name_number, Scope, Level, first_or}
use Rattle.flow_check.specs.{kind_of, len_of, begins, body_of, numbered_expr, places, operation, timed, terminator, IsKindRead, IsNextRead}
use Rattle.session_plan.specs.Sections.{declared}
use Rattle.flow_design.specs.{declared.limits.TheConstants.BLOCK_CLOCKS, declared.expr.Expr.TheVariants.Unary}
use Rattle.flow_design.specs.{declared.expr.UnOp.TheVariants.Not, declared.session.Statement.TheVariants.Loop}
use Rattle.flow_grammar.proofs.Induction.{by_cases}
use Rattle.flow_grammar.proofs.Trees.{folded-Number, folded-Var, folded-Unary, folded-Binary, folded-Sext, folded-Pick}
use Rattle.flow_grammar.proofs.SpellingLaws.{parts_Var, parts_Unary, parts_Binary, parts_Sext, parts_Pick}
use Rattle.session_plan.proofs.Trees.{numbered_number, numbered_var, numbered_unary, numbered_binary, numbered_sext, numbered_pick}
use Rattle.session_plan.specs.declared.section.Level.TheVariants as level
use Rattle.flow_design.specs.declared.expr.Op.TheVariants as op
use Rattle.flow_design.specs.declared.session.Statement.TheVariants as s
use Rattle.flow_design.specs.declared.design.Next.TheVariants as next
use Rattle.session_plan.specs.declared.section.Sort.TheVariants as sort

-- the statement keeps the rules at a scale after these, the latest first
pub record Keeps (scale : Scale) (earlier : List Statement) (s : Statement) : Type 0 where
  pub named : list_all is_well_named (parts s) ≡ true
  pub permitted : may_follow earlier s ≡ true
  pub ranged : list_all is_in_range (parts s) ≡ true
  pub sized : is_sized scale s ≡ true
  pub fresh : list_all (is_new earlier) (parts s) ≡ true
  pub known : list_all (is_known earlier) (parts s) ≡ true
  pub room : has_room scale earlier s ≡ true

-- each of these keeps them after those before it
abbrev pub Follow : Scale → List Statement → List Statement → Type 0
Follow scale earlier [] = Unit {0}
Follow scale earlier (s ∷ rest) = Keeps scale earlier s × Follow scale (s ∷ earlier) rest

keeps : (scale : Scale) (before : List Statement) (s : Statement) → KeepsRules scale before s → Keeps scale (reverse before) s
unfolding statement_fault
keeps scale before s rules = record {
  named = rules.well_named;
  permitted = rules.permitted;
  ranged = grind arith;
  sized = grind arith;
  fresh = grind arith;
  known = grind arith;
  room = grind arith;
}

following : (scale : Scale) (front statements : List Statement)
    → ((i : ℕ) (s : Statement) → slice_get statements i ≡ Some s → KeepsRules scale (front ++ take i statements) s)
    → Follow scale (reverse front) statements
following scale front [] each = tt
following scale front (s ∷ rest) each = (
  keeps scale front s (subst (λ (l : List Statement). KeepsRules scale l s) (append-nil front) (each 0 s refl)),
  subst (λ (l : List Statement). Follow scale l rest) (reverse-append front (s ∷ [])) (following scale (front ++ s ∷ []) rest (λ i t e.
      subst (λ (l : List Statement). KeepsRules scale l t) (sym (append_assoc front (s ∷ []) (take i rest))) (each (suc i) t e))),
)

pub all_follow : (scale : Scale) (statements : List Statement) → KeepsReadingRules scale statements → Follow scale [] statements
all_follow scale statements rules = following scale [] statements rules.each

-- ---- bodies

-- none of these begins a section
abbrev pub Plain : Level → List Statement → Type 0
Plain level [] = Unit {0}
Plain level (s ∷ rest) = (begins level s ≡ false) × Plain level rest

-- what the empty list has, and the first statement with the rest of its body, the body of all has
pub of_body : (P : List Statement → Type 0) (level : Level) (s : Statement) (rest : List Statement) → P []
    → (begins level s ≡ false → P (s ∷ body_of level rest)) → P (body_of level (s ∷ rest))
of_body P level s rest none more =
    subst P (sym (take_while-cons (λ t. not (begins level t)) s rest)) (by (begins level s) refl)
  where
    by : (b : Bool) → begins level s ≡ b → P (cond (not b) (s ∷ body_of level rest) [])
    by true e = none
    by false e = more e

pub plain_body : (level : Level) (rest : List Statement) → Plain level (body_of level rest)
plain_body level [] = tt
plain_body level (s ∷ rest) = of_body (Plain level) level s rest tt (λ e. (e, plain_body level rest))

pub follow_body : (scale : Scale) (level : Level) (earlier rest : List Statement) → Follow scale earlier rest
    → Follow scale earlier (body_of level rest)
follow_body scale level earlier [] follow = tt
follow_body scale level earlier (s ∷ rest) follow =
    of_body (Follow scale earlier) level s rest tt (λ e. (follow.0, follow_body scale level (s ∷ earlier) rest follow.1))

-- what stands before, as far as the last beginning
abbrev pub inside : Level → List Statement → List Statement
inside level.Modules earlier = take_while is_no_module earlier
inside level.Blocks earlier = take_while is_no_block earlier

pub no_beginning : (level : Level) (s : Statement) → begins level s ≡ false → (earlier : List Statement)
    → inside level (s ∷ earlier) ≡ s ∷ inside level earlier
no_beginning level s h earlier =
    let own = take_while-cons is_no_module s earlier in let body = take_while-cons is_no_block s earlier in grind arith

pub nothing_inside : (level : Level) (s : Statement) → begins level s ≡ true → (earlier : List Statement) → inside level (s ∷ earlier) ≡ []
nothing_inside level s h earlier =
    let own = take_while-cons is_no_module s earlier in let body = take_while-cons is_no_block s earlier in grind arith

-- a part of the statements before, which grows with each of these
abbrev pub Grows : (List Statement → List Statement) → List Statement → Type 0
Grows part [] = Unit {0}
Grows part (s ∷ rest) = ((earlier : List Statement) → part (s ∷ earlier) ≡ s ∷ part earlier) × Grows part rest

pub grows : (level : Level) (body : List Statement) → Plain level body → Grows (inside level) body
grows level [] plain = tt
grows level (s ∷ body) plain = (no_beginning level s plain.0, grows level body plain.1)

-- ---- counts

-- where each statement that f takes finds fewer than the limit that it took before, it takes at most as many as the limit
within : {Y : Type 0} (scale : Scale) (part : List Statement → List Statement) (f : Statement → Option Y) (most : ℕ)
    → ((earlier : List Statement) (s : Statement) → Keeps scale earlier s → is_some (f s) ≡ true
    → length (filter_map f (part earlier)) < most)
    → (earlier body : List Statement) → Follow scale earlier body → Grows part body → length (filter_map f (part earlier)) ≤ most
    → length (filter_map f (part earlier)) + length (filter_map f body) ≤ most
within scale part f most few earlier [] follow grown h = omega arith
within scale part f most few earlier (s ∷ body) follow grown h =
    let later = within scale part f most few (s ∷ earlier) body follow.1 grown.1 in
    let below = few earlier s follow.0 in
    let more = ap (λ (l : List Statement). length (filter_map f l)) (grown.0 earlier) in
    grind arith

-- the same where nothing stands before
pub at_most : {Y : Type 0} (scale : Scale) (part : List Statement → List Statement) (f : Statement → Option Y) (most : ℕ)
    → ((earlier : List Statement) (s : Statement) → Keeps scale earlier s → is_some (f s) ≡ true
    → length (filter_map f (part earlier)) < most)
    → (earlier body : List Statement) → part earlier ≡ [] → Follow scale earlier body → Grows part body → length (filter_map f body) ≤ most
at_most scale part f most few earlier body nothing follow grown =
    let none : length (filter_map f (part earlier)) ≡ 0 = ap (λ (l : List Statement). length (filter_map f l)) nothing in
    let all = within scale part f most few earlier body follow grown (omega arith) in
    omega arith

-- what takes the same statements takes as many
pub as_many : {X Y Z : Type 0} (f : X → Option Y) (g : X → Option Z) → ((x : X) → is_some (f x) ≡ is_some (g x)) → (xs : List X)
    → length (filter_map f xs) ≡ length (filter_map g xs)
as_many f g same [] = refl
as_many f g same (x ∷ xs) = let one = same x in let later = as_many f g same xs in grind arith

-- ---- names

-- the number of a name that is among these is below their count
pub number_below : (names : List Name) (n : Name) → is_among names n ≡ true → name_number names n < length names
number_below [] n h = absurd cc
number_below (m ∷ names) n h = let later = number_below names n in grind arith

-- what is among these is among those
abbrev pub Within : List Name → List Name → Type 0
Within names more = (n : Name) → is_among names n ≡ true → is_among more n ≡ true

pub within_both : (a b c d : List Name) → Within a c → Within b d → Within (a ++ b) (c ++ d)
within_both a b c d f g n h =
    let one = f n in let two = g n in
    let whole = list_any-append (bytes_eq n) a b in let more = list_any-append (bytes_eq n) c d in
    grind arith

-- the names of a part of the statements before, where those of that part and of the statements left are among these
abbrev pub Heard : (Statement → Option Name) → List Name → List Statement → Type 0
Heard f names statements = Within (filter_map f statements) names

pub heard_none : (f : Statement → Option Name) (names : List Name) → Heard f names []
heard_none f names n h = absurd (true≢false (sym h))

pub heard_more : (f : Statement → Option Name) (names : List Name) (s : Statement) (before after : List Statement)
    → Heard f names before → Heard f names (s ∷ after) → Heard f names (s ∷ before)
heard_more f names s before after was comes n = let old = was n in let new = comes n in grind arith

pub heard_later : (f : Statement → Option Name) (names : List Name) (s : Statement) (after : List Statement) → Heard f names (s ∷ after)
    → Heard f names after
heard_later f names s after comes n h = let new = comes n in grind arith

-- those of the statements before and of the statements left are among these
abbrev pub Both : (Statement → Option Name) → List Name → List Statement → List Statement → Type 0
Both f names before after = Heard f names before × Heard f names after

pub both_more : (f : Statement → Option Name) (names : List Name) (s : Statement) (before after : List Statement)
    → Both f names before (s ∷ after) → Both f names (s ∷ before) after
both_more f names s before after h = (heard_more f names s before after h.0 h.1, heard_later f names s after h.1)

-- ---- expressions and operations whose names are known, over numbers

-- ---- ranges

pub in_range : (least n most : ℕ) → nat_le least n && nat_le n most ≡ true → (least ≤ n) × (n ≤ most)
in_range least n most h = (grind (arith, nat_tests), grind (arith, nat_tests))

pub at_most_as : (n most : ℕ) → nat_le n most ≡ true → n ≤ most
at_most_as n most h = grind (arith, nat_tests)

-- ---- sizes

module _ (names : List Name) where
  sizes_kept : (e : Expr Name) → (nodes (numbered_expr names e) ≡ nodes e) × (depth (numbered_expr names e) ≡ depth e)
  unfolding nodes depth
  sizes_kept = by_cases Name (λ e. (nodes (numbered_expr names e) ≡ nodes e) × (depth (numbered_expr names e) ≡ depth e)) (record {
    number = λ n. (simp (numbered_number, folded-Number), simp (numbered_number, folded-Number));
    var = λ x. (simp (numbered_var, folded-Var), simp (numbered_var, folded-Var));
    unary = λ o a h. (simp (numbered_unary, folded-Unary, h.0), simp (numbered_unary, folded-Unary, h.1));
    binary = λ o a b h k. (simp (numbered_binary, folded-Binary, h.0, k.0), simp (numbered_binary, folded-Binary, h.1, k.1));
    sext = λ w a h. (simp (numbered_sext, folded-Sext, h.0), simp (numbered_sext, folded-Sext, h.1));
    pick = λ a b c h k l.
        (simp (numbered_pick, folded-Pick, h.0, k.0, l.0), simp (numbered_pick, folded-Pick, h.1, k.1, l.1));
  })

-- ---- names that are known

module _ (earlier : List Statement) (names : List Name) (heard : Within (registers earlier ++ temps earlier) names) where
  abbrev Known : List Part → Type 0
  Known ps = list_all (is_known earlier) ps ≡ true

  abbrev Reaches : Expr Name → Type 0
  Reaches e = Known (expr_parts e) → reach (numbered_expr names e) ≤ length names

  halves : (ps qs : List Part) → Known (ps ++ qs) → Known ps × Known qs
  halves ps qs h = and_parts (list_all (is_known earlier) ps) (list_all (is_known earlier) qs)
      (sym (list_all-append (is_known earlier) ps qs) ∙ h)

  pub variable_below : (x : Name) → is_among (registers earlier ++ temps earlier) x ≡ true → name_number names x < length names
  variable_below x h = number_below names x (heard x h)

  reach_unary : (o : UnOp) (a : Expr Name) → Reaches a → Reaches (Unary o a)
  unfolding reach
  reach_unary Not a h known = simp (numbered_unary, folded-Unary) (h (rw parts_Unary at known))

  reached : (e : Expr Name) → Reaches e
  unfolding reach
  reached = by_cases Name Reaches (record {
    number = λ n known. simp (numbered_number, folded-Number) (omega arith);
    var = λ x known.
        let below = variable_below x (and_parts _ true (rw parts_Var at known)).0 in simp (numbered_var, folded-Var) (omega arith);
    unary = reach_unary;
    binary = λ o a b h k known.
        let both = halves (expr_parts a) (expr_parts b) (rw parts_Binary at known) in
        let one = h both.0 in let two = k both.1 in simp (numbered_binary, folded-Binary) (omega arith);
    sext = λ w a h known. simp (numbered_sext, folded-Sext) (h (rw parts_Sext at known));
    pick = λ a b c h k l known.
        let first = halves (expr_parts a) (expr_parts b ++ expr_parts c) (rw parts_Pick at known) in
        let later = halves (expr_parts b) (expr_parts c) first.1 in
        let one = h first.0 in let two = k later.0 in let three = l later.1 in simp (numbered_pick, folded-Pick) (omega arith);
  })

  sound : (e : Expr Name) → Known (expr_parts e) → is_small e ≡ true → IsExpressionSound (length names) (numbered_expr names e)
  sound e known small =
      let sizes = sizes_kept names e in
      record { variables = reached e known; size = grind (arith, nat_tests); height = grind (arith, nat_tests) }

-- ---- operations

-- an operation over so many places, memories and channels
pub record OpRead (places memories channels : ℕ) (o : Op ℕ) : Type 0 where
  pub at : All (λ x. x < places) (places_written o)
  pub expressions : All (IsExpressionSound places) (expressions_of o)
  pub memory : IfSome (memory_used o) (λ n. n < memories)
  pub channel : IfSome (port_of o) (λ a. a.channel < channels)

module _ (earlier : List Statement) (scope : Scope) (heard : Within (registers earlier ++ temps earlier) (places scope))
    (heard_memories : Within (memories earlier) scope.memories) (heard_channels : Within (channels earlier) scope.channels) where
  abbrev V : Name → Bool
  V x = is_among (registers earlier ++ temps earlier) x

  abbrev IsPlace : ℕ → Type 0
  IsPlace x = x < length (places scope)

  abbrev IsSound : Expr ℕ → Type 0
  IsSound e = IsExpressionSound (length (places scope)) e

  place : (x : Name) → V x ≡ true → IsPlace (name_number (places scope) x)
  place x h = variable_below earlier (places scope) heard x h

  tree : (e : Expr Name) → list_all (is_known earlier) (expr_parts e) ≡ true → is_small e ≡ true → IsSound (numbered_expr (places scope) e)
  tree e known small = sound earlier (places scope) heard e known small

  one : {X : Type 0} (P : X → Type 0) (x : X) → P x → All P (x ∷ [])
  one P x h = All-cons P x [] h (All-nil P)

  channel : (f : Name) → is_among (channels earlier) f ≡ true → name_number scope.channels f < length scope.channels
  channel f h = number_below scope.channels f (heard_channels f h)

  -- a channel and a variable
  named : (f x : Name) → (is_among (channels earlier) f && (V x && true)) ≡ true
      → All IsPlace (name_number (places scope) x ∷ []) × (name_number scope.channels f < length scope.channels)
  named f x known =
      let a = and_parts _ _ known in
      (one IsPlace _ (place x (and_parts _ _ a.1).0), channel f a.0)

  pub op_read : (o : Op Name) → list_all (is_known earlier) (op_parts o) ≡ true → has_small_trees o ≡ true
      → OpRead (length (places scope)) (length scope.memories) (length scope.channels) (operation scope o)
  op_read (op.Set x e) known small =
      let a = and_parts _ _ known in
      record { at = one IsPlace _ (place x a.0); expressions = one IsSound _ (tree e a.1 small); memory = tt; channel = tt }
  op_read (op.Load x m e) known small =
      let a = and_parts _ _ known in let b = and_parts _ _ a.1 in let m_there = number_below scope.memories m (heard_memories m b.0) in
      record { at = one IsPlace _ (place x a.0); expressions = one IsSound _ (tree e b.1 small); memory = m_there; channel = tt }
  op_read (op.Store m e f) known small =
      let a = and_parts _ _ known in
      let b = and_parts (list_all (is_known earlier) (expr_parts e)) (list_all (is_known earlier) (expr_parts f))
      (sym (list_all-append (is_known earlier) (expr_parts e) (expr_parts f)) ∙ a.1) in
      let s = and_parts _ _ small in
      record {
        at = All-nil IsPlace;
        expressions = All-cons IsSound _ (numbered_expr (places scope) f ∷ []) (tree e b.0 s.0)
            (one IsSound _ (tree f b.1 s.1));
        memory = number_below scope.memories m (heard_memories m a.0);
        channel = tt;
      }
  op_read (op.Read f x) known small =
      let n = named f x known in record { at = n.0; expressions = All-nil IsSound; memory = tt; channel = n.1 }
  op_read (op.Write f e) known small =
      let a = and_parts _ _ known in
      record { at = All-nil IsPlace; expressions = one IsSound _ (tree e a.1 small); memory = tt; channel = channel f a.0 }
  op_read (op.TryRead f x ok) known small =
      let a = and_parts _ _ known in let b = and_parts _ _ a.1 in let c = and_parts _ _ b.1 in
      let both = All-cons IsPlace _ (name_number (places scope) ok ∷ []) (place x b.0) (one IsPlace _ (place ok c.0)) in
      record { at = both; expressions = All-nil IsSound; memory = tt; channel = channel f a.0 }
  op_read (op.TryWrite f ok e) known small =
      let a = and_parts _ _ known in let b = and_parts _ _ a.1 in
      record { at = one IsPlace _ (place ok b.0); expressions = one IsSound _ (tree e b.1 small); memory = tt; channel = channel f a.0 }
  op_read (op.Empty f x) known small =
      let n = named f x known in record { at = n.0; expressions = All-nil IsSound; memory = tt; channel = n.1 }
  op_read (op.Full f x) known small =
      let n = named f x known in record { at = n.0; expressions = All-nil IsSound; memory = tt; channel = n.1 }

-- ---- what the rules of reading give of bodies and blocks

-- ---- the same names and counts, by either function

pub register_same : (x : Statement) → register_name x ≡ declared sort.Registers x
register_same x = grind arith

pub memory_same : (x : Statement) → memory_name x ≡ declared sort.Memories x
memory_same x = grind arith

pub temp_same : (x : Statement) → temp_name x ≡ declared sort.Temps x
temp_same x = grind arith

pub channel_same : (x : Statement) → declared_channel x ≡ declared sort.Channels x
channel_same x = grind arith

-- where g declares what f does, all the names that f gives are heard
pub heard_all : (f g : Statement → Option Name) → ((x : Statement) → f x ≡ g x) → (xs : List Statement) → Heard f (filter_map g xs) xs
heard_all f g same xs = subst (λ (names : List Name). Heard f names xs) (λ i. filter_map (λ x. same x i) xs) (λ n h. h)

-- the operations of a body are as many as it counts
counted : {X Y : Type 0} (p : X → Bool) (f : X → Option Y) → ((x : X) → is_some (f x) ≡ p x) → (xs : List X)
    → length (filter_map f xs) ≡ count_by p xs
counted p f same [] = refl
counted p f same (x ∷ xs) =
    let one = same x in let later = counted p f same xs in let more = sum_by-cons (λ y. cond (p y) 1 0) x xs in grind arith

-- ---- the names that are heard at a statement

pub heard_body : (f : Statement → Option Name) (names : List Name) (level : Level) (rest : List Statement) → Heard f names rest
    → Heard f names (body_of level rest)
heard_body f names level [] h = h
heard_body f names level (x ∷ rest) h =
    of_body (Heard f names) level x rest (heard_none f names)
    (λ e. heard_more f names x (body_of level rest) rest (heard_body f names level rest (heard_later f names x rest h)) h)

pub record Hears (scope : Scope) (earlier rest : List Statement) : Type 0 where
  pub channels : Both declared_channel scope.channels earlier rest
  pub registers : Both register_name scope.registers (inside level.Modules earlier) rest
  pub memories : Both memory_name scope.memories (inside level.Modules earlier) rest

pub hears_more : (scope : Scope) (earlier : List Statement) (x : Statement) (rest : List Statement) → begins level.Modules x ≡ false
    → Hears scope earlier (x ∷ rest) → Hears scope (x ∷ earlier) rest
hears_more scope earlier x rest plain h =
    let e : inside level.Modules (x ∷ earlier) ≡ x ∷ inside level.Modules earlier = no_beginning level.Modules x plain earlier in
    record {
      channels = both_more declared_channel scope.channels x earlier rest h.channels;
      registers = rw e (both_more register_name scope.registers x (inside level.Modules earlier) rest h.registers);
      memories = rw e (both_more memory_name scope.memories x (inside level.Modules earlier) rest h.memories);
    }

pub hears_body : (scope : Scope) (earlier : List Statement) (level : Level) (rest : List Statement) → Hears scope earlier rest
    → Hears scope earlier (body_of level rest)
hears_body scope earlier level rest h = record {
  channels = (h.channels.0, heard_body declared_channel scope.channels level rest h.channels.1);
  registers = (h.registers.0, heard_body register_name scope.registers level rest h.registers.1);
  memories = (h.memories.0, heard_body memory_name scope.memories level rest h.memories.1);
}

pub plain_later : (one two : Level) (rest : List Statement) → Plain one rest → Plain one (body_of two rest)
plain_later one two [] h = tt
plain_later one two (x ∷ rest) h = of_body (Plain one) two x rest tt (λ e. (h.0, plain_later one two rest h.1))

-- ---- operations of a body

abbrev pub TimedRead : Scope → Timed → Type 0
TimedRead own t = IfSome t.guard (λ g. g < length (places own))
    × OpRead (length (places own)) (length own.memories) (length own.channels) t.op

at_read : (scale : Scale) (earlier : List Statement) (own : Scope) → Within (registers earlier ++ temps earlier) (places own)
    → Within (memories earlier) own.memories → Within (channels earlier) own.channels
    → (offset : ℕ) (guard : Option Name) (o : Op Name) → Keeps scale earlier (s.At offset guard o)
    → TimedRead own (record { offset = offset; guard = option_map (name_number (places own)) guard; op = operation own o })
at_read scale earlier own v m c offset None o keeps =
    let small = and_parts _ _ keeps.room in
    (tt, op_read earlier own v m c o keeps.known small.1)
at_read scale earlier own v m c offset (Some r) o keeps =
    let small = and_parts _ _ keeps.room in let both = and_parts _ _ keeps.known in
    (number_below (places own) r (v r both.0), op_read earlier own v m c o both.1 small.1)

timed_more : (scale : Scale) (earlier : List Statement) (own : Scope) → Within (registers earlier ++ temps earlier) (places own)
    → Within (memories earlier) own.memories → Within (channels earlier) own.channels
    → (x : Statement) → Keeps scale earlier x → (later : List Timed) → All (TimedRead own) later
    → All (TimedRead own) (cons_option (timed own x) later)
timed_more scale earlier own v m c (s.At offset guard o) keeps later h
    = All-cons (TimedRead own) _ later (at_read scale earlier own v m c offset guard o keeps) h
timed_more scale earlier own v m c x keeps later h = h

pub ops_read : (scale : Scale) (own : Scope) (earlier body : List Statement) → Follow scale earlier body → Plain level.Modules body
    → Plain level.Blocks body
    → Hears own earlier body → Both temp_name own.temps (inside level.Blocks earlier) body
    → All (TimedRead own) (filter_map (timed own) body)
ops_read scale own earlier [] follow pm pb hears t = All-nil (TimedRead own)
ops_read scale own earlier (x ∷ body) follow pm pb hears t =
    timed_more scale earlier own (within_both (registers earlier) (temps earlier) own.registers own.temps hears.registers.0 t.0)
    hears.memories.0 hears.channels.0 x follow.0 (filter_map (timed own) body)
    (ops_read scale own (x ∷ earlier) body follow.1 pm.1 pb.1 (hears_more own earlier x body pm.0 hears)
    (rw (no_beginning level.Blocks x pb.0 earlier) (both_more temp_name own.temps x (inside level.Blocks earlier) body t)))

-- ---- the terminator

next_more : (scale : Scale) (own : Scope) (earlier : List Statement) (x : Statement) → Keeps scale earlier x
    → Within (registers earlier) own.registers
    → (later : List Next)
    → IsNextRead (length own.registers) (first_or next.Stop later)
    → IsNextRead (length own.registers) (first_or next.Stop (cons_option (terminator own x) later))
next_more scale own earlier (s.Goto b) keeps heard later h = tt
next_more scale own earlier (s.Branch r b c) keeps heard later h =
    let known = and_parts _ _ keeps.known in
    number_below own.registers r (heard r known.0)
next_more scale own earlier s.Stop keeps heard later h = tt
next_more scale own earlier x keeps heard later h = h

pub next_read : (scale : Scale) (own : Scope) (earlier body : List Statement) → Follow scale earlier body → Plain level.Modules body
    → Hears own earlier body
    → IsNextRead (length own.registers) (first_or next.Stop (filter_map (terminator own) body))
next_read scale own earlier [] follow pm hears = tt
next_read scale own earlier (x ∷ body) follow pm hears =
    next_more scale own earlier x follow.0 hears.registers.0 (filter_map (terminator own) body)
    (next_read scale own (x ∷ earlier) body follow.1 pm.1 (hears_more own earlier x body pm.0 hears))

-- ---- blocks

pub few_temps : (scale : Scale) (earlier : List Statement) (x : Statement) → Keeps scale earlier x → is_some (declared sort.Temps x) ≡ true
    → length (filter_map (declared sort.Temps) (inside level.Blocks earlier)) < (limits_at scale).temps
few_temps scale earlier x keeps h =
    let room = keeps.room in let long = as_many temp_name (declared sort.Temps) (λ y. ap is_some (temp_same y)) (in_body earlier) in
    grind (arith, nat_tests)

pub few_operations : (scale : Scale) (own : Scope) (earlier : List Statement) (x : Statement) → Keeps scale earlier x
    → is_some (timed own x) ≡ true
    → length (filter_map (timed own) (inside level.Blocks earlier)) < (limits_at scale).operations
few_operations scale own earlier x keeps h =
    let room = keeps.room in let long = counted is_operation (timed own) (λ y. grind arith) (in_body earlier) in grind (arith, nat_tests)

pub len_read : (scale : Scale) (earlier : List Statement) (head : Statement) → begins level.Blocks head ≡ true
    → Keeps scale earlier head → (1 ≤ len_of head)
    × (len_of head ≤ (limits_at scale).block_clocks)
len_read scale earlier head b keeps =
    let ranged = keeps.ranged in let sized = keeps.sized in (grind (arith, nat_tests), grind (arith, nat_tests))

pub kind_read : (scale : Scale) (scope : Scope) (earlier : List Statement) (head : Statement) → Keeps scale earlier head
    → Within (registers earlier) scope.registers → IsKindRead (length scope.registers) (kind_of scope head)
kind_read scale scope earlier (s.Loop n ii len again) keeps heard =
    let first = and_parts _ _ keeps.ranged in let interval = in_range 1 ii BLOCK_CLOCKS first.0 in
    let known = and_parts _ _ keeps.known in
    (interval.0, number_below scope.registers again (heard again known.0))
kind_read scale scope earlier x keeps heard = tt
