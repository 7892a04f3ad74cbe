-- A refusal tells the first statement that breaks the first rule that is broken.
use Rattle.std.proofs.Common.{◌≡◌, ℕ, zero, suc, ◌+◌, List, [], ◌∷◌, length, map, Some, option_map, Bool, true, false, cond, refl, sym, ap}
use Rattle.std.proofs.Common.{subst, ◌∙◌, arith, true≢false, take, slice_get, ◌<◌, ◌≤◌, ◌++◌, Option, None, unwrap_or}
use Rattle.std.proofs.{lemmas.Bool.Decides.nat_tests, lemmas.List.Elements.All-nil, lemmas.List.Elements.All-cons}
use Rattle.std.proofs.lemmas.Bool.{cond_both, false_from_ne_true, or_right}
use Rattle.std.proofs.lemmas.Option.{same_Some, some_pair_parts, slice_get_within}
use Rattle.std.specs.List.{filter_map, All, list_any}
use Rattle.flow_check.specs.{Scale, Block, Name, Statement, Code, TextFault, Scope, timed, terminator, Level, first_or, channel}
use Rattle.flow_check.specs.{session_limits, block, scope_of, plan_module, channels_of, channel_names, plan_modules, plan_of, begins}
use Rattle.flow_check.specs.{body_of, sections, Spot, Item, CountsBefore, fault_on_line, fault_of, first_for, or_later, place_where, counts}
use Rattle.flow_check.specs.{item_after, items_after, items_of, same_item, is_item, item_place, leads_out, breaks_limits, clashes}
use Rattle.flow_check.specs.{is_too_late, is_on_wrong_side, broken_by, rules, checking_fault, some_passes, spot_breaks, channel_breaks}
use Rattle.flow_check.specs.{breaks, statement_breaks, TellsFirst}
use Rattle.flow_check.specs.declared.item.Spot.TheVariants.{Head, Operation, Terminator}
use Rattle.session_plan.specs.Sections.{declared}
use Rattle.flow_design.specs.declared.design.Module.{Module}
use Rattle.flow_design.specs.declared.limits.Scale.TheVariants.{Standard, Large}
use Rattle.flow_check.proofs.{Bodies.Plain, Bodies.of_body, Bodies.plain_body, Bodies.plain_later, Counting.counted}
use Rattle.flow_check.proofs.Firsts.{passed, mapped, where_some, where_least, broken_some, broken_least, one_item}
use Rattle.flow_design.specs.declared.session.Statement.TheVariants as s
use Rattle.flow_design.specs.declared.design.Next.TheVariants as next
use Rattle.flow_grammar.specs.declared.fault.Code.TheVariants as code
use Rattle.session_plan.specs.declared.section.Level.TheVariants as level
use Rattle.session_plan.specs.declared.section.Sort.TheVariants as sort
use Rattle.flow_check.specs.declared.item.Item.TheVariants as item

-- some statement after these stands for the item
abbrev pub stands : List Statement → List Statement → Item → Bool
stands earlier rest i = list_any (is_item i) (items_after earlier rest)

counts_more : (earlier rest : List Statement) (st : Statement) (i : Item) → stands (st ∷ earlier) rest i ≡ true
    → stands earlier (st ∷ rest) i ≡ true
counts_more earlier rest st i h = or_right (is_item i (item_after (counts earlier) st)) (stands (st ∷ earlier) rest i) h

-- what stands in a body stands in what the body begins
prepended : (l : Level) (earlier rest : List Statement) (i : Item) → stands earlier (body_of l rest) i ≡ true → stands earlier rest i ≡ true
prepended l earlier [] i h = h
prepended l earlier (st ∷ rest) i h =
    let later = prepended l (st ∷ earlier) rest i in
    of_body (λ (b : List Statement). stands earlier b i ≡ true → stands earlier (st ∷ rest) i ≡ true) l st rest
    (λ none. absurd (true≢false (sym none))) (λ e some. grind arith) h

-- ---- channels and limits

channel_stands : (earlier rest : List Statement) (n : ℕ) → (counts earlier).channels ≤ n
    → n < (counts earlier).channels + length (filter_map channel rest) → stands earlier rest (item.Channel n) ≡ true
channel_stands earlier [] n least most = absurd (omega arith)
channel_stands earlier (st ∷ rest) n least most =
    let step = counted earlier st in let later = channel_stands (st ∷ earlier) rest n in grind (arith, nat_tests)

-- the limits of a session that gives none are in their ranges
default_kept : (scale : Scale) → breaks_limits scale (session_limits scale []).0 (session_limits scale []).1 ≡ false
default_kept Standard = refl
default_kept Large = refl

limits_stand : (scale : Scale) (earlier rest : List Statement)
    → breaks_limits scale (session_limits scale rest).0 (session_limits scale rest).1 ≡ true
    → stands earlier rest item.Limits ≡ true
limits_stand scale earlier [] h = absurd (true≢false (sym h ∙ default_kept scale))
limits_stand scale earlier (st ∷ rest) h = let later = limits_stand scale (st ∷ earlier) rest in grind arith

-- ---- in a body

-- the last module and the last block have these numbers
record AreLast (before : CountsBefore) (m b : ℕ) : Type 0 where
  modules : before.modules ≡ m + 1
  blocks : before.blocks ≡ b + 1

module _ (m b : ℕ) (own : Scope) where
  last_more : (earlier : List Statement) (st : Statement) → begins level.Modules st ≡ false → begins level.Blocks st ≡ false
      → AreLast (counts earlier) m b → AreLast (counts (st ∷ earlier)) m b
  last_more earlier st x y last = let step = counted earlier st in record { modules = grind arith; blocks = grind arith }

  operation_stands : (earlier body : List Statement) (n : ℕ) → Plain level.Modules body → Plain level.Blocks body
      → AreLast (counts earlier) m b → (counts earlier).operations ≤ n
      → n < (counts earlier).operations + length (filter_map (timed own) body)
      → stands earlier body (item.InModule m (b, Operation n)) ≡ true
  operation_stands earlier [] n pm pb last least most = absurd (omega arith)
  operation_stands earlier (st ∷ body) n pm pb last least most =
      let step = counted earlier st in let plain = pb.0 in
      let later = operation_stands (st ∷ earlier) body n pm.1 pb.1 (last_more earlier st pm.0 pb.0 last) in
      grind (arith, nat_tests)

  terminator_stands : (count : ℕ) (earlier body : List Statement) → Plain level.Modules body → Plain level.Blocks body
      → AreLast (counts earlier) m b
      → leads_out count (first_or next.Stop (filter_map (terminator own) body)) ≡ true
      → stands earlier body (item.InModule m (b, Terminator)) ≡ true
  terminator_stands count earlier [] pm pb last h = absurd (true≢false (sym h))
  terminator_stands count earlier (st ∷ body) pm pb last h =
      let later = terminator_stands count (st ∷ earlier) body pm.1 pb.1 (last_more earlier st pm.0 pb.0 last) in
      grind (arith, nat_tests)

-- ---- in a module

-- what of a block is there, in a module of so many
abbrev There : ℕ → Block → Spot → Type 0
There count b Head = Unit {0}
There count b (Operation k) = k < length b.ops
There count b Terminator = leads_out count b.next ≡ true

there_is : {A : Type 0} (test : A → Bool) (xs : List A) (k : ℕ) → some_passes test (slice_get xs k) ≡ true → k < length xs
there_is test xs k h = let p = passed test (slice_get xs k) h in slice_get_within xs k p.0 p.1

there : (scale : Scale) (rule : Code) (m : Module) (b : Block) (a : Spot) → spot_breaks scale rule m b a ≡ true
    → There (length m.blocks) b a
there scale code.UnknownName m b Terminator h = h
there scale code.PortClash m b (Operation k) h = there_is (clashes b.kind (take k b.ops)) b.ops k h
there scale code.BadLoop m b Head h = tt
there scale code.BadOffset m b (Operation k) h = there_is (is_too_late b.len) b.ops k h
there scale code.WrongSide m b (Operation k) h = there_is (is_on_wrong_side m) b.ops k h
there scale rule m b a h = absurd (true≢false (sym h))

begun : (m : ℕ) (earlier : List Statement) (head : Statement) → begins level.Blocks head ≡ true → (counts earlier).modules ≡ m + 1
    → AreLast (counts (head ∷ earlier)) m (counts earlier).blocks × ((counts (head ∷ earlier)).operations ≡ 0)
begun m earlier head b e =
    let step = counted earlier head in (record { modules = grind arith; blocks = grind arith }, grind arith)

-- the block that begins here
block_here : (scope : Scope) (m count : ℕ) (earlier : List Statement) (head : Statement) (rest : List Statement)
    → begins level.Blocks head ≡ true → Plain level.Modules rest → (counts earlier).modules ≡ m + 1
    → (a : Spot) → There count (block scope (head, body_of level.Blocks rest)) a
    → stands earlier (head ∷ rest) (item.InModule m ((counts earlier).blocks, a)) ≡ true
unfolding block
block_here scope m count earlier head rest b plain e Head h = grind (arith, nat_tests)
block_here scope m count earlier head rest b plain e (Operation k) h =
    let own : Scope = record scope { temps = filter_map (declared sort.Temps) (body_of level.Blocks rest) } in
    let begins = begun m earlier head b e in let none = begins.1 in
    let i : Item = item.InModule m ((counts earlier).blocks, Operation k) in
    counts_more earlier rest head i (prepended level.Blocks (head ∷ earlier) rest i
    (operation_stands m (counts earlier).blocks own (head ∷ earlier) (body_of level.Blocks rest) k
    (plain_later level.Modules level.Blocks rest plain) (plain_body level.Blocks rest) begins.0 (omega arith) (omega arith)))
block_here scope m count earlier head rest b plain e Terminator h =
    let own : Scope = record scope { temps = filter_map (declared sort.Temps) (body_of level.Blocks rest) } in
    let i : Item = item.InModule m ((counts earlier).blocks, Terminator) in
    counts_more earlier rest head i (prepended level.Blocks (head ∷ earlier) rest i
    (terminator_stands m (counts earlier).blocks own count (head ∷ earlier) (body_of level.Blocks rest)
    (plain_later level.Modules level.Blocks rest plain) (plain_body level.Blocks rest) (begun m earlier head b e).0 h))

block_stands : (scope : Scope) (m count : ℕ) (earlier body : List Statement) (k n : ℕ) (blk : Block) (a : Spot) → Plain level.Modules body
    → (counts earlier).modules ≡ m + 1 → n ≡ (counts earlier).blocks + k
    → slice_get (map (block scope) (sections level.Blocks body)) k ≡ Some blk → There count blk a
    → stands earlier body (item.InModule m (n, a)) ≡ true
block_stands scope m count earlier [] k n blk a plain e is at h = absurd cc
block_stands scope m count earlier (st ∷ body) k n blk a plain e is at h =
    by (begins level.Blocks st) refl k is (λ j is q. block_stands scope m count (st ∷ earlier) body j n blk a plain.1 kept is q h) at
  where
    kept : (counts (st ∷ earlier)).modules ≡ m + 1
    kept = let step = counted earlier st in let same = plain.0 in grind arith

    by : (b : Bool) → begins level.Blocks st ≡ b → (k : ℕ) → n ≡ (counts earlier).blocks + k
        → ((j : ℕ) → n ≡ (counts (st ∷ earlier)).blocks + j → slice_get (map (block scope) (sections level.Blocks body)) j ≡ Some blk
        → stands (st ∷ earlier) body (item.InModule m (n, a)) ≡ true)
        → slice_get (map (block scope)
        (cond b ((st, body_of level.Blocks body) ∷ sections level.Blocks body) (sections level.Blocks body))) k ≡ Some blk
        → stands earlier (st ∷ body) (item.InModule m (n, a)) ≡ true
    by true b zero is more q =
        let same : blk ≡ block scope (st, body_of level.Blocks body) = cc in
        let here : (counts earlier).blocks ≡ n = omega arith in
        subst (λ (j : ℕ). stands earlier (st ∷ body) (item.InModule m (j, a)) ≡ true) here
        (block_here scope m count earlier st body b plain.1 e a (subst (λ (x : Block). There count x a) same h))
    by true b (suc k) is more q =
        counts_more earlier body st (item.InModule m (n, a)) (more k (let step = counted earlier st in grind arith) q)
    by false b k is more q =
        counts_more earlier body st (item.InModule m (n, a)) (more k (let step = counted earlier st in let same = plain.0 in grind arith) q)

-- ---- in a session

module_stands : (names : List Name) (earlier rest : List Statement) (k n c : ℕ) (own : Module) (blk : Block) (a : Spot)
    → n ≡ (counts earlier).modules + k
    → slice_get (map (plan_module names) (sections level.Modules rest)) k ≡ Some own → slice_get own.blocks c ≡ Some blk
    → There (length own.blocks) blk a → stands earlier rest (item.InModule n (c, a)) ≡ true
unfolding plan_module
module_stands names earlier [] k n c own blk a is at block_at h = absurd cc
module_stands names earlier (s.Module x ∷ rest) zero n c own blk a is at block_at h =
    let body : List Statement = body_of level.Modules rest in
    let step = counted earlier (s.Module x) in
    let same : plan_module names (s.Module x, body) ≡ own = cc in
    let blocks : slice_get (map (block (scope_of names body)) (sections level.Blocks body)) c ≡ Some blk
    = ap (λ (o : Module). slice_get o.blocks c) same ∙ block_at in
    counts_more earlier rest (s.Module x) (item.InModule n (c, a))
    (prepended level.Modules (s.Module x ∷ earlier) rest (item.InModule n (c, a))
    (block_stands (scope_of names body) n (length own.blocks) (s.Module x ∷ earlier) body c c blk a
    (plain_body level.Modules rest) (grind arith) (grind arith) blocks h))
module_stands names earlier (s.Module x ∷ rest) (suc k) n c own blk a is at block_at h =
    let step = counted earlier (s.Module x) in
    counts_more earlier rest (s.Module x) (item.InModule n (c, a))
    (module_stands names (s.Module x ∷ earlier) rest k n c own blk a (grind arith) at block_at h)
module_stands names earlier (st ∷ rest) k n c own blk a is at block_at h =
    let step = counted earlier st in
    counts_more earlier rest st (item.InModule n (c, a)) (module_stands names (st ∷ earlier) rest k n c own blk a (grind arith) at block_at h)

-- an item that breaks a rule has its statement
pub exists : (scale : Scale) (statements : List Statement) (rule : Code) (i : Item) → breaks scale (plan_of scale statements) rule i ≡ true
    → stands [] statements i ≡ true
unfolding plan_of
exists scale statements code.BadLimit item.Limits h = limits_stand scale [] statements h
exists scale statements code.Ends (item.Channel f) h =
    let below = there_is (channel_breaks code.Ends (plan_of scale statements) f) (channels_of statements) f h in
    channel_stands [] statements f (omega arith) (omega arith)
exists scale statements rule (item.InModule n (c, a)) h =
    let own = passed (λ (o : Module). some_passes (λ (b : Block). spot_breaks scale rule o b a) (slice_get o.blocks c))
    (slice_get (plan_modules statements) n) h in
    let blk = passed (λ (b : Block). spot_breaks scale rule own.0 b a) (slice_get (own.0).blocks c) own.2 in
    module_stands (channel_names statements) [] statements n n c own.0 blk.0 a (omega arith) own.1 blk.1
    (there scale rule own.0 blk.0 a blk.2)
exists scale statements rule i h = absurd (grind arith)

-- ---- a refusal tells the first statement that breaks the first rule that is broken

-- ---- equal items

item_itself : (i : Item) → same_item i i ≡ true
item_itself i = grind (arith, nat_tests)

stands_for : (i : Item) (o : Option Item) → is_item i o ≡ true → o ≡ Some i
stands_for i o h = grind (arith, nat_tests)

has_place : {A : Type 0} (p : A → Bool) (xs : List A) → list_any p xs ≡ true → (k : ℕ) × (place_where p xs ≡ Some k)
has_place p [] h = absurd (true≢false (sym h))
has_place p (x ∷ xs) h =
    cond_both (p x) (Some 0) (option_map (λ k. k + 1) (place_where p xs)) (λ (o : Option ℕ). (k : ℕ) × (o ≡ Some k))
    (λ e. (0, refl)) (λ e. let later = has_place p xs (grind arith) in (later.0 + 1, ap (option_map (λ k. k + 1)) later.1))

-- ---- the first rule

record IsFirstFor {A B : Type 0} (f : A → Option B) (xs : List A) (x : A) (y : B) : Type 0 where
  earlier : List A
  later : List A
  order : xs ≡ earlier ++ x ∷ later
  gives : f x ≡ Some y
  none : All (λ z. f z ≡ None) earlier

first_rule : {A B : Type 0} (f : A → Option B) (xs : List A) (x : A) (y : B) → first_for f xs ≡ Some (x, y) → IsFirstFor f xs x y
first_rule f [] x y h = absurd cc
first_rule {A} {B} f (z ∷ xs) x y h = by (f z) refl (first_rule f xs x y) h
  where
    by : (o : Option B) → f z ≡ o → (first_for f xs ≡ Some (x, y) → IsFirstFor f xs x y) → or_later z o (first_for f xs) ≡ Some (x, y)
        → IsFirstFor f (z ∷ xs) x y
    by (Some w) e more q =
        let pair = some_pair_parts z x w y q in
        record {
          earlier = [];
          later = xs;
          order = ap (λ (a : A). a ∷ xs) pair.0;
          gives = ap f (sym pair.0) ∙ e ∙ ap Some pair.1;
          none = All-nil _;
        }
    by None e more q =
        let p = more q in
        record {
          earlier = z ∷ p.earlier;
          later = p.later;
          order = ap (λ (l : List A). z ∷ l) p.order;
          gives = p.gives;
          none = All-cons (λ (a : A). f a ≡ None) z p.earlier e p.none;
        }

-- ---- the first statement

module _ (scale : Scale) (statements : List Statement) (rule : Code) (i : Item)
    (is : broken_by scale (plan_of scale statements) rule ≡ Some i) where
  breaking : breaks scale (plan_of scale statements) rule i ≡ true
  breaking = broken_some scale (plan_of scale statements) rule i is

  found : (k : ℕ) × (place_where (is_item i) (items_of statements) ≡ Some k)
  found = has_place (is_item i) (items_of statements) (exists scale statements rule i breaking)

  at_place : slice_get (items_of statements) (item_place statements i) ≡ Some (Some i)
  at_place =
      let there = passed (is_item i) (slice_get (items_of statements) found.0)
      (where_some (is_item i) (items_of statements) found.0 found.1) in
      ap (λ (o : Option ℕ). slice_get (items_of statements) (unwrap_or o (length statements))) found.1
      ∙ there.1 ∙ ap Some (stands_for i there.0 there.2)

  broken : statement_breaks scale statements rule (item_place statements i) ≡ true
  broken = ap (some_passes (some_passes (breaks scale (plan_of scale statements) rule))) at_place ∙ breaking

  first : (k : ℕ) → k < item_place statements i → statement_breaks scale statements rule k ≡ false
  first k before = false_from_ne_true (statement_breaks scale statements rule k) (λ h.
      let at = passed (some_passes (breaks scale (plan_of scale statements) rule)) (slice_get (items_of statements) k) h in
      let j = passed (breaks scale (plan_of scale statements) rule) at.0 at.2 in
      let at_j : slice_get (items_of statements) k ≡ Some (Some j.0) = at.1 ∙ ap Some j.1 in
      let least = broken_least scale (plan_of scale statements) rule j.0 j.2 in
      let same : i ≡ least.0 = same_Some _ _ (sym is ∙ least.1) in
      let one : j.0 ≡ i = one_item [] statements k (item_place statements i) j.0 i before at_j at_place (rw same least.2) in
      let sooner = where_least (is_item i) (items_of statements) k
      (ap (some_passes (is_item i)) at_j ∙ ap (same_item i) one ∙ item_itself i) in
      let place : item_place statements i ≡ sooner.0 = ap (λ (o : Option ℕ). unwrap_or o (length statements)) sooner.1 in
      let l : sooner.0 ≤ k = sooner.2 in
      absurd (omega arith))

pub tells_first : (scale : Scale) (statements : List Statement) (lines : List ℕ) (fault : TextFault)
    → fault_of scale statements lines ≡ Some fault
    → TellsFirst scale statements lines fault
unfolding checking_fault
tells_first scale statements lines fault h =
    let p = mapped (fault_on_line statements lines) (checking_fault scale (plan_of scale statements)) fault h in
    let rule : Code = (p.0).0 in
    let i : Item = (p.0).1 in
    let f = first_rule (broken_by scale (plan_of scale statements)) rules rule i p.1 in
    subst (TellsFirst scale statements lines) p.2 (record {
      place = item_place statements i;
      line = refl;
      broken = broken scale statements rule i f.gives;
      first = first scale statements rule i f.gives;
      earlier = f.earlier;
      later = f.later;
      order = f.order;
      kept = λ k d there j. false_from_ne_true (breaks scale (plan_of scale statements) _ j) (λ b.
          let least = broken_least scale (plan_of scale statements) _ j b in
          never (sym (f.none k d there) ∙ least.1));
    })
  where
    never : {A : Type 0} {x : A} → None ≡ Some x → ⊥
    never e = absurd cc
