-- The first of a plan that breaks a rule, and the order of items.
use Rattle.std.proofs.Common.{◌≡◌, ℕ, zero, suc, ◌+◌, ◌<◌, ◌≤◌, List, [], ◌∷◌, ◌++◌, length, take, Option, None, Some, option_map, Bool}
use Rattle.std.proofs.Common.{true, false, cond, refl, sym, ap, subst, ◌∙◌, arith, true≢false, inl, inr, append_assoc, append-nil}
use Rattle.std.proofs.Common.{slice_get, drop, get_or}
use Rattle.std.proofs.{lemmas.Bool.cond_both, lemmas.List.at_drop_more, lemmas.Option.cond_some, lemmas.Option.some_pair_parts}
use Rattle.std.specs.{Prelude.◌⊎◌, List.enumerate_from}
use Rattle.flow_check.specs.{Block, Channel, Scale, Plan, Statement, Code, Spot, Item, CountsBefore, sooner, first_in, first_after}
use Rattle.flow_check.specs.{place_where, some_passes, spot_breaks, channel_breaks, breaks, counts, counts_more, item_after, items_after}
use Rattle.flow_check.specs.{leads_out, breaks_limits, lacks_users, clashes, is_bad_loop, is_too_late, is_on_wrong_side, spot, spot_in}
use Rattle.flow_check.specs.{in_module, broken_by}
use Rattle.flow_check.specs.declared.item.Spot.TheVariants.{Head, Operation, Terminator}
use Rattle.flow_design.specs.declared.design.Module.{Module}
use Rattle.flow_check.proofs.Counting.{counted}
use Rattle.flow_grammar.specs.declared.fault.Code.TheVariants as code
use Rattle.flow_check.specs.declared.item.Item.TheVariants as item

-- ---- an order of items

abbrev pub SpotUpto : Spot → Spot → Type 0
SpotUpto Head Head = Unit {0}
SpotUpto (Operation j) (Operation k) = j ≤ k
SpotUpto Terminator Terminator = Unit {0}
SpotUpto a b = ⊥

-- of one rule, the first comes no later than the second
abbrev pub Upto : Item → Item → Type 0
Upto item.Limits item.Limits = Unit {0}
Upto (item.Channel f) (item.Channel g) = f ≤ g
Upto (item.InModule m (b, a)) (item.InModule n (c, d)) = (m < n) ⊎ ((m ≡ n) × ((b < c) ⊎ ((b ≡ c) × SpotUpto a d)))
Upto i j = ⊥

-- ---- options

pub passed : {A : Type 0} (test : A → Bool) (o : Option A) → some_passes test o ≡ true → (x : A) × (o ≡ Some x) × (test x ≡ true)
passed test None h = absurd (true≢false (sym h))
passed test (Some x) h = (x, refl, h)

pub mapped : {A B : Type 0} (f : A → B) (o : Option A) (y : B) → option_map f o ≡ Some y → (x : A) × (o ≡ Some x) × (f x ≡ y)
mapped f None y h = absurd cc
mapped f (Some x) y h = (x, refl, cc)

-- ---- the first of a list

-- where none before gives anything, what this one gives is found
pub found_here : {A B C : Type 0} (f : A → Option B) (g : ℕ × B → C) (xs : List A) (at : ℕ) (x : A) (y : B)
    → first_in f xs ≡ option_map (λ p. (at + p.0, p.1)) (first_in f (drop at xs)) → at < length xs → x ≡ get_or xs at x → f x ≡ Some y
    → Some (g (at, y)) ≡ option_map g (first_in f xs)
found_here {A} {B} f g xs at x y before there is gives =
    let here : first_in f (drop at xs) ≡ Some (0, y)
    = at_drop_more (first_in f) xs at x there
    ∙ ap (λ (o : Option B). sooner o (first_in f (drop (at + 1) xs))) (ap f (sym is) ∙ gives) in
    let place : at ≡ at + 0 = omega arith in
    ap (λ (k : ℕ). Some (g (k, y))) place
    ∙ sym (ap (option_map g) (before ∙ ap (option_map (λ (p : ℕ × B). (at + p.0, p.1))) here))

-- what f gives at the first item passes the test of what f gives there
pub in_some : {A B : Type 0} (f : A → Option B) (test : B → A → Bool) → ((x : A) (v : B) → f x ≡ Some v → test v x ≡ true)
    → (xs : List A) (k : ℕ) (v : B) → first_in f xs ≡ Some (k, v) → some_passes (test v) (slice_get xs k) ≡ true
in_some f test each [] k v h = absurd cc
in_some {A} {B} f test each (x ∷ xs) k v h = by (f x) refl h (in_some f test each xs)
  where
    by : (o : Option B) → f x ≡ o → sooner o (first_in f xs) ≡ Some (k, v)
        → ((j : ℕ) (w : B) → first_in f xs ≡ Some (j, w) → some_passes (test w) (slice_get xs j) ≡ true)
        → some_passes (test v) (slice_get (x ∷ xs) k) ≡ true
    by (Some w) e q later =
        let pair = some_pair_parts 0 k w v q in
        rw (sym pair.0, sym pair.1) (each x w e)
    by None e q later =
        let p = mapped (λ (r : ℕ × B). (r.0 + 1, r.1)) (first_in f xs) (k, v) q in
        let at : suc (p.0).0 ≡ k = omega (arith, ap (λ (r : ℕ × B). r.0) p.2) in
        subst (λ (w : B). some_passes (test w) (slice_get (x ∷ xs) k) ≡ true) (ap (λ (r : ℕ × B). r.1) p.2)
        (subst (λ (n : ℕ). some_passes (test (p.0).1) (slice_get (x ∷ xs) n) ≡ true) at (later (p.0).0 (p.0).1 p.1))

-- where an item passes a test by which f gives something, f gives something there or sooner
pub in_least : {A B : Type 0} (f : A → Option B) (test : A → Bool) (R : B → Type 0)
    → ((x : A) → test x ≡ true → (w : B) × (f x ≡ Some w) × R w) → (xs : List A) (j : ℕ) → some_passes test (slice_get xs j) ≡ true
    → (w : ℕ × B) × (first_in f xs ≡ Some w) × ((w.0 < j) ⊎ ((w.0 ≡ j) × R w.1))
in_least f test R each [] j h = absurd (true≢false (sym h))
in_least f test R each (y ∷ xs) zero h =
    let own = each y h in ((0, own.0), ap (λ o. sooner o (first_in f xs)) own.1, inr (refl, own.2))
in_least {A} {B} f test R each (y ∷ xs) (suc j) h = by (f y) (in_least f test R each xs j h)
  where
    by : (o : Option B) → (w : ℕ × B) × (first_in f xs ≡ Some w) × ((w.0 < j) ⊎ ((w.0 ≡ j) × R w.1))
        → (w : ℕ × B) × (sooner o (first_in f xs) ≡ Some w) × ((w.0 < suc j) ⊎ ((w.0 ≡ suc j) × R w.1))
    by (Some v) later = ((0, v), refl, inl (omega arith))
    by None later =
        let moved : ((later.0).0 + 1 < suc j) ⊎ (((later.0).0 + 1 ≡ suc j) × R (later.0).1)
        = elim later.2 [ inl l ↦ inl (omega arith) | inr p ↦ inr (omega (arith, p.0), p.1) ] in
        (((later.0).0 + 1, (later.0).1), ap (option_map (λ (r : ℕ × B). (r.0 + 1, r.1))) later.1, moved)

pub after_some : {A : Type 0} (fails : List A → A → Bool) (before xs : List A) (k : ℕ) → first_after fails before xs ≡ Some k
    → some_passes (fails (before ++ take k xs)) (slice_get xs k) ≡ true
after_some fails before [] k h = absurd cc
after_some fails before (x ∷ xs) k h =
    cond_both (fails before x) (Some 0) (option_map (λ j. j + 1) (first_after fails (before ++ x ∷ []) xs))
    (λ (o : Option ℕ). o ≡ Some k → some_passes (fails (before ++ take k (x ∷ xs))) (slice_get (x ∷ xs) k) ≡ true)
    (λ e q. let at : k ≡ 0 = cc in rw (at, append-nil) e)
    (λ e q.
    let r = mapped (λ (j : ℕ). j + 1) (first_after fails (before ++ x ∷ []) xs) k q in
    let at : k ≡ suc r.0 = omega (arith, r.2) in
    rw (at, ← (append_assoc before (x ∷ []) (take r.0 xs))) (after_some fails (before ++ x ∷ []) xs r.0 r.1))
    h

pub after_least : {A : Type 0} (fails : List A → A → Bool) (before xs : List A) (j : ℕ)
    → some_passes (fails (before ++ take j xs)) (slice_get xs j) ≡ true → (k : ℕ) × (first_after fails before xs ≡ Some k) × (k ≤ j)
after_least fails before [] j is = absurd (true≢false (sym is))
after_least fails before (y ∷ xs) zero is =
    (0, ap (λ b. cond b (Some 0) (option_map (λ j. j + 1) (first_after fails (before ++ y ∷ []) xs))) (rw append-nil at is), omega arith)
after_least fails before (y ∷ xs) (suc j) is =
    by (fails before y) (after_least fails (before ++ y ∷ []) xs j (rw (append_assoc before (y ∷ []) (take j xs)) is))
  where
    by : (b : Bool) → (k : ℕ) × (first_after fails (before ++ y ∷ []) xs ≡ Some k) × (k ≤ j)
        → (k : ℕ) × (cond b (Some 0) (option_map (λ j. j + 1) (first_after fails (before ++ y ∷ []) xs)) ≡ Some k) × (k ≤ suc j)
    by true later = (0, refl, omega arith)
    by false later = let l : later.0 ≤ j = later.2 in (later.0 + 1, ap (option_map (λ j. j + 1)) later.1, omega arith)

-- the place of the first that passes, as that of the first that fails after those before it
pub where_after : {A : Type 0} (p : A → Bool) (before xs : List A) → place_where p xs ≡ first_after (λ earlier. p) before xs
where_after p before [] = refl
where_after p before (x ∷ xs) =
    ap (λ (o : Option ℕ). cond (p x) (Some 0) (option_map (λ j. j + 1) o)) (where_after p (before ++ x ∷ []) xs)

pub where_some : {A : Type 0} (p : A → Bool) (xs : List A) (k : ℕ) → place_where p xs ≡ Some k → some_passes p (slice_get xs k) ≡ true
where_some p xs k h = after_some (λ earlier. p) [] xs k (sym (where_after p [] xs) ∙ h)

pub where_least : {A : Type 0} (p : A → Bool) (xs : List A) (j : ℕ) → some_passes p (slice_get xs j) ≡ true
    → (k : ℕ) × (place_where p xs ≡ Some k) × (k ≤ j)
where_least p xs j is = let least = after_least (λ earlier. p) [] xs j is in (least.0, where_after p [] xs ∙ least.1, least.2)

-- ---- of a block

pub spot_some : (scale : Scale) (rule : Code) (m : Module) (b : Block) (a : Spot) → spot scale rule m b ≡ Some a
    → spot_breaks scale rule m b a ≡ true
spot_some scale code.UnknownName m b a h =
    let p = cond_some (leads_out (length m.blocks) b.next) Terminator a h in rw (← p.1) p.0
spot_some scale code.PortClash m b a h =
    let p = mapped Operation (first_after (clashes b.kind) [] b.ops) a h in rw (← p.2) (after_some (clashes b.kind) [] b.ops p.0 p.1)
spot_some scale code.BadLoop m b a h =
    let p = cond_some (is_bad_loop scale b.len b.kind) Head a h in rw (← p.1) p.0
spot_some scale code.BadOffset m b a h =
    let p = mapped Operation (place_where (is_too_late b.len) b.ops) a h in rw (← p.2) (where_some (is_too_late b.len) b.ops p.0 p.1)
spot_some scale code.WrongSide m b a h =
    let p = mapped Operation (place_where (is_on_wrong_side m) b.ops) a h in rw (← p.2) (where_some (is_on_wrong_side m) b.ops p.0 p.1)
spot_some scale rule m b a h = absurd cc

pub spot_least : (scale : Scale) (rule : Code) (m : Module) (b : Block) (d : Spot) → spot_breaks scale rule m b d ≡ true
    → (a : Spot) × (spot scale rule m b ≡ Some a) × SpotUpto a d
spot_least scale code.UnknownName m b Terminator h = (Terminator, ap (λ (c : Bool). cond c (Some Terminator) None) h, tt)
spot_least scale code.PortClash m b (Operation k) h =
    let found = after_least (clashes b.kind) [] b.ops k h in (Operation found.0, ap (option_map Operation) found.1, found.2)
spot_least scale code.BadLoop m b Head h = (Head, ap (λ (c : Bool). cond c (Some Head) None) h, tt)
spot_least scale code.BadOffset m b (Operation k) h =
    let found = where_least (is_too_late b.len) b.ops k h in (Operation found.0, ap (option_map Operation) found.1, found.2)
spot_least scale code.WrongSide m b (Operation k) h =
    let found = where_least (is_on_wrong_side m) b.ops k h in (Operation found.0, ap (option_map Operation) found.1, found.2)
spot_least scale rule m b d h = absurd (true≢false (sym h))

-- ---- of a plan

module _ (scale : Scale) (plan : Plan) (rule : Code) where
  pub module_some : (i : Item) → option_map in_module (first_in (spot_in scale rule) plan.design.modules) ≡ Some i
      → breaks scale plan rule i ≡ true
  module_some i h =
      let p = mapped in_module (first_in (spot_in scale rule) plan.design.modules) i h in
      rw (← p.2) (in_some (spot_in scale rule)
      (λ v own. some_passes (λ (b : Block). spot_breaks scale rule own b v.1) (slice_get own.blocks v.0))
      (λ own v. in_some (spot scale rule own) (λ a b. spot_breaks scale rule own b a) (spot_some scale rule own) own.blocks v.0 v.1)
      plan.design.modules (p.0).0 (p.0).1 p.1)

  pub module_least : (n c : ℕ) (d : Spot) → breaks scale plan rule (item.InModule n (c, d)) ≡ true
      → (i : Item) × (option_map in_module (first_in (spot_in scale rule) plan.design.modules) ≡ Some i) × Upto i (item.InModule n (c, d))
  module_least n c d h =
      let least = in_least (spot_in scale rule)
      (λ own. some_passes (λ (b : Block). spot_breaks scale rule own b d) (slice_get own.blocks c))
      (λ w. (w.0 < c) ⊎ ((w.0 ≡ c) × SpotUpto w.1 d))
      (λ own. in_least (spot scale rule own) (λ b. spot_breaks scale rule own b d) (λ a. SpotUpto a d) (λ b. spot_least scale rule own b d)
      own.blocks c)
      plan.design.modules n h in
      (in_module least.0, ap (option_map in_module) least.1, least.2)

enumerated : {A : Type 0} (xs : List A) (n k : ℕ) → slice_get (enumerate_from n xs) k ≡ option_map (λ x. (n + k, x)) (slice_get xs k)
enumerated [] n k = refl
enumerated {A} (x ∷ xs) n zero = ap (λ (i : ℕ). Some (i, x)) (omega arith)
enumerated {A} (x ∷ xs) n (suc k) =
    let on : n + 1 + k ≡ n + suc k = omega arith in
    enumerated xs (n + 1) k ∙ ap (λ (i : ℕ). option_map (λ (y : A). (i, y)) (slice_get xs k)) on

-- a channel with its number, and the channel of a number
lacking : (scale : Scale) (plan : Plan) (f : ℕ)
    → some_passes (lacks_users plan.design.modules) (slice_get (enumerate_from 0 plan.design.channels) f)
    ≡ breaks scale plan code.Ends (item.Channel f)
lacking scale plan f =
    ap (some_passes (lacks_users plan.design.modules)) (enumerated plan.design.channels 0 f) ∙ by (slice_get plan.design.channels f)
  where
    by : (o : Option Channel) → some_passes (lacks_users plan.design.modules) (option_map (λ x. (0 + f, x)) o)
        ≡ some_passes (channel_breaks code.Ends plan f) o
    by None = refl
    by (Some c) = ap (λ (k : ℕ). lacks_users plan.design.modules (k, c)) (omega arith)

pub broken_some : (scale : Scale) (plan : Plan) (rule : Code) (i : Item) → broken_by scale plan rule ≡ Some i
    → breaks scale plan rule i ≡ true
broken_some scale plan code.BadLimit i h =
    let p = cond_some (breaks_limits scale plan.cycles plan.ops) item.Limits i h in rw (← p.1) p.0
broken_some scale plan code.Ends i h =
    let p = mapped item.Channel (place_where (lacks_users plan.design.modules) (enumerate_from 0 plan.design.channels)) i h in
    rw (← p.2) (sym (lacking scale plan p.0)
    ∙ where_some (lacks_users plan.design.modules) (enumerate_from 0 plan.design.channels) p.0 p.1)
broken_some scale plan rule i h = module_some scale plan rule i h

pub broken_least : (scale : Scale) (plan : Plan) (rule : Code) (j : Item) → breaks scale plan rule j ≡ true
    → (i : Item) × (broken_by scale plan rule ≡ Some i)
    × Upto i j
broken_least scale plan code.BadLimit item.Limits h = (item.Limits, ap (λ (c : Bool). cond c (Some item.Limits) None) h, tt)
broken_least scale plan code.Ends (item.Channel f) h =
    let found = where_least (lacks_users plan.design.modules) (enumerate_from 0 plan.design.channels) f (lacking scale plan f ∙ h) in
    (item.Channel found.0, ap (option_map item.Channel) found.1, found.2)
broken_least scale plan code.BadLimit (item.InModule n (c, d)) h = absurd (grind arith)
broken_least scale plan code.Ends (item.InModule n (c, d)) h = absurd (grind arith)
broken_least scale plan rule (item.InModule n (c, d)) h = module_least scale plan rule n c d h
broken_least scale plan rule item.Limits h = absurd (true≢false (sym h))
broken_least scale plan rule (item.Channel f) h = absurd (grind arith)

-- ---- the items of the statements of a session stand in order

-- ---- an item of a statement that stands after so many

abbrev SpotAfter : CountsBefore → Spot → Type 0
SpotAfter before Head = ⊥
SpotAfter before (Operation k) = before.operations ≤ k
SpotAfter before Terminator = Unit {0}

abbrev InBlock : CountsBefore → ℕ → Spot → Type 0
InBlock before b a = (before.blocks ≤ b) ⊎ ((before.blocks ≡ b + 1) × SpotAfter before a)

abbrev InModule : CountsBefore → ℕ → ℕ → Spot → Type 0
InModule before m b a = (before.modules ≤ m) ⊎ ((before.modules ≡ m + 1) × InBlock before b a)

abbrev StandsAfter : CountsBefore → Item → Type 0
StandsAfter before item.Limits = Unit {0}
StandsAfter before (item.Channel f) = before.channels ≤ f
StandsAfter before (item.InModule m (b, a)) = InModule before m b a

-- ---- an item is after what stands before its statement

at_after : (before : CountsBefore) (st : Statement) (i : Item) → item_after before st ≡ Some i → StandsAfter before i
at_after before st item.Limits h = tt
at_after before st (item.Channel f) h = grind arith
at_after before st (item.InModule m (b, a)) h = grind arith

-- what is after more is after less
less : (before : CountsBefore) (st : Statement) (i : Item) → StandsAfter (counts_more before st) i → StandsAfter before i
less before st item.Limits h = tt
less before st (item.Channel f) h = grind arith
less before st (item.InModule m (b, a)) h = grind arith

all_after : (earlier rest : List Statement) (k : ℕ) (i : Item) → slice_get (items_after earlier rest) k ≡ Some (Some i)
    → StandsAfter (counts earlier) i
all_after earlier [] k i h = absurd cc
all_after earlier (st ∷ rest) zero i h = let e : item_after (counts earlier) st ≡ Some i = cc in at_after (counts earlier) st i e
all_after earlier (st ∷ rest) (suc k) i h =
    less (counts earlier) st i (subst (λ (c : CountsBefore). StandsAfter c i) (counted earlier st) (all_after (st ∷ earlier) rest k i h))

-- ---- an item that comes later does not come before

first_here : (before : CountsBefore) (st : Statement) (i j : Item) → item_after before st ≡ Some i → StandsAfter (counts_more before st) j
    → Upto j i → i ≡ j
first_here before st item.Limits item.Limits is counts_more upto = refl
first_here before st (item.Channel f) (item.Channel g) is counts_more upto = grind arith
first_here before st (item.InModule m (b, a)) (item.InModule n (c, d)) is counts_more upto = grind arith
first_here before st i j is counts_more upto = absurd upto

-- the item of a statement, and that of a later one which comes no later in the order of items, are one
pub one_item : (earlier rest : List Statement) (a b : ℕ) (i j : Item) → a < b → slice_get (items_after earlier rest) a ≡ Some (Some i)
    → slice_get (items_after earlier rest) b ≡ Some (Some j) → Upto j i → i ≡ j
one_item earlier [] a b i j l at_a at_b upto = absurd cc
one_item earlier (st ∷ rest) a zero i j l at_a at_b upto = absurd (omega arith)
one_item earlier (st ∷ rest) zero (suc b) i j l at_a at_b upto =
    let is : item_after (counts earlier) st ≡ Some i = cc in
    first_here (counts earlier) st i j is
    (subst (λ (c : CountsBefore). StandsAfter c j) (counted earlier st) (all_after (st ∷ earlier) rest b j at_b)) upto
one_item earlier (st ∷ rest) (suc a) (suc b) i j l at_a at_b upto = one_item (st ∷ earlier) rest a b i j (omega arith) at_a at_b upto
