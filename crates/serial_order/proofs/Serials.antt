-- What holds of the blocks of a module that is answered to be serial.
use Rattle.std.proofs.Common.{◌≡◌, ◌≢◌, ℕ, zero, suc, ◌+◌, ◌-◌, ◌^◌, ◌≤◌, ◌<◌, List, [], ◌∷◌, ◌++◌, length, map, get_or, min, max, Bool}
use Rattle.std.proofs.Common.{true, false, ◌&&◌, cond, refl, sym, ◌∙◌, ap, subst, arith, nat_lt, inl, inr, true≢false, unwrap_or, add-zero}
use Rattle.std.proofs.Common.{◌%◌, Option, Some, None}
use Rattle.std.proofs.lemmas.Bool.{ltb-true, ltb-false, leb-false, eqb-true, eq-eqb, or_parts}
use Rattle.std.specs.Prelude.{nat_le, nat_eq}
use Rattle.std.specs.List.{AllByRecursion, fold, filter, flat_map, enumerate_from, range_with_len}
use Rattle.serial_order.specs.{Port, Side, same_side, used_port, Block, BlockKind, Channel, Timed, is_port, Clashes, IsKindSound}
use Rattle.serial_order.specs.{IsTimedSound, IsBlockSound, IsModuleSound, no_operation, no_block, block_at, is_loop, interval_of, interval}
use Rattle.serial_order.specs.{takes, is_query, again_of, reading_end, writes, is_use, Used, Order, head, numbers_where, query_orders}
use Rattle.serial_order.specs.{writes_late, lates_of, offsets_of_use, first_use, last_use, is_wide, things_of, faults_by, faults_of}
use Rattle.serial_order.specs.{all_faults}
use Rattle.serial_order.specs.declared.order.Used.TheVariants.{Register, Memory, Reading, Writing}
use Rattle.serial_order.specs.declared.order.Order.TheVariants.{Serial, Query, Late, Wide}
use Rattle.flow_word.specs.declared.access.Side.TheVariants.{Pop, Push}
use Rattle.flow_design.specs.declared.design.Module.{Module}
use Rattle.flow_design.specs.declared.design.BlockKind.TheVariants.{Plain, Loop}
use Rattle.lockstep_defs.proofs.{Due.AreApart, Blocks.some_interval, Blocks.short_interval}
use Rattle.serial_order.proofs.{Lists.Among, Lists.among_all, Outcomes.setting_of, Alike.IsThing, Going.IsSerial}
use Rattle.serial_order.proofs.Windows.{writes_used, none_written}

-- ---- no fault is called serial

abbrev AreFaults : List Order → Type 0
AreFaults [] = Unit {0}
AreFaults (o ∷ os) = (o ≢ Serial) × AreFaults os

faults-append : (xs ys : List Order) → AreFaults xs → AreFaults ys → AreFaults (xs ++ ys)
faults-append [] ys h k = k
faults-append (x ∷ xs) ys h k = (h.0, faults-append xs ys h.1 k)

faults-map : {A : Type 0} (f : A → Order) (xs : List A) → ((x : A) → f x ≢ Serial) → AreFaults (map f xs)
faults-map f [] h = tt
faults-map f (x ∷ xs) h = (h x, faults-map f xs h)

faults-flat_map : {A : Type 0} (f : A → List Order) (xs : List A) → ((x : A) → AreFaults (f x)) → AreFaults (flat_map f xs)
faults-flat_map f [] h = tt
faults-flat_map f (x ∷ xs) h = faults-append (f x) (flat_map f xs) (h x) (faults-flat_map f xs h)

are_faults : (channels : ℕ) (m : Module) → AreFaults (all_faults channels m)
are_faults channels m =
    faults-append _ _
    (faults-flat_map query_orders (enumerate_from 0 m.blocks)
    (λ b. faults-map (Query b.0) (numbers_where (λ t. is_query t.op) (b.1).ops) (λ n e. absurd cc)))
    (faults-flat_map (faults_of channels m) (enumerate_from 0 m.blocks) (λ b. by_kind b.0 (b.1).ops (b.1).kind))
  where
    by_kind : (n : ℕ) (ops : List Timed) (k : BlockKind) → AreFaults (faults_by channels m n ops k)
    by_kind n ops Plain = tt
    by_kind n ops (Loop ii again) =
        faults-append _ _ (faults-map (Late n) (numbers_where (writes_late ii again) ops) (λ o e. absurd cc))
        (faults-map (Wide n) (filter (is_wide ii ops) (things_of channels m)) (λ u e. absurd cc))

none_at_all : (os : List Order) → AreFaults os → unwrap_or (head os) Serial ≡ Serial → os ≡ []
none_at_all [] h e = refl
none_at_all (o ∷ os) h e = absurd (h.0 e)

-- ---- empty lists

empty_parts : {A : Type 0} (xs ys : List A) → xs ++ ys ≡ [] → (xs ≡ []) × (ys ≡ [])
empty_parts [] ys e = (refl, e)
empty_parts (x ∷ xs) ys e = absurd cc

empty_map : {A B : Type 0} (f : A → B) (xs : List A) → map f xs ≡ [] → xs ≡ []
empty_map f [] e = refl
empty_map f (x ∷ xs) e = absurd cc

empty_blocks : (f : ℕ × Block → List Order) (k : ℕ) (bs : List Block) → flat_map f (enumerate_from k bs) ≡ []
    → (j : ℕ) → j < length bs → (n : ℕ) × (f (n, get_or bs j no_block) ≡ [])
empty_blocks f k [] e j l = absurd (omega arith)
empty_blocks f k (b ∷ bs) e zero l = (k, (empty_parts (f (k, b)) _ e).0)
empty_blocks f k (b ∷ bs) e (suc j) l = empty_blocks f (k + 1) bs (empty_parts (f (k, b)) _ e).1 j (omega arith)

empty_filter : {A : Type 0} (test : A → Bool) (xs : List A) → filter test xs ≡ [] → (x : A) → Among x xs → test x ≡ false
empty_filter test [] e x among = absurd among
empty_filter {A} test (y ∷ ys) e x among = by_test (test y) refl e (empty_filter test ys) among
  where
    by_test : (b : Bool) → test y ≡ b → cond b (y ∷ filter test ys) (filter test ys) ≡ []
        → (filter test ys ≡ [] → (x : A) → Among x ys → test x ≡ false) → Among x (y ∷ ys) → test x ≡ false
    by_test true f e rest among = absurd cc
    by_test false f e rest (inl same) = ap test same ∙ f
    by_test false f e rest (inr among) = rest e x among

numbered_among : (k : ℕ) (ts : List Timed) (t : Timed) → Among t ts → (n : ℕ) × Among (n, t) (enumerate_from k ts)
numbered_among k [] t among = absurd among
numbered_among k (u ∷ us) t (inl same) = (k, inl (ap (λ (x : Timed). (k, x)) same))
numbered_among k (u ∷ us) t (inr among) = let later = numbered_among (k + 1) us t among in (later.0, inr later.1)

no_numbers : (test : Timed → Bool) (ts : List Timed) → numbers_where test ts ≡ [] → (t : Timed) → Among t ts → test t ≡ false
no_numbers test ts e t among =
    let at = numbered_among 0 ts t among in
    empty_filter (λ (x : ℕ × Timed). test x.1) (enumerate_from 0 ts) (empty_map _ _ e) (at.0, t) at.1

-- ---- all things are tried

among_left : {A : Type 0} (x : A) (xs ys : List A) → Among x xs → Among x (xs ++ ys)
among_left x [] ys among = absurd among
among_left x (y ∷ xs) ys (inl same) = inl same
among_left x (y ∷ xs) ys (inr among) = inr (among_left x xs ys among)

among_right : {A : Type 0} (x : A) (xs ys : List A) → Among x ys → Among x (xs ++ ys)
among_right x [] ys among = among
among_right x (y ∷ xs) ys among = inr (among_right x xs ys among)

among_range : {A : Type 0} (f : ℕ → A) (a n k : ℕ) → k < n → Among (f (a + k)) (map f (range_with_len a n))
among_range f a zero k l = absurd (omega arith)
among_range f a (suc n) zero l = inl (ap f (add-zero a))
among_range f a (suc n) (suc k) l =
    let next : (a + 1) + k ≡ a + suc k = omega arith in
    inr (subst (λ (x : ℕ). Among (f x) (map f (range_with_len (a + 1) n))) next (among_range f (a + 1) n k (omega arith)))

among_count : {A : Type 0} (f : ℕ → A) (n k : ℕ) → k < n → Among (f k) (map f (range_with_len 0 n))
among_count f n k l =
    let first : 0 + k ≡ k = omega arith in
    subst (λ (x : ℕ). Among (f x) (map f (range_with_len 0 n))) first (among_range f 0 n k l)

all_things : (channels : ℕ) (m : Module) (u : Used) → IsThing channels m u → Among u (things_of channels m)
all_things channels m (Register x) l =
    among_left _ _ _ (among_left _ _ _ (among_left _ _ _ (among_count Register (length m.registers) x l)))
all_things channels m (Memory n) l =
    among_left _ _ _
    (among_left _ _ _ (among_right _ (map Register (range_with_len 0 (length m.registers))) _ (among_count Memory (length m.memories) n l)))
all_things channels m (Reading f) l =
    among_left _ _ _
    (among_right _ (map Register (range_with_len 0 (length m.registers)) ++ map Memory (range_with_len 0 (length m.memories))) _
    (among_count Reading channels f l))
all_things channels m (Writing f) l =
    among_right _ ((map Register (range_with_len 0 (length m.registers)) ++ map Memory (range_with_len 0 (length m.memories)))
    ++ map Reading (range_with_len 0 channels)) _ (among_count Writing channels f l)

-- ---- the first and the last use

fold_max : (a : ℕ) (ns : List ℕ) → a ≤ fold max a ns
fold_max a [] = omega arith
fold_max a (n ∷ ns) = let rest = fold_max (max a n) ns in omega arith

fold_min : (a : ℕ) (ns : List ℕ) → fold min a ns ≤ a
fold_min a [] = omega arith
fold_min a (n ∷ ns) = let rest = fold_min (min a n) ns in omega arith

none_above : (a n : ℕ) (ns : List ℕ) → Among n ns → n ≤ fold max a ns
none_above a n [] among = absurd among
none_above a n (x ∷ xs) (inl same) = let rest = fold_max (max a x) xs in omega arith
none_above a n (x ∷ xs) (inr among) = none_above (max a x) n xs among

none_below : (a n : ℕ) (ns : List ℕ) → Among n ns → fold min a ns ≤ n
none_below a n [] among = absurd among
none_below a n (x ∷ xs) (inl same) = let rest = fold_min (min a x) xs in omega arith
none_below a n (x ∷ xs) (inr among) = none_below (min a x) n xs among

among_offsets : (u : Used) (ts : List Timed) (t : Timed) → Among t ts → is_use u t ≡ true → Among t.offset (offsets_of_use u ts)
among_offsets u [] t among used = absurd among
among_offsets u (o ∷ os) t (inl same) used =
    rw (ap (is_use u) (sym same) ∙ used) (inl (ap (λ (x : Timed). x.offset) same))
among_offsets u (o ∷ os) t (inr among) used = by_test (is_use u o) (among_offsets u os t among used)
  where
    by_test : (b : Bool) → Among t.offset (offsets_of_use u os)
        → Among t.offset (map (λ (x : Timed). x.offset) (cond b (o ∷ filter (is_use u) os) (filter (is_use u) os)))
    by_test true rest = inr rest
    by_test false rest = rest

-- a thing that is not wide
wide_within : (ii : ℕ) (ops : List Timed) (u : Used) → is_wide ii ops u ≡ false → (t w : Timed) → Among t ops → Among w ops
    → is_use u t ≡ true → is_use u w ≡ true → w.offset ≤ t.offset + ii
wide_within ii ops u e t w t_in w_in t_used w_used =
    let parts = or_parts (nat_lt ii (last_use u ops - first_use u ops)) _ e in
    let most = ltb-false ii (last_use u ops - first_use u ops) parts.0 in
    let last = none_above 0 w.offset (offsets_of_use u ops) (among_offsets u ops w w_in w_used) in
    let first = none_below (2 ^ 64 - 1) t.offset (offsets_of_use u ops) (among_offsets u ops t t_in t_used) in omega arith

wide_strict : (ii : ℕ) (ops : List Timed) (u : Used) → is_wide ii ops u ≡ false → (t w : Timed) → Among t ops → Among w ops
    → is_use u t ≡ true → writes u w.op ≡ true → w.offset < t.offset + ii
wide_strict ii ops u e t w t_in w_in t_used w_writes = by_test (nat_lt w.offset (t.offset + ii)) refl
  where
    none : (x y : Bool) → x ≡ true → (x && y) ≡ false → y ≡ false
    none true y f g = g
    none false y f g = absurd (true≢false (sym f))

    by_test : (b : Bool) → nat_lt w.offset (t.offset + ii) ≡ b → w.offset < t.offset + ii
    by_test true f = ltb-true _ _ f
    by_test false f =
        let far = ltb-false w.offset (t.offset + ii) f in
        let parts = or_parts (nat_lt ii (last_use u ops - first_use u ops)) _ e in
        let most = ltb-false ii (last_use u ops - first_use u ops) parts.0 in
        let last = none_above 0 w.offset (offsets_of_use u ops) (among_offsets u ops w w_in (writes_used u w w_writes)) in
        let first = none_below (2 ^ 64 - 1) t.offset (offsets_of_use u ops) (among_offsets u ops t t_in t_used) in
        let reach = eq-eqb (last_use u ops - first_use u ops) ii (omega arith) in
        absurd (none_written u (last_use u ops) ops (none _ _ reach parts.1) w w_in w_writes (omega arith))

-- ---- pops that are apart

-- an operation that pops a channel is at its reading end
popped_port : (f : ℕ) (o : Option Port) → is_port (reading_end f) o ≡ true → o ≡ Some (reading_end f)
popped_port f None e = absurd (true≢false (sym e))
popped_port f (Some g) e = by_side g.side g.channel e
  where
    by_side : (side : Side) (g : ℕ) → (same_side Pop side && nat_eq f g) ≡ true
        → Some (record { side = side; channel = g }) ≡ Some (reading_end f)
    by_side Pop g e = ap (λ (x : ℕ). Some (reading_end x)) (sym (eqb-true f g e))
    by_side Push g e = absurd (true≢false (sym e))

apart_from : (f ii : ℕ) (t : Timed) (ts : List Timed) → takes (reading_end f) t.op ≡ true
    → ((k : ℕ) → k < length ts → ¬ Clashes ii t (get_or ts k no_operation))
    → AllByRecursion (λ u. (takes (reading_end f) u.op ≡ true) → t.offset % ii ≢ u.offset % ii) ts
apart_from f ii t [] pops h = tt
apart_from f ii t (u ∷ us) pops h = (
  λ also same. h 0 (omega arith) (record {
    port = reading_end f;
    first = popped_port f (used_port t.op) pops;
    second = popped_port f (used_port u.op) also;
    offsets = same;
  }),
  apart_from f ii t us pops (λ k l. h (suc k) (omega arith)),
)

are_apart : (f ii : ℕ) (ts : List Timed)
    → ((j k : ℕ) → j < k → k < length ts → ¬ Clashes ii (get_or ts j no_operation) (get_or ts k no_operation))
    → AreApart (takes (reading_end f)) ii ts
are_apart f ii [] h = tt
are_apart f ii (t ∷ ts) h = (
  λ pops. apart_from f ii t ts pops (λ k l. h 0 (suc k) (omega arith) (omega arith)),
  are_apart f ii ts (λ j k l m. h (suc j) (suc k) (omega arith) (omega arith)),
)

-- ---- the blocks of a serial module

module _ (lists : List (List ℕ)) (channels : List Channel) (m : Module) (sound : IsModuleSound (length channels) m)
    (is : unwrap_or (head (all_faults (length channels) m)) Serial ≡ Serial) where
  no_faults : (flat_map query_orders (enumerate_from 0 m.blocks) ≡ [])
      × (flat_map (faults_of (length channels) m) (enumerate_from 0 m.blocks) ≡ [])
  no_faults = empty_parts _ _ (none_at_all (all_faults (length channels) m) (are_faults (length channels) m) is)

  within_by : (n len : ℕ) (ops : List Timed) (k : BlockKind) → faults_by (length channels) m n ops k ≡ []
      → ((t : Timed) → Among t ops → t.offset < len) → (u : Used) → IsThing (length channels) m u → (t w : Timed) → Among t ops
      → Among w ops → is_use u t ≡ true → is_use u w ≡ true → w.offset ≤ t.offset + interval_of k len
  within_by n len ops Plain e inside u thing t w t_in w_in t_used w_used = let last = inside w w_in in omega arith
  within_by n len ops (Loop ii again) e inside u thing t w t_in w_in t_used w_used =
      wide_within ii ops u
      (empty_filter (is_wide ii ops) (things_of (length channels) m) (empty_map (Wide n) _ (empty_parts (lates_of n ii again ops) _ e).1) u
      (all_things (length channels) m u thing)) t w t_in w_in t_used w_used

  strict_by : (n len : ℕ) (ops : List Timed) (k : BlockKind) → faults_by (length channels) m n ops k ≡ []
      → ((t : Timed) → Among t ops → t.offset < len) → (u : Used) → IsThing (length channels) m u → (t w : Timed) → Among t ops
      → Among w ops → is_use u t ≡ true → writes u w.op ≡ true → w.offset < t.offset + interval_of k len
  strict_by n len ops Plain e inside u thing t w t_in w_in t_used w_writes = let last = inside w w_in in omega arith
  strict_by n len ops (Loop ii again) e inside u thing t w t_in w_in t_used w_writes =
      wide_strict ii ops u
      (empty_filter (is_wide ii ops) (things_of (length channels) m) (empty_map (Wide n) _ (empty_parts (lates_of n ii again ops) _ e).1) u
      (all_things (length channels) m u thing)) t w t_in w_in t_used w_writes

  early_by : (n len : ℕ) (ops : List Timed) (k : BlockKind) → faults_by (length channels) m n ops k ≡ [] → is_loop k ≡ true
      → (w : Timed) → Among w ops → writes (Register (again_of k)) w.op ≡ true → w.offset < interval_of k len
  early_by n len ops Plain e loop w w_in w_writes = absurd (true≢false (sym loop))
  early_by n len ops (Loop ii again) e loop w w_in w_writes =
      let late = no_numbers (writes_late ii again) ops (empty_map (Late n) _ (empty_parts (lates_of n ii again ops) _ e).0) w w_in in
      leb-false ii w.offset (only_first (nat_le ii w.offset) (writes (Register again) w.op) w_writes late)
    where
      only_first : (x y : Bool) → y ≡ true → (x && y) ≡ false → x ≡ false
      only_first true y f g = absurd (true≢false (sym f ∙ g))
      only_first false y f g = refl

  again_by : (len : ℕ) (k : BlockKind) → IsKindSound (length m.registers) len k → is_loop k ≡ true → again_of k < length m.registers
  again_by len Plain h loop = absurd (true≢false (sym loop))
  again_by len (Loop ii again) h loop = h.register

  pub serial_blocks : (b : ℕ) → b < length m.blocks → IsSerial (setting_of lists channels m (block_at m b))
  serial_blocks b there =
      let here : IsBlockSound (length channels) m (block_at m b) = sound.blocks b no_block there in
      let query = empty_blocks query_orders 0 m.blocks no_faults.0 b there in
      let fault = empty_blocks (faults_of (length channels) m) 0 m.blocks no_faults.1 b there in
      let operations = among_all (IsTimedSound (length channels) m (block_at m b)) (block_at m b).ops here.operations in
      let inside : (t : Timed) → Among t (block_at m b).ops
      → t.offset < (block_at m b).len = λ t among. (operations t among).offset in record {
        fit = record {
          sound = operations;
          some = some_interval (length channels) m (block_at m b) here;
          pops = record {
            plain = no_numbers (λ t. is_query t.op) (block_at m b).ops (empty_map (Query query.0) _ query.1);
            some = some_interval (length channels) m (block_at m b) here;
            apart = λ f. are_apart f (interval (block_at m b)) (block_at m b).ops (λ j k l n. here.apart j k no_operation l n);
          };
        };
        narrow = record {
          within = within_by fault.0 (block_at m b).len (block_at m b).ops (block_at m b).kind fault.1 inside;
          strict = strict_by fault.0 (block_at m b).len (block_at m b).ops (block_at m b).kind fault.1 inside;
        };
        short = short_interval (length channels) m (block_at m b) here;
        again = again_by (block_at m b).len (block_at m b).kind here.kind;
        early = early_by fault.0 (block_at m b).len (block_at m b).ops (block_at m b).kind fault.1;
      }
