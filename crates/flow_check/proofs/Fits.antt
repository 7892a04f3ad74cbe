-- A plan that was read breaks no rule of checking at a scale exactly where the engine takes it, and it keeps the scale.
use Rattle.std.proofs.Common.{◌≡◌, ℕ, zero, suc, ◌+◌, ◌%◌, ◌<◌, ◌≤◌, List, [], ◌∷◌, ◌++◌, length, take, get_or, Option, None, Some, IfSome}
use Rattle.std.proofs.Common.{option_map, Bool, true, false, cond, refl, sym, ap, ◌∙◌, arith, true≢false, append_assoc, append-nil, subst}
use Rattle.std.proofs.{Math.Nat.le_trans, Math.Nat.mod-eq_of_lt, lemmas.List.FromFn.length-enumerate_from, lemmas.Bool.Decides.nat_tests}
use Rattle.std.proofs.{lemmas.List.get_or-take, lemmas.List.length-take, lemmas.List.get_or_default, lemmas.List.Folds.list_any_at}
use Rattle.std.proofs.{lemmas.List.Folds.list_any_none, lemmas.Option.none-some, lemmas.Option.slice_get-get_or}
use Rattle.std.proofs.lemmas.Bool.{and_parts, eqb-true, eq-eqb, and_from, lt-ltb, not_from_true, false_from_ne_true}
use Rattle.std.specs.{Prelude.◌==◌, Prelude.nat_lt, Prelude.slice_get, Prelude.IsTrue, List.All, List.AllPairs, List.enumerate_from}
use Rattle.flow_check.specs.{Port, BlockKind, Next, Timed, Block, Plan, port_of, used_port, no_channel, kind_at, Scale, limits_at, interval}
use Rattle.flow_check.specs.{interval_of, no_block, no_operation, same_port, uses, IsTimedSound, IsKindSound, IsNextSound, Clashes}
use Rattle.flow_check.specs.{IsBlockSound, IsModuleSound, IsChannelSound, FitsEngine, Code, Item, HasFewLive, IsBlockWithin, KeepsScale}
use Rattle.flow_check.specs.{first_in, first_after, first_for, place_where, leads_out, breaks_limits, lacks_users, is_served, phase, slot}
use Rattle.flow_check.specs.{is_slot, takes_again, clashes, is_bad_loop, is_too_late, lacks_port, is_on_wrong_side, spot, spot_in}
use Rattle.flow_check.specs.{in_module, broken_by, rules, checking_fault, PortSlot, IsTimedRead, IsKindRead, IsNextRead, IsBlockRead}
use Rattle.flow_check.specs.{IsPlanRead}
use Rattle.flow_check.specs.declared.item.Spot.TheVariants.{Head, Operation, Terminator}
use Rattle.flow_design.specs.declared.design.Module.{Module}
use Rattle.flow_design.specs.declared.design.BlockKind.TheVariants.{Plain, Loop}
use Rattle.session_plan.proofs.Giving.{numbered_at}
use Rattle.flow_check.proofs.{Firsts.where_after, Firsts.after_least, Scales.limits_most, Scales.live_most, Scales.at_pace}
use Rattle.flow_grammar.specs.declared.fault.Code.TheVariants as code

-- ---- where nothing is found

none_for : {A B : Type 0} (f : A → Option B) (x : A) (xs : List A) → first_for f (x ∷ xs) ≡ None → (f x ≡ None) × (first_for f xs ≡ None)
none_for f x xs h = (grind arith, grind arith)

-- what stands where a number names no module
no_module : Module
no_module = record { name = []; registers = []; memories = []; blocks = [] }

-- no item of the list gives anything
none_of : {A B : Type 0} (f : A → Option B) (xs : List A) → first_for f xs ≡ None → (k : ℕ) (x : A) → slice_get xs k ≡ Some x → f x ≡ None
none_of f [] h k x at = absurd cc
none_of f (y ∷ xs) h zero x at = let same : y ≡ x = cc in ap f (sym same) ∙ (none_for f y xs h).0
none_of f (y ∷ xs) h (suc k) x at = none_of f xs (none_for f y xs h).1 k x at

pub none_mapped : {A B : Type 0} (f : A → B) (o : Option A) → option_map f o ≡ None → o ≡ None
none_mapped f o h = grind arith

-- every item gives nothing
none_in : {A B : Type 0} (f : A → Option B) (xs : List A) → first_in f xs ≡ None → (k : ℕ) (d : A) → k < length xs
    → f (get_or xs k d) ≡ None
none_in f [] h k d l = absurd (omega arith)
none_in f (x ∷ xs) h zero d l = grind arith
none_in f (x ∷ xs) h (suc k) d l = grind (arith, none_in f xs)

-- nothing is found where every item gives nothing
in_none : {A B : Type 0} (f : A → Option B) (d : A) (xs : List A) → ((k : ℕ) → k < length xs → f (get_or xs k d) ≡ None)
    → first_in f xs ≡ None
in_none f d [] h = refl
in_none f d (x ∷ xs) h =
    let first = h 0 (omega arith) in let rest = in_none f d xs (λ k l. h (suc k) (omega arith)) in grind arith

-- none fails after those before it
none_after : {A : Type 0} (fails : List A → A → Bool) (before xs : List A) → first_after fails before xs ≡ None
    → (k : ℕ) (d : A) → k < length xs → fails (before ++ take k xs) (get_or xs k d) ≡ false
none_after fails before xs h k d l = false_from_ne_true (fails (before ++ take k xs) (get_or xs k d)) (λ e.
    none-some _ (sym h ∙ (after_least fails before xs k (rw (slice_get-get_or xs k d l) e)).1))

-- no item passes
none_where : {A : Type 0} (p : A → Bool) (xs : List A) → place_where p xs ≡ None → (k : ℕ) (d : A) → k < length xs
    → p (get_or xs k d) ≡ false
none_where p xs h = none_after (λ earlier. p) [] xs (sym (where_after p [] xs) ∙ h)

-- ---- ports

same_port_itself : (a : Port) → same_port a a ≡ true
same_port_itself a = grind (arith, nat_tests)

side_kept : (m : Module) (a : Option Port) → lacks_port m a ≡ false → IfSome a (λ p. IsTrue (uses p m))
side_kept m a h = grind arith

-- ---- blocks

kept_live : (scale : Scale) (len : ℕ) (kind : BlockKind) → is_bad_loop scale len kind ≡ false → HasFewLive scale len kind
kept_live scale len kind h = grind (arith, nat_tests)

kind_sound : (scale : Scale) (registers len : ℕ) (kind : BlockKind) → IsKindRead registers kind → is_bad_loop scale len kind ≡ false
    → IsKindSound registers len kind
kind_sound scale registers len Plain read h = tt
kind_sound scale registers len (Loop ii again) read h =
    let live = kept_live scale len (Loop ii again) h in
    record {
      interval = read.0;
      least = grind (arith, nat_tests);
      most = le_trans live (live_most scale ii);
      register = read.1;
    }

next_sound : (registers blocks : ℕ) (next : Next) → IsNextRead registers next → leads_out blocks next ≡ false
    → IsNextSound registers blocks next
next_sound registers blocks next read h = grind (arith, nat_tests)

-- offsets that are equal modulo the interval are equal phases
same_phase : (len : ℕ) (kind : BlockKind) (a b : ℕ) → a < len → b < len → a % interval_of kind len ≡ b % interval_of kind len
    → phase kind a ≡ phase kind b
same_phase len Plain a b below above h = sym (mod-eq_of_lt below) ∙ h ∙ mod-eq_of_lt above
same_phase len (Loop ii again) a b below above h = h

apart : (b : Block) → first_after (clashes b.kind) [] b.ops ≡ None
    → ((k : ℕ) (d : Timed) → k < length b.ops → (get_or b.ops k d).offset < b.len)
    → AllPairs (λ t u. ¬ Clashes (interval b) t u) b.ops
apart b h early i j d before there clash =
    let t : Timed = get_or b.ops i d in
    let u : Timed = get_or b.ops j d in
    let free = none_after (clashes b.kind) [] b.ops h j d there in
    let phases = same_phase b.len b.kind t.offset u.offset (early i d (omega arith)) (early j d there) clash.offsets in
    let first = clash.first in let second = clash.second in
    let itself = same_port_itself clash.port in let kept = get_or-take j b.ops i d before in
    let taken = list_any_at (λ x. is_slot (clash.port, phase b.kind u.offset) (slot b.kind x)) (take j b.ops) i d
    (rw length-take (omega arith)) (grind (arith, nat_tests)) in
    grind (arith, nat_tests)

timed_sound : (channels : ℕ) (own : Module) (block : Block) (t : Timed) → IsTimedRead channels own block t
    → is_too_late block.len t ≡ false → is_on_wrong_side own t ≡ false → IsTimedSound channels own block t
timed_sound channels own block t was early right = record {
  offset = grind (arith, nat_tests);
  guard = was.guard;
  operation = record {
    places = was.places;
    expressions = was.expressions;
    memory = was.memory;
    channel = was.channel;
    side = side_kept own (port_of t.op) right;
  };
}

block_sound : (scale : Scale) (channels : ℕ) (own : Module) (block : Block) → IsBlockRead scale channels own block → ((rule : Code)
    → spot scale rule own block ≡ None)
    → IsBlockSound channels own block
block_sound scale channels own block was none = record {
  least = was.least;
  most = le_trans was.most (limits_most scale).block_clocks;
  kind = kind_sound scale (length own.registers) block.len block.kind was.kind (let kept = none code.BadLoop in grind arith);
  temps = le_trans was.temps (limits_most scale).temps;
  count = le_trans was.count (limits_most scale).operations;
  operations = each;
  apart = apart block (none_mapped Operation _ (none code.PortClash)) (λ i d there. (each i d there).offset);
  next = next_sound (length own.registers) (length own.blocks) block.next was.next (let kept = none code.UnknownName in grind arith);
}
  where
    each : All (IsTimedSound channels own block) block.ops
    each i d there =
        timed_sound channels own block (get_or block.ops i d) (was.operations i d there)
        (none_where (is_too_late block.len) block.ops (none_mapped Operation _ (none code.BadOffset)) i d there)
        (none_where (is_on_wrong_side own) block.ops (none_mapped Operation _ (none code.WrongSide)) i d there)

-- ---- modules and channels

-- where the head of a block is not at fault, its test fails
no_head : (bad : Bool) → cond bad (Some Head) None ≡ None → bad ≡ false
no_head bad h = grind arith

module _ (scale : Scale) (plan : Plan) (read : IsPlanRead scale plan)
    (faultless : (rule : Code) → first_in (spot_in scale rule) plan.design.modules ≡ None) where
  none_at : (rule : Code) (m : ℕ) (dm : Module) → m < length plan.design.modules → (b : ℕ) (db : Block)
      → b < length (get_or plan.design.modules m dm).blocks
      → spot scale rule (get_or plan.design.modules m dm) (get_or (get_or plan.design.modules m dm).blocks b db) ≡ None
  none_at rule m dm lm b db lb =
      none_in (spot scale rule (get_or plan.design.modules m dm)) (get_or plan.design.modules m dm).blocks
      (none_in (spot_in scale rule) plan.design.modules (faultless rule) m dm lm) b db lb

  module_sound : (m : ℕ) (dm : Module) → m < length plan.design.modules
      → IsModuleSound (length plan.design.channels) (get_or plan.design.modules m dm)
  module_sound m dm lm =
      let was = read.modules m dm lm in
      record {
        name = was.name;
        registers = le_trans was.registers (limits_most scale).registers;
        memories = le_trans was.memories (limits_most scale).memories;
        words = λ w dw lw. let kept = was.words w dw lw in
            record { least = kept.least; most = le_trans kept.most (limits_most scale).memory_words };
        some = was.some;
        count = le_trans was.count (limits_most scale).blocks;
        blocks = λ b db lb. block_sound scale _ _ _ (was.blocks b db lb) (λ rule. none_at rule m dm lm b db lb);
      }

  module_within : (m : ℕ) (dm : Module) → m < length plan.design.modules
      → All (IsBlockWithin scale) (get_or plan.design.modules m dm).blocks
  module_within m dm lm b db lb =
      let clocks = ((read.modules m dm lm).blocks b db lb).most in
      let no_loop = none_at code.BadLoop m dm lm b db lb in
      record { clocks = clocks; live = kept_live scale _ _ (no_head _ no_loop) }

channel_sound : (scale : Scale) (plan : Plan) → IsPlanRead scale plan
    → place_where (lacks_users plan.design.modules) (enumerate_from 0 plan.design.channels) ≡ None
    → (f : ℕ) → f < length plan.design.channels → IsChannelSound plan f
channel_sound scale plan read h f there =
    let at = numbered_at plan.design.channels no_channel f there in
    let kept = none_where (lacks_users plan.design.modules) (enumerate_from 0 plan.design.channels) h f (0, no_channel)
    (rw length-enumerate_from there) in
    record {
      name = read.names f there;
      popping = grind (arith, nat_tests);
      pushing = grind (arith, nat_tests);
      entries = read.entries f there;
    }

-- ---- the whole

each_rule : (scale : Scale) (plan : Plan) → first_for (broken_by scale plan) rules ≡ None → (rule : Code)
    → first_in (spot_in scale rule) plan.design.modules ≡ None
each_rule scale plan h code.UnknownName = none_mapped in_module _ (none_of (broken_by scale plan) rules h 0 code.UnknownName refl)
each_rule scale plan h code.PortClash = none_mapped in_module _ (none_of (broken_by scale plan) rules h 3 code.PortClash refl)
each_rule scale plan h code.BadLoop = none_mapped in_module _ (none_of (broken_by scale plan) rules h 4 code.BadLoop refl)
each_rule scale plan h code.BadOffset = none_mapped in_module _ (none_of (broken_by scale plan) rules h 5 code.BadOffset refl)
each_rule scale plan h code.WrongSide = none_mapped in_module _ (none_of (broken_by scale plan) rules h 6 code.WrongSide refl)
each_rule scale plan h rule = in_none (spot_in scale rule) no_module plan.design.modules (λ m lm.
    in_none (spot scale rule (get_or plan.design.modules m no_module)) no_block (get_or plan.design.modules m no_module).blocks
    (λ b lb. refl))

pub fits : (scale : Scale) (plan : Plan) → IsPlanRead scale plan → checking_fault scale plan ≡ None
    → FitsEngine plan × KeepsScale scale plan
unfolding checking_fault
fits scale plan read h =
    let in_limits = none_of (broken_by scale plan) rules h 1 code.BadLimit refl in
    let served = none_of (broken_by scale plan) rules h 2 code.Ends refl in
    let limits : breaks_limits scale plan.cycles plan.ops ≡ false = grind arith in
    let counted : plan.ops ≤ (limits_at scale).counted_operations = grind (arith, nat_tests) in
    let within = module_within scale plan read (each_rule scale plan h) in (
      record {
        channel_count = le_trans read.channel_count (limits_most scale).channels;
        module_count = le_trans read.module_count (limits_most scale).modules;
        inputs = read.inputs;
        depths = read.depths;
        input_count = le_trans read.input_count (limits_most scale).input_values;
        channels = λ f there. channel_sound scale plan read (none_mapped _ _ served) f there;
        modules = λ m dm lm. module_sound scale plan read (each_rule scale plan h) m dm lm;
        some_cycles = grind (arith, nat_tests);
        cycles = grind (arith, nat_tests);
        some_operations = grind (arith, nat_tests);
        operations = le_trans counted (limits_most scale).counted_operations;
        pace = λ m dm lm b db lb. at_pace scale plan.ops _ counted (within m dm lm b db lb).clocks;
      },
      record { operations = counted; blocks = within },
    )

-- ---- a plan that the engine takes, and that keeps the scale, breaks no rule of checking

after_none : {A : Type 0} (fails : List A → A → Bool) (d : A) (before xs : List A)
    → ((k : ℕ) → k < length xs → fails (before ++ take k xs) (get_or xs k d) ≡ false) → first_after fails before xs ≡ None
after_none fails d before [] h = refl
after_none {A} fails d before (x ∷ xs) h =
    ap (λ (b : Bool). cond b (Some 0) (option_map (λ k. k + 1) (first_after fails (before ++ x ∷ []) xs)))
    (sym (ap (λ (l : List A). fails l x) (append-nil before)) ∙ h 0 (omega arith))
    ∙ ap (option_map (λ k. k + 1)) (after_none fails d (before ++ x ∷ []) xs
    (λ k l. ap (λ (m : List A). fails m (get_or xs k d)) (append_assoc before (x ∷ []) (take k xs)) ∙ h (suc k) (omega arith)))

where_none : {A : Type 0} (p : A → Bool) (d : A) (xs : List A) → ((k : ℕ) → k < length xs → p (get_or xs k d) ≡ false)
    → place_where p xs ≡ None
where_none p d xs h = where_after p [] xs ∙ after_none (λ earlier. p) d [] xs h

-- ---- ports and slots

port_is : (a b : Port) → same_port a b ≡ true → a ≡ b
port_is a b h = grind (arith, nat_tests)

-- phases that are equal are offsets that are equal modulo the interval
phase_mod : (len : ℕ) (kind : BlockKind) (a b : ℕ) → phase kind a ≡ phase kind b → a % interval_of kind len ≡ b % interval_of kind len
phase_mod len Plain a b e = ap (λ (n : ℕ). n % len) e
phase_mod len (Loop ii again) a b e = e

clash_of : (b : Block) (t u : Timed) (s : PortSlot) → slot b.kind u ≡ Some s → is_slot s (slot b.kind t) ≡ true → Clashes (interval b) t u
clash_of b t u s e h = by (used_port t.op) (used_port u.op) refl refl e h
  where
    by : (o p : Option Port) → used_port t.op ≡ o → used_port u.op ≡ p → option_map (λ a. (a, phase b.kind u.offset)) p ≡ Some s
        → is_slot s (option_map (λ a. (a, phase b.kind t.offset)) o) ≡ true → Clashes (interval b) t u
    by o None is_o is_p e h = absurd cc
    by None (Some c) is_o is_p e h = absurd (true≢false (sym h))
    by (Some a) (Some c) is_o is_p e h =
        let own : (c, phase b.kind u.offset) ≡ s = cc in
        let parts = and_parts (same_port c a) (phase b.kind u.offset == phase b.kind t.offset)
        (subst (λ (r : PortSlot). is_slot r (Some (a, phase b.kind t.offset)) ≡ true) (sym own) h) in
        record {
          port = c;
          first = is_o ∙ ap Some (sym (port_is c a parts.0));
          second = is_p;
          offsets = phase_mod b.len b.kind t.offset u.offset (sym (eqb-true _ _ parts.1));
        }

no_clash : (b : Block) (d : Timed) → AllPairs (λ t u. ¬ Clashes (interval b) t u) b.ops → (k : ℕ) → k < length b.ops
    → clashes b.kind (take k b.ops) (get_or b.ops k d) ≡ false
no_clash b d apart k there = by (slot b.kind (get_or b.ops k d)) refl
  where
    by : (o : Option PortSlot) → slot b.kind (get_or b.ops k d) ≡ o → takes_again b.kind (take k b.ops) o ≡ false
    by None e = refl
    by (Some s) e = list_any_none (λ t. is_slot s (slot b.kind t)) (take k b.ops) (λ i c l.
        let before : i < k = omega (arith, length-take k b.ops) in
        rw (get_or-take k b.ops i c before ∙ get_or_default b.ops i c d (omega arith))
        (false_from_ne_true (is_slot s (slot b.kind (get_or b.ops i d)))
        (λ taken. apart i k d before there (clash_of b (get_or b.ops i d) (get_or b.ops k d) s e taken))))

-- ---- blocks

next_within : (registers blocks : ℕ) (next : Next) → IsNextSound registers blocks next → leads_out blocks next ≡ false
next_within registers blocks next sound = grind (arith, nat_tests)

loop_within : (scale : Scale) (registers len : ℕ) (kind : BlockKind) → IsKindSound registers len kind → HasFewLive scale len kind
    → is_bad_loop scale len kind ≡ false
loop_within scale registers len kind sound live = grind (arith, nat_tests)

port_kept : (m : Module) (o : Option Port) → IfSome o (λ a. IsTrue (uses a m)) → lacks_port m o ≡ false
port_kept m o h = grind arith

module _ (scale : Scale) (channels : ℕ) (m : Module) (b : Block) (sound : IsBlockSound channels m b)
    (within : IsBlockWithin scale b) (d : Timed) where
  no_spot : (rule : Code) → spot scale rule m b ≡ None
  no_spot code.UnknownName =
      ap (λ (c : Bool). cond c (Some Terminator) None) (next_within (length m.registers) (length m.blocks) b.next sound.next)
  no_spot code.PortClash =
      ap (option_map Operation) (after_none (clashes b.kind) d [] b.ops (λ k there. no_clash b d sound.apart k there))
  no_spot code.BadLoop = ap (λ (c : Bool). cond c (Some Head) None)
      (loop_within scale (length m.registers) b.len b.kind sound.kind within.live)
  no_spot code.BadOffset = ap (option_map Operation) (where_none (is_too_late b.len) d b.ops (λ k there.
      not_from_true (nat_lt (get_or b.ops k d).offset b.len) (lt-ltb _ _ (sound.operations k d there).offset)))
  no_spot code.WrongSide = ap (option_map Operation) (where_none (is_on_wrong_side m) d b.ops (λ k there.
      port_kept m (port_of (get_or b.ops k d).op) (sound.operations k d there).operation.side))
  no_spot rule = refl

-- ---- plans

module _ (scale : Scale) (plan : Plan) (fits : FitsEngine plan) (keeps : KeepsScale scale plan) where
  no_module_breaks : (rule : Code) → first_in (spot_in scale rule) plan.design.modules ≡ None
  no_module_breaks rule = in_none (spot_in scale rule) no_module plan.design.modules (λ m lm.
      in_none (spot scale rule (get_or plan.design.modules m no_module)) no_block (get_or plan.design.modules m no_module).blocks (λ b lb.
      no_spot scale (length plan.design.channels) (get_or plan.design.modules m no_module) _
      ((fits.modules m no_module lm).blocks b no_block lb) (keeps.blocks m no_module lm b no_block lb) no_operation rule))

  limits_kept : breaks_limits scale plan.cycles plan.ops ≡ false
  limits_kept =
      let counted = keeps.operations in let some_cycles = fits.some_cycles in let cycles = fits.cycles in
      let some_operations = fits.some_operations in
      grind (arith, nat_tests)

  all_served : place_where (lacks_users plan.design.modules) (enumerate_from 0 plan.design.channels) ≡ None
  all_served = where_none (lacks_users plan.design.modules) (0, no_channel) (enumerate_from 0 plan.design.channels) (λ f l.
      let there : f < length plan.design.channels = omega (arith, length-enumerate_from 0 plan.design.channels) in
      let sound = fits.channels f there in
      ap (lacks_users plan.design.modules) (numbered_at plan.design.channels no_channel f there)
      ∙ not_from_true (is_served plan.design.modules f (kind_at plan f))
      (and_from _ _ (eq-eqb _ _ sound.popping) (eq-eqb _ _ sound.pushing)))

  pub strict : checking_fault scale plan ≡ None
  unfolding checking_fault
  strict =
      let none_for : (rule : Code) → broken_by scale plan rule ≡ None = unbroken in
      rw (
        none_for code.UnknownName,
        none_for code.BadLimit,
        none_for code.Ends,
        none_for code.PortClash,
        none_for code.BadLoop,
        none_for
            code.BadOffset,
        none_for code.WrongSide,
      ) refl
    where
      unbroken : (rule : Code) → broken_by scale plan rule ≡ None
      unbroken code.BadLimit = ap (λ (c : Bool). cond c (Some Item.Limits) None) limits_kept
      unbroken code.Ends = ap (option_map Item.Channel) all_served
      unbroken rule = ap (option_map in_module) (no_module_breaks rule)
