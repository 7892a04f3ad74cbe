-- A plan that the engine takes keeps what the laws of channels take of the static rules.
use Rattle.std.proofs.Common.{◌≡◌, ◌≢◌, ℕ, zero, suc, ◌%◌, ◌≤◌, ◌<◌, List, [], ◌∷◌, length, get_or, Bool, true, false, cond, refl, sym, ap}
use Rattle.std.proofs.Common.{subst, arith, nat_lt, nat_eq, ◌&&◌, ◌⊎◌, inl, inr, Option, Some, None}
use Rattle.std.proofs.lemmas.Bool.{eqb-true, ltb-true, ltb-false}
use Rattle.std.proofs.{lemmas.List.get_or_past, lemmas.List.Folds.Any-from_list_any, lemmas.List.Sums.length-filter}
use Rattle.std.specs.{List.filter, List.AllByRecursion, List.All, List.Any, List.list_any, List.position_or_len, Prelude.IfSome}
use Rattle.lockstep_defs.specs.{Op, Timed, Block, Plan, port_of, used_port, kind_at, ChannelKind, no_block, no_operation, block_at}
use Rattle.lockstep_defs.specs.{interval, same_port, is_port, uses, users_wanted, Clashes, IsTimedSound, IsBlockSound, IsModuleSound}
use Rattle.lockstep_defs.specs.{FitsEngine, Port, Side, same_side, no_module, module_at, takes, owner}
use Rattle.flow_design.specs.declared.design.Module.{Module}
use Rattle.flow_design.specs.declared.expr.Op.TheVariants.{Set, Load, Store, Read, Write, TryRead, TryWrite, Empty, Full}
use Rattle.flow_design.specs.declared.design.ChannelKind.TheVariants.{Source, Sink, Fifo}
use Rattle.flow_word.specs.declared.access.Side.TheVariants.{Pop, Push}
use Rattle.lockstep_defs.proofs.{Blocks.some_interval, Due.AreApart, Once.KeepsPorts, Once.port_on}

-- ---- one module at each port

pub some_pass : {X : Type 0} (f : X → Bool) (xs : List X) (i : ℕ) (d : X) → i < length xs → f (get_or xs i d) ≡ true
    → 1 ≤ length (filter f xs)
some_pass f [] i d l h = absurd (omega arith)
some_pass f (x ∷ xs) zero d l h = rw h (omega arith)
some_pass f (x ∷ xs) (suc i) d l h = by_head (f x) (some_pass f xs i d (omega arith) h)
  where
    by_head : (b : Bool) → 1 ≤ length (filter f xs) → 1 ≤ length (cond b (x ∷ filter f xs) (filter f xs))
    by_head true m = omega arith
    by_head false m = m

-- where at most one element passes the test, it is the first that does
only_one : {X : Type 0} (f : X → Bool) (xs : List X) (i : ℕ) (d : X) → i < length xs → f (get_or xs i d) ≡ true → length (filter f xs) ≤ 1
    → position_or_len f xs ≡ i
only_one f [] i d l h one = absurd (omega arith)
only_one f (x ∷ xs) zero d l h one = rw h
only_one f (x ∷ xs) (suc i) d l h one =
    by_test (f x) refl one (some_pass f xs i d (omega arith) h) (λ fewer. only_one f xs i d (omega arith) h fewer)
  where
    by_test : (b : Bool) → f x ≡ b → length (cond b (x ∷ filter f xs) (filter f xs)) ≤ 1 → 1 ≤ length (filter f xs)
        → (length (filter f xs) ≤ 1 → position_or_len f xs ≡ i) → position_or_len f (x ∷ xs) ≡ suc i
    by_test true e one more rest = absurd (omega arith)
    by_test false e one more rest = rw (e, rest one) (omega arith)

-- an operation that pops or pushes at a port stands there
same_port-sound : (q g : Port) → same_port q g ≡ true → g ≡ q
same_port-sound a b h = by_sides a.side b.side a.channel b.channel h
  where
    by_sides : (s t : Side) (f g : ℕ) → (same_side s t && nat_eq f g) ≡ true → port_on t g ≡ port_on s f
    by_sides Pop Pop f g h = ap (port_on Pop) (sym (eqb-true f g h))
    by_sides Push Push f g h = ap (port_on Push) (sym (eqb-true f g h))
    by_sides Pop Push f g h = cc
    by_sides Push Pop f g h = cc

is_port-sound : (a : Port) (o : Option Port) → is_port a o ≡ true → o ≡ Some a
is_port-sound a None h = cc
is_port-sound a (Some g) h = ap Some (same_port-sound a g h)

used_stands : (op : Op ℕ) (q : Port) → used_port op ≡ Some q → port_of op ≡ Some q
used_stands (Set x a) q h = cc
used_stands (Load x n a) q h = cc
used_stands (Store n a b) q h = cc
used_stands (Read f x) q h = h
used_stands (Write f a) q h = h
used_stands (TryRead f x ok) q h = h
used_stands (TryWrite f ok a) q h = h
used_stands (Empty f x) q h = cc
used_stands (Full f x) q h = cc

-- a port that a module uses is one of a channel of the plan
channel_used : (n : ℕ) (m : Module) (q : Port) → All (IsBlockSound n m) m.blocks → uses q m ≡ true → q.channel < n
channel_used n m q sound h = in_block (Any-from_list_any _ m.blocks h)
  where
    in_operation : (b : Block) → IsBlockSound n m b → Any (λ t. is_port q (used_port t.op) ≡ true) b.ops → q.channel < n
    in_operation b s (k, t, l, at_k, used) =
        let here : IsTimedSound n m b t = subst (λ (u : Timed). IsTimedSound n m b u) at_k (s.operations k t l) in
        by_port (port_of t.op) (used_stands t.op q (is_port-sound q (used_port t.op) used)) here.operation.channel
      where
        by_port : (o : Option Port) → o ≡ Some q → IfSome o (λ g. g.channel < n) → q.channel < n
        by_port o same s = subst (λ (o : Option Port). IfSome o (λ g. g.channel < n)) same s

    in_block : Any (λ b. list_any (λ t. is_port q (used_port t.op)) b.ops ≡ true) m.blocks → q.channel < n
    in_block (k, b, l, at_k, used) =
        in_operation b (subst (λ (c : Block). IsBlockSound n m c) at_k (sound k b l)) (Any-from_list_any _ b.ops used)

wanted_once : (k : ChannelKind) (side : Side) → users_wanted k side ≤ 1
wanted_once Source Pop = omega arith
wanted_once Source Push = omega arith
wanted_once Sink Pop = omega arith
wanted_once Sink Push = omega arith
wanted_once (Fifo depth delay) side = omega arith

used_once : (p : Plan) → FitsEngine p → (a : Port) → a.channel < length p.design.channels → length (filter (uses a) p.design.modules) ≤ 1
used_once p h a l = by_side a.side a.channel l
  where
    by_side : (side : Side) (f : ℕ) → f < length p.design.channels → length (filter (uses (port_on side f)) p.design.modules) ≤ 1
    by_side Pop f l = omega (
      arith,
      length-filter (uses (port_on Pop f)) p.design.modules,
      (h.channels f l).popping,
      wanted_once
          (kind_at p f) Pop,
    )
    by_side Push f l = omega (
      arith,
      length-filter (uses (port_on Push f)) p.design.modules,
      (h.channels f l).pushing,
      wanted_once
          (kind_at p f) Push,
    )

-- ---- sound modules and blocks

-- a number names a sound module, or none
pub sound_module : (p : Plan) → FitsEngine p → (i : ℕ)
    → ((i < length p.design.modules) × IsModuleSound (length p.design.channels) (module_at p i)) ⊎ (module_at p i ≡ no_module)
sound_module p h i = by_range (nat_lt i (length p.design.modules)) refl
  where
    by_range : (b : Bool) → nat_lt i (length p.design.modules) ≡ b
        → ((i < length p.design.modules) × IsModuleSound (length p.design.channels) (module_at p i)) ⊎ (module_at p i ≡ no_module)
    by_range true e = let l = ltb-true _ _ e in inl (l, h.modules i no_module l)
    by_range false e = inr (get_or_past p.design.modules i no_module (ltb-false _ _ e))

-- a number names a sound block, or none
pub sound_block : (p : Plan) → FitsEngine p → (i b : ℕ)
    → IsBlockSound (length p.design.channels) (module_at p i) (block_at (module_at p i) b) ⊎ (block_at (module_at p i) b ≡ no_block)
sound_block p h i b = by_module (sound_module p h i)
  where
    by_range : IsModuleSound (length p.design.channels) (module_at p i) → (t : Bool) → nat_lt b (length (module_at p i).blocks) ≡ t
        → IsBlockSound (length p.design.channels) (module_at p i) (block_at (module_at p i) b) ⊎ (block_at (module_at p i) b ≡ no_block)
    by_range s true e = inl (s.blocks b no_block (ltb-true _ _ e))
    by_range s false e = inr (get_or_past (module_at p i).blocks b no_block (ltb-false _ _ e))

    by_module : ((i < length p.design.modules) × IsModuleSound (length p.design.channels) (module_at p i)) ⊎ (module_at p i ≡ no_module)
        → IsBlockSound (length p.design.channels) (module_at p i) (block_at (module_at p i) b) ⊎ (block_at (module_at p i) b ≡ no_block)
    by_module (inl s) = by_range s.1 _ refl
    by_module (inr none) = inr (ap (λ (m : Module). block_at m b) none)

-- ---- pops and pushes that are apart

apart_from : (a : Port) (ii : ℕ) (t : Timed) (ts : List Timed) → takes a t.op ≡ true
    → ((k : ℕ) → k < length ts → ¬ Clashes ii t (get_or ts k no_operation))
    → AllByRecursion (λ u. (takes a u.op ≡ true) → t.offset % ii ≢ u.offset % ii) ts
apart_from a ii t [] used h = tt
apart_from a ii t (u ∷ us) used h = (
  λ also same. h 0 (omega arith) (record {
    port = a;
    first = is_port-sound a (used_port t.op) used;
    second = is_port-sound a (used_port u.op) also;
    offsets = same;
  }),
  apart_from a ii t us used (λ k l. h (suc k) (omega arith)),
)

are_apart : (a : Port) (ii : ℕ) (ts : List Timed)
    → ((j k : ℕ) → j < k → k < length ts → ¬ Clashes ii (get_or ts j no_operation) (get_or ts k no_operation))
    → AreApart (takes a) ii ts
are_apart a ii [] h = tt
are_apart a ii (t ∷ ts) h = (
  λ used. apart_from a ii t ts used (λ k l. h 0 (suc k) (omega arith) (omega arith)),
  are_apart a ii ts (λ j k l m. h (suc j) (suc k) (omega arith) (omega arith)),
)

-- ---- the rules

pub owned_by : (p : Plan) → FitsEngine p → (a : Port) (i : ℕ) → uses a (module_at p i) ≡ true → owner p a ≡ i
unfolding owner
owned_by p h a i used = by_module (sound_module p h i)
  where
    by_module : ((i < length p.design.modules) × IsModuleSound (length p.design.channels) (module_at p i)) ⊎ (module_at p i ≡ no_module)
        → position_or_len (uses a) p.design.modules ≡ i
    by_module (inl s) =
        only_one (uses a) p.design.modules i no_module s.0 used
        (used_once p h a (channel_used (length p.design.channels) (module_at p i) a (s.1).blocks used))
    by_module (inr none) = let unused : uses a no_module ≡ true = subst (λ (m : Module). uses a m ≡ true) none used in cc

apart_in : (p : Plan) → FitsEngine p → (a : Port) (i b : ℕ)
    → AreApart (takes a) (interval (block_at (module_at p i) b)) (block_at (module_at p i) b).ops
apart_in p h a i b = by_block (sound_block p h i b)
  where
    by_block : IsBlockSound (length p.design.channels) (module_at p i) (block_at (module_at p i) b)
        ⊎ (block_at (module_at p i) b ≡ no_block)
        → AreApart (takes a) (interval (block_at (module_at p i) b)) (block_at (module_at p i) b).ops
    by_block (inl s) = are_apart a _ (block_at (module_at p i) b).ops (λ j k l m. s.apart j k no_operation l m)
    by_block (inr none) = subst (λ (c : Block). AreApart (takes a) (interval c) c.ops) (sym none) tt

intervals_in : (p : Plan) → FitsEngine p → (i b : ℕ) → ((block_at (module_at p i) b).ops ≡ []) ⊎ (0 < interval (block_at (module_at p i) b))
intervals_in p h i b = by_block (sound_block p h i b)
  where
    by_block : IsBlockSound (length p.design.channels) (module_at p i) (block_at (module_at p i) b)
        ⊎ (block_at (module_at p i) b ≡ no_block)
        → ((block_at (module_at p i) b).ops ≡ []) ⊎ (0 < interval (block_at (module_at p i) b))
    by_block (inl s) = inr (some_interval (length p.design.channels) (module_at p i) (block_at (module_at p i) b) s)
    by_block (inr none) = inl (ap (λ (c : Block). c.ops) none)

-- each plan that the engine takes keeps the rules
pub keeps_ports : (p : Plan) → FitsEngine p → KeepsPorts p
keeps_ports p h = record { owned = owned_by p h; apart = apart_in p h; intervals = intervals_in p h }
