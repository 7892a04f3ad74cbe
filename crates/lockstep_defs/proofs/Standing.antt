-- What is due in a state of a module of a plan that the engine takes, and where its requests stand.
use Rattle.std.proofs.Common.{◌≡◌, ℕ, ◌+◌, ◌≤◌, ◌<◌, List, [], ◌∷◌, map, length, Bool, true, ◌==◌, refl, sym, subst, arith, ◌⊎◌, inl, inr}
use Rattle.std.proofs.{lemmas.Bool.cond_both, lemmas.List.Elements.All-from_recursion, lemmas.List.Sums.length-filter}
use Rattle.std.specs.List.{flat_map, filter, filter_map, enumerate_from, cons_option, AllByRecursion, All}
use Rattle.std.specs.Prelude.{IfSome}
use Rattle.lockstep_defs.specs.{Op, ChannelKind, Channel, Timed, Block, Plan, Due, ModuleState, Request, port, port_of, kind_at, no_block}
use Rattle.lockstep_defs.specs.{no_operation, block_of, operation_at, live_count, ages, due_at, due_in, due, uses, users_wanted}
use Rattle.lockstep_defs.specs.{IsBlockSound, FitsEngine, Port, Side, request_of, request_for, requests, module_at, requests_of, has_port}
use Rattle.lockstep_defs.specs.{StandsAtPort, IsDueIn}
use Rattle.flow_design.specs.declared.design.Module.{Module}
use Rattle.flow_design.specs.declared.expr.Op.TheVariants.{Set, Load, Store, Read, Write, TryRead, TryWrite, Empty, Full}
use Rattle.flow_design.specs.declared.design.ChannelKind.TheVariants.{Source, Sink, Fifo}
use Rattle.flow_word.specs.declared.access.Side.TheVariants.{Pop, Push}
use Rattle.lockstep_defs.proofs.{Live.are_ages, Queue.all-append, Once.port_on, Rules.some_pass, Rules.sound_block, Rules.owned_by}

-- ---- due operations are in range

pub due_numbers : (b : Block) (a k : ℕ) (ts : List Timed) → k + length ts ≤ length b.ops
    → AllByRecursion (λ n. n < length b.ops) (map (λ t. t.0) (filter (λ t. (t.1).offset == a) (enumerate_from k ts)))
due_numbers b a k [] h = tt
due_numbers b a k (t ∷ ts) h =
    let rest = due_numbers b a (k + 1) ts (omega arith) in
    cond_both (t.offset == a) ((k, t) ∷ filter (λ t. (t.1).offset == a) (enumerate_from (k + 1) ts))
    (filter (λ t. (t.1).offset == a) (enumerate_from (k + 1) ts))
    (λ (l : List (ℕ × Timed)). AllByRecursion (λ n. n < length b.ops) (map (λ t. t.0) l))
    (λ e. (omega arith, rest)) (λ e. rest)

passing_in : (b : Block) (iterations i : ℕ) (test : ℕ → Bool) (ns : List ℕ) → i < iterations → AllByRecursion (λ n. n < length b.ops) ns
    → AllByRecursion (IsDueIn b iterations) (map (λ n. record { iteration = i; op = n }) (filter test ns))
passing_in b iterations i test [] l h = tt
passing_in b iterations i test (n ∷ ns) l h =
    let rest = passing_in b iterations i test ns l h.1 in
    cond_both (test n) (n ∷ filter test ns) (filter test ns)
    (λ (l : List ℕ). AllByRecursion (IsDueIn b iterations) (map (λ n. record { iteration = i; op = n }) l))
    (λ e. (record { iteration = l; op = h.0 }, rest)) (λ e. rest)

due_in_iteration : (b : Block) (s : ModuleState) (iterations : ℕ) (it : ℕ × ℕ) → it.0 < iterations
    → AllByRecursion (IsDueIn b iterations) (due_in b s it)
unfolding due_at
due_in_iteration b s iterations it l = passing_in b iterations it.0 _ (due_at b it.1) l (due_numbers b it.1 0 b.ops (omega arith))

due_in_iterations : (b : Block) (s : ModuleState) (iterations n : ℕ) (as' : List ℕ) → n + length as' ≤ iterations
    → AllByRecursion (IsDueIn b iterations) (flat_map (due_in b s) (enumerate_from n as'))
due_in_iterations b s iterations n [] h = tt
due_in_iterations b s iterations n (a ∷ as') h =
    all-append (IsDueIn b iterations) (due_in b s (n, a)) (flat_map (due_in b s) (enumerate_from (n + 1) as'))
    (due_in_iteration b s iterations (n, a) (omega arith)) (due_in_iterations b s iterations (n + 1) as' (omega arith))

due_by_recursion : (m : Module) (s : ModuleState) → AllByRecursion (IsDueIn (block_of m s) (live_count (block_of m s) s.control)) (due m s)
unfolding due
due_by_recursion m s =
    let b = block_of m s in
    due_in_iterations b s (live_count b s.control) 0 (ages b s.control) (omega (arith, (are_ages b s.control).count))

-- each due operation is one of the block, in a live iteration
pub due_in_range : (m : Module) (s : ModuleState) → All (IsDueIn (block_of m s) (live_count (block_of m s) s.control)) (due m s)
due_in_range m s = All-from_recursion (IsDueIn (block_of m s) (live_count (block_of m s) s.control)) (due m s) (due_by_recursion m s)

-- ---- requests stand at ports of their module

none_wanted : (k : ChannelKind) (side : Side) → 1 ≤ users_wanted k side → has_port k side ≡ true
none_wanted Source Pop h = refl
none_wanted Source Push h = absurd (omega arith)
none_wanted Sink Pop h = absurd (omega arith)
none_wanted Sink Push h = refl
none_wanted (Fifo depth delay) side h = refl

-- a port that a module uses is there
port_there : (p : Plan) → FitsEngine p → (i : ℕ) (q : Port) → i < length p.design.modules → q.channel < length p.design.channels
    → uses q (module_at p i) ≡ true
    → has_port (kind_at p q.channel) q.side ≡ true
port_there p h i q l in_range used = by_side q.side q.channel in_range used
  where
    by_side : (side : Side) (f : ℕ) → f < length p.design.channels → uses (port_on side f) (module_at p i) ≡ true
        → has_port (kind_at p f) side ≡ true
    by_side Pop f in_range used =
        let popping = (h.channels f in_range).popping in
        none_wanted (kind_at p f) Pop
        (omega (
          arith,
          length-filter (uses (port_on Pop f)) p.design.modules,
          popping,
          some_pass (uses (port_on Pop f)) p.design.modules i _
              l used,
        ))
    by_side Push f in_range used =
        let pushing = (h.channels f in_range).pushing in
        none_wanted (kind_at p f) Push
        (omega (
          arith,
          length-filter (uses (port_on Push f)) p.design.modules,
          pushing,
          some_pass (uses (port_on Push f)) p.design.modules i
              _ l used,
        ))

stands : (p : Plan) → FitsEngine p → (i : ℕ) → i < length p.design.modules → (r : Request) → r.channel < length p.design.channels
    → uses (port r.kind r.channel) (module_at p i) ≡ true → StandsAtPort p i r
stands p h i l r in_range used = record {
  in_range = in_range;
  is_there = port_there p h i (port r.kind r.channel) l in_range used;
  owned = owned_by p h (port r.kind r.channel) i used;
}

-- an operation of a module makes a request that stands at a port, or none
operation_stands : (p : Plan) → FitsEngine p → (i : ℕ) → i < length p.design.modules
    → (channels : List Channel) (s : ModuleState) (n : ℕ) (op : Op ℕ)
    → IfSome (port_of op) (λ a. a.channel < length p.design.channels) → IfSome (port_of op) (λ a. uses a (module_at p i) ≡ true)
    → (rs : List Request) → AllByRecursion (StandsAtPort p i) rs
    → AllByRecursion (StandsAtPort p i) (cons_option (request_of channels s n op) rs)
operation_stands p h i l channels s n (Set x a) c u rs rest = rest
operation_stands p h i l channels s n (Load x k a) c u rs rest = rest
operation_stands p h i l channels s n (Store k a b) c u rs rest = rest
operation_stands p h i l channels s n (Read f x) c u rs rest = (stands p h i l _ c u, rest)
operation_stands p h i l channels s n (Write f a) c u rs rest = (stands p h i l _ c u, rest)
operation_stands p h i l channels s n (TryRead f x ok) c u rs rest = (stands p h i l _ c u, rest)
operation_stands p h i l channels s n (TryWrite f ok a) c u rs rest = (stands p h i l _ c u, rest)
operation_stands p h i l channels s n (Empty f x) c u rs rest = (stands p h i l _ c u, rest)
operation_stands p h i l channels s n (Full f x) c u rs rest = (stands p h i l _ c u, rest)

all_stand : (p : Plan) → FitsEngine p → (i : ℕ) → i < length p.design.modules → (channels : List Channel) (s : ModuleState)
    → IsBlockSound (length p.design.channels) (module_at p i) (block_of (module_at p i) s) → (n : ℕ) (ds : List Due)
    → AllByRecursion (IsDueIn (block_of (module_at p i) s) n) ds
    → AllByRecursion (StandsAtPort p i) (filter_map (request_for channels (module_at p i) s) ds)
all_stand p h i l channels s sound n [] d = tt
all_stand p h i l channels s sound n (x ∷ ds) d =
    let here = (sound.operations x.op no_operation (d.0).op).operation in
    operation_stands p h i l channels s x.iteration (operation_at (block_of (module_at p i) s) x.op).op here.channel here.side
    (filter_map (request_for channels (module_at p i) s) ds) (all_stand p h i l channels s sound n ds d.1)

nothing_due : (m : Module) (s : ModuleState) → block_of m s ≡ no_block
    → AllByRecursion (IsDueIn (block_of m s) (live_count (block_of m s) s.control)) (due m s) → due m s ≡ []
nothing_due m s e h = none (due m s) (subst (λ (b : Block). AllByRecursion (IsDueIn b (live_count (block_of m s) s.control)) (due m s)) e h)
  where
    none : (ds : List Due) → AllByRecursion (IsDueIn no_block (live_count (block_of m s) s.control)) ds → ds ≡ []
    none [] d = refl
    none (x ∷ ds) d = let l = (d.0).op in absurd (omega arith)

stand_by_recursion : (p : Plan) → FitsEngine p → (i : ℕ) → i < length p.design.modules → (s : ModuleState)
    → AllByRecursion (StandsAtPort p i) (requests_of p (i, s))
unfolding requests
stand_by_recursion p h i l s = by_block (sound_block p h i s.control.block)
  where
    by_block : IsBlockSound (length p.design.channels) (module_at p i) (block_of (module_at p i) s)
        ⊎ (block_of (module_at p i) s ≡ no_block)
        → AllByRecursion (StandsAtPort p i) (filter_map (request_for p.design.channels (module_at p i) s) (due (module_at p i) s))
    by_block (inl sound) = all_stand p h i l p.design.channels s sound _ (due (module_at p i) s) (due_by_recursion (module_at p i) s)
    by_block (inr none) =
        subst (λ (ds : List Due). AllByRecursion (StandsAtPort p i) (filter_map (request_for p.design.channels (module_at p i) s) ds))
        (sym (nothing_due (module_at p i) s none (due_by_recursion (module_at p i) s))) tt

-- each request of a module stands at a port of a channel of the plan, and the module is the one at that port
pub requests_stand : (p : Plan) → FitsEngine p → (i : ℕ) → i < length p.design.modules → (s : ModuleState)
    → All (StandsAtPort p i) (requests_of p (i, s))
requests_stand p h i l s = All-from_recursion (StandsAtPort p i) (requests_of p (i, s)) (stand_by_recursion p h i l s)
