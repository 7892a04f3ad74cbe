-- The static rules: one module at each port of a channel, and at most one pop and one push of a channel in a clock.
use Rattle.std.proofs.Common.{◌≡◌, ℕ, zero, suc, ◌+◌, ◌≤◌, ◌<◌, List, [], ◌∷◌, length, get_or, Bool, true, false, cond, not, refl, ◌∙◌, ap}
use Rattle.std.proofs.Common.{arith, ◌⊎◌, inl, inr}
use Rattle.std.proofs.{lemmas.List.Sums.length-filter, lemmas.Bool.or_parts}
use Rattle.lockstep_defs.specs.{is_blocking, Port, Side, Op, Timed, Block, Plan, Due, Request, ModuleState, used_port, Channel, no_block}
use Rattle.lockstep_defs.specs.{block_at, block_of, operation_at, interval, due, same_port, is_port, uses, request_of, request_for}
use Rattle.lockstep_defs.specs.{requests, module_at, requests_of, is_query, AsksOnce, takes, owner, taking_requests}
use Rattle.flow_word.specs.declared.access.Side.TheVariants.{Pop, Push}
use Rattle.std.specs.List.{filter, filter_map, AllByRecursion, cons_option, list_any}
use Rattle.flow_design.specs.declared.design.Module.{Module}
use Rattle.flow_design.specs.declared.expr.Op.TheVariants.{Set, Load, Store, Read, Write, TryRead, TryWrite, Empty, Full}
use Rattle.lockstep_defs.proofs.Due.{AreApart, how_many, due_once, due_few, none_due}

abbrev pub port_on : Side → ℕ → Port
port_on side f = record { side = side; channel = f }

-- what the laws of channels take of the static rules
pub record KeepsPorts (p : Plan) : Type 0 where
  -- one module at each port
  pub owned : (a : Port) (i : ℕ) → uses a (module_at p i) ≡ true → owner p a ≡ i
  -- no two pops, or pushes, of one channel in one body have offsets equal modulo II
  pub apart : (a : Port) (i b : ℕ) → AreApart (takes a) (interval (block_at (module_at p i) b)) (block_at (module_at p i) b).ops
  -- II and LEN are at least 1
  pub intervals : (i b : ℕ) → ((block_at (module_at p i) b).ops ≡ []) ⊎ (0 < interval (block_at (module_at p i) b))

-- ---- requests are counted as due operations

length-cond : {X : Type 0} (b : Bool) (x : X) (xs : List X) → length (cond b (x ∷ xs) xs) ≡ cond b 1 0 + length xs
length-cond true x xs = omega arith
length-cond false x xs = omega arith

taker_of : (channels : List Channel) (s : ModuleState) (q : Port) (i : ℕ) (op : Op ℕ) (rs : List Request)
    → length (taking_requests q (cons_option (request_of channels s i op) rs)) ≡ cond (takes q op) 1 0 + length (taking_requests q rs)
taker_of channels s q i (Set x a) rs = omega arith
taker_of channels s q i (Load x n a) rs = omega arith
taker_of channels s q i (Store n a b) rs = omega arith
taker_of channels s q i (Read f x) rs = length-cond (same_port q (port_on Pop f)) _ (taking_requests q rs)
taker_of channels s q i (Write f a) rs = length-cond (same_port q (port_on Push f)) _ (taking_requests q rs)
taker_of channels s q i (TryRead f x ok) rs = length-cond (same_port q (port_on Pop f)) _ (taking_requests q rs)
taker_of channels s q i (TryWrite f ok a) rs = length-cond (same_port q (port_on Push f)) _ (taking_requests q rs)
taker_of channels s q i (Empty f x) rs = omega arith
taker_of channels s q i (Full f x) rs = omega arith

takers_counted : (channels : List Channel) (m : Module) (s : ModuleState) (a : Port) (ds : List Due)
    → length (taking_requests a (filter_map (request_for channels m s) ds)) ≡ how_many (takes a) (block_of m s) ds
takers_counted channels m s a [] = refl
takers_counted channels m s a (d ∷ ds) =
    taker_of channels s a d.iteration (operation_at (block_of m s) d.op).op (filter_map (request_for channels m s) ds)
    ∙ ap (λ (n : ℕ). cond (takes a (operation_at (block_of m s) d.op).op) 1 0 + n) (takers_counted channels m s a ds)

takers_due : (channels : List Channel) (m : Module) (s : ModuleState) (a : Port)
    → length (taking_requests a (requests channels m s)) ≡ how_many (takes a) (block_of m s) (due m s)
unfolding requests
takers_due channels m s a = takers_counted channels m s a (due m s)

none_in : (is : Op ℕ → Bool) (ts : List Timed) → ts ≡ [] → AllByRecursion (λ t. is t.op ≡ false) ts
none_in is [] e = tt
none_in is (t ∷ ts) e = cc

-- a module pops a channel at most once in a local clock, and pushes it at most once
pub takers_once : (p : Plan) → KeepsPorts p → (q : Port) (i : ℕ) (s : ModuleState) → length (taking_requests q (requests_of p (i, s))) ≤ 1
takers_once p h q i s = by_case (h.intervals i s.control.block)
  where
    by_case : ((block_of (module_at p i) s).ops ≡ []) ⊎ (0 < interval (block_of (module_at p i) s))
        → length (taking_requests q (requests_of p (i, s))) ≤ 1
    by_case (inl none) =
        omega (arith, takers_due p.design.channels (module_at p i) s q, none_due (takes q) (module_at p i) s (none_in (takes q) _ none))
    by_case (inr pos) =
        omega (
          arith,
          takers_due p.design.channels (module_at p i) s q,
          due_once (takes q) (module_at p i) s (h.apart q i s.control.block)
              pos,
        )

-- ---- queries

query_of : (channels : List Channel) (s : ModuleState) (i : ℕ) (op : Op ℕ) (rs : List Request)
    → length (filter (λ r. not (is_blocking r.kind)) (cons_option (request_of channels s i op) rs))
    ≡ cond (is_query op) 1 0 + length (filter (λ r. not (is_blocking r.kind)) rs)
query_of channels s i (Set x a) rs = omega arith
query_of channels s i (Load x n a) rs = omega arith
query_of channels s i (Store n a b) rs = omega arith
query_of channels s i (Read f x) rs = omega arith
query_of channels s i (Write f a) rs = omega arith
query_of channels s i (TryRead f x ok) rs = omega arith
query_of channels s i (TryWrite f ok a) rs = omega arith
query_of channels s i (Empty f x) rs = omega arith
query_of channels s i (Full f x) rs = omega arith

queries_counted : (channels : List Channel) (m : Module) (s : ModuleState) (ds : List Due)
    → length (filter (λ r. not (is_blocking r.kind)) (filter_map (request_for channels m s) ds)) ≡ how_many is_query (block_of m s) ds
queries_counted channels m s [] = refl
queries_counted channels m s (d ∷ ds) =
    query_of channels s d.iteration (operation_at (block_of m s) d.op).op (filter_map (request_for channels m s) ds)
    ∙ ap (λ (n : ℕ). cond (is_query (operation_at (block_of m s) d.op).op) 1 0 + n) (queries_counted channels m s ds)

queries_due : (channels : List Channel) (m : Module) (s : ModuleState)
    → length (filter (λ r. not (is_blocking r.kind)) (requests channels m s)) ≡ how_many is_query (block_of m s) (due m s)
unfolding requests
queries_due channels m s = queries_counted channels m s (due m s)

-- a module makes each query of its block at most once in a local clock
pub asks_once : (p : Plan) → KeepsPorts p → (i : ℕ) (s : ModuleState) → AsksOnce p i s
asks_once p h i s =
    omega (
      arith,
      length-filter (λ (r : Request). not (is_blocking r.kind)) (requests_of p (i, s)),
      length-filter (λ (t : Timed). is_query t.op) (block_of (module_at p i) s).ops,
      queries_due p.design.channels (module_at p i) s,
      by_case (h.intervals i s.control.block),
    )
  where
    by_case : ((block_of (module_at p i) s).ops ≡ []) ⊎ (0 < interval (block_of (module_at p i) s))
        → how_many is_query (block_of (module_at p i) s) (due (module_at p i) s)
        ≤ length (filter (λ t. is_query t.op) (block_of (module_at p i) s).ops)
    by_case (inl none) = omega (arith, none_due is_query (module_at p i) s (none_in is_query _ none))
    by_case (inr pos) = due_few is_query (module_at p i) s pos

-- ---- a module that doesn't use a port has no such request

any_false : {X : Type 0} (f : X → Bool) (xs : List X) → list_any f xs ≡ false → AllByRecursion (λ x. f x ≡ false) xs
any_false f [] h = tt
any_false f (x ∷ xs) h = let parts = or_parts (f x) (list_any f xs) h in (parts.0, any_false f xs parts.1)

uses_none : (a : Port) (bs : List Block) (n : ℕ) → list_any (λ b. list_any (λ t. is_port a (used_port t.op)) b.ops) bs ≡ false
    → AllByRecursion (λ t. takes a t.op ≡ false) (get_or bs n no_block).ops
uses_none a [] n h = tt
uses_none a (b ∷ bs) zero h = any_false (λ t. takes a t.op) b.ops (or_parts _ _ h).0
uses_none a (b ∷ bs) (suc n) h = uses_none a bs n (or_parts _ _ h).1

pub no_takers : (p : Plan) (a : Port) (i : ℕ) (s : ModuleState) → uses a (module_at p i) ≡ false
    → length (taking_requests a (requests_of p (i, s))) ≡ 0
no_takers p a i s h =
    takers_due p.design.channels (module_at p i) s a
    ∙ none_due (takes a) (module_at p i) s (uses_none a (module_at p i).blocks s.control.block h)
