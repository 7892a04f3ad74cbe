-- A step has no more queries than its body has operations.
use Rattle.std.proofs.Common.{◌≡◌, inl, inr, ap, arith, ℕ, ◌<◌, ◌≤◌, not, length, List, get_or}
use Rattle.std.proofs.{lemmas.Bool.cases_lt, lemmas.List.get_or_past, lemmas.List.Sums.length-filter, lemmas.List.Sums.count_by-le-length}
use Rattle.sim_core.specs.{is_blocking, Access, Step as StepOf, Plan, no_block, block_at, block_of, FitsEngine, is_query, module_at}
use Rattle.sim_core.specs.{is_spent, Own, accesses_at, mark_at, queries_in, HasBodiesWithin, AreBodyLengths}
use Rattle.flow_design.specs.{declared.design.Module.Module, declared.state.Advance.TheVariants.Step}
use Rattle.module_interp.proofs.Sound.{few_queries}
use Rattle.sim_core.proofs.Marking.{step_of_mark}

pub bodies_within : (m : Module) (a b : ℕ) → a ≤ b → HasBodiesWithin m a → HasBodiesWithin m b
bodies_within m a b l h k d inside = let fits = h k d inside in omega arith

-- so are those that are told, where there is room for as many
pub bodies_told : (p : Plan) {lengths : List ℕ} → AreBodyLengths p (length p.design.modules) lengths → (m : ℕ) → m < length p.design.modules
    → {told room : ℕ} → told ≡ get_or lengths m 0 → told ≤ room → HasBodiesWithin (module_at p m) room
bodies_told p {lengths} are m inside {told} {room} is l =
    bodies_within (module_at p m) (get_or lengths m 0) room (omega arith) (are.each m inside).within

body_within : (m : Module) (n most : ℕ) → HasBodiesWithin m most → length (block_at m n).ops ≤ most
body_within m n most h = elim (cases_lt n (length m.blocks)) [
  | inl l ↦ h n no_block l
  | inr l ↦ let none : block_at m n ≡ no_block = get_or_past m.blocks n no_block l in rw none (omega arith)
]

-- so there is room for the outcomes of a step
pub room_for_step : (p : Plan) → FitsEngine p → (i : ℕ) (o : Own) (t : StepOf) → mark_at p i o ≡ Step t → {room : ℕ}
    → HasBodiesWithin (module_at p i) room → queries_in t.accesses ≤ room
room_for_step p f i o t is {room} within =
    let b = block_of (module_at p i) o.state in
    let same : accesses_at p i o ≡ t.accesses =
    ap (λ (s : StepOf). s.accesses) (step_of_mark o.state.ended (is_spent p.ops o.state) o.since _ t is).1 in
    let queries = length-filter (λ (a : Access). not (is_blocking a.kind)) (accesses_at p i o) in
    rw (← same) (omega (
      arith,
      queries,
      few_queries p f i o,
      count_by-le-length (λ t. is_query t.op) b.ops,
      body_within (module_at p i) o.state.control.block room within,
    ))
