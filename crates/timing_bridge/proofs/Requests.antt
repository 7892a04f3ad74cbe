-- The requests of a module as accesses of the theory: whose they are, and how many take.
use Rattle.std.proofs.Common.{◌≡◌, ℕ, ◌+◌, ◌≤◌, List, [], ◌∷◌, map, length, Bool, true, false, ◌&&◌, cond, refl, sym, ◌∙◌, ap, ap₂, subst}
use Rattle.std.proofs.Common.{arith, inl, inr, eqb}
use Rattle.std.proofs.lemmas.Bool.{cases_lt, cases_eq, eq-eqb, ne_eqb}
use Rattle.std.proofs.{lemmas.List.get_or_past, lemmas.List.Elements.recursion_from_All}
use Rattle.std.specs.List.{AllByRecursion, filter_map}
use Rattle.timing_bridge.specs.{Kind, Side, other_side, same_side, side_of, is_taking, ChannelKind, Plan, Due, ModuleState, Request}
use Rattle.timing_bridge.specs.{taken_port, no_block, block_of, live_count, due, kind_at, FitsEngine, same_port, is_port, requests}
use Rattle.timing_bridge.specs.{request_for, no_module, module_at, requests_of, owner, is_taker, has_port, StandsAtPort, IsDueIn, Each}
use Rattle.timing_bridge.specs.{takers, seen_request, due_accesses, is_source}
use Rattle.flow_word.specs.declared.access.Side.TheVariants.{Pop, Push}
use Rattle.flow_word.specs.declared.access.Kind.TheVariants.{Read, Write, TryRead, TryWrite, Empty, Full}
use Rattle.flow_design.specs.declared.design.Module.{Module}
use Rattle.flow_design.specs.declared.design.ChannelKind.TheVariants.{Source, Sink, Fifo}
use Rattle.lockstep_defs.proofs.{Once.takers_once, Rules.keeps_ports, Standing.due_in_range, Standing.requests_stand}
use Rattle.lockstep_defs.specs.Ports as ports
use Rattle.event_timing.specs.Machines as theory

-- ---- a number that names no module asks nothing

nothing_due : (n : ℕ) (ds : List Due) → AllByRecursion (IsDueIn no_block n) ds → ds ≡ []
nothing_due n [] h = refl
nothing_due n (d ∷ ds) h = let l = (h.0).op in absurd (omega arith)

nothing_asked : (p : Plan) (s : ModuleState) (m : Module) → m ≡ no_module → requests p.design.channels m s ≡ []
unfolding requests
nothing_asked p s m e =
    let none : due no_module s ≡ [] =
    nothing_due (live_count no_block s.control) (due no_module s)
    (recursion_from_All (IsDueIn (block_of no_module s) (live_count (block_of no_module s) s.control)) (due no_module s)
    (due_in_range no_module s)) in
    ap (λ (n : Module). requests p.design.channels n s) e ∙ ap (filter_map (request_for p.design.channels no_module s)) none

-- ---- who stands where

-- each request of a module stands at an end of a channel of the plan that is the module's own
pub stand : (p : Plan) → FitsEngine p → (i : ℕ) (s : ModuleState) → AllByRecursion (StandsAtPort p i) (requests_of p (i, s))
stand p h i s = elim (cases_lt i (length p.design.modules)) [
  | inl l ↦ recursion_from_All (StandsAtPort p i) (requests_of p (i, s)) (requests_stand p h i l s)
  | inr l ↦ subst (AllByRecursion (StandsAtPort p i))
      (sym (nothing_asked p s (module_at p i) (get_or_past p.design.modules i no_module l))) tt
]

each_seen : (P : Request → Type 0) (Q : theory.Access → Type 0) → ((r : Request) → P r → Q (seen_request r)) → (rs : List Request)
    → AllByRecursion P rs → Each Q (map seen_request rs)
each_seen P Q f [] h = tt
each_seen P Q f (r ∷ rs) h = (f r h.0, each_seen P Q f rs h.1)

pub owned_in : (p : Plan) → FitsEngine p → (i : ℕ) (s : ModuleState)
    → Each (λ a. owner p (record { side = a.side; channel = a.channel }) ≡ i) (due_accesses p i s)
owned_in p h i s = each_seen (StandsAtPort p i) _ (λ r e. e.owned) (requests_of p (i, s)) (stand p h i s)

not_source : (k : ChannelKind) (side : Side) → has_port k side ≡ true → (same_side (other_side side) Pop && is_source k) ≡ false
not_source Source Pop h = refl
not_source Source Push h = cc
not_source Sink Pop h = refl
not_source Sink Push h = refl
not_source (Fifo declared delay) Pop h = refl
not_source (Fifo declared delay) Push h = refl

pub open_in : (p : Plan) → FitsEngine p → (i : ℕ) (s : ModuleState)
    → Each (λ a. (same_side (other_side a.side) Pop && is_source (kind_at p a.channel)) ≡ false) (due_accesses p i s)
open_in p h i s = each_seen (StandsAtPort p i) _ (λ r e. not_source (kind_at p r.channel) (side_of r.kind) e.is_there)
    (requests_of p (i, s)) (stand p h i s)

-- ---- at most one pop and one push of a channel in a local clock

same_number : (f g : ℕ) → eqb g f ≡ eqb f g
same_number f g = elim (cases_eq g f) [
  | inl e ↦ eq-eqb g f e ∙ sym (eq-eqb f g (sym e))
  | inr n ↦ ne_eqb g f n ∙ sym (ne_eqb f g (λ e. n (sym e)))
]

ports_same : (a side : Side) (f g : ℕ)
    → (same_side a side && eqb g f) ≡ same_port (record { side = side; channel = f }) (record { side = a; channel = g })
ports_same Pop Pop f g = same_number f g
ports_same Pop Push f g = refl
ports_same Push Pop f g = refl
ports_same Push Push f g = same_number f g

taker_same : (side : Side) (f : ℕ) (k : Kind) (g : ℕ)
    → (is_taking k && (same_side (side_of k) side && eqb g f)) ≡ is_port (record { side = side; channel = f }) (taken_port k g)
taker_same side f Read g = ports_same Pop side f g
taker_same side f Write g = ports_same Push side f g
taker_same side f TryRead g = ports_same Pop side f g
taker_same side f TryWrite g = ports_same Push side f g
taker_same side f Empty g = refl
taker_same side f Full g = refl

count_more : (b : Bool) (r : Request) (rs : List Request) → cond b 1 0 + length rs ≡ length (cond b (r ∷ rs) rs)
count_more true r rs = omega arith
count_more false r rs = omega arith

takers_same : (side : Side) (f : ℕ) (rs : List Request)
    → takers side f (map seen_request rs) ≡ length (ports.taking_requests (record { side = side; channel = f }) rs)
takers_same side f [] = refl
takers_same side f (r ∷ rs) =
    ap₂ (λ (b : Bool) (n : ℕ). cond b 1 0 + n) (taker_same side f r.kind r.channel) (takers_same side f rs)
    ∙ count_more (is_taker (record { side = side; channel = f }) r) r (ports.taking_requests (record { side = side; channel = f }) rs)

pub one_taker : (p : Plan) → FitsEngine p → (side : Side) (i : ℕ) (s : ModuleState) (f : ℕ) → takers side f (due_accesses p i s) ≤ 1
one_taker p h side i s f =
    omega (arith, takers_same side f (requests_of p (i, s)), takers_once p (keeps_ports p h) (record { side = side; channel = f }) i s)
