-- The held modules are the theory's.
use Rattle.std.proofs.Common.{arith, ◌≡◌, refl, sym, ap, ◌∙◌, ℕ, not, List, [], ◌∷◌, map, length, None, inl, inr}
use Rattle.std.proofs.lemmas.Bool.{cases_lt, lt-ltb, le-ltb, cond-true}
use Rattle.std.proofs.{lemmas.Option.slice_get-get_or, lemmas.Option.slice_get_past, lemmas.List.Elements.recursion_from_All}
use Rattle.std.specs.Prelude.{option_map, is_none, nat_lt}
use Rattle.std.specs.List.{find, filter_map, range_with_len, AllByRecursion}
use Rattle.engine_report.specs.{Access, Plan, Verdict, Request, requests_of, lane_at, when_possible, is_waiting, known_clock, IsDesign}
use Rattle.engine_report.specs.{view, known_of, design, is_from, is_stuck, core_held_by, core_held, step_of, no_step, emitted_of, seen}
use Rattle.engine_report.specs.{core_of, as_known, IsSound, held_by_access, held_at_open_step, all_held}
use Rattle.flow_design.specs.declared.report.Verdict.TheVariants.{Done, Deadlock, Cycles, Ops}
use Rattle.engine_view.proofs.Knowing.{access_known}
use Rattle.engine_report.proofs.{Asking.same_kind, Asking.same_channel, Same.found_same}
use Rattle.lockstep_defs.specs.Verdict as machine
use Rattle.time_engine.specs.declared.known.Known as of_code
use Rattle.timing_bridge.specs.Designs as bridge
use Rattle.engine_view.specs.Held as view

no_clock : (k : of_code.Known) → is_none (known_clock k) ≡ not (is_from (as_known k))
no_clock k = grind arith

-- the access waits where the request is stuck
waits_same : (p : Plan) (h : view.Held) (i : ℕ) (r : Request) (a : Access) → bridge.seen_request r ≡ seen a
    → as_known (when_possible h.lanes h.channels a) ≡ known_of (design p) (view (design p) (core_of (design p) h)) i (seen a)
    → is_waiting h.lanes h.channels a ≡ is_stuck p (core_of (design p) h) i r
waits_same p h i r a e known =
    let kind = same_kind r a e in
    let none = no_clock (when_possible h.lanes h.channels a) in
    grind arith

held_same : (i : ℕ) (r : Request) (a : Access) → bridge.seen_request r ≡ seen a → held_by_access i a ≡ machine.held_at i r
held_same i r a e = rw (same_kind r a e, same_channel r a e) refl

first_held : (p : Plan) (h : view.Held) (i : ℕ) (rs : List Request) (xs : List Access) → map bridge.seen_request rs ≡ map seen xs
    → AllByRecursion (λ (a : Access). as_known (when_possible h.lanes h.channels a)
    ≡ known_of (design p) (view (design p) (core_of (design p) h)) i (seen a)) xs
    → option_map (held_by_access i) (find (is_waiting h.lanes h.channels) xs) ≡ option_map (machine.held_at i)
    (find (is_stuck p (core_of (design p) h) i) rs)
first_held p h i [] [] e all = refl
first_held p h i (r ∷ rs) (a ∷ xs) e all =
    let one : bridge.seen_request r ≡ seen a = cc in
    let waits = waits_same p h i r a one all.0 in
    let rest = first_held p h i rs xs (cc) all.1 in
    let same = held_same i r a one in
    grind arith
first_held p h i rs xs e all = absurd cc

module_held : (p : Plan) → IsDesign (design p) → (h : view.Held) → IsSound (design p) h → (i : ℕ)
    → held_at_open_step h.lanes h.channels i ≡ core_held_by p (core_of (design p) h) i
module_held p y h s i =
    let x = core_of (design p) h in
    let lane = lane_at h.lanes i in
    let k = length lane.cycles in
    elim (cases_lt k (length lane.steps)) [
      | inl less ↦ rw (slice_get-get_or lane.steps k no_step less)
          (first_held p h i (requests_of p (i, x.state i k)) (step_of h i k).accesses (s.accesses i k less)
          (recursion_from_All _ (step_of h i k).accesses (access_known (design p) y h s i less))
          ∙ sym (cond-true (nat_lt k (emitted_of h i)) _ None (lt-ltb k (emitted_of h i) less)))
      | inr more ↦ rw (slice_get_past lane.steps k more, le-ltb k (emitted_of h i) more) refl
    ]

pub all_held_is : (p : Plan) → IsDesign (design p) → (h : view.Held) → IsSound (design p) h → (v : Verdict)
    → all_held h.lanes h.channels v ≡ core_held p (core_of (design p) h) v
all_held_is p y h s (Done c) = refl
all_held_is p y h s (Deadlock c) =
    found_same (held_at_open_step h.lanes h.channels) (core_held_by p (core_of (design p) h)) 0 (length h.lanes)
    (λ i l. module_held p y h s i)
    ∙ ap (λ (n : ℕ). filter_map (core_held_by p (core_of (design p) h)) (range_with_len 0 n)) s.lanes
all_held_is p y h s (Cycles c) = refl
all_held_is p y h s (Ops c) =
    found_same (held_at_open_step h.lanes h.channels) (core_held_by p (core_of (design p) h)) 0 (length h.lanes)
    (λ i l. module_held p y h s i)
    ∙ ap (λ (n : ℕ). filter_map (core_held_by p (core_of (design p) h)) (range_with_len 0 n)) s.lanes
