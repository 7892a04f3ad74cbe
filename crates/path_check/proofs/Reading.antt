-- A step that waits for another, as it is read off the graph and the table, comes after it.
use Rattle.std.proofs.Common.{◌≡◌, ℕ, zero, suc, ◌+◌, ◌-◌, ◌<◌, ◌≤◌, Bool, true, false, ◌||◌, List, [], ◌∷◌, refl, sym, ap, ◌∙◌, arith}
use Rattle.std.proofs.Common.{length, map, slice_get, slice_index_or, Option, None, Some, subst}
use Rattle.std.proofs.{lemmas.Bool.and_from, lemmas.Bool.eq-eqb, lemmas.Option.get_or_from_slice_get, lemmas.Option.slice_get_within}
use Rattle.std.specs.Prelude.{slice_index, cond, IfSome}
use Rattle.path_check.specs.{Access, Place, Side, side_of, other_side, same_side, is_blocking, Plan, Advance, lane_at, no_lane}
use Rattle.path_check.specs.{TableChannel, IsFifo, channel_at, places_of, free_of, Design, IsDesign, own, core_accesses, core_reply}
use Rattle.path_check.specs.{core_tally, bare_replies, design, lockstep_run, start_in, with_depths, Engine, held_in, IsKind, IsTakenAt}
use Rattle.path_check.specs.{core_of, step_of, no_step, emitted_of, seen, waited, IsFinished, blocks_at, can_wait_at, IsTried, free_with}
use Rattle.path_check.specs.{OneWaits, cycle_at, IsTimedAt, ComesLater}
use Rattle.flow_word.specs.declared.access.Side.TheVariants.{Pop, Push}
use Rattle.fifo_table.specs.declared.channel.TableChannel.TheVariants.{Source, Sink, Fifo}
use Rattle.event_timing.proofs.OwnRuns.{tally_mono}
use Rattle.timing_bridge.proofs.History.{plan_is_design, run_is_history}
use Rattle.depth_order.proofs.Order.{same_elements}
use Rattle.engine_view.specs.Held.{Held}
use Rattle.engine_view.proofs.Knowing.{shown_inside}
use Rattle.engine_report.proofs.Ending.{apart_at}
use Rattle.path_check.proofs.Steps.{comes_next, comes_after, gap_after}

-- ---- accesses

side_same : (s : Side) → same_side s s ≡ true
side_same Pop = refl
side_same Push = refl

blocks_there : (a : Access) → is_blocking a.kind ≡ true → blocks_at (side_of a.kind) a.channel (seen a) ≡ true
blocks_there a b = and_from _ _ b (and_from _ _ (side_same (side_of a.kind)) (eq-eqb a.channel a.channel refl))

or_last : (b : Bool) → (b || true) ≡ true
or_last true = refl
or_last false = refl

-- an access that blocks waits at its port
waits_among : (xs : List Access) (j : ℕ) (a : Access) → slice_get xs j ≡ Some a → is_blocking a.kind ≡ true
    → can_wait_at (side_of a.kind) a.channel (map seen xs) ≡ true
waits_among [] j a e b = absurd (cc)
waits_among (x ∷ xs) zero a e b =
    let same : x ≡ a = cc in
    let here = subst (λ (y : Access). blocks_at (side_of a.kind) a.channel (seen y) ≡ true) (sym same) (blocks_there a b) in
    ap (λ (first : Bool). first || can_wait_at (side_of a.kind) a.channel (map seen xs)) here
waits_among (x ∷ xs) (suc j) a e b =
    ap (λ (rest : Bool). blocks_at (side_of a.kind) a.channel (seen x) || rest) (waits_among xs j a e b)
    ∙ or_last (blocks_at (side_of a.kind) a.channel (seen x))

-- ---- what waits for nobody

-- with these depths, at a FIFO
free_is : {S : Type 0} → (d : Design S) (start : Side → ℕ → ℕ) (kind : TableChannel) (depth : ℕ) (side : Side) (c : ℕ) → IsFifo kind
    → IsKind d c kind → start Pop c ≡ d.start Pop c → start Push c ≡ depth
    → start side c ≡ cond (same_side side Push) depth (free_of kind side)
free_is {S} d start (Source inputs) depth side c f k pops pushes = absurd f
free_is {S} d start Sink depth side c f k pops pushes = absurd f
free_is {S} d start (Fifo own delay) depth Pop c f (k1, k2, k3, k4) pops pushes = pops ∙ k3
free_is {S} d start (Fifo own delay) depth Push c f k pops pushes = pushes

limited_is : {S : Type 0} → (d : Design S) → IsDesign d → (kind : TableChannel) (side : Side) (c : ℕ) → IsFifo kind → IsKind d c kind
    → d.unlimited side c ≡ false
limited_is {S} d i (Source inputs) side c f k = absurd f
limited_is {S} d i Sink side c f k = absurd f
limited_is {S} d i (Fifo depth delay) Pop c f k = i.pops_limited c
limited_is {S} d i (Fifo depth delay) Push c f k = k.0

start_with : (p : Plan) (h : Held) (ends : List (Option Advance)) (depths : List ℕ) → IsFinished p h ends → (side : Side) (c : ℕ)
    → c < length h.channels → IsFifo (channel_at h.channels c).kind
    → start_in (with_depths p depths) side c ≡ free_with h.channels depths side c
start_with p h ends depths f side c inside fifo =
    free_is (design p) (start_in (with_depths p depths)) (channel_at h.channels c).kind (slice_index depths c) side c fifo
    (f.sound.kinds c inside) (same_elements p depths c) refl

-- ---- a module's next step

gap_is : (p : Plan) (h : Held) (ends : List (Option Advance)) → IsFinished p h ends → (n k : ℕ) → n < length h.lanes
    → suc k < emitted_of h n
    → (step_of h n (suc k)).gap ≡ suc ((design p).quiet n (own (design p) n (core_reply (design p) (core_of (design p) h) n) (suc k)))
gap_is p h ends f n k inside less =
    let lane = lane_at h.lanes n in
    let apart = apart_at lane.steps (f.sound.sound_lanes n no_lane inside).apart (suc k) no_step (omega arith) less in
    let wait : waited (suc k) (step_of h n (suc k)).gap
    ≡ (design p).quiet n (own (design p) n (core_reply (design p) (core_of (design p) h) n) (suc k)) =
    f.agreed.marks.own_wait n (suc k) less in
    omega arith

pub next_adds : (p : Plan) (e : Engine) (depths : List ℕ) → IsTried p e depths → (before next : Place)
    → IsTimedAt e.graph.lanes next → next.module ≡ before.module → next.step ≡ suc before.step
    → ComesLater p (held_in e) depths before next (step_of (held_in e) next.module next.step).gap
next_adds p e depths t before next timed same step from clocks c =
    let f = t.finished in
    let inside = timed.owner in
    let made = timed.step in
    let its = timed.timed in
    let less : suc before.step < emitted_of (held_in e) next.module = omega arith in
    let gap = gap_is p (held_in e) e.ends.items f next.module before.step inside less in
    let same_gap = ap (λ (k : ℕ). (step_of (held_in e) next.module k).gap) step in
    let there : suc before.step < length (lane_at e.graph.lanes next.module).cycles = omega arith in
    let after = comes_next (design p) (start_in (with_depths p depths)) (lockstep_run p) (plan_is_design p f.fits)
    (run_is_history p f.fits) p.cycles (core_of (design p) (held_in e)) f.agreed from.module (cycle_at e.graph.lanes from) next.module
    before.step c.path
    there (rw (← same) at c.after) in
    let long = c.long in
    record {
      path = c.path + gap_after (design p) (core_of (design p) (held_in e)) next.module before.step;
      long = omega arith;
      after = rw step after;
    }

-- ---- a step that waits for another

pub waits_adds : (p : Plan) (e : Engine) (depths : List ℕ) → IsTried p e depths
    → (before next : Place) (lag : ℕ)
    → IsTimedAt e.graph.lanes before → IsTimedAt e.graph.lanes next
    → OneWaits e.fifos.channels depths (step_of (held_in e) next.module next.step).accesses before lag → ComesLater p (held_in e) depths
    before next lag
waits_adds p e depths t before next lag first timed one from clocks c =
    let f = t.finished in
    let d = design p in
    let x = core_of d (held_in e) in
    let i = plan_is_design p f.fits in
    let a = one.access in
    let w = one.waits in
    let side = side_of a.kind in
    let less : next.step < emitted_of (held_in e) next.module = timed.step in
    let accesses = (step_of (held_in e) next.module next.step).accesses in
    let number = slice_get_within accesses one.number a one.among in
    let at = get_or_from_slice_get accesses one.number a a one.among in
    let inside = rw at at (shown_inside d (held_in e) x f.sound next.module next.step less one.number a number) in
    let ordinal = rw at at (f.sound.ordinals next.module next.step less one.number a number) in
    let places = places_of (other_side side) (channel_at e.fifos.channels a.channel) in
    let j = a.ordinal - suc (free_with e.fifos.channels depths side a.channel) in
    let event = w.event in
    let few = slice_get_within places j event w.enabler in
    let here = get_or_from_slice_get places j event event w.enabler in
    let taken : IsTakenAt d x (other_side side) a.channel j event =
    rw here at ((f.sound.taken (other_side side) a.channel inside.channel).each j event few) in
    let owner : d.owner (other_side side) a.channel ≡ before.module = sym taken.owner ∙ w.same_module in
    let start = start_with p (held_in e) e.ends.items depths f side a.channel inside.channel w.fifo in
    let not_free = w.not_free in
    let then : core_tally d x before.module (other_side side) a.channel event.step ≤ j = rw owner at taken.from in
    let earlier = tally_mono (core_accesses d x before.module) (λ (k : ℕ). bare_replies (x.flags before.module k)) (other_side side)
    a.channel before.step event.step w.no_earlier in
    let waits : can_wait_at side a.channel (core_accesses d x next.module next.step) ≡ true =
    ap (can_wait_at side a.channel) (f.sound.accesses next.module next.step less) ∙ waits_among accesses one.number a one.among w.blocks in
    let after = comes_after d (start_in (with_depths p depths)) (lockstep_run p) i
    (run_is_history p f.fits) p.cycles x f.agreed from.module (cycle_at e.graph.lanes from) before.module before.step next.module
    next.step c.path
    a.channel side first.timed timed.timed owner waits
    (limited_is d i (channel_at e.fifos.channels a.channel).kind side a.channel w.fifo (f.sound.kinds a.channel inside.channel))
    (omega arith) c.after in
    let lags = f.sound.lags side a.channel inside.channel in
    let same = w.its_lag in
    let long = c.long in
    record { path = c.path + d.lag side a.channel; long = omega arith; after = after }

-- ---- what is answered

pub lags_add : (e : Engine) (depths : List ℕ) (before next : Place) (found : Option ℕ) → IsTimedAt e.graph.lanes before
    → IsTimedAt e.graph.lanes next
    → IfSome found (λ lag. OneWaits e.fifos.channels depths
    (slice_index_or (lane_at e.graph.lanes next.module).steps next.step no_step).accesses before lag)
    → IfSome found (λ clocks. (p : Plan) → IsTried p e depths
    → ComesLater p (held_in e) depths before next clocks)
lags_add e depths before next None first timed w = tt
lags_add e depths before next (Some lag) first timed w =
    λ p t. waits_adds p e depths t before next lag first timed w

pub gaps_add : (e : Engine) (depths : List ℕ) (before next : Place) (gap : ℕ)
    → gap ≡ (slice_index_or (lane_at e.graph.lanes next.module).steps next.step no_step).gap → IsTimedAt e.graph.lanes next
    → next.module ≡ before.module → next.step ≡ suc before.step
    → (p : Plan) → IsTried p e depths
    → ComesLater p (held_in e) depths before next gap
gaps_add e depths before next gap is timed same step p t =
    rw is (next_adds p e depths t before next timed same step)
