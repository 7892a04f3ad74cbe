-- When an access is possible, by the graph and the table, is what the theory knows of it.
use Rattle.std.proofs.Common.{◌≡◌, refl, sym, ap, ◌∙◌, ℕ, suc, ◌+◌, ◌-◌, ◌<◌, ◌≤◌, false, List, length, get_or, Option, None, Some, arith}
use Rattle.std.proofs.Common.{inl, inr, slice_get, slice_index_or}
use Rattle.std.proofs.{lemmas.Bool.Decides.nat_tests, lemmas.List.get_or_past}
use Rattle.std.proofs.lemmas.Bool.{cases_lt, lt-ltb, le-ltb, le-leb, lt-leb}
use Rattle.std.proofs.lemmas.Option.{slice_get_cases, slice_get-get_or, slice_get_past}
use Rattle.std.specs.Prelude.{All}
use Rattle.engine_view.specs.{other_side, side_of, Side, Access, Place, Lane, IsSoundLane, no_lane, lane_at, cycle_of, TableChannel}
use Rattle.engine_view.specs.{event_at, enabler_by, Channel, channel_at, places_of, lag_of, HasSide, lag, known_by, when_possible}
use Rattle.engine_view.specs.{enabler_at, IsAccess, HasAccesses, Design, IsDesign, Reply, place, tally, View, known, known_of, from_step}
use Rattle.engine_view.specs.{core_accesses, core_tally, core_reply, view, step_of, no_step, emitted_of, seen, core_of, as_known, ShowsCore}
use Rattle.engine_view.specs.{IsSound, IsKind, IsTakenAt, AreTaken, Held.Held}
use Rattle.flow_word.specs.declared.access.Side.TheVariants.{Pop, Push}
use Rattle.fifo_table.specs.declared.channel.TableChannel.TheVariants.{Source, Sink, Fifo}
use Rattle.event_timing.specs.{Enablers.Known.From, Enablers.Known.Unknown, Core.Core}
use Rattle.event_timing.proofs.OwnRuns.{IsPlace, place_says, place_unique, tally_mono}
use Rattle.event_timing.proofs.{Fronts.core_tally_is, Threshold.known_free, Threshold.known_never}
use Rattle.event_timing.specs.Machines as theory

-- ---- the step of an event

-- no step below n is the place, where as many are taken before n
pub place_none : (a : ℕ → List theory.Access) (r : ℕ → List Reply) (side : Side) (ch n i : ℕ) → tally a r side ch n ≤ i
    → place a r side ch n i ≡ None
place_none a r side ch n i l = later (place a r side ch n i) (place_says a r side ch n i)
  where
    later : (o : Option ℕ) → IsPlace a r side ch n i o → o ≡ None
    later None g = refl
    later (Some j) (g1, g2, g3) = absurd (omega (arith, tally_mono a r side ch (suc j) n g1))

from_none : (cycle : ℕ → ℕ) (l : ℕ) (o : Option ℕ) → o ≡ None → from_step cycle l o ≡ Unknown
from_none cycle l o e = rw e refl

from_some : (cycle : ℕ → ℕ) (l : ℕ) (o : Option ℕ) (j : ℕ) → o ≡ Some j → from_step cycle l o ≡ From (cycle j + l)
from_some cycle l o j e = rw e refl

-- the event of the table is the theory's, where the table has the places of all that is taken
event_is : {S : Type 0} → (d : Design S) (h : Held) (x : Core S) → ((m : ℕ) → length (lane_at h.lanes m).cycles ≡ x.timed m)
    → ((m k : ℕ) → k < x.timed m → get_or (lane_at h.lanes m).cycles k 0 ≡ x.cycle m k) → ((m : ℕ) → x.timed m ≤ x.emitted m)
    → (side : Side) (ch l j : ℕ) (places : List Place) → AreTaken d x side ch places
    → as_known (known_by h.lanes l (event_at (slice_get places j)))
    ≡ from_step (x.cycle (d.owner side ch)) l (place (core_accesses d x (d.owner side ch)) (core_reply d x (d.owner side ch)) side ch
    (x.timed (d.owner side ch)) j)
event_is {S} d h x t y w side ch l j places taken =
    let m : ℕ = d.owner side ch in
    let same = λ (n : ℕ). core_tally_is d x m side ch n in
    elim (slice_get_cases places j).1 [
      | inl (p, inside, there, here) ↦
          let spot = taken.each j p inside in
          let at' : IsTakenAt d x side ch j p = rw here at spot in
          elim (cases_lt p.step (x.timed m)) [
            | inl early ↦
                let found = place_unique (core_accesses d x m) (core_reply d x m) side ch (x.timed m) j p.step early
                (omega (arith, same p.step, at'.from)) (omega (arith, same (suc p.step), at'.to)) in
                let cycle : cycle_of h.lanes p ≡ Some (x.cycle m p.step) =
                rw at'.owner (slice_get-get_or (lane_at h.lanes m).cycles p.step 0 (omega (arith, t m))
                ∙ ap (λ (z : ℕ). Some z) (y m p.step early)) in
                rw (there, cycle) (sym (from_some (x.cycle m) l _ p.step found))
            | inr late ↦
                let none = place_none (core_accesses d x m) (core_reply d x m) side ch (x.timed m) j
                (omega (
                  arith,
                  same (x.timed m),
                  same p.step,
                  at'.from,
                  tally_mono (core_accesses d x m) (core_reply d x m) side ch
                      (x.timed m) p.step late,
                )) in
                let cycle : cycle_of h.lanes p ≡ None =
                rw at'.owner (slice_get_past (lane_at h.lanes m).cycles p.step (omega (arith, t m))) in
                rw (there, cycle) (sym (from_none (x.cycle m) l _ none))
          ]
      | inr (past, there) ↦
          let none = place_none (core_accesses d x m) (core_reply d x m) side ch (x.timed m) j
          (omega (
            arith,
            taken.count,
            same (x.timed m),
            same (x.emitted m),
            tally_mono (core_accesses d x m) (core_reply d x m) side ch
                (x.timed m) (x.emitted m) (w m),
          )) in
          rw there (sym (from_none (x.cycle m) l _ none))
    ]

-- ---- what is sound

lane_within : (lanes : List Lane) → All IsSoundLane lanes → (m : ℕ) → length (lane_at lanes m).cycles ≤ length (lane_at lanes m).steps
lane_within lanes all m = let here = all m no_lane in let past = get_or_past lanes m no_lane in grind arith

pub timed_within : {S : Type 0} → (d : Design S) (h : Held) → IsSound d h → (m : ℕ)
    → length (lane_at h.lanes m).cycles ≤ length (lane_at h.lanes m).steps
timed_within {S} d h y m = lane_within h.lanes y.sound_lanes m

-- each access of each step is one of a channel
lane_inside : (lanes : List Lane) (channels : List Channel) → HasAccesses lanes channels → (m k : ℕ) → k < length (lane_at lanes m).steps
    → All (IsAccess channels) (slice_index_or (lane_at lanes m).steps k no_step).accesses
lane_inside lanes channels all m k l =
    let past = get_or_past lanes m no_lane in let inside : m < length lanes = grind arith in all m no_lane inside k no_step l

pub shown_inside : {S : Type 0} → (d : Design S) (h : Held) (x : Core S) → ShowsCore d h x → (m k : ℕ) → k < emitted_of h m
    → All (IsAccess h.channels) (step_of h m k).accesses
shown_inside {S} d h x s m k l = lane_inside h.lanes h.channels s.inside m k l

step_inside : {S : Type 0} → (d : Design S) (h : Held) → IsSound d h → (m k : ℕ) → k < emitted_of h m
    → All (IsAccess h.channels) (step_of h m k).accesses
step_inside {S} d h y m k l = shown_inside d h (core_of d h) y m k l

-- ---- an access by its side

by_event : {S : Type 0} → (d : Design S) (v : View) (side : Side) (ch n s : ℕ) → d.unlimited side ch ≡ false → d.start side ch ≡ s
    → d.closed side ch ≡ false → s ≤ n
    → known d v side ch n ≡ from_step (v.cycle (d.owner (other_side side) ch)) (d.lag side ch)
    (place (v.accesses (d.owner (other_side side) ch)) (v.reply (d.owner (other_side side) ch)) (other_side side) ch
    (v.timed (d.owner (other_side side) ch)) (n - s))
unfolding known
by_event {S} d v side ch n s e1 e2 e3 e4 = rw (e1, e2, e3, le-ltb n s e4) refl

-- what the table and the graph tell of the access with n earlier ones at this side of a channel of this kind is what the theory knows
kind_known : {S : Type 0} → (d : Design S) → IsDesign d → (h : Held) (x : Core S)
    → ((m : ℕ) → length (lane_at h.lanes m).cycles ≡ x.timed m)
    → ((m k : ℕ) → k < x.timed m → get_or (lane_at h.lanes m).cycles k 0 ≡ x.cycle m k) → ((m : ℕ) → x.timed m ≤ x.emitted m)
    → (kind : TableChannel) (side : Side) (ch n : ℕ) (channel : Channel) → IsKind d ch kind → HasSide kind side
    → AreTaken d x (other_side side) ch (places_of (other_side side) channel)
    → as_known (known_by h.lanes (d.lag side ch) (enabler_by kind side channel (suc n))) ≡ known d (view d x) side ch n
kind_known {S} d i h x t y w (Source inputs) Pop ch n channel (k1, k2) s taken =
    let limited = i.pops_limited ch in
    let free = known_free d (view d x) Pop ch n in
    let never = known_never d (view d x) Pop ch n in
    grind (arith, nat_tests)
kind_known {S} d i h x t y w (Source inputs) Push ch n channel k s taken = absurd (s tt)
kind_known {S} d i h x t y w Sink Pop ch n channel k s taken = absurd (s tt)
kind_known {S} d i h x t y w Sink Push ch n channel k s taken = sym (known_free d (view d x) Push ch n (rw k refl))
kind_known {S} d i h x t y w (Fifo depth delay) Pop ch n channel (k1, k2, k3, k4) s taken =
    let e = event_is d h x t y w Push ch (d.lag Pop ch) n (places_of Push channel) taken in
    let known_is = by_event d (view d x) Pop ch n 0 (i.pops_limited ch) k3 (k4 Pop) (omega arith) in
    let z : suc n - 1 ≡ n = omega arith in
    let z' : n - 0 ≡ n = omega arith in
    rw z (e ∙ sym (rw z' at known_is))
kind_known {S} d i h x t y w (Fifo depth delay) Push ch n channel (k1, k2, k3, k4) s taken =
    elim (cases_lt n depth) [
      | inl few ↦ rw (le-leb (suc n) depth few) (sym (known_free d (view d x) Push ch n (rw (k1, k2) (lt-ltb n depth few))))
      | inr many ↦
          let e = event_is d h x t y w Pop ch (d.lag Push ch) (n - depth) channel.pops taken in
          let z : (suc n - depth) - 1 ≡ n - depth = omega arith in
          let known_is = by_event d (view d x) Push ch n depth k1 k2 (k4 Push) many in
          rw (lt-leb (suc n) depth (omega arith), z) (e ∙ sym known_is)
    ]

-- ---- an access of a module's first step without a cycle

by_side : (lanes : List Lane) (channels : List Channel) (a : Access) (n : ℕ) → a.ordinal ≡ n
    → when_possible lanes channels a
    ≡ known_by lanes (lag_of (channel_at channels a.channel).kind (side_of a.kind)) (enabler_by (channel_at channels a.channel).kind
    (side_of a.kind) (channel_at channels a.channel) n)
unfolding when_possible enabler_at lag
by_side lanes channels a n e = rw e refl

side_known : {S : Type 0} → (d : Design S) → IsDesign d → (h : Held) → IsSound d h → (a : Access) → IsAccess h.channels a → (n : ℕ)
    → a.ordinal ≡ suc n
    → as_known (when_possible h.lanes h.channels a) ≡ known d (view d (core_of d h)) (side_of a.kind) a.channel n
side_known {S} d i h y a g n e =
    let channel = channel_at h.channels a.channel in
    let known_is = kind_known d i h (core_of d h) (λ m. refl) (λ m k q. refl) (timed_within d h y) channel.kind (side_of a.kind) a.channel n
    channel (y.kinds a.channel g.channel) g.side (y.taken (other_side (side_of a.kind)) a.channel g.channel) in
    rw (by_side h.lanes h.channels a (suc n) e, ← (y.lags (side_of a.kind) a.channel g.channel)) known_is

-- what the code knows of each access of an emitted step is what the theory knows: by the module's accesses in the steps before it
pub access_known_in : {S : Type 0} → (d : Design S) → IsDesign d → (h : Held) → IsSound d h → (m k : ℕ) → k < emitted_of h m
    → All (λ (a : Access). as_known (when_possible h.lanes h.channels a)
    ≡ known d (view d (core_of d h)) (side_of a.kind) a.channel
    (tally ((view d (core_of d h)).accesses m) ((view d (core_of d h)).reply m) (side_of a.kind) a.channel k))
    (step_of h m k).accesses
access_known_in {S} d i h y m k less = λ j e l.
    let x = core_of d h in
    let a = get_or (step_of h m k).accesses j e in
    let n = core_tally d x m (side_of a.kind) a.channel k in
    let same = core_tally_is d x m (side_of a.kind) a.channel k in
    let inside = step_inside d h y m k less j e l in
    side_known d i h y a inside n (y.ordinals m k less j e l)
    ∙ ap (known d (view d x) (side_of a.kind) a.channel) (sym same)

-- and so of the accesses of its first step without a cycle
pub access_known : {S : Type 0} → (d : Design S) → IsDesign d → (h : Held) → IsSound d h → (m : ℕ)
    → length (lane_at h.lanes m).cycles < emitted_of h m
    → All (λ (a : Access). as_known (when_possible h.lanes h.channels a) ≡ known_of d (view d (core_of d h)) m (seen a))
    (step_of h m (length (lane_at h.lanes m).cycles)).accesses
access_known {S} d i h y m less = access_known_in d i h y m (length (lane_at h.lanes m).cycles) less
