-- The cycles of the steps that use a port are the clocks in which elements pass it.
use Rattle.std.proofs.Common.{◌≡◌, ℕ, zero, suc, ◌<◌, ◌≤◌, List, [], length, true, get_or, ltb, slice_get, Option, Some, None, arith, refl}
use Rattle.std.proofs.Common.{sym, ◌∙◌, ap, ap₂, subst, inl, inr}
use Rattle.std.proofs.lemmas.Bool.{cases_lt, eq-eqb, eqb-true, le-ltb, lt-ltb, ltb-true}
use Rattle.std.proofs.lemmas.Option.{get_or_from_slice_get, slice_get_cases, slice_get-get_or, slice_get_within}
use Rattle.std.specs.Prelude.{Bool, false, ◌==◌, option_and_then, option_map, unwrap_or}
use Rattle.port_clocks.specs.{Place, Port, Side, Plan, Advance, ModuleState, HistoryStep, moved, owner, last_clock, moved_before, Lane}
use Rattle.port_clocks.specs.{lane_at, cycle_of, Channel, channel_at, first_module, places_of, IsDesign, Trace, IsHistory, tally, Agrees}
use Rattle.port_clocks.specs.{core_accesses, core_reply, core_tally, bare_replies, view, design, lockstep_run, core_of, IsTakenAt}
use Rattle.port_clocks.specs.{IsFinished, ArePortClocks, cycle_in, AreCycles, never, PassesAt}
use Rattle.timelines.proofs.Ending.{last_within}
use Rattle.event_timing.specs.Core.{Core}
use Rattle.event_timing.proofs.{FinalReport.done_limit, Fronts.agrees, Fronts.core_tally_is, OwnRuns.tally_mono, OwnRuns.taken_mono}
use Rattle.event_timing.proofs.Threshold.{counted, taken_view}
use Rattle.timing_bridge.proofs.{History.plan_is_design, History.run_is_history, InOrder.reported_history}
use Rattle.engine_view.specs.Held.{Held}
use Rattle.port_clocks.proofs.Counting.{told_clocks, told_counts}

-- ---- places and their cycles

some_cycle : {X : Type 0} (f : Place → Option X) (o : Option Place) (e : X) → option_and_then f o ≡ Some e
    → (at : Place) × (o ≡ Some at) × (f at ≡ Some e)
some_cycle f None e h = cc
some_cycle f (Some at) e h = (at, refl, h)

none_past : (xs : List ℕ) (k : ℕ) → slice_get xs k ≡ None → length xs ≤ k
none_past xs k e = elim (cases_lt k (length xs)) [
  | inl w ↦ (let there = slice_get-get_or xs k 0 w in cc)
  | inr w ↦ w
]

-- ---- a port of a finished plan

module _ (p : Plan) (h : Held) (ends : List (Option Advance)) (f : IsFinished p h ends) (side : Side) (ch : ℕ)
    (inside : ch < length h.channels) where
  abbrev x : Core ModuleState
  x = core_of (design p) h

  abbrev run : Trace ModuleState
  run = lockstep_run p

  abbrev places : List Place
  places = places_of side (channel_at h.channels ch)

  -- the module that uses the port
  abbrev m : ℕ
  m = (design p).owner side ch

  abbrev timed : ℕ
  timed = length (lane_at h.lanes m).cycles

  -- how many elements pass the port in its first k steps
  abbrev passed : ℕ → ℕ
  passed k = core_tally (design p) x m side ch k

  a_design : IsDesign (design p)
  a_design = plan_is_design p f.fits

  a_history : IsHistory (design p) run
  a_history = run_is_history p f.fits

  shown : Agrees (design p) run (view (design p) x)
  shown = agrees (design p) run p.cycles x f.agreed.marks f.agreed.time

  passed_rises : (j k : ℕ) → j ≤ k → passed j ≤ passed k
  passed_rises j k l = tally_mono (core_accesses (design p) x m) (λ i. bare_replies (x.flags m i)) side ch j k l

  -- the step at a place uses the port after so many elements
  module _ (n : ℕ) (at : Place) (there : slice_get places n ≡ Some at) where
    spot : IsTakenAt (design p) x side ch n at
    spot = subst (IsTakenAt (design p) x side ch n) (get_or_from_slice_get places n at at there)
        ((f.sound.taken side ch inside).each n at (slice_get_within places n at there))

    -- its element is among those that passed before a clock, where its cycle is before it
    passed_at : (e : ℕ) → cycle_of h.lanes at ≡ Some e → (c : ℕ) → ltb n (moved_before p side ch c) ≡ ltb e c
    passed_at e cycle c =
        let own : slice_get (lane_at h.lanes m).cycles at.step ≡ Some e =
        subst (λ (i : ℕ). slice_get (lane_at h.lanes i).cycles at.step ≡ Some e) spot.owner cycle in
        let early = slice_get_within (lane_at h.lanes m).cycles at.step e own in
        counted (design p) run a_design a_history (view (design p) x) shown side ch at.step n early
        (omega (arith, core_tally_is (design p) x m side ch at.step, spot.from))
        (omega (arith, core_tally_is (design p) x m side ch (suc at.step), spot.to)) c
        ∙ ap (λ (z : ℕ). ltb z c) (get_or_from_slice_get (lane_at h.lanes m).cycles at.step e 0 own)

    -- as many passed in all as before it, where it has no cycle
    passed_before : cycle_of h.lanes at ≡ None → passed timed ≤ n
    passed_before none =
        let own : slice_get (lane_at h.lanes m).cycles at.step ≡ None =
        subst (λ (i : ℕ). slice_get (lane_at h.lanes i).cycles at.step ≡ None) spot.owner none in
        let late = passed_rises timed at.step (none_past (lane_at h.lanes m).cycles at.step own) in
        omega (arith, spot.from)

    its_cycle : (e : ℕ) → cycle_of h.lanes at ≡ Some e → e < p.cycles
    its_cycle e cycle =
        let own : slice_get (lane_at h.lanes m).cycles at.step ≡ Some e =
        subst (λ (i : ℕ). slice_get (lane_at h.lanes i).cycles at.step ≡ Some e) spot.owner cycle in
        let early = slice_get_within (lane_at h.lanes m).cycles at.step e own in
        omega (arith, f.agreed.time.below m at.step early, get_or_from_slice_get (lane_at h.lanes m).cycles at.step e 0 own)

  -- all that passed
  moved_last : moved_before p side ch (last_clock p) ≡ moved_before p side ch p.cycles
  moved_last = ap (λ (steps : List HistoryStep). length (moved side ch steps)) (sym (reported_history p))

  moved_all : moved_before p side ch p.cycles ≡ passed timed
  moved_all =
      let all = done_limit (design p) run a_design a_history p.cycles x f.agreed f.final m in
      taken_view (design p) run a_design a_history (view (design p) x) shown side ch p.cycles (omega arith)
      ∙ (ap (tally (core_accesses (design p) x m) (core_reply (design p) x m) side ch) all ∙ core_tally_is (design p) x m side ch timed)

  module _ (cycles : List ℕ) (r : AreCycles h.lanes places cycles) where
    tells : (n c : ℕ) → n < length cycles → ltb n (moved_before p side ch c) ≡ ltb (get_or cycles n 0) c
    tells n c l =
        let (at, there, cycle) = some_cycle (cycle_of h.lanes) (slice_get places n) (get_or cycles n 0) (r.each n l) in
        passed_at n at there (get_or cycles n 0) cycle c

    -- each has passed
    few : length cycles ≤ passed timed
    few = by_count (length cycles) refl
      where
        by_count : (n : ℕ) → n ≡ length cycles → length cycles ≤ passed timed
        by_count zero e = omega arith
        by_count (suc n) e =
            let l : n < length cycles = omega arith in
            let (at, there, cycle) = some_cycle (cycle_of h.lanes) (slice_get places n) (get_or cycles n 0) (r.each n l) in
            let early = its_cycle n at there (get_or cycles n 0) cycle in
            let less = ltb-true n (moved_before p side ch p.cycles)
            (tells n p.cycles l ∙ lt-ltb (get_or cycles n 0) p.cycles early) in
            omega (arith, moved_all)

    -- and nothing passes after them
    many : passed timed ≤ length cycles
    many = elim (slice_get_cases places (length cycles)).1 [
      | inl (at, within, there, here) ↦
          passed_before (length cycles) at there (sym (ap (option_and_then (cycle_of h.lanes)) there) ∙ r.last)
      | inr (past, none) ↦
          (let all = passed_rises timed (x.emitted m) (f.agreed.time.within m) in
          omega (arith, (f.sound.taken side ch inside).count))
    ]

    pub port_clocks : ArePortClocks p (record { side = side; channel = ch }) cycles
    port_clocks =
        let all : length cycles ≡ moved_before p side ch (last_clock p) = omega (arith, few, many, moved_last, moved_all) in
        record {
          in_order = told_clocks cycles (moved_before p side ch) (last_clock p) tells all;
          counts = λ c l. told_counts cycles (moved_before p side ch) (last_clock p) tells all c
              (taken_mono (design p) run a_history side ch c (last_clock p) l);
        }

  -- the clock in which an element passes the port, and never where it does not
  pub passes_at : (n : ℕ) (o : Option ℕ) → cycle_in h.lanes places n ≡ o
      → PassesAt p (record { side = side; channel = ch }) n (unwrap_or o never)
  passes_at n (Some e) is c l =
      let (at, there, cycle) = some_cycle (cycle_of h.lanes) (slice_get places n) e is in
      passed_at n at there e cycle c
  passes_at n None is c l =
      let rises = taken_mono (design p) run a_history side ch c (last_clock p) l in
      let early : c < never = let limit = f.fits.cycles in omega (arith, last_within p) in
      le-ltb n (moved_before p side ch c) (omega (arith, none_left, moved_last, moved_all)) ∙ sym (le-ltb never c (omega arith))
    where
      none_left : passed timed ≤ n
      none_left = elim (slice_get_cases places n).1 [
        | inl (at, within, there, here) ↦ passed_before n at there (sym (ap (option_and_then (cycle_of h.lanes)) there) ∙ is)
        | inr (past, none) ↦
            (let all = passed_rises timed (x.emitted m) (f.agreed.time.within m) in
            omega (arith, (f.sound.taken side ch inside).count))
      ]

  -- the first step that uses the port is its module's
  pub first_own : (at : Place) → slice_get places 0 ≡ Some at → at.module ≡ m
  first_own at there = (spot 0 at there).owner

-- ---- as it is read off an engine

module _ (p : Plan) (h : Held) (ends : List (Option Advance)) (f : IsFinished p h ends) (lanes : List Lane) (channels : List Channel)
    (same_lanes : lanes ≡ h.lanes) (same_channels : channels ≡ h.channels) (port : Port) (inside : port.channel < length
    p.design.channels) where
  within : port.channel < length h.channels
  within = let n = f.channels in omega arith

  pub within_table : port.channel < length channels
  within_table = omega (arith, within, ap length same_channels)

  abbrev read_places : List Place
  read_places = places_of port.side (channel_at channels port.channel)

  places_same : read_places ≡ places_of port.side (channel_at h.channels port.channel)
  places_same = ap (λ (cs : List Channel). places_of port.side (channel_at cs port.channel)) same_channels

  pub clocks_read : (clocks : List ℕ) → AreCycles lanes read_places clocks → ArePortClocks p port clocks
  clocks_read clocks r =
      port_clocks p h ends f port.side port.channel within clocks
      (subst (λ (ls : List Lane). AreCycles ls (places_of port.side (channel_at h.channels port.channel)) clocks) same_lanes
      (subst (λ (ps : List Place). AreCycles lanes ps clocks) places_same r))

  pub passes_read : (n : ℕ) (o : Option ℕ) → o ≡ cycle_in lanes read_places n → PassesAt p port n (unwrap_or o never)
  passes_read n o is =
      passes_at p h ends f port.side port.channel within n o
      (sym (is ∙ ap₂ (λ (ls : List Lane) (ps : List Place). cycle_in ls ps n) same_lanes places_same))

  abbrev tells_user : Bool → ℕ → Type 0
  tells_user b o = b ≡ unwrap_or (option_map (λ (m : ℕ). m == o) (first_module read_places)) false

  user_is : (at : Place) → slice_get read_places 0 ≡ Some at → at.module ≡ owner p port
  user_is at there = first_own p h ends f port.side port.channel within at (ap (λ (ps : List Place). slice_get ps 0) (sym places_same) ∙
      there)

  -- a module that uses the port is its owner
  pub user_owns : (o : ℕ) → tells_user true o → owner p port ≡ o
  user_owns o told = by_first (slice_get read_places 0) refl
    where
      by_first : (first : Option Place) → slice_get read_places 0 ≡ first → owner p port ≡ o
      by_first None none =
          let wrong : true ≡ false = told ∙ ap (λ (a : Option Place). unwrap_or (option_map (λ (m : ℕ). m == o)
          (option_map (λ (q : Place). q.module) a)) false) none in cc
      by_first (Some at) there =
          sym (user_is at there) ∙ eqb-true at.module o
          (sym (told ∙ ap (λ (a : Option Place). unwrap_or (option_map (λ (m : ℕ). m == o) (option_map (λ (q : Place). q.module) a))
          false) there))

  -- where its owner does not use it, nothing passes it
  pub none_pass : (o : ℕ) → tells_user false o → owner p port ≡ o → ArePortClocks p port []
  none_pass o told owned = by_first (slice_get read_places 0) refl
    where
      by_first : (first : Option Place) → slice_get read_places 0 ≡ first → ArePortClocks p port []
      by_first None none = clocks_read [] (record {
        each = λ n l. absurd (omega arith);
        last = ap (option_and_then (cycle_of lanes)) none;
      })
      by_first (Some at) there =
          let own = eq-eqb at.module o (user_is at there ∙ owned) in
          let wrong : false ≡ true = told
          ∙ (ap (λ (a : Option Place). unwrap_or (option_map (λ (m : ℕ). m == o) (option_map (λ (q : Place). q.module) a)) false) there ∙
          own) in
          absurd cc
