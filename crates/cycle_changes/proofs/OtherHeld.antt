-- With another depth and other cycles, what is held is the core with those cycles.
use Rattle.std.proofs.Common.{◌≡◌, refl, sym, ap, ap₂, subst, ◌∙◌, ℕ, ◌<◌, ◌≤◌, min, Bool, cond, ltb, ◌&&◌, List, length, map, get_or, drop}
use Rattle.std.proofs.Common.{arith, suc, false, [], ◌∷◌, filter, nat_lt, inl, inr}
use Rattle.std.proofs.{lemmas.Bool.cases_Bool, lemmas.Bool.le-ltb, lemmas.Bool.ltb-true, lemmas.List.get_or_default, lemmas.List.length-map}
use Rattle.std.proofs.{lemmas.List.length-set, lemmas.List.Elements.All-map, Math.ListN.get_or-map}
use Rattle.std.specs.{List.Sorted.IsStrictlyIncreasing, Prelude.All}
use Rattle.cycle_changes.specs.{Edit, side_of, Side, Access, Step, Lane, cycle_bound, IsSoundLane, lane_at, no_lane, timed_below, Channel}
use Rattle.cycle_changes.specs.{IsFifo, channel_at, places_of, deepened_channels, lag_of, RoomedChannels, Log, IsSoundLog, log_at, no_log}
use Rattle.cycle_changes.specs.{IsAccess, HasAccesses, Design, ready, own, edited, after_edit, kept, core_tally, core_values, with_cycles}
use Rattle.cycle_changes.specs.{cycle_held, HasOtherCycles, IsCut, IsKept, IsNow, HasRoom, room_of, pending, step_of, no_step, emitted_of}
use Rattle.cycle_changes.specs.{seen, are_among, flags_by, replies_at, waited, core_of, values_at, ShowsCore, IsKind, AreTaken, AreWhole}
use Rattle.cycle_changes.specs.{queries_before}
use Rattle.event_timing.specs.Core.{Core}
use Rattle.cycle_changes.proofs.{Keeping.kept_none, Marks.marks_on}
use Rattle.engine_view.specs.Held.{Held}
use Rattle.engine_view.proofs.{Answered.queries_zero, Answered.steps_only, Keeping.cut_now, Keeping.now_kept, Placing.places_from}
use Rattle.engine_view.proofs.{Reading.IsRead, Reading.read_sound, Roomy.pending_same, Roomy.room_on}

-- a log without a verified outcome
abbrev unsure : Log → Log
unsure l = record { outcomes = l.outcomes; verified = 0 }

none_below : (xs : List ℕ) → filter (λ c. nat_lt c 0) xs ≡ []
none_below [] = refl
none_below (x ∷ xs) =
    elim (cases_Bool (nat_lt x 0)) [ inl e ↦ absurd (omega (arith, ltb-true x 0 e)) | inr e ↦ rw e (none_below xs) ]

bare_sound : (lanes : List Lane) → All IsSoundLane lanes → All IsSoundLane (map (timed_below 0) lanes)
bare_sound lanes sound =
    All-map IsSoundLane (timed_below 0) lanes
    (λ j e l. let q = sound j e l in
    let none = sym (none_below (get_or lanes j e).cycles) in
    record {
      steps = q.steps;
      apart = q.apart;
      prefix = subst (λ (xs : List ℕ). length xs ≤ length (get_or lanes j e).steps) none (omega arith);
      rising = subst IsStrictlyIncreasing none (λ k u. absurd (omega arith));
      below = subst (All (λ (c : ℕ). c < cycle_bound)) none (λ k b u. absurd (omega arith));
    })

module _ {S : Type 0} (d : Design S) (h g : Held) (edit : Edit) (k : IsKept d h) (inside : edit.channel < length h.channels)
    (is_fifo : IsFifo (channel_at h.channels edit.channel).kind) (o : HasOtherCycles h g edit) where
  abbrev s : ShowsCore d h (core_of d h)
  s = k.sound

  abbrev x : Core S
  x = core_of d h

  abbrev y : Core S
  y = with_cycles x (cycle_held g)

  abbrev e : Design S
  e = edited d edit.channel edit.depth

  -- ---- what the cut of all cycles tells of the channels

  bare : Held
  bare = record {
    lanes = map (timed_below 0) h.lanes;
    channels = deepened_channels h.channels edit.channel edit.depth;
    logs = map unsure h.logs;
    over = h.over;
  }

  none_verified : (m : ℕ) → 0 ≡ min (queries_before h m (kept (x.cycle m) 0 (x.timed m))) (log_at h.logs m).verified
  none_verified m =
      let none = ap (queries_before h m) (kept_none (x.cycle m) (x.timed m)) ∙ queries_zero h m in
      omega arith

  bare_cut : IsCut d h bare edit.channel edit.depth 0
  unfolding bare
  bare_cut = record {
    lanes = refl;
    sound = bare_sound h.lanes s.sound_lanes;
    channels = refl;
    over = refl;
    count = length-map h.logs unsure;
    sound_logs = All-map IsSoundLog unsure h.logs (λ m l p. omega arith);
    outcomes = λ m. ap (λ (q : Log). q.outcomes) (get_or-map unsure h.logs m no_log);
    verified = λ m. ap (λ (q : Log). q.verified) (get_or-map unsure h.logs m no_log) ∙ none_verified m;
  }

  shown : ShowsCore e bare (after_edit d x 0)
  shown = let n = cut_now d h k edit.channel edit.depth 0 inside is_fifo bare bare_cut in subst (ShowsCore e bare) n.core n.kept.sound

  channels_are : bare.channels ≡ g.channels
  unfolding bare
  channels_are = sym o.channels

  bare_steps : (m : ℕ) → (lane_at bare.lanes m).steps ≡ (lane_at h.lanes m).steps
  unfolding bare
  bare_steps m = ap (λ (l : Lane). l.steps) (get_or-map (timed_below 0) h.lanes m no_lane)

  count_is : length bare.channels ≡ length g.channels
  count_is = ap (λ (q : List Channel). length q) channels_are

  -- ---- steps

  step_is : (m j : ℕ) → step_of g m j ≡ step_of h m j
  step_is m j = ap (λ (l : List Step). get_or l j no_step) (o.steps m)

  emitted_same : (m : ℕ) → emitted_of g m ≡ emitted_of h m
  emitted_same m = ap (λ (l : List Step). length l) (o.steps m)

  same_queries : (m j : ℕ) → queries_before g m j ≡ queries_before h m j
  same_queries m j = steps_only g h o.steps m j

  log_is : (m : ℕ) → log_at g.logs m ≡ log_at h.logs m
  log_is m = ap (λ (l : List Log). log_at l m) o.logs

  whole_now : (m n : ℕ) → AreWhole h m n → AreWhole g m n
  whole_now m n w = record { steps = w.steps; within = omega (arith, w.within, emitted_same m); all = w.all ∙ sym (same_queries m w.steps) }

  inside_now : HasAccesses g.lanes g.channels
  inside_now = λ m p l.
      let there = shown.inside m no_lane (omega (arith, shown.lanes, o.lanes, s.lanes)) in
      let steps = bare_steps m ∙ (sym (o.steps m) ∙ ap (λ (q : Lane). q.steps) (get_or_default g.lanes m no_lane p l)) in
      subst (λ (q : List Channel). All (λ (step : Step). All (IsAccess q) step.accesses) (get_or g.lanes m p).steps) channels_are
      (subst (λ (q : List Step). All (λ (step : Step). All (IsAccess bare.channels) step.accesses) q) steps there)

  taken_now : (side : Side) (c : ℕ) → c < length g.channels → AreTaken e y side c (places_of side (channel_at g.channels c))
  taken_now side c l =
      let t = shown.taken side c (omega (arith, count_is)) in
      let t' = subst (λ (q : List Channel). AreTaken e (after_edit d x 0) side c (places_of side (channel_at q c))) channels_are t in
      record {
        count = t'.count;
        each = λ i p q. let a = t'.each i p q in record { owner = a.owner; emitted = a.emitted; from = a.from; to = a.to };
      }

  other_shown : ShowsCore e g y
  other_shown = record {
    lanes = o.lanes ∙ s.lanes;
    logs = ap (λ (l : List Log). length l) o.logs ∙ s.logs;
    overs = ap (λ (l : List Bool). length l) o.over ∙ s.overs;
    sound_lanes = o.sound;
    sound_logs = subst (All IsSoundLog) (sym o.logs) s.sound_logs;
    inside = inside_now;
    places = places_from e g y emitted_same taken_now;
    accesses = λ m j l. s.accesses m j l ∙ ap (λ (q : Step). map seen q.accesses) (sym (step_is m j));
    ordinals = λ m j l. subst (λ (q : Step). All (λ (a : Access). a.ordinal ≡ suc (core_tally e y m (side_of a.kind) a.channel j))
        q.accesses) (sym (step_is m j)) (s.ordinals m j l);
    first_query = λ m j l. ap (λ (q : Step). q.first_query) (step_is m j) ∙ (s.first_query m j l ∙ sym (same_queries m j));
    kinds = λ c l. subst (λ (q : List Channel). IsKind e c (channel_at q c).kind) channels_are
        (shown.kinds c (omega (arith, count_is)));
    lags = λ side c l. subst (λ (q : List Channel). d.lag side c ≡ lag_of (channel_at q c).kind side) channels_are
        (shown.lags side c (omega (arith, count_is)));
    taken = taken_now;
    values = λ c l. subst (λ (q : List Channel). values_at q c ≡ core_values e y c) channels_are
        (shown.values c (omega (arith, count_is)));
    recorded = λ m l. subst (λ (q : Log). AreWhole g m (length q.outcomes)) (sym (log_is m))
        (whole_now m (length (log_at h.logs m).outcomes) (s.recorded m (let n = ap (λ (q : List Log). length q) o.logs in omega arith)));
    verified = λ m l. subst (λ (q : Log). AreWhole g m q.verified) (sym (log_is m))
        (whole_now m (log_at h.logs m).verified (s.verified m (let n = ap (λ (q : List Log). length q) o.logs in omega arith)));
  }

  other_read : IsRead e g y
  other_read = record {
    emitted = emitted_same;
    over = λ m. ap (λ (q : List Bool). get_or q m false) o.over;
    past = λ m j l. sym (ap (λ (v : Bool). cond v (ready d m (own d m (replies_at h m) j)) (d.opening m)) (le-ltb j (emitted_of h m) l));
    wait = λ m j. ap (λ (q : Step). waited j q.gap) (step_is m j);
    flags = λ m j. ap₂ (λ (q : Step) (l : Log). flags_by q.accesses (drop q.first_query l.outcomes)) (step_is m j) (log_is m);
    answered = λ m j. ap₂ (λ (q : List Step) (l : Log). ltb j (length q) && are_among (get_or q j no_step) (length l.outcomes)) (o.steps m)
        (log_is m);
    verified = λ m j. ap₂ (λ (q : List Step) (l : Log). ltb j (length q) && are_among (get_or q j no_step) l.verified) (o.steps m)
        (log_is m);
    timed = o.counts;
    cycle = λ m j. refl;
  }

  pub other_now : IsNow e g y
  other_now =
      let marks = marks_on d x k.marks edit.channel edit.depth (cycle_held g) in
      now_kept e g y (read_sound e g y marks other_shown other_read) marks (λ m j l. k.earlier m j l)

  pub other_room : (lanes lanes_left : List ℕ) (table table_left : RoomedChannels) (logs credits : List ℕ)
      → HasRoom d h lanes table logs credits → ((n : ℕ) → get_or lanes n 0 ≤ get_or lanes_left n 0)
      → ((side : Side) (c : ℕ) → room_of table side c ≤ room_of table_left side c)
      → HasRoom e g lanes_left table_left logs credits
  other_room lanes lanes_left table table_left logs credits r f q =
      room_on d e h g lanes lanes_left table table_left logs credits r (λ side c. refl)
      (ap (λ (cs : List Channel). length cs) o.channels ∙ length-set h.channels edit.channel _) still queries
      (λ m. ap (λ (l : Log). length l.outcomes) (log_is m)) f q
    where
      queries : (m : ℕ) → queries_before g m (emitted_of g m) ≡ queries_before h m (emitted_of h m)
      queries m = same_queries m (emitted_of g m) ∙ ap (λ (ss : List Step). queries_before h m (length ss)) (o.steps m)

      still : (m : ℕ) → pending (core_of e g) m ≡ pending (core_of d h) m
      still m = ap (λ (z : Core S). pending z m) other_now.core ∙ pending_same y x m refl (λ j. refl)
