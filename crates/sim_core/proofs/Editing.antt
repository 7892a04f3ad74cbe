-- A final core after an edit of its plan.
use Rattle.std.proofs.Common.{◌≡◌, refl, sym, ap, subst, ◌∙◌, ℕ, suc, ◌+◌, ◌<◌, ◌≤◌, inl, inr, Bool, List, [], length, map, set, Option}
use Rattle.std.proofs.Common.{Some, None, unwrap_or, ◌⊎◌, arith}
use Rattle.std.proofs.{lemmas.Bool.cases_eq, lemmas.List.length-map, lemmas.List.set-get_or}
use Rattle.std.proofs.lemmas.Option.{get_or_from_slice_get, slice_get-get_or, slice_get_within}
use Rattle.std.specs.Prelude.{IfSome, IsNone}
use Rattle.sim_core.specs.{Side, Edit, Plan, with_depth, EditFits, FitsEngine, ModuleState, ModuleRun, Lane, lane_at, timed_below}
use Rattle.sim_core.specs.{Candidate, channel_at, depth_of, places_of, deepened_channels, Guard, Design, IsDesign, IsFinal, AreOwnMarks}
use Rattle.sim_core.specs.{IsAgreed, edited, after_edit, GrowsBeside, design, lockstep_run, core_of, IsKept, IsRoomy, IsSound, held_in}
use Rattle.sim_core.specs.{over_of, kinds_in, IsSomeCore, Engine, IsRightRecord, HasChanged, moved_in, HasRetimed, KeepsRoomEdited}
use Rattle.sim_core.specs.{IsEditFrom, IsEditOf, LeadsAll, HasEnded, only_steps, cycles_in, steps_in_lanes, ArePlacesInOrder}
use Rattle.sim_core.specs.{IsFirstTouched, IsNeverTouched, IsEdited, IsTrueGuard, StayBelow, IsCore, IsStoredCore, IsWired, DueModules}
use Rattle.sim_core.specs.{IsFull, Wiring, owner, declared.unread.Unread.Unread}
use Rattle.outcome_guard.specs.declared.guard.Guard.TheVariants.{Same, Differs}
use Rattle.event_timing.specs.Core.{Core}
use Rattle.event_timing.proofs.{Beside.others_grow, Editing.cycles_rise, Editing.kept_same, Steps.same_clock, Touched.kept_ge}
use Rattle.timing_bridge.proofs.{Edits.edited_fits, Edits.same_design, Lending.timings_no_run}
use Rattle.timing_bridge.proofs.History.{plan_is_design, run_is_history}
use Rattle.cycle_changes.proofs.{Final.right_final, Marks.marks_on, Onward.final_record, Recording.right_agrees}
use Rattle.retime.proofs.{Counts.few_cycles, Counts.same_steps, Counts.same_length, Cutting.sound_lanes_of, After.agreed_after}
use Rattle.retime.proofs.{After.outcomes_after, Otherwise.other_in_history, Tallied.places_in_order}
use Rattle.sim_core.proofs.Asking.{beside_edited, still_room}
use Rattle.sim_core.proofs.{Listing.listed_all, Waking.due_all, Leaving.unread_none, Cut.final_of, Cut.history_of, Cut.cut_of}
use Rattle.sim_core.proofs.{Keeping.kept_of, Keeping.same_end, SameSteps.marks_beside, Staying.run_stays, Staying.end_stays}
use Rattle.sim_core.proofs.EditedRuns.{run_edited, end_edited, channel_inside, fifo_there, depth_there, kinds_edited}

-- what a retiming leaves of what is stored, and of the counter
pub record IsRetiming (guard : Guard) (e : Edit) (clock limit : ℕ) (s t : Engine) (before after : ℕ) : Type 0 where
  pub retimed : HasRetimed guard e clock limit s t
  pub steps : only_steps t.graph.lanes ≡ only_steps s.graph.lanes
  pub core : IsSomeCore t
  pub room : KeepsRoomEdited e s t
  pub kinds : kinds_in t.fifos.channels ≡ kinds_in (deepened_channels s.fifos.channels e.channel e.depth)
  pub ticked : after + cycles_in (map (timed_below clock) s.graph.lanes) ≡ before + cycles_in t.graph.lanes

-- so it does where nothing came before it but a try that left all as it was
pub retiming_from : {guard : Guard} {e : Edit} {clock limit : ℕ} {r s t : Engine} {start before after : ℕ} → r ≡ s → before ≡ start
    → IsRetiming guard e clock limit r t before after → IsRetiming guard e clock limit s t start after
retiming_from same from done = rw (← same, ← from) done

module _ {p : Plan} {s : Engine} {runs : List (Option ModuleRun)} (k : IsCore p s runs) {e : Edit}
    (fit : EditFits p e) where
  abbrev d : Design ModuleState
  d = design p

  abbrev x : Core ModuleState
  x = core_of d (held_in s)

  abbrev q : Plan
  q = with_depth p e.channel e.depth

  is_design : IsDesign d
  is_design = plan_is_design p k.fits

  pub in_order : (side : Side) → ArePlacesInOrder (places_of side (channel_at s.fifos.channels e.channel))
  in_order side =
      places_in_order d (held_in s) k.sound e.channel (channel_inside p k.fits e fit s.fifos.channels k.table) is_design side

  -- where the depth is the one that stands, the plan stays as it is
  pub same_plan : depth_of (channel_at s.fifos.channels e.channel).kind ≡ e.depth → p ≡ q
  same_plan same =
      let depth = depth_there p k.fits e fit s.fifos.channels k.table in
      ap (λ (ns : List ℕ). record p { depths = ns })
      (sym (ap (λ (n : ℕ). set p.depths e.channel n) (sym same ∙ depth) ∙ set-get_or p.depths e.channel 0))

  q_fits : FitsEngine q
  q_fits = edited_fits p k.fits e fit

  same : edited d e.channel e.depth ≡ design q
  same = same_design p e.channel e.depth fit.entry

  module _ (final : IsFinal d p.cycles x) {t : Engine} {guard : Guard} {clock : ℕ}
      (from : IsEditFrom s.graph.lanes s.fifos.channels e p.cycles clock) {before after : ℕ}
      (anew : IsRetiming guard e clock p.cycles s t before after) where
    is_edit : IsEditOf d (lockstep_run p) (lockstep_run q) p.cycles s t guard e clock
    is_edit = record {
      final = final_of p k.fits e fit (held_in s) k.sound k.agreed final;
      lags = λ c. refl;
      from = from;
      history = history_of p k.fits e fit (held_in s) k.sound k.agreed final;
      retimed = anew.retimed;
      steps = anew.steps;
    }

    abbrev cut : Core ModuleState
    cut = after_edit d x clock

    abbrev y : Core ModuleState
    y = core_of (design q) (held_in t)

    both : LeadsAll (design q) p.cycles cut (held_in t) × HasEnded guard (design q) p.cycles (held_in t)
    both = subst (λ (f : Design ModuleState). LeadsAll f p.cycles cut (held_in t) × HasEnded guard f p.cycles (held_in t)) same
        (anew.retimed d is_design (kept_of k))

    agreed_now : IsAgreed (design q) (lockstep_run q) p.cycles y
    agreed_now = subst (λ (f : Design ModuleState). IsAgreed f (lockstep_run q) p.cycles (core_of f (held_in t))) same
        (agreed_after d (lockstep_run p) (lockstep_run q) p.cycles s t guard e clock is_edit)

    cut_now : IsAgreed (design q) (lockstep_run q) p.cycles cut
    cut_now = cut_of p k.fits e fit (held_in s) k.sound k.agreed final clock from

    beside : (m : ℕ) → GrowsBeside (design q) cut y m
    beside m = others_grow (design q) (lockstep_run q) (plan_is_design q q_fits) (run_is_history q q_fits) p.cycles cut cut_now m
        both.0.actions (timings_no_run m both.0.actions both.0.timings) y both.0.all

    lane_count : length t.graph.lanes ≡ length s.graph.lanes
    lane_count = sym (length-map t.graph.lanes (λ (l : Lane). l.steps))
        ∙ (ap (λ ls. length ls) anew.steps ∙ length-map s.graph.lanes (λ (l : Lane). l.steps))

    pub core_edited : IsCore q t runs
    core_edited = record {
      fits = q_fits;
      sound = both.0.kept.sound;
      agreed = agreed_now;
      table = anew.kinds ∙ kinds_edited p k.fits e fit s.fifos.channels k.table;
      count = k.count ∙ sym lane_count;
      counted = rw anew.room.credits (k.counted ∙ sym lane_count);
      room = subst (λ (f : Design ModuleState). IsRoomy f t) same
          (anew.room.room d is_design (kept_of k) k.room);
      runs_are = λ m run there.
          run_stays q cut y cut_now.marks m (beside m) run
          (run_edited p k.fits e fit m x cut.timed cut.cycle cut.verified run (k.runs_are m run there));
      ends_are = λ m mark there.
          end_stays q cut y cut_now.marks m (beside m) mark
          (end_edited p k.fits e fit m x cut.timed cut.cycle cut.verified mark (k.ends_are m mark (same_end s t anew.room.ends m mark
          there)));
    }

    pub true_guard : (lent : List Bool) → IsTrueGuard guard (record { plan = q; held = held_in t; lent = lent })
    true_guard lent = by guard both.1
      where
        by : (g : Guard) → HasEnded g (design q) p.cycles (held_in t)
            → IsTrueGuard g (record { plan = q; held = held_in t; lent = lent })
        by Same ended = tt
        by (Differs u) ended =
            other_in_history (design q) (lockstep_run q) (plan_is_design q q_fits) (run_is_history q q_fits) p.cycles (held_in t)
            both.0.kept.sound agreed_now u ended

    pub is_edited : (lent : List Bool) → IsEdited (record { plan = p; held = held_in s; lent = lent })
        (record { plan = q; held = held_in t; lent = lent }) e guard before after
    is_edited lent = inr (inl (record {
      clock = clock;
      from = from;
      leads = both.0;
      ended = both.1;
      ticked = anew.ticked;
      few = few_cycles s.graph.lanes t.graph.lanes (sound_lanes_of t anew.core) anew.steps after before _ anew.ticked;
      outcomes = outcomes_after d (lockstep_run p) (lockstep_run q) p.cycles s t guard e clock is_edit;
    }))

  -- ---- few cycles changed

  module _ (final : IsFinal d p.cycles x) {t : Engine} (done : HasChanged e p.cycles s t) where
    logs : t.log.logs ≡ s.log.logs
    logs = rw done.log refl

    over_stays : over_of t.ends.items ≡ over_of s.ends.items
    over_stays = rw done.room.ends refl

    abbrev now : Core ModuleState
    now = core_of (design q) (held_in t)

    -- they are right again
    right_now : IsRightRecord (design q) p.cycles now × IsKept (design q) (held_in t)
    right_now = subst (λ (f : Design ModuleState). IsRightRecord f p.cycles (core_of f (held_in t)) × IsKept f (held_in t)) same
        (done.right d is_design (kept_of k)
        (final_record d (lockstep_run p) is_design (run_is_history p k.fits) p.cycles x k.agreed final))

    agrees_now : IsAgreed (design q) (lockstep_run q) p.cycles now
    agrees_now = right_agrees (design q) (lockstep_run q) (plan_is_design q q_fits) (run_is_history q q_fits) p.cycles now right_now.0

    marks_here : AreOwnMarks (design q) x
    marks_here = subst (λ (f : Design ModuleState). AreOwnMarks f x) same (marks_on d x k.agreed.marks e.channel e.depth x.cycle)

    beside_now : (m : ℕ) → GrowsBeside (design q) x now m
    beside_now m =
        subst (λ (f : Design ModuleState). GrowsBeside f x (core_of f (held_in t)) m) same
        (marks_beside d e.channel e.depth (held_in s) (held_in t) k.sound
        (subst (λ (f : Design ModuleState). IsSound f (held_in t)) (sym same) right_now.1.sound) k.agreed.marks
        (subst (λ (f : Design ModuleState). AreOwnMarks f (core_of f (held_in t))) (sym same) right_now.1.marks)
        (same_steps s.graph.lanes t.graph.lanes done.steps) logs over_stays m)

    pub core_changed : IsCore q t runs
    core_changed = record {
      fits = q_fits;
      sound = right_now.1.sound;
      agreed = agrees_now;
      table = done.kinds ∙ kinds_edited p k.fits e fit s.fifos.channels k.table;
      count = k.count ∙ sym (same_length s.graph.lanes t.graph.lanes done.steps);
      counted = rw done.room.credits (k.counted ∙ sym (same_length s.graph.lanes t.graph.lanes done.steps));
      room = subst (λ (f : Design ModuleState). IsRoomy f t) same
          (done.room.room d is_design (kept_of k) k.room);
      runs_are = λ m run there.
          run_stays q x now marks_here m (beside_now m) run
          (run_edited p k.fits e fit m x x.timed x.cycle x.verified run (k.runs_are m run there));
      ends_are = λ m mark there.
          end_stays q x now marks_here m (beside_now m) mark
          (end_edited p k.fits e fit m x x.timed x.cycle x.verified mark (k.ends_are m mark (same_end s t done.room.ends m mark there)));
    }

    -- the cycles below the clock are those of a core that agrees with the edited plan too
    stay : {clock : ℕ} → IsEditFrom s.graph.lanes s.fifos.channels e p.cycles clock → StayBelow clock s.graph.lanes t.graph.lanes
    stay {clock} from at c is less =
        let cut = cut_of p k.fits e fit (held_in s) k.sound k.agreed final clock from in
        let there = get_or_from_slice_get (lane_at s.graph.lanes at.module).cycles at.step c 0 is in
        let within = slice_get_within (lane_at s.graph.lanes at.module).cycles at.step c is in
        let rise = cycles_rise d (lockstep_run p) p.cycles x k.agreed.time at.module in
        let kept = kept_ge (x.cycle at.module) clock (suc at.step) (x.timed at.module) (omega arith)
        (λ j l. elim (cases_eq j at.step) [
          | inl same ↦ subst (λ (i : ℕ). x.cycle at.module i < clock) (sym same) (omega arith)
          | inr apart ↦ let r = rise j at.step (omega arith) within in omega arith
        ]) in
        let same_cut = kept_same (x.cycle at.module) clock (x.timed at.module) at.step (omega arith) in
        let count = done.counts at.module in
        let inside : at.step < now.timed at.module = omega arith in
        let one = same_clock (design q) (lockstep_run q) at.module _ _
        (agrees_now.time.steps_then at.module at.step inside) (cut.time.steps_then at.module at.step (omega arith))
        (agrees_now.time.done_then at.module at.step inside ∙ sym (cut.time.done_then at.module at.step (omega arith))) in
        slice_get-get_or (lane_at t.graph.lanes at.module).cycles at.step 0 inside ∙ ap Some (one ∙ (same_cut ∙ there))

    pub is_changed : {clock : ℕ} → IsEditFrom s.graph.lanes s.fifos.channels e p.cycles clock → (lent : List Bool) (before after : ℕ)
        → after ≡ before + moved_in s.graph.lanes t.graph.lanes
        → after + cycles_in (map (timed_below clock) s.graph.lanes) ≤ before + steps_in_lanes s.graph.lanes
        → IsEdited (record { plan = p; held = held_in s; lent = lent })
        (record { plan = q; held = held_in t; lent = lent }) e Same
        before after
    is_changed {clock} from lent before after ticked few = inr (inr (record {
      clock = clock;
      from = from;
      same = refl;
      sound = right_now.1.sound;
      agreed = agrees_now;
      final = right_final (design q) p.cycles now right_now.0;
      steps = done.steps;
      logs = logs;
      over = over_stays;
      stay = stay from;
      ticked = ticked;
      few = few;
    }))

-- the clock that the code goes by
pub edit_from : {p : Plan} {s : Engine} {runs : List (Option ModuleRun)} → IsCore p s runs → {e : Edit}
    → EditFits p e → {stands : ℕ} → stands ≡ depth_of (channel_at s.fifos.channels e.channel).kind
    → 1 ≤ stands → (stands ≡ e.depth → ⊥) → (o : Option ℕ)
    → IfSome o (λ t. IsFirstTouched s.graph.lanes (channel_at s.fifos.channels e.channel) e.depth t)
    → (IsNone o → IsNeverTouched s.graph.lanes (channel_at s.fifos.channels e.channel) e.depth)
    → IsEditFrom s.graph.lanes s.fifos.channels e p.cycles (unwrap_or o p.cycles)
edit_from {p} {s} k {e} fit {stands} is least apart o some none = record {
  inside = channel_inside p k.fits e fit s.fifos.channels k.table;
  is_fifo = fifo_there p k.fits e fit s.fifos.channels k.table;
  stood = omega arith;
  least = fit.least;
  changes = λ same. apart (is ∙ same);
  from = by o some none;
}
  where
    by : (o : Option ℕ) → IfSome o (λ t. IsFirstTouched s.graph.lanes (channel_at s.fifos.channels e.channel) e.depth t)
        → (IsNone o → IsNeverTouched s.graph.lanes (channel_at s.fifos.channels e.channel) e.depth)
        → (IsFirstTouched s.graph.lanes (channel_at s.fifos.channels e.channel) e.depth (unwrap_or o p.cycles))
        ⊎ (IsNeverTouched s.graph.lanes (channel_at s.fifos.channels e.channel) e.depth × (unwrap_or o p.cycles ≡ p.cycles))
    by None some none = inr (none refl, refl)
    by (Some t) some none = inl some

-- who stands where doesn't depend on depths
wired_edited : {p : Plan} {w : Wiring} → IsWired p w → (channel depth : ℕ) → IsWired (with_depth p channel depth) w
unfolding owner
wired_edited {p} {w} k channel depth = record {
  ports_are = record { count = k.ports_are.count; each = k.ports_are.each };
  readers_are = record { count = k.readers_are.count; each = k.readers_are.each };
  beside_are = beside_edited p channel depth w.hints k.beside_are;
  bodies_are = record { count = k.bodies_are.count; each = k.bodies_are.each };
}

-- so a core is stored after an edit, with nothing unread, and each module in the sets
pub stored_edited : {p : Plan} {s : Engine} {runs : List (Option ModuleRun)} {wiring : Wiring}
    {unread : List Unread} {due : DueModules} {candidates : List Candidate}
    → IsStoredCore p s runs wiring unread due candidates → (e : Edit) (t : Engine)
    → IsCore (with_depth p e.channel e.depth) t runs
    → (now : DueModules) → length now.asking ≡ length due.asking → IsFull now.asking → length now.running ≡ length due.running
    → IsFull now.running → now.unlisted ≡ due.unlisted → IsStoredCore (with_depth p e.channel e.depth) t runs wiring [] now candidates
stored_edited {p} {s} {runs} {wiring} {unread} {due} {candidates} k e t core now same all same' all' unlisted = record {
  core = core;
  wired = wired_edited k.wired e.channel e.depth;
  unread_are = unread_none _ _;
  due_are = due_all (with_depth p e.channel e.depth) _ now (still_room p due.asking now.asking same k.due_are.asking_are.room) all
      (still_room p due.running now.running same' k.due_are.running_are.room) all';
  listed_are = listed_all (with_depth p e.channel e.depth) _ now candidates k.listed_are.count
      (still_room p due.unlisted now.unlisted (ap (λ (set : List ℕ). length set) unlisted) k.listed_are.room)
      (still_room p due.asking now.asking same k.due_are.asking_are.room) all;
}
