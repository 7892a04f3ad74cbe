-- What is held stays kept, whatever the theory does to its core.
use Rattle.std.proofs.Common.{◌≡◌, refl, sym, subst, ◌∙◌, ℕ, ◌<◌, ◌≤◌, get_or, Bool, true, false, not, ap, List, length, arith}
use Rattle.std.proofs.lemmas.Bool.{cond-true, cond-false}
use Rattle.std.proofs.{lemmas.Bool.Decides.nat_tests, Math.ListN.get_or-map, lemmas.List.length-set}
use Rattle.std.specs.Prelude.{All}
use Rattle.engine_view.specs.{Side, Step, IsSoundLane, no_lane, lane_at, timed_below, with_cycle, TableChannel, RoomedChannels, Channel}
use Rattle.engine_view.specs.{IsFifo, channel_at, Design, IsDesign, ready, has_query, opening_core, AreOwnMarks, edited, after_edit, MayRun}
use Rattle.engine_view.specs.{newest, emit_over, emit_step, after_run, after_assign, emitted_of, core_of, IsSound, queries_before, IsKept}
use Rattle.engine_view.specs.{IsNow, opening_held, AreKinds, IsNextStep, with_emitted, with_over, with_timed, IsCut, room_of, pending}
use Rattle.engine_view.specs.{HasRoom, Held.Held}
use Rattle.event_timing.specs.Core.{Core}
use Rattle.event_timing.proofs.{Assigning.assign_marks, Assigning.put_at_other, Editing.edit_marks, Editing.kept_le, Running.run_marks}
use Rattle.engine_view.proofs.{Assigned.assigned_core, Assigned.assigned_sound, Edited.edited_core, Emitted.emitted_core, Ended.over_core}
use Rattle.engine_view.proofs.{Knowing.timed_within, Opened.opening_core_is, Answered.steps_only, Roomy.pending_same, Roomy.room_on}

-- the steps with a cycle are verified
abbrev AreVerified : {S : Type 0} → Core S → Type 0
AreVerified {S} y = (m k : ℕ) → k < y.timed m → y.verified m k ≡ true

pub now_kept : {S : Type 0} → (d : Design S) (g : Held) (y : Core S) → (core_of d g ≡ y) × IsSound d g → AreOwnMarks d y
    → ((m k : ℕ) → k < y.timed m → y.verified m k ≡ true) → IsNow d g y
now_kept {S} d g y (e, sound) marks earlier = record {
  core = e;
  kept = record { sound = sound; marks = subst (AreOwnMarks d) (sym e) marks; earlier = subst AreVerified (sym e) earlier };
}

pub opening_now : {S : Type 0} → (d : Design S) (n : ℕ) (kinds : List TableChannel) → n ≡ d.modules → AreKinds d kinds
    → AreOwnMarks d (opening_core d)
    → IsNow d (opening_held n kinds) (opening_core d)
opening_now {S} d n kinds modules fit marks =
    now_kept d (opening_held n kinds) (opening_core d) (opening_core_is d n kinds modules fit marks) marks (λ m k l. absurd (omega arith))

-- ---- what is done to a core that is kept

module _ {S : Type 0} (d : Design S) (h : Held) (k : IsKept d h) where
  abbrev x : Core S
  x = core_of d h

  pub emitted_now : IsDesign d → (m : ℕ) → m < length h.lanes → MayRun d x m → d.is_over m (ready d m (newest d x m)) ≡ false
      → (step : Step) → IsNextStep d h m step
      → IsNow d (with_emitted h m step) (after_run d x m)
  emitted_now i m inside may lives step next =
      now_kept d (with_emitted h m step) (after_run d x m) (emitted_core d i h m step inside k.sound next k.marks may lives)
      (run_marks d x k.marks m may)
      (subst AreVerified (sym (cond-false {A = Core S} (d.is_over m (ready d m (newest d x m))) (emit_over x m)
      (emit_step d x m (newest d x m)) lives)) before)
    where
      before : AreVerified (emit_step d x m (newest d x m))
      before n j l =
          let within = timed_within d h k.sound in
          let other = put_at_other x.verified m (x.emitted m) (not (has_query (d.accesses m (ready d m (newest d x m))))) n j in
          let earlier = k.earlier n j l in
          let here = within m in
          grind arith

  pub over_now : (m : ℕ) → m < length h.over → MayRun d x m → d.is_over m (ready d m (newest d x m)) ≡ true
      → IsNow d (with_over h m) (after_run d x m)
  over_now m inside may over =
      now_kept d (with_over h m) (after_run d x m) (over_core d h m inside k.sound k.marks may over) (run_marks d x k.marks m may)
      (subst AreVerified (sym (cond-true {A = Core S} (d.is_over m (ready d m (newest d x m))) (emit_over x m)
      (emit_step d x m (newest d x m)) over)) k.earlier)

  pub assigned_now : (m c : ℕ) → m < length h.lanes → x.verified m (x.timed m) ≡ true → All IsSoundLane (with_cycle h.lanes m c)
      → IsNow d (with_timed h m c) (after_assign x m c)
  assigned_now m c inside verified lanes =
      now_kept d (with_timed h m c) (after_assign x m c) (assigned_core d h m c inside, assigned_sound d h m c inside lanes k.sound)
      (assign_marks d x m c k.marks) before
    where
      before : AreVerified (after_assign x m c)
      before j p u =
          let earlier = k.earlier j p in
          let here = k.earlier m p in
          grind (arith, nat_tests)

  pub cut_now : (fifo depth t : ℕ) → fifo < length h.channels → IsFifo (channel_at h.channels fifo).kind → (g : Held)
      → IsCut d h g fifo depth t
      → IsNow (edited d fifo depth) g (after_edit d x t)
  cut_now fifo depth t inside is_fifo g cut =
      now_kept (edited d fifo depth) g (after_edit d x t) (edited_core d h g fifo depth t k.sound k.marks cut inside is_fifo)
      (edit_marks d x fifo depth t k.marks) before
    where
      before : AreVerified (after_edit d x t)
      before m j l =
          let most = kept_le (x.cycle m) t (x.timed m) in
          let earlier = k.earlier m j in
          grind (arith, nat_tests)

-- ---- room after an edit

-- an edit leaves what is emitted and recorded, and all room
pub room_cut : {S : Type 0} → (d : Design S) (h : Held) → IsKept d h → (fifo depth t : ℕ) → fifo < length h.channels
    → IsFifo (channel_at h.channels fifo).kind
    → (g : Held) → IsCut d h g fifo depth t → (lanes lanes' : List ℕ) (table table' : RoomedChannels) (logs credits : List ℕ)
    → HasRoom d h lanes table logs credits → ((k : ℕ) → get_or lanes k 0 ≤ get_or lanes' k 0)
    → ((side : Side) (c : ℕ) → room_of table side c ≤ room_of table' side c)
    → HasRoom (edited d fifo depth) g lanes' table' logs credits
room_cut {S} d h k fifo depth t inside is_fifo g cut lanes lanes' table table' logs credits r f q =
    room_on d (edited d fifo depth) h g lanes lanes' table table' logs credits r (λ side c. refl)
    (ap (λ (cs : List Channel). length cs) cut.channels ∙ length-set h.channels fifo _) still queries
    (λ m. ap (λ (os : List Bool). length os) (cut.outcomes m)) f q
  where
    steps_is : (m : ℕ) → (lane_at g.lanes m).steps ≡ (lane_at h.lanes m).steps
    steps_is m = rw (cut.lanes, get_or-map (timed_below t) h.lanes m no_lane) refl

    queries : (m : ℕ) → queries_before g m (emitted_of g m) ≡ queries_before h m (emitted_of h m)
    queries m = rw (steps_is m) (steps_only g h steps_is m (emitted_of h m))

    still : (m : ℕ) → pending (core_of (edited d fifo depth) g) m ≡ pending (core_of d h) m
    still m =
        let now = cut_now d h k fifo depth t inside is_fifo g cut in
        ap (λ (y : Core S). pending y m) now.core ∙ pending_same (after_edit d (core_of d h) t) (core_of d h) m refl (λ j. refl)
