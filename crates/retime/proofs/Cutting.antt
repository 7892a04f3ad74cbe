-- The cut from which a retiming begins is the theory's core after the edit, with room as before.
use Rattle.std.proofs.Common.{◌≡◌, refl, sym, ap, subst, ◌∙◌, ℕ, ◌≤◌, min, inl, inr, Bool, List, length, map, get_or, arith}
use Rattle.std.proofs.{lemmas.Bool.cases_lt, Math.ListN.get_or-map}
use Rattle.std.proofs.lemmas.List.{get_or_past, get_or_default, length-map}
use Rattle.std.specs.Prelude.{All}
use Rattle.retime.specs.{Step, Side, Edit, ModuleState, Lane, IsSoundLane, no_lane, lane_at, timed_below, Log, IsSoundLog, no_log, log_at}
use Rattle.retime.specs.{Guard, Design, IsDesign, edited, after_edit, kept, no_step, emitted_of, core_of, queries_before, IsCut, IsRoomy}
use Rattle.retime.specs.{room_of, Engine, held_in, IsKept, IsNow, IsSomeCore, KeepsRoom, LeadsAll, HasGone, HasEndedForEach, IsEditIn}
use Rattle.retime.specs.{AreNumbered, IsCutBack, only_lanes, timed_queries, HasRetimed, KeepsRoomEdited}
use Rattle.flow_word.specs.declared.access.Side.TheVariants.{Pop, Push}
use Rattle.event_timing.specs.Core.{Core}
use Rattle.event_timing.proofs.Editing.{edit_design}
use Rattle.engine_view.specs.Held.{Held}
use Rattle.engine_view.proofs.{Answered.steps_only, Emitted.queries_mono, Edited.timed_kept, Keeping.cut_now, Keeping.room_cut}
use Rattle.retime.proofs.Filling.{rising_of}

-- ---- what the cut leaves

module _ (s t : Engine) (edit : Edit) (clock : ℕ) (cut : IsCutBack s t edit clock) (e : IsEditIn s.fifos.channels edit) where
  abbrev h : Held
  h = held_in s

  abbrev g : Held
  g = held_in t

  lane_is : (m : ℕ) → lane_at t.graph.lanes m ≡ timed_below clock (lane_at s.graph.lanes m)
  lane_is m = rw cut.lanes (get_or-map (timed_below clock) s.graph.lanes m no_lane)

  steps_is : (m : ℕ) → (lane_at t.graph.lanes m).steps ≡ (lane_at s.graph.lanes m).steps
  steps_is m = rw (lane_is m) refl

  outcomes_is : (m : ℕ) → (log_at t.log.logs m).outcomes ≡ (log_at s.log.logs m).outcomes
  outcomes_is m = let done = cut.logs.done m in let rest = cut.logs.rest m in grind arith

  verified_is : (m : ℕ) → (log_at t.log.logs m).verified ≡ min (timed_queries t.graph.lanes m) (log_at s.log.logs m).verified
  verified_is m =
      let done = cut.logs.done m in
      let rest = cut.logs.rest m in
      let none = get_or_past s.log.logs m no_log in
      grind arith

  logs_now : All IsSoundLog s.log.logs → All IsSoundLog t.log.logs
  logs_now sound k d l =
      let n = cut.logs.count in
      let o = outcomes_is k in
      let v = verified_is k in
      let e = ap (λ (q : List Bool). length q) o in
      let here = sound k no_log (omega arith) in
      subst IsSoundLog (get_or_default t.log.logs k no_log d l) (omega arith)

  module _ (d : Design ModuleState) (i : IsDesign d) (k : IsKept d (held_in s)) where
    abbrev x : Core ModuleState
    x = core_of d (held_in s)

    abbrev f : Design ModuleState
    f = edited d edit.channel edit.depth

    edited_design : IsDesign f
    edited_design = edit_design d edit.channel edit.depth i

    kept_is : (m : ℕ) → length (lane_at t.graph.lanes m).cycles ≡ kept (x.cycle m) clock (x.timed m)
    kept_is m = rw (lane_is m) (timed_kept clock (lane_at s.graph.lanes m).cycles (rising_of s.graph.lanes k.sound.sound_lanes m))

    queries_are : (m : ℕ) → timed_queries t.graph.lanes m ≡ queries_before (held_in s) m (kept (x.cycle m) clock (x.timed m))
    queries_are m =
        steps_only (only_lanes t.graph.lanes) (held_in s) steps_is m (length (lane_at t.graph.lanes m).cycles)
        ∙ ap (queries_before (held_in s) m) (kept_is m)

    is_cut : IsCut d (held_in s) (held_in t) edit.channel edit.depth clock
    is_cut = record {
      lanes = cut.lanes;
      sound = cut.sound;
      channels = cut.channels;
      over = rw cut.ends refl;
      count = cut.logs.count;
      sound_logs = logs_now k.sound.sound_logs;
      outcomes = outcomes_is;
      verified = λ m. verified_is m ∙ ap (λ (n : ℕ). min n (log_at s.log.logs m).verified) (queries_are m);
    }

    -- of each design of which there was a core, there is the theory's core after the edit
    cut_core : IsNow f (held_in t) (after_edit d x clock)
    cut_core = cut_now d (held_in s) k edit.channel edit.depth clock e.inside e.is_fifo (held_in t) is_cut

    table_room : (side : Side) (c : ℕ) → room_of s.fifos side c ≤ room_of t.fifos side c
    table_room Pop c = rw cut.pop_rooms (omega arith)
    table_room Push c = rw cut.push_rooms (omega arith)

    cut_room : IsRoomy d s → IsRoomy f t
    cut_room r =
        rw (cut.log_rooms, cut.credits)
        (room_cut d (held_in s) k edit.channel edit.depth clock e.inside e.is_fifo (held_in t) is_cut s.graph.rooms
        t.graph.rooms s.fifos t.fifos s.log.rooms s.credits.items r cut.lane_rooms table_room)

  pub some_cut : IsSomeCore s → IsSomeCore t
  some_cut (d, i, k, r) =
      (edited d edit.channel edit.depth, edited_design d i k, (cut_core d i k).kept, cut_room d i k r)

  -- the rounds from there are a retiming
  pub retimed : (last : Engine) (guard : Guard) (limit : ℕ) → HasGone limit t last → HasEndedForEach guard limit last
      → HasRetimed guard edit clock limit s last
  retimed last guard limit acts ended d i k =
      let now = cut_core d i k in
      let leads = acts (edited d edit.channel edit.depth) (edited_design d i k) now.kept in (
        subst (λ (z : Core ModuleState). LeadsAll (edited d edit.channel edit.depth) limit z (held_in last)) now.core leads,
        ended (edited d edit.channel edit.depth) (edited_design d i k) leads.kept,
      )

  pub room_retimed : (last : Engine) → KeepsRoom t last → KeepsRoomEdited edit s last
  room_retimed last room = record {
    ends = room.ends ∙ cut.ends;
    credits = room.credits ∙ cut.credits;
    room = λ d i k r. room.room (edited d edit.channel edit.depth) (edited_design d i k) (cut_core d i k).kept
        (cut_room d i k r);
  }

-- ---- what the code asks on the way

pub numbered_after : (s : Engine) (lanes : List Lane) (clock : ℕ) → lanes ≡ map (timed_below clock) s.graph.lanes → IsSomeCore s
    → AreNumbered lanes s.log.logs
numbered_after s lanes clock e (d, i, k, r) =
    let at = λ (m : ℕ). ap (λ (l : List Lane). lane_at l m) e ∙ get_or-map (timed_below clock) s.graph.lanes m no_lane in
    let steps : (m : ℕ) → (lane_at lanes m).steps ≡ (lane_at s.graph.lanes m).steps = λ m. ap (λ (l : Lane). l.steps) (at m) in
    let same = λ (m j : ℕ). steps_only (only_lanes lanes) (held_in s) steps m j in
    let count = λ (m : ℕ). ap (λ (l : List Step). length l) (steps m) in
    record {
      first = λ m j l. ap (λ (q : List Step). (get_or q j no_step).first_query) (steps m)
          ∙ (k.sound.first_query m j (let n = count m in omega arith) ∙ sym (same m j));
      most = λ m. elim (cases_lt m (length s.log.logs)) [
        | inl l ↦
            let w = k.sound.verified m l in
            let n = w.within in
            let a = w.all in
            let up = queries_mono (held_in s) m w.steps (emitted_of (held_in s) m) n in
            let q = same m (length (lane_at lanes m).steps) ∙ ap (queries_before (held_in s) m) (count m) in
            omega arith
        | inr l ↦
            let none : (log_at s.log.logs m).verified ≡ 0 = ap (λ (q : Log). q.verified) (get_or_past s.log.logs m no_log l) in
            omega arith
      ];
    }

pub as_many_logs : (s : Engine) (lanes : List Lane) (clock : ℕ) → lanes ≡ map (timed_below clock) s.graph.lanes → IsSomeCore s
    → length s.log.logs ≡ length lanes
as_many_logs s lanes clock e (d, i, k, r) =
    k.sound.logs ∙ (sym k.sound.lanes ∙ (sym (length-map s.graph.lanes (timed_below clock)) ∙ ap (λ (l : List Lane). length l) (sym e)))

pub sound_lanes_of : (s : Engine) → IsSomeCore s → All IsSoundLane s.graph.lanes
sound_lanes_of s (d, i, k, r) = k.sound.sound_lanes
