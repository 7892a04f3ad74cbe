-- Going round the modules as long as something is permitted.
use Rattle.std.proofs.Common.{◌≡◌, refl, sym, subst, ◌∙◌, ℕ, ◌+◌, ◌<◌, ◌≤◌, ◌⊎◌, inl, inr, List, [], ◌∷◌, ◌++◌, length, None, Some, arith}
use Rattle.std.proofs.{lemmas.Bool.cases_lt, lemmas.List.get_or_past}
use Rattle.retime.specs.{no_lane, Design, candidate, view, Action, Acts, ActsAll, AreTimings, Engine, Timing, core_of, held_in, CursorView}
use Rattle.retime.specs.{IsNext, IsPassed, AreIdle, kinds_in, IsKept, IsIdle, IsSomeCore, HasTimed, KeepsRoom, Leads, OfEach, lanes_after}
use Rattle.retime.specs.{ticks_of, HasGone, HasEndedForEach, only_steps, cycles_in}
use Rattle.outcome_guard.specs.declared.guard.Guard.TheVariants.{Same}
use Rattle.event_timing.specs.{Core.Core, Actions.Action.Run, Actions.Action.Assign, Actions.Action.Answer, Actions.Action.Earliest}
use Rattle.engine_view.specs.Held.{Held}
use Rattle.engine_view.specs.declared.turn.Timing.TheVariants.{Assigned, Answered, Differs, Nothing}
use Rattle.engine_view.proofs.Cursors.{idle_more}
use Rattle.retime.proofs.Counts.{same_length, steps_after, ticks_after}

-- ---- one action more

acts_more : {S : Type 0} → (d : Design S) (limit : ℕ) (x : Core S) (actions : List Action) (y z : Core S) (a : Action)
    → ActsAll d limit x actions y → Acts d limit y a z → ActsAll d limit x (actions ++ a ∷ []) z
acts_more {S} d limit x [] y z a e s = (z, rw (← e) s, refl)
acts_more {S} d limit x (b ∷ more) y z a (w, t, r) s = (w, t, acts_more d limit w more y z a r s)

timings_more : (actions : List Action) (a : Action) → AreTimings actions → AreTimings (a ∷ []) → AreTimings (actions ++ a ∷ [])
timings_more [] a t s = s
timings_more (Run m ∷ rest) a t s = absurd t
timings_more (Assign m ∷ rest) a t s = timings_more rest a t s
timings_more (Answer m ∷ rest) a t s = timings_more rest a t s
timings_more (Earliest m ∷ rest) a t s = absurd t

leads_more : (first now next : Engine) (limit : ℕ) (a : Action) → AreTimings (a ∷ [])
    → HasGone limit first now
    → OfEach now (λ d. Leads d limit (held_in now) a (held_in next))
    → HasGone limit first next
leads_more first now next limit a t all one d y k =
    let before = all d y k in
    let after = one d y before.kept in
    record {
      actions = before.actions ++ a ∷ [];
      timings = timings_more before.actions a before.timings t;
      all = acts_more d limit (core_of d (held_in first)) before.actions (core_of d (held_in now)) (core_of d (held_in next))
          a before.all after.acts;
      kept = after.kept;
    }

-- ---- turns

-- the turns so far led from the one to the other, with so many ticks before and by now
pub record HasTurned (limit : ℕ) (first now : Engine) (before ticks : ℕ) : Type 0 where
  pub core : IsSomeCore now
  pub acts : HasGone limit first now
  pub room : KeepsRoom first now
  pub steps : only_steps now.graph.lanes ≡ only_steps first.graph.lanes
  pub kinds : kinds_in now.fifos.channels ≡ kinds_in first.fifos.channels
  pub ticked : ticks + cycles_in first.graph.lanes ≡ before + cycles_in now.graph.lanes

pub none_turned : (limit : ℕ) (first : Engine) (ticks : ℕ) → IsSomeCore first → HasTurned limit first first ticks ticks
none_turned limit first ticks core = record {
  core = core;
  acts = λ d i k. record { actions = []; timings = tt; all = refl; kept = k };
  room = record { ends = refl; credits = refl; room = λ d i k r. r };
  steps = refl;
  kinds = refl;
  ticked = refl;
}

kept_on : (t : Timing) (limit m : ℕ) (now next : Engine) → HasTimed t limit m now next → OfEach now (λ d. IsKept d (held_in next))
kept_on (Assigned c) limit m now next done d i k = (done d i k).1.kept
kept_on (Answered c) limit m now next done d i k = (done d i k).1.kept
kept_on (Differs q) limit m now next (same, idle) d i k = rw same k
kept_on Nothing limit m now next (same, idle) d i k = rw same k

gone_on : (t : Timing) (limit m : ℕ) (first now next : Engine) → HasTimed t limit m now next → HasGone limit first now
    → HasGone limit first next
gone_on (Assigned c) limit m first now next done acts =
    leads_more first now next limit (Assign m) tt acts (λ d i k. (done d i k).1)
gone_on (Answered c) limit m first now next done acts =
    leads_more first now next limit (Answer m) tt acts (λ d i k. (done d i k).1)
gone_on (Differs q) limit m first now next (same, idle) acts = rw same acts
gone_on Nothing limit m first now next (same, idle) acts = rw same acts

-- what is known of some design stays so
core_after : (now next : Engine) → IsSomeCore now → OfEach now (λ d. IsKept d (held_in next)) → KeepsRoom now next
    → IsSomeCore next
core_after now next (d, i, k, r) kept room = (d, i, kept d i k, room.room d i k r)

-- one turn more, whatever was done
pub turned : {limit m : ℕ} {first now : Engine} {before ticks : ℕ} {cursor : CursorView} (next : Engine) (later : ℕ) (t : Timing)
    → IsNext cursor m → cursor.count ≡ length first.graph.lanes → HasTurned limit first now before ticks → HasTimed t limit m now next
    → KeepsRoom now next → next.graph.lanes ≡ lanes_after t m now.graph.lanes
    → kinds_in next.fifos.channels ≡ kinds_in now.fifos.channels → later ≡ ticks + ticks_of t → HasTurned limit first next before later
turned {limit} {m} {first} {now} {before} {ticks} {cursor} next later t at counted so_far done room lanes kinds ticked = record {
  core = core_after now next so_far.core (kept_on t limit m now next done) room;
  acts = gone_on t limit m first now next done so_far.acts;
  room = record {
    ends = room.ends ∙ so_far.room.ends;
    credits = room.credits ∙ so_far.room.credits;
    room = λ d i k r. room.room d i (so_far.acts d i k).kept (so_far.room.room d i k r);
  };
  steps = steps_after t m now.graph.lanes next.graph.lanes lanes ∙ so_far.steps;
  kinds = kinds ∙ so_far.kinds;
  ticked =
      let count = same_length first.graph.lanes now.graph.lanes so_far.steps in
      let one = ticks_after t m now.graph.lanes next.graph.lanes ticks later (omega (arith, at.inside)) lanes ticked in
      let e = so_far.ticked in
      omega arith;
}

-- ---- idle modules

-- nothing is permitted of the module but a Run or an Earliest, whatever the design
abbrev pub IsIdleIn : ℕ → Engine → ℕ → Type 0
IsIdleIn limit now m = OfEach now (λ d. IsIdle d limit (core_of d (held_in now)) m)

-- of none that is passed is one permitted
pub idle_on : (limit m : ℕ) (now next : Engine) (c d : CursorView) → IsNext c m → HasTimed Nothing limit m now next
    → ((n : ℕ) → IsPassed d n → (n ≡ c.at) ⊎ IsPassed c n) → AreIdle (IsIdleIn limit now) c → AreIdle (IsIdleIn limit next) d
idle_on limit m now next c d at (same, none) passed idle =
    rw same (idle_more (IsIdleIn limit now) c d passed (subst (IsIdleIn limit now) at.is none) idle)

nobody : {S : Type 0} → (d : Design S) (h : Held) (m : ℕ) → length h.lanes ≤ m → candidate d (view d (core_of d h)) m ≡ None
unfolding candidate
nobody {S} d h m l = rw (get_or_past h.lanes m no_lane l) refl

idle_outside : {S : Type 0} → (d : Design S) (limit : ℕ) (h : Held) (m : ℕ) → length h.lanes ≤ m → IsIdle d limit (core_of d h) m
idle_outside {S} d limit h m l = record {
  no_assign = λ c may. let e : None ≡ Some c = sym (nobody d h m l) ∙ may.determined.at in cc;
  no_answer = λ c may. let e : None ≡ Some c = sym (nobody d h m l) ∙ may.determined.at in cc;
}

-- where all were passed nothing is left
pub all_idle : {limit : ℕ} {first now : Engine} {before ticks : ℕ} (cursor : CursorView) → HasTurned limit first now before ticks
    → cursor.count ≡ length first.graph.lanes → ((m : ℕ) → m < cursor.count → IsPassed cursor m) → AreIdle (IsIdleIn limit now) cursor
    → HasEndedForEach Same limit now
all_idle {limit} {first} {now} cursor so_far counted all idle d y k m =
    let count = same_length first.graph.lanes now.graph.lanes so_far.steps in
    elim (cases_lt m (length now.graph.lanes)) [
      | inl l ↦ idle m (all m (omega arith)) d y k
      | inr l ↦ idle_outside d limit (held_in now) m l
    ]
