-- The report is the plan's.
use Rattle.std.proofs.Common.{◌≡◌, refl, sym, ap, ◌∙◌, ℕ, Bool, true, false, List, [], map, length, arith, Option}
use Rattle.std.specs.List.{range_with_len}
use Rattle.engine_report.specs.{Plan, Report, Advance, HistoryStep, history, report, outcomes, events_of, design, core_report, core_steps}
use Rattle.engine_report.specs.{core_held, core_verdict, modules_of, steps_at, AreInOrder, AreSorted, core_of, standing_at, verdict_by}
use Rattle.engine_report.specs.{IsFinished, report_with, owners, outputs_of, all_held, timed_outcomes, AreEvents}
use Rattle.timing_bridge.proofs.History.{plan_is_design}
use Rattle.engine_view.specs.Held.{Held}
use Rattle.engine_report.proofs.{Same.map_same, Stuck.all_held_is, Replied.outcomes_are, Ending.verdict_is, Sinks.outputs_are}
use Rattle.engine_report.proofs.Happening.{events_are}

-- what was read off
pub record IsRead (p : Plan) (h : Held) (ends : List (Option Advance)) (r : Report) : Type 0 where
  pub verdict : r.verdict ≡ verdict_by p.cycles (map (standing_at h.lanes h.channels ends) (owners h.lanes))
  pub outputs : r.outputs ≡ outputs_of p h.lanes h.channels
  pub held : r.held ≡ all_held h.lanes h.channels r.verdict
  pub answers : r.answers ≡ map (timed_outcomes h.lanes h.logs) (owners h.lanes)

answers_are : (p : Plan) (h : Held) (ends : List (Option Advance)) → IsFinished p h ends
    → map (timed_outcomes h.lanes h.logs) (owners h.lanes) ≡ map (λ i. outcomes (core_steps p (core_of (design p) h) i)) (modules_of p)
answers_are p h ends f =
    let x = core_of (design p) h in
    map_same (timed_outcomes h.lanes h.logs) (λ i. outcomes (core_steps p x i)) 0 (length h.lanes)
    (λ i l. outcomes_are p h f.sound f.agreed.time.verified_then i (let a = f.sound.lanes in let b = f.sound.logs in omega arith))
    ∙ ap (λ (n : ℕ). map (λ i. outcomes (core_steps p x i)) (range_with_len 0 n)) f.sound.lanes

read_is : (p : Plan) (h : Held) (ends : List (Option Advance)) → IsFinished p h ends → (r : Report) → IsRead p h ends r
    → (steps : List HistoryStep) → r.events ≡ events_of steps
    → r ≡ core_report p (core_of (design p) h) steps (core_verdict p (core_of (design p) h))
read_is p h ends f r b steps e =
    let x = core_of (design p) h in
    let verdict = b.verdict ∙ verdict_is p h ends f in
    let outputs = b.outputs ∙ outputs_are p h f.sound f.channels in
    let held = b.held ∙ (all_held_is p (plan_is_design p f.fits) h f.sound r.verdict ∙ ap (core_held p x) verdict) in
    let answers = b.answers ∙ answers_are p h ends f in
    λ i. record { verdict = verdict i; outputs = outputs i; held = held i; events = e i; answers = answers i }

-- the plan's report is that of the core from any steps in order, so it is what was read off, with its events or with none
pub report_is : (p : Plan) (h : Held) (ends : List (Option Advance)) → IsFinished p h ends
    → ((steps : List HistoryStep) → AreInOrder p (core_of (design p) h) steps
    → report p ≡ core_report p (core_of (design p) h) steps (core_verdict p (core_of (design p) h)))
    → ((places : List (ℕ × ℕ)) → AreSorted p (core_of (design p) h) places
    → AreInOrder p (core_of (design p) h) (steps_at p (core_of (design p) h) places))
    → AreInOrder p (core_of (design p) h) (history p p.cycles)
    → (r : Report) → IsRead p h ends r → (asked : Bool) → (asked ≡ true → AreEvents h.lanes r.events) → (asked ≡ false → r.events ≡ [])
    → r ≡ report_with asked p
report_is p h ends f law sorting order r b true events none =
    let x = core_of (design p) h in
    let (places, sorted, are) = events_are p h f.sound r.events (events refl) in
    read_is p h ends f r b (steps_at p x places) are ∙ sym (law (steps_at p x places) (sorting places sorted))
report_is p h ends f law sorting order r b false events none =
    let steps = history p p.cycles in
    let same = read_is p h ends f (record r { events = events_of steps })
    (record { verdict = b.verdict; outputs = b.outputs; held = b.held; answers = b.answers }) steps refl
    ∙ sym (law steps order) in
    let kept : r ≡ record r { events = [] } = λ i. record r { events = none refl i } in
    kept ∙ ap (λ (s : Report). record s { events = [] }) same
