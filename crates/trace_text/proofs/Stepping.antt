-- The lines of the steps that a walk has given, one step after the other.
use Rattle.std.proofs.Common.{◌≡◌, ℕ, List, [], ◌∷◌, ◌++◌, map, refl, sym, ◌∙◌, ap, ap₂, Option, append-nil}
use Rattle.std.proofs.{lemmas.List.map-append, lemmas.List.Elements.All-cons, lemmas.List.Elements.All-nil}
use Rattle.std.specs.Prelude.{All}
use Rattle.trace_text.specs.{IsSoundLane, Plan, Advance, HistoryStep, HasNumbersOf, report, design, steps_at, core_of, TimedStep}
use Rattle.trace_text.specs.{IsFinished, step_place, IsTimedKey, StepWalk, IsWalk, HasGiven, text_of_lines, LoggedAccess, log_of, logged_at}
use Rattle.trace_text.specs.{logged_in, IsTold, access_tokens, IsOfDesign}
use Rattle.engine_view.specs.Held.{Held}
use Rattle.sim_core.proofs.AccessLogs.{all_logged}
use Rattle.engine_report.proofs.Giving.{given_first}
use Rattle.trace_text.proofs.{LogLines.step_lines, LogLines.steps_more, LogLines.history_lines, Named.part_named}

-- what these keys stand for
abbrev pub steps_by : Plan → Held → List TimedStep → List HistoryStep
steps_by p h keys = steps_at p (core_of (design p) h) (map step_place keys)

-- the lines of the steps that the walk has given are told
pub record IsTelling (p : Plan) (h : Held) (walk : StepWalk) (old new : Option (List ℕ)) (pending first : List ℕ) : Type 0 where
  pub keys : List TimedStep
  pub given : HasGiven h.lanes walk keys
  pub text : IsTold old new pending (first ++ step_lines p (steps_by p h keys))

steps_both : (p : Plan) (h : Held) (keys : List TimedStep) (key : TimedStep)
    → steps_by p h (keys ++ key ∷ []) ≡ steps_by p h keys ++ steps_by p h (key ∷ [])
steps_both p h keys key =
    ap (steps_at p (core_of (design p) h)) (map-append step_place keys (key ∷ []))
    ∙ map-append _ (map step_place keys) (step_place key ∷ [])

module _ (p : Plan) (h : Held) (ends : List (Option Advance)) (f : IsFinished p h ends) where
  -- what was read of a step is its part of the log
  pub step_read : (key : TimedStep) → IsTimedKey h.lanes key → (log : List LoggedAccess) → log ≡ [] ++ logged_at h key
      → log ≡ logged_in (steps_by p h (key ∷ []))
  step_read key timed log is =
      is ∙ (sym (append-nil (logged_at h key))
      ∙ all_logged p h f.sound f.agreed (key ∷ []) (All-cons (IsTimedKey h.lanes) key [] timed (All-nil (IsTimedKey h.lanes))))

  module _ (lanes_sound : All IsSoundLane h.lanes) where
    -- the text after the steps that were given begins the whole
    pub rest_of : (walk : StepWalk) → IsWalk h.lanes walk → (first : List ℕ) (keys : List TimedStep) → HasGiven h.lanes walk keys
        → (rest : List ℕ)
        × ((first ++ step_lines p (steps_by p h keys)) ++ rest ≡ first ++ text_of_lines (map (access_tokens p.design) (log_of p)))
    rest_of walk w first keys given =
        let (more, are) = given_first h.lanes lanes_sound walk w keys given p h ends f refl in (
          step_lines p more,
          steps_more p first (steps_by p h keys) more
              ∙ ap (λ (t : List ℕ). first ++ t) (ap (step_lines p) are ∙ history_lines p),
        )

    -- a step that was given is one of the plan
    pub step_named : HasNumbersOf p (report p) → (walk : StepWalk) → IsWalk h.lanes walk → (keys : List TimedStep) (key : TimedStep)
        → HasGiven h.lanes walk (keys ++ key ∷ []) → All (IsOfDesign p.design) (logged_in (steps_by p h (key ∷ [])))
    step_named numbers walk w keys key given =
        let (more, are) = given_first h.lanes lanes_sound walk w (keys ++ key ∷ []) given p h ends f refl in
        part_named p numbers (steps_by p h keys) (steps_by p h (key ∷ [])) more
        (ap (λ (steps : List HistoryStep). steps ++ more) (sym (steps_both p h keys key)) ∙ are)

-- one step more
pub text_more : (p q : Plan) (h : Held) (first : List ℕ) (keys : List TimedStep) (key : TimedStep) (log read : List LoggedAccess)
    → log ≡ logged_in (steps_by p h (key ∷ [])) → read ≡ log → q ≡ p
    → (first ++ step_lines p (steps_by p h keys)) ++ text_of_lines (map (access_tokens q.design) read)
    ≡ first ++ step_lines p (steps_by p h (keys ++ key ∷ []))
text_more p q h first keys key log read is same plan =
    ap₂ (λ (x : Plan) (xs : List LoggedAccess). (first ++ step_lines p (steps_by p h keys)) ++ text_of_lines (map (access_tokens x.design)
    xs))
    plan (same ∙ is)
    ∙ (steps_more p first (steps_by p h keys) (steps_by p h (key ∷ []))
    ∙ ap (λ (steps : List HistoryStep). first ++ step_lines p steps) (sym (steps_both p h keys key)))
