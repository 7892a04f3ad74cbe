use Rattle.std.proofs.Common.{◌≡◌, refl, ℕ, Bool, true, false, arith}
use Rattle.whole_answer.specs.{Plan, HasNumbersOf, report, report_with, report_text_of}
use Rattle.whole_answer.proofs.laws.reports_without_events.Goals as goal

numbers_with : (events : Bool) (p : Plan) → HasNumbersOf p (report p) → HasNumbersOf p (report_with events p)
numbers_with true p h = h
numbers_with false p h = record { outputs = h.outputs; answers = h.answers; held = h.held; events = λ k d h. absurd (omega (arith, h)) }

verdict_with : (events : Bool) (p : Plan) → (report_with events p).verdict ≡ (report p).verdict
verdict_with true p = refl
verdict_with false p = refl

answers_with : (events : Bool) (p : Plan) → (report_with events p).answers ≡ (report p).answers
answers_with true p = refl
answers_with false p = refl

text_with : (events : Bool) (p : Plan) (k : ℕ) → report_text_of p.design (report_with events p) k events ≡ report_text_of p.design
    (report p) k events
unfolding report_text_of
text_with true p k = refl
text_with false p k = refl

pub returns-clause-numbers : goal.returns-clause-numbers
returns-clause-numbers c = λ events p fits. numbers_with events p (c.reports_name_their_plans.ensures p fits)

pub returns-clause-verdict : goal.returns-clause-verdict
returns-clause-verdict c = verdict_with

pub returns-clause-answers : goal.returns-clause-answers
returns-clause-answers c = answers_with

pub returns-clause-text : goal.returns-clause-text
returns-clause-text c = text_with
