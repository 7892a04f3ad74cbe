-- What a task makes of a session that reading and checking accept.
use Rattle.std.specs.Prelude.{ℕ, ◌%◌, ◌^◌, List, [], ◌∷◌, length, codes, decimal, slice_index_or, sum_by, unwrap_or}
use Rattle.flow_design.specs.{Scale, Plan, Report, Statement, Token, declared.limits.Scale.TheVariants.Standard}
use Rattle.lockstep_defs.specs.{report}
use Rattle.report_text.specs.{line, text_of_lines, verdict_tokens, runs_tokens}
use Rattle.flow_grammar.specs.{Code, TextFault}
use Rattle.flow_print.specs.{canonical_text}
use Rattle.flow_gen.specs.{session}
use Rattle.session_plan.specs.{plan_of, edits_of}
use Rattle.cli_words.specs.{Options, SessionTask}
use Rattle.cli_words.specs.declared.SessionTask.TheVariants.{Simulate, Check, Advise, Show, Order, Sweep, Size, Least}
use Rattle.whole_answer.specs.{declared.answer.Answer.Answer, Views.shown, Job.ending_of, Job.job}
use Rattle.whole_answer.specs.declared.ending.Ending.TheVariants.{Done, Words, Text}
use Rattle.whole_answer.specs.Further.{advice, ordered, swept, sized, least_told}
use Rattle.flow_grammar.specs.declared.fault.Code.TheVariants as code

-- ---- refusals

abbrev pub refused_words : Answer
refused_words = record { text = line (codes "refused" ∷ codes "words" ∷ []); ending = Words }

-- the number that stands for a code in the answer
abbrev pub code_number : Code → ℕ
code_number code.TooLong = 1
code_number code.NotAscii = 2
code_number code.Syntax = 3
code_number code.BadNumber = 4
code_number code.DoubleName = 5
code_number code.UnknownName = 6
code_number code.BadLimit = 7
code_number code.Ends = 8
code_number code.PortClash = 9
code_number code.BadLoop = 10
code_number code.BadOffset = 11
code_number code.Truncated = 12
code_number code.TooMany = 13
code_number code.WrongSide = 14

-- the answer `refused LINE CODE`
abbrev pub refused : TextFault → Answer
refused fault = record {
  text = line (codes "refused" ∷ decimal fault.line ∷ decimal (code_number fault.code) ∷ []);
  ending = Text;
}

-- ---- simulations

-- the plan with those limits of the options that are given instead of its own
abbrev pub with_limits : Options → Plan → Plan
with_limits o p = record p { cycles = unwrap_or o.cycles p.cycles; ops = unwrap_or o.ops p.ops }

-- the job of the session's plan, under the limits of the options, and of its edits
abbrev pub simulated : Scale → Options → List Statement → Answer
simulated scale o statements = job o.events (with_limits o (plan_of scale statements)) (edits_of statements)

-- ---- the canonical form

abbrev pub canonical : List Statement → Answer
canonical statements = record { text = canonical_text statements; ending = Done }

-- ---- the summary of a generated session

-- the values in the first sink, which is the only one that a generated session has
abbrev pub first_sink_values : Report → List ℕ
first_sink_values r = slice_index_or r.outputs 0 []

-- the tokens of the line `sum COUNT TOTAL`
abbrev pub sum_tokens : List ℕ → List Token
sum_tokens values = codes "sum" ∷ decimal (length values) ∷ decimal (sum_by (λ v. v) values % 2 ^ 64) ∷ []

-- the tokens of the line `gen SEED MODULES`
abbrev pub gen_tokens : ℕ → ℕ → List Token
gen_tokens seed modules = codes "gen" ∷ decimal seed ∷ decimal modules ∷ []

-- the lines of a summary: what was asked for, the verdict, the sum, and the number of runs, which is 1
abbrev pub summary_lines : ℕ → ℕ → Report → List (List Token)
summary_lines seed modules r = gen_tokens seed modules ∷ verdict_tokens r.verdict ∷ sum_tokens (first_sink_values r) ∷ runs_tokens 1 ∷ []

unfoldable pub summary : ℕ → ℕ → Plan → Answer
summary seed modules p = record {
  text = text_of_lines (summary_lines seed modules (report p));
  ending = ending_of (report p).verdict;
}

-- ---- what a task makes of the statements of a session that is read at a scale

abbrev pub made : Scale → SessionTask → List Statement → Answer
-- the answer is the same whichever simulator runs the plan
made scale (Simulate by o) statements = simulated scale o statements
made scale Check statements = canonical statements
made scale (Advise o) statements = advice (with_limits o (plan_of scale statements))
made scale (Show view o) statements = shown view o (with_limits o (plan_of scale statements))
made scale Order statements = ordered (plan_of scale statements).design
made scale (Sweep lo hi o) statements = swept lo hi (with_limits o (plan_of scale statements))
made scale (Size slack o) statements = sized slack (with_limits o (plan_of scale statements))
made scale (Least slack o) statements = least_told slack (with_limits o (plan_of scale statements))

-- the answer to `gen`: the summary of the session of this seed
abbrev pub generated : ℕ → ℕ → Answer
generated seed modules = summary seed modules (plan_of Standard (session seed modules))
