-- The whole answer to the program's words and the bytes of its input.
use Rattle.std.specs.Prelude.{◌≡◌, ◌≤◌, ℕ, Bool, true, false, List, Option, Some, None, Result, Err, IfOk, OnErr}
use Rattle.std.specs.Io.KnownBytes.{Appends}
use Rattle.sim_io.specs.{AppendsPrefix, HasCauseOf, Rose, IsTold}
use Rattle.flow_design.specs.{Statement}
use Rattle.flow_grammar.specs.{TextFault, StandsFor, HasFault}
use Rattle.flow_check.specs.{fault_of}
use Rattle.cli_words.specs.{accepted, ScaledTask, Command, declared.Command.TheVariants.Of, declared.Command.TheVariants.Gen}
use Rattle.whole_answer.specs.{declared.answer.Unanswered.Unanswered, declared.answer.Answer.Answer, Exit.status_of}
use Rattle.whole_answer.specs.{declared.status.Status.Status, Made.refused_words, Made.refused, Made.made, Made.generated}
use Rattle.whole_answer.specs.declared.status.Status.TheVariants.{ReadFault, WriteFault, Memory}
use Rattle.whole_answer.specs.declared.answer.Unanswered.TheVariants as unanswered

-- ---- the answer to a session, and to a text

-- the answer to a session, which was read and is checked at the scale that is asked for
pub data AnswersSession (asked : ScaledTask) (statements : List Statement) (lines : List ℕ) (answer : Answer) : Type 0 where
  -- the session has a checking fault, and is refused with it
  misfit : (fault : TextFault) → fault_of asked.scale statements lines ≡ Some fault → answer ≡ refused fault
      → AnswersSession asked statements lines answer
  -- the session has no checking fault, and the task makes the answer from it
  fit : fault_of asked.scale statements lines ≡ None → answer ≡ made asked.scale asked.task statements
      → AnswersSession asked statements lines answer

-- the answer to a text, which is read at the scale that is asked for
pub data AnswersText (asked : ScaledTask) (text : List ℕ) (answer : Answer) : Type 0 where
  -- the text has a reading fault, and is refused with it
  misread : (fault : TextFault) → HasFault asked.scale text fault → answer ≡ refused fault → AnswersText asked text answer
  -- the text stands for a session, and the answer is the session's
  read : (statements : List Statement) (lines : List ℕ) → StandsFor asked.scale text statements lines
      → AnswersSession asked statements lines answer → AnswersText asked text answer

-- ---- the answer to the words

-- the answer to a command, with these bytes as the input; words that are no command are refused
abbrev pub AnswersCommand : Option Command → List ℕ → Answer → Type 0
AnswersCommand None bytes answer = answer ≡ refused_words
AnswersCommand (Some (Of asked)) bytes answer = AnswersText asked bytes answer
-- under `gen`, the session of the seed takes the place of the input
AnswersCommand (Some (Gen seed modules)) bytes answer = answer ≡ generated seed modules

-- the answer to the words, with these bytes as the input
abbrev pub Answers : List (List ℕ) → List ℕ → Answer → Type 0
Answers words = AnswersCommand (accepted words)

-- the command takes input
abbrev pub takes_input : Option Command → Bool
takes_input None = false
takes_input (Some (Gen seed modules)) = false
takes_input (Some (Of asked)) = true

-- ---- what the program's status tells

-- the status says that the program has answered: nothing failed, and memory did not run out
abbrev pub SaysAnswered : Status → Type 0
SaysAnswered ReadFault = ⊥
SaysAnswered WriteFault = ⊥
SaysAnswered Memory = ⊥
SaysAnswered _ = Unit {0}

-- a prefix of the whole answer's text was written, and `rest` is what is left of it, with its ending
pub record IsRest (whole : Answer) (old new : Option (List ℕ)) (rest : Answer) : Type 0 where
  pub text : IsTold old new rest.text whole.text
  pub ending : rest.ending ≡ whole.ending

-- an answer for which `IsIt` holds was begun: the result is its rest, or an error after a prefix of it was written
pub record BeginsAnswer {E : Type 0} (IsIt : Answer → Type 0) (old new : Option (List ℕ)) (result : Result Answer E) : Type 0 where
  pub whole : Answer
  pub is_it : IsIt whole
  pub rest : IfOk result (λ rest. IsRest whole old new rest)
  pub prefix : OnErr result (AppendsPrefix old new whole.text)

-- why there is no answer, given the counts of faults of the source and of the sink, and the sink, before and after
pub record HasCauses {K : Type 0} (result : Result Answer Unanswered) (reads reads_now writes writes_now : ℕ) (old new : K) : Type 0 where
  -- the source has failed only if it has counted a fault, and then nothing was written
  pub source : HasCauseOf unanswered.ReadFault reads reads_now result
  pub unwritten : result ≡ Err unanswered.ReadFault → new ≡ old
  -- the sink has failed only if it has counted a fault
  pub sink : HasCauseOf unanswered.WriteFault writes writes_now result

-- what a status tells about the sink, which held `old` and now holds `new`, given the whole answer
pub record Tells (whole : Answer) (result : Status) (old new : Option (List ℕ)) (finished : Bool) : Type 0 where
  -- where the program has answered, the whole answer was written and finished, and the status is the answer's
  pub answered : SaysAnswered result → (result ≡ status_of whole.ending) × Appends old new whole.text × (finished ≡ true)
  -- where the sink failed or memory ran out, a prefix of the whole answer was written
  pub write : result ≡ WriteFault → AppendsPrefix old new whole.text
  pub memory : result ≡ Memory → AppendsPrefix old new whole.text

-- the status tells the answer to the words, with these bytes as the input
pub record TellsAnswer (words : List (List ℕ)) (bytes : List ℕ) (result : Status) (old new : Option (List ℕ)) (finished : Bool) : Type 0
  where
    pub whole : Answer
    pub answers : Answers words bytes whole
    pub tells : Tells whole result old new finished

-- what a status tells about faults, given the counts of faults of the source and of the sink, and the sink, before and after
pub record TellsFaults {K : Type 0} (result : Status) (reads reads_now writes writes_now : ℕ) (sink sink_now : K) : Type 0 where
  -- the status is a reading fault only if the source has counted one, and then nothing was written
  pub read : result ≡ ReadFault → Rose reads reads_now
  pub unwritten : result ≡ ReadFault → sink_now ≡ sink
  -- the status is a writing fault only if the sink has counted one
  pub write : result ≡ WriteFault → Rose writes writes_now
  pub source_never_falls : reads ≤ reads_now
  pub sink_never_falls : writes ≤ writes_now
