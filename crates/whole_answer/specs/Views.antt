-- The answers to the commands that show a simulation.
use Rattle.std.specs.Prelude.{ℕ, List}
use Rattle.flow_design.specs.{Plan}
use Rattle.lockstep_defs.specs.{report}
use Rattle.cli_words.specs.{Options, ViewName}
use Rattle.cli_words.specs.declared.ViewName.TheVariants.{Wave, Log, Stalls, Path, Trace}
use Rattle.trace_text.specs.{log_text, trace_text}
use Rattle.path_text.specs.{path_text}
use Rattle.stall_text.specs.{stalls_text}
use Rattle.vcd_wave.specs.{wave_of, wave_text}
use Rattle.whole_answer.specs.{declared.answer.Answer.Answer, Job.ending_of}

-- the text of a view, as the options ask for it: `stalls` with polls, `path` with its links
abbrev pub view_text : ViewName → Options → Plan → List ℕ
view_text Wave o p = wave_text (wave_of p)
view_text Log o p = log_text p
view_text Stalls o p = stalls_text o.polls p
view_text Path o p = path_text o.events o.polls p
view_text Trace o p = trace_text p

-- the text of a view, with the ending of the plan's verdict
unfoldable pub shown : ViewName → Options → Plan → Answer
shown view o p = record { text = view_text view o p; ending = ending_of (report p).verdict }
