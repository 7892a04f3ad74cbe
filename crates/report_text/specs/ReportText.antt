-- The text of a report.
use Rattle.std.specs.Prelude.{◌≡◌, ℕ, ◌<◌, Bool, true, false, List, [], ◌∷◌, ◌++◌, codes, decimal, length, filter, map, slice_index_or, All}
use Rattle.std.specs.Prelude.{if◌then◌else◌}
use Rattle.std.specs.List.{zip}
use Rattle.flow_word.specs.{Side, Kind, declared.access.Side.TheVariants.Pop, declared.access.Side.TheVariants.Push}
use Rattle.flow_word.specs.declared.access.Kind.TheVariants.{Read, Write, TryRead, TryWrite, Empty, Full}
use Rattle.flow_design.specs.{Channel, Design, Verdict, Held, Report, is_sink, Token, EventLine}
use Rattle.flow_design.specs.declared.report.Verdict.TheVariants.{Done, Deadlock, Cycles, Ops}
use Rattle.report_text.specs.Lines.{text_of_lines, verdict_tokens}

-- the names of the sinks, in order of declaration
abbrev pub sink_names : List Channel → List Token
sink_names channels = map (λ c. c.name) (filter (λ c. is_sink c.kind) channels)

-- the name of a channel or a module, by number
abbrev pub channel_name : Design → ℕ → Token
channel_name design at = slice_index_or (map (λ c. c.name) design.channels) at []

abbrev pub module_name : Design → ℕ → Token
module_name design at = slice_index_or (map (λ m. m.name) design.modules) at []

-- the report is one of the design: its numbers are the design's, and it has one output for each sink
pub record IsReportOf (design : Design) (report : Report) : Type 0 where
  pub outputs : length report.outputs ≡ length (sink_names design.channels)
  pub held : All (λ h. (h.module < length design.modules) × (h.channel < length design.channels)) report.held
  pub events : All (λ e. (e.module < length design.modules) × (e.channel < length design.channels)) report.events

-- the tokens of `out NAME V V V`, for a sink's name and its values
abbrev pub output_tokens : Token × List ℕ → List Token
output_tokens output = codes "out" ∷ output.0 ∷ map decimal output.1

-- the tokens of `held MODULE empty CHANNEL` or `held MODULE full CHANNEL`
abbrev pub held_tokens : Design → Held → List Token
held_tokens design h =
    codes "held" ∷ module_name design h.module ∷ (if h.full then codes "full" else codes "empty") ∷ channel_name design h.channel ∷ []

abbrev pub kind_token : Kind → Token
kind_token Read = codes "read"
kind_token Write = codes "write"
kind_token TryRead = codes "tryread"
kind_token TryWrite = codes "trywrite"
kind_token Empty = codes "empty"
kind_token Full = codes "full"

-- the word for why a module stalls: one that cannot pop stalls at an empty channel, and one that cannot push at a full one
abbrev pub stall_word : Side → Token
stall_word Pop = codes "empty"
stall_word Push = codes "full"

-- the tokens of `event MODULE KIND CHANNEL CYCLE`
abbrev pub event_tokens : Design → EventLine → List Token
event_tokens design e =
    codes "event" ∷ module_name design e.module ∷ kind_token e.kind ∷ channel_name design e.channel ∷ decimal e.cycle ∷ []

-- a report with this verdict tells held modules
abbrev pub tells_held : Verdict → Bool
tells_held (Done c) = false
tells_held (Deadlock c) = true
tells_held (Cycles c) = false
tells_held (Ops c) = true

-- a line for each sink
abbrev pub output_lines : List Channel → List (List ℕ) → List (List Token)
output_lines channels outputs = map output_tokens (zip (sink_names channels) outputs)

-- a line for each held module, if a report with this verdict tells them
abbrev pub held_lines : Design → Verdict → List Held → List (List Token)
held_lines design verdict held = if tells_held verdict then map (held_tokens design) held else []

-- a line for each event, if they are asked for
abbrev pub event_lines : Design → Bool → List EventLine → List (List Token)
event_lines design asked events = if asked then map (event_tokens design) events else []

-- the tokens of `report K`
abbrev pub report_tokens : ℕ → List Token
report_tokens number = codes "report" ∷ decimal number ∷ []

-- the lines of a report: its number, its verdict, the outputs of the sinks, the held modules, the events
abbrev pub report_lines : Design → Report → ℕ → Bool → List (List Token)
report_lines design report number events =
    report_tokens number
    ∷ verdict_tokens report.verdict
    ∷ output_lines design.channels report.outputs
    ++ held_lines design report.verdict report.held
    ++ event_lines design events report.events

-- the text of a report, with its number and, if asked, its events
unfoldable pub report_text_of : Design → Report → ℕ → Bool → List ℕ
report_text_of design report number events = text_of_lines (report_lines design report number events)
