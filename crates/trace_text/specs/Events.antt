-- The events of a trace: the modules' names, their spans, and what the FIFOs hold. One clock is written as one microsecond.
use Rattle.std.specs.Prelude.{ℕ, ◌<◌, ◌+◌, ◌-◌, ◌==◌, ◌||◌, not, if◌then◌else◌, List, [], ◌∷◌, ◌++◌, map, length, codes, decimal}
use Rattle.std.specs.List.{flat_map, range_with_len}
use Rattle.flow_design.specs.{Design, Plan, Token}
use Rattle.report_text.specs.{module_name, channel_name, stall_word}
use Rattle.timelines.specs.{fifos, fill, last_clock, Doing, Span}
use Rattle.timelines.specs.declared.span.Doing.TheVariants.{Moves, Still}
use Rattle.trace_text.specs.Spans.{spans_of}

-- ---- one event

-- the event that names the track with this number
unfoldable pub name_event : ℕ → Token → List ℕ
name_event number name =
    codes "{\"ph\":\"M\",\"pid\":0,\"tid\":" ++ decimal number
    ++ codes ",\"name\":\"thread_name\",\"args\":{\"name\":\"" ++ name ++ codes "\"}}"

-- where a module stalls, its channel is one of the design
abbrev pub IsDrawn : Design → Doing → Type 0
IsDrawn design Moves = Unit {0}
IsDrawn design (Still port) = port.channel < length design.channels

-- `empty F` for a module that cannot pop F, and `full F` for one that cannot push F
abbrev pub doing_name : Design → Doing → Token
doing_name design Moves = codes "moves"
doing_name design (Still port) = stall_word port.side ++ 32 ∷ channel_name design port.channel

-- the event of a span in the track with this number
unfoldable pub span_event : Design → ℕ → Span → List ℕ
span_event design number s =
    codes "{\"ph\":\"X\",\"pid\":0,\"tid\":" ++ decimal number ++ codes ",\"ts\":" ++ decimal s.first
    ++ codes ",\"dur\":" ++ decimal (s.until - s.first) ++ codes ",\"name\":\"" ++ doing_name design s.doing ++ codes "\"}"

-- the event that says how many elements a FIFO with this name holds from this clock on
unfoldable pub fill_event : Token → ℕ → ℕ → List ℕ
fill_event name clock count =
    codes "{\"ph\":\"C\",\"pid\":0,\"ts\":" ++ decimal clock ++ codes ",\"name\":\"" ++ name
    ++ codes "\",\"args\":{\"fill\":" ++ decimal count ++ codes "}}"

-- ---- the events of a plan

abbrev pub names_of : Design → List (List ℕ)
names_of design = map (λ i. name_event i (module_name design i)) (range_with_len 0 (length design.modules))

abbrev pub span_events : Plan → ℕ → List (List ℕ)
span_events p i = map (span_event p.design i) (spans_of p i)

-- the event of FIFO f in clock c: in clock 0, and where it holds another number of elements than in the clock before
abbrev pub fill_events_at : Plan → ℕ → ℕ → List (List ℕ)
fill_events_at p f c =
    if c == 0 || not (fill p f c == fill p f (c - 1)) then fill_event (channel_name p.design f) c (fill p f c) ∷ [] else []

-- the events of FIFO f in the clocks up to this one, which is included
unfoldable pub fill_events : Plan → ℕ → ℕ → List (List ℕ)
fill_events p f clock = flat_map (fill_events_at p f) (range_with_len 0 (clock + 1))

-- all events of a trace: each module's name, each module's spans in order of time, and each FIFO's fills in order of time
abbrev pub trace_events : Plan → List (List ℕ)
trace_events p =
    names_of p.design ++ flat_map (span_events p) (range_with_len 0 (length p.design.modules))
    ++ flat_map (λ f. fill_events p f (last_clock p)) (fifos p)
