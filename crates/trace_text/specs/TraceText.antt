-- The text of a trace, in the Trace Event Format.
use Rattle.std.specs.{Prelude.ℕ, Prelude.List, Prelude.[], Prelude.◌∷◌, Prelude.◌++◌, Prelude.codes, List.flat_map}
use Rattle.flow_design.specs.{Plan}
use Rattle.trace_text.specs.Events.{trace_events}

abbrev pub opening_text : List ℕ
opening_text = codes "{\"displayTimeUnit\":\"ns\",\"traceEvents\":["

abbrev pub closing_text : List ℕ
closing_text = codes "\n]}\n"

-- events, each on a line of its own after a comma
abbrev pub further : List (List ℕ) → List ℕ
further events = flat_map (λ e. codes ",\n" ++ e) events

-- events, each on a line of its own, with a comma after each but the last
abbrev pub joined_lines : List (List ℕ) → List ℕ
joined_lines [] = []
joined_lines (e ∷ events) = codes "\n" ++ e ++ further events

unfoldable pub trace_text : Plan → List ℕ
trace_text p = opening_text ++ joined_lines (trace_events p) ++ closing_text
