-- The text of a wave, in the command and value change forms of IEEE 1364-2001. One clock is written as one nanosecond.
use Rattle.std.specs.Prelude.{ℕ, List, [], ◌∷◌, ◌++◌, map, length, codes, decimal}
use Rattle.std.specs.List.{flat_map, range_with_len, enumerate_from}
use Rattle.report_text.specs.{text_of_lines}
use Rattle.vcd_wave.specs.{Digits.numeral, Wave.Change, Wave.Instant, Wave.Wave}
use Rattle.flow_design.specs.{Token}

-- the name of the FIFO with this number in the text: `fI`
abbrev pub fifo_code : ℕ → Token
fifo_code fifo = 102 ∷ decimal fifo

-- the tokens of `$var wire 32 fI NAME $end`
abbrev pub var_tokens : ℕ × List ℕ → List Token
var_tokens fifo = codes "$var wire 32" ∷ fifo_code fifo.0 ∷ fifo.1 ∷ codes "$end" ∷ []

-- the tokens of `#C`
abbrev pub time_tokens : ℕ → List Token
time_tokens clock = (35 ∷ decimal clock) ∷ []

-- the tokens of `bN fI`
abbrev pub change_tokens : Change → List Token
change_tokens change = (98 ∷ numeral 2 change.fill) ∷ fifo_code change.fifo ∷ []

-- the lines of a clock: its time, and then its changes
abbrev pub instant_lines : Instant → List (List Token)
instant_lines i = time_tokens i.clock ∷ map change_tokens i.changes

-- clock 0, in which each of this many FIFOs is empty
abbrev pub opening_instant : ℕ → Instant
opening_instant count = record { clock = 0; changes = map (λ i. record { fifo = i; fill = 0 }) (range_with_len 0 count) }

abbrev pub header_lines : List (List ℕ) → List (List Token)
header_lines names =
    (codes "$timescale 1 ns $end" ∷ []) ∷ (codes "$scope module flow $end" ∷ []) ∷ map var_tokens (enumerate_from 0 names)
    ++ (codes "$upscope $end" ∷ []) ∷ (codes "$enddefinitions $end" ∷ []) ∷ []

abbrev pub wave_lines : Wave → List (List Token)
wave_lines w = header_lines w.names ++ instant_lines (opening_instant (length w.names)) ++ flat_map instant_lines w.later

unfoldable pub wave_text : Wave → List ℕ
wave_text w = text_of_lines (wave_lines w)
