-- The clocks and changes of a wave, read in order, for one FIFO.
use Rattle.std.specs.Prelude.{ℕ, ◌≡◌, ◌+◌, ◌^◌, ◌<◌, ◌==◌, ◌&&◌, not, nat_le, nat_lt, true, false, if◌then◌else◌, List, [], ◌∷◌, ◌++◌, map}
use Rattle.std.specs.Prelude.{Option, None, Some}
use Rattle.std.specs.List.{flat_map}
use Rattle.report_text.specs.{text_of_lines}
use Rattle.vcd_wave.specs.{Wave.Change as WaveChange, Wave.Instant, WaveText.change_tokens, WaveText.instant_lines, Digits.numeral}
use Rattle.vcd_wave.specs.{declared.reading.WaveLine.WaveLine, declared.scan.Probe.Probe, declared.scan.Scan.Scan}
use Rattle.vcd_wave.specs.declared.reading.WaveLine.TheVariants.{Time, Change}

-- a text that begins with this line
abbrev pub begun : WaveLine → List ℕ → List ℕ
begun (Time clock) rest = 35 ∷ (numeral 10 clock ++ 10 ∷ rest)
begun (Change fifo fill) rest = 98 ∷ (numeral 2 fill ++ 32 ∷ 102 ∷ (numeral 10 fifo ++ 10 ∷ rest))

-- the numbers of a line are such as a reader takes
abbrev pub FitsReader : WaveLine → Type 0
FitsReader (Time clock) = clock < 2 ^ 64
FitsReader (Change fifo fill) = (fifo < 2 ^ 64) × (fill < 2 ^ 32)

-- the state after a change in the present clock; none where it is not in order
abbrev pub change_step : Probe → Scan → ℕ → ℕ → Option Scan
change_step a s fifo fill =
    if nat_le s.next fifo && (nat_lt fifo a.count && not ((fifo == a.fifo) && (fill == s.fill)))
    then Some (record {
      clock = s.clock;
      next = fifo + 1;
      some = true;
      fill = if fifo == a.fifo then fill else s.fill;
      told = if (fifo == a.fifo) && nat_le s.clock a.clock then fill else s.told;
    }) else None

-- the state after the line of a later clock; none where it is not in order
abbrev pub time_step : Scan → ℕ → Option Scan
time_step s clock =
    if s.some && nat_lt s.clock clock then Some (record { clock = clock; next = 0; some = false; fill = s.fill; told = s.told }) else None

abbrev pub step : Probe → Scan → WaveLine → Option Scan
step a s (Time clock) = time_step s clock
step a s (Change fifo fill) = change_step a s fifo fill

-- these changes of one clock lead from the first state to the second
abbrev pub ChangesLead : Probe → Scan → List WaveChange → Scan → Type 0
ChangesLead a s [] r = s ≡ r
ChangesLead a s (c ∷ cs) r =
    (next : Scan) × (change_step a s c.fifo c.fill ≡ Some next) × (c.fifo < 2 ^ 64) × (c.fill < 2 ^ 32) × ChangesLead a next cs r

-- these clocks with their changes lead from the first state to the second
abbrev pub InstantsLead : Probe → Scan → List Instant → Scan → Type 0
InstantsLead a s [] r = s ≡ r
InstantsLead a s (i ∷ is) r =
    (start : Scan) × (middle : Scan) × (time_step s i.clock ≡ Some start) × (i.clock < 2 ^ 64) × ChangesLead a start i.changes middle
    × InstantsLead a middle is r

-- the text is that of changes and later clocks which lead from the first state to the second
pub record ScanLeads (a : Probe) (s : Scan) (text : List ℕ) (r : Scan) : Type 0 where
  pub changes : List WaveChange
  pub later : List Instant
  pub middle : Scan
  pub is_text : text ≡ text_of_lines (map change_tokens changes) ++ text_of_lines (flat_map instant_lines later)
  pub now : ChangesLead a s changes middle
  pub onward : InstantsLead a middle later r

-- the state after clock 0, in which each FIFO has its change
abbrev pub opening_scan : ℕ → Scan
opening_scan count = record { clock = 0; next = count; some = true; fill = 0; told = 0 }

-- the text is that of lines in order, for this FIFO
abbrev pub LeadsFor : Probe → ℕ → List ℕ → Type 0
LeadsFor a fifo text =
    (r : Scan) × ScanLeads (record { count = a.count; fifo = fifo; clock = a.clock }) (opening_scan a.count) text r
