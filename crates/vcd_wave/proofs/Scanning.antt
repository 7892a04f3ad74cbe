-- Lines that lead on.
use Rattle.std.proofs.Common.{◌≡◌, ℕ, ◌^◌, ◌<◌, List, [], ◌∷◌, ◌++◌, None, Some, length, refl, sym, ◌∙◌, ap, arith, subst, length-append}
use Rattle.vcd_wave.specs.{Change as WaveChange, Instant, numeral, WaveLine, Probe, Scan, begun, FitsReader, step, ChangesLead}
use Rattle.vcd_wave.specs.{InstantsLead, ScanLeads}
use Rattle.vcd_wave.specs.declared.reading.WaveLine.TheVariants.{Time, Change}
use Rattle.vcd_wave.proofs.Numerals.{numeral_decimal}
use Rattle.vcd_wave.proofs.OneWave.{changes_text, instants_text, change_parts, instant_parts}

begun_time : (clock : ℕ) (cs : List WaveChange) (is : List Instant) → clock < 2 ^ 64
    → begun (Time clock) (changes_text cs ++ instants_text is) ≡ instants_text (record { clock = clock; changes = cs } ∷ is)
begun_time clock cs is h =
    ap (λ (d : List ℕ). 35 ∷ (d ++ 10 ∷ (changes_text cs ++ instants_text is))) (numeral_decimal clock h)
    ∙ sym (instant_parts (record { clock = clock; changes = cs }) is)

begun_change : (fifo fill : ℕ) (cs : List WaveChange) (r : List ℕ) → fifo < 2 ^ 64
    → begun (Change fifo fill) (changes_text cs ++ r) ≡ changes_text (record { fifo = fifo; fill = fill } ∷ cs) ++ r
begun_change fifo fill cs r h =
    ap (λ (d : List ℕ). 98 ∷ (numeral 2 fill ++ 32 ∷ 102 ∷ (d ++ 10 ∷ (changes_text cs ++ r)))) (numeral_decimal fifo h)
    ∙ sym (change_parts (record { fifo = fifo; fill = fill }) cs r)

pub leads_more : (a : Probe) (s next : Scan) (l : WaveLine) (text after : List ℕ) (r : Scan) → text ≡ begun l after → FitsReader l
    → Some next ≡ step a s l → ScanLeads a next after r → ScanLeads a s text r
leads_more a s next (Time clock) text after r e f st h = record {
  changes = [];
  later = record { clock = clock; changes = h.changes } ∷ h.later;
  middle = s;
  is_text = e ∙ (ap (begun (Time clock)) h.is_text ∙ begun_time clock h.changes h.later f);
  now = refl;
  onward = (next, h.middle, sym st, f, h.now, h.onward);
}
leads_more a s next (Change fifo fill) text after r e f st h = record {
  changes = record { fifo = fifo; fill = fill } ∷ h.changes;
  later = h.later;
  middle = h.middle;
  is_text = e ∙ (ap (begun (Change fifo fill)) h.is_text ∙ begun_change fifo fill h.changes (instants_text h.later) f.0);
  now = (next, sym st, f.0, f.1, h.now);
  onward = h.onward;
}

-- the first line, and what follows
record First (a : Probe) (s : Scan) (text : List ℕ) (r : Scan) : Type 0 where
  line : WaveLine
  rest : List ℕ
  next : Scan
  fits : FitsReader line
  is_text : text ≡ begun line rest
  steps : step a s line ≡ Some next
  leads : ScanLeads a next rest r

first_from : (a : Probe) (s : Scan) (text : List ℕ) (r : Scan) (cs : List WaveChange) (is : List Instant) (middle : Scan)
    → (text ≡ [] → ⊥) → text ≡ changes_text cs ++ instants_text is → ChangesLead a s cs middle → InstantsLead a middle is r
    → First a s text r
first_from a s text r [] [] middle some e c i = absurd (some e)
first_from a s text r [] (i ∷ is) middle some e c h = record {
  line = Time i.clock;
  rest = changes_text i.changes ++ instants_text is;
  next = h.0;
  fits = h.3;
  is_text = e ∙ sym (begun_time i.clock i.changes is h.3);
  steps = ap (λ (t : Scan). step a t (Time i.clock)) c ∙ h.2;
  leads = record { changes = i.changes; later = is; middle = h.1; is_text = refl; now = h.4; onward = h.5 };
}
first_from a s text r (c ∷ cs) is middle some e h i = record {
  line = Change c.fifo c.fill;
  rest = changes_text cs ++ instants_text is;
  next = h.0;
  fits = (h.2, h.3);
  is_text = e ∙ sym (begun_change c.fifo c.fill cs (instants_text is) h.2);
  steps = h.1;
  leads = record { changes = cs; later = is; middle = middle; is_text = refl; now = h.4; onward = i };
}

first_is : (a : Probe) (s : Scan) (text : List ℕ) (r : Scan) → (text ≡ [] → ⊥) → ScanLeads a s text r → First a s text r
first_is a s text r some h = first_from a s text r h.changes h.later h.middle some h.is_text h.now h.onward

pub no_line : (a : Probe) (s : Scan) (text : List ℕ) (r : Scan) → (text ≡ [] → ⊥)
    → ((l : WaveLine) (rest : List ℕ) → FitsReader l → text ≡ begun l rest → ⊥) → ScanLeads a s text r → ⊥
no_line a s text r some none h = let f = first_is a s text r some h in none f.line f.rest f.fits f.is_text

some_scan : (s t : Scan) → Some s ≡ Some t → s ≡ t
some_scan s t e = cc

pub no_step : (a : Probe) (s : Scan) (text after : List ℕ) (line : WaveLine) (r : Scan) → (text ≡ [] → ⊥)
    → ((l : WaveLine) (rest : List ℕ) → FitsReader l → text ≡ begun l rest → (line ≡ l) × (after ≡ rest)) → None ≡ step a s line
    → ScanLeads a s text r → ⊥
no_step a s text after line r some same none h =
    let f = first_is a s text r some h in
    let wrong : None ≡ Some f.next =
    none ∙ (ap (step a s) (same f.line f.rest f.fits f.is_text).0 ∙ f.steps) in cc

pub leads_on : (a : Probe) (s next : Scan) (text after : List ℕ) (line : WaveLine) (r : Scan) → (text ≡ [] → ⊥)
    → ((l : WaveLine) (rest : List ℕ) → FitsReader l → text ≡ begun l rest → (line ≡ l) × (after ≡ rest)) → Some next ≡ step a s line
    → ScanLeads a s text r → ScanLeads a next after r
leads_on a s next text after line r some same steps h =
    let f = first_is a s text r some h in
    let both = same f.line f.rest f.fits f.is_text in
    let here : next ≡ f.next = some_scan next f.next (steps ∙ (ap (step a s) both.0 ∙ f.steps)) in
    subst (λ (t : Scan). ScanLeads a t after r) (sym here) (subst (λ (t : List ℕ). ScanLeads a f.next t r) (sym both.1) f.leads)

pub no_more : (a : Probe) (s : Scan) (text : List ℕ) → text ≡ [] → ScanLeads a s text s
no_more a s text e = record { changes = []; later = []; middle = s; is_text = e; now = refl; onward = refl }

pub shorter : (l : WaveLine) (text after : List ℕ) → text ≡ begun l after → length after < length text
shorter (Time clock) text after e =
    omega (arith, ap length e, length-append (numeral 10 clock) (10 ∷ after))
shorter (Change fifo fill) text after e =
    omega (
      arith,
      ap length e,
      length-append (numeral 2 fill) (32 ∷ 102 ∷ (numeral 10 fifo ++ 10 ∷ after)),
      length-append (numeral 10 fifo) (10 ∷ after),
    )
