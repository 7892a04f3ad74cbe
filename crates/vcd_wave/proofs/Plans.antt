-- What the text of a plan's wave tells, and what it does not.
use Rattle.std.proofs.Common.{◌≡◌, ℕ, ◌^◌, ◌≤◌, ◌<◌, List, length, get_or, refl, sym, ◌∙◌, ap, arith}
use Rattle.std.proofs.{lemmas.List.length-map, lemmas.List.Sums.length-filter, lemmas.List.Sums.count_by-le-length}
use Rattle.std.specs.List.{filter}
use Rattle.vcd_wave.specs.{Channel, Plan, FitsEngine, is_fifo, fifos, fills, last_clock, wave_of, wave_text, TellsFill, told_fill}
use Rattle.vcd_wave.specs.{last_told, Wave.Wave}
use Rattle.vcd_wave.proofs.{Telling.told_fill_is, OneWave.one_wave, OneWave.names_long}
use Rattle.vcd_wave.proofs.Waves.{is_wave, count_is, last_is_told, first_empty}

pub one_fill : (text : List ℕ) → length text < 2 ^ 64 → (i c a b : ℕ) → TellsFill text i c a → TellsFill text i c b → a ≡ b
one_fill text few i c a b h g =
    let same = one_wave h.wave g.wave h.is_wave g.is_wave (omega (arith, names_long h.wave, ap length h.its_text, few))
    (sym h.its_text ∙ g.its_text) in
    h.says ∙ (ap (λ (w : Wave). told_fill w i c) same ∙ sym g.says)

few_names : (p : Plan) → FitsEngine p → length (wave_of p).names < 2 ^ 64
unfolding wave_of
few_names p fits =
    let cs = p.design.channels in
    let named = length-map (filter (λ (c : Channel). is_fifo c.kind) cs) (λ (c : Channel). c.name) in
    let counted = length-filter (λ (c : Channel). is_fifo c.kind) cs in
    let few = count_by-le-length (λ (c : Channel). is_fifo c.kind) cs in
    omega (arith, named, counted, few, fits.channel_count)

-- the wave that a plan's text is the text of
pub its_wave : (p : Plan) → FitsEngine p → (i c v : ℕ) (h : TellsFill (wave_text (wave_of p)) i c v) → wave_of p ≡ h.wave
its_wave p fits i c v h = one_wave (wave_of p) h.wave (is_wave p fits) h.is_wave (few_names p fits) h.its_text

pub declared_is : (p : Plan) → FitsEngine p → (i c v : ℕ) → TellsFill (wave_text (wave_of p)) i c v → i < length (fifos p)
declared_is p fits i c v h = omega (arith, h.declared, ap (λ (w : Wave). length w.names) (its_wave p fits i c v h), count_is p)

pub within_is : (p : Plan) → FitsEngine p → (i c v : ℕ) → TellsFill (wave_text (wave_of p)) i c v → c ≤ last_clock p
within_is p fits i c v h = omega (arith, h.within, ap last_told (its_wave p fits i c v h), last_is_told p)

pub tells_it : (p : Plan) → FitsEngine p → (i c : ℕ) → i < length (fifos p) → c ≤ last_clock p
    → TellsFill (wave_text (wave_of p)) i c (get_or (fills p c) i 0)
tells_it p fits i c l m = record {
  wave = wave_of p;
  is_wave = is_wave p fits;
  its_text = refl;
  declared = omega (arith, count_is p);
  within = omega (arith, last_is_told p);
  says = sym (told_fill_is p i c l (first_empty p fits i) m);
}

pub tells_only : (p : Plan) → FitsEngine p → (i c v : ℕ) → i < length (fifos p) → c ≤ last_clock p
    → TellsFill (wave_text (wave_of p)) i c v → v ≡ get_or (fills p c) i 0
tells_only p fits i c v l m h =
    h.says ∙ (ap (λ (w : Wave). told_fill w i c) (sym (its_wave p fits i c v h)) ∙ told_fill_is p i c l (first_empty p fits i) m)
