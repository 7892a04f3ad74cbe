use Rattle.std.proofs.Common.{arith, refl, sym}
use Rattle.vcd_wave.specs.{wave_of}
use Rattle.vcd_wave.proofs.{Telling.told_fill_is, Waves.is_wave, Waves.count_is, Waves.last_is_told, Waves.first_empty}
use Rattle.vcd_wave.proofs.laws.waves_tell_fills.Goals as goal

pub returns-clause-wave : goal.returns-clause-wave
returns-clause-wave c = is_wave

pub returns-clause-count : goal.returns-clause-count
returns-clause-count c = count_is

pub returns-clause-last : goal.returns-clause-last
returns-clause-last c = last_is_told

pub returns-clause-fills : goal.returns-clause-fills
returns-clause-fills c = λ p fits i d l m. told_fill_is p i d l (first_empty p fits i) m

pub returns-clause-tells : goal.returns-clause-tells
returns-clause-tells c = λ p fits i d l m. record {
  wave = wave_of p;
  is_wave = is_wave p fits;
  its_text = refl;
  declared = omega (arith, count_is p);
  within = omega (arith, last_is_told p);
  says = sym (told_fill_is p i d l (first_empty p fits i) m);
}
