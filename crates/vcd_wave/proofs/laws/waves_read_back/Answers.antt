use Rattle.std.proofs.Common.{subst, sym}
use Rattle.vcd_wave.specs.{wave_of, wave_text, TellsFill}
use Rattle.vcd_wave.proofs.{OneWave.one_wave, Plans.one_fill, Plans.tells_it, Plans.tells_only, Plans.declared_is, Plans.within_is}
use Rattle.vcd_wave.proofs.laws.waves_read_back.Goals as goal

pub returns-clause-one_wave : goal.returns-clause-one_wave
returns-clause-one_wave c = one_wave

pub returns-clause-one_fill : goal.returns-clause-one_fill
returns-clause-one_fill c = one_fill

pub returns-clause-tells : goal.returns-clause-tells
returns-clause-tells c = λ p fits i d v. (
  (λ t.
      let inside = declared_is p fits i d v t in
      let within = within_is p fits i d v t in
      record { inside = inside; within = within; fill = tells_only p fits i d v inside within t }),
  (λ h. subst (TellsFill (wave_text (wave_of p)) i d) (sym h.fill) (tells_it p fits i d h.inside h.within)),
)
