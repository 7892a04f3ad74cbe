use Rattle.sim_core.proofs.Led.{outcomes_led, no_run_led, differ_led}
use Rattle.sim_core.proofs.{Reported.answers_are, Reported.all_verified, Verified.verified_begin}
use Rattle.sim_core.proofs.records.records_are_answers.Goals as goal

pub returns : goal.returns
returns c = record {
  answers = λ v s f. answers_are v.plan v.held s.fits s.sound s.agreed f;
  verified = λ v s f. all_verified v.plan v.held s.sound f;
  begins = λ v s m l. verified_begin v.plan v.held s.fits s.sound s.agreed m l;
  grow = λ v e w t m l. outcomes_led v e w t m l;
  repeats = λ v e w t same m may. no_run_led v e w t same m may;
  differ = λ v e w t q d. differ_led v e w t q d;
}
