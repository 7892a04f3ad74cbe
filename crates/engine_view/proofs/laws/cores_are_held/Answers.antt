use Rattle.std.proofs.{Common.ap, Common.suc, Common.Bool, Common.List, lemmas.Bool.both_ways}
use Rattle.std.specs.Prelude.{slice_get}
use Rattle.engine_view.specs.{new_flags, core_of, queries_before, with_answered, with_confirmed, first_of}
use Rattle.engine_view.proofs.Keeping.{opening_now, emitted_now, over_now, assigned_now, cut_now}
use Rattle.engine_view.proofs.{Unsure.unsure_of, Unsure.answered_on, Resolving.fresh_core, Confirming.again_core}
use Rattle.engine_view.proofs.laws.cores_are_held.Goals as goal

pub returns : goal.returns
returns g c = record {
  opening = opening_now;
  emitted = emitted_now;
  over = over_now;
  assigned = assigned_now;
  answered = λ d h k i m c u none.
      let unsure = unsure_of d i h k m u in
      answered_on d h m c (with_answered h m (first_of h m) (new_flags d (core_of d h) m c)) unsure (λ e. absurd (both_ways _ none e))
      (fresh_core (record { unsure = unsure; fresh = none }) c);
  confirmed = λ d h k i m c u there same.
      let unsure = unsure_of d i h k m u in
      answered_on d h m c (with_confirmed h m (queries_before h m (suc (first_of h m)))) unsure same
      (again_core unsure c there (same there));
  differs = λ d h m c q o same. o.other.differs (ap (λ (flags : List Bool). slice_get flags o.other.place) (same o.recorded));
  cut = cut_now;
}
