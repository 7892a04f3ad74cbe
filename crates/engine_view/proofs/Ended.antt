-- An end (or spent) mark is the theory's Run of a module that is over.
use Rattle.std.proofs.Common.{◌≡◌, refl, sym, subst, ◌∙◌, ℕ, ◌<◌, true, false, length, get_or, set}
use Rattle.std.proofs.lemmas.Bool.{cond-true, le-ltb}
use Rattle.std.proofs.lemmas.List.{length-set, get_or-set_same, get_or-set_other}
use Rattle.engine_view.specs.{Design, ready, AreOwnMarks, newest, emit_over, after_run, MayRun, emitted_of, core_of, ShowsCore, IsSound}
use Rattle.engine_view.specs.{with_over, Held.Held}
use Rattle.event_timing.specs.Core.{Core}
use Rattle.event_timing.proofs.Running.{run_marks}
use Rattle.engine_view.proofs.Assigned.{put_is, IsAlike, alike_queries, whole_kept}
use Rattle.engine_view.proofs.{Placing.taken_stays, Reading.IsRead, Reading.read_sound}

module _ {S : Type 0} (d : Design S) (h : Held) (m : ℕ) (inside : m < length h.over) (s : IsSound d h) where
  abbrev x : Core S
  x = core_of d h

  abbrev z : Core S
  z = emit_over x m

  abbrev g : Held
  g = with_over h m

  alike : IsAlike g h
  alike = record { steps = λ n. refl; channels = refl; logs = refl }

  over_shown : ShowsCore d g z
  over_shown = record {
    lanes = s.lanes;
    logs = s.logs;
    overs = length-set h.over m true ∙ s.overs;
    sound_lanes = s.sound_lanes;
    sound_logs = s.sound_logs;
    inside = s.inside;
    places = s.places;
    accesses = s.accesses;
    ordinals = s.ordinals;
    first_query = λ n k l. s.first_query n k l ∙ sym (alike_queries g h alike n k);
    kinds = s.kinds;
    lags = s.lags;
    taken = λ side c l. taken_stays d x z (λ w side c k. refl) (λ w. refl) side c _ (s.taken side c l);
    values = s.values;
    recorded = λ n l. whole_kept g h alike n _ (s.recorded n l);
    verified = λ n l. whole_kept g h alike n _ (s.verified n l);
  }

  over_read : IsRead d g z
  over_read = record {
    emitted = λ n. refl;
    over = λ n. put_is x.over m n true (get_or (set h.over m true) n false)
        (λ e. rw e (get_or-set_same h.over m true false inside)) (λ f. get_or-set_other h.over m n true false f);
    past = λ n k l. rw (le-ltb k (emitted_of h n) l) refl;
    wait = λ n k. refl;
    flags = λ n k. refl;
    answered = λ n k. refl;
    verified = λ n k. refl;
    timed = λ n. refl;
    cycle = λ n k. refl;
  }

  pub over_core : AreOwnMarks d x → MayRun d x m → d.is_over m (ready d m (newest d x m)) ≡ true
      → (core_of d g ≡ after_run d x m) × IsSound d g
  over_core b r over =
      let is : after_run d x m ≡ z = cond-true {A = Core S} (d.is_over m (ready d m (newest d x m))) z _ over in
      let (e, sound) = read_sound d g z (subst (AreOwnMarks d) is (run_marks d x b m r)) over_shown over_read in
      (e ∙ sym is, sound)
