-- The marks of a core stay those of the modules' own runs, whatever is done.
use Rattle.std.proofs.Common.{arith, ◌≡◌, ℕ, ◌⊎◌, List, [], ◌∷◌, sym, subst, Some}
use Rattle.event_timing.specs.{Design, IsDesign, candidate, view, AreOwnMarks, Action, Acts, ActsAll, after_answer, IsSame, Core.Core}
use Rattle.event_timing.proofs.{Answering.answer_marks, Answering.first_emitted, Assigning.assign_marks, Running.run_marks}

module _ {S : Type 0} (d : Design S) (i : IsDesign d) (limit : ℕ) where
  found_marks : (x : Core S) → AreOwnMarks d x → (m c : ℕ) → candidate d (view d x) m ≡ Some c → (y : Core S)
      → (IsSame d x m c × (y ≡ after_answer d x m c)) ⊎ ((IsSame d x m c → ⊥) × (y ≡ x)) → AreOwnMarks d y
  found_marks x b m c at y w = grind (arith, answer_marks d i x b m c (first_emitted d x m c at))

  pub acts_marks : (x : Core S) → AreOwnMarks d x → (a : Action) (y : Core S) → Acts d limit x a y → AreOwnMarks d y
  acts_marks x b (Action.Run m) y (r, e) = subst (AreOwnMarks d) (sym e) (run_marks d x b m r)
  acts_marks x b (Action.Assign m) y (c, r, e) = subst (AreOwnMarks d) (sym e) (assign_marks d x m c b)
  acts_marks x b (Action.Answer m) y (c, r, e) = found_marks x b m c r.determined.at y e
  acts_marks x b (Action.Earliest m) y (c, r, e) = found_marks x b m c r.open_step.determined.at y e

  pub all_marks : (x : Core S) → AreOwnMarks d x → (actions : List Action) (y : Core S) → ActsAll d limit x actions y → AreOwnMarks d y
  all_marks x b [] y e = subst (AreOwnMarks d) (sym e) b
  all_marks x b (a ∷ more) y (w, s, t) = all_marks w (acts_marks x b a w s) more y t
