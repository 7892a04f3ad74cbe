-- A core stays one after a permitted action.
use Rattle.std.proofs.Common.{◌≡◌, refl, sym, ap, subst, ◌∙◌, ℕ, zero, suc, ◌⊎◌, inl, inr, true, false, List, [], ◌∷◌, length, get_or}
use Rattle.std.proofs.Common.{Option, None, Some, is_some}
use Rattle.std.proofs.lemmas.Bool.{both_ways}
use Rattle.sim_core.specs.{Plan, Advance, ModuleState, ModuleRun, Design, Action, Acts, IsNoRunOf, GrowsBeside, design, lockstep_run}
use Rattle.sim_core.specs.{core_of, IsSound, IsRoomy, held_in, over_of, kinds_in, IsKept, Engine, IsCore, IsEndOf}
use Rattle.event_timing.specs.Core.{Core}
use Rattle.event_timing.proofs.{Agreement.acts_agree, Beside.others_grow}
use Rattle.timing_bridge.proofs.History.{plan_is_design, run_is_history}
use Rattle.sim_core.proofs.Staying.{run_stays, end_stays}

-- a module that is over has no Run
no_run_of_over : {S : Type 0} (d : Design S) (limit : ℕ) (x y : Core S) (a : Action) (m : ℕ) → Acts d limit x a y → x.over m ≡ true
    → IsNoRunOf m (a ∷ [])
no_run_of_over {S} d limit x y (Action.Run n) m (may, is) over =
    ((λ e. both_ways _ may.lives (subst (λ (k : ℕ). x.over k ≡ true) e over)), tt)
no_run_of_over {S} d limit x y (Action.Assign n) m acts over = tt
no_run_of_over {S} d limit x y (Action.Answer n) m acts over = tt
no_run_of_over {S} d limit x y (Action.Earliest n) m acts over = tt

pub over_at : (ends : List (Option Advance)) (m : ℕ) → get_or (over_of ends) m false ≡ is_some (get_or ends m None)
over_at [] m = refl
over_at (e ∷ es) zero = refl
over_at (e ∷ es) (suc m) = over_at es m

-- where the end marks stay
pub same_end : (s t : Engine) → t.ends ≡ s.ends → (m : ℕ) (mark : Advance) → get_or t.ends.items m None ≡ Some mark
    → get_or s.ends.items m None ≡ Some mark
same_end s t e m mark there = rw (← e) there

-- the conditions of the turns at a module, and of an Earliest
pub kept_of : {p : Plan} {s : Engine} {runs : List (Option ModuleRun)}
    → IsCore p s runs → IsKept (design p) (held_in s)
kept_of k = record { sound = k.sound; marks = k.agreed.marks; earlier = k.agreed.time.verified_then }

module _ {p : Plan} {s : Engine} {runs : List (Option ModuleRun)} (k : IsCore p s runs) (t : Engine)
    (a : Action) where
  abbrev d : Design ModuleState
  d = design p

  abbrev x : Core ModuleState
  x = core_of d (held_in s)

  abbrev y : Core ModuleState
  y = core_of d (held_in t)

  beside : Acts d p.cycles x a y → (m : ℕ) → IsNoRunOf m (a ∷ []) → GrowsBeside d x y m
  beside acts m none = others_grow d (lockstep_run p) (plan_is_design p k.fits) (run_is_history p k.fits) p.cycles x k.agreed m (a ∷ [])
      none y (y, acts, refl)

  -- the runs of other modules stay where they stand, and so do the ends
  pub core_acted : Acts d p.cycles x a y → IsSound d (held_in t) → kinds_in t.fifos.channels ≡ kinds_in s.fifos.channels
      → length t.credits.items ≡ length s.credits.items → IsRoomy d t
      → ((m : ℕ) (run : ModuleRun) → get_or runs m None ≡ Some run → IsNoRunOf m (a ∷ []))
      → ((m : ℕ) (mark : Advance) → get_or t.ends.items m None ≡ Some mark → (get_or s.ends.items m None ≡ Some mark) ⊎ IsEndOf p y m mark)
      → IsCore p t runs
  core_acted acts sound kinds credit room no_run ends_of = record {
    fits = k.fits;
    sound = sound;
    agreed = acts_agree d (lockstep_run p) (plan_is_design p k.fits) (run_is_history p k.fits) p.cycles x k.agreed a y acts;
    table = kinds ∙ k.table;
    count = k.count ∙ (k.sound.lanes ∙ sym sound.lanes);
    counted = credit ∙ (k.counted ∙ (k.sound.lanes ∙ sym sound.lanes));
    room = room;
    runs_are = λ m run there. run_stays p x y k.agreed.marks m (beside acts m (no_run m run there)) run (k.runs_are m run there);
    ends_are = λ m mark there.
        elim (ends_of m mark there) [
          | inl e ↦
              let over : x.over m ≡ true = over_at s.ends.items m ∙ ap is_some e in
              end_stays p x y k.agreed.marks m (beside acts m (no_run_of_over d p.cycles x y a m acts over)) mark (k.ends_are m mark e)
          | inr e ↦ e
        ];
  }
