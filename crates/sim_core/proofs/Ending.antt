-- The end marks of a core are those of the modules' own runs.
use Rattle.std.proofs.Common.{◌≡◌, refl, sym, ap, ◌∙◌, ℕ, ◌<◌, Bool, true, false, cond, List, length, get_or, Option, None, Some, is_some}
use Rattle.std.proofs.Common.{inl, inr, arith}
use Rattle.std.proofs.{lemmas.Bool.cases_lt, lemmas.List.get_or_past, lemmas.List.length-map}
use Rattle.sim_core.specs.{Step as StepOf, Plan, Advance, ModuleState, is_spent, Own, gap_bound, ModuleRun, is_step, IsFinal, design}
use Rattle.sim_core.specs.{core_of, Engine, held_in, end_at, gap_of_end, IsEndMark, IsFinished, IsRestAfter, IsCore, rest_after}
use Rattle.flow_design.specs.declared.state.Advance.TheVariants.{Step, Ended, Spent}
use Rattle.event_timing.specs.Core.{Core}
use Rattle.sim_core.proofs.{Marking.table_count, Resting.rest_is}
use Rattle.module_interp.specs.Runs as run

marked : (p : Plan) (x : Core ModuleState) (m : ℕ) (o : Own) → IsRestAfter p x m (x.emitted m) o
    → (mark : Advance) (a b : Bool) (t : StepOf) → a ≡ o.state.ended → b ≡ is_spent p.ops o.state
    → mark ≡ cond a (Ended o.since) (cond b (Spent o.since) (Step t)) → is_step mark ≡ false → IsEndMark p x m mark
marked p x m o r mark true b t e f is none = rw is (ap (λ (s : ModuleState). s.ended) (sym r.state) ∙ sym e, r.since)
marked p x m o r mark false true t e f is none = rw is (ap (is_spent p.ops) (sym r.state) ∙ sym f, r.since)
marked p x m o r mark false false t e f is none = cc

-- both crates' words for the gap of a mark
same_gap : (mark : Advance) → run.gap_of mark < gap_bound → gap_of_end (Some mark) < gap_bound
same_gap (Step t) l = omega arith
same_gap (Ended n) l = l
same_gap (Spent n) l = l

short_mark : (o : Option Advance) → ((mark : Advance) → o ≡ Some mark → gap_of_end (Some mark) < gap_bound) → gap_of_end o < gap_bound
short_mark None f = omega arith
short_mark (Some (Step t)) f = omega arith
short_mark (Some (Ended n)) f = f (Ended n) refl
short_mark (Some (Spent n)) f = f (Spent n) refl

module _ (p : Plan) (s : Engine) (runs : List (Option ModuleRun))
    (k : IsCore p s runs) where
  abbrev x : Core ModuleState
  x = core_of (design p) (held_in s)

  inside : (m : ℕ) (mark : Advance) → get_or s.ends.items m None ≡ Some mark → m < length p.design.modules
  inside m mark there =
      elim (cases_lt m (length s.ends.items)) [
        | inl l ↦ let a = k.sound.overs in let b = length-map s.ends.items is_some in omega arith
        | inr l ↦ let z = sym (get_or_past s.ends.items m None l) ∙ there in cc
      ]

  after : (m : ℕ) (mark : Advance) → get_or s.ends.items m None ≡ Some mark → IsRestAfter p x m (x.emitted m) (rest_after p x m
      (x.emitted m))
  after m mark there = rest_is p k.fits x k.agreed.marks m (inside m mark there) (x.emitted m) (x.emitted m) (omega arith) (omega arith)

  pub finished : IsFinal (design p) p.cycles x → IsFinished p (held_in s) s.ends.items
  finished final = record {
    fits = k.fits;
    channels = table_count p s.fifos.channels k.table;
    sound = k.sound;
    agreed = k.agreed;
    final = final;
    marks = record {
      over = refl;
      each = λ m mark there.
          let e = k.ends_are m mark there in
          marked p x m (rest_after p x m (x.emitted m)) (after m mark there) mark _ _ _ refl refl e.is e.no_step;
      short = λ m. short_mark (end_at s.ends.items m) (λ mark there. same_gap mark (k.ends_are m mark there).short);
    };
  }
