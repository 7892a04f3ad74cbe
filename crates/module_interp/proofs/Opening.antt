-- A run begins on the way to its first rest.
use Rattle.std.proofs.Common.{◌≡◌, ℕ, ◌+◌, ◌^◌, ◌<◌, List, [], length, get_or, refl, sym, ap, subst, arith, ◌∙◌}
use Rattle.std.proofs.lemmas.List.{get_or_default}
use Rattle.std.specs.Prelude.{All}
use Rattle.flow_design.specs.declared.design.Module.{Module}
use Rattle.module_interp.specs.{Plan, FitsEngine, ModuleState, opened, no_module, module_at, quiet, skip, IsStateOf, KeepsLimits}
use Rattle.module_interp.specs.{AreCodesOf, Stage, Path, ModuleRun, first_rest, StandsAt, after_move, IsStageSoundBy, LeadsTo, IsTallyOf}
use Rattle.module_interp.specs.{KnowsPorts, declared.path.Stage.TheVariants.Begun, declared.path.Stage.TheVariants.Asked}
use Rattle.lockstep_defs.proofs.States.{opened_state}
use Rattle.module_code.proofs.Begins.{opened_clock, opened_count}
use Rattle.block_schedule.proofs.Limits.{blocks_keep_limits}
use Rattle.module_interp.proofs.{Gaps.first_in_time, Keeping.at_stage, Timing.module_sound, Timing.opened_in_time}

pub opened_leads : (p : Plan) → FitsEngine p → (i : ℕ) → i < length p.design.modules → (x : Path)
    → x.of ≡ module_at p i
    → x.limit ≡ p.ops → AreCodesOf p.design.channels x.of x.codes
    → x.state ≡ opened x.of → x.stage ≡ Begun → x.since ≡ 0 → LeadsTo p i (first_rest p i) x
opened_leads p h i inside x of limit codes state begun since =
    let m = module_at p i in
    let s = opened m in
    let base : after_move x ≡ s = at_stage x Begun begun ∙ (state ∙ ap opened of) in
    let sound : IsStateOf m s = opened_state (length p.design.channels) m (module_sound p h i inside) in
    let few = opened_count m in
    record {
      path = record {
        fits = h;
        owner = inside;
        of = of;
        limit = limit;
        codes = codes;
        state = subst (IsStateOf m) (sym base) sound;
        operations = subst (λ (z : ModuleState). z.count < 2 ^ 32) (sym base) (omega arith);
        time = rw (base, since) (opened_in_time p h i inside s sound (opened_clock m));
        stage = subst (λ (g : Stage). IsStageSoundBy g x) (sym begun) tt;
      };
      rest = subst (λ (z : ModuleState). (first_rest p i).state ≡ skip p i (quiet p i z) z) (sym base) refl;
      since = sym (ap (λ (n : ℕ). n + quiet p i (after_move x)) since ∙ ap (λ (z : ModuleState). 0 + quiet p i z) base);
    }

unasked : {P : Type 0} (stage : Stage) → stage ≡ Begun → stage ≡ Asked → P
unasked stage begun asked = cc

-- a run on such a path, in which nothing is counted yet, stands at the first rest
pub first_stands : (p : Plan) (i : ℕ) (r : ModuleRun) → LeadsTo p i (first_rest p i) r.path.value → r.path.value.stage ≡ Begun
    → IsTallyOf [] r.tally → KnowsPorts (module_at p i) r.tally → StandsAt p i (first_rest p i) r
first_stands p i r leads begun tally ports = record {
  leads = leads;
  tally = tally;
  ports = ports;
  few = omega arith;
  accesses = λ asked. unasked r.path.value.stage begun asked;
  in_time = first_in_time p leads.path.fits i leads.path.owner;
  after = λ some. absurd (omega arith);
}

-- the copied module
pub module_is : (p : Plan) (i : ℕ) (xs : List Module) (item copy : Module) → i < length p.design.modules → xs ≡ p.design.modules
    → item ≡ get_or xs i item → copy ≡ item
    → copy ≡ module_at p i
module_is p i xs item copy inside same read copied =
    copied ∙ (read ∙ (ap (λ (ys : List Module). get_or ys i item) same ∙ get_or_default p.design.modules i item no_module inside))

pub blocks_keep : (p : Plan) → FitsEngine p → (i : ℕ) → i < length p.design.modules → (m : Module) → m ≡ module_at p i
    → All KeepsLimits m.blocks
blocks_keep p h i inside m is =
    subst (All KeepsLimits) (sym (ap (λ (n : Module). n.blocks) is))
    (blocks_keep_limits (length p.design.channels) (module_at p i) (module_sound p h i inside))
