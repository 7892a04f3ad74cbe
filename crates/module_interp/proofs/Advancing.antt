-- A run at its rest.
use Rattle.std.specs.Box.{with_value}
use Rattle.std.proofs.Common.{◌≡◌, ◌≢◌, ℕ, ◌^◌, ◌<◌, ◌⊎◌, inl, inr, false, List, map, length, ap, subst, arith}
use Rattle.std.proofs.lemmas.Bool.{both_ways}
use Rattle.module_interp.specs.{Access, Plan, is_over, Own, access_of, request_from, Path, ModuleRun, done_in, LeadsTo, KeepsRest, IsAtStep}
use Rattle.module_interp.specs.{IsAtEnd, StandsAt, declared.path.Stage.TheVariants.Asked}
use Rattle.module_interp.proofs.Ways.{has_begun}
use Rattle.module_interp.proofs.Standing.{IsAtRest, step_rest, end_rest, accesses_are, numbered, asked_leads}

-- the way that was kept began at the path in the box
pub kept_on : (x z y : Path) → z ≡ x → KeepsRest z y → KeepsRest x y
kept_on x z y is keeps = subst (λ (p : Path). KeepsRest p y) is keeps

-- the way to the rest went on
pub stands_on : (p : Plan) (i : ℕ) (o : Own) (r : ModuleRun) (y : Path) → KeepsRest r.path.value y → y.stage ≢ Asked
    → StandsAt p i o r
    → StandsAt p i o (record { path = with_value r.path y; tally = r.tally })
stands_on p i o r y keeps unasked s = record {
  leads = keeps p i o s.leads;
  tally = s.tally;
  ports = s.ports;
  few = s.few;
  accesses = λ e. absurd (unasked e);
  in_time = s.in_time;
  after = s.after;
}

pub rest_of : (p : Plan) (i : ℕ) (o : Own) (y : Path) → LeadsTo p i o y → (IsAtStep y ⊎ IsAtEnd y) → IsAtRest p i o y
rest_of p i o y l (inl h) = step_rest p i o y l h
rest_of p i o y l (inr h) = end_rest p i o y l h

pub at_step : (y : Path) → (IsAtStep y ⊎ IsAtEnd y) → is_over y.limit y.state ≡ false → IsAtStep y
at_step y (inl h) alive = h
at_step y (inr h) alive = absurd (both_ways (is_over y.limit y.state) alive h.over)

-- what is needed to list the accesses
pub record CanList (p : Plan) (o : Own) (y : Path) : Type 0 where
  pub few : length (done_in o.steps) < 2 ^ 40

pub can_list : (p : Plan) (i : ℕ) (o : Own) (r : ModuleRun) (y : Path) → KeepsRest r.path.value y → StandsAt p i o r → IsAtStep y
    → CanList p o y
can_list p i o r y keeps s h =
    let l = keeps p i o s.leads in
    let b = l.path in
    let began = has_begun y (record { plan = p; number = i; is = b }) h.begun h.alive in
    let rest = step_rest p i o y l h in
    let count : o.state.count ≡ y.state.count = ap (λ z. z.count) rest.state in
    let small = began.count in
    let few = s.few in
    record { few = omega arith }

-- the step was given
pub stands_asked : (p : Plan) (i : ℕ) (o : Own) (r : ModuleRun) (y : Path) (accesses : List Access)
    → KeepsRest r.path.value y → StandsAt p i o r → IsAtStep y
    → accesses ≡ map (access_of (done_in o.steps)) (map request_from y.asked)
    → StandsAt p i o (record { path = with_value r.path (record y { asked = accesses; stage = Asked }); tally = r.tally })
stands_asked p i o r y accesses keeps s h given =
    let l = keeps p i o s.leads in
    record {
      leads = asked_leads p i o y accesses l h (numbered (done_in o.steps) y.asked accesses given);
      tally = s.tally;
      ports = s.ports;
      few = s.few;
      accesses = λ e. accesses_are p i o y accesses l (step_rest p i o y l h) h.asked given;
      in_time = s.in_time;
      after = s.after;
    }
