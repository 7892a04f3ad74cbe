-- The accesses of the step at which a run rests, listed.
use Rattle.std.specs.Box.{with_value}
use Rattle.std.proofs.Common.{◌≡◌, ◌⊎◌, inl, inr, true, false, ℕ, ◌^◌, ◌<◌, ◌∙◌, List, map, length, refl, sym, ap, subst, arith, Result, Ok}
use Rattle.std.proofs.Common.{Err, OnErr}
use Rattle.std.proofs.lemmas.List.{length-map}
use Rattle.module_interp.specs.{Access, Plan, Exchange, is_over, Own, access_of, request_from, Path, ModuleRun, Tally, done_in, mark_at}
use Rattle.module_interp.specs.{is_asked, StandsAt, IsSoundMark, KeepsRest, LeadsTo, IsAtStep, IsAtEnd, IsTallyOf}
use Rattle.module_interp.specs.declared.path.Stage.TheVariants.{Begun, Asked}
use Rattle.flow_design.specs.declared.state.Advance.TheVariants.{Step, Ended, Spent}
use Rattle.module_interp.proofs.Advancing.{kept_on, stands_on, rest_of, at_step, CanList, can_list, stands_asked}
use Rattle.module_interp.proofs.{Sound.sound_mark, Sound.small_step, Tallies.queries_few, Ways.looked_up}
use Rattle.module_interp.proofs.Standing.{step_rest, ended_mark, spent_mark, step_mark, accesses_are}

-- what gives these accesses their ordinals
abbrev pub Numbers : List Access → Tally → List Access → Type 0
Numbers accesses tally asked =
    (before : List Exchange) → IsTallyOf before tally → accesses ≡ map (access_of before) (map request_from asked)

pub on_err : {A E : Type 0} {P : Type 0} (r : Result A E) → P → OnErr r P
on_err {A} {E} {P} (Ok a) h = tt
on_err {A} {E} {P} (Err e) h = h

-- ---- at a rest

abbrev pub Rests : Path → Type 0
Rests y = IsAtStep y ⊎ IsAtEnd y

has_begun : (y : Path) → Rests y → y.stage ≡ Begun
has_begun y (inl h) = h.begun
has_begun y (inr h) = h.begun

-- the path in the box of a run that rests, and is not over
pub alive_step : (x y : Path) → y ≡ x → Rests x → is_over y.limit y.state ≡ false → IsAtStep x
alive_step x y is h alive = at_step x h (subst (λ (z : Path). is_over z.limit z.state ≡ false) is alive)

pub rest_unasked : (r : ModuleRun) (y : Path) → y ≡ r.path.value → Rests r.path.value → is_asked y.stage ≡ false
rest_unasked r y is h = rw is (rw (has_begun r.path.value h) refl)

module _ (p : Plan) (i : ℕ) (o : Own) (r : ModuleRun) (s : StandsAt p i o r) (y : Path) (is : y ≡ r.path.value)
    (h : Rests r.path.value) where
  rests_here : Rests y
  rests_here = subst Rests (sym is) h

  leads_here : LeadsTo p i o y
  leads_here = subst (LeadsTo p i o) (sym is) s.leads

  -- whatever accesses it has
  pub rest_stands : (accesses : List Access)
      → StandsAt p i o (record { path = with_value r.path (record y { asked = accesses }); tally = r.tally })
  rest_stands accesses =
      let begun = has_begun y rests_here in
      stands_on p i o r (record y { asked = accesses })
      (kept_on r.path.value y _ is (looked_up y (record y { asked = accesses }) y.notes accesses y.scratch begun refl))
      (λ e. let c : Begun ≡ Asked = sym begun ∙ e in cc) s

  pub rest_ended : y.state.ended ≡ true → Ended y.since ≡ mark_at p i o
  rest_ended ended = ended_mark p i o y (rest_of p i o y leads_here rests_here) ended

  pub rest_spent : y.state.ended ≡ false → is_over y.limit y.state ≡ true → Spent y.since ≡ mark_at p i o
  rest_spent alive over = spent_mark p i o y leads_here (rest_of p i o y leads_here rests_here) alive over

-- ---- at a step

-- the path in the box of a run that rests at a step
module _ (p : Plan) (i : ℕ) (o : Own) (r : ModuleRun) (s : StandsAt p i o r) (y : Path) (is : y ≡ r.path.value)
    (h : IsAtStep r.path.value) where
  rests : IsAtStep y
  rests = subst IsAtStep (sym is) h

  keeps : KeepsRest r.path.value y
  keeps = kept_on r.path.value y y is (λ q j n l. l)

  can : CanList p o y
  can = can_list p i o r y keeps s rests

  pub few_before : length (done_in o.steps) < 2 ^ 40
  few_before = can.few

  module _ (accesses : List Access) (numbers : Numbers accesses r.tally y.asked) where
    made : accesses ≡ map (access_of (done_in o.steps)) (map request_from y.asked)
    made = numbers (done_in o.steps) s.tally

    abbrev new : ModuleRun
    new = record { path = with_value r.path (record y { asked = accesses; stage = Asked }); tally = r.tally }

    pub listed_stands : StandsAt p i o new
    listed_stands = stands_asked p i o r y accesses keeps s rests made

    pub listed_count : length accesses ≡ length r.path.value.asked
    listed_count =
        ap (λ (xs : List Access). length xs) made
        ∙ (length-map (map request_from y.asked) (access_of (done_in o.steps))
        ∙ (length-map y.asked request_from ∙ ap (λ (x : Path). length x.asked) is))

    -- a copy of them is told
    module _ (told : List Access) (same : told ≡ accesses) where
      pub listed_mark : Step (record { gap = y.since; accesses = told; first_query = r.tally.queries }) ≡ mark_at p i o
      listed_mark =
          let l = keeps p i o s.leads in
          let rest = step_rest p i o y l rests in
          step_mark p i o y told r.tally.queries l rest rests.alive (same ∙ accesses_are p i o y accesses l rest rests.asked made)
          s.tally.queries_are

      pub listed_sound : IsSoundMark (length o.steps) (Step (record { gap = y.since; accesses = told; first_query = r.tally.queries }))
      listed_sound =
          let (few, done) = small_step p i o new listed_stands refl in
          let as_many = ap (λ (xs : List Access). length xs) same in
          let queries = s.tally.queries_are in
          let less = queries_few (done_in o.steps) in
          sound_mark p i o r _ s listed_mark (record { few = omega arith; first_query = omega arith })
