-- What leads to a rest still leads there.
use Rattle.std.proofs.Common.{◌≡◌, ℕ, zero, suc, ◌+◌, ◌*◌, ◌^◌, ◌<◌, ◌≤◌, ◌⊎◌, inl, inr, true, false, cond, [], length, map, refl, sym, ap}
use Rattle.std.proofs.Common.{subst, arith, ◌∙◌, add-zero}
use Rattle.std.proofs.lemmas.Bool.{or_from, cond-true, cond-false, cases_Bool, both_ways}
use Rattle.flow_design.specs.declared.limits.TheConstants.{OPERATIONS, LIVE_ITERATIONS, COUNTED_OPERATIONS}
use Rattle.flow_design.specs.declared.design.Module.{Module}
use Rattle.module_interp.specs.{Plan, due, FitsEngine, ModuleState, requests, is_over, module_at, requests_of, Own, IsStateOf, quiet, skip}
use Rattle.module_interp.specs.{rests, is_some_request, Stage, Path, clocks_to_go, after_move_by, after_move, HasAsked, IsStageSoundBy}
use Rattle.module_interp.specs.{request_from, IsPathOf, LeadsTo, KeepsRest, IsPath, clocks_to_end}
use Rattle.lockstep_defs.proofs.{Agrees.not_ended, Agrees.below_limit, Moves.move_falls}
use Rattle.module_code.proofs.Readiness.{few_due}
use Rattle.module_interp.proofs.{Counting.move_up, Rests.nearer, Rests.same_rest}
use Rattle.module_interp.proofs.Timing.{module_sound, lives, GoesOn, skip_goes_on, falls, left_bound}

-- ---- the same module

pub record IsFixed (x y : Path) : Type 0 where
  pub of : y.of ≡ x.of
  pub limit : y.limit ≡ x.limit
  pub codes : y.codes ≡ x.codes

few : (n ops due : ℕ) → n < ops → ops ≤ COUNTED_OPERATIONS → due ≤ LIVE_ITERATIONS * OPERATIONS → n + due + 2 < 2 ^ 32
few n ops due h k l = omega arith

skip_few : (p : Plan) → FitsEngine p → (i : ℕ) → i < length p.design.modules → (s : ModuleState) (elapsed : ℕ) → GoesOn p i s elapsed
    → s.count < 2 ^ 32
    → (n : ℕ) → ((j : ℕ) → j < n → rests p i (skip p i j s) ≡ false) → (skip p i n s).count < 2 ^ 32
skip_few p h i inside s elapsed g small zero goes = small
skip_few p h i inside s elapsed g small (suc n) goes =
    let m = module_at p i in
    let t = skip p i n s in
    let before = skip_goes_on p h i inside s elapsed g n (λ j l. goes j (omega arith)) in
    let alive = lives p i t (goes n (omega arith)) in
    let due_few = few_due (length p.design.channels) m t (module_sound p h i inside) (record { state = before.state; running = alive.0 }) in
    let bound = few t.count p.ops (length (due m t)) alive.1 h.operations due_few in
    omega (arith, (move_up m t []).1)

-- ---- so many quiet clocks on

pub leads_on : (p : Plan) (i : ℕ) (o : Own) (x y : Path) (n : ℕ) → LeadsTo p i o x → IsFixed x y
    → ((j : ℕ) → j < n → rests p i (skip p i j (after_move x)) ≡ false) → after_move y ≡ skip p i n (after_move x) → y.since ≡ x.since + n
    → IsStageSoundBy y.stage y → LeadsTo p i o y
leads_on p i o x y n l f goes moved later stage =
    let b = l.path in
    let s = after_move x in
    let t = skip p i n s in
    let fit = b.state.control.goes in
    let g : GoesOn p i s x.since = record { state = b.state; time = b.time } in
    let on = skip_goes_on p b.fits i b.owner s x.since g n goes in
    let small = skip_few p b.fits i b.owner s x.since g b.operations n goes in
    let quiet_same : quiet p i (after_move y) ≡ quiet p i t = ap (quiet p i) moved in
    let near : quiet p i s ≡ n + quiet p i t = nearer p b.fits i s fit n goes in
    let since_is = l.since in
    let rest : o.state ≡ skip p i (quiet p i t) t = l.rest ∙ same_rest p b.fits i s fit n goes in
    record {
      path = record {
        fits = b.fits;
        owner = b.owner;
        of = f.of ∙ b.of;
        limit = f.limit ∙ b.limit;
        codes = rw (f.of, f.codes) b.codes;
        state = subst (IsStateOf (module_at p i)) (sym moved) on.state;
        operations = subst (λ (z : ModuleState). z.count < 2 ^ 32) (sym moved) small;
        time = rw (moved, later) on.time;
        stage = stage;
      };
      rest = subst (λ (z : ModuleState). o.state ≡ skip p i (quiet p i z) z) (sym moved) rest;
      since = omega arith;
    }

-- nothing but the way to the same state
pub leads_still : (p : Plan) (i : ℕ) (o : Own) (x y : Path) → LeadsTo p i o x → IsFixed x y → after_move y ≡ after_move x
    → y.since ≡ x.since
    → IsStageSoundBy y.stage y → LeadsTo p i o y
leads_still p i o x y l f same since stage =
    leads_on p i o x y 0 l f (λ j less. absurd (omega arith)) same (since ∙ sym (add-zero x.since)) stage

-- each path leads to a rest
pub leads : (p : Plan) (i : ℕ) (x : Path) → IsPathOf p i x
    → LeadsTo p i (record {
      state = skip p i (quiet p i (after_move x)) (after_move x);
      steps = [];
      since = x.since + quiet p i (after_move x);
    }) x
leads p i x h = record { path = h; rest = refl; since = refl }

pub still_path : (x y : Path) → IsPath x → KeepsRest x y → IsPath y
still_path x y h keeps = record { plan = h.plan; number = h.number; is = (keeps h.plan h.number _ (leads h.plan h.number x h.is)).path }

pub at_stage : (x : Path) (stage : Stage) → x.stage ≡ stage → after_move x ≡ after_move_by stage x
at_stage x stage e = ap (λ (s : Stage). after_move_by s x) e

pub sound_at : (x : Path) (stage : Stage) → x.stage ≡ stage → IsStageSoundBy x.stage x → IsStageSoundBy stage x
sound_at x stage e h = subst (λ (s : Stage). IsStageSoundBy s x) e h

-- ---- the end comes nearer

abbrev end_by : ℕ → Module → ModuleState → ℕ
end_by limit m s = cond s.ended 0 (clocks_to_go limit m s + 1)

pub skip_falls : (p : Plan) → FitsEngine p → (i : ℕ) → i < length p.design.modules → (s : ModuleState) (elapsed : ℕ) → GoesOn p i s elapsed
    → (n : ℕ) → ((j : ℕ) → j < suc n → rests p i (skip p i j s) ≡ false)
    → ((skip p i (suc n) s).ended ≡ true) ⊎ (clocks_to_go p.ops (module_at p i) (skip p i (suc n) s) < clocks_to_go p.ops (module_at p i) s)
skip_falls p h i inside s elapsed g n goes = by_number n goes
  where
    one : (n : ℕ) → ((j : ℕ) → j < suc n → rests p i (skip p i j s) ≡ false)
        → ((skip p i (suc n) s).ended ≡ true)
        ⊎ (clocks_to_go p.ops (module_at p i) (skip p i (suc n) s) < clocks_to_go p.ops (module_at p i) (skip p i n s))
    one n goes =
        let m = module_at p i in
        let t = skip p i n s in
        let before = skip_goes_on p h i inside s elapsed g n (λ j l. goes j (omega arith)) in
        let after = skip_goes_on p h i inside s elapsed g (suc n) goes in
        let alive = lives p i t (goes n (omega arith)) in
        falls p m t (skip p i (suc n) s) alive.1
        (left_bound p h i inside (skip p i (suc n) s) after.state)
        (move_falls m t [] before.state.control.goes)

    by_number : (n : ℕ) → ((j : ℕ) → j < suc n → rests p i (skip p i j s) ≡ false)
        → ((skip p i (suc n) s).ended ≡ true)
        ⊎ (clocks_to_go p.ops (module_at p i) (skip p i (suc n) s) < clocks_to_go p.ops (module_at p i) s)
    by_number zero goes = one zero goes
    by_number (suc n) goes =
        let last = one (suc n) goes in
        let first = by_number n (λ j l. goes j (omega arith)) in
        let alive = lives p i (skip p i (suc n) s) (goes (suc n) (omega arith)) in
        elim first [
          | inl over ↦ absurd (both_ways (skip p i (suc n) s).ended alive.0 over)
          | inr less ↦ elim last [ inl over ↦ inl over | inr more ↦ inr (omega arith) ]
        ]

to_end_of : (x : Path) (p : Plan) (m : Module) → x.of ≡ m → x.limit ≡ p.ops → (after_move x).ended ≡ false
    → clocks_to_end x ≡ clocks_to_go p.ops m (after_move x) + 1
to_end_of x p m of limit alive =
    ap (λ (m : Module). end_by x.limit m (after_move x)) of
    ∙ (ap (λ (n : ℕ). end_by n m (after_move x)) limit ∙ cond-false (after_move x).ended 0 _ alive)

pub end_nearer : (p : Plan) (i : ℕ) (x y : Path) (n : ℕ) → IsPathOf p i x → IsFixed x y
    → ((j : ℕ) → j < suc n → rests p i (skip p i j (after_move x)) ≡ false) → after_move y ≡ skip p i (suc n) (after_move x)
    → clocks_to_end y < clocks_to_end x
end_nearer p i x y n b f goes moved =
    let s = after_move x in
    let alive = lives p i s (goes 0 (omega arith)) in
    let before = to_end_of x p (module_at p i) b.of b.limit alive.0 in
    elim (cases_Bool (after_move y).ended) [
      | inl over ↦
          let none : clocks_to_end y ≡ 0 = cond-true (after_move y).ended 0 _ over in
          omega arith
      | inr on ↦
          let after = to_end_of y p (module_at p i) (f.of ∙ b.of) (f.limit ∙ b.limit) on in
          let same : clocks_to_go p.ops (module_at p i) (after_move y) ≡ clocks_to_go p.ops (module_at p i) (skip p i (suc n) s) =
          ap (clocks_to_go p.ops (module_at p i)) moved in
          elim (skip_falls p b.fits i b.owner s x.since (record { state = b.state; time = b.time }) n goes) [
            | inl over ↦ absurd (both_ways (after_move y).ended on (ap (λ (z : ModuleState). z.ended) moved ∙ over))
            | inr less ↦ omega arith
          ]
    ]

-- what was asked is what the module asks
pub asked_same : (p : Plan) (i : ℕ) (x : Path) → IsPathOf p i x → HasAsked x → map request_from x.asked ≡ requests_of p (i, x.state)
asked_same p i x b h = h p.design.channels b.codes ∙ ap (λ (m : Module). requests p.design.channels m x.state) b.of

-- a state that isn't over and asks nothing doesn't rest
pub asks_nothing : (p : Plan) (i : ℕ) (s : ModuleState) → is_over p.ops s ≡ false → requests_of p (i, s) ≡ [] → rests p i s ≡ false
asks_nothing p i s alive none = or_from (is_over p.ops s) _ alive (ap is_some_request none)

-- what is alive at a path that has begun
pub begun_alive : (limit : ℕ) (s : ModuleState) → is_over limit s ≡ false → (s.ended ≡ false) × (s.count < limit)
begun_alive limit s h = (not_ended limit s h, below_limit limit s h)
