-- A module's own run, local clock by local clock, is the theory's own run: its steps come after the quiet clocks.
use Rattle.std.proofs.Common.{◌≡◌, ℕ, zero, suc, ◌+◌, ◌≤◌, ◌<◌, List, [], ◌∷◌, ◌++◌, length, get_or, true, false, refl, sym, ◌∙◌, ap, ap₂}
use Rattle.std.proofs.Common.{subst, arith, length-append, zero-add}
use Rattle.std.proofs.{lemmas.Bool.or_from, lemmas.Bool.or_right, lemmas.List.get_or-map}
use Rattle.std.proofs.lemmas.List.FromFn.{length-map-range_with_len, get_or-map-range_with_len}
use Rattle.timing_bridge.specs.{Plan, Reply, Request, FitsEngine, ModuleState, move, opened, nobody, is_over, Own, OwnStep, own_after}
use Rattle.timing_bridge.specs.{own_next, is_some_request, rests, quiet, fits, no_module, module_at, requests_of, after_skip, ready, own}
use Rattle.timing_bridge.specs.{core_reply, AreOwnMarks, design, told_all, move_in, AreTold, core_replies, clocks_of_steps, IsOwnStep}
use Rattle.timing_bridge.specs.{AreOwnSteps, HasComeTo}
use Rattle.lockstep_defs.proofs.Agrees.{own_suc, next_grows}
use Rattle.event_timing.specs.Core.{Core}
use Rattle.event_timing.proofs.OwnRuns.{own_0, own_more}
use Rattle.timing_bridge.proofs.Quiet.{goes, ready_rests, first_fits, next_fits}
use Rattle.lockstep_defs.specs.OwnRun as real
use Rattle.event_timing.specs.Machines as theory

steps_more : (p : Plan) (i : ℕ) (r : ℕ → List theory.Reply) (k n : ℕ) (ss : List OwnStep) (s : OwnStep) → k + length ss ≡ n
    → AreOwnSteps p i r k ss → IsOwnStep p i r n s → AreOwnSteps p i r k (ss ++ s ∷ [])
steps_more p i r k n [] s e h one = let z : k ≡ n = omega arith in (subst (λ (j : ℕ). IsOwnStep p i r j s) (sym z) one, tt)
steps_more p i r k n (x ∷ ss) s e h one = (h.0, steps_more p i r (suc k) n ss s (omega arith) h.1 one)

skip_fits : (p : Plan) → FitsEngine p → (i n : ℕ) (s : ModuleState) → fits p i s ≡ true → fits p i (after_skip (design p) i n s) ≡ true
skip_fits p h i zero s f = f
skip_fits p h i (suc n) s f = next_fits p h i (after_skip (design p) i n s) [] (skip_fits p h i n s f)

-- every state of an own run is one that the module comes to
own_fits : (p : Plan) → FitsEngine p → (i : ℕ) (r : ℕ → List theory.Reply) (k : ℕ) → fits p i (own (design p) i r k) ≡ true
own_fits p h i r zero = rw (own_0 (design p) i r) (first_fits p h i)
own_fits p h i r (suc k) =
    let s = own (design p) i r k in
    rw (own_more (design p) i r k)
    (next_fits p h i (ready (design p) i s) (r k) (skip_fits p h i (quiet p i s) s (own_fits p h i r k)))

-- ---- where it rests, the quiet clocks are over

at_rest : (p : Plan) (i n : ℕ) (s : ModuleState) → n ≤ quiet p i s → rests p i (after_skip (design p) i n s) ≡ true → n ≡ quiet p i s
at_rest p i n s l e = grind (arith, goes p i s n)

not_at_rest : (p : Plan) → FitsEngine p → (i n : ℕ) (s : ModuleState) → fits p i s ≡ true → n ≤ quiet p i s
    → rests p i (after_skip (design p) i n s) ≡ false → n < quiet p i s
not_at_rest p h i n s f l e = grind (arith, ready_rests p h i s f)

-- ---- one local clock

one_more : (p : Plan) → FitsEngine p → (i : ℕ) (r : ℕ → List theory.Reply) (replies : List (List Reply)) → AreTold p i r replies
    → (o : Own) (t : ℕ) → HasComeTo p i r o t → is_over p.ops o.state ≡ false → (rs : List Request) → requests_of p (i, o.state) ≡ rs
    → length (own_after (module_at p i) o rs (get_or replies (length o.steps) [])).steps ≤ length replies
    → (u : ℕ) × HasComeTo p i r (own_after (module_at p i) o rs (get_or replies (length o.steps) [])) u
one_more p h i r replies tells o t g lives [] e l =
    let s = own (design p) i r (length o.steps) in
    let none : rests p i o.state ≡ false = or_from _ _ lives (ap is_some_request e) in
    let less = not_at_rest p h i t s (own_fits p h i r (length o.steps)) g.within
    (subst (λ (z : ModuleState). rests p i z ≡ false) g.state_is none) in
    let since = g.since_is in (
      suc t,
      record {
        steps_are = g.steps_are;
        state_is = ap (λ (l : List Request). move (module_at p i) o.state (told_all l [])) (sym e)
            ∙ ap (λ (z : ModuleState). move_in p i z []) g.state_is;
        since_is = omega arith;
        within = omega arith;
      },
    )
one_more p h i r replies tells o t g lives (x ∷ rs) e l =
    let k = length o.steps in
    let s = own (design p) i r k in
    let some : rests p i o.state ≡ true = or_right (is_over p.ops o.state) _ (ap is_some_request e) in
    let at = at_rest p i t s g.within (subst (λ (z : ModuleState). rests p i z ≡ true) g.state_is some) in
    let here : o.state ≡ ready (design p) i s = g.state_is ∙ ap (λ (n : ℕ). after_skip (design p) i n s) at in
    let step : OwnStep = record { gap = o.since; requests = x ∷ rs; replies = get_or replies k [] } in
    let since = g.since_is in
    let one : IsOwnStep p i r k step = record {
      gap = omega arith;
      requests = sym e ∙ ap (λ (z : ModuleState). requests_of p (i, z)) here;
    } in
    let n : length (o.steps ++ step ∷ []) ≡ suc k = omega (arith, length-append o.steps (step ∷ [])) in
    let moved : move (module_at p i) o.state (get_or replies k []) ≡ own (design p) i r (suc k) =
    ap₂ (λ (z : ModuleState) (qs : List Reply). move (module_at p i) z qs) here (sym (tells k (omega arith)))
    ∙ sym (own_more (design p) i r k) in (
      0,
      record {
        steps_are = steps_more p i r 0 k o.steps step (zero-add k) g.steps_are one;
        state_is = moved ∙ ap (own (design p) i r) (sym n);
        since_is = ap (λ (j : ℕ). clocks_of_steps j + 0) (sym n);
        within = omega arith;
      },
    )

next_is : (p : Plan) → FitsEngine p → (i : ℕ) (r : ℕ → List theory.Reply) (replies : List (List Reply)) → AreTold p i r replies
    → (o : Own) (t : ℕ) → HasComeTo p i r o t
    → length (own_next p i replies o).steps ≤ length replies → (u : ℕ) × HasComeTo p i r (own_next p i replies o) u
unfolding own_next
next_is p h i r replies tells o t g l =
    grind (arith, one_more p h i r replies tells o t g, requests_of p (i, o.state))

-- ---- the whole run

first_is : (p : Plan) → (i : ℕ) → i < length p.design.modules → (r : ℕ → List theory.Reply) (replies : List (List Reply))
    → HasComeTo p i r (real.own_run p i replies 0) 0
unfolding real.own_run
first_is p i inside r replies = record {
  steps_are = tt;
  state_is = sym (own_0 (design p) i r ∙ get_or-map opened p.design.modules i no_module nobody inside);
  since_is = refl;
  within = omega arith;
}

pub own_is : (p : Plan) → FitsEngine p → (i : ℕ) → i < length p.design.modules → (r : ℕ → List theory.Reply) (replies : List (List Reply))
    → AreTold p i r replies → (n : ℕ)
    → length (real.own_run p i replies n).steps ≤ length replies → (clocks : ℕ) × HasComeTo p i r (real.own_run p i replies n) clocks
own_is p h i inside r replies tells zero l = (0, first_is p i inside r replies)
own_is p h i inside r replies tells (suc n) l =
    let o = real.own_run p i replies n in
    let more : length (own_next p i replies o).steps ≤ length replies =
    subst (λ (z : Own). length z.steps ≤ length replies) (own_suc p i replies n) l in
    let (t, g) = own_is p h i inside r replies tells n (omega (arith, next_grows p i replies o)) in
    let (u, z) = next_is p h i r replies tells o t g more in
    (u, subst (λ (w : Own). HasComeTo p i r w u) (sym (own_suc p i replies n)) z)

-- what a core tells a module of emitted steps
pub told_by_core : (p : Plan) (x : Core ModuleState) → AreOwnMarks (design p) x → (i n : ℕ) → n ≤ x.emitted i
    → AreTold p i (core_reply (design p) x i) (core_replies p x i n)
told_by_core p x b i n l k inside =
    let tell = λ (j : ℕ). told_all (requests_of p (i, x.state i j)) (core_reply (design p) x i j) in
    let below : k < n = omega (arith, length-map-range_with_len tell 0 n) in
    ap (λ (s : ModuleState). told_all (requests_of p (i, s)) (core_reply (design p) x i k)) (sym (b.own_step i k (omega arith)))
    ∙ sym (get_or-map-range_with_len tell 0 n k k [] below (zero-add k))
