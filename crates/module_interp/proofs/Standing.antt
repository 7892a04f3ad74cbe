-- Where a run stands, and its marks.
use Rattle.std.proofs.Common.{◌≡◌, ℕ, ◌<◌, inl, inr, true, false, List, [], ◌∷◌, map, length, refl, sym, ap, subst, arith, ◌∙◌}
use Rattle.std.proofs.lemmas.Bool.{or_left, or_right, or_parts, or_cases, cond-true, cond-false, both_ways}
use Rattle.std.proofs.lemmas.List.{length-map}
use Rattle.module_interp.specs.{Access, Plan, Advance, Request, ModuleState, is_over, is_spent, module_at, requests_of, Own, access_of}
use Rattle.module_interp.specs.{queries, rests, quiet, skip, is_some_request, IsStateOf, Path, done_in, accesses_at, mark_at, after_move}
use Rattle.module_interp.specs.{Exchange, request_from, HasAsked, LeadsTo, IsAtStep, IsAtEnd}
use Rattle.module_interp.specs.declared.path.Stage.TheVariants.{Begun, Asked}
use Rattle.flow_design.specs.declared.state.Advance.TheVariants.{Step, Ended, Spent}
use Rattle.module_interp.proofs.Keeping.{leads_still, at_stage, asked_same, begun_alive}
use Rattle.module_interp.proofs.{Rests.none_at_rest, Ways.has_begun}

-- ---- at a rest

pub record IsAtRest (p : Plan) (i : ℕ) (o : Own) (x : Path) : Type 0 where
  pub state : o.state ≡ x.state
  pub since : o.since ≡ x.since

pub at_rest : (p : Plan) (i : ℕ) (o : Own) (x : Path) → LeadsTo p i o x → after_move x ≡ x.state → rests p i x.state ≡ true
    → IsAtRest p i o x
at_rest p i o x l here rest =
    let b = l.path in
    let state : IsStateOf (module_at p i) x.state = subst (IsStateOf (module_at p i)) here b.state in
    let none : quiet p i x.state ≡ 0 = none_at_rest p b.fits i x.state state.control.goes rest in
    let none_too : quiet p i (after_move x) ≡ 0 = ap (quiet p i) here ∙ none in
    let since = l.since in
    record {
      state = l.rest ∙ (ap (λ (n : ℕ). skip p i n (after_move x)) none_too ∙ here);
      since = omega arith;
    }

pub some_asked : (xs : List Access) → 0 < length xs → is_some_request (map request_from xs) ≡ true
some_asked [] h = absurd (omega arith)
some_asked (a ∷ xs) h = refl

pub step_rest : (p : Plan) (i : ℕ) (o : Own) (x : Path) → LeadsTo p i o x → IsAtStep x → IsAtRest p i o x
step_rest p i o x l h =
    let b = l.path in
    let asked : requests_of p (i, x.state) ≡ map request_from x.asked = sym (asked_same p i x b h.asked) in
    at_rest p i o x l (at_stage x Begun h.begun)
    (or_right (is_over p.ops x.state) _ (ap is_some_request asked ∙ some_asked x.asked h.some))

pub end_rest : (p : Plan) (i : ℕ) (o : Own) (x : Path) → LeadsTo p i o x → IsAtEnd x → IsAtRest p i o x
end_rest p i o x l h =
    at_rest p i o x l (at_stage x Begun h.begun) (or_left (is_over p.ops x.state) _ (rw (← l.path.limit) h.over))

-- ---- marks

pub ended_mark : (p : Plan) (i : ℕ) (o : Own) (x : Path) → IsAtRest p i o x → x.state.ended ≡ true → Ended x.since ≡ mark_at p i o
ended_mark p i o x h over =
    let ended : o.state.ended ≡ true = ap (λ (s : ModuleState). s.ended) h.state ∙ over in
    ap Ended (sym h.since) ∙ sym (cond-true o.state.ended (Ended o.since) _ ended)

spent_is : (limit : ℕ) (s : ModuleState) → is_over limit s ≡ true → s.ended ≡ false → is_spent limit s ≡ true
unfolding is_over
spent_is limit s over alive = elim (or_cases s.ended (is_spent limit s) over) [
  | inl ended ↦ absurd (both_ways s.ended alive ended)
  | inr spent ↦ spent
]

pub spent_mark : (p : Plan) (i : ℕ) (o : Own) (x : Path) → LeadsTo p i o x → IsAtRest p i o x → x.state.ended ≡ false
    → is_over x.limit x.state ≡ true → Spent x.since ≡ mark_at p i o
spent_mark p i o x l h alive over =
    let ended : o.state.ended ≡ false = ap (λ (s : ModuleState). s.ended) h.state ∙ alive in
    let spent : is_spent p.ops o.state ≡ true = ap (is_spent p.ops) h.state ∙ spent_is p.ops x.state (rw (← l.path.limit) over) alive in
    ap Spent (sym h.since)
    ∙ (sym (cond-true (is_spent p.ops o.state) (Spent o.since) _ spent) ∙ sym (cond-false o.state.ended (Ended o.since) _ ended))

not_spent : (limit : ℕ) (s : ModuleState) → is_over limit s ≡ false → is_spent limit s ≡ false
unfolding is_over
not_spent limit s h = (or_parts s.ended (is_spent limit s) h).1

pub step_mark : (p : Plan) (i : ℕ) (o : Own) (x : Path) (accesses : List Access) (queries_so_far : ℕ) → LeadsTo p i o x → IsAtRest p i o x
    → is_over x.limit x.state ≡ false
    → accesses ≡ accesses_at p i o → queries_so_far ≡ length (queries (done_in o.steps))
    → Step (record { gap = x.since; accesses = accesses; first_query = queries_so_far }) ≡ mark_at p i o
step_mark p i o x accesses n l h alive same asks =
    let life = begun_alive x.limit x.state alive in
    let ended : o.state.ended ≡ false = ap (λ (s : ModuleState). s.ended) h.state ∙ life.0 in
    let spent : is_spent p.ops o.state ≡ false = ap (is_spent p.ops) h.state ∙ not_spent p.ops x.state (rw (← l.path.limit) alive) in
    let made : ℕ → List Access → ℕ → Advance = λ g xs k. Step (record { gap = g; accesses = xs; first_query = k }) in
    ap (λ (g : ℕ). made g accesses n) (sym h.since)
    ∙ (ap (λ (xs : List Access). made o.since xs n) same ∙ (ap (made o.since (accesses_at p i o)) asks
    ∙ (sym (cond-false (is_spent p.ops o.state) (Spent o.since) _ spent) ∙ sym (cond-false o.state.ended (Ended o.since) _ ended))))

-- ---- a step that was given

pub accesses_are : (p : Plan) (i : ℕ) (o : Own) (x : Path) (accesses : List Access) → LeadsTo p i o x → IsAtRest p i o x
    → HasAsked x → accesses ≡ map (access_of (done_in o.steps)) (map request_from x.asked) → accesses ≡ accesses_at p i o
accesses_are p i o x accesses l h asked are =
    let b = l.path in
    let same : map request_from x.asked ≡ requests_of p (i, o.state) = rw h.state (asked_same p i x b asked) in
    are ∙ ap (map (access_of (done_in o.steps))) same

-- accesses with their ordinals make the same requests
pub numbered : (before : List Exchange) (xs ys : List Access) → ys ≡ map (access_of before) (map request_from xs)
    → map request_from ys ≡ map request_from xs
numbered before xs ys are = ap (map request_from) are ∙ by xs
  where
    by : (xs : List Access) → map request_from (map (access_of before) (map request_from xs)) ≡ map request_from xs
    by [] = refl
    by (a ∷ as') = ap (λ (rs : List Request). request_from a ∷ rs) (by as')

pub asked_leads : (p : Plan) (i : ℕ) (o : Own) (x : Path) (accesses : List Access) → LeadsTo p i o x → IsAtStep x
    → map request_from accesses ≡ map request_from x.asked → LeadsTo p i o (record x { asked = accesses; stage = Asked })
asked_leads p i o x accesses l h same =
    let began = has_begun x (record { plan = p; number = i; is = l.path }) h.begun h.alive in
    let as_many = ap (λ (rs : List Request). length rs) same in
    let before = length-map x.asked request_from in
    let after = length-map accesses request_from in
    let some = h.some in
    leads_still p i o x (record x { asked = accesses; stage = Asked }) l
    (record { of = refl; limit = refl; codes = refl })
    (sym (at_stage x Begun h.begun)) refl
    (record {
      answer = record { state = began.sound; noted = h.noted; clock = began.clock; count = began.count };
      alive = h.alive;
      some = omega arith;
      asked = λ channels codes. same ∙ h.asked channels codes;
    })
