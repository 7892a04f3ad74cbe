-- Where no operation is a query, no outcome is told.
use Rattle.std.proofs.Common.{◌≡◌, ℕ, zero, suc, ◌<◌, List, [], ◌∷◌, ◌++◌, map, length, Bool, true, false, cond, refl, ap, ap₂, ◌∙◌, arith}
use Rattle.std.proofs.lemmas.List.Concat.{flat_map-append}
use Rattle.std.proofs.lemmas.List.FromFn.{length-map-range_with_len, get_or-map-range_with_len}
use Rattle.std.specs.Prelude.{All}
use Rattle.depth_order.specs.{Plan, Element, FitsEngine, Request, Exchange, is_yes, requests_of, moves, answered, step_with, module_step}
use Rattle.depth_order.specs.{state, state_at, history, steps_of, queries, outcomes, answers_in, report, Each, design, seen_request}
use Rattle.depth_order.specs.{AsksNothing}
use Rattle.lockstep_defs.proofs.{Settled.history-zero, Agrees.steps_of-suc}
use Rattle.depth_order.proofs.{Ahead.NoQueries, Order.no_queries}

-- ---- one step

none_asked : (p : Plan) (c : ℕ) (contents : List (List Element)) (rs : List Request) → Each (λ a. a.blocks ≡ true) (map seen_request rs)
    → queries (map (answered p c contents) rs) ≡ []
none_asked p c contents [] h = refl
none_asked p c contents (r ∷ rs) h = rw h.0 (none_asked p c contents rs h.1)

none_told : (c i : ℕ) (xs : List Exchange) → queries xs ≡ [] → outcomes (step_with c i xs) ≡ []
none_told c i [] e = refl
none_told c i (x ∷ xs) e = ap (λ (ys : List Exchange). map (λ x. is_yes x.reply) ys ++ []) e

silent_step : (p : Plan) → NoQueries (design p) → (c i : ℕ) → outcomes (module_step p c (state p c).contents (i, state_at p c i)) ≡ []
silent_step p none c i = by_test (moves p c (state p c).contents (i, state_at p c i))
  where
    by_test : (b : Bool)
        → outcomes (cond b (step_with c i (map (answered p c (state p c).contents) (requests_of p (i, state_at p c i)))) []) ≡ []
    by_test true =
        none_told c i (map (answered p c (state p c).contents) (requests_of p (i, state_at p c i)))
        (none_asked p c (state p c).contents (requests_of p (i, state_at p c i)) (none i (state_at p c i)))
    by_test false = refl

-- ---- all steps

silent : (p : Plan) → NoQueries (design p) → (i : ℕ) → i < length p.design.modules → (c : ℕ) → outcomes (steps_of i (history p c)) ≡ []
silent p none i l zero = rw history-zero refl
silent p none i l (suc c) =
    ap outcomes (steps_of-suc p c i l)
    ∙ (flat_map-append _ (steps_of i (history p c)) (module_step p c (state p c).contents (i, state_at p c i))
    ∙ ap₂ (λ (a b : List Bool). a ++ b) (silent p none i l c) (silent_step p none c i))

silent_answers : (p : Plan) → NoQueries (design p) → (c : ℕ) → All (λ (os : List Bool). os ≡ []) (answers_in p (history p c))
silent_answers p none c k d l =
    let inside : k < length p.design.modules =
    omega (arith, length-map-range_with_len (λ i. outcomes (steps_of i (history p c))) 0 (length p.design.modules)) in
    get_or-map-range_with_len (λ i. outcomes (steps_of i (history p c))) 0 (length p.design.modules) k k d inside (omega arith)
    ∙ silent p none k inside c

pub no_answers : (p : Plan) → FitsEngine p → AsksNothing p → All (λ (os : List Bool). os ≡ []) (report p).answers
unfolding report
no_answers p h none = silent_answers p (no_queries p h none) _
