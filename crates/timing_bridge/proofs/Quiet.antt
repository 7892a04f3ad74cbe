-- The quiet clocks of a module are those that the theory wants.
use Rattle.std.proofs.Common.{◌≡◌, ℕ, zero, suc, ◌≤◌, ◌<◌, List, [], ◌∷◌, map, length, Bool, true, false, ◌||◌, refl, ◌∙◌, ap, arith}
use Rattle.std.proofs.{lemmas.Bool.or_parts, lemmas.List.get_or-map, lemmas.List.get_or_past, lemmas.List.length-map}
use Rattle.timing_bridge.specs.{Plan, Request, Reply, FitsEngine, ModuleState, opened, move, nobody, is_over, no_module, module_at}
use Rattle.timing_bridge.specs.{requests_of, is_some_request, rests, quiet, fits, after_skip, ready, is_some_access, design, seen_request}
use Rattle.timing_bridge.specs.{told_all, due_accesses, move_in}
use Rattle.lockstep_defs.proofs.Resting.{fits_opened, fits_move, quiet_goes, quiet_rests}
use Rattle.lockstep_defs.specs.Quiet as real
use Rattle.event_timing.specs.Machines as theory

-- ---- quiet clocks

pub told_none : (rs : List Request) → told_all rs [] ≡ []
told_none [] = refl
told_none (r ∷ rs) = refl

pub skip_same : (p : Plan) (i n : ℕ) (s : ModuleState) → after_skip (design p) i n s ≡ real.skip p i n s
skip_same p i zero s = refl
skip_same p i (suc n) s =
    ap (λ (replies : List Reply). move (module_at p i) (after_skip (design p) i n s) replies)
    (told_none (requests_of p (i, after_skip (design p) i n s)))
    ∙ ap (λ (t : ModuleState). move (module_at p i) t []) (skip_same p i n s)

-- where a request is, an access is
pub asks_same : (rs : List Request) → is_some_access (map seen_request rs) ≡ is_some_request rs
asks_same rs = grind arith

none_asked : (rs : List Request) → is_some_request rs ≡ false → map seen_request rs ≡ []
none_asked rs h = grind arith

pub goes : (p : Plan) (i : ℕ) (s : ModuleState) (n : ℕ) → n < quiet p i s → rests p i (after_skip (design p) i n s) ≡ false
goes p i s n l = ap (rests p i) (skip_same p i n s) ∙ quiet_goes p i s n l

pub quiet_lives : (p : Plan) (i : ℕ) (s : ModuleState) (n : ℕ) → n < quiet p i s → is_over p.ops (after_skip (design p) i n s) ≡ false
quiet_lives p i s n l = (or_parts (is_over p.ops (after_skip (design p) i n s)) _ (goes p i s n l)).0

pub quiet_idle : (p : Plan) (i : ℕ) (s : ModuleState) (n : ℕ) → n < quiet p i s → due_accesses p i (after_skip (design p) i n s) ≡ []
quiet_idle p i s n l =
    none_asked (requests_of p (i, after_skip (design p) i n s))
    (or_parts (is_over p.ops (after_skip (design p) i n s)) _ (goes p i s n l)).1

pub ready_rests : (p : Plan) → FitsEngine p → (i : ℕ) (s : ModuleState) → fits p i s ≡ true → rests p i (ready (design p) i s) ≡ true
ready_rests p h i s f = ap (rests p i) (skip_same p i (quiet p i s) s) ∙ quiet_rests p h i s f

pub second_of : (a b : Bool) → (a || b) ≡ true → a ≡ false → b ≡ true
second_of a b h e = grind arith

pub quiet_ends : (p : Plan) → FitsEngine p → (i : ℕ) (s : ModuleState) → fits p i s ≡ true → is_over p.ops (ready (design p) i s) ≡ false
    → is_some_access (due_accesses p i (ready (design p) i s)) ≡ true
quiet_ends p h i s f e =
    asks_same (requests_of p (i, ready (design p) i s)) ∙ second_of (is_over p.ops (ready (design p) i s)) _ (ready_rests p h i s f) e

-- ---- numbers that name no module

pub nobody_over : (p : Plan) → is_over p.ops nobody ≡ true
unfolding is_over
nobody_over p = refl

pub nobody_quiet : (p : Plan) (i : ℕ) → quiet p i nobody ≡ 0
nobody_quiet p i = grind (arith, quiet_goes p i nobody 0, nobody_over p)

pub opening_past : (p : Plan) (i : ℕ) → length p.design.modules ≤ i → (design p).opening i ≡ nobody
opening_past p i l = get_or_past (map opened p.design.modules) i nobody (omega (arith, length-map p.design.modules opened))

pub outside_over : (p : Plan) (i : ℕ) → length p.design.modules ≤ i → is_over p.ops (ready (design p) i ((design p).opening i)) ≡ true
outside_over p i l = rw (opening_past p i l, nobody_quiet p i) (nobody_over p)

-- ---- the states that a module comes to

pub first_fits : (p : Plan) → FitsEngine p → (i : ℕ) → fits p i ((design p).opening i) ≡ true
first_fits p h i = grind (arith, get_or-map opened p.design.modules i no_module nobody, fits_opened p h i, opening_past p i)

pub next_fits : (p : Plan) → FitsEngine p → (i : ℕ) (s : ModuleState) (replies : List theory.Reply) → fits p i s ≡ true
    → fits p i (move_in p i s replies) ≡ true
next_fits p h i s replies f = fits_move p h i s (told_all (requests_of p (i, s)) replies) f
