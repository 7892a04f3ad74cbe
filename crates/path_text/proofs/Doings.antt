-- What a module does in a clock, and whether it moves.
use Rattle.std.proofs.Common.{◌||◌, List, [], ◌∷◌, ◌≡◌, ℕ, suc, ◌<◌, Bool, true, false, not, ◌&&◌, cond, Option, Some, None, refl, sym, ◌∙◌}
use Rattle.std.proofs.Common.{ap, arith, inl, inr, length}
use Rattle.std.proofs.{lemmas.Bool.cases_lt, lemmas.List.get_or_past}
use Rattle.std.specs.{Prelude.find, Prelude.option_map, List.list_any}
use Rattle.path_text.specs.{Port, Plan, Request, is_over, nobody, stalls, moves, requests_of, state, state_at, Doing, doing, doing_by}
use Rattle.path_text.specs.{moves_at, request_port, stands_at}
use Rattle.lockstep_defs.proofs.Agrees.{all_modules}
use Rattle.timelines.specs.declared.span.Doing.TheVariants.{Moves, Still}
use Rattle.timelines.proofs.Existing.{nobody_over, none_stays}
use Rattle.depth_order.proofs.Chained.{find_any}

any_found : {X : Type 0} (P : X → Bool) (xs : List X) (x : X) → find P xs ≡ Some x → list_any P xs ≡ true
any_found P [] x e = absurd (cc)
any_found P (y ∷ xs) x e = by_test (P y) refl (any_found P xs x) e
  where
    by_test : (b : Bool) → P y ≡ b → (find P xs ≡ Some x → list_any P xs ≡ true) → cond b (Some y) (find P xs) ≡ Some x
        → (P y || list_any P xs) ≡ true
    by_test true at rest e = rw at refl
    by_test false at rest e = rw at (rest e)

moving_by : (over : Bool) (o : Option Request) (any : Bool) → (o ≡ None → any ≡ false) → cond over None (Some (doing_by o)) ≡ Some Moves
    → (not over && not any) ≡ true
moving_by true o any h e = absurd (cc)
moving_by false None any h e = rw (h refl) refl
moving_by false (Some r) any h e = absurd (cc)

pub doing_moves : (p : Plan) (c m : ℕ) → doing p c m ≡ Some Moves → moves_at p c m ≡ true
unfolding doing moves
doing_moves p c m e =
    moving_by (is_over p.ops (state_at p c m)) (find (stalls p c (state p c).contents) (requests_of p (m, state_at p c m)))
    (list_any (stalls p c (state p c).contents) (requests_of p (m, state_at p c m)))
    (find_any (stalls p c (state p c).contents) (requests_of p (m, state_at p c m))) e

moved_by : (over : Bool) (o : Option Request) (any : Bool) → ((r : Request) → o ≡ Some r → any ≡ true) → (not over && not any) ≡ true
    → cond over None (Some (doing_by o)) ≡ Some Moves
moved_by true o any h e = absurd (cc)
moved_by false None any h e = refl
moved_by false (Some r) any h e = let found = h r refl in absurd (cc)

pub moves_doing : (p : Plan) (c m : ℕ) → moves_at p c m ≡ true → doing p c m ≡ Some Moves
unfolding doing moves
moves_doing p c m e =
    moved_by (is_over p.ops (state_at p c m)) (find (stalls p c (state p c).contents) (requests_of p (m, state_at p c m)))
    (list_any (stalls p c (state p c).contents) (requests_of p (m, state_at p c m)))
    (any_found (stalls p c (state p c).contents) (requests_of p (m, state_at p c m))) e

still_by : (over : Bool) (o : Option Request) (a : Port) → cond over None (Some (doing_by o)) ≡ Some (Still a)
    → option_map request_port o ≡ Some a
still_by true o a e = absurd (cc)
still_by false None a e = absurd (cc)
still_by false (Some r) a e = let same : Still (request_port r) ≡ Still a = cc in let port : request_port r ≡ a = cc in ap Some port

pub doing_stands : (p : Plan) (c m : ℕ) (a : Port) → doing p c m ≡ Some (Still a) → stands_at p c m ≡ Some a
unfolding doing
doing_stands p c m a e =
    still_by (is_over p.ops (state_at p c m)) (find (stalls p c (state p c).contents) (requests_of p (m, state_at p c m))) a e

-- a module that moves in the next clock and not in this one stands still in this one
pub still_before : (p : Plan) (b m : ℕ) → moves_at p (suc b) m ≡ true → moves_at p b m ≡ false → (a : Port) × (doing p b m ≡ Some (Still a))
still_before p b m move still = by_doing (doing p b m) refl
  where
    by_doing : (o : Option Doing) → doing p b m ≡ o → (a : Port) × (o ≡ Some (Still a))
    by_doing None e = let none = sym (moves_doing p (suc b) m move) ∙ none_stays p b m e in absurd (cc)
    by_doing (Some Moves) e = let moved = doing_moves p b m e in absurd (cc)
    by_doing (Some (Still a)) e = (a, refl)

-- and only a module of the plan moves
pub mover_inside : (p : Plan) (c m : ℕ) → moves_at p c m ≡ true → m < length p.design.modules
unfolding moves
mover_inside p c m e = elim (cases_lt m (length p.design.modules)) [
  | inl l ↦ l
  | inr l ↦
      let past = get_or_past (state p c).modules m nobody (omega (arith, all_modules p c)) in
      let over = ap (is_over p.ops) past ∙ nobody_over p.ops in
      let no_move = ap (λ (b : Bool). not b && not (list_any (stalls p c (state p c).contents) (requests_of p (m, state_at p c m)))) over in
      absurd (cc)
]
