-- The clock of the verdict is at most the cycle limit.
use Rattle.std.proofs.Common.{◌≡◌, ℕ, zero, suc, ◌+◌, ◌≤◌, ◌<◌, Bool, true, false, refl, arith, Option, Some, None}
use Rattle.std.proofs.lemmas.Option.{same_Some}
use Rattle.timelines.specs.{Plan, ClockState, clock_of, state, clock_step, is_settled, first_settled, verdict_at, verdict, last_clock}
use Rattle.lockstep_defs.proofs.Exits.{clock_settled}

found_below : (p : Plan) (n clock : ℕ) (st : ClockState) (c : ℕ) → first_settled p n clock st ≡ Some c → c < clock + n
unfolding first_settled
found_below p zero clock st c e = cc
found_below p (suc n) clock st c e =
    by_test (is_settled p clock st) e (λ f. found_below p n (suc clock) (clock_step p clock st) c f)
  where
    by_test : (b : Bool) → elim b [ true ↦ Some clock | false ↦ first_settled p n (suc clock) (clock_step p clock st) ] ≡ Some c
        → (first_settled p n (suc clock) (clock_step p clock st) ≡ Some c → c < suc clock + n) → c < clock + suc n
    by_test true f later = let same = same_Some clock c f in omega arith
    by_test false f later = omega (arith, later f)

by_found : (p : Plan) (o : Option ℕ) → ((c : ℕ) → o ≡ Some c → c < 0 + suc p.cycles) → clock_of (verdict_at p o) ≤ p.cycles
by_found p None h = omega arith
by_found p (Some c) h = omega (arith, clock_settled p c (state p c), h c refl)

pub last_within : (p : Plan) → last_clock p ≤ p.cycles
unfolding verdict
last_within p = by_found p (first_settled p (suc p.cycles) 0 (state p 0)) (found_below p (suc p.cycles) 0 (state p 0))
