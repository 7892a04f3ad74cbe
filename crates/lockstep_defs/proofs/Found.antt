-- The verdict is that of the first settled clock.
use Rattle.std.proofs.Common.{◌≡◌, ℕ, zero, suc, ◌+◌, ◌≤◌, ◌<◌, true, false, ap, arith, refl, Some, None}
use Rattle.lockstep_defs.specs.{Plan, ClockState, clock_step, state, NoneBefore, is_settled, first_settled, settled_verdict, verdict_at}
use Rattle.lockstep_defs.specs.{verdict}
use Rattle.flow_design.specs.declared.report.Verdict.TheVariants.{Cycles}
use Rattle.lockstep_defs.proofs.Settled.{state-suc}

here : (p : Plan) (n c : ℕ) (st : ClockState) → is_settled p c st ≡ true → first_settled p (suc n) c st ≡ Some c
unfolding first_settled
here p n c st h = rw (h, first_settled)

later : (p : Plan) (n c : ℕ) (st : ClockState) → is_settled p c st ≡ false
    → first_settled p (suc n) c st ≡ first_settled p n (suc c) (clock_step p c st)
unfolding first_settled
later p n c st h = rw (h, first_settled)

-- from a clock s on, the first settled clock is c
found_from : (p : Plan) (k n s c : ℕ) → s + k ≡ c → k < n → NoneBefore p c → is_settled p c (state p c) ≡ true
    → first_settled p n s (state p s) ≡ Some c
found_from p k zero s c e l none h = absurd (omega arith)
found_from p zero (suc n) s c e l none h =
    let same : s ≡ c = omega arith in
    rw same (here p n c (state p c) h)
found_from p (suc k) (suc n) s c e l none h =
    rw (later p n s (state p s) (none s (omega arith)), ← state-suc)
    (found_from p k n (suc s) c (omega arith) (omega arith) none h)

missing_from : (p : Plan) (n s c : ℕ) → s + n ≡ c → NoneBefore p c → first_settled p n s (state p s) ≡ None
missing_from p zero s c e none = unfold first_settled in refl
missing_from p (suc n) s c e none =
    rw (later p n s (state p s) (none s (omega arith)), ← state-suc) (missing_from p n (suc s) c (omega arith) none)

pub verdict_found : (p : Plan) (c : ℕ) → c ≤ p.cycles → NoneBefore p c → is_settled p c (state p c) ≡ true
    → verdict p ≡ settled_verdict p c (state p c)
unfolding verdict
verdict_found p c l none h = ap (verdict_at p) (found_from p c (suc p.cycles) 0 c (omega arith) (omega arith) none h)

pub verdict_none : (p : Plan) → NoneBefore p (suc p.cycles) → verdict p ≡ Cycles p.cycles
unfolding verdict
verdict_none p none = ap (verdict_at p) (missing_from p (suc p.cycles) 0 (suc p.cycles) (omega arith) none)
