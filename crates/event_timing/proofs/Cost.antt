-- How many cycles a list of actions gives.
use Rattle.std.proofs.lemmas.Bool.Decides.{nat_tests}
use Rattle.std.proofs.Common.{◌≡◌, ℕ, suc, ◌+◌, ◌-◌, ◌≤◌, cond, ◌⊎◌, List, [], ◌∷◌, arith, eqb}
use Rattle.event_timing.specs.{Design, IsDesign, Trace, IsHistory, IsAgreed, Action, ActsAll, IsSame, put, after_run, after_answer, assigns}
use Rattle.event_timing.specs.{edited, kept, after_edit, Core.Core}
use Rattle.event_timing.proofs.{Editing.kept_le, Agreement.all_agree}

run_timed : {S : Type 0} → (d : Design S) (x : Core S) (n m : ℕ) → (after_run d x n).timed m ≡ x.timed m
run_timed {S} d x n m = grind arith

answer_timed : {S : Type 0} → (d : Design S) (x z : Core S) (n c m : ℕ)
    → (IsSame d x n c × (z ≡ after_answer d x n c)) ⊎ ((IsSame d x n c → ⊥) × (z ≡ x)) → z.timed m ≡ x.timed m
answer_timed {S} d x z n c m e = grind arith

assign_timed : (f : ℕ → ℕ) (n m : ℕ) → put f n (suc (f n)) m ≡ cond (eqb m n) 1 0 + f m
assign_timed f n m = grind (arith, nat_tests)

-- each Assign of a module gives one of its steps a cycle, and nothing else does
pub cycles_given : {S : Type 0} → (d : Design S) (limit : ℕ) (x : Core S) (actions : List Action) (y : Core S)
    → ActsAll d limit x actions y → (m : ℕ) → assigns m actions + x.timed m ≡ y.timed m
cycles_given {S} d limit x [] y e m = grind arith
cycles_given {S} d limit x (Action.Run n ∷ more) y (w, (r, e), t) m =
    grind (arith, cycles_given d limit w more y t m, run_timed d x n m)
cycles_given {S} d limit x (Action.Assign n ∷ more) y (w, (c, r, e), t) m =
    grind (arith, cycles_given d limit w more y t m, assign_timed x.timed n m)
cycles_given {S} d limit x (Action.Answer n ∷ more) y (w, (c, r, e), t) m =
    grind (arith, cycles_given d limit w more y t m, answer_timed d x w n c m e)
cycles_given {S} d limit x (Action.Earliest n ∷ more) y (w, (c, r, e), t) m =
    grind (arith, cycles_given d limit w more y t m, answer_timed d x w n c m e)

-- after an edit these are no more than the steps that had no cycle, those whose cycle was forgotten, and those emitted meanwhile
pub edit_cost : {S : Type 0} → (d : Design S) (g : Trace S) (fifo depth t limit : ℕ) (x : Core S) → IsDesign (edited d fifo depth)
    → IsHistory (edited d fifo depth) g → IsAgreed (edited d fifo depth) g limit (after_edit d x t)
    → (actions : List Action) (y : Core S) → ActsAll (edited d fifo depth) limit (after_edit d x t) actions y → (m : ℕ)
    → x.timed m ≤ x.emitted m
    → assigns m actions ≤ (x.emitted m - x.timed m) + (x.timed m - kept (x.cycle m) t (x.timed m)) + (y.emitted m - x.emitted m)
edit_cost {S} d g fifo depth t limit x i z a actions y s m l =
    let b = all_agree (edited d fifo depth) g i z limit (after_edit d x t) a actions y s in
    omega (
      arith,
      cycles_given (edited d fifo depth) limit (after_edit d x t) actions y s m,
      kept_le (x.cycle m) t (x.timed m),
      b.time.within m,
    )
