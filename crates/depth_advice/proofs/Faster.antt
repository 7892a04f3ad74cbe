-- The widest depths are the fastest, and so are the advised ones.
use Rattle.std.specs.Prelude.{◌≢◌}
use Rattle.std.proofs.Common.{◌≡◌, ℕ, ◌∙◌, sym, ap, subst, arith, List, refl}
use Rattle.flow_design.specs.declared.limits.TheConstants.{FIFO_DEPTH}
use Rattle.flow_design.specs.declared.report.Verdict.TheVariants.{Done, Deadlock, Cycles, Ops}
use Rattle.depth_advice.specs.{Plan, Report, Verdict, FitsEngine, verdict, report, with_depths, AreDepths, AreDeeper, AsksNothing, IsDoneBy}
use Rattle.depth_advice.specs.{wide, advised, AreFastest, IsNeverDone}
use Rattle.depth_order.proofs.Order.{never_slower}
use Rattle.depth_advice.proofs.Depths.{wide_depths, fifo_entry, never_blocks}

-- no depths are greater than the widest
widest : (p : Plan) (ds : List ℕ) → AreDepths p ds → AreDeeper p ds (wide p).depths
widest p ds a f e = let most = a.most f e in let deep = fifo_entry p (λ g. FIFO_DEPTH) f e in omega arith

pub wide_fastest : (p : Plan) → FitsEngine p → AsksNothing p → AreFastest p (wide p).depths
wide_fastest p h none ds a = never_slower p h none ds (wide p).depths a (wide_depths p) (widest p ds a)

verdict_told : (p : Plan) → (report p).verdict ≡ verdict p
unfolding report
verdict_told p = refl

pub advised_fastest : (p : Plan) → FitsEngine p → AsksNothing p → AreFastest p (advised p)
advised_fastest p h none ds a clock e =
    let same = sym (verdict_told (wide p))
    ∙ (ap (λ (r : Report). r.verdict) (sym (never_blocks p h)) ∙ verdict_told (with_depths p (advised p))) in
    subst (IsDoneBy clock) same (wide_fastest p h none ds a clock e)

-- an end in this clock or before is an end
ended_when : (clock : ℕ) (v : Verdict) → IsDoneBy clock v → (c : ℕ) × (v ≡ Done c)
ended_when clock (Done c) l = (c, refl)
ended_when clock (Deadlock c) l = absurd l
ended_when clock (Cycles c) l = absurd l
ended_when clock (Ops c) l = absurd l

pub never_done : (p : Plan) → FitsEngine p → AsksNothing p → ((clock : ℕ) → verdict (with_depths p (advised p)) ≢ Done clock)
    → IsNeverDone p
never_done p h none stays ds a clock e =
    let (c, done) = ended_when clock (verdict (with_depths p (advised p))) (advised_fastest p h none ds a clock e) in
    stays c done
