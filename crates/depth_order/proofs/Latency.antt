-- A plan without queries with any depths ends only after a clock that no depths make earlier.
use Rattle.std.proofs.Common.{◌≡◌, ℕ, suc, ◌+◌, ◌-◌, ◌≤◌, true, List, sym, ◌∙◌, ap, subst, arith, inl, inr}
use Rattle.std.proofs.lemmas.Bool.{cases_lt}
use Rattle.depth_order.specs.{Plan, ModuleState, FitsEngine, state_at, verdict, Design, IsDesign, IsHistory, design, lockstep_run, start_in}
use Rattle.depth_order.specs.{with_depths, AreDepths, AsksNothing, IsSoonest}
use Rattle.flow_design.specs.declared.report.Verdict.TheVariants.{Done}
use Rattle.event_timing.proofs.Standing.{moves_lives}
use Rattle.timing_bridge.proofs.History.{plan_is_design, run_is_history}
use Rattle.depth_order.proofs.{Plans.depths_fit, Ahead.with_start, Same.made_mono, Same.made_reached, Same.always_alike, Bound.no_further}
use Rattle.depth_order.proofs.Order.{no_queries, same_design, same_elements, over_stays, over_of, done_ended}
use Rattle.event_timing.specs.Histories as counted

pub no_earlier_end : (p : Plan) → FitsEngine p → AsksNothing p → (m t : ℕ) → IsSoonest (design p) (lockstep_run p) m t
    → counted.can_move (design p) (lockstep_run p) t m ≡ true → (ds : List ℕ) → AreDepths p ds → (clock : ℕ)
    → verdict (with_depths p ds) ≡ Done clock → suc t ≤ clock
no_earlier_end p h none m t early move ds a clock e = elim (cases_lt t clock) [
  | inl l ↦ l
  | inr l ↦
      let q = with_depths p ds in
      let d = design p in
      let w = lockstep_run p in
      let start = start_in q in
      let fits = depths_fit p h ds a in
      let same = same_design p ds in
      let j = subst (λ (x : Design ModuleState). IsDesign x) same (plan_is_design q fits) in
      let y = subst (λ (x : Design ModuleState). IsHistory x (lockstep_run q)) same (run_is_history q fits) in
      let i = plan_is_design p h in
      let x = run_is_history p h in
      let asks = no_queries p h none in
      let few = no_further d start w (lockstep_run q) i j (same_elements p ds) asks x y m t early in
      let up = made_mono (with_start d start) (lockstep_run q) m clock t l in
      let r = made_reached d w m _ t (omega (arith, few, up)) in
      let before = r.early in
      let alike = always_alike d start w (lockstep_run q) i j asks x y m r.clock clock r.count in
      let ended : (state_at p r.clock m).ended ≡ true =
      sym (ap (λ (s : ModuleState). s.ended) alike.state) ∙ (done_ended q clock e).1 m in
      let at : (t - r.clock) + r.clock ≡ t = omega arith in
      let late = rw at at (over_stays p h m r.clock (t - r.clock) ended) in
      let over = over_of p.ops (state_at p t m) late in
      let lives = moves_lives d w t m move in
      absurd (cc)
]
