-- A plan without queries with other depths ends only after the clocks of a path of waits.
use Rattle.std.proofs.Common.{◌≡◌, ℕ, zero, suc, ◌+◌, ◌-◌, ◌≤◌, true, List, sym, ◌∙◌, ap, subst, arith, inl, inr}
use Rattle.std.proofs.lemmas.Bool.{cases_Bool, cases_lt}
use Rattle.std.specs.Prelude.{slice_index}
use Rattle.path_check.specs.{Side, is_fifo, kind_at, Plan, ModuleState, FitsEngine, state_at, verdict, Design, IsDesign, IsHistory, design}
use Rattle.path_check.specs.{lockstep_run, start_in, with_depths, AreDepths, AreDeeper, AsksNothing, moves_made, moves_at, IsAfter}
use Rattle.flow_word.specs.declared.access.Side.TheVariants.{Pop, Push}
use Rattle.flow_design.specs.declared.report.Verdict.TheVariants.{Done}
use Rattle.event_timing.proofs.Standing.{moves_lives}
use Rattle.timing_bridge.proofs.History.{plan_is_design, run_is_history, moves_same}
use Rattle.depth_order.proofs.{Plans.depths_fit, Ahead.with_start, Same.made_mono, Same.made_reached, Same.always_alike}
use Rattle.depth_order.proofs.Order.{no_queries, same_design, same_elements, over_stays, over_of, done_ended}
use Rattle.path_check.proofs.After.{holds_after, held_from_start, held_for_good, none_past}
use Rattle.event_timing.specs.Histories as counted

module _ (p : Plan) (h : FitsEngine p) (none : AsksNothing p) (ds : List ℕ) (a : AreDepths p ds) where
  -- a module that has not gone on from where it moves in the plan's run is not ended
  not_over : (n f c : ℕ) → moves_made (with_start (design p) (start_in (with_depths p ds))) (lockstep_run (with_depths p ds)) n c
      ≤ moves_made (design p) (lockstep_run p) n f
      → counted.can_move (design p) (lockstep_run p) f n ≡ true → (clock : ℕ) → clock ≤ c → verdict (with_depths p ds) ≡ Done clock → ⊥
  not_over n f c few move clock l e =
      let q = with_depths p ds in
      let d = design p in
      let w = lockstep_run p in
      let start = start_in q in
      let fits = depths_fit p h ds a in
      let same = same_design p ds in
      let j = subst (λ (x : Design ModuleState). IsDesign x) same (plan_is_design q fits) in
      let y = subst (λ (x : Design ModuleState). IsHistory x (lockstep_run q)) same (run_is_history q fits) in
      let i = plan_is_design p h in
      let x = run_is_history p h in
      let asks = no_queries p h none in
      let up = made_mono (with_start d start) (lockstep_run q) n clock c l in
      let r = made_reached d w n (moves_made (with_start d start) (lockstep_run q) n clock) f (omega (arith, few, up)) in
      let before = r.early in
      let alike = always_alike d start w (lockstep_run q) i j asks x y n r.clock clock r.count in
      let ended : (state_at p r.clock n).ended ≡ true =
      sym (ap (λ (s : ModuleState). s.ended) alike.state) ∙ (done_ended q clock e).1 n in
      let at : (f - r.clock) + r.clock ≡ f = omega arith in
      let late = rw at at (over_stays p h n r.clock (f - r.clock) ended) in
      let over = over_of p.ops (state_at p f n) late in
      let lives = moves_lives d w f n move in
      absurd (cc)

  pub ends_late : (m n f v : ℕ) → IsAfter (design p) (start_in (with_depths p ds)) (lockstep_run p) m zero n f v → moves_at p f n ≡ true
      → (clock : ℕ) → verdict (with_depths p ds) ≡ Done clock → suc v ≤ clock
  ends_late m n f v after move clock e = elim (cases_lt v clock) [
    | inl l ↦ l
    | inr l ↦
        let q = with_depths p ds in
        let fits = depths_fit p h ds a in
        let same = same_design p ds in
        let j = subst (λ (x : Design ModuleState). IsDesign x) same (plan_is_design q fits) in
        let y = subst (λ (x : Design ModuleState). IsHistory x (lockstep_run q)) same (run_is_history q fits) in
        let few = held_from_start (design p) (start_in q) (lockstep_run p) (lockstep_run q) (plan_is_design p h) j (no_queries p h none)
        (run_is_history p h) y m n f v after in
        absurd (not_over n f v few (moves_same p h f n ∙ move) clock l e)
  ]

  pub never_ends : (m f v : ℕ) → IsAfter (design p) (start_in (with_depths p ds)) (lockstep_run p) m f m f (suc v) → moves_at p f m ≡ true
      → (clock : ℕ) → verdict (with_depths p ds) ≡ Done clock → ⊥
  never_ends m f v after move clock e =
      let q = with_depths p ds in
      let fits = depths_fit p h ds a in
      let same = same_design p ds in
      let j = subst (λ (x : Design ModuleState). IsDesign x) same (plan_is_design q fits) in
      let y = subst (λ (x : Design ModuleState). IsHistory x (lockstep_run q)) same (run_is_history q fits) in
      let few = held_for_good (design p) (start_in q) (lockstep_run p) (lockstep_run q) (plan_is_design p h) j (no_queries p h none)
      (run_is_history p h) y m f v after clock in
      not_over m f clock few (moves_same p h f m ∙ move) clock (omega arith) e

  -- ---- where the other depths are lower

  lower_all : AreDeeper p ds p.depths → (f : ℕ) → slice_index ds f ≤ slice_index p.depths f
  lower_all less f = elim (cases_Bool (is_fifo (kind_at p f))) [
    | inl e ↦ less f e
    | inr e ↦ let no = a.others f e in omega arith
  ]

  fewer_places : AreDeeper p ds p.depths → (side : Side) (ch : ℕ) → start_in (with_depths p ds) side ch ≤ (design p).start side ch
  fewer_places less Pop ch = let e = same_elements p ds ch in omega arith
  fewer_places less Push ch = lower_all less ch

  pub ends_later : AreDeeper p ds p.depths → (m e n f v : ℕ)
      → IsAfter (design p) (start_in (with_depths p ds)) (lockstep_run p) m e n f v → moves_at p f n ≡ true
      → (clock : ℕ) → verdict (with_depths p ds) ≡ Done clock → suc (e + v) ≤ clock
  ends_later less m e n f v after move clock done = elim (cases_lt (e + v) clock) [
    | inl l ↦ l
    | inr l ↦
        let q = with_depths p ds in
        let d = design p in
        let fits = depths_fit p h ds a in
        let same = same_design p ds in
        let j = subst (λ (x : Design ModuleState). IsDesign x) same (plan_is_design q fits) in
        let y = subst (λ (x : Design ModuleState). IsHistory x (lockstep_run q)) same (run_is_history q fits) in
        let i = plan_is_design p h in
        let x = run_is_history p h in
        let asks = no_queries p h none in
        let begun = none_past d (start_in q) (lockstep_run p) (lockstep_run q) i j asks x y (fewer_places less) e e (omega arith) m in
        let few = holds_after d (start_in q) (lockstep_run p) (lockstep_run q) i j asks x y m e n f v after e begun in
        absurd (not_over n f (e + v) few (moves_same p h f n ∙ move) clock l done)
  ]
