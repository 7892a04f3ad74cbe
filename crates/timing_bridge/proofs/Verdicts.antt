-- Settled clocks in the theory's words, and the verdict of a final core.
use Rattle.std.proofs.Common.{◌≡◌, ℕ, zero, suc, ◌+◌, ◌-◌, ◌≤◌, ◌<◌, List, [], ◌∷◌, length, get_or, Bool, true, false, refl, sym, ◌∙◌, ap}
use Rattle.std.proofs.Common.{arith, inl, inr, zero-add, Some}
use Rattle.std.proofs.{lemmas.Bool.cases_lt, lemmas.Bool.or_parts, lemmas.List.get_or_past}
use Rattle.std.specs.List.{list_any, enumerate_from}
use Rattle.timing_bridge.specs.{Plan, ModuleState, FitsEngine, nobody, moves, state, some_moves, is_settled, settled_verdict, verdict}
use Rattle.timing_bridge.specs.{candidate, view, IsFinal, IsAgreed, IsAtRest, IsUndetermined, stop, design, lockstep_run}
use Rattle.flow_design.specs.declared.report.Verdict.TheVariants.{Cycles}
use Rattle.lockstep_defs.proofs.Settled.{still_settled, settled_none, rests_settled}
use Rattle.lockstep_defs.proofs.Found.{verdict_found, verdict_none}
use Rattle.event_timing.specs.Core.{Core}
use Rattle.event_timing.proofs.Verdict.{rests, moved, determined_late}
use Rattle.timing_bridge.proofs.{Moved.nobody_moves, History.plan_is_design, History.run_is_history, History.moves_same}
use Rattle.event_timing.specs.Histories as counted

any_false : (test : ℕ × ModuleState → Bool) (n : ℕ) (xs : List ModuleState)
    → ((k : ℕ) → k < length xs → test (n + k, get_or xs k nobody) ≡ false) → list_any test (enumerate_from n xs) ≡ false
any_false test n [] h = refl
any_false test n (x ∷ xs) h =
    let z : n + 0 ≡ n = omega arith in
    let rest = any_false test (n + 1) xs (λ k l.
    let e : (n + 1) + k ≡ n + suc k = omega arith in
    rw e (h (suc k) (omega arith))) in
    grind (arith, h 0)

each_false : (test : ℕ × ModuleState → Bool) (n : ℕ) (xs : List ModuleState) → list_any test (enumerate_from n xs) ≡ false → (k : ℕ)
    → k < length xs → test (n + k, get_or xs k nobody) ≡ false
each_false test n [] h k l = absurd (omega arith)
each_false test n (x ∷ xs) h zero l = grind arith
each_false test n (x ∷ xs) h (suc k) l =
    let e : n + suc k ≡ (n + 1) + k = omega arith in
    rw e (each_false test (n + 1) xs (or_parts (test (n, x)) (list_any test (enumerate_from (n + 1) xs)) h).1 k (omega arith))

-- ---- settled clocks

none_moves : (p : Plan) → FitsEngine p → (c : ℕ) → ((i : ℕ) → counted.can_move (design p) (lockstep_run p) c i ≡ false)
    → some_moves p c (state p c).contents (state p c) ≡ false
none_moves p h c f =
    let st = state p c in
    any_false (moves p c st.contents) 0 st.modules
    (λ k l. ap (λ (i : ℕ). moves p c st.contents (i, get_or st.modules k nobody)) (zero-add k) ∙ (sym (moves_same p h c k) ∙ f k))

-- where nobody moves in a clock and those after it, it is settled
pub settled_from : (p : Plan) → FitsEngine p → (c : ℕ) → IsAtRest (design p) (lockstep_run p) c → is_settled p c (state p c) ≡ true
settled_from p h c rest = rests_settled p c (λ k. none_moves p h (k + c) (λ i. rest (k + c) (omega arith) i))

settled_gives : (p : Plan) → FitsEngine p → (c : ℕ) → is_settled p c (state p c) ≡ true → (i : ℕ)
    → counted.can_move (design p) (lockstep_run p) c i ≡ false
settled_gives p h c s i =
    let st = state p c in
    moves_same p h c i
    ∙ elim (cases_lt i (length st.modules)) [
      | inl l ↦ ap (λ (j : ℕ). moves p c st.contents (j, get_or st.modules i nobody)) (sym (zero-add i))
          ∙ each_false (moves p c st.contents) 0 st.modules (settled_none p c st s) i l
      | inr l ↦ ap (λ (t : ModuleState). moves p c st.contents (i, t)) (get_or_past st.modules i nobody l) ∙ nobody_moves p c st.contents i
    ]

-- a clock in which a module moves, and all before it, are not settled
unsettled : (p : Plan) → FitsEngine p → (c i : ℕ) → counted.can_move (design p) (lockstep_run p) c i ≡ true → (e : ℕ) → e ≤ c
    → is_settled p e (state p e) ≡ false
unsettled p h c i m e l =
    let k : (c - e) + e ≡ c = omega arith in
    grind (arith, k, still_settled p e (c - e), λ (s : is_settled p c (state p c) ≡ true). settled_gives p h c s i)

-- ---- the verdict

-- no step is determined: the verdict is that of the last stop, where it is within the limit
pub final_settled : (p : Plan) → FitsEngine p → (x : Core ModuleState) → IsAgreed (design p) (lockstep_run p) p.cycles x
    → IsFinal (design p) p.cycles x → IsUndetermined (design p) x
    → (last : ℕ) → ((i : ℕ) → stop (design p) x i ≤ last) → (m : ℕ) → stop (design p) x m ≡ last → last ≤ p.cycles
    → verdict p ≡ settled_verdict p last (state p last)
final_settled p h x g f u last top m e l =
    let d = design p in
    let w = lockstep_run p in
    let rest = rests d w (plan_is_design p h) (run_is_history p h) p.cycles x g f u last top in
    verdict_found p last l
    (λ c k. unsettled p h (last - 1) m
    (moved d w (plan_is_design p h) (run_is_history p h) p.cycles x g f u m (last - 1) (omega arith)) c (omega arith))
    (settled_from p h last rest)

-- a step is determined: it moves at the limit or later, and no clock up to the limit is settled
pub final_cut : (p : Plan) → FitsEngine p → (x : Core ModuleState) → IsAgreed (design p) (lockstep_run p) p.cycles x
    → IsFinal (design p) p.cycles x → (m c : ℕ) → candidate (design p) (view (design p) x) m ≡ Some c → verdict p ≡ Cycles p.cycles
final_cut p h x g f m c e =
    let late = determined_late (design p) (lockstep_run p) (plan_is_design p h) (run_is_history p h) p.cycles x g f m c e in
    verdict_none p (λ k l. unsettled p h c m late.1 k (omega (arith, late.0)))

-- the last stop is above the limit
pub final_late : (p : Plan) → FitsEngine p → (x : Core ModuleState) → IsAgreed (design p) (lockstep_run p) p.cycles x
    → IsFinal (design p) p.cycles x → IsUndetermined (design p) x → (m : ℕ) → p.cycles < stop (design p) x m → verdict p ≡ Cycles p.cycles
final_late p h x g f u m l =
    let n = stop (design p) x m in
    let moves_then = moved (design p) (lockstep_run p) (plan_is_design p h) (run_is_history p h) p.cycles x g f u m (n - 1) (omega arith) in
    verdict_none p (λ k q. unsettled p h (n - 1) m moves_then k (omega arith))
