-- A module's steps in the history are those that an agreeing core has.
use Rattle.std.proofs.{lemmas.Bool.Decides.nat_tests, lemmas.List.append-nil, lemmas.List.map-append}
use Rattle.std.proofs.Common.{◌≡◌, ℕ, zero, suc, ◌+◌, ◌≤◌, ◌<◌, List, [], ◌∷◌, ◌++◌, map, length, true, false, refl, sym, ◌∙◌, ap, ap₂}
use Rattle.std.proofs.Common.{arith, ◌⊎◌, inl, inr}
use Rattle.std.proofs.lemmas.Bool.{cases_Bool, cases_lt, cond-true}
use Rattle.std.specs.List.{range_with_len, AllByRecursion}
use Rattle.timing_bridge.specs.{Plan, Element, ModuleState, Request, FitsEngine, HistoryStep, Exchange, steps_of, paired, requests_of}
use Rattle.timing_bridge.specs.{moves, answered, step_with, module_step, state, state_at, history, is_some_access, ready, replies, steps}
use Rattle.timing_bridge.specs.{done, own, core_reply, view, IsAgreed, design, lockstep_run, seen_request, told_all, core_step, core_steps}
use Rattle.timing_bridge.specs.{AreInOrder}
use Rattle.lockstep_defs.proofs.{Settled.history-zero, Order.only_history, Order.history_numbers}
use Rattle.lockstep_defs.proofs.Agrees.{steps_of-suc, paired_answered}
use Rattle.event_timing.specs.Core.{Core}
use Rattle.event_timing.proofs.{Steps.done_more, Steps.done_same, Steps.same_clock, Steps.done_mono, OwnRuns.rest_own, OwnRuns.follows}
use Rattle.event_timing.proofs.{OwnRuns.done_0, Standing.step_ready, Standing.steps_moves, Standing.steps_some, Fronts.agrees}
use Rattle.timing_bridge.proofs.History.{plan_is_design, run_is_history, moves_same, replies_same}
use Rattle.flow_word.proofs.Ranges.{range_more}
use Rattle.event_timing.specs.Histories as counted

-- ---- one clock

-- what module i does in clock c, as a step
abbrev pub done_at : Plan → ℕ → ℕ → HistoryStep
done_at p c i = record { clock = c; «module» = i; exchanges = map (answered p c (state p c).contents) (requests_of p (i, state_at p c i)) }

step_some : (c i : ℕ) (p : Plan) (cs : List (List Element)) (rs : List Request) → is_some_access (map seen_request rs) ≡ true
    → step_with c i (map (answered p c cs) rs) ≡ record { clock = c; «module» = i; exchanges = map (answered p c cs) rs } ∷ []
step_some c i p cs [] h = cc
step_some c i p cs (r ∷ rs) h = refl

step_none : (c i : ℕ) (p : Plan) (cs : List (List Element)) (rs : List Request) → is_some_access (map seen_request rs) ≡ false
    → step_with c i (map (answered p c cs) rs) ≡ []
step_none c i p cs [] h = refl
step_none c i p cs (r ∷ rs) h = cc

steps_parts : (p : Plan) (c i : ℕ) → steps (design p) (lockstep_run p) c i ≡ false
    → (counted.can_move (design p) (lockstep_run p) c i ≡ false)
    ⊎ (is_some_access (map seen_request (requests_of p (i, state_at p c i))) ≡ false)
unfolding steps
steps_parts p c i h = grind arith

no_step : (p : Plan) → FitsEngine p → (c i : ℕ) → steps (design p) (lockstep_run p) c i ≡ false
    → module_step p c (state p c).contents (i, state_at p c i) ≡ []
no_step p h c i s =
    let asked = requests_of p (i, state_at p c i) in
    grind (arith, steps_parts p c i s, moves_same p h c i, step_none c i p (state p c).contents asked)

pub a_step : (p : Plan) → FitsEngine p → (c i : ℕ) → steps (design p) (lockstep_run p) c i ≡ true
    → module_step p c (state p c).contents (i, state_at p c i) ≡ done_at p c i ∷ []
a_step p h c i s =
    let cs = (state p c).contents in
    let xs = map (answered p c cs) (requests_of p (i, state_at p c i)) in
    cond-true (moves p c cs (i, state_at p c i)) (step_with c i xs) []
    (sym (moves_same p h c i) ∙ steps_moves (design p) (lockstep_run p) c i s)
    ∙ step_some c i p cs (requests_of p (i, state_at p c i)) (steps_some (design p) (lockstep_run p) c i s)

-- ---- the core's step is that of the history's clock

core_step_is : (p : Plan) → FitsEngine p → (limit : ℕ) (x : Core ModuleState) → IsAgreed (design p) (lockstep_run p) limit x → (c i k : ℕ)
    → steps (design p) (lockstep_run p) c i ≡ true
    → done (design p) (lockstep_run p) i c ≡ k → k < x.timed i → done_at p c i ≡ core_step p x i k
core_step_is p h limit x g c i k s e l =
    let d = design p in
    let w = lockstep_run p in
    let is = plan_is_design p h in
    let hist = run_is_history p h in
    let a = agrees d w limit x g.marks g.time in
    let clock : x.cycle i k ≡ c = same_clock d w i (x.cycle i k) c (g.time.steps_then i k l) s (g.time.done_then i k l ∙ sym e) in
    let in_emitted : k < x.emitted i = omega (arith, g.time.within i) in
    let here : state_at p c i ≡ x.state i k =
    step_ready d w is hist i c s
    ∙ (ap (ready d i) (rest_own d w is hist i (core_reply d x i) c (follows d w (view d x) a i c (omega arith))
    ∙ ap (own d i (core_reply d x i)) e)
    ∙ sym (g.marks.own_step i k in_emitted)) in
    let told : core_reply d x i k ≡ replies d w c i = g.time.reply_then i k l ∙ ap (λ (n : ℕ). replies d w n i) clock in
    let asked = requests_of p (i, state_at p c i) in
    let moving = sym (moves_same p h c i) ∙ steps_moves d w c i s in
    let done_is : map (answered p c (state p c).contents) asked ≡ paired asked (told_all asked (core_reply d x i k)) =
    sym (ap (paired asked) (ap (told_all asked) told ∙ replies_same p h c i moving) ∙ paired_answered p c (state p c).contents asked) in
    ap₂ (λ (n : ℕ) (xs : List Exchange). record { clock = n; «module» = i; exchanges = xs }) (sym clock)
    (done_is ∙ ap (λ (t : ModuleState). paired (requests_of p (i, t)) (told_all (requests_of p (i, t)) (core_reply d x i k))) here)

-- ---- all clocks

-- a module's steps before a clock up to which the core has them all
pub steps_are : (p : Plan) → FitsEngine p → (limit : ℕ) (x : Core ModuleState) → IsAgreed (design p) (lockstep_run p) limit x → (i : ℕ)
    → i < length p.design.modules → (c : ℕ) → done (design p) (lockstep_run p) i c ≤ x.timed i
    → steps_of i (history p c) ≡ map (core_step p x i) (range_with_len 0 (done (design p) (lockstep_run p) i c))
steps_are p h limit x g i inside zero l = ap (steps_of i) (history-zero p)
    ∙ ap (λ (n : ℕ). map (core_step p x i) (range_with_len 0 n)) (sym (done_0 (design p) (lockstep_run p) i))
steps_are p h limit x g i inside (suc c) l =
    let d = design p in
    let w = lockstep_run p in
    let n = done d w i c in
    let less : n ≤ x.timed i = omega (arith, done_mono d w i c (suc c) (omega arith)) in
    let before = map (core_step p x i) (range_with_len 0 n) in
    steps_of-suc p c i inside
    ∙ (ap (λ (l : List HistoryStep). l ++ module_step p c (state p c).contents (i, state_at p c i))
    (steps_are p h limit x g i inside c less)
    ∙ elim (cases_Bool (steps d w c i)) [
      | inl s ↦
          let up = done_more d w i c s in
          let k : 0 + n ≡ n = omega arith in
          ap (λ (l : List HistoryStep). before ++ l)
          (a_step p h c i s ∙ ap (λ (t : HistoryStep). t ∷ []) (core_step_is p h limit x g c i n s refl (omega arith)))
          ∙ (ap (λ (j : ℕ). before ++ core_step p x i j ∷ []) (sym k)
          ∙ (sym (map-append (core_step p x i) (range_with_len 0 n) ((0 + n) ∷ []))
          ∙ ap (map (core_step p x i)) (sym (range_more 0 n) ∙ ap (range_with_len 0) (sym up))))
      | inr s ↦
          let still = done_same d w i c s in
          ap (λ (l : List HistoryStep). before ++ l) (no_step p h c i s)
          ∙ (append-nil _ ∙ ap (λ (j : ℕ). map (core_step p x i) (range_with_len 0 j)) (sym still))
    ])

none_beyond : (i n : ℕ) (ss : List HistoryStep) → n ≤ i → AllByRecursion (λ s. s.«module» < n) ss → steps_of i ss ≡ []
none_beyond i n [] l h = refl
none_beyond i n (s ∷ ss) l (first, h) = grind (arith, nat_tests, none_beyond i n ss l h)

-- where the core has all steps before clock c, all modules', and none beyond
pub all_steps : (p : Plan) → FitsEngine p → (limit : ℕ) (x : Core ModuleState) → IsAgreed (design p) (lockstep_run p) limit x → (c : ℕ)
    → ((i : ℕ) → done (design p) (lockstep_run p) i c ≡ x.timed i) → (i : ℕ) → core_steps p x i ≡ steps_of i (history p c)
all_steps p h limit x g c all i = elim (cases_lt i (length p.design.modules)) [
  | inl l ↦
      let e = all i in
      ap (λ (n : ℕ). map (core_step p x i) (range_with_len 0 n)) (sym e) ∙ sym (steps_are p h limit x g i l c (omega arith))
  | inr l ↦
      let none : x.timed i ≡ 0 = omega (arith, g.time.within i, g.marks.inside i l) in
      ap (λ (n : ℕ). map (core_step p x i) (range_with_len 0 n)) none
      ∙ sym (none_beyond i (length p.design.modules) (history p c) l (history_numbers p c))
]

-- so the list in order of its steps is the history
pub events_are : (p : Plan) → FitsEngine p → (limit : ℕ) (x : Core ModuleState) → IsAgreed (design p) (lockstep_run p) limit x → (c : ℕ)
    → ((i : ℕ) → done (design p) (lockstep_run p) i c ≡ x.timed i) → (ss : List HistoryStep) → AreInOrder p x ss → ss ≡ history p c
events_are p h limit x g c all ss o = only_history p c ss o.rising (λ i. o.each i ∙ all_steps p h limit x g c all i)
