-- While no FIFO is full, depths do not matter: the same modules move, and the same is done.
use Rattle.std.proofs.Common.{◌≡◌, ℕ, zero, suc, ◌<◌, List, map, Bool, false, ◌&&◌, not, cond, refl, sym, ◌∙◌, ap, ap₂, arith, ◌⊎◌, inl}
use Rattle.std.proofs.Common.{inr, [], ◌++◌}
use Rattle.std.specs.List.{list_any, enumerate_from, flat_map, filter_map, find}
use Rattle.std.specs.Prelude.{option_map, Option, None}
use Rattle.depth_advice.specs.{Side, side_of, is_blocking, Plan, Held, Verdict, ClockState, Element, ModuleState, Request, Reply, clock_of}
use Rattle.depth_advice.specs.{is_over, move, report, report_at, report_in_state, NoneBefore, contents_of, is_full, all_ready, can_take}
use Rattle.depth_advice.specs.{stalls, reply, reply_by, front, HistoryStep, numbered, requests_of, moves, next_state, module_step}
use Rattle.depth_advice.specs.{step_with, steps_in, contents_after, clock_step, module_at, opening, Moment, next_moment, moment, state}
use Rattle.depth_advice.specs.{history, some_moves, is_settled, settled_verdict, verdict, held_at, held_by, held_modules, held, with_depths}
use Rattle.flow_word.specs.declared.access.Side.TheVariants.{Pop, Push}
use Rattle.flow_design.specs.declared.report.Verdict.TheVariants.{Done, Deadlock, Cycles, Ops}
use Rattle.lockstep_defs.proofs.{Settled.full_ready, Found.verdict_none, Exits.clock_settled}
use Rattle.depth_order.proofs.First.{IsFirst, first_among, verdict_first}

-- no channel is full
abbrev pub NoneFull : Plan → List (List Element) → Type 0
NoneFull p contents = (f : ℕ) → is_full p f (contents_of contents f) ≡ false

-- neither with the plan's own depths nor with these
abbrev pub NeitherFull : Plan → List ℕ → List (List Element) → Type 0
NeitherFull p ds contents = NoneFull p contents × NoneFull (with_depths p ds) contents

-- ---- one clock

possible_same : (p : Plan) (ds : List ℕ) (contents : List (List Element)) → NeitherFull p ds contents → (c : ℕ) (side : Side) (f : ℕ)
    → can_take (with_depths p ds) c contents side f ≡ can_take p c contents side f
possible_same p ds contents h c Pop f = refl
possible_same p ds contents h c Push f = ap not (h.1 f ∙ sym (h.0 f))

stalls_same : (p : Plan) (ds : List ℕ) (contents : List (List Element)) → NeitherFull p ds contents → (c : ℕ) (r : Request)
    → stalls (with_depths p ds) c contents r ≡ stalls p c contents r
stalls_same p ds contents h c r =
    ap (λ (b : Bool). is_blocking r.kind && not b)
    (possible_same p ds contents h c (side_of r.kind) r.channel)

moves_same : (p : Plan) (ds : List ℕ) (contents : List (List Element)) → NeitherFull p ds contents → (c : ℕ) (m : ℕ × ModuleState)
    → moves (with_depths p ds) c contents m ≡ moves p c contents m
unfolding moves
moves_same p ds contents h c m =
    ap (λ (f : Request → Bool). not (is_over p.ops m.1) && not (list_any f (requests_of p m))) (λ i r. stalls_same p ds contents h c r i)

reply_same : (p : Plan) (ds : List ℕ) (contents : List (List Element)) → NeitherFull p ds contents → (c : ℕ) (r : Request)
    → reply (with_depths p ds) c contents r ≡ reply p c contents r
unfolding reply
reply_same p ds contents h c r =
    ap (λ (b : Bool). reply_by r.kind b (front (contents_of contents r.channel)))
    (possible_same p ds contents h c (side_of r.kind) r.channel)

next_same : (p : Plan) (ds : List ℕ) (contents : List (List Element)) → NeitherFull p ds contents → (c : ℕ) (m : ℕ × ModuleState)
    → next_state (with_depths p ds) c contents m ≡ next_state p c contents m
next_same p ds contents h c m =
    ap₂ (λ (b : Bool) (f : Request → Reply). cond b (move (module_at p m.0) m.1 (map f (requests_of p m))) m.1)
    (moves_same p ds contents h c m) (λ i r. reply_same p ds contents h c r i)

step_same : (p : Plan) (ds : List ℕ) (contents : List (List Element)) → NeitherFull p ds contents → (c : ℕ) (m : ℕ × ModuleState)
    → module_step (with_depths p ds) c contents m ≡ module_step p c contents m
step_same p ds contents h c m =
    ap₂ (λ (b : Bool) (f : Request → Reply). cond b (step_with c m.0 (map (λ r. record { request = r; reply = f r }) (requests_of p m))) [])
    (moves_same p ds contents h c m) (λ i r. reply_same p ds contents h c r i)

steps_same : (p : Plan) (ds : List ℕ) (st : ClockState) → NeitherFull p ds st.contents → (c : ℕ)
    → steps_in (with_depths p ds) c st ≡ steps_in p c st
unfolding steps_in
steps_same p ds st h c =
    ap (λ (f : ℕ × ModuleState → List HistoryStep). flat_map f (numbered st)) (λ i m. step_same p ds st.contents h c m i)

clock_same : (p : Plan) (ds : List ℕ) (st : ClockState) → NeitherFull p ds st.contents → (c : ℕ)
    → clock_step (with_depths p ds) c st ≡ clock_step p c st
unfolding clock_step
clock_same p ds st h c = λ i. record {
  modules = map (λ m. next_same p ds st.contents h c m i) (numbered st);
  contents = map (contents_after p c (steps_same p ds st h c i)) (enumerate_from 0 st.contents);
}

-- ---- the clocks up to one

-- in clocks before this one no channel is full
abbrev pub NeitherBefore : Plan → List ℕ → ℕ → Type 0
NeitherBefore p ds n = (c : ℕ) → c < n → NeitherFull p ds (state p c).contents

pub moment_same : (p : Plan) (ds : List ℕ) (n : ℕ) → NeitherBefore p ds n → moment (with_depths p ds) n ≡ moment p n
unfolding moment opening
moment_same p ds zero h = refl
moment_same p ds (suc n) h =
    let before = moment_same p ds n (λ c l. h c (omega arith)) in
    let here = h n (omega arith) in
    ap (next_moment (with_depths p ds) n) before ∙ (λ i. record {
      state = clock_same p ds (state p n) here n i;
      history = history p n ++ steps_same p ds (state p n) here n i;
    })

-- ---- settled clocks

ready_neither : (p : Plan) (ds : List ℕ) (contents : List (List Element)) → NeitherFull p ds contents
    → NeitherFull p ds (all_ready contents)
ready_neither p ds contents h = (
  λ f. full_ready p contents f ∙ h.0 f,
  λ f. full_ready (with_depths p ds) contents f ∙ h.1 f,
)

some_same : (p : Plan) (ds : List ℕ) (contents : List (List Element)) → NeitherFull p ds contents → (c : ℕ) (st : ClockState)
    → some_moves (with_depths p ds) c contents st ≡ some_moves p c contents st
some_same p ds contents h c st =
    ap (λ (f : ℕ × ModuleState → Bool). list_any f (numbered st)) (λ i m. moves_same p ds contents h c m i)

settled_same : (p : Plan) (ds : List ℕ) (st : ClockState) → NeitherFull p ds st.contents → (c : ℕ)
    → is_settled (with_depths p ds) c st ≡ is_settled p c st
unfolding is_settled
settled_same p ds st h c = ap₂ (λ (a b : Bool). not a && not b) (some_same p ds st.contents h c st)
    (some_same p ds (all_ready st.contents) (ready_neither p ds st.contents h) c st)

-- in a clock up to which no channel is full
settled_now : (p : Plan) (ds : List ℕ) (c : ℕ) → NeitherBefore p ds (suc c)
    → is_settled (with_depths p ds) c (state (with_depths p ds) c) ≡ is_settled p c (state p c)
settled_now p ds c h =
    ap (λ (x : Moment). is_settled (with_depths p ds) c x.state) (moment_same p ds c (λ b l. h b (omega arith)))
    ∙ settled_same p ds (state p c) (h c (omega arith)) c

none_same : (p : Plan) (ds : List ℕ) (n : ℕ) → NeitherBefore p ds n → NoneBefore p n → NoneBefore (with_depths p ds) n
none_same p ds n h none b l = settled_now p ds b (λ c k. h c (omega arith)) ∙ none b l

-- ---- the verdict

-- the verdict is the same where no channel is full up to its clock
pub verdict_same : (p : Plan) (ds : List ℕ) → NeitherBefore p ds (suc (clock_of (verdict p))) → verdict (with_depths p ds) ≡ verdict p
verdict_same p ds h = by_first (first_among p (suc p.cycles))
  where
    by_first : ((c : ℕ) × IsFirst p (suc p.cycles) c) ⊎ NoneBefore p (suc p.cycles) → verdict (with_depths p ds) ≡ verdict p
    by_first (inl (c, f)) =
        let v = verdict_first p c f in
        let at : clock_of (verdict p) ≡ c = ap clock_of v ∙ clock_settled p c (state p c) in
        let k : NeitherBefore p ds (suc c) = λ b l. h b (omega arith) in
        let g : IsFirst (with_depths p ds) (suc p.cycles) c = record {
          within = f.within;
          none = none_same p ds c (λ b l. k b (omega arith)) f.none;
          settled = settled_now p ds c k ∙ f.settled;
        } in
        verdict_first (with_depths p ds) c g
        ∙ (ap (λ (x : Moment). settled_verdict p c x.state) (moment_same p ds c (λ b l. k b (omega arith))) ∙ sym v)
    by_first (inr none) =
        let v = verdict_none p none in
        let at : clock_of (verdict p) ≡ p.cycles = ap clock_of v in
        verdict_none (with_depths p ds) (none_same p ds (suc p.cycles) (λ b l. h b (omega arith)) none) ∙ sym v

-- ---- held modules, and the report

held_by_same : (p : Plan) (ds : List ℕ) (contents : List (List Element)) → NeitherFull p ds contents → (c : ℕ) (m : ℕ × ModuleState)
    → held_by (with_depths p ds) c contents m ≡ held_by p c contents m
held_by_same p ds contents h c m =
    ap (λ (f : Request → Bool). cond (is_over p.ops m.1) None (option_map (held_at m.0) (find f (requests_of p m))))
    (λ i r. stalls_same p ds contents h c r i)

held_in_same : (p : Plan) (ds : List ℕ) (st : ClockState) → NeitherFull p ds st.contents → (c : ℕ)
    → held_modules (with_depths p ds) c st ≡ held_modules p c st
held_in_same p ds st h c =
    ap (λ (f : ℕ × ModuleState → Option Held). filter_map f (numbered st))
    (λ i m. held_by_same p ds (all_ready st.contents) (ready_neither p ds st.contents h) c m i)

held_same : (p : Plan) (ds : List ℕ) (v : Verdict) (st : ClockState) → NeitherFull p ds st.contents
    → held (with_depths p ds) v st ≡ held p v st
held_same p ds (Done c) st h = refl
held_same p ds (Deadlock c) st h = held_in_same p ds st h c
held_same p ds (Cycles c) st h = refl
held_same p ds (Ops c) st h = held_in_same p ds st h c

-- where no channel is full in any clock up to the verdict's, the plan with these depths has the same report
pub report_same : (p : Plan) (ds : List ℕ) → NeitherBefore p ds (suc (clock_of (verdict p))) → report (with_depths p ds) ≡ report p
unfolding report
report_same p ds h =
    let v = verdict p in
    let c = clock_of v in
    let here = h c (omega arith) in
    ap (report_at (with_depths p ds)) (verdict_same p ds h)
    ∙ (ap (λ (x : Moment). report_in_state (with_depths p ds) v x.state x.history) (moment_same p ds c (λ b l. h b (omega arith)))
    ∙ (λ i. record (report_in_state p v (state p c) (history p c)) { held = held_same p ds v (state p c) here i }))
