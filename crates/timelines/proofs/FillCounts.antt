-- A FIFO holds what was pushed on it less what was popped off it, and never more than its depth.
use Rattle.std.proofs.Common.{◌≡◌, ℕ, zero, suc, ◌+◌, ◌≤◌, ◌<◌, List, [], ◌∷◌, ◌++◌, map, length, drop, Bool, true, false, ◌&&◌, ◌==◌, not}
use Rattle.std.proofs.Common.{cond, refl, sym, ◌∙◌, ap, ap₂, subst, arith, nat_le, length-append, length-drop, ◌⊎◌, inl, inr}
use Rattle.std.proofs.{lemmas.Bool.eqb-true, lemmas.Bool.or_parts, lemmas.Bool.leb-false, lemmas.List.length-map}
use Rattle.std.specs.{Prelude.slice_index, List.list_any, List.flat_map}
use Rattle.timelines.specs.{Side, Kind, side_of, is_blocking, Plan, Element, ClockState, ModuleState, Request, FitsEngine, is_fifo, kind_at}
use Rattle.timelines.specs.{delay_at, is_yes, all_in, values, front, element_from, can_take, is_full, stalls, reply, reply_by, pushed_value}
use Rattle.timelines.specs.{moved_value, moved_by, moved, contents_of, requests_of, moves, answered, step_with, module_step, steps_in}
use Rattle.timelines.specs.{clock_step, numbered, state, history, fill, moved_before}
use Rattle.flow_word.specs.declared.access.Side.TheVariants.{Pop, Push}
use Rattle.flow_word.specs.declared.access.Kind.TheVariants.{Read, Write, TryRead, TryWrite, Empty, Full}
use Rattle.lockstep_defs.proofs.{Settled.state-suc, Counts.fifo_opens_empty, Rules.keeps_ports}
use Rattle.lockstep_defs.proofs.Queue.{moved-nil, moved-append, moved-step, nothing_stalls, moves_once, conserved, contents-step}
use Rattle.lockstep_defs.proofs.Queue.{same_channels, channel_count}

-- ---- what was pushed and not popped

parts_of : (p : Plan) (f c : ℕ) → contents_of (state p 0).contents f ≡ []
    → all_in p c f ≡ moved Pop f (history p c) ++ values (contents_of (state p c).contents f)
    → length (contents_of (state p c).contents f) + length (moved Pop f (history p c)) ≡ length (moved Push f (history p c))
parts_of p f c empty e =
    let first : length (values (contents_of (state p 0).contents f)) ≡ 0 = ap (λ (held : List Element). length (values held)) empty in
    let left = length-append (values (contents_of (state p 0).contents f)) (moved Push f (history p c)) in
    let right = length-append (moved Pop f (history p c)) (values (contents_of (state p c).contents f)) in
    let same = ap length e in
    let held = length-map (contents_of (state p c).contents f) (λ (x : Element). x.value) in
    omega arith

pub counted : (p : Plan) → FitsEngine p → (f c : ℕ) → f < length p.design.channels → is_fifo (kind_at p f) ≡ true
    → fill p f c + moved_before p Pop f c ≡ moved_before p Push f c
unfolding fill
counted p fits f c l fifo = parts_of p f c (fifo_opens_empty p fits f l fifo)
    (conserved p (keeps_ports p fits) f (omega (arith, channel_count p)) c)

-- ---- nothing is pushed on a full channel

pushes_nothing : (kind : Kind) (possible : Side → Bool) (held v : ℕ) → possible Push ≡ false
    → (is_blocking kind && not (possible (side_of kind))) ≡ false
    → pushed_value kind (is_yes (reply_by kind (possible (side_of kind)) held)) v ≡ []
pushes_nothing Read possible held v e h = refl
pushes_nothing Write possible held v e h =
    let wrong : true ≡ false = subst (λ (b : Bool). not b ≡ false) e h in cc
pushes_nothing TryRead possible held v e h = refl
pushes_nothing TryWrite possible held v e h = ap (λ (b : Bool). cond b (v ∷ []) []) e
pushes_nothing Empty possible held v e h = refl
pushes_nothing Full possible held v e h = refl

pushed_at : (p : Plan) (c : ℕ) (contents : List (List Element)) (f : ℕ) (r : Request) (b : Bool) → (r.channel == f) ≡ b
    → can_take p c contents Push f ≡ false → stalls p c contents r ≡ false
    → cond b (moved_value Push (answered p c contents r)) [] ≡ []
unfolding reply
pushed_at p c contents f r false e full h = refl
pushed_at p c contents f r true e full h =
    let here = subst (λ (g : ℕ). can_take p c contents Push g ≡ false) (sym (eqb-true r.channel f e)) full in
    pushes_nothing r.kind (λ side. can_take p c contents side r.channel) (front (contents_of contents r.channel)) r.value here h

pushed_by : (p : Plan) (c : ℕ) (contents : List (List Element)) (f : ℕ) → can_take p c contents Push f ≡ false → (rs : List Request)
    → list_any (stalls p c contents) rs ≡ false → moved_by Push f (map (answered p c contents) rs) ≡ []
unfolding moved_by
pushed_by p c contents f full [] h = refl
pushed_by p c contents f full (r ∷ rs) h =
    let parts = or_parts (stalls p c contents r) (list_any (stalls p c contents) rs) h in
    ap₂ (λ (xs ys : List ℕ). xs ++ ys) (pushed_at p c contents f r (r.channel == f) refl full parts.0)
    (pushed_by p c contents f full rs parts.1)

pushed_step : (p : Plan) (c : ℕ) (contents : List (List Element)) (f : ℕ) → can_take p c contents Push f ≡ false → (m : ℕ × ModuleState)
    → (b : Bool) → moves p c contents m ≡ b
    → moved Push f (cond b (step_with c m.0 (map (answered p c contents) (requests_of p m))) []) ≡ []
pushed_step p c contents f full m false e = moved-nil Push f
pushed_step p c contents f full m true e =
    moved-step c m.0 Push f (map (answered p c contents) (requests_of p m))
    ∙ pushed_by p c contents f full (requests_of p m) (nothing_stalls p c contents m e)

pushed_steps : (p : Plan) (c : ℕ) (contents : List (List Element)) (f : ℕ) → can_take p c contents Push f ≡ false
    → (ms : List (ℕ × ModuleState)) → moved Push f (flat_map (module_step p c contents) ms) ≡ []
pushed_steps p c contents f full [] = moved-nil Push f
pushed_steps p c contents f full (m ∷ ms) =
    moved-append Push f (module_step p c contents m) (flat_map (module_step p c contents) ms)
    ∙ ap₂ (λ (xs ys : List ℕ). xs ++ ys) (pushed_step p c contents f full m (moves p c contents m) refl)
    (pushed_steps p c contents f full ms)

pushed_in : (p : Plan) (c : ℕ) (st : ClockState) (f : ℕ) → can_take p c st.contents Push f ≡ false → moved Push f (steps_in p c st) ≡ []
unfolding steps_in
pushed_in p c st f full = pushed_steps p c st.contents f full (numbered st)

-- ---- at most the depth

after_clock : (p : Plan) (c : ℕ) (st : ClockState) (f : ℕ) → f < length st.contents
    → length (contents_of (clock_step p c st).contents f) ≤ length (contents_of st.contents f) + length (moved Push f (steps_in p c st))
after_clock p c st f l =
    let popped = length (moved Pop f (steps_in p c st)) in
    let after = ap length (contents-step p c st f l) in
    let parts = length-append (drop popped (contents_of st.contents f))
    (map (element_from (c + delay_at p f)) (moved Push f (steps_in p c st))) in
    let pushed = length-map (moved Push f (steps_in p c st)) (element_from (c + delay_at p f)) in
    let kept = length-drop popped (contents_of st.contents f) in
    omega arith

room_or_full : (fifo : Bool) (depth held : ℕ) → fifo ≡ true → (b : Bool) → (fifo && nat_le depth held) ≡ b
    → ((b ≡ true) ⊎ (held < depth))
room_or_full false depth held e b q = cc
room_or_full true depth held e true q = inl refl
room_or_full true depth held e false q = inr (leb-false depth held q)

pub within_depth : (p : Plan) → FitsEngine p → (f c : ℕ) → f < length p.design.channels → is_fifo (kind_at p f) ≡ true
    → fill p f c ≤ slice_index p.depths f
unfolding fill
within_depth p fits f zero l fifo =
    let empty = ap (λ (held : List Element). length held) (fifo_opens_empty p fits f l fifo) in omega arith
within_depth p fits f (suc c) l fifo =
    let before = within_depth p fits f c l fifo in
    let inside : f < length (state p c).contents = omega (arith, same_channels p c, channel_count p) in
    let after = after_clock p c (state p c) f inside in
    let once = moves_once p (keeps_ports p fits) c (state p c) Push f in
    subst (λ (st : ClockState). length (contents_of st.contents f) ≤ slice_index p.depths f) (sym (state-suc p c))
    (elim (room_or_full (is_fifo (kind_at p f)) (slice_index p.depths f) (length (contents_of (state p c).contents f)) fifo
    (is_full p f (contents_of (state p c).contents f)) refl) [
      | inl full ↦ (let none = ap length (pushed_in p c (state p c) f (ap not full)) in omega arith)
      | inr room ↦ omega arith
    ])
