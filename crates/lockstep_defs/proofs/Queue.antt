-- A channel is a queue: what went in is what was popped off it, and then what it holds.
use Rattle.std.proofs.Common.{◌≡◌, ℕ, zero, suc, ◌+◌, ◌≤◌, ◌<◌, List, [], ◌∷◌, ◌++◌, map, length, drop, Bool, true, false, ◌&&◌, ◌==◌, not}
use Rattle.std.proofs.Common.{cond, refl, sym, ◌∙◌, ap, subst, arith, append_assoc, zero-add, ◌⊎◌, inl, inr}
use Rattle.std.proofs.lemmas.List.{append-nil, length-map, get_or-map, length-append, map-append}
use Rattle.std.proofs.{lemmas.List.Concat.flat_map-append, Math.Seq.drop-append_seam, Math.ListN.get_or-append}
use Rattle.std.proofs.lemmas.List.FromFn.{get_or-enumerate_from, length-enumerate_from, length-map-range_with_len}
use Rattle.std.proofs.lemmas.Bool.{eqb-true, eq-eqb, cases_Bool, or_parts, and_parts, not-true}
use Rattle.std.specs.List.{list_any, enumerate_from, flat_map, AllByRecursion}
use Rattle.lockstep_defs.specs.{Side, Kind, side_of, is_blocking, Plan, Element, ClockState, ModuleState, Request, delay_at, uses, is_over}
use Rattle.lockstep_defs.specs.{is_yes, value_in, all_in, IsConserved, PopsInOrder, HistoryStep, Exchange, values, is_empty, front}
use Rattle.lockstep_defs.specs.{element_from, can_take, stalls, reply, reply_by, popped_value, moved_value, moved_by, moved, contents_of}
use Rattle.lockstep_defs.specs.{module_at, numbered, requests_of, moves, answered, step_with, module_step, steps_in, contents_after}
use Rattle.lockstep_defs.specs.{clock_step, inputs_of, opening, moment, state, history, owner, is_taker, taking_requests}
use Rattle.flow_word.specs.declared.access.Side.TheVariants.{Pop, Push}
use Rattle.flow_word.specs.declared.access.Kind.TheVariants.{Read, Write, TryRead, TryWrite, Empty, Full}
use Rattle.flow_design.specs.declared.state.Reply.TheVariants.{Took, Missed}
use Rattle.lockstep_defs.proofs.{Settled.state-suc, Settled.history-suc, Once.KeepsPorts, Once.port_on, Once.takers_once, Once.no_takers}

-- ---- what steps move

pub moved-nil : (side : Side) (f : ℕ) → moved side f [] ≡ []
unfolding moved
moved-nil side f = refl

pub moved-append : (side : Side) (f : ℕ) (steps more : List HistoryStep)
    → moved side f (steps ++ more) ≡ moved side f steps ++ moved side f more
unfolding moved
moved-append side f steps more = flat_map-append _ steps more

pub moved_by-append : (side : Side) (f : ℕ) (xs ys : List Exchange) → moved_by side f (xs ++ ys) ≡ moved_by side f xs ++ moved_by side f ys
unfolding moved_by
moved_by-append side f xs ys = flat_map-append _ xs ys

pub moved-step : (c i : ℕ) (side : Side) (f : ℕ) (xs : List Exchange) → moved side f (step_with c i xs) ≡ moved_by side f xs
unfolding moved moved_by
moved-step c i side f [] = refl
moved-step c i side f (x ∷ xs) = append-nil _

-- ---- at most one element a clock

-- a request moves nothing, or it pops or pushes at this port
one_moves : (kind : Kind) (q : Bool) (channel value front : ℕ) (side : Side) (f : ℕ)
    → length (cond (channel == f) (moved_value side
    (record { request = record { kind = kind; channel = channel; value = value }; reply = reply_by kind q front })) [])
    ≤ cond (is_taker (port_on side f) (record { kind = kind; channel = channel; value = value })) 1 0
one_moves kind q channel value front side f = by_test (channel == f) refl
  where
    by_kind : (k : Kind) (t : Bool) (side : Side)
        → length (moved_value side (record { request = record { kind = k; channel = f; value = value }; reply = reply_by k t front }))
        ≤ cond (is_taker (port_on side f) (record { kind = k; channel = f; value = value })) 1 0
    by_kind Read t Pop = rw (eq-eqb f f refl) (omega arith)
    by_kind Read t Push = omega arith
    by_kind Write t Pop = omega arith
    by_kind Write t Push = rw (eq-eqb f f refl) (omega arith)
    by_kind TryRead true Pop = rw (eq-eqb f f refl) (omega arith)
    by_kind TryRead false Pop = omega arith
    by_kind TryRead t Push = omega arith
    by_kind TryWrite t Pop = omega arith
    by_kind TryWrite true Push = rw (eq-eqb f f refl) (omega arith)
    by_kind TryWrite false Push = omega arith
    by_kind Empty t Pop = omega arith
    by_kind Empty t Push = omega arith
    by_kind Full t Pop = omega arith
    by_kind Full t Push = omega arith

    by_test : (b : Bool) → (channel == f) ≡ b
        → length (cond b (moved_value side
        (record { request = record { kind = kind; channel = channel; value = value }; reply = reply_by kind q front })) [])
        ≤ cond (is_taker (port_on side f) (record { kind = kind; channel = channel; value = value })) 1 0
    by_test false e = omega arith
    by_test true e = rw (eqb-true channel f e) (by_kind kind q side)

count_more : (b : Bool) (r : Request) (rs : List Request) → length (cond b (r ∷ rs) rs) ≡ cond b 1 0 + length rs
count_more true r rs = omega arith
count_more false r rs = omega arith

moved_counted : (p : Plan) (c : ℕ) (contents : List (List Element)) (side : Side) (f : ℕ) (rs : List Request)
    → length (moved_by side f (map (answered p c contents) rs)) ≤ length (taking_requests (port_on side f) rs)
unfolding moved_by reply
moved_counted p c contents side f [] = omega arith
moved_counted p c contents side f (r ∷ rs) =
    let here = one_moves r.kind (can_take p c contents (side_of r.kind) r.channel) r.channel r.value
    (front (contents_of contents r.channel)) side f in
    let rest = moved_counted p c contents side f rs in
    rw (length-append, count_more (is_taker (port_on side f) r) r (taking_requests (port_on side f) rs)) (omega arith)

step_moves : (p : Plan) (c : ℕ) (contents : List (List Element)) (side : Side) (f : ℕ) (m : ℕ × ModuleState)
    → length (moved side f (module_step p c contents m)) ≤ length (taking_requests (port_on side f) (requests_of p m))
step_moves p c contents side f m = by_test (moves p c contents m)
  where
    by_test : (b : Bool) → length (moved side f (cond b (step_with c m.0 (map (answered p c contents) (requests_of p m))) []))
        ≤ length (taking_requests (port_on side f) (requests_of p m))
    by_test true = rw moved-step (moved_counted p c contents side f (requests_of p m))
    by_test false = rw moved-nil (omega arith)

-- the steps of the modules from n on move at most one element at a side, and none where its owner stands before them
later_moves : (p : Plan) → KeepsPorts p → (c : ℕ) (contents : List (List Element)) (side : Side) (f n : ℕ) (ss : List ModuleState)
    → (length (moved side f (flat_map (module_step p c contents) (enumerate_from n ss))) ≤ 1)
    × (owner p (port_on side f) < n → length (moved side f (flat_map (module_step p c contents) (enumerate_from n ss))) ≤ 0)
later_moves p h c contents side f n [] = (rw moved-nil (omega arith), λ l. rw moved-nil (omega arith))
later_moves p h c contents side f n (s ∷ ss) =
    let here = module_step p c contents (n, s) in
    let later = flat_map (module_step p c contents) (enumerate_from (n + 1) ss) in
    let rest = later_moves p h c contents side f (n + 1) ss in
    let total = ap length (moved-append side f here later) ∙ length-append (moved side f here) (moved side f later) in
    by_case total rest (cases_Bool (uses (port_on side f) (module_at p n)))
  where
    by_case : length (moved side f (module_step p c contents (n, s) ++ flat_map (module_step p c contents) (enumerate_from (n + 1) ss)))
        ≡ length (moved side f (module_step p c contents (n, s))) + length
        (moved side f (flat_map (module_step p c contents) (enumerate_from (n + 1) ss)))
        → (length (moved side f (flat_map (module_step p c contents) (enumerate_from (n + 1) ss))) ≤ 1)
        × (owner p (port_on side f) < n + 1 → length (moved side f (flat_map (module_step p c contents) (enumerate_from (n + 1) ss))) ≤ 0)
        → (uses (port_on side f) (module_at p n) ≡ true) ⊎ (uses (port_on side f) (module_at p n) ≡ false)
        → (length (moved side f (module_step p c contents (n, s) ++ flat_map (module_step p c contents) (enumerate_from (n + 1) ss))) ≤ 1)
        × (owner p (port_on side f) < n
        → length (moved side f (module_step p c contents (n, s) ++ flat_map (module_step p c contents) (enumerate_from (n + 1) ss))) ≤ 0)
    by_case total rest (inl used) =
        let owned = h.owned (port_on side f) n used in
        let one = takers_once p h (port_on side f) n s in
        let moved_one = step_moves p c contents side f (n, s) in
        let none = rest.1 (omega arith) in
        (omega arith, λ l. absurd (omega arith))
    by_case total rest (inr unused) =
        let none = no_takers p (port_on side f) n s unused in
        let moved_none = step_moves p c contents side f (n, s) in
        (omega (arith, rest.0), λ l. omega (arith, rest.1 (omega arith)))

-- at most one element is popped off a channel in a clock, and at most one is pushed on it
pub moves_once : (p : Plan) → KeepsPorts p → (c : ℕ) (st : ClockState) (side : Side) (f : ℕ) → length (moved side f (steps_in p c st)) ≤ 1
unfolding steps_in
moves_once p h c st side f = (later_moves p h c st.contents side f 0 st.modules).0

-- ---- what is popped is the front

abbrev IsFront : List Element → ℕ → Type 0
IsFront held v = (e : Element) × (rest : List Element) × (held ≡ e ∷ rest) × (v ≡ e.value)

pub all-append : {X : Type 0} (P : X → Type 0) (xs ys : List X) → AllByRecursion P xs → AllByRecursion P ys → AllByRecursion P (xs ++ ys)
all-append P [] ys a b = b
all-append P (x ∷ xs) ys a b = (a.0, all-append P xs ys a.1 b)

-- the reply to a request that does not stall pops nothing but the front
pops_front : (p : Plan) (c : ℕ) (contents : List (List Element)) (kind : Kind) (f : ℕ)
    → (is_blocking kind && not (can_take p c contents (side_of kind) f)) ≡ false
    → let r = reply_by kind (can_take p c contents (side_of kind) f) (front (contents_of contents f)) in
    AllByRecursion (IsFront (contents_of contents f)) (popped_value kind (is_yes r) (value_in r))
pops_front p c contents Read f h = by_contents (contents_of contents f) h
  where
    by_contents : (held : List Element) → not (not (is_empty c held)) ≡ false → AllByRecursion (IsFront held) (front held ∷ [])
    by_contents [] h = cc
    by_contents (x ∷ xs) h = ((x, xs, refl, refl), tt)
pops_front p c contents Write f h = tt
pops_front p c contents TryRead f h = by_contents (contents_of contents f)
  where
    by_contents : (held : List Element) → let r = cond (not (is_empty c held)) (Took (front held)) Missed in
        AllByRecursion (IsFront held) (popped_value TryRead (is_yes r) (value_in r))
    by_contents [] = tt
    by_contents (x ∷ xs) = by_test (is_empty c (x ∷ xs))
      where
        by_test : (b : Bool) → let r = cond (not b) (Took x.value) Missed in
            AllByRecursion (IsFront (x ∷ xs)) (popped_value TryRead (is_yes r) (value_in r))
        by_test true = tt
        by_test false = ((x, xs, refl, refl), tt)
pops_front p c contents TryWrite f h = tt
pops_front p c contents Empty f h = tt
pops_front p c contents Full f h = tt

front_at : (p : Plan) (c : ℕ) (contents : List (List Element)) (f : ℕ) (r : Request) (b : Bool) → (r.channel == f) ≡ b
    → stalls p c contents r ≡ false
    → AllByRecursion (IsFront (contents_of contents f)) (cond b (moved_value Pop (answered p c contents r)) [])
unfolding reply
front_at p c contents f r false e h = tt
front_at p c contents f r true e h =
    subst (λ (g : ℕ). AllByRecursion (IsFront (contents_of contents g)) (moved_value Pop (answered p c contents r)))
    (eqb-true r.channel f e)
    (pops_front p c contents r.kind r.channel h)

fronts_of : (p : Plan) (c : ℕ) (contents : List (List Element)) (f : ℕ) (rs : List Request) → list_any (stalls p c contents) rs ≡ false
    → AllByRecursion (IsFront (contents_of contents f)) (moved_by Pop f (map (answered p c contents) rs))
unfolding moved_by
fronts_of p c contents f [] h = tt
fronts_of p c contents f (r ∷ rs) h =
    let parts = or_parts (stalls p c contents r) (list_any (stalls p c contents) rs) h in
    all-append _ _ _ (front_at p c contents f r (r.channel == f) refl parts.0) (fronts_of p c contents f rs parts.1)

-- a module that moves has no request that stalls
pub nothing_stalls : (p : Plan) (c : ℕ) (contents : List (List Element)) (m : ℕ × ModuleState) → moves p c contents m ≡ true
    → list_any (stalls p c contents) (requests_of p m) ≡ false
unfolding moves
nothing_stalls p c contents m h = not-true _ (and_parts (not (is_over p.ops m.1)) _ h).1

fronts_by : (p : Plan) (c : ℕ) (contents : List (List Element)) (f : ℕ) (m : ℕ × ModuleState) (b : Bool) → moves p c contents m ≡ b
    → AllByRecursion (IsFront (contents_of contents f))
    (moved Pop f (cond b (step_with c m.0 (map (answered p c contents) (requests_of p m))) []))
fronts_by p c contents f m false e = rw moved-nil tt
fronts_by p c contents f m true e = rw moved-step (fronts_of p c contents f (requests_of p m) (nothing_stalls p c contents m e))

fronts : (p : Plan) (c : ℕ) (contents : List (List Element)) (f : ℕ) (ms : List (ℕ × ModuleState))
    → AllByRecursion (IsFront (contents_of contents f)) (moved Pop f (flat_map (module_step p c contents) ms))
fronts p c contents f [] = rw moved-nil tt
fronts p c contents f (m ∷ ms) =
    rw moved-append (all-append _ _ _ (fronts_by p c contents f m (moves p c contents m) refl) (fronts p c contents f ms))

fronts_in : (p : Plan) (c : ℕ) (st : ClockState) (f : ℕ)
    → AllByRecursion (IsFront (contents_of st.contents f)) (moved Pop f (steps_in p c st))
unfolding steps_in
fronts_in p c st f = fronts p c st.contents f (numbered st)

-- at most one value, which is the front, is a beginning of the contents
front_is_prefix : (held : List Element) (vs : List ℕ) → AllByRecursion (IsFront held) vs → length vs ≤ 1
    → values held ≡ vs ++ values (drop (length vs) held)
front_is_prefix held [] a h = refl
front_is_prefix held (v ∷ []) a h = let (e, rest, is, same) = a.0 in rw (is, same) refl
front_is_prefix held (v ∷ w ∷ vs) a h = absurd (omega arith)

-- so many elements are there
front_within : (held : List Element) (vs : List ℕ) → AllByRecursion (IsFront held) vs → length vs ≤ 1 → length vs ≤ length held
front_within held [] a h = omega arith
front_within held (v ∷ []) a h = let (e, rest, is, same) = a.0 in rw is (omega arith)
front_within held (v ∷ w ∷ vs) a h = absurd (omega arith)

pub popped_within : (p : Plan) → KeepsPorts p → (c : ℕ) (st : ClockState) (f : ℕ)
    → length (moved Pop f (steps_in p c st)) ≤ length (contents_of st.contents f)
popped_within p k c st f = front_within (contents_of st.contents f) (moved Pop f (steps_in p c st)) (fronts_in p c st f)
    (moves_once p k c st Pop f)

-- ---- one clock of one channel

pub contents-step : (p : Plan) (c : ℕ) (st : ClockState) (f : ℕ) → f < length st.contents
    → contents_of (clock_step p c st).contents f ≡ contents_after p c (steps_in p c st) (f, contents_of st.contents f)
unfolding clock_step
contents-step p c st f h =
    let steps = steps_in p c st in
    let inside : f < length (enumerate_from 0 st.contents) = omega (arith, length-enumerate_from 0 st.contents) in
    let here : (0 + f, contents_of st.contents f)
    ≡ (f, contents_of st.contents f) = ap (λ (n : ℕ). (n, contents_of st.contents f)) (zero-add f) in
    get_or-map (contents_after p c steps) (enumerate_from 0 st.contents) f (0, []) [] inside
    ∙ ap (contents_after p c steps) (get_or-enumerate_from 0 st.contents f (0, []) h ∙ here)

length-contents : (p : Plan) (c : ℕ) (st : ClockState) → length (clock_step p c st).contents ≡ length st.contents
unfolding clock_step
length-contents p c st = length-map (enumerate_from 0 st.contents) (contents_after p c (steps_in p c st))
    ∙ length-enumerate_from 0 st.contents

pub same_channels : (p : Plan) (c : ℕ) → length (state p c).contents ≡ length (state p 0).contents
same_channels p zero = refl
same_channels p (suc c) = ap (λ (st : ClockState). length st.contents) (state-suc p c)
    ∙ (length-contents p c (state p c) ∙ same_channels p c)

-- elements that are made of values have these values
pub values_from : (t : ℕ) (vs : List ℕ) → values (map (element_from t) vs) ≡ vs
values_from t [] = refl
values_from t (v ∷ vs) = ap (λ (l : List ℕ). v ∷ l) (values_from t vs)

poured : (p : Plan) → KeepsPorts p → (c : ℕ) (st : ClockState) (f : ℕ) → f < length st.contents
    → values (contents_of st.contents f) ++ moved Push f (steps_in p c st) ≡ moved Pop f (steps_in p c st)
    ++ values (contents_of (clock_step p c st).contents f)
poured p k c st f h =
    let steps = steps_in p c st in
    let begins = front_is_prefix (contents_of st.contents f) (moved Pop f steps) (fronts_in p c st f) (moves_once p k c st Pop f) in
    ap (λ (l : List ℕ). l ++ moved Push f steps) begins
    ∙ (append_assoc (moved Pop f steps) (values (drop (length (moved Pop f steps)) (contents_of st.contents f))) (moved Push f steps)
    ∙ ap (λ (l : List ℕ). moved Pop f steps ++ l) (sym (ap values (contents-step p c st f h)
    ∙ (map-append (λ (e : Element). e.value) (drop (length (moved Pop f steps)) (contents_of st.contents f))
    (map (element_from (c + delay_at p f)) (moved Push f steps))
    ∙ ap (λ (l : List ℕ). values (drop (length (moved Pop f steps)) (contents_of st.contents f)) ++ l)
    (values_from (c + delay_at p f) (moved Push f steps))))))

-- ---- all clocks

regroup : (x ph pe qh qe y z : List ℕ) → x ++ ph ≡ qh ++ y → y ++ pe ≡ qe ++ z → x ++ (ph ++ pe) ≡ (qh ++ qe) ++ z
regroup x ph pe qh qe y z before now =
    sym (append_assoc x ph pe)
    ∙ (ap (λ (l : List ℕ). l ++ pe) before ∙ (append_assoc qh y pe ∙ (ap (λ (l : List ℕ). qh ++ l) now ∙ sym (append_assoc qh qe z))))

conserved_first : (p : Plan) (f : ℕ) → IsConserved p 0 f
unfolding moment moved
conserved_first p f = append-nil _

pub conserved : (p : Plan) → KeepsPorts p → (f : ℕ) → f < length (state p 0).contents → (c : ℕ) → IsConserved p c f
conserved p k f h zero = conserved_first p f
conserved p k f h (suc c) =
    let inside : f < length (state p c).contents = omega (arith, same_channels p c) in
    rw (history-suc, state-suc, moved-append Push f, moved-append Pop f)
    (regroup (values (contents_of (state p 0).contents f)) (moved Push f (history p c)) _ (moved Pop f (history p c)) _
    (values (contents_of (state p c).contents f)) _
    (conserved p k f h c) (poured p k c (state p c) f inside))

-- the contents are what went in without as many as were popped
pub contents_are : (p : Plan) → KeepsPorts p → (f : ℕ) → f < length (state p 0).contents → (c : ℕ)
    → values (contents_of (state p c).contents f) ≡ drop (length (moved Pop f (history p c))) (all_in p c f)
contents_are p k f h c = rw (conserved p k f h c)
    (sym (drop-append_seam (moved Pop f (history p c)) (values (contents_of (state p c).contents f))))

pub pops_in_order : (p : Plan) → KeepsPorts p → (f : ℕ) → f < length (state p 0).contents → (c : ℕ) → PopsInOrder p c f
pops_in_order p k f h c n d below =
    rw (conserved p k f h c) (sym (get_or-append (moved Pop f (history p c)) (values (contents_of (state p c).contents f)) d n below))

pub channel_count : (p : Plan) → length (state p 0).contents ≡ length p.design.channels
unfolding moment opening
channel_count p = length-map-range_with_len (inputs_of p) 0 (length p.design.channels)
