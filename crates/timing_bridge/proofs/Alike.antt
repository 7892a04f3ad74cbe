-- What is possible by the contents is possible by counts, and what is told and moved is the same.
use Rattle.std.proofs.Common.{◌≡◌, ℕ, suc, ◌+◌, ◌-◌, ◌<◌, List, [], ◌∷◌, ◌++◌, map, length, get_or, Bool, false, ◌||◌, ◌&&◌, not, cond}
use Rattle.std.proofs.Common.{refl, sym, ◌∙◌, ap, ap₂, arith, ◌==◌, ltb, length-append, add-zero}
use Rattle.std.proofs.{lemmas.Bool.or_parts, lemmas.List.get_or-drop}
use Rattle.std.specs.List.{list_any, AllByRecursion}
use Rattle.event_timing.proofs.Values.{length_values}
use Rattle.timing_bridge.specs.{Side, same_side, side_of, is_blocking, is_taking, Kind, Plan, Element, ModuleState, Request, Reply}
use Rattle.timing_bridge.specs.{delay_at, FitsEngine, is_yes, value_in, StandsAtPort, all_in, front, values, can_take, stalls, reply}
use Rattle.timing_bridge.specs.{reply_by, popped_value, pushed_value, moved_by, moved, contents_of, requests_of, answered, state, history}
use Rattle.timing_bridge.specs.{takes_in, values_in, can_all, reply_to, design, lockstep_run, seen_request, told, told_all}
use Rattle.flow_word.specs.declared.access.Side.TheVariants.{Pop, Push}
use Rattle.lockstep_defs.proofs.{Queue.contents_are, Queue.channel_count, Rules.keeps_ports, Counts.is_counted}
use Rattle.timing_bridge.proofs.Requests.{stand}
use Rattle.event_timing.specs.Machines as theory
use Rattle.event_timing.specs.Histories as counted

-- ---- one channel

possible_same : (p : Plan) → FitsEngine p → (c : ℕ) (side : Side) (f : ℕ) → f < length p.design.channels
    → counted.is_possible (design p) (lockstep_run p) c side f ≡ can_take p c (state p c).contents side f
possible_same p h c Pop f l =
    ap (λ (n : ℕ). ltb (length (moved Pop f (history p c))) n)
    (sym (length-append (values (contents_of (state p 0).contents f)) (moved Push f (history p (suc c - delay_at p f)))))
    ∙ sym (is_counted p h c f l).pops
possible_same p h c Push f l =
    let now : suc c - 1 ≡ c = omega arith in
    let counted = is_counted p h c f l in
    rw now (grind (arith, counted.pushes, counted.unlimited))

first_value : (held : List Element) → get_or (values held) 0 0 ≡ front held
first_value [] = refl
first_value (e ∷ held) = refl

front_same : (p : Plan) → FitsEngine p → (c f : ℕ) → f < length p.design.channels
    → get_or (all_in p c f) (length (moved Pop f (history p c))) 0 ≡ front (contents_of (state p c).contents f)
front_same p h c f l =
    let n = length (moved Pop f (history p c)) in
    ap (λ (i : ℕ). get_or (all_in p c f) i 0) (sym (add-zero n))
    ∙ (sym (get_or-drop n (all_in p c f) 0 0)
    ∙ (ap (λ (xs : List ℕ). get_or xs 0 0) (sym (contents_are p (keeps_ports p h) f (omega (arith, channel_count p)) c))
    ∙ first_value (contents_of (state p c).contents f)))

-- ---- requests

-- the theory finds this request as possible as the contents do, and the same front
pub record Alike (p : Plan) (c : ℕ) (r : Request) : Type 0 where
  pub possible : counted.is_possible (design p) (lockstep_run p) c (side_of r.kind) r.channel
      ≡ can_take p c (state p c).contents (side_of r.kind) r.channel
  pub front : get_or (all_in p c r.channel) (length (moved Pop r.channel (history p c))) 0
      ≡ front (contents_of (state p c).contents r.channel)

alike_all : (p : Plan) → FitsEngine p → (c i : ℕ) (rs : List Request) → AllByRecursion (StandsAtPort p i) rs → AllByRecursion (Alike p c) rs
alike_all p h c i [] e = tt
alike_all p h c i (r ∷ rs) e = (
  record { possible = possible_same p h c (side_of r.kind) r.channel (e.0).in_range; front = front_same p h c r.channel (e.0).in_range },
  alike_all p h c i rs e.1,
)

pub alike : (p : Plan) → FitsEngine p → (c i : ℕ) (s : ModuleState) → AllByRecursion (Alike p c) (requests_of p (i, s))
alike p h c i s = alike_all p h c i (requests_of p (i, s)) (stand p h i s)

can_both : (b q x : Bool) → ((not b || q) && not x) ≡ not ((b && not q) || x)
can_both b q x = grind arith

pub can_same : (p : Plan) (c : ℕ) (rs : List Request) → AllByRecursion (Alike p c) rs
    → can_all (design p) (lockstep_run p) c (map seen_request rs) ≡ not (list_any (stalls p c (state p c).contents) rs)
can_same p c [] h = refl
can_same p c (r ∷ rs) h =
    ap₂ (λ (q x : Bool). (not (is_blocking r.kind) || q) && x) (h.0).possible (can_same p c rs h.1)
    ∙ can_both (is_blocking r.kind) (can_take p c (state p c).contents (side_of r.kind) r.channel)
    (list_any (stalls p c (state p c).contents) rs)

-- ---- replies

told_kind : (k : Kind) (q : Bool) (v : ℕ) → (is_blocking k && not q) ≡ false
    → reply_by k q (cond (is_taking k && (same_side (side_of k) Pop && q)) v 0) ≡ reply_by k q v
told_kind k q v h = grind arith

told_one : (p : Plan) (c : ℕ) (r : Request) → Alike p c r → stalls p c (state p c).contents r ≡ false
    → told r (reply_to (design p) (lockstep_run p) c (seen_request r)) ≡ reply p c (state p c).contents r
unfolding reply
told_one p c r h e =
    ap₂ (λ (q : Bool) (v : ℕ). reply_by r.kind q (cond (is_taking r.kind && (same_side (side_of r.kind) Pop && q)) v 0)) h.possible h.front
    ∙ told_kind r.kind (can_take p c (state p c).contents (side_of r.kind) r.channel)
    (front (contents_of (state p c).contents r.channel)) e

-- the theory's replies to these requests
abbrev pub counted_replies : Plan → ℕ → List Request → List theory.Reply
counted_replies p c rs = map (reply_to (design p) (lockstep_run p) c) (map seen_request rs)

pub told_same : (p : Plan) (c : ℕ) (rs : List Request) → AllByRecursion (Alike p c) rs
    → list_any (stalls p c (state p c).contents) rs ≡ false → told_all rs (counted_replies p c rs) ≡ map (reply p c (state p c).contents) rs
told_same p c [] h e = refl
told_same p c (r ∷ rs) h e =
    let parts = or_parts (stalls p c (state p c).contents r) (list_any (stalls p c (state p c).contents) rs) e in
    ap₂ (λ (x : Reply) (xs : List Reply). x ∷ xs) (told_one p c r h.0 parts.0) (told_same p c rs h.1 parts.1)

-- ---- what is popped and pushed

pub pop_kind : (k : Kind) (q t : Bool) (v : ℕ) → (is_blocking k && not q) ≡ false
    → cond (is_taking k && (q && (same_side (side_of k) Pop && t))) 1 0
    ≡ length (cond t (popped_value k (is_yes (reply_by k q v)) (value_in (reply_by k q v))) [])
pop_kind k q t v h = grind arith

pub push_kind : (k : Kind) (q t : Bool) (v w : ℕ) → (is_blocking k && not q) ≡ false
    → cond (is_taking k && (q && (same_side (side_of k) Push && t))) (w ∷ []) [] ≡ cond t (pushed_value k (is_yes (reply_by k q v)) w) []
push_kind k q t v w h = grind arith

pops_same : (p : Plan) (c f : ℕ) (rs : List Request) → AllByRecursion (Alike p c) rs → list_any (stalls p c (state p c).contents) rs ≡ false
    → takes_in Pop f (map seen_request rs) (counted_replies p c rs) ≡ length (moved_by Pop f (map (answered p c (state p c).contents) rs))
unfolding moved_by reply
pops_same p c f [] h e = refl
pops_same p c f (r ∷ rs) h e =
    let cs = (state p c).contents in
    let parts = or_parts (stalls p c cs r) (list_any (stalls p c cs) rs) e in
    ap₂ (λ (q : Bool) (n : ℕ). cond (is_taking r.kind && (q && (same_side (side_of r.kind) Pop && (r.channel == f)))) 1 0 + n)
    (h.0).possible (pops_same p c f rs h.1 parts.1)
    ∙ (ap (λ (n : ℕ). n + length (moved_by Pop f (map (answered p c cs) rs)))
    (pop_kind r.kind (can_take p c cs (side_of r.kind) r.channel) (r.channel == f) (front (contents_of cs r.channel)) parts.0)
    ∙ sym (length-append _ _))

pub pushes_same : (p : Plan) (c f : ℕ) (rs : List Request) → AllByRecursion (Alike p c) rs
    → list_any (stalls p c (state p c).contents) rs ≡ false
    → values_in f (map seen_request rs) (counted_replies p c rs) ≡ moved_by Push f (map (answered p c (state p c).contents) rs)
unfolding moved_by reply
pushes_same p c f [] h e = refl
pushes_same p c f (r ∷ rs) h e =
    let cs = (state p c).contents in
    let parts = or_parts (stalls p c cs r) (list_any (stalls p c cs) rs) e in
    ap₂ (λ (q : Bool) (vs : List ℕ). cond (is_taking r.kind && (q && (same_side (side_of r.kind) Push && (r.channel == f))))
    (r.value ∷ []) [] ++ vs) (h.0).possible (pushes_same p c f rs h.1 parts.1)
    ∙ ap (λ (vs : List ℕ). vs ++ moved_by Push f (map (answered p c cs) rs))
    (push_kind r.kind (can_take p c cs (side_of r.kind) r.channel) (r.channel == f)
    (front (contents_of cs r.channel)) r.value parts.0)

-- what these requests take at a side, by counts, is what they move there
pub taken_same : (p : Plan) (c : ℕ) (side : Side) (f : ℕ) (rs : List Request) → AllByRecursion (Alike p c) rs
    → list_any (stalls p c (state p c).contents) rs ≡ false
    → takes_in side f (map seen_request rs) (counted_replies p c rs) ≡ length (moved_by side f (map (answered p c (state p c).contents) rs))
taken_same p c Pop f rs h e = pops_same p c f rs h e
taken_same p c Push f rs h e = sym (length_values f (map seen_request rs) (counted_replies p c rs)) ∙ ap length (pushes_same p c f rs h e)
