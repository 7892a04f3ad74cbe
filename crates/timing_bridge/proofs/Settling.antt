-- What the lockstep machine shows at a settled clock, read off a final core.
use Rattle.std.proofs.{lemmas.Bool.Decides.nat_tests, lemmas.Bool.cond-false, lemmas.Bool.le-ltb}
use Rattle.std.proofs.Common.{◌≡◌, ℕ, zero, suc, ◌+◌, ◌≤◌, ◌<◌, List, [], ◌∷◌, ◌++◌, map, length, get_or, drop, Bool, true, false, ◌&&◌}
use Rattle.std.proofs.Common.{not, max, refl, sym, ◌∙◌, ap, ap₂, subst, arith, None, Option, zero-add}
use Rattle.std.proofs.lemmas.List.{same_lists, get_or_default}
use Rattle.std.proofs.lemmas.List.FromFn.{length-map-range_with_len, get_or-map-range_with_len}
use Rattle.std.specs.List.{find, filter, filter_map, enumerate_from, cons_option, AllByRecursion, range_with_len}
use Rattle.std.specs.Prelude.{option_map}
use Rattle.timing_bridge.specs.{Side, side_of, is_blocking, ChannelKind, Plan, Held, ClockState, ModuleState, Request, is_sink, kind_at}
use Rattle.timing_bridge.specs.{FitsEngine, nobody, is_over, sinks, outputs_in, owner, has_port, all_in, stalls, all_ready, moved, values}
use Rattle.timing_bridge.specs.{contents_of, requests_of, steps_in, state, state_at, history, held_at, held_by, held_modules, Each, ready}
use Rattle.timing_bridge.specs.{done, view, IsFinal, Known, answer, known_of, IsAgreed, IsUndetermined, stop, design, lockstep_run}
use Rattle.timing_bridge.specs.{seen_request, modules_of, core_state, is_from, is_stuck, core_held_by, sink_values}
use Rattle.flow_word.specs.declared.access.Side.TheVariants.{Pop, Push}
use Rattle.lockstep_defs.proofs.Settled.{history-zero, history-suc, settled_stays, same_stalls, late_stalls, latest_all}
use Rattle.lockstep_defs.proofs.Queue.{moved-nil, moved-append, contents_are, channel_count}
use Rattle.lockstep_defs.proofs.{Rules.keeps_ports, Agrees.all_modules}
use Rattle.event_timing.specs.{Core.Core, Enablers.From, Enablers.Never, Enablers.Unknown}
use Rattle.event_timing.proofs.{Standing.late_ready, Candidate.since_first, Candidate.rest_first, Agreement.stuck_ended, Verdict.done_last}
use Rattle.event_timing.proofs.{Verdict.rests, Fronts.agrees, FinalReport.held_right, FinalReport.outputs_right}
use Rattle.timing_bridge.proofs.{Alike.Alike, Alike.alike, Verdicts.settled_from, History.plan_is_design, History.run_is_history}
use Rattle.timing_bridge.proofs.Moved.{StandsElsewhere, none_shared, moved_in}
use Rattle.event_timing.specs.Histories as counted

-- ---- states

-- from its stop on a module has the state after its steps and quiet clocks
last_state : (p : Plan) → FitsEngine p → (limit : ℕ) (x : Core ModuleState) → IsAgreed (design p) (lockstep_run p) limit x
    → IsFinal (design p) limit x → IsUndetermined (design p) x → (c i : ℕ) → stop (design p) x i ≤ c → state_at p c i ≡ core_state p x i
last_state p h limit x g f u c i l =
    let d = design p in
    let w = lockstep_run p in
    let is = plan_is_design p h in
    let hist = run_is_history p h in
    let a = agrees d w limit x g.marks g.time in
    let k = done_last d w is hist limit x g f u i c (omega arith) in
    let since = since_first d w (view d x) a i c (omega arith) k in
    let rest = rest_first d w is hist (view d x) a i c k in
    let e = ap₂ (λ (n : ℕ) (s : ModuleState). n + d.quiet i s) since rest in
    late_ready d w is hist i c (omega arith) ∙ ap (ready d i) rest

-- all states at once
pub last_states : (p : Plan) → FitsEngine p → (limit : ℕ) (x : Core ModuleState) → IsAgreed (design p) (lockstep_run p) limit x
    → IsFinal (design p) limit x → IsUndetermined (design p) x → (c : ℕ) → ((i : ℕ) → stop (design p) x i ≤ c)
    → (state p c).modules ≡ map (core_state p x) (modules_of p)
last_states p h limit x g f u c top =
    let n = all_modules p c in
    same_lists (state p c).modules (map (core_state p x) (modules_of p))
    (n ∙ sym (length-map-range_with_len (core_state p x) 0 (length p.design.modules)))
    (λ k d l.
    let inside : k < length p.design.modules = omega arith in
    get_or_default (state p c).modules k d nobody l
    ∙ (last_state p h limit x g f u c k (top k)
    ∙ sym (get_or-map-range_with_len (core_state p x) 0 (length p.design.modules) k k d inside (zero-add k))))

-- ---- held modules

pub find_alike : (f g : Request → Bool) (rs : List Request) → AllByRecursion (λ r. f r ≡ g r) rs → find f rs ≡ find g rs
find_alike f g [] h = refl
find_alike f g (r ∷ rs) h = rw (h.0, find_alike f g rs h.1) refl

-- a clock from which on the answer is the same
abbrev latest_known : Known → ℕ
latest_known (From u) = u
latest_known Never = 0
latest_known Unknown = 0

abbrev latest_asked : Plan → Core ModuleState → ℕ → List Request → ℕ
latest_asked p x i [] = 0
latest_asked p x i (r ∷ rs) = max (latest_known (known_of (design p) (view (design p) x) i (seen_request r))) (latest_asked p x i rs)

late_answer : (k : Known) (c : ℕ) → latest_known k ≤ c → answer k c ≡ is_from k
late_answer k c l = grind (arith, nat_tests)

-- late enough a request stalls where the core does not know from when on it is possible
stalls_alike : (p : Plan) (x : Core ModuleState) (c i : ℕ) (rs : List Request) → latest_asked p x i rs ≤ c → AllByRecursion (Alike p c) rs
    → Each (λ a. counted.is_possible (design p) (lockstep_run p) c a.side a.channel
    ≡ answer (known_of (design p) (view (design p) x) i a) c) (map seen_request rs)
    → AllByRecursion (λ r. stalls p c (state p c).contents r ≡ is_stuck p x i r) rs
stalls_alike p x c i [] late h e = tt
stalls_alike p x c i (r ∷ rs) late h e = (
  ap (λ (b : Bool). is_blocking r.kind && not b)
      (sym (h.0).possible ∙ (e.0 ∙ late_answer (known_of (design p) (view (design p) x) i (seen_request r)) c (omega arith))),
  stalls_alike p x c i rs (omega arith) h.1 e.1,
)

all_by : (P Q : Request → Type 0) → ((r : Request) → P r → Q r) → (rs : List Request) → AllByRecursion P rs → AllByRecursion Q rs
all_by P Q f [] h = tt
all_by P Q f (r ∷ rs) h = (f r h.0, all_by P Q f rs h.1)

-- from a settled clock on a request of any clock stalls late enough as it would if every element could be popped
late_as_ready : (p : Plan) (c n : ℕ) → state p (n + c) ≡ state p c → latest_all (state p c).contents ≤ n + c → (r : Request)
    → stalls p c (all_ready (state p c).contents) r ≡ stalls p (n + c) (state p (n + c)).contents r
late_as_ready p c n same late r =
    same_stalls p c (n + c) (state p c).contents r
    ∙ (sym (late_stalls p (n + c) (state p c).contents late r)
    ∙ ap (λ (st : ClockState). stalls p (n + c) st.contents r) (sym same))

-- a module that is not over is held by the first request that the core knows to be stuck
held_is : (p : Plan) → FitsEngine p → (limit : ℕ) (x : Core ModuleState) → IsAgreed (design p) (lockstep_run p) limit x
    → IsFinal (design p) limit x
    → IsUndetermined (design p) x → (c : ℕ) → ((i : ℕ) → stop (design p) x i ≤ c) → (i : ℕ) → x.timed i < x.emitted i
    → held_by p c (all_ready (state p c).contents) (i, state_at p c i)
    ≡ option_map (held_at i) (find (is_stuck p x i) (requests_of p (i, x.state i (x.timed i))))
held_is p h limit x g f u c top i more =
    let d = design p in
    let w = lockstep_run p in
    let cs = (state p c).contents in
    let now = state_at p c i in
    let asked = requests_of p (i, x.state i (x.timed i)) in
    let n = latest_all cs + latest_asked p x i asked in
    let rest = rests d w (plan_is_design p h) (run_is_history p h) limit x g f u c top in
    let same = settled_stays p c n (settled_from p h c rest) in
    let at_c = (held_right d w (plan_is_design p h) (run_is_history p h) limit x g f u i c more (top i)).0 in
    let t = top i in
    let right = held_right d w (plan_is_design p h) (run_is_history p h) limit x g f u i (n + c) more (omega arith) in
    let lives : is_over p.ops now ≡ false = ap (is_over p.ops) at_c ∙ g.marks.lives i (x.timed i) more in
    let stuck = stalls_alike p x (n + c) i asked (omega arith) (alike p h (n + c) i (x.state i (x.timed i))) right.1 in
    let alike_all = all_by (λ r. stalls p (n + c) (state p (n + c)).contents r ≡ is_stuck p x i r)
    (λ r. stalls p c (all_ready cs) r ≡ is_stuck p x i r)
    (λ r e. late_as_ready p c n same (omega arith) r ∙ e) asked stuck in
    cond-false (is_over p.ops now) None _ lives
    ∙ ap (option_map (held_at i))
    (ap (λ (s : ModuleState). find (stalls p c (all_ready cs)) (requests_of p (i, s))) at_c
    ∙ find_alike (stalls p c (all_ready cs)) (is_stuck p x i) asked alike_all)

held_one : (p : Plan) → FitsEngine p → (limit : ℕ) (x : Core ModuleState) → IsAgreed (design p) (lockstep_run p) limit x
    → IsFinal (design p) limit x → IsUndetermined (design p) x → (c : ℕ) → ((i : ℕ) → stop (design p) x i ≤ c) → (i : ℕ)
    → held_by p c (all_ready (state p c).contents) (i, state_at p c i) ≡ core_held_by p x i
held_one p h limit x g f u c top i =
    let none = le-ltb (x.timed i) (x.emitted i) in
    let over = stuck_ended (design p) (lockstep_run p) (plan_is_design p h) limit x g.marks g.time f.quiet i in
    grind (arith, nat_tests, held_is p h limit x g f u c top i, last_state p h limit x g f u c i (top i))

by_number : (F : ℕ × ModuleState → Option Held) (G : ℕ → Option Held) (n : ℕ) (ss : List ModuleState)
    → ((j : ℕ) → j < length ss → F (n + j, get_or ss j nobody) ≡ G (n + j))
    → filter_map F (enumerate_from n ss) ≡ filter_map G (range_with_len n (length ss))
by_number F G n [] h = refl
by_number F G n (s ∷ ss) h =
    let z : n + 0 ≡ n = omega arith in
    let first : F (n, s) ≡ G n = rw z at (h 0 (omega arith)) in
    rw first (ap (λ (l : List Held). cons_option (G n) l) (by_number F G (n + 1) ss (λ j l.
    let q : (n + 1) + j ≡ n + suc j = omega arith in
    rw q (h (suc j) (omega arith)))))

pub held_all : (p : Plan) → FitsEngine p → (limit : ℕ) (x : Core ModuleState) → IsAgreed (design p) (lockstep_run p) limit x
    → IsFinal (design p) limit x → IsUndetermined (design p) x → (c : ℕ) → ((i : ℕ) → stop (design p) x i ≤ c)
    → held_modules p c (state p c) ≡ filter_map (core_held_by p x) (modules_of p)
held_all p h limit x g f u c top =
    by_number (held_by p c (all_ready (state p c).contents)) (core_held_by p x) 0 (state p c).modules
    (λ j l.
    let z : 0 + j ≡ j = omega arith in
    ap (λ (i : ℕ). held_by p c (all_ready (state p c).contents) (i, state_at p c j)) z
    ∙ (held_one p h limit x g f u c top j ∙ ap (core_held_by p x) (sym z)))
    ∙ ap (λ (n : ℕ). filter_map (core_held_by p x) (range_with_len 0 n)) (all_modules p c)

-- ---- outputs

sink_port : (k : ChannelKind) (side : Side) → is_sink k ≡ true → has_port k side ≡ true → side ≡ Pop → ⊥
sink_port k side s h e = grind arith

-- nobody pops a sink
no_popper : (p : Plan) (f i : ℕ) → is_sink (kind_at p f) ≡ true → StandsElsewhere p Pop f i
no_popper p f i s r h e k =
    sink_port (kind_at p f) (side_of r.kind) s (subst (λ (g : ℕ). has_port (kind_at p g) (side_of r.kind) ≡ true) e h.is_there) k

none_popped : (p : Plan) → FitsEngine p → (f : ℕ) → is_sink (kind_at p f) ≡ true → (c : ℕ) → moved Pop f (history p c) ≡ []
none_popped p h f s zero = ap (moved Pop f) (history-zero p) ∙ moved-nil Pop f
none_popped p h f s (suc c) =
    let o = owner p (record { side = Pop; channel = f }) in
    ap (moved Pop f) (history-suc p c)
    ∙ (moved-append Pop f (history p c) (steps_in p c (state p c))
    ∙ ap₂ (λ (x y : List ℕ). x ++ y) (none_popped p h f s c)
    (moved_in p h c Pop f ∙ none_shared p h c (state p c).contents Pop f o (no_popper p f o s) (state_at p c o)))

-- a sink holds all that came
sink_holds : (p : Plan) → FitsEngine p → (f : ℕ) → f < length p.design.channels → is_sink (kind_at p f) ≡ true → (c : ℕ)
    → values (contents_of (state p c).contents f) ≡ all_in p c f
sink_holds p h f l s c =
    contents_are p (keeps_ports p h) f (omega (arith, channel_count p)) c
    ∙ ap (λ (vs : List ℕ). drop (length vs) (all_in p c f)) (none_popped p h f s c)

sink_is : (p : Plan) → FitsEngine p → (limit : ℕ) (x : Core ModuleState) → IsAgreed (design p) (lockstep_run p) limit x → (c : ℕ)
    → ((i : ℕ) → done (design p) (lockstep_run p) i c ≡ x.timed i) → (f : ℕ) → f < length p.design.channels → is_sink (kind_at p f) ≡ true
    → values (contents_of (state p c).contents f) ≡ sink_values p x f
sink_is p h limit x g c all f l s =
    sink_holds p h f l s c ∙ outputs_right (design p) (lockstep_run p) (plan_is_design p h) (run_is_history p h) limit x g f c
    (all (owner p (record { side = Push; channel = f })))

map_chosen : (F G : ℕ → List ℕ) (t : ℕ → Bool) (n k : ℕ) → ((f : ℕ) → f < n + k → t f ≡ true → F f ≡ G f)
    → map F (filter t (range_with_len n k)) ≡ map G (filter t (range_with_len n k))
map_chosen F G t n zero h = refl
map_chosen F G t n (suc k) h = grind (arith, h n (omega arith), map_chosen F G t (n + 1) k (λ f l e. h f (omega arith) e))

-- in a clock up to which the core has each step
pub outputs_are : (p : Plan) → FitsEngine p → (limit : ℕ) (x : Core ModuleState) → IsAgreed (design p) (lockstep_run p) limit x → (c : ℕ)
    → ((i : ℕ) → done (design p) (lockstep_run p) i c ≡ x.timed i) → outputs_in p (state p c) ≡ map (sink_values p x) (sinks p)
outputs_are p h limit x g c all =
    map_chosen (λ f. values (contents_of (state p c).contents f)) (sink_values p x) (λ f. is_sink (kind_at p f)) 0
    (length p.design.channels)
    (λ f l s. sink_is p h limit x g c all f (omega arith) s)
