-- The report of a plan names modules and channels of the plan, and has one output for each sink.
use Rattle.std.proofs.Common.{◌≡◌, refl, sym, ◌∙◌, ap, arith, ℕ, zero, suc, ◌+◌, ◌<◌, ◌≤◌, Bool, true, false, cond, List, [], ◌∷◌, length}
use Rattle.std.proofs.Common.{map, get_or, Option, Some, None, add-zero}
use Rattle.std.proofs.{lemmas.List.length-map, lemmas.List.FromFn.length-map-range_with_len}
use Rattle.std.proofs.lemmas.List.Elements.{All-from_recursion, recursion_from_All}
use Rattle.std.specs.Prelude.{option_map, find, IfSome}
use Rattle.std.specs.List.{AllByRecursion, filter, filter_map, cons_option, flat_map, enumerate_from, range_with_len}
use Rattle.lockstep_defs.specs.{Channel, ChannelKind, Plan, Held, EventLine, ClockState, Element, ModuleState, Request, FitsEngine}
use Rattle.lockstep_defs.specs.{clock_of, is_sink, no_channel, kind_at, HistoryStep, Exchange, stalls, all_ready, StandsAtPort, is_over}
use Rattle.lockstep_defs.specs.{HasNumbersOf, requests_of, numbered, moves, answered, step_with, module_step, steps_in, state, history}
use Rattle.lockstep_defs.specs.{steps_of, outcomes, sinks, event_of, events_of, report, held_at, held_by, held_modules, held, verdict}
use Rattle.flow_design.specs.{Verdict}
use Rattle.flow_design.specs.declared.report.Verdict.TheVariants.{Done, Deadlock, Cycles, Ops}
use Rattle.lockstep_defs.proofs.{Agrees.all_modules, Queue.all-append, Settled.history-zero, Settled.history-suc, Standing.requests_stand}

-- ---- one output per sink

-- counted by number, and one after another
counted_sinks : (kind : ℕ → ChannelKind) (k : ℕ) (cs : List Channel)
    → ((j : ℕ) → j < length cs → kind (k + j) ≡ (get_or cs j no_channel).kind)
    → length (filter (λ f. is_sink (kind f)) (range_with_len k (length cs))) ≡ length (filter (λ (c : Channel). is_sink c.kind) cs)
counted_sinks kind k [] h = refl
counted_sinks kind k (c ∷ cs) h =
    let here : is_sink (kind k) ≡ is_sink c.kind = ap is_sink (ap kind (sym (add-zero k)) ∙ h 0 (omega arith)) in
    let rest = counted_sinks kind (k + 1) cs (λ j l. ap kind (omega arith) ∙ h (suc j) (omega arith)) in
    by_test (is_sink c.kind) here rest
  where
    by_test : (b : Bool) → is_sink (kind k) ≡ b
        → length (filter (λ f. is_sink (kind f)) (range_with_len (k + 1) (length cs)))
        ≡ length (filter (λ (x : Channel). is_sink x.kind) cs)
        → length (cond (is_sink (kind k)) (k ∷ filter (λ f. is_sink (kind f)) (range_with_len (k + 1) (length cs)))
        (filter (λ f. is_sink (kind f)) (range_with_len (k + 1) (length cs))))
        ≡ length (cond b (c ∷ filter (λ (x : Channel). is_sink x.kind) cs) (filter (λ (x : Channel). is_sink x.kind) cs))
    by_test true e same = rw e (ap suc same)
    by_test false e same = rw e same

sinks_counted : (p : Plan) → length (sinks p) ≡ length (filter (λ (c : Channel). is_sink c.kind) p.design.channels)
sinks_counted p = counted_sinks (kind_at p) 0 p.design.channels (λ j l. ap (kind_at p) (omega arith))

-- ---- held modules

abbrev HeldIn : Plan → Held → Type 0
HeldIn p h = (h.«module» < length p.design.modules) × (h.channel < length p.design.channels)

-- what holds of each element holds of the first that passes a test
first_holds : {X : Type 0} (P : X → Type 0) (test : X → Bool) (xs : List X) → AllByRecursion P xs → IfSome (find test xs) P
first_holds P test [] h = tt
first_holds {X} P test (y ∷ ys) h = by_test (test y) h.0 (first_holds P test ys h.1)
  where
    by_test : (b : Bool) → P y → IfSome (find test ys) P → IfSome (cond b (Some y) (find test ys)) P
    by_test true here rest = here
    by_test false here rest = rest

mapped_holds : {X Y : Type 0} (P : Y → Type 0) (f : X → Y) (o : Option X) → IfSome o (λ x. P (f x)) → IfSome (option_map f o) P
mapped_holds P f None h = tt
mapped_holds P f (Some x) h = h

kept_hold : {X Y : Type 0} (P : Y → Type 0) (f : X → Option Y) (xs : List X) → AllByRecursion (λ x. IfSome (f x) P) xs
    → AllByRecursion P (filter_map f xs)
kept_hold P f [] h = tt
kept_hold {X} {Y} P f (x ∷ xs) h = by_case (f x) h.0 (kept_hold P f xs h.1)
  where
    by_case : (o : Option Y) → IfSome o P → AllByRecursion P (filter_map f xs) → AllByRecursion P (cons_option o (filter_map f xs))
    by_case None here rest = rest
    by_case (Some y) here rest = (here, rest)

held_by_in : (p : Plan) → FitsEngine p → (clock : ℕ) (contents : List (List Element)) (m : ℕ × ModuleState) → m.0 < length p.design.modules
    → IfSome (held_by p clock contents m) (HeldIn p)
held_by_in p fits clock contents m l = by_test (is_over p.ops m.1)
  where
    asked : IfSome (find (stalls p clock contents) (requests_of p m)) (λ r. HeldIn p (held_at m.0 r))
    asked = first_holds (λ (r : Request). HeldIn p (held_at m.0 r)) (stalls p clock contents) (requests_of p m)
        (recursion_from_All (λ (r : Request). HeldIn p (held_at m.0 r)) (requests_of p m)
        (λ k d w. (l, (requests_stand p fits m.0 l m.1 k d w).in_range)))

    by_test : (b : Bool) → IfSome (cond b None (option_map (held_at m.0) (find (stalls p clock contents) (requests_of p m)))) (HeldIn p)
    by_test true = tt
    by_test false = mapped_holds (HeldIn p) (held_at m.0) (find (stalls p clock contents) (requests_of p m)) asked

held_from : (p : Plan) → FitsEngine p → (clock : ℕ) (contents : List (List Element)) (k : ℕ) (ss : List ModuleState)
    → k + length ss ≤ length p.design.modules
    → AllByRecursion (λ m. IfSome (held_by p clock contents m) (HeldIn p)) (enumerate_from k ss)
held_from p fits clock contents k [] l = tt
held_from p fits clock contents k (s ∷ ss) l =
    (held_by_in p fits clock contents (k, s) (omega arith), held_from p fits clock contents (k + 1) ss (omega arith))

all_held : (p : Plan) → FitsEngine p → (clock : ℕ) (st : ClockState) → length st.modules ≤ length p.design.modules
    → AllByRecursion (HeldIn p) (held_modules p clock st)
all_held p fits clock st l = kept_hold (HeldIn p) (held_by p clock (all_ready st.contents)) (numbered st)
    (held_from p fits clock (all_ready st.contents) 0 st.modules (omega arith))

-- ---- events

abbrev EventIn : Plan → EventLine → Type 0
EventIn p e = (e.«module» < length p.design.modules) × (e.channel < length p.design.channels)

-- a step of a module of the plan, whose operations are on its channels
abbrev StepIn : Plan → HistoryStep → Type 0
StepIn p s = (s.«module» < length p.design.modules)
    × AllByRecursion (λ (x : Exchange). x.request.channel < length p.design.channels) s.exchanges

answered_in : (p : Plan) (clock : ℕ) (contents : List (List Element)) (i : ℕ) (rs : List Request) → AllByRecursion (StandsAtPort p i) rs
    → AllByRecursion (λ (x : Exchange). x.request.channel < length p.design.channels) (map (answered p clock contents) rs)
answered_in p clock contents i [] h = tt
answered_in p clock contents i (r ∷ rs) h = ((h.0).in_range, answered_in p clock contents i rs h.1)

step_in : (p : Plan) → FitsEngine p → (clock : ℕ) (contents : List (List Element)) (m : ℕ × ModuleState) → m.0 < length p.design.modules
    → AllByRecursion (StepIn p) (module_step p clock contents m)
step_in p fits clock contents m l = by_test (moves p clock contents m) (answered_in p clock contents m.0 (requests_of p m)
    (recursion_from_All (StandsAtPort p m.0) (requests_of p m) (requests_stand p fits m.0 l m.1)))
  where
    with_exchanges : (xs : List Exchange) → AllByRecursion (λ (x : Exchange). x.request.channel < length p.design.channels) xs
        → AllByRecursion (StepIn p) (step_with clock m.0 xs)
    with_exchanges [] h = tt
    with_exchanges (x ∷ xs) h = ((l, h), tt)

    by_test : (b : Bool) → AllByRecursion (λ (x : Exchange). x.request.channel < length p.design.channels)
        (map (answered p clock contents) (requests_of p m))
        → AllByRecursion (StepIn p) (cond b (step_with clock m.0 (map (answered p clock contents) (requests_of p m))) [])
    by_test true h = with_exchanges (map (answered p clock contents) (requests_of p m)) h
    by_test false h = tt

steps_from : (p : Plan) → FitsEngine p → (clock : ℕ) (contents : List (List Element)) (k : ℕ) (ss : List ModuleState)
    → k + length ss ≤ length p.design.modules
    → AllByRecursion (StepIn p) (flat_map (module_step p clock contents) (enumerate_from k ss))
steps_from p fits clock contents k [] l = tt
steps_from p fits clock contents k (s ∷ ss) l =
    all-append (StepIn p) (module_step p clock contents (k, s)) (flat_map (module_step p clock contents) (enumerate_from (k + 1) ss))
    (step_in p fits clock contents (k, s) (omega arith)) (steps_from p fits clock contents (k + 1) ss (omega arith))

history_in : (p : Plan) → FitsEngine p → (clock : ℕ) → AllByRecursion (StepIn p) (history p clock)
unfolding steps_in
history_in p fits zero = rw history-zero tt
history_in p fits (suc clock) =
    rw history-suc (all-append (StepIn p) (history p clock) (steps_in p clock (state p clock)) (history_in p fits clock)
    (steps_from p fits clock (state p clock).contents 0 (state p clock).modules (omega (arith, all_modules p clock))))

exchanges_in : (p : Plan) (s : HistoryStep) → s.«module» < length p.design.modules → (xs : List Exchange)
    → AllByRecursion (λ (x : Exchange). x.request.channel < length p.design.channels) xs → AllByRecursion (EventIn p) (map (event_of s) xs)
exchanges_in p s l [] h = tt
exchanges_in p s l (x ∷ xs) h = ((l, h.0), exchanges_in p s l xs h.1)

events_in : (p : Plan) (steps : List HistoryStep) → AllByRecursion (StepIn p) steps → AllByRecursion (EventIn p) (events_of steps)
events_in p [] h = tt
events_in p (s ∷ steps) h = all-append (EventIn p) (map (event_of s) s.exchanges) (events_of steps)
    (exchanges_in p s (h.0).0 s.exchanges (h.0).1) (events_in p steps h.1)

-- ---- the report

held_report : (p : Plan) → FitsEngine p → (v : Verdict) (clock : ℕ) → AllByRecursion (HeldIn p) (held p v (state p clock))
held_report p fits (Done c) clock = tt
held_report p fits (Deadlock c) clock = all_held p fits c (state p clock) (omega (arith, all_modules p clock))
held_report p fits (Cycles c) clock = tt
held_report p fits (Ops c) clock = all_held p fits c (state p clock) (omega (arith, all_modules p clock))

pub report_numbers : (p : Plan) → FitsEngine p → HasNumbersOf p (report p)
unfolding report
report_numbers p fits = record {
  outputs = length-map (sinks p) _ ∙ sinks_counted p;
  answers = length-map-range_with_len (λ i. outcomes (steps_of i (history p (clock_of (verdict p))))) 0 (length p.design.modules);
  held = All-from_recursion (HeldIn p) _ (held_report p fits (verdict p) (clock_of (verdict p)));
  events = All-from_recursion (EventIn p) _ (events_in p (history p (clock_of (verdict p))) (history_in p fits (clock_of (verdict p))));
}
