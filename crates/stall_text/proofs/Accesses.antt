-- The clocks in which elements were moved at a port, by the operations of the history.
use Rattle.std.proofs.Common.{◌≡◌, ℕ, zero, suc, ◌+◌, ◌<◌, ◌≤◌, List, [], ◌∷◌, ◌++◌, map, length, drop, Bool, true, false, ◌&&◌, ◌==◌, cond}
use Rattle.std.proofs.Common.{refl, sym, ◌∙◌, ap, ap₂, subst, arith, slice_get, inl, inr, ltb, length-append, is_some, eqb}
use Rattle.std.proofs.{Math.Seq.drop-append_seam, lemmas.Bool.cases_eq, lemmas.Bool.eq-eqb, lemmas.Bool.ne_eqb, lemmas.Bool.lt-ltb}
use Rattle.std.proofs.{lemmas.Bool.le-ltb, lemmas.List.map-append, lemmas.List.Concat.flat_map-append, lemmas.List.Elements.filter-append}
use Rattle.std.proofs.{lemmas.List.Elements.All-from_recursion, lemmas.List.Sums.sum_by-append, lemmas.List.Sums.sum_by-cons}
use Rattle.std.specs.{Prelude.AllPairs, Prelude.All, Prelude.length, List.flat_map, List.filter, List.AllByRecursion}
use Rattle.stall_text.specs.{Kind, Port, Side, side_of, same_side, Plan, ModuleState, Element, Request, FitsEngine, is_yes, value_in}
use Rattle.stall_text.specs.{StandsAtPort, HistoryStep, Exchange, moved_value, moved, popped_value, pushed_value, requests_of, moves}
use Rattle.stall_text.specs.{answered, step_with, module_step, steps_in, numbered, state, history, Act, acts_in, acts_before, acts}
use Rattle.stall_text.specs.{values_moved, last_clock, before, logged, logged_in, log_of, LoggedAccess, moved_at, access_clocks}
use Rattle.flow_word.specs.declared.access.Kind.TheVariants.{Read, Write, TryRead, TryWrite, Empty, Full}
use Rattle.flow_word.specs.declared.access.Side.TheVariants.{Pop, Push}
use Rattle.lockstep_defs.proofs.{Queue.all-append, Order.history_numbers}
use Rattle.timing_bridge.proofs.Requests.{stand}
use Rattle.timelines.proofs.Acts.{acts-zero, acts-suc, begins, early, late, moved_are}

abbrev pub logged_act : Act → LoggedAccess
logged_act a = logged a.0 a.1

-- the clocks of those that pass a test
abbrev pub clock_list : (LoggedAccess → Bool) → List Act → List ℕ
clock_list test done = access_clocks (filter test (map logged_act done))

abbrev pub on : Side → ℕ → Port
on side f = record { side = side; channel = f }

logged_step : (s : HistoryStep) (xs : List Exchange) → map (logged s) xs ≡ map logged_act (map (λ x. (s, x)) xs)
logged_step s [] = refl
logged_step s (x ∷ xs) = ap (λ (l : List LoggedAccess). logged s x ∷ l) (logged_step s xs)

logged_are : (steps : List HistoryStep) → logged_in steps ≡ map logged_act (acts_in steps)
logged_are [] = refl
logged_are (s ∷ steps) =
    ap₂ (λ (xs ys : List LoggedAccess). xs ++ ys) (logged_step s s.exchanges) (logged_are steps)
    ∙ sym (map-append logged_act (map (λ x. (s, x)) s.exchanges) (acts_in steps))

pub log_is : (p : Plan) → log_of p ≡ map logged_act (acts p)
unfolding log_of acts
log_is p = logged_are (history p (last_clock p))

-- ---- as many as elements

abbrev by_side : Side → Kind → Bool → ℕ → ℕ → List ℕ
by_side Pop kind done v w = popped_value kind done v
by_side Push kind done v w = pushed_value kind done w

side_is : (side : Side) (x : Exchange) → moved_value side x
    ≡ by_side side x.request.kind (is_yes x.reply) (value_in x.reply) x.request.value
side_is Pop x = refl
side_is Push x = refl

at_side : (kind : Kind) (side : Side) (done : Bool) (v w : ℕ)
    → length (by_side side kind done v w)
    ≡ cond (is_some (slice_get (by_side (side_of kind) kind done v w) 0) && same_side side (side_of kind)) 1 0
at_side Read Pop done v w = refl
at_side Read Push done v w = refl
at_side Write Pop done v w = refl
at_side Write Push done v w = refl
at_side TryRead Pop true v w = refl
at_side TryRead Pop false v w = refl
at_side TryRead Push true v w = refl
at_side TryRead Push false v w = refl
at_side TryWrite Pop true v w = refl
at_side TryWrite Pop false v w = refl
at_side TryWrite Push true v w = refl
at_side TryWrite Push false v w = refl
at_side Empty Pop done v w = refl
at_side Empty Push done v w = refl
at_side Full Pop done v w = refl
at_side Full Push done v w = refl

same_test : (a b : ℕ) → eqb a b ≡ eqb b a
same_test a b = elim (cases_eq a b) [
  | inl e ↦ eq-eqb a b e ∙ sym (eq-eqb b a (sym e))
  | inr n ↦ ne_eqb a b n ∙ sym (ne_eqb b a (λ e. n (sym e)))
]

by_channel : (b some same : Bool) (xs : List ℕ) → length xs ≡ cond (some && same) 1 0 → length (cond b xs [])
    ≡ cond (some && (same && b)) 1 0
by_channel true true true xs e = e
by_channel true true false xs e = e
by_channel true false same xs e = e
by_channel false true true xs e = refl
by_channel false true false xs e = refl
by_channel false false same xs e = refl

moved_one : (side : Side) (f : ℕ) (s : HistoryStep) (x : Exchange)
    → length (cond (x.request.channel == f) (moved_value side x) []) ≡ cond (moved_at (on side f) (logged s x)) 1 0
moved_one side f s x =
    let kind = x.request.kind in
    let some = ap (λ (xs : List ℕ). cond (is_some (slice_get xs 0) && same_side side (side_of kind)) 1 0)
    (sym (side_is (side_of kind) x)) in
    by_channel (x.request.channel == f) (is_some (slice_get (moved_value (side_of kind) x) 0)) (same_side side (side_of kind))
    (moved_value side x) (ap length (side_is side x) ∙ (at_side kind side (is_yes x.reply) (value_in x.reply) x.request.value ∙ some))
    ∙ ap (λ (b : Bool). cond (is_some (slice_get (moved_value (side_of kind) x) 0) && (same_side side (side_of kind) && b)) 1 0)
    (same_test x.request.channel f)

one_more : (b : Bool) (a : LoggedAccess) (xs : List LoggedAccess) → length (access_clocks (cond b (a ∷ xs) xs))
    ≡ cond b 1 0 + length (access_clocks xs)
one_more true a xs = omega arith
one_more false a xs = omega arith

pub counted_acts : (side : Side) (f : ℕ) (done : List Act)
    → length (clock_list (moved_at (on side f)) done) ≡ length (values_moved side f done)
counted_acts side f [] = refl
counted_acts side f (a ∷ done) =
    let one = moved_one side f a.0 a.1 in
    let rest = counted_acts side f done in
    let first = one_more (moved_at (on side f) (logged_act a)) (logged_act a) (filter (moved_at (on side f)) (map logged_act done)) in
    let parts = length-append (cond (a.1.request.channel == f) (moved_value side a.1) []) (values_moved side f done) in
    omega arith

-- ---- when

pub all_clocks : (P : ℕ → Type 0) (test : LoggedAccess → Bool) (done : List Act) → AllByRecursion (λ (a : Act). P (a.0).clock) done
    → AllByRecursion P (clock_list test done)
all_clocks P test [] h = tt
all_clocks P test (a ∷ done) h = by_test (test (logged_act a)) (all_clocks P test done h.1)
  where
    by_test : (b : Bool) → AllByRecursion P (clock_list test done)
        → AllByRecursion P (access_clocks (cond b (logged_act a ∷ filter test (map logged_act done))
        (filter test (map logged_act done))))
    by_test true rest = (h.0, rest)
    by_test false rest = rest

pub list-append : (test : LoggedAccess → Bool) (xs ys : List Act) → clock_list test (xs ++ ys) ≡ clock_list test xs ++ clock_list test ys
list-append test xs ys =
    ap (λ (l : List LoggedAccess). access_clocks (filter test l)) (map-append logged_act xs ys)
    ∙ (ap access_clocks (filter-append test (map logged_act xs) (map logged_act ys))
    ∙ map-append (λ (a : LoggedAccess). a.event.cycle) (filter test (map logged_act xs)) (filter test (map logged_act ys)))

abbrev one_if : Bool → ℕ
one_if b = cond b 1 0

all_before : (xs : List ℕ) (c : ℕ) → AllByRecursion (λ x. x < c) xs → before xs c ≡ length xs
all_before [] c h = refl
all_before (x ∷ xs) c h =
    omega (arith, sum_by-cons (λ (y : ℕ). cond (ltb y c) 1 0) x xs, ap one_if (lt-ltb x c h.0), all_before xs c h.1)

none_before : (xs : List ℕ) (c : ℕ) → AllByRecursion (λ x. c ≤ x) xs → before xs c ≡ 0
none_before [] c h = refl
none_before (x ∷ xs) c h =
    omega (arith, sum_by-cons (λ (y : ℕ). cond (ltb y c) 1 0) x xs, ap one_if (le-ltb x c h.0), none_before xs c h.1)

-- those before a clock are as many as the elements moved before it
pub counted_before : (p : Plan) (side : Side) (f c n : ℕ)
    → before (clock_list (moved_at (on side f)) (acts_before p (n + c))) c ≡ length (moved side f (history p c))
counted_before p side f c n =
    let (later, e) = begins p c n in
    let test = moved_at (on side f) in
    let late_acts = subst (λ (l : List Act). AllByRecursion (λ (a : Act). c ≤ (a.0).clock) l)
    (ap (drop (length (acts_before p c))) e ∙ drop-append_seam (acts_before p c) later) (late p c n) in
    let whole = ap (λ (l : List Act). before (clock_list test l) c) e
    ∙ (ap (λ (l : List ℕ). before l c) (list-append test (acts_before p c) later)
    ∙ sum_by-append (λ (y : ℕ). cond (ltb y c) 1 0) (clock_list test (acts_before p c)) (clock_list test later)) in
    let front = all_before (clock_list test (acts_before p c)) c (all_clocks (λ x. x < c) test (acts_before p c) (early p c)) in
    let rest = none_before (clock_list test later) c (all_clocks (λ x. c ≤ x) test later late_acts) in
    let count = counted_acts side f (acts_before p c) in
    let elements = ap length (moved_are side f (history p c)) in
    omega arith

-- ---- in order

abbrev pub Climbs : List ℕ → Type 0
Climbs [] = Unit {0}
Climbs (x ∷ xs) = AllByRecursion (λ y. x ≤ y) xs × Climbs xs

all_of : (P Q : ℕ → Type 0) → ((x : ℕ) → P x → Q x) → (xs : List ℕ) → AllByRecursion P xs → AllByRecursion Q xs
all_of P Q f [] h = tt
all_of P Q f (x ∷ xs) h = (f x h.0, all_of P Q f xs h.1)

climbs-append : (c : ℕ) (xs ys : List ℕ) → Climbs xs → Climbs ys → AllByRecursion (λ x. x < c) xs → AllByRecursion (λ y. c ≤ y) ys
    → Climbs (xs ++ ys)
climbs-append c [] ys h k a b = k
climbs-append c (x ∷ xs) ys h k a b = (
  all-append (λ y. x ≤ y) xs ys h.0 (all_of (λ y. c ≤ y) (λ y. x ≤ y) (λ y l. let m = a.0 in omega arith) ys b),
  climbs-append c xs ys h.1 k a.1 b,
)

level : (c : ℕ) (xs : List ℕ) → AllByRecursion (λ x. x < suc c) xs → AllByRecursion (λ y. c ≤ y) xs → Climbs xs
level c [] a b = tt
level c (x ∷ xs) a b = (all_of (λ y. c ≤ y) (λ y. x ≤ y) (λ y l. let m = a.0 in omega arith) xs b.1, level c xs a.1 b.1)

parts : {X : Type 0} (P : X → Type 0) (xs ys : List X) → AllByRecursion P (xs ++ ys) → AllByRecursion P ys
parts P [] ys h = h
parts P (x ∷ xs) ys h = parts P xs ys h.1

pub climbs : (p : Plan) (test : LoggedAccess → Bool) (c : ℕ) → Climbs (clock_list test (acts_before p c))
climbs p test zero = subst (λ (l : List Act). Climbs (clock_list test l)) (sym (acts-zero p)) tt
climbs p test (suc c) =
    let now = acts_in (steps_in p c (state p c)) in
    let soon = parts (λ (a : Act). (a.0).clock < suc c) (acts_before p c) now
    (subst (AllByRecursion (λ (a : Act). (a.0).clock < suc c)) (acts-suc p c) (early p (suc c))) in
    let next : acts_before p (1 + c) ≡ acts_before p c ++ now = ap (acts_before p) (omega arith) ∙ acts-suc p c in
    let at_last = subst (λ (l : List Act). AllByRecursion (λ (a : Act). c ≤ (a.0).clock) l)
    (ap (drop (length (acts_before p c))) next ∙ drop-append_seam (acts_before p c) now) (late p c 1) in
    let last = all_clocks (λ x. c ≤ x) test now at_last in
    subst Climbs (sym (ap (clock_list test) (acts-suc p c) ∙ list-append test (acts_before p c) now))
    (climbs-append c (clock_list test (acts_before p c)) (clock_list test now) (climbs p test c)
    (level c (clock_list test now) (all_clocks (λ x. x < suc c) test now soon) last)
    (all_clocks (λ x. x < c) test (acts_before p c) (early p c)) last)

pairs : (xs : List ℕ) → Climbs xs → AllPairs (λ a b. a ≤ b) xs
pairs [] h i j d l m = absurd (omega arith)
pairs (x ∷ xs) h zero zero d l m = absurd (omega arith)
pairs (x ∷ xs) h zero (suc j) d l m = All-from_recursion (λ y. x ≤ y) xs h.0 j d (omega arith)
pairs (x ∷ xs) h (suc i) zero d l m = absurd (omega arith)
pairs (x ∷ xs) h (suc i) (suc j) d l m = pairs xs h.1 i j d (omega arith) (omega arith)

pub list_rises : (p : Plan) (test : LoggedAccess → Bool) (c : ℕ) → AllPairs (λ a b. a ≤ b) (clock_list test (acts_before p c))
list_rises p test c = pairs (clock_list test (acts_before p c)) (climbs p test c)

pub list_below : (p : Plan) (test : LoggedAccess → Bool) (c : ℕ) → All (λ x. x < c) (clock_list test (acts_before p c))
list_below p test c = All-from_recursion (λ x. x < c) (clock_list test (acts_before p c))
    (all_clocks (λ x. x < c) test (acts_before p c) (early p c))

-- ---- where

-- an operation of a module stands at a port of its own
abbrev pub ActStands : Plan → Act → Type 0
ActStands p a = StandsAtPort p (a.0).«module» a.1.request

stand_answered : (p : Plan) (c : ℕ) (contents : List (List Element)) (s : HistoryStep) (rs : List Request)
    → AllByRecursion (StandsAtPort p s.«module») rs → AllByRecursion (ActStands p) (map (λ x. (s, x)) (map (answered p c contents) rs))
stand_answered p c contents s [] h = tt
stand_answered p c contents s (r ∷ rs) h = (h.0, stand_answered p c contents s rs h.1)

stand_step : (p : Plan) → FitsEngine p → (c : ℕ) (contents : List (List Element)) (m : ℕ × ModuleState) (b : Bool)
    → AllByRecursion (ActStands p) (acts_in (cond b (step_with c m.0 (map (answered p c contents) (requests_of p m))) []))
stand_step p fits c contents m false = tt
stand_step p fits c contents m true = by_requests (requests_of p m) (stand p fits m.0 m.1)
  where
    by_requests : (rs : List Request) → AllByRecursion (StandsAtPort p m.0) rs
        → AllByRecursion (ActStands p) (acts_in (step_with c m.0 (map (answered p c contents) rs)))
    by_requests [] h = tt
    by_requests (r ∷ rs) h =
        let s : HistoryStep = record { clock = c; «module» = m.0; exchanges = map (answered p c contents) (r ∷ rs) } in
        all-append (ActStands p) (map (λ x. (s, x)) (map (answered p c contents) (r ∷ rs))) []
        (stand_answered p c contents s (r ∷ rs) h) tt

stand_steps : (p : Plan) → FitsEngine p → (c : ℕ) (contents : List (List Element)) (ms : List (ℕ × ModuleState))
    → AllByRecursion (ActStands p) (acts_in (flat_map (module_step p c contents) ms))
stand_steps p fits c contents [] = tt
stand_steps p fits c contents (m ∷ ms) =
    subst (AllByRecursion (ActStands p)) (sym (flat_map-append _ (module_step p c contents m) (flat_map (module_step p c contents) ms)))
    (all-append (ActStands p) (acts_in (module_step p c contents m)) (acts_in (flat_map (module_step p c contents) ms))
    (stand_step p fits c contents m (moves p c contents m)) (stand_steps p fits c contents ms))

pub all_stand : (p : Plan) → FitsEngine p → (c : ℕ) → AllByRecursion (ActStands p) (acts_before p c)
unfolding steps_in
all_stand p fits zero = subst (AllByRecursion (ActStands p)) (sym (acts-zero p)) tt
all_stand p fits (suc c) =
    subst (AllByRecursion (ActStands p)) (sym (acts-suc p c))
    (all-append (ActStands p) (acts_before p c) (acts_in (steps_in p c (state p c))) (all_stand p fits c)
    (stand_steps p fits c (state p c).contents (numbered (state p c))))

acts_numbered : (n : ℕ) (steps : List HistoryStep) → AllByRecursion (λ s. s.«module» < n) steps
    → AllByRecursion (λ (a : Act). (a.0).«module» < n) (acts_in steps)
acts_numbered n [] h = tt
acts_numbered n (s ∷ steps) h =
    all-append (λ (a : Act). (a.0).«module» < n) (map (λ x. (s, x)) s.exchanges) (acts_in steps) (each s.exchanges)
    (acts_numbered n steps h.1)
  where
    each : (xs : List Exchange) → AllByRecursion (λ (a : Act). (a.0).«module» < n) (map (λ x. (s, x)) xs)
    each [] = tt
    each (x ∷ xs) = (h.0, each xs)

numbered_log : (n : ℕ) (done : List Act) → AllByRecursion (λ (a : Act). (a.0).«module» < n) done
    → AllByRecursion (λ (a : LoggedAccess). a.event.«module» < n) (map logged_act done)
numbered_log n [] h = tt
numbered_log n (a ∷ done) h = (h.0, numbered_log n done h.1)

-- a log names modules of the plan
pub log_modules : (p : Plan) → All (λ (a : LoggedAccess). a.event.«module» < length p.design.modules) (log_of p)
unfolding acts
log_modules p =
    let n = length p.design.modules in
    All-from_recursion (λ (a : LoggedAccess). a.event.«module» < n) (log_of p)
    (subst (AllByRecursion (λ (a : LoggedAccess). a.event.«module» < n)) (sym (log_is p))
    (numbered_log n (acts p) (acts_numbered n (history p (last_clock p)) (history_numbers p (last_clock p)))))

in_range : (p : Plan) (done : List Act) → AllByRecursion (ActStands p) done
    → AllByRecursion (λ (a : LoggedAccess). a.event.channel < length p.design.channels) (map logged_act done)
in_range p [] h = tt
in_range p (a ∷ done) h = ((h.0).in_range, in_range p done h.1)

pub log_inside : (p : Plan) → FitsEngine p → All (λ (a : LoggedAccess). a.event.channel < length p.design.channels) (log_of p)
unfolding acts
log_inside p fits = All-from_recursion (λ (a : LoggedAccess). a.event.channel < length p.design.channels) (log_of p)
    (subst (AllByRecursion (λ (a : LoggedAccess). a.event.channel < length p.design.channels)) (sym (log_is p))
    (in_range p (acts p) (all_stand p fits (last_clock p))))
