-- The operations of the history, one after the other: what a report tells of them, and in which clocks they were done.
use Rattle.std.proofs.Common.{◌≡◌, ℕ, zero, suc, ◌+◌, ◌≤◌, ◌<◌, List, [], ◌∷◌, ◌++◌, map, length, drop, Bool, true, false, ◌==◌, cond, refl}
use Rattle.std.proofs.Common.{sym, ◌∙◌, ap, ap₂, subst, arith, zero-add, suc-add, append_assoc, length-append}
use Rattle.std.proofs.{lemmas.List.append-nil, lemmas.List.drop-append-le, lemmas.List.drop_all, lemmas.List.Concat.flat_map-append}
use Rattle.std.specs.List.{flat_map, AllByRecursion}
use Rattle.timelines.specs.{Side, Plan, Element, ClockState, ModuleState, HistoryStep, Exchange, moved_value, moved_by, moved, requests_of}
use Rattle.timelines.specs.{moves, answered, step_with, module_step, steps_in, numbered, state, history, Act, acts_in, acts_before}
use Rattle.timelines.specs.{values_moved}
use Rattle.lockstep_defs.proofs.{Settled.history-zero, Settled.history-suc, Order.before_clock, Queue.all-append}

-- ---- the operations of steps

acts-append : (steps more : List HistoryStep) → acts_in (steps ++ more) ≡ acts_in steps ++ acts_in more
acts-append steps more = flat_map-append _ steps more

step_moved : (side : Side) (f : ℕ) (s : HistoryStep) (xs : List Exchange) → moved_by side f xs ≡ values_moved side f (map (λ x. (s, x)) xs)
unfolding moved_by
step_moved side f s [] = refl
step_moved side f s (x ∷ xs) = ap (λ (l : List ℕ). cond (x.request.channel == f) (moved_value side x) [] ++ l) (step_moved side f s xs)

pub moved_are : (side : Side) (f : ℕ) (steps : List HistoryStep) → moved side f steps ≡ values_moved side f (acts_in steps)
unfolding moved
moved_are side f [] = refl
moved_are side f (s ∷ steps) =
    ap₂ (λ (xs ys : List ℕ). xs ++ ys) (step_moved side f s s.exchanges) (moved_are side f steps)
    ∙ sym (flat_map-append _ (map (λ x. (s, x)) s.exchanges) (acts_in steps))

-- ---- the operations before a clock

pub acts-zero : (p : Plan) → acts_before p 0 ≡ []
acts-zero p = ap acts_in (history-zero p)

pub acts-suc : (p : Plan) (c : ℕ) → acts_before p (suc c) ≡ acts_before p c ++ acts_in (steps_in p c (state p c))
acts-suc p c = ap acts_in (history-suc p c) ∙ acts-append (history p c) (steps_in p c (state p c))

-- they go on those before an earlier clock
pub begins : (p : Plan) (c n : ℕ) → (later : List Act) × (acts_before p (n + c) ≡ acts_before p c ++ later)
begins p c zero = ([], ap (acts_before p) (zero-add c) ∙ sym (append-nil _))
begins p c (suc n) =
    let (later, e) = begins p c n in (
      later ++ acts_in (steps_in p (n + c) (state p (n + c))),
      ap (acts_before p) (suc-add n c) ∙ (acts-suc p (n + c)
          ∙ (ap (λ (l : List Act). l ++ acts_in (steps_in p (n + c) (state p (n + c)))) e ∙ append_assoc (acts_before p c) later _)),
    )

-- ---- their clocks

all_acts : (P : HistoryStep → Type 0) (steps : List HistoryStep) → AllByRecursion P steps
    → AllByRecursion (λ (a : Act). P a.0) (acts_in steps)
all_acts P [] h = tt
all_acts P (s ∷ steps) h =
    all-append (λ (a : Act). P a.0) (map (λ x. (s, x)) s.exchanges) (acts_in steps) (one s.exchanges) (all_acts P steps h.1)
  where
    one : (xs : List Exchange) → AllByRecursion (λ (a : Act). P a.0) (map (λ x. (s, x)) xs)
    one [] = tt
    one (x ∷ xs) = (h.0, one xs)

pub early : (p : Plan) (c : ℕ) → AllByRecursion (λ (a : Act). (a.0).clock < c) (acts_before p c)
early p c = all_acts (λ s. s.clock < c) (history p c) (before_clock p c)

-- the steps of a clock have it as their clock
step_clock : (p : Plan) (c : ℕ) (contents : List (List Element)) (m : ℕ × ModuleState)
    → AllByRecursion (λ (s : HistoryStep). s.clock ≡ c) (module_step p c contents m)
step_clock p c contents m = by_test (moves p c contents m)
  where
    with_exchanges : (xs : List Exchange) → AllByRecursion (λ (s : HistoryStep). s.clock ≡ c) (step_with c m.0 xs)
    with_exchanges [] = tt
    with_exchanges (x ∷ xs) = (refl, tt)

    by_test : (b : Bool) → AllByRecursion (λ (s : HistoryStep). s.clock ≡ c)
        (cond b (step_with c m.0 (map (answered p c contents) (requests_of p m))) [])
    by_test true = with_exchanges (map (answered p c contents) (requests_of p m))
    by_test false = tt

clock_steps : (p : Plan) (c : ℕ) (contents : List (List Element)) (ms : List (ℕ × ModuleState))
    → AllByRecursion (λ (s : HistoryStep). s.clock ≡ c) (flat_map (module_step p c contents) ms)
clock_steps p c contents [] = tt
clock_steps p c contents (m ∷ ms) = all-append (λ (s : HistoryStep). s.clock ≡ c) (module_step p c contents m)
    (flat_map (module_step p c contents) ms) (step_clock p c contents m) (clock_steps p c contents ms)

steps_now : (p : Plan) (c : ℕ) (st : ClockState) → AllByRecursion (λ (s : HistoryStep). s.clock ≡ c) (steps_in p c st)
unfolding steps_in
steps_now p c st = clock_steps p c st.contents (numbered st)

pub all_map : {X : Type 0} (P Q : X → Type 0) → ((x : X) → P x → Q x) → (xs : List X) → AllByRecursion P xs → AllByRecursion Q xs
all_map P Q f [] h = tt
all_map P Q f (x ∷ xs) h = (f x h.0, all_map P Q f xs h.1)

-- those after the operations before a clock were done in it or later
pub late : (p : Plan) (c n : ℕ) → AllByRecursion (λ (a : Act). c ≤ (a.0).clock) (drop (length (acts_before p c)) (acts_before p (n + c)))
late p c zero =
    subst (λ (l : List Act). AllByRecursion (λ (a : Act). c ≤ (a.0).clock) l)
    (sym (ap (λ (d : ℕ). drop (length (acts_before p c)) (acts_before p d)) (zero-add c)
    ∙ drop_all (length (acts_before p c)) (acts_before p c) (omega arith))) tt
late p c (suc n) =
    let (later, e) = begins p c n in
    let longer : length (acts_before p c) ≤ length (acts_before p (n + c)) =
    omega (arith, ap length e, length-append (acts_before p c) later) in
    let now = acts_in (steps_in p (n + c) (state p (n + c))) in
    subst (λ (l : List Act). AllByRecursion (λ (a : Act). c ≤ (a.0).clock) l)
    (sym (ap (λ (d : ℕ). drop (length (acts_before p c)) (acts_before p d)) (suc-add n c)
    ∙ (ap (drop (length (acts_before p c))) (acts-suc p (n + c))
    ∙ drop-append-le (length (acts_before p c)) (acts_before p (n + c)) now longer)))
    (all-append (λ (a : Act). c ≤ (a.0).clock) (drop (length (acts_before p c)) (acts_before p (n + c))) now
    (late p c n)
    (all_map (λ (a : Act). (a.0).clock ≡ n + c) (λ (a : Act). c ≤ (a.0).clock) (λ a h. omega arith) now
    (all_acts (λ (s : HistoryStep). s.clock ≡ n + c) (steps_in p (n + c) (state p (n + c))) (steps_now p (n + c) (state p (n + c))))))
