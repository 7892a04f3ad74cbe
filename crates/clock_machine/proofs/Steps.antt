-- The steps of a clock: what they pop, push and tell, and what they leave in the channels.
use Rattle.std.proofs.Common.{◌≡◌, ℕ, ◌+◌, List, [], ◌∷◌, ◌++◌, map, length, Bool, true, false, cond, drop, eqb, refl, sym, ◌∙◌, ap}
use Rattle.std.proofs.Common.{append_assoc}
use Rattle.std.proofs.{lemmas.List.append-nil, lemmas.List.Concat.flat_map-append}
use Rattle.std.specs.List.{enumerate_from, filter}
use Rattle.clock_machine.specs.{Plan, Element, Request, delay_at, EventLine, Side, HistoryStep, Exchange, element_from, moved_by, moved}
use Rattle.clock_machine.specs.{requests_of, answered, step_with, contents_after, state, state_at, outcomes, event_of, events_of}
use Rattle.clock_machine.specs.{PushedValue, Round, Traffic, does_move, step_at, HasMoved, HasDone, exchanges_in, event_by, events_kept}
use Rattle.clock_machine.specs.{outcomes_in, popped, pushed, after_pops, after_pushes}
use Rattle.flow_word.specs.declared.access.Side.TheVariants.{Pop, Push}
use Rattle.lockstep_defs.proofs.Queue.{moved_by-append}
use Rattle.clock_machine.proofs.{Kept.kept-append, Listed.popped_adds, Listed.pushed_adds, Listed.popped_at, Listed.pushed_at, Queues.twice}

-- ---- one step

operations_in_step : (clock i : ℕ) (xs : List Exchange) → exchanges_in (step_with clock i xs) ≡ xs
operations_in_step clock i [] = refl
operations_in_step clock i (x ∷ xs) = append-nil _

outcomes_in_step : (clock i : ℕ) (xs : List Exchange) → outcomes (step_with clock i xs) ≡ outcomes_in xs
outcomes_in_step clock i [] = refl
outcomes_in_step clock i (x ∷ xs) = append-nil _

-- ---- steps after steps

-- nothing done
pub none_done : (keep : Bool) (round : Round) → HasDone keep round round []
none_done true round = record { traffic = record { pops = sym (append-nil _); pushes = sym (append-nil _) }; events = sym (append-nil _) }
none_done false round = record { traffic = record { pops = sym (append-nil _); pushes = sym (append-nil _) }; events = sym (append-nil _) }

joined : {X : Type 0} (gives : List HistoryStep → List X) → ((xs ys : List HistoryStep) → gives (xs ++ ys) ≡ gives xs ++ gives ys)
    → (before now next : List X) (steps more : List HistoryStep) → now ≡ before ++ gives steps → next ≡ now ++ gives more
    → next ≡ before ++ gives (steps ++ more)
joined gives adds before now next steps more e f =
    f ∙ (ap (λ l. l ++ gives more) e ∙ (append_assoc before (gives steps) (gives more)
    ∙ ap (λ l. before ++ l) (sym (adds steps more))))

pub moved_more : (old now next : Traffic) (steps more : List HistoryStep) → HasMoved old now steps → HasMoved now next more
    → HasMoved old next (steps ++ more)
moved_more old now next steps more a b = record {
  pops = joined (λ ss. popped (exchanges_in ss)) (λ xs ys. ap popped (flat_map-append _ xs ys)
      ∙ popped_adds (exchanges_in xs) (exchanges_in ys)) old.pops now.pops next.pops steps more a.pops b.pops;
  pushes = joined (λ ss. pushed (exchanges_in ss)) (λ xs ys. ap pushed (flat_map-append _ xs ys)
      ∙ pushed_adds (exchanges_in xs) (exchanges_in ys)) old.pushes now.pushes next.pushes steps more a.pushes b.pushes;
}

pub done_more : (keep : Bool) (old now next : Round) (steps more : List HistoryStep) → HasDone keep old now steps
    → HasDone keep now next more
    → HasDone keep old next (steps ++ more)
done_more keep old now next steps more a b = record {
  traffic = moved_more old.traffic now.traffic next.traffic steps more a.traffic b.traffic;
  events = joined (λ ss. events_kept keep (events_of ss)) (λ xs ys. ap (events_kept keep) (flat_map-append _ xs ys)
      ∙ kept-append keep (events_of xs) (events_of ys)) old.events now.events next.events steps more a.events b.events;
}

-- ---- the step of a module

-- the step of a module that moves, and of one that does not
pub step_is : (p : Plan) (clock i : ℕ) (b : Bool) → does_move p clock i ≡ b
    → step_at p clock i
    ≡ cond b (step_with clock i (map (answered p clock (state p clock).contents) (requests_of p (i, state_at p clock i)))) []
step_is p clock i b e = rw e refl

-- what the requests of a module give where it moves, its step gives
given : {X : Type 0} (by_requests : List Exchange → List X) (by_steps : List HistoryStep → List X) (p : Plan) (clock i : ℕ)
    → ((xs : List Exchange) → by_requests xs ≡ by_steps (step_with clock i xs)) → by_steps [] ≡ []
    → (contents : List (List Element)) (asked : List Request) (goes : Bool) (before now : List X)
    → contents ≡ (state p clock).contents → asked ≡ requests_of p (i, state_at p clock i) → goes ≡ does_move p clock i
    → now ≡ before ++ cond goes (by_requests (map (answered p clock contents) asked)) [] → now ≡ before ++ by_steps (step_at p clock i)
given by_requests by_steps p clock i same none contents asked true before now holding is goes e =
    e ∙ ap (λ l. before ++ l)
    (ap (λ (held : List (List Element)). by_requests (map (answered p clock held) asked)) holding
    ∙ (ap (λ (rs : List Request). by_requests (map (answered p clock (state p clock).contents) rs)) is
    ∙ (same _ ∙ ap by_steps (sym (step_is p clock i true (sym goes))))))
given by_requests by_steps p clock i same none contents asked false before now holding is goes e =
    e ∙ ap (λ l. before ++ l) (sym none ∙ ap by_steps (sym (step_is p clock i false (sym goes))))

-- what is asked, and whether the module moves on it
pub record IsAnswered (p : Plan) (clock i : ℕ) (contents : List (List Element)) (asked : List Request) (goes : Bool) : Type 0 where
  pub holding : contents ≡ (state p clock).contents
  pub asked_is : asked ≡ requests_of p (i, state_at p clock i)
  pub goes_is : goes ≡ does_move p clock i

pub given_outcomes : (p : Plan) (clock i : ℕ) (contents : List (List Element)) (asked : List Request) (goes : Bool) (before now : List Bool)
    → IsAnswered p clock i contents asked goes
    → now ≡ before ++ cond goes (outcomes_in (map (answered p clock contents) asked)) [] → now ≡ before ++ outcomes (step_at p clock i)
given_outcomes p clock i contents asked goes before now h e =
    given outcomes_in outcomes p clock i (λ xs. sym (outcomes_in_step clock i xs)) refl contents asked goes before now h.holding h.asked_is
    h.goes_is e

kept_none : (keep : Bool) → events_kept keep [] ≡ []
kept_none true = refl
kept_none false = refl

events_in_step : (clock i : ℕ) (xs : List Exchange) → events_of (step_with clock i xs) ≡ map (λ x. event_by clock i x.request) xs
events_in_step clock i [] = refl
events_in_step clock i (x ∷ xs) = append-nil _ ∙ ap (λ l. event_by clock i x.request ∷ l) (all_same xs)
  where
    all_same : (ys : List Exchange)
        → map (event_of (record { clock = clock; «module» = i; exchanges = x ∷ xs })) ys ≡ map (λ x. event_by clock i x.request) ys
    all_same [] = refl
    all_same (y ∷ ys) = ap (λ l. event_by clock i y.request ∷ l) (all_same ys)

asked_events : (p : Plan) (clock i : ℕ) (contents : List (List Element)) (asked : List Request)
    → map (event_by clock i) asked ≡ map (λ x. event_by clock i x.request) (map (answered p clock contents) asked)
asked_events p clock i contents [] = refl
asked_events p clock i contents (r ∷ asked) = ap (λ l. event_by clock i r ∷ l) (asked_events p clock i contents asked)

-- what a module does
pub given_done : (p : Plan) (clock i : ℕ) (contents : List (List Element)) (asked : List Request) (goes keep : Bool) (before now : Round)
    → IsAnswered p clock i contents asked goes
    → now.traffic.pops ≡ before.traffic.pops ++ cond goes (popped (map (answered p clock contents) asked)) []
    → now.traffic.pushes ≡ before.traffic.pushes ++ cond goes (pushed (map (answered p clock contents) asked)) []
    → now.events ≡ before.events ++ cond goes (events_kept keep (map (event_by clock i) asked)) []
    → HasDone keep before now (step_at p clock i)
given_done p clock i contents asked goes keep before now h pops pushes events = record {
  traffic = record {
    pops = given popped (λ ss. popped (exchanges_in ss)) p clock i (λ xs. ap popped (sym (operations_in_step clock i xs))) refl contents
        asked goes before.traffic.pops now.traffic.pops h.holding h.asked_is h.goes_is pops;
    pushes = given pushed (λ ss. pushed (exchanges_in ss)) p clock i (λ xs. ap pushed (sym (operations_in_step clock i xs))) refl contents
        asked goes before.traffic.pushes now.traffic.pushes h.holding h.asked_is h.goes_is pushes;
  };
  events = given (λ xs. events_kept keep (map (λ x. event_by clock i x.request) xs)) (λ ss. events_kept keep (events_of ss)) p clock i
      (λ xs. ap (events_kept keep) (sym (events_in_step clock i xs)))
      (kept_none keep) contents asked goes before.events now.events h.holding
      h.asked_is h.goes_is
      (events ∙ ap (λ (es : List EventLine). before.events ++ cond goes (events_kept keep es) []) (asked_events p clock i contents asked));
}

-- ---- what they leave in the channels

moved_in_none : (side : Side) (f : ℕ) → moved side f [] ≡ moved_by side f []
unfolding moved moved_by
moved_in_none side f = refl

moved_in_first : (side : Side) (f : ℕ) (s : HistoryStep) (steps : List HistoryStep)
    → moved side f (s ∷ steps) ≡ moved_by side f s.exchanges ++ moved side f steps
unfolding moved
moved_in_first side f s steps = refl

moved_in : (side : Side) (f : ℕ) (steps : List HistoryStep) → moved side f steps ≡ moved_by side f (exchanges_in steps)
moved_in side f [] = moved_in_none side f
moved_in side f (s ∷ steps) =
    moved_in_first side f s steps ∙ (ap (λ l. moved_by side f s.exchanges ++ l) (moved_in side f steps)
    ∙ sym (moved_by-append side f s.exchanges (exchanges_in steps)))

values_of : (on : ℕ → Element) (qs : List PushedValue) → map (λ (q : PushedValue). on q.value) qs
    ≡ map on (map (λ (q : PushedValue). q.value) qs)
values_of on [] = refl
values_of on (q ∷ qs) = ap (λ l. on q.value ∷ l) (values_of on qs)

after_clock : (p : Plan) (clock : ℕ) (steps : List HistoryStep) (m : ℕ × List Element)
    → after_pushes p clock (pushed (exchanges_in steps)) (m.0, after_pops (popped (exchanges_in steps)) m) ≡ contents_after p clock steps m
after_clock p clock steps m =
    let xs = exchanges_in steps in
    let on = element_from (clock + delay_at p m.0) in
    let pops : drop (length (filter (λ (c : ℕ). eqb c m.0) (popped xs))) m.1 ≡ drop (length (moved Pop m.0 steps)) m.1 =
    ap (λ n. drop n m.1) (popped_at m.0 xs ∙ sym (ap length (moved_in Pop m.0 steps))) in
    let pushes : map (λ (q : PushedValue). on q.value) (filter (λ (q : PushedValue). eqb q.channel m.0) (pushed xs))
    ≡ map on (moved Push m.0 steps) =
    values_of on (filter (λ (q : PushedValue). eqb q.channel m.0) (pushed xs))
    ∙ ap (map on) (pushed_at m.0 xs ∙ sym (moved_in Push m.0 steps)) in
    λ i. pops i ++ pushes i

-- first all pops, then all pushes
pub contents_next : (p : Plan) (clock : ℕ) (steps : List HistoryStep) (pops : List ℕ) (pushes : List PushedValue)
    (before now next : List (List Element)) → pops ≡ popped (exchanges_in steps) → pushes ≡ pushed (exchanges_in steps)
    → now ≡ map (after_pops pops) (enumerate_from 0 before) → next ≡ map (after_pushes p clock pushes) (enumerate_from 0 now)
    → next ≡ map (contents_after p clock steps) (enumerate_from 0 before)
contents_next p clock steps pops pushes before now next pops_are pushes_are e f =
    let xs = exchanges_in steps in
    f ∙ (ap (λ (qs : List PushedValue). map (after_pushes p clock qs) (enumerate_from 0 now)) pushes_are
    ∙ (ap (λ (contents : List (List Element)). map (after_pushes p clock (pushed xs)) (enumerate_from 0 contents))
    (e ∙ ap (λ (cs : List ℕ). map (after_pops cs) (enumerate_from 0 before)) pops_are)
    ∙ twice (after_pushes p clock (pushed xs)) (after_pops (popped xs)) (contents_after p clock steps) 0 before
    (after_clock p clock steps)))
