-- A log names modules and channels of its plan alone.
use Rattle.std.proofs.Common.{◌≡◌, sym, ◌∙◌, ap, ap₂, subst, refl, List, [], ◌∷◌, ◌++◌, map, length, ◌<◌, suc, arith, ℕ, ◌+◌, ◌-◌, get_or}
use Rattle.std.proofs.Common.{length-append}
use Rattle.std.proofs.lemmas.List.{map-append, get_or_append_left, get_or-append_right}
use Rattle.std.proofs.{lemmas.List.Concat.flat_map-append, lemmas.List.Elements.All-cons, lemmas.List.Elements.All-nil}
use Rattle.std.specs.Prelude.{All}
use Rattle.trace_text.specs.{Design, Plan, EventLine, clock_of, HistoryStep, Exchange, history, verdict, HasNumbersOf, event_of, events_of}
use Rattle.trace_text.specs.{report, LoggedAccess, log_of, logged, logged_in, IsOfDesign}

step_events : (s : HistoryStep) (xs : List Exchange) → map (λ (a : LoggedAccess). a.event) (map (logged s) xs) ≡ map (event_of s) xs
step_events s [] = refl
step_events s (x ∷ xs) = ap (λ (rest : List EventLine). event_of s x ∷ rest) (step_events s xs)

-- the events of a log are those of the report
events : (steps : List HistoryStep) → map (λ (a : LoggedAccess). a.event) (logged_in steps) ≡ events_of steps
events [] = refl
events (s ∷ steps) =
    map-append (λ (a : LoggedAccess). a.event) (map (logged s) s.exchanges) (logged_in steps)
    ∙ ap₂ (λ (xs ys : List EventLine). xs ++ ys) (step_events s s.exchanges) (events steps)

named : (design : Design) (log : List LoggedAccess)
    → All (λ (e : EventLine). (e.module < length design.modules) × (e.channel < length design.channels))
    (map (λ (a : LoggedAccess). a.event) log)
    → All (IsOfDesign design) log
named design [] h = All-nil (IsOfDesign design)
named design (a ∷ log) h =
    All-cons (IsOfDesign design) a log (h 0 a.event (omega arith)) (named design log (λ k d inside. h (suc k) d (omega (arith, inside))))

pub all_named : (p : Plan) → HasNumbersOf p (report p) → All (IsOfDesign p.design) (log_of p)
unfolding report log_of
all_named p h =
    let steps = history p (clock_of (verdict p)) in
    named p.design (logged_in steps) (subst (All (λ (e : EventLine). (e.module < length p.design.modules)
    × (e.channel < length p.design.channels)))
    (sym (events steps)) h.events)

-- so does a part of it
pub part_named : (p : Plan) → HasNumbersOf p (report p) → (before here after : List HistoryStep)
    → (before ++ here) ++ after ≡ history p (clock_of (verdict p)) → All (IsOfDesign p.design) (logged_in here)
unfolding log_of
part_named p h before here after are =
    let all = subst (λ (steps : List HistoryStep). All (IsOfDesign p.design) (logged_in steps)) (sym are) (all_named p h) in
    let first = left (logged_in (before ++ here)) (logged_in after)
    (subst (All (IsOfDesign p.design)) (flat_map-append (λ (s : HistoryStep). map (logged s) s.exchanges) (before ++ here) after) all) in
    right (logged_in before) (logged_in here)
    (subst (All (IsOfDesign p.design)) (flat_map-append (λ (s : HistoryStep). map (logged s) s.exchanges) before here) first)
  where
    left : (xs ys : List LoggedAccess) → All (IsOfDesign p.design) (xs ++ ys) → All (IsOfDesign p.design) xs
    left xs ys all k d l =
        subst (IsOfDesign p.design) (get_or_append_left xs ys d k l) (all k d (omega (arith, length-append xs ys)))

    right : (xs ys : List LoggedAccess) → All (IsOfDesign p.design) (xs ++ ys) → All (IsOfDesign p.design) ys
    right xs ys all k d l =
        let at : (length xs + k) - length xs ≡ k = omega arith in
        subst (IsOfDesign p.design)
        (get_or-append_right xs ys (length xs) (length xs + k) d refl (omega arith) ∙ ap (λ (j : ℕ). get_or ys j d) at)
        (all (length xs + k) d (omega (arith, length-append xs ys)))
