-- A module's steps in the history are those of its own run on the history's replies.
use Rattle.std.proofs.Common.{◌≡◌, ◌≢◌, ℕ, zero, suc, ◌+◌, ◌≤◌, ◌<◌, List, [], ◌∷◌, ◌++◌, map, length, get_or, Bool, true, false, ◌&&◌}
use Rattle.std.proofs.Common.{◌==◌, not, cond, refl, sym, ◌∙◌, ap, subst, arith, zero-add, length-append}
use Rattle.std.proofs.lemmas.List.{append-nil, length-map, get_or-map, get_or_push, map-append}
use Rattle.std.proofs.{lemmas.List.Elements.filter-append, Math.ListN.get_or-append}
use Rattle.std.proofs.lemmas.List.FromFn.{get_or-enumerate_from, length-enumerate_from}
use Rattle.std.proofs.lemmas.Bool.{ne_eqb, eq-eqb, or_parts, leb-false}
use Rattle.std.specs.List.{enumerate_from, flat_map}
use Rattle.lockstep_defs.specs.{Plan, Element, ClockState, ModuleState, Request, Reply, requests, move, opened, is_spent, is_over, nobody}
use Rattle.lockstep_defs.specs.{HistoryStep, Exchange, reply, steps_of, no_module, module_at, numbered, requests_of, moves, next_state}
use Rattle.lockstep_defs.specs.{answered, step_with, module_step, steps_in, clock_step, opening, moment, state, history, state_at, OwnStep}
use Rattle.lockstep_defs.specs.{Own, own_after, own_next, own_run, paired, replies_by_step, exchanges_by_step, clocks_made, own_at}
use Rattle.lockstep_defs.specs.{IsOwnRun}
use Rattle.lockstep_defs.proofs.Settled.{state-suc, history-suc}

-- ---- the own run looks at no more replies than it has made steps

length_own_after : (p : Plan) (i : ℕ) (o : Own) (rs : List Request) (qs : List Reply)
    → length o.steps ≤ length (own_after (module_at p i) o rs qs).steps
length_own_after p i o [] qs = omega arith
length_own_after p i o (r ∷ rs) qs = omega (arith, length-append {A = OwnStep})

-- one local clock of a run that is not over
abbrev goes_on : Plan → ℕ → List (List Reply) → Own → Own
goes_on p i qss o = own_after (module_at p i) o (requests p.design.channels (module_at p i) o.state) (get_or qss (length o.steps) [])

pub next_grows : (p : Plan) (i : ℕ) (qss : List (List Reply)) (o : Own) → length o.steps ≤ length (own_next p i qss o).steps
unfolding own_next
next_grows p i qss o = grows (is_over p.ops o.state)
  where
    grows : (b : Bool) → length o.steps ≤ length (cond b o (goes_on p i qss o)).steps
    grows true = omega arith
    grows false = length_own_after p i o (requests p.design.channels (module_at p i) o.state) (get_or qss (length o.steps) [])

abbrev SameBelow : List (List Reply) → List (List Reply) → ℕ → Type 0
SameBelow qss rss n = (k : ℕ) → k < n → get_or qss k [] ≡ get_or rss k []

after_same : (p : Plan) (i : ℕ) (qss rss : List (List Reply)) (o : Own) (rs : List Request)
    → SameBelow qss rss (length (own_after (module_at p i) o rs (get_or qss (length o.steps) [])).steps)
    → own_after (module_at p i) o rs (get_or qss (length o.steps) []) ≡ own_after (module_at p i) o rs (get_or rss (length o.steps) [])
after_same p i qss rss o [] h = refl
after_same p i qss rss o (r ∷ rs) h =
    let below : length o.steps < length
    (o.steps ++ record { gap = o.since; requests = r ∷ rs; replies = get_or qss (length o.steps) [] } ∷ []) =
    omega (arith, length-append {A = OwnStep}) in
    ap (own_after (module_at p i) o (r ∷ rs)) (h (length o.steps) below)

next_same : (p : Plan) (i : ℕ) (qss rss : List (List Reply)) (o : Own) → SameBelow qss rss (length (own_next p i qss o).steps)
    → own_next p i qss o ≡ own_next p i rss o
unfolding own_next
next_same p i qss rss o = same (is_over p.ops o.state)
  where
    same : (b : Bool) → SameBelow qss rss (length (cond b o (goes_on p i qss o)).steps)
        → cond b o (goes_on p i qss o) ≡ cond b o (goes_on p i rss o)
    same true h = refl
    same false h = after_same p i qss rss o (requests p.design.channels (module_at p i) o.state) h

pub own_same : (p : Plan) (i : ℕ) (qss rss : List (List Reply)) (n : ℕ) → SameBelow qss rss (length (own_run p i qss n).steps)
    → own_run p i qss n ≡ own_run p i rss n
unfolding own_run
own_same p i qss rss zero h = refl
own_same p i qss rss (suc n) h =
    let o = own_run p i qss n in
    let here : own_run p i qss n ≡ own_run p i rss n = own_same p i qss rss n (λ k l. h k (omega (arith, next_grows p i qss o))) in
    next_same p i qss rss o h ∙ ap (own_next p i rss) here

-- ---- of a clock's steps one module's are its own

own_of_other : (c i j : ℕ) (xs : List Exchange) → (j == i) ≡ false → steps_of i (step_with c j xs) ≡ []
own_of_other c i j [] h = refl
own_of_other c i j (x ∷ xs) h = rw h

own_of_self : (c i : ℕ) (xs : List Exchange) → (i == i) ≡ true → steps_of i (step_with c i xs) ≡ step_with c i xs
own_of_self c i [] h = refl
own_of_self c i (x ∷ xs) h = rw h

of_other : (p : Plan) (c : ℕ) (contents : List (List Element)) (i : ℕ) (m : ℕ × ModuleState) (b : Bool) → (m.0 == i) ≡ false
    → steps_of i (cond b (step_with c m.0 (map (answered p c contents) (requests_of p m))) []) ≡ []
of_other p c contents i m false h = refl
of_other p c contents i m true h = own_of_other c i m.0 (map (answered p c contents) (requests_of p m)) h

of_self : (p : Plan) (c : ℕ) (contents : List (List Element)) (i : ℕ) (s : ModuleState) (b : Bool)
    → steps_of i (cond b (step_with c i (map (answered p c contents) (requests_of p (i, s)))) [])
    ≡ cond b (step_with c i (map (answered p c contents) (requests_of p (i, s)))) []
of_self p c contents i s false = refl
of_self p c contents i s true = own_of_self c i (map (answered p c contents) (requests_of p (i, s))) (eq-eqb i i refl)

none_of : (p : Plan) (c : ℕ) (contents : List (List Element)) (i n : ℕ) (ss : List ModuleState) → i < n
    → steps_of i (flat_map (module_step p c contents) (enumerate_from n ss)) ≡ []
none_of p c contents i n [] h = refl
none_of p c contents i n (s ∷ ss) h =
    let other : n ≢ i = omega arith in
    let rest = none_of p c contents i (n + 1) ss (omega arith) in
    rw (filter-append, of_other p c contents i (n, s) (moves p c contents (n, s)) (ne_eqb n i other), rest)

picked : (p : Plan) (c : ℕ) (contents : List (List Element)) (n k i : ℕ) (d : ModuleState) (ss : List ModuleState) → i ≡ n + k
    → k < length ss
    → steps_of i (flat_map (module_step p c contents) (enumerate_from n ss)) ≡ module_step p c contents (i, get_or ss k d)
picked p c contents n k i d [] e h = absurd (omega arith)
picked p c contents n zero i d (s ∷ ss) e h =
    let here : n ≡ i = omega arith in
    rw here
    (rw (filter-append, none_of p c contents i (i + 1) ss (omega arith), of_self p c contents i s (moves p c contents (i, s)))
    (append-nil _))
picked p c contents n (suc k) i d (s ∷ ss) e h =
    let other : n ≢ i = omega arith in
    let rest = picked p c contents (n + 1) k i d ss (omega arith) (omega arith) in
    rw (filter-append, of_other p c contents i (n, s) (moves p c contents (n, s)) (ne_eqb n i other), rest)

-- ---- one clock of one module

pub modules-step : (p : Plan) (c : ℕ) (st : ClockState) (i : ℕ) (d : ModuleState) → i < length st.modules
    → get_or (clock_step p c st).modules i d ≡ next_state p c st.contents (i, get_or st.modules i d)
unfolding clock_step
modules-step p c st i d h =
    let inside : i < length (numbered st) = omega (arith, length-enumerate_from 0 st.modules) in
    let here : (0 + i, get_or st.modules i d) ≡ (i, get_or st.modules i d) = ap (λ (n : ℕ). (n, get_or st.modules i d)) (zero-add i) in
    get_or-map (next_state p c st.contents) (numbered st) i (0, d) d inside
    ∙ ap (next_state p c st.contents) (get_or-enumerate_from 0 st.modules i (0, d) h ∙ here)

length-modules : (p : Plan) (c : ℕ) (st : ClockState) → length (clock_step p c st).modules ≡ length st.modules
unfolding clock_step
length-modules p c st = length-map (numbered st) (next_state p c st.contents) ∙ length-enumerate_from 0 st.modules

first_length : (p : Plan) → length (state p 0).modules ≡ length p.design.modules
unfolding moment opening
first_length p = length-map p.design.modules opened

pub all_modules : (p : Plan) (c : ℕ) → length (state p c).modules ≡ length p.design.modules
all_modules p zero = first_length p
all_modules p (suc c) = ap (λ (st : ClockState). length st.modules) (state-suc p c) ∙ (length-modules p c (state p c) ∙ all_modules p c)

pub state_at-zero : (p : Plan) (i : ℕ) → i < length p.design.modules → state_at p 0 i ≡ opened (module_at p i)
unfolding moment opening
state_at-zero p i h = get_or-map opened p.design.modules i no_module nobody h

pub state_at-suc : (p : Plan) (c i : ℕ) → i < length p.design.modules
    → state_at p (suc c) i ≡ next_state p c (state p c).contents (i, state_at p c i)
state_at-suc p c i h =
    let inside : i < length (state p c).modules = omega (arith, all_modules p c) in
    rw state-suc (modules-step p c (state p c) i nobody inside)

pub steps_of-suc : (p : Plan) (c i : ℕ) → i < length p.design.modules
    → steps_of i (history p (suc c)) ≡ steps_of i (history p c) ++ module_step p c (state p c).contents (i, state_at p c i)
unfolding steps_in
steps_of-suc p c i h =
    let inside : i < length (state p c).modules = omega (arith, all_modules p c) in
    rw (history-suc, filter-append)
    (ap (λ (l : List HistoryStep). steps_of i (history p c) ++ l)
    (picked p c (state p c).contents 0 i i nobody (state p c).modules (sym (zero-add i)) inside))

-- ---- one local clock of both

-- an own run has come to this state by these steps
pub record Agrees (o : Own) (s : ModuleState) (steps : List HistoryStep) : Type 0 where
  pub state_is : o.state ≡ s
  pub steps_are : exchanges_by_step o.steps ≡ map (λ t. t.exchanges) steps

replies_of_answered : (p : Plan) (c : ℕ) (contents : List (List Element)) (rs : List Request)
    → map (λ x. x.reply) (map (answered p c contents) rs) ≡ map (reply p c contents) rs
replies_of_answered p c contents [] = refl
replies_of_answered p c contents (r ∷ rs) = ap (λ (l : List Reply). reply p c contents r ∷ l) (replies_of_answered p c contents rs)

pub paired_answered : (p : Plan) (c : ℕ) (contents : List (List Element)) (rs : List Request)
    → paired rs (map (reply p c contents) rs) ≡ map (answered p c contents) rs
paired_answered p c contents [] = refl
paired_answered p c contents (r ∷ rs) = ap (λ (l : List Exchange). answered p c contents r ∷ l) (paired_answered p c contents rs)

lengths_agree : (o : Own) (s : ModuleState) (steps : List HistoryStep) → Agrees o s steps → length o.steps ≡ length (replies_by_step steps)
lengths_agree o s steps h =
    sym (length-map o.steps (λ t. paired t.requests t.replies))
    ∙ (ap length h.steps_are ∙ (length-map steps (λ t. t.exchanges) ∙ sym (length-map steps (λ t. map (λ x. x.reply) t.exchanges))))

-- the replies to the step that comes next
next_replies : (p : Plan) (c i : ℕ) (contents : List (List Element)) (o : Own) (s : ModuleState) (steps : List HistoryStep) (r : Request)
    (rs : List Request)
    → Agrees o s steps
    → get_or (replies_by_step (steps ++ step_with c i (map (answered p c contents) (r ∷ rs)))) (length o.steps) []
    ≡ map (reply p c contents) (r ∷ rs)
next_replies p c i contents o s steps r rs h =
    rw (map-append, lengths_agree o s steps h)
    (get_or_push (replies_by_step steps) _ [] (length (replies_by_step steps)) refl ∙ replies_of_answered p c contents (r ∷ rs))

agrees_after : (p : Plan) (c i : ℕ) (contents : List (List Element)) (o : Own) (s : ModuleState) (steps : List HistoryStep)
    (rs : List Request) → Agrees o s steps
    → Agrees (own_after (module_at p i) o rs
    (get_or (replies_by_step (steps ++ step_with c i (map (answered p c contents) rs))) (length o.steps) []))
    (move (module_at p i) s (map (reply p c contents) rs)) (steps ++ step_with c i (map (answered p c contents) rs))
agrees_after p c i contents o s steps [] h = rw (append-nil steps) (record {
  state_is = ap (λ (t : ModuleState). move (module_at p i) t []) h.state_is;
  steps_are = h.steps_are;
})
agrees_after p c i contents o s steps (r ∷ rs) h =
    let qs = next_replies p c i contents o s steps r rs h in
    rw qs (record {
      state_is = ap (λ (t : ModuleState). move (module_at p i) t (map (reply p c contents) (r ∷ rs))) h.state_is;
      steps_are = simp (map-append, h.steps_are)
          (ap (λ (l : List Exchange). map (λ (t : HistoryStep). t.exchanges) steps ++ l ∷ []) (paired_answered p c contents (r ∷ rs)));
    })

-- ---- the whole history

own_first : (p : Plan) (i : ℕ) (qss : List (List Reply)) (s : ModuleState) (steps : List HistoryStep) → opened (module_at p i) ≡ s
    → steps ≡ []
    → Agrees (own_run p i qss 0) s steps
unfolding own_run
own_first p i qss s steps e none = rw (← e, none) (record { state_is = refl; steps_are = refl })

first_steps : (p : Plan) (i : ℕ) → steps_of i (history p 0) ≡ []
unfolding moment
first_steps p i = refl

pub own_suc : (p : Plan) (i : ℕ) (qss : List (List Reply)) (n : ℕ) → own_run p i qss (suc n) ≡ own_next p i qss (own_run p i qss n)
unfolding own_run
own_suc p i qss n = refl

next_on : (p : Plan) (i : ℕ) (qss : List (List Reply)) (o : Own) → is_over p.ops o.state ≡ false → own_next p i qss o ≡ goes_on p i qss o
unfolding own_next
next_on p i qss o e = ap (λ (b : Bool). cond b o (goes_on p i qss o)) e

-- a module that is not over
pub not_ended : (limit : ℕ) (s : ModuleState) → is_over limit s ≡ false → s.ended ≡ false
unfolding is_over
not_ended limit s h = (or_parts s.ended (is_spent limit s) h).0

pub below_limit : (limit : ℕ) (s : ModuleState) → is_over limit s ≡ false → s.count < limit
unfolding is_over
below_limit limit s h =
    let parts = or_parts s.ended (is_spent limit s) h in
    leb-false limit s.count (rw parts.0 at parts.1)

-- a module that moves is not over
pub is_on : (p : Plan) (c : ℕ) (contents : List (List Element)) (m : ℕ × ModuleState) → moves p c contents m ≡ true
    → is_over p.ops m.1 ≡ false
unfolding moves
is_on p c contents m h = by_tests (is_over p.ops m.1) _ h
  where
    by_tests : (a b : Bool) → (not a && b) ≡ true → a ≡ false
    by_tests true b e = cc
    by_tests false b e = refl

longer : (steps now : List HistoryStep) (k : ℕ) → k < length (replies_by_step steps)
    → get_or (replies_by_step steps) k [] ≡ get_or (replies_by_step (steps ++ now)) k []
longer steps now k l = rw map-append (sym (get_or-append (replies_by_step steps) (replies_by_step now) [] k l))

one_more : (p : Plan) (c i : ℕ) (contents : List (List Element)) (n : ℕ) (s : ModuleState) (steps : List HistoryStep) (b : Bool)
    → moves p c contents (i, s) ≡ b
    → Agrees (own_run p i (replies_by_step steps) n) s steps
    → Agrees (own_run p i (replies_by_step (steps ++ cond b (step_with c i (map (answered p c contents) (requests_of p (i, s)))) []))
    (cond b (suc n) n))
    (cond b (move (module_at p i) s (map (reply p c contents) (requests_of p (i, s)))) s)
    (steps ++ cond b (step_with c i (map (answered p c contents) (requests_of p (i, s)))) [])
one_more p c i contents n s steps false e h = rw (append-nil steps) h
one_more p c i contents n s steps true e h =
    let now = step_with c i (map (answered p c contents) (requests_of p (i, s))) in
    let qss = replies_by_step (steps ++ now) in
    let same : own_run p i (replies_by_step steps) n ≡ own_run p i qss n =
    own_same p i (replies_by_step steps) qss n (λ k l. longer steps now k (omega (arith, lengths_agree _ _ _ h))) in
    let o = own_run p i qss n in
    let also : Agrees o s steps = subst (λ (x : Own). Agrees x s steps) same h in
    let on : is_over p.ops o.state ≡ false = ap (is_over p.ops) also.state_is ∙ is_on p c contents (i, s) e in
    let same_requests = ap (λ (t : ModuleState). own_after (module_at p i) o (requests p.design.channels (module_at p i) t)
    (get_or qss (length o.steps) [])) also.state_is in
    rw (own_suc p i qss n ∙ (next_on p i qss o on ∙ same_requests))
    (agrees_after p c i contents o s steps (requests_of p (i, s)) also)

agrees : (p : Plan) (i : ℕ) → i < length p.design.modules → (c : ℕ) → Agrees (own_at p i c) (state_at p c i) (steps_of i (history p c))
unfolding clocks_made
agrees p i h zero =
    own_first p i (replies_by_step (steps_of i (history p 0))) (state_at p 0 i) (steps_of i (history p 0)) (sym (state_at-zero p i h))
    (first_steps p i)
agrees p i h (suc c) =
    rw (steps_of-suc p c i h, state_at-suc p c i h)
    (one_more p c i (state p c).contents (clocks_made p i c) (state_at p c i) (steps_of i (history p c))
    (moves p c (state p c).contents (i, state_at p c i)) refl (agrees p i h c))

pub is_own_run : (p : Plan) (i c : ℕ) → i < length p.design.modules → IsOwnRun p i c
is_own_run p i c h = record { state_is = (agrees p i h c).state_is; steps_are = (agrees p i h c).steps_are }
