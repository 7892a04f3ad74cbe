-- A settled state stays, and from a clock that is not settled some module moves.
use Rattle.std.proofs.Common.{◌≡◌, ℕ, zero, suc, ◌+◌, ◌≤◌, ◌<◌, max, List, [], ◌∷◌, ◌++◌, map, Bool, true, false, ◌&&◌, ◌||◌, not, refl}
use Rattle.std.proofs.Common.{sym, ◌∙◌, ap, ap₂, arith, zero-add, suc-add, below_more, ◌⊎◌, inl, inr}
use Rattle.std.proofs.lemmas.Bool.{or_parts, or_from, and_parts, not-true, cases_Bool, both_ways}
use Rattle.std.proofs.lemmas.List.{append-nil, length-map}
use Rattle.std.specs.List.{list_any, enumerate_from, flat_map}
use Rattle.lockstep_defs.specs.{Kind, Side, side_of, is_blocking, Plan, ClockState, Element, ModuleState, Request, is_over, some_moves}
use Rattle.lockstep_defs.specs.{is_settled, element_from, contents_of, is_empty, is_full, all_ready, can_take, stalls, moved, numbered}
use Rattle.lockstep_defs.specs.{requests_of, moves, next_state, module_step, steps_in, contents_after, clock_step, moment, state, history}
use Rattle.flow_word.specs.declared.access.Kind.TheVariants.{Read, Write, TryRead, TryWrite, Empty, Full}
use Rattle.flow_word.specs.declared.access.Side.TheVariants.{Pop, Push}

-- ---- the state and the history of the next clock

pub state-suc : (p : Plan) (c : ℕ) → state p (suc c) ≡ clock_step p c (state p c)
unfolding moment
state-suc p c = refl

pub history-zero : (p : Plan) → history p 0 ≡ []
unfolding moment
history-zero p = refl

pub history-suc : (p : Plan) (c : ℕ) → history p (suc c) ≡ history p c ++ steps_in p c (state p c)
unfolding moment
history-suc p c = refl

-- ---- where every element can be popped the clock does not matter

-- these elements as they would be if each could be popped
abbrev pub ready : List Element → List Element
ready held = map (λ e. element_from 0 e.value) held

ready_contents : (contents : List (List Element)) (f : ℕ) → contents_of (all_ready contents) f ≡ ready (contents_of contents f)
ready_contents [] f = refl
ready_contents (held ∷ contents) zero = refl
ready_contents (held ∷ contents) (suc f) = ready_contents contents f

ready_empty : (b c : ℕ) (held : List Element) → is_empty b (ready held) ≡ is_empty c (ready held)
ready_empty b c [] = refl
ready_empty b c (e ∷ held) = grind arith

-- what keeps from being done at a side
abbrev at_side : Side → Bool → Bool → Bool
at_side Pop e f = not (not e)
at_side Push e f = not (not f)

-- a request stalls in the same way where its channel is as empty and as full
abbrev stalls_by : (k : Kind) → Bool → Bool → Bool
stalls_by k e f = is_blocking k && at_side (side_of k) e f

stalls_as : (p : Plan) (c : ℕ) (contents : List (List Element)) (r : Request)
    → stalls p c contents r ≡ stalls_by r.kind (is_empty c (contents_of contents r.channel))
    (is_full p r.channel (contents_of contents r.channel))
stalls_as p c contents r = by_kind r.kind
  where
    by_kind : (k : Kind) → (is_blocking k && not (can_take p c contents (side_of k) r.channel))
        ≡ stalls_by k (is_empty c (contents_of contents r.channel)) (is_full p r.channel (contents_of contents r.channel))
    by_kind Read = refl
    by_kind Write = refl
    by_kind TryRead = refl
    by_kind TryWrite = refl
    by_kind Empty = refl
    by_kind Full = refl

pub full_ready : (p : Plan) (contents : List (List Element)) (f : ℕ)
    → is_full p f (contents_of (all_ready contents) f) ≡ is_full p f (contents_of contents f)
full_ready p contents f = rw (ready_contents contents f, length-map) refl

ready_stalls : (p : Plan) (c : ℕ) (contents : List (List Element)) (r : Request)
    → stalls p c (all_ready contents) r
    ≡ stalls_by r.kind (is_empty c (ready (contents_of contents r.channel))) (is_full p r.channel (contents_of contents r.channel))
ready_stalls p c contents r =
    stalls_as p c (all_ready contents) r
    ∙ ap₂ (λ (e f : Bool). stalls_by r.kind e f) (ap (is_empty c) (ready_contents contents r.channel)) (full_ready p contents r.channel)

-- on such contents a request stalls in each clock or in none
pub same_stalls : (p : Plan) (b c : ℕ) (contents : List (List Element)) (r : Request)
    → stalls p b (all_ready contents) r ≡ stalls p c (all_ready contents) r
same_stalls p b c contents r =
    ready_stalls p b contents r
    ∙ (ap (λ (e : Bool). stalls_by r.kind e (is_full p r.channel (contents_of contents r.channel)))
    (ready_empty b c (contents_of contents r.channel))
    ∙ sym (ready_stalls p c contents r))

-- ---- what can be done could be done if every element could be popped

fewer_stall : (k : Kind) (e e' f : Bool) → (e ≡ false → e' ≡ false) → stalls_by k e f ≡ false → stalls_by k e' f ≡ false
fewer_stall Read true e' f more h = cc
fewer_stall Read false e' f more h = let now = more refl in rw now
fewer_stall Write e e' f more h = h
fewer_stall TryRead e e' f more h = refl
fewer_stall TryWrite e e' f more h = refl
fewer_stall Empty e e' f more h = refl
fewer_stall Full e e' f more h = refl

ready_more : (c : ℕ) (held : List Element) → is_empty c held ≡ false → is_empty c (ready held) ≡ false
ready_more c [] h = h
ready_more c (e ∷ held) h = grind arith

ready_never_stalls : (p : Plan) (c : ℕ) (contents : List (List Element)) (r : Request) → stalls p c contents r ≡ false
    → stalls p c (all_ready contents) r ≡ false
ready_never_stalls p c contents r h =
    let held = contents_of contents r.channel in
    ready_stalls p c contents r
    ∙ fewer_stall r.kind (is_empty c held) (is_empty c (ready held)) (is_full p r.channel held) (ready_more c held)
    (sym (stalls_as p c contents r) ∙ h)

none_stall : (p : Plan) (c : ℕ) (contents : List (List Element)) (rs : List Request) → list_any (stalls p c contents) rs ≡ false
    → list_any (stalls p c (all_ready contents)) rs ≡ false
none_stall p c contents [] h = refl
none_stall p c contents (r ∷ rs) h =
    let parts = or_parts (stalls p c contents r) (list_any (stalls p c contents) rs) h in
    or_from _ _ (ready_never_stalls p c contents r parts.0) (none_stall p c contents rs parts.1)

-- ---- whether a module moves

-- requests that stall alike in two situations
any_alike : (g h : Request → Bool) → ((r : Request) → g r ≡ h r) → (rs : List Request) → list_any g rs ≡ list_any h rs
any_alike g h same [] = refl
any_alike g h same (r ∷ rs) = ap₂ (λ (x y : Bool). x || y) (same r) (any_alike g h same rs)

moves_alike : (p : Plan) (b c : ℕ) (now later : List (List Element)) → ((r : Request) → stalls p b now r ≡ stalls p c later r)
    → (m : ℕ × ModuleState) → moves p b now m ≡ moves p c later m
unfolding moves
moves_alike p b c now later same m =
    ap (λ (z : Bool). not (is_over p.ops m.1) && not z) (any_alike (stalls p b now) (stalls p c later) same (requests_of p m))

pub some_alike : (p : Plan) (b c : ℕ) (now later : List (List Element)) → ((r : Request) → stalls p b now r ≡ stalls p c later r)
    → (st : ClockState) → some_moves p b now st ≡ some_moves p c later st
some_alike p b c now later same st =
    ap (λ (f : ℕ × ModuleState → Bool). list_any f (numbered st)) (λ i m. moves_alike p b c now later same m i)

still_by : (a x y : Bool) → (x ≡ false → y ≡ false) → (not a && not y) ≡ false → (not a && not x) ≡ false
still_by true x y more h = refl
still_by false true y more h = refl
still_by false false y more h = let now = more refl in rw now at h

keeps_still : (p : Plan) (c : ℕ) (contents : List (List Element)) (m : ℕ × ModuleState) → moves p c (all_ready contents) m ≡ false
    → moves p c contents m ≡ false
unfolding moves
keeps_still p c contents m h = still_by (is_over p.ops m.1) _ _ (none_stall p c contents (requests_of p m)) h

-- where no module would move if every element could be popped, none moves in any clock
pub none_ever : (p : Plan) (b c : ℕ) (contents : List (List Element)) (st : ClockState) → some_moves p b (all_ready contents) st ≡ false
    → some_moves p c contents st ≡ false
none_ever p b c contents st h =
    by_modules (numbered st) (some_alike p c b (all_ready contents) (all_ready contents) (same_stalls p c b contents) st ∙ h)
  where
    by_modules : (ms : List (ℕ × ModuleState)) → list_any (moves p c (all_ready contents)) ms ≡ false
        → list_any (moves p c contents) ms ≡ false
    by_modules [] e = refl
    by_modules (m ∷ ms) e =
        let parts = or_parts (moves p c (all_ready contents) m) (list_any (moves p c (all_ready contents)) ms) e in
        or_from _ _ (keeps_still p c contents m parts.0) (by_modules ms parts.1)

settled_parts : (p : Plan) (c : ℕ) (st : ClockState) → is_settled p c st ≡ true
    → (some_moves p c st.contents st ≡ false) × (some_moves p c (all_ready st.contents) st ≡ false)
unfolding is_settled
settled_parts p c st h =
    let parts = and_parts (not (some_moves p c st.contents st)) (not (some_moves p c (all_ready st.contents) st)) h in
    (not-true _ parts.0, not-true _ parts.1)

settled_both : (x y : Bool) → x ≡ false → y ≡ false → (not x && not y) ≡ true
settled_both x y a b = rw (a, b)

pub settled_from : (p : Plan) (c : ℕ) (st : ClockState) → some_moves p c (all_ready st.contents) st ≡ false → is_settled p c st ≡ true
unfolding is_settled
settled_from p c st h = settled_both _ _ (none_ever p c c st.contents st h) h

-- a settled state is settled in each clock
pub settled_at : (p : Plan) (b c : ℕ) (st : ClockState) → is_settled p b st ≡ true → is_settled p c st ≡ true
settled_at p b c st h =
    settled_from p c st (some_alike p c b (all_ready st.contents) (all_ready st.contents) (same_stalls p c b st.contents) st
    ∙ (settled_parts p b st h).1)

-- ---- where no module moves

states_of : {X : Type 0} (n : ℕ) (xs : List X) → map (λ m. m.1) (enumerate_from n xs) ≡ xs
states_of n [] = refl
states_of n (x ∷ xs) = ap (λ l. x ∷ l) (states_of (n + 1) xs)

-- each module stays as it is
none_moves : (p : Plan) (c : ℕ) (contents : List (List Element)) (ms : List (ℕ × ModuleState)) → list_any (moves p c contents) ms ≡ false
    → map (next_state p c contents) ms ≡ map (λ m. m.1) ms
none_moves p c contents [] h = refl
none_moves p c contents (m ∷ ms) h =
    let parts = or_parts (moves p c contents m) (list_any (moves p c contents) ms) h in
    let rest = none_moves p c contents ms parts.1 in
    rw (parts.0, rest)

-- nothing is done
none_done : (p : Plan) (c : ℕ) (contents : List (List Element)) (ms : List (ℕ × ModuleState)) → list_any (moves p c contents) ms ≡ false
    → flat_map (module_step p c contents) ms ≡ []
none_done p c contents [] h = refl
none_done p c contents (m ∷ ms) h =
    let parts = or_parts (moves p c contents m) (list_any (moves p c contents) ms) h in
    let rest = none_done p c contents ms parts.1 in
    rw (parts.0, rest)

contents_stay : (p : Plan) (c n : ℕ) (contents : List (List Element)) → map (contents_after p c []) (enumerate_from n contents) ≡ contents
unfolding moved
contents_stay p c n [] = refl
contents_stay p c n (held ∷ contents) = let rest = contents_stay p c (n + 1) contents in rw (append-nil, rest)

nothing_done : (p : Plan) (c : ℕ) (st : ClockState) → some_moves p c st.contents st ≡ false → steps_in p c st ≡ []
unfolding steps_in
nothing_done p c st h = none_done p c st.contents (numbered st) h

-- a state in which no module moves is its own next one
pub still_step : (p : Plan) (c : ℕ) (st : ClockState) → some_moves p c st.contents st ≡ false → clock_step p c st ≡ st
unfolding clock_step
still_step p c st h =
    let same : map (next_state p c st.contents) (numbered st) ≡ st.modules =
    none_moves p c st.contents (numbered st) h ∙ states_of 0 st.modules in
    let kept : map (contents_after p c (steps_in p c st)) (enumerate_from 0 st.contents) ≡ st.contents =
    ap (λ steps. map (contents_after p c steps) (enumerate_from 0 st.contents)) (nothing_done p c st h) ∙ contents_stay p c 0 st.contents in
    λ i. record { modules = same i; contents = kept i }

-- ---- from a settled clock on

pub settled_stays : (p : Plan) (c n : ℕ) → is_settled p c (state p c) ≡ true → state p (n + c) ≡ state p c
settled_stays p c zero h = rw zero-add
settled_stays p c (suc n) h =
    let e = settled_stays p c n h in
    let still = (settled_parts p (n + c) (state p c) (settled_at p c (n + c) (state p c) h)).0 in
    rw suc-add (state-suc p (n + c) ∙ (ap (clock_step p (n + c)) e ∙ still_step p (n + c) (state p c) still))

pub still_settled : (p : Plan) (c n : ℕ) → is_settled p c (state p c) ≡ true → is_settled p (n + c) (state p (n + c)) ≡ true
still_settled p c n h = ap (is_settled p (n + c)) (settled_stays p c n h) ∙ settled_at p c (n + c) (state p c) h

-- in a settled clock no module moves
pub settled_none : (p : Plan) (c : ℕ) (st : ClockState) → is_settled p c st ≡ true → some_moves p c st.contents st ≡ false
settled_none p c st h = (settled_parts p c st h).0

pub history_stays : (p : Plan) (c n : ℕ) → is_settled p c (state p c) ≡ true → history p (n + c) ≡ history p c
history_stays p c zero h = rw zero-add
history_stays p c (suc n) h =
    let e = history_stays p c n h in
    let none = nothing_done p (n + c) (state p (n + c)) (settled_none p (n + c) (state p (n + c)) (still_settled p c n h)) in
    rw suc-add (history-suc p (n + c) ∙ (ap (λ steps. history p (n + c) ++ steps) none ∙ (append-nil _ ∙ e)))

-- ---- from a clock that is not settled some module moves

-- a clock from which on each of these elements can be popped
abbrev pub latest : List Element → ℕ
latest [] = 0
latest (e ∷ held) = max e.since (latest held)

abbrev pub latest_all : List (List Element) → ℕ
latest_all [] = 0
latest_all (held ∷ contents) = max (latest held) (latest_all contents)

late_empty : (c : ℕ) (held : List Element) → latest held ≤ c → is_empty c held ≡ is_empty c (ready held)
late_empty c [] l = refl
late_empty c (e ∷ held) l = grind arith

late_each : (c f : ℕ) (contents : List (List Element)) → latest_all contents ≤ c → latest (contents_of contents f) ≤ c
late_each c f [] l = omega arith
late_each c zero (held ∷ contents) l = omega arith
late_each c (suc f) (held ∷ contents) l = late_each c f contents (omega arith)

-- from then on the contents are as if every element could be popped
pub late_stalls : (p : Plan) (c : ℕ) (contents : List (List Element)) → latest_all contents ≤ c → (r : Request)
    → stalls p c contents r ≡ stalls p c (all_ready contents) r
late_stalls p c contents l r =
    let held = contents_of contents r.channel in
    stalls_as p c contents r
    ∙ (ap (λ (e : Bool). stalls_by r.kind e (is_full p r.channel held)) (late_empty c held (late_each c r.channel contents l))
    ∙ sym (ready_stalls p c contents r))

-- no module moves in so many clocks from c on
stays_while : (p : Plan) (c n : ℕ) → ((k : ℕ) → k < n → some_moves p (k + c) (state p (k + c)).contents (state p (k + c)) ≡ false)
    → state p (n + c) ≡ state p c
stays_while p c zero h = rw zero-add
stays_while p c (suc n) h =
    rw suc-add (state-suc p (n + c)
    ∙ (still_step p (n + c) (state p (n + c)) (h n (omega arith)) ∙ stays_while p c n (λ k l. h k (omega arith))))

-- where no module moves in a clock and those after it, the clock is settled
pub rests_settled : (p : Plan) (c : ℕ) → ((k : ℕ) → some_moves p (k + c) (state p (k + c)).contents (state p (k + c)) ≡ false)
    → is_settled p c (state p c) ≡ true
rests_settled p c h =
    let st = state p c in
    let n = latest_all st.contents in
    let same = stays_while p c n (λ k l. h k) in
    let none : some_moves p (n + c) st.contents st ≡ false = sym (ap (λ (s : ClockState). some_moves p (n + c) s.contents s) same) ∙ h n in
    let late = some_alike p (n + c) (n + c) st.contents (all_ready st.contents) (late_stalls p (n + c) st.contents (omega arith)) st in
    settled_from p c st
    (some_alike p c (n + c) (all_ready st.contents) (all_ready st.contents) (same_stalls p c (n + c) st.contents) st ∙ (sym late ∙ none))

-- the first of so many clocks in which a module moves, or none
look : (p : Plan) (c n : ℕ) → ((k : ℕ) × (some_moves p (k + c) (state p (k + c)).contents (state p (k + c)) ≡ true))
    ⊎ ((k : ℕ) → k < n → some_moves p (k + c) (state p (k + c)).contents (state p (k + c)) ≡ false)
look p c zero = inr (λ k l. absurd (omega arith))
look p c (suc n) = elim (look p c n) [
  | inl found ↦ inl found
  | inr none ↦ elim (cases_Bool (some_moves p (n + c) (state p (n + c)).contents (state p (n + c)))) [
    | inl e ↦ inl (n, e)
    | inr e ↦ inr (λ k l. below_more (λ j. some_moves p (j + c) (state p (j + c)).contents (state p (j + c)) ≡ false) n none e k
        (omega arith))
  ]
]

pub someone_moves : (p : Plan) (c : ℕ) → is_settled p c (state p c) ≡ false
    → (n : ℕ) × (some_moves p (n + c) (state p (n + c)).contents (state p (n + c)) ≡ true)
someone_moves p c h = elim (look p c (suc (latest_all (state p c).contents))) [
  | inl found ↦ found
  | inr none ↦
      let st = state p c in
      let n = latest_all st.contents in
      let same = stays_while p c n (λ k l. none k (omega arith)) in
      let still : some_moves p (n + c) st.contents st ≡ false = sym (ap (λ (s : ClockState). some_moves p (n + c) s.contents s) same)
      ∙ none n (omega arith) in
      let late = some_alike p (n + c) (n + c) st.contents (all_ready st.contents) (late_stalls p (n + c) st.contents (omega arith)) st in
      let settled = settled_from p c st
      (some_alike p c (n + c) (all_ready st.contents) (all_ready st.contents) (same_stalls p c (n + c) st.contents) st ∙ (sym late ∙ still))
      in
      absurd (both_ways _ h settled)
]
