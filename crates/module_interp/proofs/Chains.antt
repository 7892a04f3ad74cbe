-- The rests of a chain are the own run of the definitions, and their marks are its marks.
use Rattle.std.proofs.Common.{◌≡◌, ℕ, zero, suc, ◌+◌, ◌-◌, ◌<◌, ◌⊎◌, inl, inr, Bool, true, false, ◌||◌, List, [], ◌∷◌, ◌++◌, map, length}
use Rattle.std.proofs.Common.{cond, refl, sym, ap, subst, arith, ◌∙◌, length-append, append_assoc, zero-add, suc-add}
use Rattle.std.proofs.lemmas.Bool.{cases_Bool, cases_order, cond-true, cond-false}
use Rattle.std.proofs.lemmas.List.{append-nil, take_all, take-append-le}
use Rattle.std.specs.Prelude.{take}
use Rattle.module_interp.specs.{Step as StepOf, Plan, Advance, Reply, Request, FitsEngine, ModuleState, opened, is_over, is_spent, Exchange}
use Rattle.module_interp.specs.{module_at, requests_of, queries, OwnStep, Own, own_after, own_next, own_run, paired, access_of, step_marks}
use Rattle.module_interp.specs.{end_mark, marks, is_some_request, rests, skip, own_later, quiet, fits, to_rest, requests_at, done_in}
use Rattle.module_interp.specs.{accesses_at, mark_at, is_step, replies_to, rest_at, rest_clock, marks_before, GoesTo}
use Rattle.flow_design.specs.declared.design.Module.{Module}
use Rattle.flow_design.specs.declared.state.Advance.TheVariants.{Step, Ended, Spent}
use Rattle.lockstep_defs.proofs.Agrees.{own_suc}
use Rattle.lockstep_defs.proofs.Resting.{fits_opened, fits_move, quiet_goes, quiet_rests, own_goes}

-- ---- statements that the proofs go by

-- the step at the k-th rest, with its replies
abbrev step_at : Plan → ℕ → List (List Reply) → ℕ → OwnStep
step_at p i replies k =
    let o = rest_at p i replies k in
    record { gap = o.since; requests = requests_at p i o; replies = replies_to replies k }

-- one local clock after the k-th rest, on its replies
abbrev after : Plan → ℕ → List (List Reply) → ℕ → Own
after p i replies k =
    let o = rest_at p i replies k in
    own_after (module_at p i) o (requests_at p i o) (replies_to replies k)

-- the k-th rest is the own run after its local clocks
abbrev IsOwn : Plan → ℕ → List (List Reply) → ℕ → Type 0
IsOwn p i replies k = own_run p i replies (rest_clock p i replies k) ≡ rest_at p i replies k

-- the marks of the steps before the k-th rest are those of the first k rests
abbrev AreStepMarks : Plan → ℕ → List (List Reply) → ℕ → Type 0
AreStepMarks p i replies k = step_marks [] (rest_at p i replies k).steps ≡ marks_before p i replies k

-- the marks of the first n local clocks are those of all rests
abbrev AreAllMarks : Plan → ℕ → List (List Reply) → ℕ → Type 0
AreAllMarks p i replies n = marks p i replies n ≡ marks_before p i replies (suc (length replies))

-- steps with more after them
record HasGrown (a b : List OwnStep) : Type 0 where
  more : List OwnStep
  is : b ≡ a ++ more

-- ---- at a step

step_alive : (a b : Bool) (n : ℕ) (s : StepOf) → is_step (cond a (Ended n) (cond b (Spent n) (Step s))) ≡ true → (a || b) ≡ false
step_alive true b n s h = cc
step_alive false true n s h = cc
step_alive false false n s h = refl

step_again : (a b : Bool) (n : ℕ) (s : StepOf) → (a || b) ≡ false → cond a (Ended n) (cond b (Spent n) (Step s)) ≡ Step s
step_again true b n s h = cc
step_again false true n s h = cc
step_again false false n s h = refl

end_again : (a b : Bool) (n : ℕ) (s : StepOf) → (a || b) ≡ true
    → cond a (Ended n ∷ []) (cond b (Spent n ∷ []) []) ≡ cond a (Ended n) (cond b (Spent n) (Step s)) ∷ []
end_again true b n s h = refl
end_again false true n s h = refl
end_again false false n s h = cc

some_of : (a : Bool) (rs : List Request) → (a || is_some_request rs) ≡ true → a ≡ false → 0 < length rs
some_of true rs h e = cc
some_of false [] h e = cc
some_of false (r ∷ rs) h e = omega arith

after_steps : (m : Module) (o : Own) (rs : List Request) (qs : List Reply) → 0 < length rs
    → (own_after m o rs qs).steps ≡ o.steps ++ record { gap = o.since; requests = rs; replies = qs } ∷ []
after_steps m o [] qs h = absurd (omega arith)
after_steps m o (r ∷ rs) qs h = refl

after_grows : (m : Module) (o : Own) (rs : List Request) (qs : List Reply) → HasGrown o.steps (own_after m o rs qs).steps
after_grows m o [] qs = record { more = []; is = sym (append-nil o.steps) }
after_grows m o (r ∷ rs) qs = record { more = record { gap = o.since; requests = r ∷ rs; replies = qs } ∷ []; is = refl }

module _ (p : Plan) (i : ℕ) where
  abbrev step_of : Own → StepOf
  step_of o = record { gap = o.since; accesses = accesses_at p i o; first_query = length (queries (done_in o.steps)) }

  alive_at : (o : Own) → is_step (mark_at p i o) ≡ true → is_over p.ops o.state ≡ false
  unfolding is_over
  alive_at o h = step_alive o.state.ended (is_spent p.ops o.state) o.since _ h

  step_mark : (o : Own) → is_over p.ops o.state ≡ false → mark_at p i o ≡ Step (step_of o)
  unfolding is_over
  step_mark o h = step_again o.state.ended (is_spent p.ops o.state) o.since (step_of o) h

  over_mark : (o : Own) → is_over p.ops o.state ≡ true → end_mark p.ops o ≡ mark_at p i o ∷ []
  unfolding is_over
  over_mark o h = end_again o.state.ended (is_spent p.ops o.state) o.since (step_of o) h

-- ---- each rest is one

record IsRest (p : Plan) (i : ℕ) (o : Own) : Type 0 where
  fits : fits p i o.state ≡ true
  here : rests p i o.state ≡ true

some_asked : (p : Plan) (i : ℕ) (o : Own) → IsRest p i o → is_over p.ops o.state ≡ false → 0 < length (requests_at p i o)
some_asked p i o r h = some_of (is_over p.ops o.state) (requests_of p (i, o.state)) r.here h

module _ (p : Plan) (h : FitsEngine p) (i : ℕ) where
  skip_fits : (n : ℕ) (s : ModuleState) → fits p i s ≡ true → fits p i (skip p i n s) ≡ true
  skip_fits zero s f = f
  skip_fits (suc n) s f = fits_move p h i (skip p i n s) [] (skip_fits n s f)

  comes_to_rest : (o : Own) → fits p i o.state ≡ true → IsRest p i (to_rest p i o)
  comes_to_rest o f = record { fits = skip_fits (quiet p i o.state) o.state f; here = quiet_rests p h i o.state f }

  after_fits : (o : Own) (rs : List Request) (qs : List Reply) → fits p i o.state ≡ true
      → fits p i (own_after (module_at p i) o rs qs).state ≡ true
  after_fits o [] qs f = fits_move p h i o.state [] f
  after_fits o (r ∷ rs) qs f = fits_move p h i o.state qs f

  is_rest : (replies : List (List Reply)) (k : ℕ) → IsRest p i (rest_at p i replies k)
  unfolding rest_at
  is_rest replies zero = comes_to_rest (record { state = opened (module_at p i); steps = []; since = 0 }) (fits_opened p h i)
  is_rest replies (suc k) =
      let o = rest_at p i replies k in
      comes_to_rest (after p i replies k) (after_fits o (requests_at p i o) (replies_to replies k) (is_rest replies k).fits)

-- ---- the own run and its marks, on any replies

marks_append : (before : List Exchange) (ss ts : List OwnStep)
    → step_marks before (ss ++ ts) ≡ step_marks before ss ++ step_marks (before ++ done_in ss) ts
marks_append before [] ts = ap (λ (xs : List Exchange). step_marks xs ts) (sym (append-nil before))
marks_append before (s ∷ ss) ts =
    let now = before ++ paired s.requests s.replies in
    let here : StepOf = record { gap = s.gap; accesses = map (access_of before) s.requests; first_query = length (queries before) } in
    let later : now ++ done_in ss ≡ before ++ done_in (s ∷ ss) = append_assoc before (paired s.requests s.replies) (done_in ss) in
    ap (λ (ms : List Advance). Step here ∷ ms)
    (marks_append now ss ts ∙ ap (λ (xs : List Exchange). step_marks now ss ++ step_marks xs ts) later)

cases_below : (j k : ℕ) → j < suc k → (j < k) ⊎ (j ≡ k)
cases_below j k l = elim (cases_order j k) [
  | inl same ↦ inr same
  | inr (inl less) ↦ inl less
  | inr (inr more) ↦ absurd (omega arith)
]

module _ (p : Plan) (i : ℕ) (replies : List (List Reply)) where
  fewer : (k : ℕ) → GoesTo p i replies (suc k) → GoesTo p i replies k
  fewer k g j l = g j (omega arith)

  farther : (k : ℕ) → GoesTo p i replies k → is_step (mark_at p i (rest_at p i replies k)) ≡ true → GoesTo p i replies (suc k)
  farther k g last j l = elim (cases_below j k l) [
    | inl less ↦ g j less
    | inr same ↦ ap (λ (n : ℕ). is_step (mark_at p i (rest_at p i replies n))) same ∙ last
  ]

  alive_before : (k : ℕ) → GoesTo p i replies (suc k) → is_over p.ops (rest_at p i replies k).state ≡ false
  alive_before k g = alive_at p i (rest_at p i replies k) (g k (omega arith))

  no_steps : (rest_at p i replies zero).steps ≡ []
  unfolding rest_at
  no_steps = refl

  same_steps : (k : ℕ) → (after p i replies k).steps ≡ (rest_at p i replies (suc k)).steps
  unfolding rest_at
  same_steps k = refl

  no_marks : [] ≡ marks_before p i replies zero
  unfolding marks_before
  no_marks = refl

  one_mark_more : (k : ℕ) → marks_before p i replies k ++ mark_at p i (rest_at p i replies k) ∷ [] ≡ marks_before p i replies (suc k)
  unfolding marks_before
  one_mark_more k = refl

  so_many : (k : ℕ) → length (marks_before p i replies k) ≡ k
  so_many zero = ap (λ (ms : List Advance). length ms) (sym no_marks)
  so_many (suc k) =
      let before = so_many k in
      let longer = length-append (marks_before p i replies k) (mark_at p i (rest_at p i replies k) ∷ []) in
      let last : length (marks_before p i replies k ++ mark_at p i (rest_at p i replies k) ∷ [])
      ≡ length (marks_before p i replies (suc k)) =
      ap (λ (ms : List Advance). length ms) (one_mark_more k) in
      omega arith

  own_first : own_run p i replies 0 ≡ record { state = opened (module_at p i); steps = []; since = 0 }
  unfolding own_run
  own_first = refl

  -- the own run goes on
  next_alive : (o : Own) → is_over p.ops o.state ≡ false
      → own_next p i replies o ≡ own_after (module_at p i) o (requests_at p i o) (replies_to replies (length o.steps))
  unfolding own_next
  next_alive o h = cond-false (is_over p.ops o.state) o _ h

  -- or stays
  next_over : (o : Own) → is_over p.ops o.state ≡ true → own_next p i replies o ≡ o
  unfolding own_next
  next_over o h = cond-true (is_over p.ops o.state) o _ h

  own_stays : (n : ℕ) → is_over p.ops (own_run p i replies n).state ≡ true → (d : ℕ) → own_run p i replies (d + n) ≡ own_run p i replies n
  own_stays n over zero = ap (own_run p i replies) (omega arith)
  own_stays n over (suc d) =
      ap (own_run p i replies) (suc-add d n)
      ∙ (own_suc p i replies (d + n)
      ∙ (ap (own_next p i replies) (own_stays n over d) ∙ next_over (own_run p i replies n) over))

  step_grows : (o : Own) → HasGrown o.steps (own_next p i replies o).steps
  step_grows o = elim (cases_Bool (is_over p.ops o.state)) [
    | inl over ↦ record { more = []; is = ap (λ (z : Own). z.steps) (next_over o over) ∙ sym (append-nil o.steps) }
    | inr alive ↦ subst (λ (z : Own). HasGrown o.steps z.steps) (sym (next_alive o alive))
        (after_grows (module_at p i) o (requests_at p i o) (replies_to replies (length o.steps)))
  ]

  own_grows : (n d : ℕ) → HasGrown (own_run p i replies n).steps (own_run p i replies (d + n)).steps
  own_grows n zero = record {
    more = [];
    is = ap (λ (k : ℕ). (own_run p i replies k).steps) (zero-add n) ∙ sym (append-nil (own_run p i replies n).steps);
  }
  own_grows n (suc d) =
      let before = own_grows n d in
      let last = step_grows (own_run p i replies (d + n)) in
      let same : own_run p i replies (suc d + n) ≡ own_next p i replies (own_run p i replies (d + n)) =
      ap (own_run p i replies) (suc-add d n) ∙ own_suc p i replies (d + n) in
      let grown = ap (λ (ss : List OwnStep). ss ++ last.more) before.is in
      record {
        more = before.more ++ last.more;
        is = ap (λ (z : Own). z.steps) same
            ∙ (last.is ∙ (grown ∙ append_assoc (own_run p i replies n).steps before.more last.more));
      }

  -- so many quiet clocks later
  own_to_rest : (n : ℕ) (o : Own) → own_run p i replies n ≡ o → own_run p i replies (quiet p i o.state + n) ≡ to_rest p i o
  own_to_rest n o e =
      own_goes p i replies n (quiet p i o.state)
      (λ j l. ap (λ (z : Own). rests p i (skip p i j z.state)) e ∙ quiet_goes p i o.state j l)
      ∙ ap (own_later p i (quiet p i o.state)) e

-- ---- the chain of rests is the own run

module _ (p : Plan) (h : FitsEngine p) (i : ℕ) (replies : List (List Reply)) where
  -- the next rest has one step more
  one_step_more : (k : ℕ) → GoesTo p i replies (suc k)
      → (rest_at p i replies (suc k)).steps ≡ (rest_at p i replies k).steps ++ step_at p i replies k ∷ []
  one_step_more k g =
      let o = rest_at p i replies k in
      let some = some_asked p i o (is_rest p h i replies k) (alive_before p i replies k g) in
      sym (same_steps p i replies k) ∙ after_steps (module_at p i) o (requests_at p i o) (replies_to replies k) some

  rest_steps_are : (k : ℕ) → GoesTo p i replies k → length (rest_at p i replies k).steps ≡ k
  rest_steps_are zero g = ap (λ (ss : List OwnStep). length ss) (no_steps p i replies)
  rest_steps_are (suc k) g =
      let before = rest_steps_are k (fewer p i replies k g) in
      let more = ap (λ (ss : List OwnStep). length ss) (one_step_more k g) in
      let longer = length-append (rest_at p i replies k).steps (step_at p i replies k ∷ []) in
      omega arith

  -- one local clock after a rest that is a step
  own_beyond : (k : ℕ) → GoesTo p i replies (suc k) → IsOwn p i replies k
      → own_run p i replies (suc (rest_clock p i replies k)) ≡ after p i replies k
  own_beyond k g here =
      let o = rest_at p i replies k in
      let steps = rest_steps_are k (fewer p i replies k g) in
      own_suc p i replies (rest_clock p i replies k)
      ∙ (ap (own_next p i replies) here
      ∙ (next_alive p i replies o (alive_before p i replies k g)
      ∙ ap (λ (n : ℕ). own_after (module_at p i) o (requests_at p i o) (replies_to replies n)) steps))

  each_is_own : (k : ℕ) → GoesTo p i replies k → IsOwn p i replies k
  unfolding rest_clock rest_at
  each_is_own zero g =
      ap (own_run p i replies) (omega arith)
      ∙ own_to_rest p i replies 0 (record { state = opened (module_at p i); steps = []; since = 0 }) (own_first p i replies)
  each_is_own (suc k) g =
      own_to_rest p i replies (suc (rest_clock p i replies k)) (after p i replies k)
      (own_beyond k g (each_is_own k (fewer p i replies k g)))

  marks_are : (k : ℕ) → GoesTo p i replies k → AreStepMarks p i replies k
  marks_are zero g = ap (step_marks []) (no_steps p i replies) ∙ no_marks p i replies
  marks_are (suc k) g =
      let o = rest_at p i replies k in
      let last = sym (step_mark p i o (alive_before p i replies k g)) in
      let before = marks_are k (fewer p i replies k g) in
      ap (step_marks []) (one_step_more k g)
      ∙ (marks_append [] o.steps (step_at p i replies k ∷ [])
      ∙ (ap (λ (m : Advance). step_marks [] o.steps ++ m ∷ []) last
      ∙ (ap (λ (ms : List Advance). ms ++ mark_at p i o ∷ []) before ∙ one_mark_more p i replies k)))

  -- where the last rest is over, the own run stays there
  marks_to_end : GoesTo p i replies (length replies) → is_over p.ops (rest_at p i replies (length replies)).state ≡ true
      → (n : ℕ) → rest_clock p i replies (length replies) < n → AreAllMarks p i replies n
  unfolding marks
  marks_to_end g over n later =
      let k = length replies in
      let o = rest_at p i replies k in
      let c = rest_clock p i replies k in
      let here : IsOwn p i replies k = each_is_own k g in
      let there : n ≡ (n - c) + c = omega arith in
      let stays = own_stays p i replies c (ap (λ (z : Own). is_over p.ops z.state) here ∙ over) (n - c) in
      let same : own_run p i replies n ≡ o = ap (own_run p i replies) there ∙ (stays ∙ here) in
      let last = ap (λ (ms : List Advance). step_marks [] o.steps ++ ms) (over_mark p i o over) in
      let before = ap (λ (ms : List Advance). ms ++ mark_at p i o ∷ []) (marks_are k g) in
      let all : step_marks [] o.steps ++ end_mark p.ops o ≡ marks_before p i replies (suc k) =
      last ∙ (before ∙ one_mark_more p i replies k) in
      let size = so_many p i replies (suc k) in
      ap (λ (z : Own). take (suc k) (step_marks [] z.steps ++ end_mark p.ops z)) same
      ∙ (ap (take (suc k)) all ∙ take_all (suc k) (marks_before p i replies (suc k)) (omega arith))

  -- where it is a step, the own run has that step, and more after it
  marks_to_step : GoesTo p i replies (suc (length replies))
      → (n : ℕ) → rest_clock p i replies (length replies) < n → AreAllMarks p i replies n
  unfolding marks
  marks_to_step g n later =
      let k = length replies in
      let c = rest_clock p i replies k in
      let o = own_run p i replies n in
      let there : n ≡ (n - suc c) + suc c = omega arith in
      let here = own_beyond k g (each_is_own k (fewer p i replies k g)) in
      let steps : (own_run p i replies (suc c)).steps ≡ (rest_at p i replies (suc k)).steps =
      ap (λ (z : Own). z.steps) here ∙ same_steps p i replies k in
      let grown = own_grows p i replies (suc c) (n - suc c) in
      let all : o.steps ≡ (rest_at p i replies (suc k)).steps ++ grown.more =
      ap (λ (m : ℕ). (own_run p i replies m).steps) there ∙ (grown.is ∙ ap (λ (ss : List OwnStep). ss ++ grown.more) steps) in
      let first = marks_before p i replies (suc k) in
      let rest = step_marks (done_in (rest_at p i replies (suc k)).steps) grown.more in
      let parts : step_marks [] o.steps ≡ first ++ rest =
      ap (step_marks []) all
      ∙ (marks_append [] (rest_at p i replies (suc k)).steps grown.more
      ∙ ap (λ (ms : List Advance). ms ++ rest) (marks_are (suc k) g)) in
      let size = so_many p i replies (suc k) in
      ap (λ (ms : List Advance). take (suc k) (ms ++ end_mark p.ops o)) parts
      ∙ (ap (take (suc k)) (append_assoc first rest (end_mark p.ops o))
      ∙ (take-append-le (suc k) first (rest ++ end_mark p.ops o) (omega arith) ∙ take_all (suc k) first (omega arith)))

  all_marks : GoesTo p i replies (length replies) → (n : ℕ) → rest_clock p i replies (length replies) < n → AreAllMarks p i replies n
  all_marks g n later =
      let k = length replies in
      let o = rest_at p i replies k in
      elim (cases_Bool (is_over p.ops o.state)) [
        | inl over ↦ marks_to_end g over n later
        | inr alive ↦ marks_to_step (farther p i replies k g (ap is_step (step_mark p i o alive))) n later
      ]

pub rests_are_own : (p : Plan) → FitsEngine p → (i : ℕ) (replies : List (List Reply)) (k : ℕ) → GoesTo p i replies k → IsOwn p i replies k
rests_are_own p h i replies k g = each_is_own p h i replies k g

pub rest_steps : (p : Plan) → FitsEngine p → (i : ℕ) (replies : List (List Reply)) (k : ℕ) → GoesTo p i replies k
    → length (rest_at p i replies k).steps ≡ k
rest_steps p h i replies k g = rest_steps_are p h i replies k g

pub marks_are_own : (p : Plan) → FitsEngine p → (i : ℕ) (replies : List (List Reply)) → GoesTo p i replies (length replies)
    → (n : ℕ) → rest_clock p i replies (length replies) < n → AreAllMarks p i replies n
marks_are_own p h i replies g n later = all_marks p h i replies g n later
