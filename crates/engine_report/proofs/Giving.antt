-- What a walk keeps as it gives a step, passes a module and begins a round, and what it has given at its end.
use Rattle.std.proofs.Common.{◌≡◌, ◌≢◌, ℕ, suc, ◌+◌, ◌<◌, ◌≤◌, List, [], ◌∷◌, ◌++◌, map, length, get_or, set, min, replicate, zero-add}
use Rattle.std.proofs.Common.{refl, sym, ◌∙◌, ap, subst, arith, inl, inr, Option, Some, None, length-set, zero, ◌-◌, ◌⊎◌}
use Rattle.std.proofs.{lemmas.Bool.cases_eq, lemmas.Bool.cases_lt, lemmas.List.Sums.sum_by-cons, lemmas.List.Sums.sum_by-set}
use Rattle.std.proofs.lemmas.List.{get_or_default, get_or_past, get_or-set_same, get_or-set_other, get_or-replicate, length-map}
use Rattle.std.proofs.lemmas.List.{length-replicate, map-append}
use Rattle.std.proofs.lemmas.List.FromFn.{get_or-map-range_with_len, length-range_with_len}
use Rattle.std.specs.{Prelude.All, Prelude.IsNone, Prelude.sum_by, List.range_with_len}
use Rattle.engine_report.specs.{Plan, Advance, clock_of, ModuleState, HistoryStep, history, verdict, Lane, IsSoundLane, cycle_bound}
use Rattle.engine_report.specs.{lane_at, no_lane, design, core_step, steps_at, core_of, TimedStep, IsFinished, step_place, IsTimedKey}
use Rattle.engine_report.specs.{IsWalked, StepWalk, past_every_cycle, next_cycle, to_give, IsWalk, HasGiven, FoundIn}
use Rattle.event_timing.specs.Core.{Core}
use Rattle.engine_view.specs.Held.{Held}
use Rattle.engine_report.proofs.Leading.{walk_leads}
use Rattle.engine_report.proofs.Walking.{walk_begins, walk_passes, walk_skips, walk_goes_on, walk_ends}

-- ---- the cycles of a lane

sound_at : (lanes : List Lane) → All IsSoundLane lanes → (i : ℕ) → i < length lanes → IsSoundLane (lane_at lanes i)
sound_at lanes sound i l = sound i no_lane l

-- a cycle is earlier than never
cycle_early : (lanes : List Lane) → All IsSoundLane lanes → (i k : ℕ) → i < length lanes → k < length (lane_at lanes i).cycles
    → next_cycle lanes i k < past_every_cycle
cycle_early lanes sound i k l m =
    let bound : get_or (lane_at lanes i).cycles k past_every_cycle < cycle_bound = (sound_at lanes sound i l).below k past_every_cycle m in
    omega arith

-- the next one is later
cycle_later : (lanes : List Lane) → All IsSoundLane lanes → (i k : ℕ) → i < length lanes → k < length (lane_at lanes i).cycles
    → next_cycle lanes i k < next_cycle lanes i (k + 1)
cycle_later lanes sound i k l m = elim (cases_lt (k + 1) (length (lane_at lanes i).cycles)) [
  | inl w ↦
      let rises : get_or (lane_at lanes i).cycles k 0 < get_or (lane_at lanes i).cycles (k + 1) 0 = (sound_at lanes sound i l).rising k w in
      omega (
        arith,
        get_or_default (lane_at lanes i).cycles k past_every_cycle 0 m,
        get_or_default (lane_at lanes i).cycles
            (k + 1) past_every_cycle 0 w,
      )
  | inr w ↦
      let early = cycle_early lanes sound i k l m in
      let none : next_cycle lanes i (k + 1) ≡ past_every_cycle = get_or_past (lane_at lanes i).cycles (k + 1) past_every_cycle w in
      omega arith
]

-- a step whose cycle is earlier than never is there
cycle_there : (lanes : List Lane) (i k : ℕ) → next_cycle lanes i k < past_every_cycle → k < length (lane_at lanes i).cycles
cycle_there lanes i k l = elim (cases_lt k (length (lane_at lanes i).cycles)) [
  | inl w ↦ w
  | inr w ↦ (let none : next_cycle lanes i k ≡ past_every_cycle = get_or_past (lane_at lanes i).cycles k past_every_cycle w in
      absurd (omega arith))
]

-- ---- how many are left

sum_within : (lanes : List Lane) (given : List ℕ) → length given ≡ length lanes
    → ((i : ℕ) → i < length lanes → get_or given i 0 ≤ length (lane_at lanes i).cycles)
    → sum_by (λ (n : ℕ). n) given ≤ sum_by (λ (lane : Lane). length lane.cycles) lanes
sum_within [] [] e h = omega arith
sum_within [] (n ∷ given) e h = absurd (omega arith)
sum_within (lane ∷ lanes) [] e h = absurd (omega arith)
sum_within (lane ∷ lanes) (n ∷ given) e h =
    omega (
      arith,
      sum_by-cons (λ (m : ℕ). m) n given,
      sum_by-cons (λ (l : Lane). length l.cycles) lane lanes,
      h 0 (omega arith),
      sum_within lanes given (omega arith) (λ i l. h (suc i) (omega arith)),
    )

sum_more : (given : List ℕ) (i : ℕ) → i < length given
    → sum_by (λ (n : ℕ). n) (set given i (get_or given i 0 + 1)) ≡ sum_by (λ (n : ℕ). n) given + 1
sum_more given i l = omega (arith, sum_by-set (λ (n : ℕ). n) given i (get_or given i 0 + 1) 0 l)

-- ---- the beginning

pub walk_new : (lanes : List Lane) (walk : StepWalk) → walk.given ≡ replicate (length lanes) 0
    → walk.next ≡ map (λ i. next_cycle lanes i 0) (range_with_len 0 (length lanes)) → walk.clock ≡ 0 → walk.module ≡ 0
    → walk.later ≡ past_every_cycle
    → IsWalk lanes walk × HasGiven lanes walk []
walk_new lanes walk g n c m t = (
  record {
    givens = ap length g ∙ length-replicate (length lanes) 0;
    nexts = ap length n ∙ (length-map (range_with_len 0 (length lanes)) (λ (i : ℕ). next_cycle lanes i 0)
        ∙ length-range_with_len 0 (length lanes));
    turn = omega arith;
    each = λ i l.
        let none : get_or walk.given i 0 ≡ 0 = ap (λ (xs : List ℕ). get_or xs i 0) g ∙ get_or-replicate (length lanes) i 0 0 l in
        ap (λ (xs : List ℕ). get_or xs i 0) n
        ∙ (at_first i l ∙ ap (next_cycle lanes i) (sym none));
    within = λ i l.
        let none : get_or walk.given i 0 ≡ 0 = ap (λ (xs : List ℕ). get_or xs i 0) g ∙ get_or-replicate (length lanes) i 0 0 l in omega
        arith;
    later = omega arith;
    bound = omega arith;
    early = λ i l. absurd (omega arith);
    due = λ i l w. omega arith;
  },
  record {
    done = λ p held e.
        let x = core_of (design p) held in
        subst (λ (xs : List ℕ). IsWalked p x [] xs walk.clock walk.module) (sym g)
        (subst (λ (k : ℕ). IsWalked p x [] (replicate (length lanes) 0) k walk.module) (sym c)
        (subst (λ (k : ℕ). IsWalked p x [] (replicate (length lanes) 0) 0 k) (sym m) (walk_begins p x (length lanes))));
  },
)
  where
    at_first : (i : ℕ) → i < length lanes
        → get_or (map (λ (j : ℕ). next_cycle lanes j 0) (range_with_len 0 (length lanes))) i 0 ≡ next_cycle lanes i 0
    at_first i l = get_or-map-range_with_len (λ (j : ℕ). next_cycle lanes j 0) 0 (length lanes) i i 0 l (zero-add i)

-- ---- a walk of equal parts

walked_as : (p : Plan) (x : Core ModuleState) (ds es : List HistoryStep) (xs ys : List ℕ) (c d m n : ℕ) → IsWalked p x ds xs c m
    → es ≡ ds → ys ≡ xs → d ≡ c → n ≡ m → IsWalked p x es ys d n
walked_as p x ds es xs ys c d m n h e f g k =
    subst (λ (z : List HistoryStep). IsWalked p x z ys d n) (sym e)
    (subst (λ (z : List ℕ). IsWalked p x ds z d n) (sym f)
    (subst (λ (z : ℕ). IsWalked p x ds xs z n) (sym g) (subst (λ (z : ℕ). IsWalked p x ds xs c z) (sym k) h)))

-- ---- a step is given

module _ (lanes : List Lane) (sound : All IsSoundLane lanes) (old new : StepWalk) (w : IsWalk lanes old) (o : ℕ) (inside : o < length lanes)
    (turn : old.module ≡ o) (due : get_or old.next o 0 ≡ old.clock)
    (given : new.given ≡ set old.given o (get_or old.given o 0 + 1))
    (next : new.next ≡ set old.next o (next_cycle lanes o (get_or old.given o 0 + 1)))
    (clock : new.clock ≡ old.clock) (later : new.later ≡ min old.later (next_cycle lanes o (get_or old.given o 0 + 1)))
    (after : new.module ≡ o + 1) where
  abbrev k : ℕ
  k = get_or old.given o 0

  its_cycle : next_cycle lanes o k ≡ old.clock
  its_cycle = sym (w.each o inside) ∙ due

  there : k < length (lane_at lanes o).cycles
  there = let early = w.later in let bound = w.bound in cycle_there lanes o k (omega (arith, its_cycle))

  comes_later : old.clock < next_cycle lanes o (k + 1)
  comes_later = omega (arith, its_cycle, cycle_later lanes sound o k inside there)

  given_here : get_or new.given o 0 ≡ k + 1
  given_here = ap (λ (xs : List ℕ). get_or xs o 0) given
      ∙ get_or-set_same old.given o (k + 1) 0 (let n = w.givens in omega arith)

  given_other : (i : ℕ) → i ≢ o → get_or new.given i 0 ≡ get_or old.given i 0
  given_other i n = ap (λ (xs : List ℕ). get_or xs i 0) given ∙ get_or-set_other old.given o i (k + 1) 0 n

  next_here : get_or new.next o 0 ≡ next_cycle lanes o (k + 1)
  next_here = ap (λ (xs : List ℕ). get_or xs o 0) next
      ∙ get_or-set_same old.next o (next_cycle lanes o (k + 1)) 0 (let n = w.nexts in omega arith)

  next_other : (i : ℕ) → i ≢ o → get_or new.next i 0 ≡ get_or old.next i 0
  next_other i n = ap (λ (xs : List ℕ). get_or xs i 0) next ∙ get_or-set_other old.next o i (next_cycle lanes o (k + 1)) 0 n

  pub walk_given : IsWalk lanes new
  walk_given = record {
    givens = ap length given ∙ (length-set old.given o (k + 1) ∙ w.givens);
    nexts = ap length next ∙ (length-set old.next o (next_cycle lanes o (k + 1)) ∙ w.nexts);
    turn = omega arith;
    each = λ i l. elim (cases_eq i o) [
      | inl e ↦ subst (λ (j : ℕ). get_or new.next j 0 ≡ next_cycle lanes j (get_or new.given j 0)) (sym e)
          (next_here ∙ ap (next_cycle lanes o) (sym given_here))
      | inr n ↦ next_other i n ∙ (w.each i l ∙ ap (next_cycle lanes i) (sym (given_other i n)))
    ];
    within = λ i l. elim (cases_eq i o) [
      | inl e ↦ subst (λ (j : ℕ). get_or new.given j 0 ≤ length (lane_at lanes j).cycles) (sym e) (omega (arith, given_here, there))
      | inr n ↦ omega (arith, given_other i n, w.within i l)
    ];
    later = omega (arith, w.later, comes_later);
    bound = omega (arith, w.bound);
    early = λ i l. elim (cases_eq i o) [
      | inl e ↦ subst (λ (j : ℕ). new.later ≤ get_or new.next j 0) (sym e) (omega (arith, next_here))
      | inr n ↦ omega (arith, next_other i n, w.early i (omega arith))
    ];
    due = λ i l m. omega (arith, next_other i (λ e. absurd (omega arith)), w.due i (omega arith) m);
  }

  abbrev key : TimedStep
  key = record { cycle = old.clock; «module» = o; step = k }

  key_timed : IsTimedKey lanes key
  key_timed = record {
    is_key = record {
      there = record { owner = inside; step = let all = (sound_at lanes sound o inside).prefix in let l = there in omega arith };
      cycle = sym its_cycle ∙ get_or_default (lane_at lanes o).cycles k past_every_cycle 0 there;
    };
    timed = there;
  }

  fewer_left : to_give lanes new < to_give lanes old
  fewer_left =
      let less = sum_within lanes new.given walk_given.givens walk_given.within in
      let more = ap (sum_by (λ (n : ℕ). n)) given ∙ sum_more old.given o (let n = w.givens in omega arith) in
      omega arith

  more_given : (steps : List TimedStep) → HasGiven lanes old steps → HasGiven lanes new (steps ++ key ∷ [])
  more_given steps h = record {
    done = λ p held e.
        let x = core_of (design p) held in
        let at = map step_place steps in
        let now : (core_of (design p) held).cycle o k ≡ old.clock =
        ap (λ (ls : List Lane). get_or (lane_at ls o).cycles k 0) e
        ∙ (sym (get_or_default (lane_at lanes o).cycles k past_every_cycle 0 there) ∙ its_cycle) in
        let passed = walk_passes p x (steps_at p x at) old.given old.clock old.module o (h.done p held e)
        (let n = w.givens in omega arith) (omega arith) now in
        let steps_now : steps_at p x (map step_place (steps ++ key ∷ [])) ≡ steps_at p x at ++ core_step p x o k ∷ [] =
        ap (steps_at p x) (map-append step_place steps (key ∷ [])) ∙ map-append (λ (a : ℕ × ℕ). core_step p x a.0 a.1) at ((o, k) ∷ []) in
        walked_as p x (steps_at p x at ++ core_step p x o k ∷ []) (steps_at p x (map step_place (steps ++ key ∷ [])))
        (set old.given o (k + 1)) new.given old.clock new.clock (suc o) new.module passed steps_now given clock (omega arith);
  }

  pub given_found : (step : ℕ) → step ≡ k → FoundIn lanes old (Some (record { cycle = old.clock; «module» = o; step = step })) new
  given_found step e =
      subst (λ (n : ℕ). FoundIn lanes old (Some (record { cycle = old.clock; «module» = o; step = n })) new) (sym e)
      (key_timed, fewer_left, more_given)

-- ---- a module is passed

module _ (lanes : List Lane) (old new : StepWalk) (w : IsWalk lanes old) (o : ℕ) (inside : o < length lanes) (turn : old.module ≡ o)
    (idle : get_or old.next o 0 ≢ old.clock) (given : new.given ≡ old.given) (next : new.next ≡ old.next) (clock : new.clock ≡ old.clock)
    (later : new.later ≡ min old.later (get_or old.next o 0)) (after : new.module ≡ o + 1) where
  not_now : old.clock < get_or old.next o 0
  not_now =
      let least = w.due o (omega arith) inside in
      elim (cases_lt old.clock (get_or old.next o 0)) [ inl l ↦ l | inr l ↦ absurd (idle (omega arith)) ]

  same_given : (i : ℕ) → get_or new.given i 0 ≡ get_or old.given i 0
  same_given i = ap (λ (xs : List ℕ). get_or xs i 0) given

  same_next : (i : ℕ) → get_or new.next i 0 ≡ get_or old.next i 0
  same_next i = ap (λ (xs : List ℕ). get_or xs i 0) next

  pub walk_passed : IsWalk lanes new
  walk_passed = record {
    givens = ap length given ∙ w.givens;
    nexts = ap length next ∙ w.nexts;
    turn = omega arith;
    each = λ i l. same_next i ∙ (w.each i l ∙ ap (next_cycle lanes i) (sym (same_given i)));
    within = λ i l. omega (arith, same_given i, w.within i l);
    later = omega (arith, w.later, not_now);
    bound = omega (arith, w.bound);
    early = λ i l. elim (cases_eq i o) [
      | inl e ↦ subst (λ (j : ℕ). new.later ≤ get_or new.next j 0) (sym e) (omega (arith, same_next o))
      | inr n ↦ omega (arith, same_next i, w.early i (omega arith))
    ];
    due = λ i l m. omega (arith, same_next i, w.due i (omega arith) m);
  }

  pub same_steps : (steps : List TimedStep) → HasGiven lanes old steps → HasGiven lanes new steps
  same_steps steps h = record {
    done = λ p held e.
        let x = core_of (design p) held in
        let at = steps_at p x (map step_place steps) in
        walked_as p x at at old.given new.given old.clock new.clock (suc o) new.module
        (walk_skips p x at old.given old.clock old.module (suc o) (h.done p held e) (omega arith)) refl given clock (omega arith);
  }

-- ---- a round begins

module _ (lanes : List Lane) (old new : StepWalk) (w : IsWalk lanes old) (round : old.module ≡ length lanes)
    (more : old.later < past_every_cycle)
    (given : new.given ≡ old.given) (next : new.next ≡ old.next) (clock : new.clock ≡ old.later) (later : new.later ≡ past_every_cycle)
    (after : new.module ≡ 0) where
  pub begun_steps : (steps : List TimedStep) → HasGiven lanes old steps → HasGiven lanes new steps
  begun_steps steps h = record {
    done = λ p held e.
        let x = core_of (design p) held in
        let at = steps_at p x (map step_place steps) in
        walked_as p x at at old.given new.given old.later new.clock 0 new.module
        (walk_goes_on p x at old.given old.clock old.module old.later (h.done p held e) w.later) refl given clock (omega arith);
  }

-- ---- the end

module _ (lanes : List Lane) (sound : All IsSoundLane lanes) (walk : StepWalk) (w : IsWalk lanes walk) (round : walk.module ≡ length lanes)
    (over : past_every_cycle ≤ walk.later) where
  all_given : (i : ℕ) → get_or walk.given i 0 ≡ length (lane_at lanes i).cycles
  all_given i = elim (cases_lt i (length lanes)) [
    | inl l ↦ elim (cases_lt (get_or walk.given i 0) (length (lane_at lanes i).cycles)) [
      | inl m ↦
          (let early = cycle_early lanes sound i (get_or walk.given i 0) l m in
          absurd (omega (arith, w.each i l, w.early i (omega arith))))
      | inr m ↦ omega (arith, w.within i l)
    ]
    | inr l ↦
        get_or_past walk.given i 0 (let n = w.givens in omega arith)
        ∙ sym (ap (λ (lane : Lane). length lane.cycles) (get_or_past lanes i no_lane l))
  ]

  pub given_all : (steps : List TimedStep) → HasGiven lanes walk steps → (p : Plan) (held : Held) (ends : List (Option Advance))
      → IsFinished p held ends → held.lanes ≡ lanes
      → steps_at p (core_of (design p) held) (map step_place steps) ≡ history p (clock_of (verdict p))
  given_all steps h p held ends f e =
      let x = core_of (design p) held in
      walk_ends p f.fits x f.agreed f.final (steps_at p x (map step_place steps)) walk.given walk.clock walk.module (h.done p held e)
      (λ i. all_given i ∙ ap (λ (ls : List Lane). length (lane_at ls i).cycles) (sym e))

-- ---- before the end

module _ (lanes : List Lane) (sound : All IsSoundLane lanes) (walk : StepWalk) (w : IsWalk lanes walk) where
  few_given : (i : ℕ) → get_or walk.given i 0 ≤ length (lane_at lanes i).cycles
  few_given i = elim (cases_lt i (length lanes)) [
    | inl l ↦ w.within i l
    | inr l ↦ omega (arith, get_or_past walk.given i 0 (let n = w.givens in omega arith))
  ]

  -- a step that was not given is no earlier than the next one of its module
  cycle_after : (i k : ℕ) → i < length lanes → get_or walk.given i 0 ≤ k → k < length (lane_at lanes i).cycles
      → get_or walk.next i 0 ≤ get_or (lane_at lanes i).cycles k 0
  cycle_after i k l from to =
      let n = get_or walk.given i 0 in
      let first = get_or_default (lane_at lanes i).cycles n past_every_cycle 0 (omega arith) in
      let here = w.each i l in
      elim (cases_lt n k) [
        | inl less ↦ (let rises = rising_between (lane_at lanes i).cycles (sound_at lanes sound i l).rising n (k - n) (omega arith) in
            let at : n + (k - n) ≡ k = omega arith in
            omega (arith, ap (λ (j : ℕ). get_or (lane_at lanes i).cycles j 0) at))
        | inr same ↦ (let at : n ≡ k = omega arith in omega (arith, ap (λ (j : ℕ). get_or (lane_at lanes i).cycles j 0) at))
      ]
    where
      rising_between : (xs : List ℕ) → ((j : ℕ) → j + 1 < length xs → get_or xs j 0 < get_or xs (j + 1) 0) → (a m : ℕ)
          → a + m < length xs → get_or xs a 0 ≤ get_or xs (a + m) 0
      rising_between xs rises a zero in' = let z : a + zero ≡ a = omega arith in omega (arith, ap (λ (j : ℕ). get_or xs j 0) z)
      rising_between xs rises a (suc m) in' =
          let z : a + suc m ≡ (a + m) + 1 = omega arith in
          omega (
            arith,
            ap (λ (j : ℕ). get_or xs j 0) z,
            rises (a + m) (omega arith),
            rising_between xs rises a m (omega arith),
          )

  all_late : (i k : ℕ) → get_or walk.given i 0 ≤ k → k < length (lane_at lanes i).cycles
      → (walk.clock < get_or (lane_at lanes i).cycles k 0) ⊎ ((walk.clock ≡ get_or (lane_at lanes i).cycles k 0) × (walk.module ≤ i))
  all_late i k from to =
      elim (cases_lt i (length lanes)) [
        | inr past ↦ absurd (omega (arith, ap (λ (lane : Lane). length lane.cycles) (get_or_past lanes i no_lane past)))
        | inl l ↦
            let after = cycle_after i k l from to in
            let now = w.later in
            elim (cases_lt i walk.module) [
              | inl had ↦ inl (omega (arith, w.early i had))
              | inr due ↦
                  (let least = w.due i due l in
                  elim (cases_lt walk.clock (get_or (lane_at lanes i).cycles k 0)) [
                    | inl less ↦ inl less
                    | inr same ↦ inr (omega arith, due)
                  ])
            ]
      ]

  -- what it has given begins the history
  pub given_first : (steps : List TimedStep) → HasGiven lanes walk steps → (p : Plan) (held : Held) (ends : List (Option Advance))
      → IsFinished p held ends → held.lanes ≡ lanes
      → (rest : List HistoryStep) × (steps_at p (core_of (design p) held) (map step_place steps) ++ rest ≡ history p (clock_of (verdict p)))
  given_first steps h p held ends f e =
      let x = core_of (design p) held in
      walk_leads p f.fits x f.agreed f.final (steps_at p x (map step_place steps)) walk.given walk.clock walk.module (h.done p held e)
      (λ i. subst (λ (ls : List Lane). get_or walk.given i 0 ≤ length (lane_at ls i).cycles) (sym e) (few_given i))
      (λ i k from to. subst (λ (ls : List Lane). k < length (lane_at ls i).cycles
      → (walk.clock < get_or (lane_at ls i).cycles k 0) ⊎ ((walk.clock ≡ get_or (lane_at ls i).cycles k 0) × (walk.module ≤ i))) (sym e)
      (all_late i k from) to)

-- ---- a search that goes on in the next round, and one that ends

module _ (lanes : List Lane) (sound : All IsSoundLane lanes) (old between : StepWalk) where
  found_after : (begun new : StepWalk) (found : Option TimedStep) → begun.given ≡ old.given
      → ((steps : List TimedStep) → HasGiven lanes old steps → HasGiven lanes begun steps) → FoundIn lanes begun found new
      → FoundIn lanes old found new
  found_after begun new None given kept h = (h.0, h.1 ∙ given, λ steps k. h.2 steps (kept steps k))
  found_after begun new (Some step) given kept h = (
    h.0,
    let same = ap (sum_by (λ (n : ℕ). n)) given in let less = h.1 in omega arith,
    λ steps k. h.2 steps (kept steps k),
  )

  pub round_found : (begun new : StepWalk) (so_far found : Option TimedStep) → IsNone so_far → IsWalk lanes between
      → FoundIn lanes old so_far between → between.later < past_every_cycle → begun.given ≡ between.given → begun.next ≡ between.next
      → begun.clock ≡ between.later → begun.later ≡ past_every_cycle → begun.module ≡ 0 → FoundIn lanes begun found new
      → FoundIn lanes old found new
  round_found begun new (Some step) found none w h more given next clock later after k = cc
  round_found begun new None found none w h more given next clock later after k =
      found_after begun new found (given ∙ h.1)
      (λ steps g. begun_steps lanes between begun w h.0 more given next clock later after steps (h.2 steps g)) k

  pub end_found : (found : Option TimedStep) → IsWalk lanes between → FoundIn lanes old found between
      → past_every_cycle ≤ between.later → IsNone found → (steps : List TimedStep) → HasGiven lanes old steps
      → (p : Plan) (held : Held) (ends : List (Option Advance)) → IsFinished p held ends → held.lanes ≡ lanes
      → steps_at p (core_of (design p) held) (map step_place steps) ≡ history p (clock_of (verdict p))
  end_found (Some step) w h over none steps g p held ends f e = cc
  end_found None w h over none steps g p held ends f e =
      given_all lanes sound between w h.0 over steps (h.2 steps g) p held ends f e
