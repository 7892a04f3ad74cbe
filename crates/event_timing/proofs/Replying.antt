-- A module is told what the history tells it: where its flags say what is possible, and each of its pops has its push among the steps
-- with a cycle.
use Rattle.std.proofs.lemmas.Bool.Decides.{nat_tests}
use Rattle.std.proofs.Common.{◌≡◌, ℕ, ◌<◌, Bool, true, cond, not, ◌||◌, List, [], ◌∷◌, map, get_or, sym, ap, ◌∙◌, refl, arith, ltb}
use Rattle.event_timing.specs.{Side, Design, IsDesign, Access, Each, done, Trace, IsHistory, is_possible, reply_to, core_tally, core_values}
use Rattle.event_timing.specs.{pops_now, replies_of, all_below, view, AreOwnMarks, IsTimed, elements_timed, possible_all, Core.Core}
use Rattle.flow_word.specs.declared.access.Side.TheVariants.{Pop}
use Rattle.event_timing.proofs.{OwnRuns.same_side_is, Threshold.taken_view, Fronts.agrees, Fronts.get_right, Fronts.core_tally_is}

-- ---- any values and counts

module _ {S : Type 0} (d : Design S) (h : Trace S) (c : ℕ) (within : ℕ → ℕ) (values : ℕ → List ℕ) (before : ℕ → ℕ) where
  -- a pop that is possible, and within the first so many elements, gets the history's front
  abbrev pub HasFront : Access → Type 0
  HasFront a =
      a.side ≡ Pop → is_possible d h c Pop a.channel ≡ true → before a.channel < within a.channel
      → get_or (values a.channel) (before a.channel) 0 ≡ get_or (h.pushed c a.channel) (h.taken c Pop a.channel) 0

  -- the access pops an element in this clock
  abbrev popping : Access → Bool
  popping a = pops_now a (is_possible d h c a.side a.channel)

  -- if it does, it is within them
  abbrev is_within : Access → Bool
  is_within a = not (popping a) || ltb (before a.channel) (within a.channel)

  pop_front : (a : Access) → HasFront a → is_within a ≡ true → popping a ≡ true
      → get_or (values a.channel) (before a.channel) 0 ≡ get_or (h.pushed c a.channel) (h.taken c Pop a.channel) 0
  pop_front a front there pops = grind (arith, nat_tests, front, same_side_is a.side Pop)

  front_same : (a : Access) → HasFront a → is_within a ≡ true
      → cond {A = ℕ} (popping a) (get_or (values a.channel) (before a.channel) 0) 0
      ≡ cond {A = ℕ} (popping a) (get_or (h.pushed c a.channel) (h.taken c Pop a.channel) 0) 0
  front_same a front there = grind (arith, pop_front a front)

  pub replies_right : (xs : List Access) → Each HasFront xs → all_below within before xs (possible_all d h c xs) ≡ true
      → replies_of values before xs (possible_all d h c xs) ≡ map (reply_to d h c) xs
  replies_right [] fronts there = refl
  replies_right (a ∷ xs) (front, fronts) there = grind (arith, front_same a front, replies_right xs fronts)

-- ---- those of an agreeing core

module _ {S : Type 0} (d : Design S) (h : Trace S) (i : IsDesign d) (y : IsHistory d h) (limit : ℕ) (x : Core S) (b : AreOwnMarks d x)
    (u : IsTimed d h limit x) (m c : ℕ) (k : done d h m c ≡ x.timed m) where
  -- the fronts of an access of the step that the module does after those with a cycle
  abbrev pub HasCoreFront : Access → Type 0
  HasCoreFront = HasFront d h c (elements_timed d x) (core_values d x) (λ ch. core_tally d x m Pop ch (x.timed m))

  core_front : (a : Access) → d.owner a.side a.channel ≡ m → HasCoreFront a
  core_front a owned side possible less =
      let popped : ℕ = core_tally d x m Pop a.channel (x.timed m) in
      let owner : d.owner Pop a.channel ≡ m = sym (ap (λ (z : Side). d.owner z a.channel) side) ∙ owned in
      let count = taken_view d h i y (view d x) (agrees d h limit x b u) Pop a.channel c (rw owner (omega arith)) in
      let by_steps = rw (owner, k) at count in
      let taken : h.taken c Pop a.channel ≡ popped = by_steps ∙ core_tally_is d x m Pop a.channel (x.timed m) in
      get_right d h i y limit x b u a.channel c popped taken less possible
      ∙ ap (λ (z : ℕ). get_or (h.pushed c a.channel) z 0) (sym taken)

  pub core_fronts : (xs : List Access) → Each (λ a. d.owner a.side a.channel ≡ m) xs → Each HasCoreFront xs
  core_fronts [] owned = tt
  core_fronts (a ∷ xs) (first, rest) = (core_front a first, core_fronts xs rest)
