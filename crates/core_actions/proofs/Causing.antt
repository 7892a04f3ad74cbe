-- An action has no cause exactly where the theory permits it.
use Rattle.std.proofs.Common.{◌≡◌, refl, ap, ◌∙◌, ℕ, zero, suc, ◌<◌, inl, inr, Bool, true, false, ltb, not, ◌&&◌, ◌||◌, List, [], ◌∷◌}
use Rattle.std.proofs.Common.{length, None, Some, is_none, arith}
use Rattle.std.proofs.{lemmas.Bool.Decides.nat_tests, lemmas.Bool.cases_eq, lemmas.Bool.cases_lt}
use Rattle.std.specs.{Prelude.position, List.range_with_len, List.zip}
use Rattle.flow_word.specs.declared.access.Side.TheVariants.{Pop}
use Rattle.event_timing.specs.{Access, Core.Core}
use Rattle.core_actions.specs.{Design, first_accesses, FlagsFit, Known, all_decided, both, bound, candidate, known_of, all_below}
use Rattle.core_actions.specs.{core_accesses, core_tally, core_values, has_query, pops_now, view, decides, has_replies, is_determined}
use Rattle.core_actions.specs.{is_open, is_quiet, is_open_before, may_answer, may_assign, may_earliest, may_run, passes_no_module, Cause}
use Rattle.core_actions.specs.{cause_of, cycle_causes, first_passing, first_some, has_clock, is_busy, is_earlier, is_held, is_undecided}
use Rattle.core_actions.specs.{is_unverified, later, open_causes, waiting_cause}
use Rattle.core_actions.specs.declared.actions.Action.TheVariants.{Run, Assign, Answer, Earliest}
use Rattle.event_timing.proofs.Candidate.{candidate_parts}
use Rattle.core_actions.specs.declared.actions.Cause.TheVariants as cause
use Rattle.core_actions.proofs.Firsts as firsts

-- ---- lists of accesses

-- one that lacks its reply, where the step's outcomes are recorded or not, with so many pops before and so many values
abbrev pub lacks : (s t : ℕ → ℕ) (w : Bool) → Access × Bool → Bool
lacks s t w p = (not p.0.blocks && not w) || (pops_now p.0 p.1 && not (ltb (t p.0.channel) (s p.0.channel)))

lacks_none : (s t : ℕ → ℕ) (w : Bool) (xs : List Access) (bs : List Bool) → FlagsFit xs bs
    → is_none (position (lacks s t w) (zip xs bs)) ≡ ((not (has_query xs) || w) && all_below s t xs bs)
lacks_none s t w [] [] f = refl
lacks_none s t w [] (b ∷ bs) f = absurd f
lacks_none s t w (a ∷ xs) [] f = absurd f
lacks_none s t w (a ∷ xs) (b ∷ bs) f =
    let later = lacks_none s t w xs bs f.1 in grind (arith, firsts.position_more (lacks s t w) (a, b) (zip xs bs))

-- none is held where a clock is known from which all that block are possible
both_clock : (k b : Known) → has_clock (both k b) ≡ (has_clock k && has_clock b)
both_clock k b = grind arith

held_none : (know : Access → Known) (xs : List Access) → is_none (position (is_held know) xs) ≡ has_clock (bound know xs)
held_none know [] = refl
held_none know (a ∷ xs) =
    let later = held_none know xs in
    grind (arith, firsts.position_more (is_held know) a xs, both_clock (know a) (bound know xs))

undecided_none : (know : Access → Known) (xs : List Access) → is_none (position (is_undecided know) xs) ≡ all_decided know xs
undecided_none know [] = refl
undecided_none know (a ∷ xs) =
    let later = undecided_none know xs in grind (arith, firsts.position_more (is_undecided know) a xs)

unverified_none : (v : Bool) (xs : List Access) → is_none (position (λ (a : Access). not a.blocks && not v) xs) ≡ (v || not (has_query xs))
unverified_none v [] = grind arith
unverified_none v (a ∷ xs) =
    let later = unverified_none v xs in grind (arith, firsts.position_more (λ (c : Access). not c.blocks && not v) a xs)

-- ---- each action of a module

-- a step without a query has all its outcomes
pub record ArePlain {S : Type 0} (d : Design S) (x : Core S) : Type 0 where
  pub answered : (m k : ℕ) → k < x.emitted m → has_query (core_accesses d x m k) ≡ false → x.answered m k ≡ true
  pub verified : (m k : ℕ) → k < x.emitted m → has_query (core_accesses d x m k) ≡ false → x.verified m k ≡ true

module _ {S : Type 0} (d : Design S) (limit : ℕ) (x : Core S) (m : ℕ) where
  abbrev know : Access → Known
  know = known_of d (view d x) m

  abbrev xs : List Access
  xs = first_accesses (view d x) m

  pub cycle_none : is_none (first_some (cycle_causes d limit x m)) ≡ is_determined d limit x m
  unfolding candidate is_determined
  cycle_none = let held = held_none know xs in grind (arith, nat_tests)

  -- what is found of its first step without a cycle
  pub held_not : (c : ℕ) → candidate d (view d x) m ≡ Some c → position (is_held know) xs ≡ None
  held_not c e =
      let (more, u, b, k) = candidate_parts d (view d x) m c e in
      let held = held_none know xs in grind arith

  pub verified_none : ArePlain d x → x.timed m < x.emitted m → is_none (position (is_unverified x m) xs) ≡ x.verified m (x.timed m)
  verified_none plain l =
      let none = unverified_none (x.verified m (x.timed m)) xs in
      let plainly = plain.verified m (x.timed m) l in grind arith

  pub decides_none : is_none (position (is_undecided know) xs) ≡ decides d x m
  unfolding decides
  decides_none = undecided_none know xs

  -- and what permits each action
  waits_none : (n : ℕ) → ((k : ℕ) → suc k ≡ n → FlagsFit (core_accesses d x m k) (x.flags m k))
      → ((k : ℕ) → suc k ≡ n → has_query (core_accesses d x m k) ≡ false → x.answered m k ≡ true)
      → is_none (waiting_cause d x m n) ≡ has_replies d x m n
  waits_none zero fit plain = refl
  waits_none (suc k) fit plain =
      let none = lacks_none (λ c. length (core_values d x c)) (λ c. core_tally d x m Pop c k) (x.answered m k) (core_accesses d x m k)
      (x.flags m k) (fit k refl) in
      let plainly = plain k refl in grind arith

  pub run_none : m < d.modules → ((k : ℕ) → k < x.emitted m → FlagsFit (core_accesses d x m k) (x.flags m k)) → ArePlain d x
      → is_none (cause_of d limit x (Run m)) ≡ may_run d x m
  unfolding may_run
  run_none inside fit plain =
      let none = waits_none (x.emitted m) (λ k q. fit k (omega arith)) (λ k q. plain.answered m k (omega arith)) in
      grind (arith, nat_tests)

  pub assign_none : ArePlain d x → is_none (cause_of d limit x (Assign m)) ≡ may_assign d limit x m
  unfolding may_assign
  assign_none plain =
      let cycle = cycle_none in
      elim (cases_lt (x.timed m) (x.emitted m)) [
        | inl l ↦ let verified = verified_none plain l in grind arith
        | inr l ↦ grind (arith, nat_tests)
      ]

  pub answer_none : is_none (cause_of d limit x (Answer m)) ≡ may_answer d limit x m
  unfolding may_answer
  answer_none = let cycle = cycle_none in let none = decides_none in grind arith

  pub open_none : is_none (first_some (open_causes d limit x m)) ≡ is_open d limit x m
  unfolding is_open
  open_none = let cycle = cycle_none in grind arith

-- ---- an Earliest

none_passes : (test : ℕ → Bool) (n : ℕ) → passes_no_module test n ≡ true → (k : ℕ) → k < n → test k ≡ false
unfolding passes_no_module
none_passes test zero e k l = absurd (omega arith)
none_passes test (suc n) e k l =
    elim (cases_eq k n) [ inl same ↦ rw same (grind arith) | inr other ↦ none_passes test n (grind arith) k (omega arith) ]

none_found : (test : ℕ → Bool) (n : ℕ) → ((k : ℕ) → k < n → test k ≡ false) → passes_no_module test n ≡ true
unfolding passes_no_module
none_found test zero f = refl
none_found test (suc n) f =
    let last = f n (omega arith) in
    let others = none_found test n (λ k l. f k (omega arith)) in grind arith

module_none : (test : ℕ → Bool) (n : ℕ) → is_none (position test (range_with_len 0 n)) ≡ passes_no_module test n
module_none test n =
    let there = λ (e : position test (range_with_len 0 n) ≡ None). none_found test n (firsts.no_module_passes test n e) in
    let back = λ (e : passes_no_module test n ≡ true). firsts.no_module_found test n (none_passes test n e) in grind arith

no_module_or : (f g : ℕ → Bool) (n : ℕ) → passes_no_module (λ k. f k || g k) n ≡ (passes_no_module f n && passes_no_module g n)
unfolding passes_no_module
no_module_or f g zero = refl
no_module_or f g (suc n) = let later = no_module_or f g n in grind arith

module _ {S : Type 0} (d : Design S) (limit : ℕ) (x : Core S) where
  quiet_none : is_none (first_passing d (is_busy d limit x)) ≡ is_quiet d limit x
  unfolding is_quiet
  quiet_none =
      module_none (is_busy d limit x) d.modules
      ∙ no_module_or (may_run d x) (λ n. may_assign d limit x n || may_answer d limit x n) d.modules
      ∙ ap (λ (b : Bool). passes_no_module (may_run d x) d.modules && b)
      (no_module_or (may_assign d limit x) (may_answer d limit x) d.modules)

  -- whether a module's open step, where it has one, comes before a cycle
  pub open_at : (n c e : ℕ) → candidate d (view d x) n ≡ Some e → None ≡ first_some (open_causes d limit x n)
      → is_open_before d limit x (Some c) n ≡ ltb e c
  unfolding is_open_before
  open_at n c e at none = let opens = open_none d limit x n in grind arith

  pub not_open : (n c : ℕ) (a : Cause) → Some a ≡ first_some (open_causes d limit x n) → is_open_before d limit x (Some c) n ≡ false
  unfolding is_open_before
  not_open n c a some = let opens = open_none d limit x n in grind arith

  pub earliest_none : (m : ℕ) → is_none (cause_of d limit x (Earliest m)) ≡ may_earliest d limit x m
  unfolding may_earliest
  earliest_none m =
      let opens = open_none d limit x m in
      let quiet = quiet_none in
      let least = module_none (is_earlier d limit x m) d.modules in grind arith

  pub later_found : (m n c : ℕ) → n < d.modules → ((k : ℕ) → k < n → is_earlier d limit x m k ≡ false) → is_earlier d limit x m n ≡ true
      → candidate d (view d x) n ≡ Some c → Some (cause.Later n c) ≡ later d limit x m
  later_found m n c l before here at =
      let found = firsts.module_found (is_earlier d limit x m) d.modules n l before here in grind arith

  pub later_none : (m : ℕ) → ((k : ℕ) → k < d.modules → is_earlier d limit x m k ≡ false) → None ≡ later d limit x m
  later_none m before = let none = firsts.no_module_found (is_earlier d limit x m) d.modules before in grind arith
