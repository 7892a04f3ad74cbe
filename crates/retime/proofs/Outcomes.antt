-- What the growth of a record means for the list of outcomes.
use Rattle.std.proofs.Common.{◌≡◌, refl, sym, ap, ap₂, ◌∙◌, ℕ, zero, suc, ◌+◌, ◌<◌, ◌≤◌, ◌⊎◌, inl, inr, Bool, true, not, cond, eqb, leb}
use Rattle.std.proofs.Common.{ltb, ◌&&◌, ◌||◌, List, [], ◌∷◌, ◌++◌, length, take, drop, get_or, arith, append-nil}
use Rattle.std.proofs.{Math.Seq.take-add, Math.Seq.take-length, lemmas.Bool.and_parts, lemmas.Bool.lt-ltb, lemmas.Bool.Decides.eqb_tells}
use Rattle.std.proofs.lemmas.List.{length-append, length-drop, take-append-drop}
use Rattle.retime.specs.{Access, Step, lane_at, Log, no_log, log_at, late_outcome, Design, core_accesses, has_query, after_edit, no_step}
use Rattle.retime.specs.{step_of, emitted_of, queries_in, flags_by, are_among, has_all, core_of, IsSound, AreWhole, queries_before}
use Rattle.retime.specs.{RecordGrows, OutcomesGrow}
use Rattle.event_timing.specs.Core.{Core}
use Rattle.engine_view.specs.Held.{Held}
use Rattle.engine_view.proofs.Answered.{queries_step, queries_zero, among_is, among_if, all_among}
use Rattle.engine_view.proofs.Emitted.{queries_mono, has_query_is}

-- ---- the flags of accesses tell the outcomes of their queries

same_outcome : (late x y : Bool) → cond late (not x) x ≡ cond late (not y) y → x ≡ y
same_outcome late x y e = grind arith

-- outcomes of which the accesses have the same flags are the same
abbrev IsTold : List Access → Type 0
IsTold xs = (os ps : List Bool) → queries_in xs ≤ length os → queries_in xs ≤ length ps → flags_by xs os ≡ flags_by xs ps
    → take (queries_in xs) os ≡ take (queries_in xs) ps

told_by_flags : (xs : List Access) → IsTold xs
told_by_flags [] os ps l u e = refl
told_by_flags (a ∷ xs) [] ps l u e = let here = told_by_flags xs [] ps in grind arith
told_by_flags (a ∷ xs) (o ∷ os) [] l u e = let here = told_by_flags xs (o ∷ os) [] in grind arith
told_by_flags (a ∷ xs) (o ∷ os) (p ∷ ps) l u e =
    let here = told_by_flags xs (o ∷ os) (p ∷ ps) in
    let later = told_by_flags xs os ps in
    let first = same_outcome (late_outcome a.kind) o p in
    grind arith

-- ---- the outcomes of queries

-- each query of z with an outcome had it in x
abbrev pub NoneAdded : {S : Type 0} → Design S → Core S → Core S → ℕ → Type 0
NoneAdded {S} d x z m = (k : ℕ) → k < z.emitted m → has_query (core_accesses d z m k) ≡ true → z.answered m k ≡ true
    → (k < x.emitted m) × (x.answered m k ≡ true)

-- each query with an outcome has a verified one
abbrev pub AreSure : {S : Type 0} → Design S → Core S → ℕ → Type 0
AreSure {S} d z m = (k : ℕ) → k < z.emitted m → has_query (core_accesses d z m k) ≡ true → z.answered m k ≡ true → z.verified m k ≡ true

-- ---- the log of a core

module _ {S : Type 0} (e : Design S) (g : Held) (m : ℕ) (sg : IsSound e g) (in_g : m < length g.logs) where
  abbrev now : Log
  now = log_at g.logs m

  -- each step whose queries are among so many
  has_now : (k n q : ℕ) → k < n → n ≤ emitted_of g m → queries_before g m n ≤ q → has_all g m k q ≡ true
  has_now k n q l u w =
      let step = queries_step g m k in
      let up = queries_mono g m (suc k) n l in
      let first = sg.first_query m k (omega arith) in
      ap₂ (λ (a b : Bool). a && b) (lt-ltb k (emitted_of g m) (omega arith)) (among_if (step_of g m k) q (omega arith))

  -- a step without a query is among any
  among_none : (k n : ℕ) → queries_in (step_of g m k).accesses ≡ 0 → are_among (step_of g m k) n ≡ true
  among_none k n none = ap (λ (q : ℕ). eqb q 0 || leb ((step_of g m k).first_query + q) n) none

  asks : (k : ℕ) → k < emitted_of g m → (queries_in (step_of g m k).accesses ≡ 0 → ⊥)
      → has_query (core_accesses e (core_of e g) m k) ≡ true
  asks k l some =
      ap has_query (sg.accesses m k l) ∙ (has_query_is (step_of g m k).accesses
      ∙ elim (eqb_tells (queries_in (step_of g m k).accesses) 0) [ inl q ↦ absurd (some q.1) | inr q ↦ ap not q.0 ])

  -- so many queries of whole steps are among others, if those of each of the steps are
  pub all_within : (q n : ℕ) → AreWhole g m q → ((k : ℕ) → k < emitted_of g m → has_query (core_accesses e (core_of e g) m k) ≡ true
      → has_all g m k q ≡ true → are_among (step_of g m k) n ≡ true) → q ≤ n
  all_within q n w f =
      let a = w.all in
      let within = w.within in
      let least = all_among g m w.steps n (λ k l. sg.first_query m k (omega arith)) (λ k l. one w.steps within (omega arith) k l) in
      omega arith
    where
      one : (steps : ℕ) → steps ≤ emitted_of g m → queries_before g m steps ≤ q → (k : ℕ) → k < steps → are_among (step_of g m k) n ≡ true
      one steps within few k l =
          elim (eqb_tells (queries_in (step_of g m k).accesses) 0) [
            | inl z ↦ among_none k n z.1
            | inr z ↦ f k (omega arith) (asks k (omega arith) (λ y. z.1 y)) (has_now k steps q l within few)
          ]

  -- where each query with an outcome has a verified one, all outcomes are verified
  pub sure_all : AreSure e (core_of e g) m → now.verified ≡ length now.outcomes
  sure_all sure =
      let least = all_within (length now.outcomes) now.verified (sg.recorded m in_g)
      (λ k l q a. (and_parts (ltb k (emitted_of g m)) (are_among (step_of g m k) now.verified) (sure k l q a)).1) in
      let most = sg.sound_logs m no_log in_g in
      omega arith

-- ---- the logs of two cores, the second of which has all steps and outcomes of the first

module _ {S : Type 0} (d e : Design S) (h g : Held) (m : ℕ) (sh : IsSound d h) (sg : IsSound e g) (in_h : m < length h.logs)
    (in_g : m < length g.logs) (more : emitted_of h m ≤ emitted_of g m)
    (same_queries : (k : ℕ) → k < emitted_of h m → queries_in (step_of g m k).accesses ≡ queries_in (step_of h m k).accesses)
    (alike : (k : ℕ) → k < emitted_of h m → (os : List Bool) → flags_by (step_of g m k).accesses os ≡ flags_by (step_of h m k).accesses os)
    (answered : (k : ℕ) → k < emitted_of h m → (core_of d h).answered m k ≡ true → (core_of e g).answered m k ≡ true)
    (flags : (k : ℕ) → k < emitted_of h m → (core_of d h).answered m k ≡ true → (core_of e g).flags m k ≡ (core_of d h).flags m k) where
  abbrev old : Log
  old = log_at h.logs m

  same_before : (n : ℕ) → n ≤ emitted_of h m → queries_before g m n ≡ queries_before h m n
  same_before zero l = queries_zero g m ∙ sym (queries_zero h m)
  same_before (suc n) l =
      let a = queries_step g m n in
      let b = queries_step h m n in
      let before = same_before n (omega arith) in
      let here = same_queries n (omega arith) in
      omega arith

  -- the first steps whose outcomes are all recorded have the same ones
  told : (n : ℕ) → n ≤ emitted_of h m → queries_before h m n ≤ length old.outcomes
      → (queries_before h m n ≤ length (log_at g.logs m).outcomes)
      × (take (queries_before h m n) (log_at g.logs m).outcomes ≡ take (queries_before h m n) old.outcomes)
  told zero l u = (
    let z = queries_zero h m in omega arith,
    ap (λ (n : ℕ). take n (log_at g.logs m).outcomes) (queries_zero h m) ∙ sym (ap (λ (n : ℕ). take n old.outcomes) (queries_zero h m)),
  )
  told (suc n) l u =
      let step = queries_step h m n in
      let first = sh.first_query m n (omega arith) in
      let first_now = sg.first_query m n (omega arith) ∙ same_before n (omega arith) in
      let (most, same) = told n (omega arith) (omega arith) in
      let q = queries_before h m n in
      let c = queries_in (step_of h m n).accesses in
      let had : has_all h m n (length old.outcomes) ≡ true =
      ap₂ (λ (a b : Bool). a && b) (lt-ltb n (emitted_of h m) (omega arith))
      (among_if (step_of h m n) (length old.outcomes) (omega arith)) in
      let has = (and_parts (ltb n (emitted_of g m)) (are_among (step_of g m n) (length (log_at g.logs m).outcomes))
      (answered n (omega arith) had)).1 in
      let same_count = same_queries n (omega arith) in
      let enough : q + c ≤ length (log_at g.logs m).outcomes =
      elim (among_is (step_of g m n) (length (log_at g.logs m).outcomes) has) [ inl z ↦ omega arith | inr z ↦ omega arith ] in
      let here_flags : flags_by (step_of h m n).accesses (drop q (log_at g.logs m).outcomes) ≡ flags_by (step_of h m n).accesses
      (drop q old.outcomes) =
      sym (ap (λ (k : ℕ). flags_by (step_of h m n).accesses (drop k (log_at g.logs m).outcomes)) first_now)
      ∙ (sym (alike n (omega arith) (drop (step_of g m n).first_query (log_at g.logs m).outcomes))
      ∙ (flags n (omega arith) had ∙ ap (λ (k : ℕ). flags_by (step_of h m n).accesses (drop k old.outcomes)) first)) in
      let d1 = length-drop q (log_at g.logs m).outcomes in
      let d2 = length-drop q old.outcomes in
      let here = told_by_flags (step_of h m n).accesses (drop q (log_at g.logs m).outcomes) (drop q old.outcomes) (omega arith)
      (omega arith) here_flags in (
        omega arith,
        ap (λ (k : ℕ). take k (log_at g.logs m).outcomes) step ∙ (take-add q c (log_at g.logs m).outcomes
            ∙ (ap₂ (λ (x y : List Bool). x ++ y) same here ∙ (sym (take-add q c old.outcomes)
            ∙ sym (ap (λ (k : ℕ). take k old.outcomes) step)))),
      )

  front : (length old.outcomes ≤ length (log_at g.logs m).outcomes)
      × (take (length old.outcomes) (log_at g.logs m).outcomes ≡ old.outcomes)
  front =
      let w = sh.recorded m in_h in
      let (most, same) = told w.steps w.within (let a = w.all in omega arith) in (
        let a = w.all in omega arith,
        ap (λ (k : ℕ). take k (log_at g.logs m).outcomes) w.all
            ∙ (same ∙ (sym (ap (λ (k : ℕ). take k old.outcomes) w.all) ∙ take-length old.outcomes)),
      )

  begins : (log_at g.logs m).outcomes ≡ old.outcomes ++ drop (length old.outcomes) (log_at g.logs m).outcomes
  begins = sym (take-append-drop (length old.outcomes) (log_at g.logs m).outcomes)
      ∙ ap (λ (x : List Bool). x ++ drop (length old.outcomes) (log_at g.logs m).outcomes) front.1

  no_rest : (rest : List Bool) → length (old.outcomes ++ rest) ≤ length old.outcomes → old.outcomes ++ rest ≡ old.outcomes
  no_rest [] l = append-nil old.outcomes
  no_rest (x ∷ rest) l = let n = length-append old.outcomes (x ∷ rest) in absurd (omega arith)

  ends_of : NoneAdded e (core_of d h) (core_of e g) m ⊎ AreSure e (core_of e g) m
      → ((log_at g.logs m).outcomes ≡ old.outcomes) ⊎ ((log_at g.logs m).verified ≡ length (log_at g.logs m).outcomes)
  ends_of (inl none) =
      let least = all_within e g m sg in_g (length (log_at g.logs m).outcomes) (length old.outcomes) (sg.recorded m in_g)
      (λ k l q a. had k (none k l q a)) in
      inl (begins ∙ no_rest (drop (length old.outcomes) (log_at g.logs m).outcomes)
      (let n = ap (λ (x : List Bool). length x) begins in omega arith))
    where
      had : (k : ℕ) → (k < emitted_of h m) × ((core_of d h).answered m k ≡ true) → are_among (step_of g m k) (length old.outcomes) ≡ true
      had k (l, a) =
          let first = sg.first_query m k (omega arith) ∙ (same_before k (omega arith) ∙ sym (sh.first_query m k l)) in
          let count = same_queries k l in
          let among = (and_parts (ltb k (emitted_of h m)) (are_among (step_of h m k) (length old.outcomes)) a).1 in
          elim (among_is (step_of h m k) (length old.outcomes) among) [
            | inl z ↦ among_none e g m sg in_g k (length old.outcomes) (omega arith)
            | inr z ↦ among_if (step_of g m k) (length old.outcomes) (omega arith)
          ]
  ends_of (inr sure) = inr (sure_all e g m sg in_g sure)

  -- where none was added, each that is recorded now was so before
  pub answered_back : (log_at g.logs m).outcomes ≡ old.outcomes → (k : ℕ) → k < emitted_of h m → (core_of e g).answered m k ≡ true
      → (core_of d h).answered m k ≡ true
  answered_back same k l a =
      let first = sg.first_query m k (omega arith) ∙ (same_before k (omega arith) ∙ sym (sh.first_query m k l)) in
      let count = same_queries k l in
      let long = ap (λ (x : List Bool). length x) same in
      let among = (and_parts (ltb k (emitted_of g m)) (are_among (step_of g m k) (length (log_at g.logs m).outcomes)) a).1 in
      ap₂ (λ (p q : Bool). p && q) (lt-ltb k (emitted_of h m) l)
      (elim (among_is (step_of g m k) (length (log_at g.logs m).outcomes) among) [
        | inl z ↦ among_none d h m sh in_h k (length old.outcomes) (omega arith)
        | inr z ↦ among_if (step_of h m k) (length old.outcomes) (omega arith)
      ])

  pub outcomes_on : NoneAdded e (core_of d h) (core_of e g) m ⊎ AreSure e (core_of e g) m → OutcomesGrow old (log_at g.logs m)
  outcomes_on ends = record { grew = (drop (length old.outcomes) (log_at g.logs m).outcomes, begins); ends = ends_of ends }

-- ---- where the steps are the same

pub outcomes_grow : {S : Type 0} (d e : Design S) (h g : Held) (t m : ℕ) → IsSound d h → IsSound e g → m < length h.logs → m < length g.logs
    → (lane_at g.lanes m).steps ≡ (lane_at h.lanes m).steps → RecordGrows (after_edit d (core_of d h) t) (core_of e g) m
    → OutcomesGrow (log_at h.logs m) (log_at g.logs m)
outcomes_grow {S} d e h g t m sh sg in_h in_g steps r =
    outcomes_on d e h g m sh sg in_h in_g (let n = ap (λ (ss : List Step). length ss) steps in omega arith)
    (λ k l. ap (λ (ss : List Step). queries_in (get_or ss k no_step).accesses) steps)
    (λ k l os. ap (λ (ss : List Step). flags_by (get_or ss k no_step).accesses os) steps)
    (λ k l. r.answered k) (λ k l. r.flags k) (elim r.ends [
      | inl same ↦ inl (λ k l q a. (let n = ap (λ (ss : List Step). length ss) steps in omega arith, sym (same k) ∙ a))
      | inr all ↦ inr (λ k l q a. all k l a)
    ])
