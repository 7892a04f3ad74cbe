-- In a final core, verified outcomes are those of the steps with a cycle.
use Rattle.std.proofs.Common.{◌≡◌, ℕ, zero, suc, ◌<◌, ◌≤◌, true, false, ltb, length, arith, inl, inr}
use Rattle.std.proofs.{lemmas.Bool.cases_lt, lemmas.Bool.cases_Bool, lemmas.Bool.and_parts, lemmas.Bool.Decides.nat_tests}
use Rattle.retime.specs.{log_at, Design, Trace, core_accesses, has_query, step_of, emitted_of, queries_in, are_among, core_of}
use Rattle.retime.specs.{queries_before, first_of, IsFinalOf}
use Rattle.event_timing.specs.Core.{Core}
use Rattle.event_timing.proofs.{Steps.done_more, Agreement.final_complete}
use Rattle.engine_view.specs.Held.{Held}
use Rattle.engine_view.proofs.{Emitted.queries_mono, Emitted.has_query_is, Answered.queries_step, Answered.all_among}

module _ {S : Type 0} (d : Design S) (y : Trace S) (limit : ℕ) (h : Held) (f : IsFinalOf d y limit h) (m : ℕ) (inside : m < length h.logs)
  where
    abbrev x : Core S
    x = core_of d h

    none_in : (k : ℕ) → k < emitted_of h m → has_query (core_accesses d x m k) ≡ false → queries_in (step_of h m k).accesses ≡ 0
    none_in k l none =
        let query = has_query_is (step_of h m k).accesses in
        let accesses = f.sound.accesses m k l in
        grind (arith, nat_tests)

    -- the first step without a cycle has no verified query
    first_plain : first_of h m < emitted_of h m → x.verified m (first_of h m) ≡ true
        → has_query (core_accesses d x m (first_of h m)) ≡ false
    first_plain l v =
        elim (cases_Bool (has_query (core_accesses d x m (first_of h m)))) [
          | inl q ↦
              let (c, less, at) = f.agreed.time.first_happens m l v q in
              let most = final_complete d y f.design f.history limit x f.agreed f.final m (suc c) less in
              let up = done_more d y m c at.0 in
              let is = at.1 in
              absurd (omega arith)
          | inr q ↦ q
        ]

    verified_there : (k : ℕ) → k < emitted_of h m → queries_before h m (suc k) ≤ (log_at h.logs m).verified → x.verified m k ≡ true
    verified_there k l u =
        let step = queries_step h m k in
        let first = f.sound.first_query m k l in
        grind (arith, nat_tests)

    no_more : (n k : ℕ) → n ≤ emitted_of h m → queries_before h m n ≤ (log_at h.logs m).verified → first_of h m ≤ k → k < n
        → queries_in (step_of h m k).accesses ≡ 0
    no_more n k l u a b =
        let v = verified_there k (omega arith) (let up = queries_mono h m (suc k) n b in omega arith) in
        elim (cases_lt (first_of h m) k) [
          | inl q ↦ none_in k (omega arith) (f.agreed.time.later_plain m k q (omega arith) v)
          | inr q ↦ let e : first_of h m ≡ k = omega arith in
              none_in k (omega arith) (rw e at (first_plain (omega arith) (rw (← e) at v)))
        ]

    no_growth : (n k : ℕ) → n ≤ emitted_of h m → queries_before h m n ≤ (log_at h.logs m).verified → k ≤ n
        → queries_before h m k ≤ queries_before h m (first_of h m)
    no_growth n zero l u b = queries_mono h m 0 (first_of h m) (omega arith)
    no_growth n (suc k) l u b =
        let up = queries_mono h m (suc k) (first_of h m) in
        let none = no_more n k l u in
        let step = queries_step h m k in
        let before = no_growth n k l u (omega arith) in
        grind arith

    timed_among : queries_before h m (first_of h m) ≤ (log_at h.logs m).verified
    timed_among =
        let within = f.agreed.time.within m in
        all_among h m (first_of h m) (log_at h.logs m).verified (λ k l. f.sound.first_query m k (omega arith))
        (λ k l. (and_parts (ltb k (emitted_of h m)) (are_among (step_of h m k) (log_at h.logs m).verified)
        (f.agreed.time.verified_then m k l)).1)

    -- so as many outcomes are verified as the steps with a cycle have queries
    pub verified_are_timed : (log_at h.logs m).verified ≡ queries_before h m (first_of h m)
    verified_are_timed =
        let v = f.sound.verified m inside in
        let e = v.all in
        let l = timed_among in
        let a = no_growth v.steps v.steps v.within (omega arith) (omega arith) in
        omega arith
