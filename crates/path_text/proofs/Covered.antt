-- Each clock in which a module does something is in one of its spans.
use Rattle.std.proofs.Common.{◌≡◌, ◌≢◌, ℕ, zero, suc, ◌+◌, ◌-◌, ◌<◌, ◌≤◌, Option, Some, None, List, refl, ap, arith, inl, inr, ◌⊎◌}
use Rattle.std.proofs.lemmas.Bool.{cases_lt, cases_eq}
use Rattle.std.specs.Prelude.{Contains}
use Rattle.path_text.specs.{Plan, Doing, Span, doing, AreSpansBelow}
use Rattle.timelines.proofs.{Existing.same_doing, Extending.some_same, Extending.some_none}

same_option : (o : Option Doing) (d : Doing) → (o ≡ Some d) ⊎ (o ≢ Some d)
same_option None d = inr (λ e. some_none d e)
same_option (Some x) d = elim (same_doing x d) [
  | inl e ↦ inl (ap Some e)
  | inr n ↦ inr (λ e. n (some_same x d e))
]

-- the first clock from which on a module does what it does in this one
record Since (p : Plan) (i c : ℕ) (d : Doing) : Type 0 where
  pub first : ℕ
  pub within : first ≤ c
  pub throughout : (k : ℕ) → first ≤ k → k ≤ c → doing p k i ≡ Some d
  pub begins : (k : ℕ) → k + 1 ≡ first → doing p k i ≢ Some d

since : (p : Plan) (i c : ℕ) (d : Doing) → doing p c i ≡ Some d → Since p i c d
since p i zero d e = record {
  first = 0;
  within = omega arith;
  throughout = λ k a b. let at : k ≡ 0 = omega arith in rw at e;
  begins = λ k a. absurd (omega arith);
}
since p i (suc c) d e = elim (same_option (doing p c i) d) [
  | inl before ↦
      let x = since p i c d before in
      let l = x.within in
      record {
        first = x.first;
        within = omega arith;
        throughout = λ k a b. elim (cases_eq k (suc c)) [
          | inl at ↦ rw at e
          | inr other ↦ x.throughout k a (omega arith)
        ];
        begins = x.begins;
      }
  | inr other ↦ record {
    first = suc c;
    within = omega arith;
    throughout = λ k a b. let at : k ≡ suc c = omega arith in rw at e;
    begins = λ k a. let at : k ≡ c = omega arith in rw at other;
  }
]

-- the clock up to which it goes on doing so, or the end
record Until (p : Plan) (i end c : ℕ) (d : Doing) : Type 0 where
  pub until : ℕ
  pub later : c < until
  pub within : until ≤ end
  pub throughout : (k : ℕ) → c ≤ k → k < until → doing p k i ≡ Some d
  pub ends : until < end → doing p until i ≢ Some d

up_to : (p : Plan) (i end : ℕ) (d : Doing) (n c : ℕ) → c + suc n ≡ end → doing p c i ≡ Some d → Until p i end c d
up_to p i end d zero c l e = record {
  until = suc c;
  later = omega arith;
  within = omega arith;
  throughout = λ k a b. let at : k ≡ c = omega arith in rw at e;
  ends = λ m. absurd (omega arith);
}
up_to p i end d (suc n) c l e = elim (same_option (doing p (suc c) i) d) [
  | inl next ↦
      let x = up_to p i end d n (suc c) (omega arith) next in
      let later = x.later in
      record {
        until = x.until;
        later = omega arith;
        within = x.within;
        throughout = λ k a b. elim (cases_eq k c) [
          | inl at ↦ rw at e
          | inr other ↦ x.throughout k (omega arith) b
        ];
        ends = x.ends;
      }
  | inr other ↦ record {
    until = suc c;
    later = omega arith;
    within = omega arith;
    throughout = λ k a b. let at : k ≡ c = omega arith in rw at e;
    ends = λ m. other;
  }
]

-- a span that has a clock
pub record HasClock (spans : List Span) (c : ℕ) (d : Doing) : Type 0 where
  pub span : Span
  pub there : Contains spans span
  pub from : span.first ≤ c
  pub until : c < span.until
  pub doing : span.doing ≡ d

pub covered : (p : Plan) (i end : ℕ) (spans : List Span) → AreSpansBelow p i end spans → (c : ℕ) (d : Doing) → c < end
    → doing p c i ≡ Some d → HasClock spans c d
covered p i end spans a c d l e =
    let x = since p i c d e in
    let rest : c + suc (end - suc c) ≡ end = omega arith in
    let y = up_to p i end d (end - suc c) c rest e in
    let within = x.within in
    let later = y.later in
    let s : Span = record { first = x.first; until = y.until; doing = d } in
    record {
      span = s;
      there = (a.all s).1 (record {
        some = omega arith;
        below = y.within;
        throughout = λ k f u. elim (cases_lt k c) [
          | inl before ↦ x.throughout k f (omega arith)
          | inr after ↦ y.throughout k after u
        ];
        begins = x.begins;
        ends = y.ends;
      });
      from = x.within;
      until = y.later;
      doing = refl;
    }
