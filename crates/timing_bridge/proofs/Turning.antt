-- A turn that is computed is legal, and which turns are computed.
use Rattle.std.proofs.Common.{◌≡◌, ℕ, ◌≤◌, ◌⊎◌, Bool, true, false, not, cond, ◌&&◌, eqb, ltb, inl, inr, refl, sym, ap, ◌∙◌, subst, arith}
use Rattle.std.proofs.Common.{Option, Some, None, List, [], ◌∷◌, ◌++◌}
use Rattle.std.proofs.lemmas.Bool.{cond-true, and_parts, and_from, not-true, not_from_false, eqb-true, eq-eqb, ltb-true, lt-ltb}
use Rattle.std.specs.Option.{is_none, option_or, option_map}
use Rattle.timing_bridge.specs.{Design, IsDesign, Trace, IsHistory, ActsAll, runs, IsAgreed, AllVerified, IsInside, may_run, HubTurn}
use Rattle.timing_bridge.specs.{IsTimedTo, IsEarliestTo, IsTurnOf, then_on, timings, earliest_of, runs_of, turn_on, turns_on, lent_at}
use Rattle.timing_bridge.specs.{is_lent_to, after_lent, after_ran, after_timed, after_short}
use Rattle.timing_bridge.specs.declared.turn.HubTurn.TheVariants.{Lent, Ran, Timed, Short}
use Rattle.timing_bridge.specs.Turned.{Turned}
use Rattle.event_timing.specs.Core.{Core}
use Rattle.event_timing.proofs.Deciding.{run_decided}
use Rattle.timing_bridge.proofs.Timings.{none_is, timings_are, earliest_is, earliest_alone, acts_are_runs, runs_are_acts}

-- ---- options and tests

cond_some : {A : Type 0} → (b : Bool) (o : Option A) (a : A) → cond b o None ≡ Some a → (b ≡ true) × (o ≡ Some a)
cond_some {A} true o a e = (refl, e)
cond_some {A} false o a e = cc

map_some : {A B : Type 0} → (f : A → B) (o : Option A) (b : B) → option_map f o ≡ Some b → (a : A) × (o ≡ Some a) × (b ≡ f a)
map_some {A} {B} f None b e = cc
map_some {A} {B} f (Some a) b e = (a, refl, some_same (f a) b e)
  where
    some_same : (c e : B) → Some c ≡ Some e → e ≡ c
    some_same c e q = cc

or_some : {A : Type 0} → (o q : Option A) (a : A) → option_or o q ≡ Some a → (o ≡ Some a) ⊎ (q ≡ Some a)
or_some {A} None q a e = inr e
or_some {A} (Some b) q a e = inl e

is_lent : (o : Option ℕ) (q : ℕ) → is_lent_to o q ≡ true → o ≡ Some q
is_lent None q e = cc
is_lent (Some r) q e = ap Some (sym (eqb-true q r e))

lent_is : (o : Option ℕ) (q : ℕ) → o ≡ Some q → is_lent_to o q ≡ true
lent_is o q e = ap (λ (z : Option ℕ). is_lent_to z q) e ∙ eq-eqb q q refl

-- ---- what is computed is legal

module _ {S : Type 0} (d : Design S) (h : Trace S) (i : IsDesign d) (y : IsHistory d h) (limit : ℕ) where
  pub turn_is : (v w : Turned S) → IsAgreed d h limit v.core → AllVerified v.core → (turn : HubTurn)
      → turn_on d limit v turn ≡ Some w → IsTurnOf d limit v turn w
  turn_is v w g f (Lent q m) e =
      let (t, s) = cond_some (not v.short && (may_run d v.core m && is_none (lent_at v m))) (Some (after_lent v q m)) w e in
      let (t1, t2) = and_parts (not v.short) (may_run d v.core m && is_none (lent_at v m)) t in
      let (t3, t4) = and_parts (may_run d v.core m) (is_none (lent_at v m)) t2 in
      (not-true v.short t1, (run_decided d v.core m).0 t3, none_is (lent_at v m) t4, some_same (after_lent v q m) w s)
    where
      some_same : (a b : Turned S) → Some a ≡ Some b → b ≡ a
      some_same a b q = cc
  turn_is v w g f (Ran q m n) e =
      let (t, s) = cond_some (is_lent_to (lent_at v m) q && ltb 0 n) (option_map (after_ran v m) (runs_of d m n v.core)) w e in
      let (t1, t2) = and_parts (is_lent_to (lent_at v m) q) (ltb 0 n) t in
      let (z, r, same) = map_some (after_ran v m) (runs_of d m n v.core) w s in (
        is_lent (lent_at v m) q t1,
        ltb-true 0 n t2,
        subst (λ (c : Core S). ActsAll d limit v.core (runs n m) c) (sym (ap (λ (u : Turned S). u.core) same))
            (runs_are_acts d limit m n v.core z r),
        same ∙ ap (after_ran v m) (sym (ap (λ (u : Turned S). u.core) same)),
      )
  turn_is v w g f (Timed q n) e =
      let (t, s) = cond_some (not v.short && ltb 0 n) (option_map (after_timed v) found) w e in
      let (t1, t2) = and_parts (not v.short) (ltb 0 n) t in
      let (z, r, same) = map_some (after_timed v) found w s in
      let core : w.core ≡ z = ap (λ (u : Turned S). u.core) same in (
        not-true v.short t1,
        ltb-true 0 n t2,
        subst (λ (c : Core S). IsTimedTo d limit v.core n c ⊎ (n ≡ 1) × IsEarliestTo d limit v.core c) (sym core) (either z r),
        same ∙ ap (after_timed v) (sym core),
      )
    where
      found : Option (Core S)
      found = option_or (timings d limit n 0 v.core) (cond (eqb n 1) (earliest_of d limit v.core) None)

      either : (z : Core S) → found ≡ Some z → IsTimedTo d limit v.core n z ⊎ (n ≡ 1) × IsEarliestTo d limit v.core z
      either z r =
          elim (or_some (timings d limit n 0 v.core) (cond (eqb n 1) (earliest_of d limit v.core) None) z r) [
            | inl a ↦ inl (timings_are d h i y limit n 0 v.core z g f a)
            | inr a ↦
                let (one, b) = cond_some (eqb n 1) (earliest_of d limit v.core) z a in
                inr (eqb-true n 1 one, earliest_is d h i y limit v.core z g f b)
          ]
  turn_is v w g f (Short q) e = some_same (after_short v q) w e
    where
      some_same : (a b : Turned S) → Some a ≡ Some b → b ≡ a
      some_same a b q = cc

-- ---- what is legal is computed, where it can be told: a lending, a return, and want of memory

module _ {S : Type 0} (d : Design S) (limit : ℕ) (v : Turned S) where
  pub lent_fits : (q m : ℕ) (w : Turned S) → IsTurnOf d limit v (Lent q m) w → turn_on d limit v (Lent q m) ≡ Some w
  lent_fits q m w (short, may, free, same) =
      cond-true (not v.short && (may_run d v.core m && is_none (lent_at v m))) (Some (after_lent v q m)) None
      (and_from (not v.short) (may_run d v.core m && is_none (lent_at v m)) (not_from_false v.short short)
      (and_from (may_run d v.core m) (is_none (lent_at v m)) ((run_decided d v.core m).1 may) (ap is_none free)))
      ∙ ap Some (sym same)

  pub ran_fits : (q m n : ℕ) (w : Turned S) → IsTurnOf d limit v (Ran q m n) w → turn_on d limit v (Ran q m n) ≡ Some w
  ran_fits q m n w (lent, some, acts, same) =
      cond-true (is_lent_to (lent_at v m) q && ltb 0 n) (option_map (after_ran v m) (runs_of d m n v.core)) None
      (and_from (is_lent_to (lent_at v m) q) (ltb 0 n) (lent_is (lent_at v m) q lent) (lt-ltb 0 n some))
      ∙ ap (option_map (after_ran v m)) (acts_are_runs d limit m n v.core w.core acts) ∙ ap Some (sym same)

  pub short_fits : (q : ℕ) (w : Turned S) → IsTurnOf d limit v (Short q) w → turn_on d limit v (Short q) ≡ Some w
  short_fits q w same = ap Some (sym same)

  timed_by_found : (q n : ℕ) (z : Core S) → v.short ≡ false → 1 ≤ n
      → option_or (timings d limit n 0 v.core) (cond (eqb n 1) (earliest_of d limit v.core) None) ≡ Some z
      → turn_on d limit v (Timed q n) ≡ Some (after_timed v z)
  timed_by_found q n z short some e =
      cond-true (not v.short && ltb 0 n) (option_map (after_timed v)
      (option_or (timings d limit n 0 v.core) (cond (eqb n 1) (earliest_of d limit v.core) None))) None
      (and_from (not v.short) (ltb 0 n) (not_from_false v.short short) (lt-ltb 0 n some))
      ∙ ap (option_map (after_timed v)) e

  -- the rounds of a turn
  pub timed_fits : (q n : ℕ) (z : Core S) → v.short ≡ false → 1 ≤ n → timings d limit n 0 v.core ≡ Some z
      → turn_on d limit v (Timed q n) ≡ Some (after_timed v z)
  timed_fits q n z short some e =
      timed_by_found q n z short some
      (ap (λ (o : Option (Core S)). option_or o (cond (eqb n 1) (earliest_of d limit v.core) None)) e)

  -- the one Earliest of a turn
  pub earliest_fits : (q : ℕ) (z : Core S) → v.short ≡ false → IsInside d v.core → earliest_of d limit v.core ≡ Some z
      → turn_on d limit v (Timed q 1) ≡ Some (after_timed v z)
  earliest_fits q z short inside e =
      timed_by_found q 1 z short (omega arith)
      (ap (λ (o : Option (Core S)). option_or o (earliest_of d limit v.core)) (earliest_alone d limit v.core inside 0 z e) ∙ e)

-- ---- one turn more

pub turns_join : {S : Type 0} → (d : Design S) (limit : ℕ) (v : Turned S) (turns more : List HubTurn)
    → turns_on d limit v (turns ++ more) ≡ then_on (turns_on d limit v turns) (λ u. turns_on d limit u more)
turns_join {S} d limit v [] more = refl
turns_join {S} d limit v (turn ∷ turns) more = either (λ u. turns_join d limit u turns more) (turn_on d limit v turn)
  where
    either : ((u : Turned S) → turns_on d limit u (turns ++ more) ≡ then_on (turns_on d limit u turns) (λ z. turns_on d limit z more))
        → (o : Option (Turned S)) → then_on o (λ u. turns_on d limit u (turns ++ more))
        ≡ then_on (then_on o (λ u. turns_on d limit u turns)) (λ u. turns_on d limit u more)
    either each None = refl
    either each (Some u) = each u
