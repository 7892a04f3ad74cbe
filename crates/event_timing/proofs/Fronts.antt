-- The values that a core hands to a module are those of the history.
use Rattle.std.proofs.Common.{ltb, ◌≡◌, ℕ, zero, suc, ◌+◌, ◌-◌, ◌<◌, ◌≤◌, Bool, true, inl, inr, List, [], ◌∷◌, ◌++◌, length, get_or, sym}
use Rattle.std.proofs.Common.{refl, ap, ◌∙◌, arith, append_assoc}
use Rattle.std.proofs.lemmas.Bool.{cases_lt, ltb-true}
use Rattle.event_timing.specs.{Side, Design, IsDesign, Access, Reply, values_in, takes_in, Trace, IsHistory, is_possible, replies, steps}
use Rattle.event_timing.specs.{done, tally, Agrees, pushed_in, Begins, bare_replies, core_accesses, core_tally, core_values, replies_of}
use Rattle.event_timing.specs.{core_reply, view, AreOwnMarks, IsTimed, elements_timed, Core.Core}
use Rattle.flow_word.specs.declared.access.Side.TheVariants.{Pop, Push}
use Rattle.event_timing.proofs.OwnRuns.{taken_mono, tally_0, tally_more}
use Rattle.event_timing.proofs.Values.{pushed_in_0, pushed_in_more, pushed_view, begins_get, pushed_mono, length_pushed, pushed_in_mono}
use Rattle.event_timing.proofs.{Threshold.taken_view, Candidate.begin, Candidate.done_begin}

-- what agreement needs of the steps with a cycle
pub record IsDone {S : Type 0} (d : Design S) (h : Trace S) (x : Core S) : Type 0 where
  pub within : (m : ℕ) → x.timed m ≤ x.emitted m
  pub steps_then : (m k : ℕ) → k < x.timed m → steps d h (x.cycle m k) m ≡ true
  pub done_then : (m k : ℕ) → k < x.timed m → done d h m (x.cycle m k) ≡ k
  pub reply_then : (m k : ℕ) → k < x.timed m → core_reply d x m k ≡ replies d h (x.cycle m k) m

pub agrees_done : {S : Type 0} → (d : Design S) (h : Trace S) (x : Core S) → AreOwnMarks d x → IsDone d h x → Agrees d h (view d x)
agrees_done {S} d h x b t =
    let more = λ (m : ℕ) (o : ltb (x.timed m) (x.emitted m) ≡ true). ltb-true (x.timed m) (x.emitted m) o in
    record {
      steps_then = t.steps_then;
      done_then = t.done_then;
      reply_then = t.reply_then;
      accesses_then = λ m k l. ap (d.accesses m) (b.own_step m k (omega (arith, t.within m)));
      accesses_first = λ m o. ap (d.accesses m) (b.own_step m (x.timed m) (more m o));
      wait_first = λ m o. b.own_wait m (x.timed m) (more m o);
      lives_first = λ m o. rw (← b.own_step m (x.timed m) (more m o)) (b.lives m (x.timed m) (more m o));
    }

pub agrees : {S : Type 0} → (d : Design S) (h : Trace S) (limit : ℕ) (x : Core S) → AreOwnMarks d x → IsTimed d h limit x
    → Agrees d h (view d x)
agrees {S} d h limit x b t = agrees_done d h x b (grind arith)

-- counts do not read the values
takes_plain : (side : Side) (ch : ℕ) (V : ℕ → List ℕ) (t : ℕ → ℕ) (xs : List Access) (bs : List Bool)
    → takes_in side ch xs (replies_of V t xs bs) ≡ takes_in side ch xs (bare_replies bs)
takes_plain side ch V t [] bs = refl
takes_plain side ch V t (a ∷ xs) [] = refl
takes_plain side ch V t (a ∷ xs) (b ∷ bs) = rw (takes_plain side ch V t xs bs) refl

values_plain : (ch : ℕ) (V : ℕ → List ℕ) (t : ℕ → ℕ) (xs : List Access) (bs : List Bool)
    → values_in ch xs (replies_of V t xs bs) ≡ values_in ch xs (bare_replies bs)
values_plain ch V t [] bs = refl
values_plain ch V t (a ∷ xs) [] = refl
values_plain ch V t (a ∷ xs) (b ∷ bs) = rw (values_plain ch V t xs bs) refl

pub tally_same : (a b : ℕ → List Access) (r s : ℕ → List Reply) (side : Side) (ch n : ℕ)
    → ((k : ℕ) → k < n → takes_in side ch (a k) (r k) ≡ takes_in side ch (b k) (s k)) → tally a r side ch n ≡ tally b s side ch n
tally_same a b r s side ch zero f = rw (tally_0 a r side ch, tally_0 b s side ch) refl
tally_same a b r s side ch (suc n) f =
    rw (tally_more a r side ch n, tally_more b s side ch n, f n (omega arith), tally_same a b r s side ch n (λ k l. f k (omega arith))) refl

pub pushed_same : (a b : ℕ → List Access) (r s : ℕ → List Reply) (ch n : ℕ)
    → ((k : ℕ) → k < n → values_in ch (a k) (r k) ≡ values_in ch (b k) (s k)) → pushed_in ch a r n ≡ pushed_in ch b s n
pushed_same a b r s ch zero f = rw (pushed_in_0 ch a r, pushed_in_0 ch b s) refl
pushed_same a b r s ch (suc n) f =
    rw (pushed_in_more ch a r n, pushed_in_more ch b s n, f n (omega arith), pushed_same a b r s ch n (λ k l. f k (omega arith))) refl

pub core_tally_is : {S : Type 0} → (d : Design S) (x : Core S) (m : ℕ) (side : Side) (ch n : ℕ)
    → tally (core_accesses d x m) (core_reply d x m) side ch n ≡ core_tally d x m side ch n
core_tally_is {S} d x m side ch n =
    tally_same (core_accesses d x m) (core_accesses d x m) (core_reply d x m) (λ j. bare_replies (x.flags m j)) side ch n
    (λ k l. takes_plain side ch (core_values d x) (λ q. core_tally d x m Pop q k) (core_accesses d x m k) (x.flags m k))

pub core_pushed_is : {S : Type 0} → (d : Design S) (x : Core S) (m ch n : ℕ)
    → pushed_in ch (core_accesses d x m) (core_reply d x m) n ≡ pushed_in ch (core_accesses d x m) (λ j. bare_replies (x.flags m j)) n
core_pushed_is {S} d x m ch n =
    pushed_same (core_accesses d x m) (core_accesses d x m) (core_reply d x m) (λ j. bare_replies (x.flags m j)) ch n
    (λ k l. values_plain ch (core_values d x) (λ q. core_tally d x m Pop q k) (core_accesses d x m k) (x.flags m k))

-- the value at a place that is known to be pushed, in the core and in the history
pub get_right : {S : Type 0} → (d : Design S) (h : Trace S) → IsDesign d → IsHistory d h → (limit : ℕ) (x : Core S) → AreOwnMarks d x
    → IsTimed d h limit x → (ch c t : ℕ) → h.taken c Pop ch ≡ t → t < elements_timed d x ch → is_possible d h c Pop ch ≡ true
    → get_or (core_values d x ch) t 0 ≡ get_or (h.pushed c ch) t 0
get_right {S} d h i y limit x b u ch c t e l p =
    let g = agrees d h limit x b u in
    let w : ℕ = d.owner Push ch in
    let c1 : ℕ = begin (view d x) w in
    let k = done_begin d h (view d x) g w (x.timed w) refl in
    let q = pushed_view d h i y (view d x) g ch c1 (omega arith) in
    let q' = rw (k, core_pushed_is d x w ch (x.timed w)) at q in
    let (more, f) = pushed_in_mono ch (core_accesses d x w) (λ j. bare_replies (x.flags w j)) (x.timed w) (x.emitted w) (u.within w) in
    let z : Begins (core_values d x ch) (h.pushed c1 ch) = (
      more,
      ap (λ (s : List ℕ). d.inputs ch ++ s) f
          ∙ (sym (append_assoc (d.inputs ch) (pushed_in ch (core_accesses d x w) (λ j. bare_replies (x.flags w j)) (x.timed w)) more)
          ∙ ap (λ (s : List ℕ). s ++ more) (sym q')),
    ) in
    let n = taken_view d h i y (view d x) g Push ch c1 (omega arith) in
    let n' = rw (k, core_tally_is d x w Push ch (x.timed w)) at n in
    let len = length_pushed d h i y ch c1 in
    let l' : t < length (h.pushed c1 ch) = omega (arith, len, n', l) in
    let first = begins_get (core_values d x ch) (h.pushed c1 ch) t z l' in
    elim (cases_lt c c1) [
      | inr o ↦ first ∙ sym (begins_get (h.pushed c ch) (h.pushed c1 ch) t (pushed_mono d h y ch c1 c o) l')
      | inl o ↦
          let p' = rw (i.pops_limited ch) at p in
          let p'' = ltb-true (h.taken c Pop ch) (d.start Pop ch + h.taken (suc c - d.lag Pop ch) Push ch) p' in
          let up = taken_mono d h y Push ch (suc c - d.lag Pop ch) c (omega (arith, i.lag_positive Pop ch)) in
          let len' = length_pushed d h i y ch c in
          let l'' : t < length (h.pushed c ch) = omega (arith, len', up, p'', e) in
          first ∙ begins_get (h.pushed c1 ch) (h.pushed c ch) t (pushed_mono d h y ch c c1 (omega arith)) l''
    ]
