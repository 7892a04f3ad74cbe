-- One local clock of overlapping iterations.
use Rattle.std.proofs.Common.{◌≡◌, ◌≢◌, ℕ, zero, suc, ◌+◌, ◌-◌, ◌*◌, ◌≤◌, ◌<◌, List, length, get_or, min, Bool, true, false, refl, sym, ◌∙◌}
use Rattle.std.proofs.Common.{ap, subst, arith, nat_lt, ◌⊎◌, inl, inr}
use Rattle.std.proofs.lemmas.Bool.{ltb-true, ltb-false}
use Rattle.std.proofs.lemmas.List.FromFn.{get_or-enumerate_from, length-enumerate_from}
use Rattle.std.proofs.Math.Nat.{mul-le-mul_right, le_of_mul-le-mul_right, suc-mul, add-mul, min-eq_left, min-eq_right}
use Rattle.std.specs.List.{fold, enumerate_from}
use Rattle.serial_order.specs.{Timed, Block, block_of, interval, ages, temps_of, Used, writes, SerialProgress, clock_made, is_written_at}
use Rattle.lockstep_defs.proofs.Live.{live_iff, are_ages}
use Rattle.serial_order.proofs.Lists.{Among, fold_none, fold_one, fold_keeps}
use Rattle.serial_order.proofs.Outcomes.{Setting, setting_of, PopsOnce, iteration_done, clock_by_iterations}
use Rattle.serial_order.proofs.{Alike.IsThing, Alike.held, Alike.Agree, Applied.Placed}
use Rattle.serial_order.proofs.Iterations.{iteration_places, thing_left, other_temps, thing_alike, same_temps}
use Rattle.serial_order.proofs.Offsets.{IsFit, upto, solo, upto_next, upto_places, solo_places, upto_start, solo_holds, still}
use Rattle.serial_order.proofs.Windows.{IsNarrow, IsChain, NotLater, AllEarlier, HoldsAlike, live_in, IsSlot, TempsAlike, IsInLoop}
use Rattle.serial_order.proofs.Windows.{HasCommitted, writes_used, some_written, none_written}

-- ---- the live iterations

abbrev pub its_of : Setting → SerialProgress → List (ℕ × ℕ)
its_of c p = enumerate_from 0 (ages c.block p.state.control)

abbrev pub after_clock : Setting → SerialProgress → SerialProgress
after_clock c p = fold (iteration_done c p) p (its_of c p)

module _ (c : Setting) (from : ℕ → SerialProgress) (n t : ℕ) (p : SerialProgress) (fit : IsFit c) (narrow : IsNarrow c)
    (chain : IsChain c from n) (h : IsInLoop c from n t p) where
  -- an iteration is live where it is young
  pub is_slot : (i j a : ℕ) → i + j ≡ n → a + i * interval c.block ≡ t → a < c.block.len → IsSlot c n t (live_in c p) j i a
  is_slot i j a number age young =
      let products = ap (λ (m : ℕ). m * interval c.block) number ∙ refl in
      let apart = add-mul i j (interval c.block) in
      let clock = h.clock in
      let newest = h.newest in
      let started = h.started in
      record {
        there = (live_iff c.block p.state.control j fit.some).1
            (record { has_started = omega arith; is_young = omega arith });
        number = number;
        age = age;
      }

  -- what is live is an iteration of the loop, and it is young
  pub has_slot : (j : ℕ) → j < live_in c p → (i : ℕ) × (a : ℕ) × IsSlot c n t (live_in c p) j i a × (a < c.block.len)
      × ((p.state.control.clock - p.state.control.newest) + j * interval c.block ≡ a)
  has_slot j l =
      let live = (live_iff c.block p.state.control j fit.some).0 l in
      let started = live.has_started in
      let young = live.is_young in
      let clock = h.clock in
      let newest = h.newest in
      let since = h.started in
      let first : j ≤ n = le_of_mul-le-mul_right {k = interval c.block} (omega arith) fit.some in
      let number : (n - j) + j ≡ n = omega arith in
      let products = ap (λ (m : ℕ). m * interval c.block) number in
      let apart = add-mul (n - j) j (interval c.block) in
      (n - j, t - (n - j) * interval c.block, record { there = l; number = number; age = omega arith }, omega arith, omega arith)

  -- ---- what an operation reads

  reads : (j i a : ℕ) → IsSlot c n t (live_in c p) j i a → a < c.block.len → (o : Timed) → Among o c.block.ops → o.offset ≡ a
      → Agree c p (solo a (upto c a (from i))) (live_in c p - 1 - j) 0 o
  reads j i a slot young o among at = record {
    registers = h.places.registers;
    as_many = (upto_places c fit (from i) (chain.stands i low) a (omega arith)).registers;
    temps = h.temps j i a slot;
    things = λ u thing used.
        h.things u thing i a low slot.age
        (inr (λ w is writes.
        let near = narrow.within u thing w o is among (writes_used u w writes) used in
        let age = slot.age in
        let next = suc-mul i (interval c.block) in omega arith))
        (inr (λ w is writes.
        let near = narrow.strict u thing o w among is used writes in
        let age = slot.age in omega arith))
        ∙ (ap (λ (m : ℕ). held u (upto c m (from i))) (min-eq_left (omega arith))
        ∙ sym (solo_holds u a (upto c a (from i))));
  }
    where
      low : i ≤ n
      low = let number = slot.number in omega arith

  -- ---- the places of live iterations

  its_length : length (its_of c p) ≡ live_in c p
  its_length = length-enumerate_from 0 (ages c.block p.state.control) ∙ (are_ages c.block p.state.control).count

  slot_pair : (k j a : ℕ) → k < live_in c p → j ≡ live_in c p - 1 - k
      → (p.state.control.clock - p.state.control.newest) + j * interval c.block ≡ a
      → get_or (its_of c p) k (0, 0) ≡ (k, a)
  slot_pair k j a l back age =
      let ages_are = are_ages c.block p.state.control in
      let count = ages_are.count in
      let this : get_or (ages c.block p.state.control) k 0 ≡ a =
      ages_are.each k 0 l
      ∙ (ap (λ (m : ℕ). (p.state.control.clock - p.state.control.newest) + m * interval c.block) (sym back) ∙ age) in
      let first : 0 + k ≡ k = omega arith in
      get_or-enumerate_from 0 (ages c.block p.state.control) k (0, 0) (omega arith) ∙ rw (first, this) refl

  -- a live iteration in which no operation writes the thing leaves it
  slot_leaves : (u : Used) (k : ℕ) → k < live_in c p
      → ((j i a : ℕ) → j ≡ live_in c p - 1 - k → IsSlot c n t (live_in c p) j i a → a < c.block.len
      → (w : Timed) → Among w c.block.ops → w.offset ≡ a → writes u w.op ≡ false)
      → (r : SerialProgress) → held u (iteration_done c p r (get_or (its_of c p) k (0, 0))) ≡ held u r
  slot_leaves u k l none r =
      let j : ℕ = live_in c p - 1 - k in
      by (has_slot j (omega arith))
    where
      by : (i : ℕ) × (a : ℕ) × IsSlot c n t (live_in c p) (live_in c p - 1 - k) i a × (a < c.block.len)
          × ((p.state.control.clock - p.state.control.newest) + (live_in c p - 1 - k) * interval c.block ≡ a)
          → held u (iteration_done c p r (get_or (its_of c p) k (0, 0))) ≡ held u r
      by (i, a, slot, young, age) =
          ap (λ (it : ℕ × ℕ). held u (iteration_done c p r it)) (slot_pair k (live_in c p - 1 - k) a l refl age)
          ∙ thing_left c p u k a (none (live_in c p - 1 - k) i a refl slot young) r

  -- ---- a thing that one iteration alone writes

  advance : (u : Used) → IsThing (length c.channels) c.owner u → (i a : ℕ) → i ≤ n → a + i * interval c.block ≡ t
      → held u p ≡ held u (upto c (min a c.block.len) (from i))
      → ((k : ℕ) (w : Timed) → k ≤ n → Among w c.block.ops → writes u w.op ≡ true → w.offset + k * interval c.block ≡ t → k ≡ i)
      → held u (after_clock c p) ≡ held u (upto c (min (suc a) c.block.len) (from i))
  advance u thing i a low age same only = by_test (nat_lt a c.block.len) refl
    where
      no_write : (k : ℕ) (w : Timed) → k ≤ n → Among w c.block.ops → w.offset + k * interval c.block ≡ t → (k ≡ i → ⊥)
          → (b : Bool) → writes u w.op ≡ b → b ≡ false
      no_write k w l among at other false e = refl
      no_write k w l among at other true e = absurd (other (only k w l among e at))

      none : (k j m b : ℕ) → IsSlot c n t (live_in c p) j m b → (m ≡ i → ⊥) → (w : Timed) → Among w c.block.ops → w.offset ≡ b
          → writes u w.op ≡ false
      none k j m b slot other w among at =
          let number = slot.number in
          let since = slot.age in
          no_write m w (omega arith) among (omega arith) other (writes u w.op) refl

      by_test : (b : Bool) → nat_lt a c.block.len ≡ b → held u (after_clock c p) ≡ held u (upto c (min (suc a) c.block.len) (from i))
      by_test false e =
          let old = ltb-false a c.block.len e in
          let its = its_length in
          fold_none (Placed c (live_in c p)) (iteration_done c p) (held u) (its_of c p) (0, 0)
          (λ r it. iteration_places c p (live_in c p) r it)
          (λ k l r _. slot_leaves u k (omega arith) (λ j m b back slot young.
          none k j m b slot (λ is.
          let since = slot.age in
          let products = ap (λ (x : ℕ). x * interval c.block) is in absurd (omega arith))) r)
          p h.places
          ∙ (same ∙ ap (λ (x : ℕ). held u (upto c x (from i)))
          (min-eq_right old ∙ sym (min-eq_right (omega arith))))
      by_test true e =
          let young = ltb-true a c.block.len e in
          let its = its_length in
          let slot = is_slot i (n - i) a (omega arith) age young in
          let there = slot.there in
          let y = upto c a (from i) in
          let places = upto_places c fit (from i) (chain.stands i low) a (omega arith) in
          let now : held u p ≡ held u (solo a y) =
          same ∙ (ap (λ (x : ℕ). held u (upto c x (from i))) (min-eq_left (omega arith)) ∙ sym (solo_holds u a y)) in
          fold_one (Placed c (live_in c p)) (iteration_done c p) (held u) (its_of c p) (live_in c p - 1 - (n - i)) (0, 0) (held u p)
          (held u (upto c (suc a) (from i))) (omega arith)
          (λ r it. iteration_places c p (live_in c p) r it)
          (λ k l other r _. slot_leaves u k (omega arith) (λ j m b back slot young.
          none k j m b slot (λ is. let number = slot.number in other (omega arith))) r)
          (λ r placed e.
          ap (λ (it : ℕ × ℕ). held u (iteration_done c p r it)) (slot_here slot)
          ∙ (thing_alike c p (solo a y) u (live_in c p) 1 (live_in c p - 1 - (n - i)) 0 a fit.sound (reads (n - i) i a slot young)
          r (solo a y) placed (solo_places c 1 a y places) (e ∙ now)
          ∙ ap (held u) (sym (upto_next c fit (from i) (chain.stands i low) a young))))
          p h.places refl
          ∙ ap (λ (x : ℕ). held u (upto c x (from i))) (sym (min-eq_left (omega arith)))
        where
          slot_here : IsSlot c n t (live_in c p) (n - i) i a
              → get_or (its_of c p) (live_in c p - 1 - (n - i)) (0, 0) ≡ (live_in c p - 1 - (n - i), a)
          slot_here slot =
              let there = slot.there in
              let since = slot.age in
              let number = slot.number in
              let clock = h.clock in
              let newest = h.newest in
              let products = ap (λ (m : ℕ). m * interval c.block) number in
              let apart = add-mul i (n - i) (interval c.block) in
              let started = h.started in
              slot_pair (live_in c p - 1 - (n - i)) (n - i) a (omega arith) (omega arith) (omega arith)

  -- ---- all things a local clock later

  -- the iteration before this one does not write the thing in this local clock
  abbrev NoneBefore : Used → ℕ → ℕ → Type 0
  NoneBefore u i a = (i ≡ 0) ⊎ ((w : Timed) → Among w c.block.ops → writes u w.op ≡ true → w.offset ≢ a + interval c.block)

  same_owner : (u : Used) → IsThing (length c.channels) c.owner u → (i a : ℕ) → i ≤ n → a + i * interval c.block ≡ t
      → NotLater c n u i (suc t) → AllEarlier c u i (suc t) → NoneBefore u i a
      → held u (after_clock c p) ≡ held u (upto c (min (suc a) c.block.len) (from i))
  same_owner u thing i a low age later earlier before =
      advance u thing i a low age (h.things u thing i a low age (still_later later) (still_earlier earlier before))
      (only later earlier before)
    where
      still_later : NotLater c n u i (suc t) → NotLater c n u i t
      still_later (inl newest) = inl newest
      still_later (inr not) = inr (λ w is writes. let bound = not w is writes in omega arith)

      still_earlier : AllEarlier c u i (suc t) → NoneBefore u i a → AllEarlier c u i t
      still_earlier (inl first) before = inl first
      still_earlier (inr all) (inl first) = inl first
      still_earlier (inr all) (inr none) =
          inr (λ w is writes. let bound = all w is writes in let other = none w is writes in omega arith)

      not_above : NotLater c n u i (suc t) → (k : ℕ) (w : Timed) → k ≤ n → Among w c.block.ops → writes u w.op ≡ true
          → w.offset + k * interval c.block ≡ t → (i < k → ⊥)
      not_above (inl newest) k w l is writes at above = absurd (omega arith)
      not_above (inr not) k w l is writes at above =
          let bound = not w is writes in
          let products : suc i * interval c.block ≤ k * interval c.block = mul-le-mul_right (interval c.block) above in absurd (omega arith)

      not_below : AllEarlier c u i (suc t) → NoneBefore u i a → (k : ℕ) (w : Timed) → Among w c.block.ops → writes u w.op ≡ true
          → w.offset + k * interval c.block ≡ t → (k < i → ⊥)
      not_below (inl first) before k w is writes at below = absurd (omega arith)
      not_below (inr all) (inl first) k w is writes at below = absurd (omega arith)
      not_below (inr all) (inr none) k w is writes at below = by_test (nat_lt (suc k) i) refl
        where
          by_test : (b : Bool) → nat_lt (suc k) i ≡ b → ⊥
          by_test true e =
              let two = ltb-true (suc k) i e in
              let bound = all w is writes in
              let products : suc (suc k) * interval c.block ≤ i * interval c.block = mul-le-mul_right (interval c.block) two in
              let first = suc-mul (suc k) (interval c.block) in
              let second = suc-mul k (interval c.block) in
              let some = fit.some in absurd (omega arith)
          by_test false e =
              let last = ltb-false (suc k) i e in
              let number : i ≡ suc k = omega arith in
              let products = ap (λ (x : ℕ). x * interval c.block) number in
              let first = suc-mul k (interval c.block) in
              none w is writes (omega arith)

      only : NotLater c n u i (suc t) → AllEarlier c u i (suc t) → NoneBefore u i a → (k : ℕ) (w : Timed) → k ≤ n → Among w c.block.ops
          → writes u w.op ≡ true → w.offset + k * interval c.block ≡ t → k ≡ i
      only later earlier before k w l is writes at =
          let above = not_above later k w l is writes at in
          let below = not_below earlier before k w is writes at in
          between (nat_lt i k) (nat_lt k i) refl refl above below
        where
          between : (x y : Bool) → nat_lt i k ≡ x → nat_lt k i ≡ y → (i < k → ⊥) → (k < i → ⊥) → k ≡ i
          between true y e f above below = absurd (above (ltb-true i k e))
          between false true e f above below = absurd (below (ltb-true k i f))
          between false false e f above below = let one = ltb-false i k e in let two = ltb-false k i f in omega arith

  -- the iteration before this one writes the thing in this local clock, as its last write
  next_owner : (u : Used) → IsThing (length c.channels) c.owner u → (i a : ℕ) → suc i ≤ n → a + suc i * interval c.block ≡ t
      → AllEarlier c u (suc i) (suc t) → (o : Timed) → Among o c.block.ops → writes u o.op ≡ true → o.offset ≡ a + interval c.block
      → held u (after_clock c p) ≡ held u (upto c (min (suc a) c.block.len) (from (suc i)))
  next_owner u thing i a low age (inl first) o among wrote at = absurd (omega arith)
  next_owner u thing i a low age (inr all) o among wrote at =
      let length = (fit.sound o among).offset in
      let next = suc-mul i (interval c.block) in
      let some = fit.some in
      let b : ℕ = a + interval c.block in
      let b_age : b + i * interval c.block ≡ t = omega arith in
      advance u thing i b (omega arith) b_age
      (h.things u thing i b (omega arith) b_age
      (inr (λ w is writes. let near = narrow.strict u thing w o is among (writes_used u w writes) wrote in omega arith))
      (inr (λ w is writes. let bound = all w is writes in omega arith)))
      (λ k w l is writes here. only k w is writes here)
      ∙ (ap (λ (x : ℕ). held u (upto c x (from i))) (min-eq_left (omega arith))
      ∙ (sym (settled b (omega arith) (omega arith))
      ∙ (sym (chain.linked i (omega arith) u)
      ∙ (sym (upto_start c u (from (suc i)))
      ∙ (sym (begun (omega arith))
      ∙ ap (λ (x : ℕ). held u (upto c x (from (suc i)))) (sym (min-eq_left (omega arith))))))))
    where
      settled : (b : ℕ) → b ≡ a + interval c.block → suc b ≤ c.block.len
          → held u (upto c c.block.len (from i)) ≡ held u (upto c (suc b) (from i))
      settled b e l =
          ap (λ (x : ℕ). held u (upto c x (from i))) (omega arith)
          ∙ still c fit u (from i) (chain.stands i (omega arith)) (c.block.len - suc b) (suc b) (omega arith)
          (λ w is from_here up. no_write w is (λ writes.
          let bound = all w is writes in
          let next = suc-mul i (interval c.block) in omega arith))
        where
          no_write : (w : Timed) → Among w c.block.ops → (writes u w.op ≡ true → ⊥) → writes u w.op ≡ false
          no_write w is not = by (writes u w.op) refl
            where
              by : (x : Bool) → writes u w.op ≡ x → x ≡ false
              by true e = absurd (not e)
              by false e = refl

      begun : suc a ≤ c.block.len → held u (upto c (suc a) (from (suc i))) ≡ held u (upto c 0 (from (suc i)))
      begun l =
          ap (λ (x : ℕ). held u (upto c x (from (suc i)))) (omega arith)
          ∙ still c fit u (from (suc i)) (chain.stands (suc i) low) (suc a) 0 (omega arith)
          (λ w is from_here up. no_write w is (λ writes.
          let near = narrow.strict u thing w o is among (writes_used u w writes) wrote in omega arith))
        where
          no_write : (w : Timed) → Among w c.block.ops → (writes u w.op ≡ true → ⊥) → writes u w.op ≡ false
          no_write w is not = by (writes u w.op) refl
            where
              by : (x : Bool) → writes u w.op ≡ x → x ≡ false
              by true e = absurd (not e)
              by false e = refl

      only : (k : ℕ) (w : Timed) → Among w c.block.ops → writes u w.op ≡ true → w.offset + k * interval c.block ≡ t → k ≡ i
      only k w is writes here = by_tests (nat_lt i k) (nat_lt k i) refl refl
        where
          by_tests : (x y : Bool) → nat_lt i k ≡ x → nat_lt k i ≡ y → k ≡ i
          by_tests true y e f =
              let above : suc i ≤ k = ltb-true i k e in
              let near = narrow.strict u thing w o is among (writes_used u w writes) wrote in
              let products : suc i * interval c.block ≤ k * interval c.block = mul-le-mul_right (interval c.block) above in
              absurd (omega arith)
          by_tests false true e f =
              let below : suc k ≤ i = ltb-true k i f in
              let bound = all w is writes in
              let some = fit.some in
              let products : suc k * interval c.block ≤ i * interval c.block = mul-le-mul_right (interval c.block) below in
              let first = suc-mul k (interval c.block) in
              let next = suc-mul i (interval c.block) in absurd (omega arith)
          by_tests false false e f = let one = ltb-false i k e in let two = ltb-false k i f in omega arith

  things_next : HoldsAlike c from n (suc t) (after_clock c p)
  things_next u thing i b low age later earlier =
      let before : i * interval c.block ≤ n * interval c.block = mul-le-mul_right (interval c.block) low in
      let started = h.started in
      let a : ℕ = t - i * interval c.block in
      let next : b ≡ suc a = omega arith in
      rw next (by_number i a low (omega arith) later earlier)
    where
      by_number : (i a : ℕ) → i ≤ n → a + i * interval c.block ≡ t → NotLater c n u i (suc t) → AllEarlier c u i (suc t)
          → held u (after_clock c p) ≡ held u (upto c (min (suc a) c.block.len) (from i))
      by_number zero a low age later earlier = same_owner u thing zero a low age later earlier (inl refl)
      by_number (suc i) a low age later earlier = by_test (is_written_at (a + interval c.block) u c.block.ops) refl
        where
          by_test : (x : Bool) → is_written_at (a + interval c.block) u c.block.ops ≡ x
              → held u (after_clock c p) ≡ held u (upto c (min (suc a) c.block.len) (from (suc i)))
          by_test false e = same_owner u thing (suc i) a low age later earlier (inr (none_written u (a + interval c.block) c.block.ops e))
          by_test true e =
              let (o, among, wrote, at) = some_written u (a + interval c.block) c.block.ops e in
              next_owner u thing i a low age earlier o among wrote at

  -- ---- temps, and all together

  temps_next : TempsAlike c from n t (live_in c p) suc (after_clock c p)
  temps_next j i a slot =
      let there = slot.there in
      let number = slot.number in
      let since = slot.age in
      by i a slot (has_slot j there)
    where
      here : (i a : ℕ) → IsSlot c n t (live_in c p) j i a → a < c.block.len
          → (p.state.control.clock - p.state.control.newest) + j * interval c.block ≡ a
          → temps_of (after_clock c p).state (live_in c p - 1 - j) ≡ temps_of (upto c (suc a) (from i)).state 0
      here i a slot young age =
          let q : ℕ = live_in c p - 1 - j in
          let its = its_length in
          let there = slot.there in
          let number = slot.number in
          let y = upto c a (from i) in
          let low : i ≤ n = omega arith in
          let places = upto_places c fit (from i) (chain.stands i low) a (omega arith) in
          fold_one (Placed c (live_in c p)) (iteration_done c p) (λ r. temps_of r.state q) (its_of c p) q (0, 0) (temps_of p.state q)
          (temps_of (upto c (suc a) (from i)).state 0) (omega arith)
          (λ r it. iteration_places c p (live_in c p) r it)
          (λ k l other r _. others k (omega arith) q (λ same. other (sym same)) r)
          (λ r placed e.
          ap (λ (it : ℕ × ℕ). temps_of (iteration_done c p r it).state q) (slot_pair q j a (omega arith) (omega arith) age)
          ∙ (same_temps c p (solo a y) (live_in c p) 1 q 0 a fit.sound (omega arith) (omega arith) (reads j i a slot young)
          r (solo a y) placed (solo_places c 1 a y places) (e ∙ h.temps j i a slot)
          ∙ ap (λ (x : SerialProgress). temps_of x.state 0) (sym (upto_next c fit (from i) (chain.stands i low) a young))))
          p h.places refl
        where
          others : (k : ℕ) → k < live_in c p → (q : ℕ) → q ≢ k → (r : SerialProgress)
              → temps_of (iteration_done c p r (get_or (its_of c p) k (0, 0))).state q ≡ temps_of r.state q
          others k l q other r = by_slot (has_slot (live_in c p - 1 - k) (omega arith))
            where
              by_slot : (i : ℕ) × (a : ℕ) × IsSlot c n t (live_in c p) (live_in c p - 1 - k) i a × (a < c.block.len)
                  × ((p.state.control.clock - p.state.control.newest) + (live_in c p - 1 - k) * interval c.block ≡ a)
                  → temps_of (iteration_done c p r (get_or (its_of c p) k (0, 0))).state q ≡ temps_of r.state q
              by_slot (i, a, slot, young, age) =
                  ap (λ (it : ℕ × ℕ). temps_of (iteration_done c p r it).state q) (slot_pair k (live_in c p - 1 - k) a l refl age)
                  ∙ other_temps c p k a q other r

      by : (i a : ℕ) → IsSlot c n t (live_in c p) j i a → (k : ℕ) × (b : ℕ) × IsSlot c n t (live_in c p) j k b × (b < c.block.len)
          × ((p.state.control.clock - p.state.control.newest) + j * interval c.block ≡ b)
          → temps_of (after_clock c p).state (live_in c p - 1 - j) ≡ temps_of (upto c (suc a) (from i)).state 0
      by i a slot (k, b, other, young, age) =
          let number = slot.number in
          let as_well = other.number in
          let since = slot.age in
          let until = other.age in
          let same : k ≡ i = omega arith in
          let products = ap (λ (x : ℕ). x * interval c.block) same in
          let at : b ≡ a = omega arith in
          here i a slot (omega arith) (omega arith)

  pub has_committed : HasCommitted c from n t (live_in c p) (after_clock c p)
  has_committed = record {
    places = fold_keeps (Placed c (live_in c p)) (iteration_done c p) (its_of c p)
        (λ r it among. iteration_places c p (live_in c p) r it) p h.places;
    temps = temps_next;
    things = things_next;
  }

-- a commit of the machine is one of all live iterations
pub clock_is : (c : Setting) (p : SerialProgress) → PopsOnce c.block → block_of c.owner p.state ≡ c.block
    → clock_made c.lists c.channels c.owner p.state p.done ≡ after_clock c p
clock_is c p once here =
    subst (λ (b : Block). clock_made c.lists c.channels c.owner p.state p.done ≡ after_clock (setting_of c.lists c.channels c.owner b) p)
    here (clock_by_iterations c.lists c.channels c.owner p (subst PopsOnce (sym here) once))
