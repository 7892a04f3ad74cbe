-- The next local clock in a loop: in the same iterations, or with one more.
use Rattle.std.proofs.Common.{◌≡◌, ℕ, zero, suc, ◌+◌, ◌-◌, ◌*◌, ◌≤◌, ◌<◌, [], ◌∷◌, ◌++◌, length, get_or, min, Bool, true, false, not, refl}
use Rattle.std.proofs.Common.{sym, ◌∙◌, ap, subst, arith, nat_lt, inl, inr, length-append}
use Rattle.std.proofs.lemmas.Bool.{ltb-true, ltb-false}
use Rattle.std.proofs.{Math.ListN.get_or-append, Math.Seq.get_or-append_seam, Math.Nat.suc-mul, Math.Nat.min-eq_left}
use Rattle.std.specs.Prelude.{slice_index, if◌then◌else◌}
use Rattle.serial_order.specs.{Block, Timed, Control, block_at, block_of, is_loop, interval, temps_of, started, again_of, fresh_temps}
use Rattle.serial_order.specs.{followed, Used, writes, SerialProgress, goes_again, iterated}
use Rattle.serial_order.specs.declared.order.Used.TheVariants.{Register, Memory, Reading, Writing}
use Rattle.serial_order.proofs.{Lists.Among, Outcomes.Setting, Applied.Placed, Going.IsSerial, Going.HasTicked}
use Rattle.serial_order.proofs.Alike.{IsThing, held, only}
use Rattle.serial_order.proofs.Offsets.{IsFit, Stands, upto, upto-zero, upto_block, upto_places, upto_start, still}
use Rattle.serial_order.proofs.Windows.{IsChain, NotLater, AllEarlier, HoldsAlike, live_in, TempsAlike, IsInLoop}

-- ---- an iteration of the serial run

-- after all offsets
abbrev pub whole : Setting → SerialProgress → SerialProgress
whole c x = upto c c.block.len x

whole_block : (c : Setting) (x : SerialProgress) → Stands c x → block_of c.owner (whole c x).state ≡ c.block
whole_block c x h = ap (λ (n : ℕ). block_at c.owner n) (upto_block c c.block.len x) ∙ h.block

-- where it goes on then, by its block
abbrev led_on : Setting → Block → SerialProgress → SerialProgress
led_on c b x = record x { state = if goes_again b x.state then x.state else followed c.owner b.next x.state }

iterated_is : (c : Setting) (x : SerialProgress) → Stands c x → x.state.ended ≡ false
    → iterated c.lists c.channels c.owner x ≡ led_on c c.block (whole c x)
iterated_is c x h alive =
    let y = upto c (block_of c.owner x.state).len x in
    ap (λ (b : Bool). if b then x else led_on c (block_of c.owner y.state) y) alive
    ∙ (ap (λ (b : Block). led_on c (block_of c.owner (upto c b.len x).state) (upto c b.len x)) h.block
    ∙ ap (λ (b : Block). led_on c b (whole c x)) (whole_block c x h))

pub iterated_again : (c : Setting) (x : SerialProgress) → Stands c x → x.state.ended ≡ false → goes_again c.block (whole c x).state ≡ true
    → iterated c.lists c.channels c.owner x ≡ whole c x
iterated_again c x h alive e = iterated_is c x h alive ∙ rw e refl

pub iterated_over : (c : Setting) (x : SerialProgress) → Stands c x → x.state.ended ≡ false → goes_again c.block (whole c x).state ≡ false
    → iterated c.lists c.channels c.owner x ≡ record (whole c x) { state = followed c.owner c.block.next (whole c x).state }
iterated_over c x h alive e = iterated_is c x h alive ∙ rw e refl

pub whole_stands : (c : Setting) → IsFit c → (x : SerialProgress) → Stands c x → Stands c (whole c x)
whole_stands c fit x h =
    let places = upto_places c fit x h c.block.len (omega arith) in record {
      block = whole_block c x h;
      stores = record { registers = places.registers; memories = places.memories; words = places.words };
    }

-- ---- what holds at a decision, and at the end of an iteration

no_write : (u : Used) (w : Timed) → (writes u w.op ≡ true → ⊥) → writes u w.op ≡ false
no_write u w not = by (writes u w.op) refl
  where
    by : (x : Bool) → writes u w.op ≡ x → x ≡ false
    by true e = absurd (not e)
    by false e = refl

module _ (c : Setting) (from : ℕ → SerialProgress) (n t : ℕ) (serial : IsSerial c) (chain : IsChain c from n) where
  -- a thing that is written before II alone, when the newest iteration is of age II
  early_thing : (p : SerialProgress) → HoldsAlike c from n t p → t ≡ n * interval c.block + interval c.block
      → (u : Used) → IsThing (length c.channels) c.owner u
      → ((w : Timed) → Among w c.block.ops → writes u w.op ≡ true → w.offset < interval c.block)
      → held u p ≡ held u (whole c (from n))
  early_thing p things at u thing early =
      let short = serial.short in
      let some = serial.fit.some in
      things u thing n (interval c.block) (omega arith) (omega arith) (inl refl)
      (inr (λ w is writes. let low = early w is writes in omega arith))
      ∙ (ap (λ (x : ℕ). held u (upto c x (from n))) (min-eq_left short)
      ∙ (sym (still c serial.fit u (from n) (chain.stands n (omega arith)) (c.block.len - interval c.block) (interval c.block) (omega arith)
      (λ w is past up. no_write u w (λ writes. let low = early w is writes in absurd (omega arith))))
      ∙ ap (λ (x : ℕ). held u (upto c x (from n))) (omega arith)))

  -- all things, when the newest iteration is of age LEN
  pub last_thing : (p : SerialProgress) → HoldsAlike c from n t p → t ≡ n * interval c.block + c.block.len
      → (u : Used) → IsThing (length c.channels) c.owner u → held u p ≡ held u (whole c (from n))
  last_thing p things at u thing =
      let some = serial.fit.some in
      things u thing n c.block.len (omega arith) (omega arith) (inl refl)
      (inr (λ w is writes. let low = (serial.fit.sound w is).offset in omega arith))
      ∙ ap (λ (x : ℕ). held u (upto c x (from n))) (min-eq_left (omega arith))

  -- the loop's register
  pub decides_alike : (p : SerialProgress) → HoldsAlike c from n t p → t ≡ n * interval c.block + interval c.block
      → is_loop c.block.kind ≡ true
      → slice_index p.state.registers (again_of c.block.kind) ≡ slice_index (whole c (from n)).state.registers (again_of c.block.kind)
  decides_alike p things at loop =
      only (early_thing p things at (Register (again_of c.block.kind)) (serial.again loop) (serial.early loop))

-- ---- on in the same iterations

-- whether a further iteration may start
abbrev pub with_looping : Bool → SerialProgress → SerialProgress
with_looping l p = record p { state = record p.state { control = record p.state.control { looping = l } } }

pub with_looping_holds : (l : Bool) (u : Used) (p : SerialProgress) → held u (with_looping l p) ≡ held u p
with_looping_holds l (Register x) p = refl
with_looping_holds l (Memory m) p = refl
with_looping_holds l (Reading f) p = refl
with_looping_holds l (Writing f) p = refl

pub same_loop : (c : Setting) (from : ℕ → SerialProgress) (n t : ℕ) (p q : SerialProgress) → IsInLoop c from n t p
    → HasTicked c from n t p.state.control q → (l : Bool) → Placed c (live_in c q) (with_looping l q)
    → IsInLoop c from n (suc t) (with_looping l q)
same_loop c from n t p q h ticked l places =
    let at = h.clock in
    let started = h.started in record {
      block = ap (λ (k : Control). block_at c.owner k.block) ticked.control ∙ h.block;
      clock = ap (λ (k : Control). k.clock) ticked.control ∙ (omega arith);
      newest = ap (λ (k : Control). k.newest) ticked.control ∙ h.newest;
      started = omega arith;
      places = places;
      temps = ticked.temps;
      things = λ u thing i a low age later earlier. with_looping_holds l u q ∙ ticked.things u thing i a low age later earlier;
    }

-- ---- one iteration more

abbrev pub with_start : Setting → SerialProgress → SerialProgress
with_start c p = record p { state = started c.block p.state }

with_start_holds : (c : Setting) (u : Used) (p : SerialProgress) → held u (with_start c p) ≡ held u p
with_start_holds c (Register x) p = refl
with_start_holds c (Memory m) p = refl
with_start_holds c (Reading f) p = refl
with_start_holds c (Writing f) p = refl

pub longer_chain : (c : Setting) (from : ℕ → SerialProgress) (n : ℕ) → IsFit c → IsChain c from n → from (suc n) ≡ whole c (from n)
    → IsChain c from (suc n)
longer_chain c from n fit chain next = record {
  stands = λ i l. stands i l (nat_lt n i) refl;
  linked = λ i l. linked i l (nat_lt i n) refl;
}
  where
    stands : (i : ℕ) → i ≤ suc n → (b : Bool) → nat_lt n i ≡ b → Stands c (from i)
    stands i l false e = chain.stands i (ltb-false n i e)
    stands i l true e =
        let last : suc n ≡ i = (let past = ltb-true n i e in omega arith) in
        subst (λ (k : ℕ). Stands c (from k)) last
        (subst (Stands c) (sym next) (whole_stands c fit (from n) (chain.stands n (omega arith))))

    linked : (i : ℕ) → i < suc n → (b : Bool) → nat_lt i n ≡ b → (u : Used) → held u (from (suc i)) ≡ held u (whole c (from i))
    linked i l true e u = chain.linked i (ltb-true i n e) u
    linked i l false e u =
        let last : n ≡ i = (let past = ltb-false i n e in omega arith) in
        subst (λ (k : ℕ). held u (from (suc k)) ≡ held u (whole c (from k))) last (ap (held u) next)

pub started_loop : (c : Setting) (from : ℕ → SerialProgress) (n t : ℕ) (p q : SerialProgress) → IsSerial c → IsChain c from n
    → IsInLoop c from n t p → HasTicked c from n t p.state.control q → suc t ≡ n * interval c.block + interval c.block
    → from (suc n) ≡ whole c (from n) → Placed c (live_in c (with_start c q)) (with_start c q)
    → IsInLoop c from (suc n) (suc t) (with_start c q)
started_loop c from n t p q serial chain h ticked due next places =
    let at = h.clock in
    let product = suc-mul n (interval c.block) in
    let clock : q.state.control.clock ≡ suc t = ap (λ (k : Control). k.clock) ticked.control ∙ (omega arith) in record {
      block = ap (λ (k : Control). block_at c.owner k.block) ticked.control ∙ h.block;
      clock = clock;
      newest = clock ∙ (omega arith);
      started = omega arith;
      places = places;
      temps = temps;
      things = λ u thing i a low age later earlier.
          with_start_holds c u q ∙ things u thing i a low age later earlier (nat_lt n i) refl;
    }
  where
    longer : IsChain c from (suc n)
    longer = longer_chain c from n serial.fit chain next

    things : (u : Used) → IsThing (length c.channels) c.owner u → (i a : ℕ) → i ≤ suc n → a + i * interval c.block ≡ suc t
        → NotLater c (suc n) u i (suc t) → AllEarlier c u i (suc t) → (b : Bool) → nat_lt n i ≡ b
        → held u q ≡ held u (upto c (min a c.block.len) (from i))
    things u thing i a low age later earlier false e =
        let older = ltb-false n i e in ticked.things u thing i a older age (by later) earlier
      where
        by : NotLater c (suc n) u i (suc t) → NotLater c n u i (suc t)
        by (inl newest) = let older = ltb-false n i e in absurd (omega arith)
        by (inr not) = inr not
    things u thing i a low age later earlier true e =
        let past = ltb-true n i e in
        let newest : suc n ≡ i = omega arith in
        let product = suc-mul n (interval c.block) in
        let products = ap (λ (x : ℕ). x * interval c.block) newest in
        let fresh : a ≡ 0 = omega arith in
        early_thing c from n (suc t) serial chain q ticked.things due u thing (early earlier)
        ∙ (sym (longer.linked n (omega arith) u)
        ∙ (sym (upto_start c u (from (suc n)))
        ∙ (ap (λ (x : ℕ). held u (upto c x (from (suc n)))) (sym (ap (λ (x : ℕ). min x c.block.len) fresh ∙ min-eq_left (omega arith)))
        ∙ ap (λ (x : ℕ). held u (upto c (min a c.block.len) (from x))) newest)))
      where
        early : AllEarlier c u i (suc t) → (w : Timed) → Among w c.block.ops → writes u w.op ≡ true → w.offset < interval c.block
        early (inl first) w is writes = let past = ltb-true n i e in absurd (omega arith)
        early (inr all) w is writes =
            let past = ltb-true n i e in
            let bound = all w is writes in
            let newest : suc n ≡ i = omega arith in
            let product = suc-mul n (interval c.block) in
            let products = ap (λ (x : ℕ). x * interval c.block) newest in omega arith

    one_more : live_in c (with_start c q) ≡ suc (live_in c q)
    one_more =
        let all = places.temps in
        let before = ticked.length_is in
        let added = length-append q.state.temps (fresh_temps c.block ∷ []) in omega arith

    temps : TempsAlike c from (suc n) (suc t) (live_in c (with_start c q)) (λ a. a) (with_start c q)
    temps zero i a slot =
        let more = one_more in
        let before = ticked.length_is in
        let number = slot.number in
        let age = slot.age in
        let product = suc-mul n (interval c.block) in
        let newest : suc n ≡ i = omega arith in
        let products = ap (λ (x : ℕ). x * interval c.block) newest in
        let fresh : 0 ≡ a = omega arith in
        ap (λ (x : ℕ). get_or (q.state.temps ++ fresh_temps c.block ∷ []) x []) (omega arith)
        ∙ (get_or-append_seam q.state.temps (fresh_temps c.block) [] []
        ∙ (ap fresh_temps (sym ((longer.stands (suc n) (omega arith)).block))
        ∙ (ap (λ (x : SerialProgress). temps_of x.state 0) (sym (upto-zero c (from (suc n))))
        ∙ (ap (λ (x : ℕ). temps_of (upto c x (from (suc n))).state 0) fresh
        ∙ ap (λ (x : ℕ). temps_of (upto c a (from x)).state 0) newest))))
    temps (suc j) i a slot =
        let more = one_more in
        let before = ticked.length_is in
        let there = slot.there in
        let number = slot.number in
        let age = slot.age in
        get_or-append q.state.temps (fresh_temps c.block ∷ []) [] (live_in c (with_start c q) - 1 - suc j) (omega arith)
        ∙ (ap (λ (x : ℕ). temps_of q.state x) (omega arith)
        ∙ ticked.temps j i a (record { there = omega arith; number = omega arith; age = age }))
