-- One live iteration in one local clock.
use Rattle.std.proofs.Common.{◌≡◌, ◌≢◌, ℕ, ◌<◌, length, Option, Bool, true, false, cond, refl, ◌∙◌, arith, ◌==◌}
use Rattle.std.proofs.lemmas.Bool.{eqb-true}
use Rattle.serial_order.specs.{Timed, temps_of, passes, IsTimedSound, Used, writes, SerialProgress, Exchange}
use Rattle.serial_order.proofs.Lists.{Among, fold_both, fold_keeps}
use Rattle.serial_order.proofs.Outcomes.{Outcome, Setting, outcome, exchange, applied, done_by_op, at_age, iteration_done}
use Rattle.serial_order.proofs.Alike.{held, Agree, same_passes, same_outcome, same_exchange}
use Rattle.serial_order.proofs.Applied.{Placed, applied_places, applied_alike, op_leaves, temps_alike, temps_left}

-- the block's operations keep the static rules
abbrev pub IsBodySound : Setting → Type 0
IsBodySound c = (t : Timed) → Among t c.block.ops → IsTimedSound (length c.channels) c.owner c.block t

-- ---- places

at_age_places : (c : Setting) (x : SerialProgress) (n i age : ℕ) (r : SerialProgress) (t : Timed) → Placed c n r
    → Placed c n (at_age c x i age r t)
at_age_places c x n i age r t h = by_tests (t.offset == age) (passes x.state.registers (temps_of x.state i) t.guard)
  where
    by_tests : (p q : Bool) → Placed c n (cond p (cond q (done_by_op c x i t.op r) r) r)
    by_tests false q = h
    by_tests true false = h
    by_tests true true = applied_places c n i (outcome c x i t.op) (exchange c x i t.op) r h

pub iteration_places : (c : Setting) (x : SerialProgress) (n : ℕ) (r : SerialProgress) (it : ℕ × ℕ) → Placed c n r
    → Placed c n (iteration_done c x r it)
iteration_places c x n r it h =
    fold_keeps (Placed c n) (at_age c x it.0 it.1) c.block.ops (λ r t among h. at_age_places c x n it.0 it.1 r t h) r h

-- ---- what is left as it was

-- what no operation of this offset changes
iteration_leaves : {V : Type 0} (c : Setting) (x : SerialProgress) (f : SerialProgress → V) (i age : ℕ)
    → ((t : Timed) → Among t c.block.ops → t.offset ≡ age → (r : SerialProgress) → f (done_by_op c x i t.op r) ≡ f r)
    → (r : SerialProgress) → f (iteration_done c x r (i, age)) ≡ f r
iteration_leaves c x f i age leaves r =
    fold_keeps (λ q. f q ≡ f r) (at_age c x i age) c.block.ops (λ q t among h. one q t among ∙ h) r refl
  where
    by_tests : (q : SerialProgress) (t : Timed) → Among t c.block.ops → (p s : Bool) → (t.offset == age) ≡ p
        → f (cond p (cond s (done_by_op c x i t.op q) q) q) ≡ f q
    by_tests q t among false s e = refl
    by_tests q t among true false e = refl
    by_tests q t among true true e = leaves t among (eqb-true t.offset age e) q

    one : (q : SerialProgress) (t : Timed) → Among t c.block.ops → f (at_age c x i age q t) ≡ f q
    one q t among = by_tests q t among (t.offset == age) (passes x.state.registers (temps_of x.state i) t.guard) refl

pub thing_left : (c : Setting) (x : SerialProgress) (u : Used) (i age : ℕ)
    → ((t : Timed) → Among t c.block.ops → t.offset ≡ age → writes u t.op ≡ false)
    → (r : SerialProgress) → held u (iteration_done c x r (i, age)) ≡ held u r
thing_left c x u i age none r =
    iteration_leaves c x (held u) i age (λ t among e r. op_leaves c x u i t.op r (none t among e)) r

pub other_temps : (c : Setting) (x : SerialProgress) (i age k : ℕ) → k ≢ i → (r : SerialProgress)
    → temps_of (iteration_done c x r (i, age)).state k ≡ temps_of r.state k
other_temps c x i age k other r =
    iteration_leaves c x (λ r. temps_of r.state k) i age (λ t among e r. temps_left c i k (outcome c x i t.op) r.state other) r

-- ---- what two runs make alike

-- two runs with their places that show the same
record Beside {V : Type 0} (c : Setting) (n k : ℕ) (f g : SerialProgress → V) (r s : SerialProgress) : Type 0 where
  first : Placed c n r
  second : Placed c k s
  same : f r ≡ g s

-- outcomes and exchanges keep that
abbrev KeepSame : {V : Type 0} → Setting → ℕ → ℕ → ℕ → ℕ → (SerialProgress → V) → (SerialProgress → V) → Type 0
KeepSame c n k i j f g = (o : Outcome) (x : Option Exchange) (r s : SerialProgress) → Placed c n r → Placed c k s → f r ≡ g s
    → f (applied c i o x r) ≡ g (applied c j o x s)

iteration_alike : {V : Type 0} (c : Setting) (x y : SerialProgress) (f g : SerialProgress → V) (n k i j age : ℕ) → IsBodySound c
    → KeepSame c n k i j f g
    → ((t : Timed) → Among t c.block.ops → t.offset ≡ age → Agree c x y i j t)
    → (r s : SerialProgress) → Beside c n k f g r s → Beside c n k f g (iteration_done c x r (i, age)) (iteration_done c y s (j, age))
iteration_alike c x y f g n k i j age sound keep agree r s h =
    fold_both (Beside c n k f g) (at_age c x i age) (at_age c y j age) c.block.ops one r s h
  where
    done : (r s : SerialProgress) (t : Timed) → Among t c.block.ops → Agree c x y i j t → Beside c n k f g r s
        → f (done_by_op c x i t.op r) ≡ g (done_by_op c y j t.op s)
    done r s t among a h =
        let op = (sound t among).operation in
        rw (
          same_outcome c x y i j t.offset t.guard t.op op a,
          same_exchange c x y i j t.offset t.guard t.op op a,
        ) (keep (outcome c y j t.op) (exchange c y j t.op) r s h.first h.second h.same)

    by_tests : (r s : SerialProgress) (t : Timed) → Among t c.block.ops → Beside c n k f g r s → (p : Bool) → (t.offset == age) ≡ p
        → f (cond p (cond (passes x.state.registers (temps_of x.state i) t.guard) (done_by_op c x i t.op r) r) r)
        ≡ g (cond p (cond (passes y.state.registers (temps_of y.state j) t.guard) (done_by_op c y j t.op s) s) s)
    by_tests r s t among h false e = h.same
    by_tests r s t among h true e =
        let a = agree t among (eqb-true t.offset age e) in
        rw (same_passes c x y i j t.offset t.guard t.op a)
        (by_guard (passes y.state.registers (temps_of y.state j) t.guard) (done r s t among a h))
      where
        by_guard : (q : Bool) → f (done_by_op c x i t.op r) ≡ g (done_by_op c y j t.op s)
            → f (cond q (done_by_op c x i t.op r) r) ≡ g (cond q (done_by_op c y j t.op s) s)
        by_guard false d = h.same
        by_guard true d = d

    one : (r s : SerialProgress) (t : Timed) → Among t c.block.ops → Beside c n k f g r s
        → Beside c n k f g (at_age c x i age r t) (at_age c y j age s t)
    one r s t among h = record {
      first = at_age_places c x n i age r t h.first;
      second = at_age_places c y k j age s t h.second;
      same = by_tests r s t among h (t.offset == age) refl;
    }

pub thing_alike : (c : Setting) (x y : SerialProgress) (u : Used) (n k i j age : ℕ) → IsBodySound c
    → ((t : Timed) → Among t c.block.ops → t.offset ≡ age → Agree c x y i j t)
    → (r s : SerialProgress) → Placed c n r → Placed c k s → held u r ≡ held u s
    → held u (iteration_done c x r (i, age)) ≡ held u (iteration_done c y s (j, age))
thing_alike c x y u n k i j age sound agree r s p q e =
    (iteration_alike c x y (held u) (held u) n k i j age sound (applied_alike c u n k i j) agree r s
    (record { first = p; second = q; same = e })).same

pub same_temps : (c : Setting) (x y : SerialProgress) (n k i j age : ℕ) → IsBodySound c → i < n → j < k
    → ((t : Timed) → Among t c.block.ops → t.offset ≡ age → Agree c x y i j t)
    → (r s : SerialProgress) → Placed c n r → Placed c k s → temps_of r.state i ≡ temps_of s.state j
    → temps_of (iteration_done c x r (i, age)).state i ≡ temps_of (iteration_done c y s (j, age)).state j
same_temps c x y n k i j age sound l m agree r s p q e =
    (iteration_alike c x y (λ r. temps_of r.state i) (λ s. temps_of s.state j) n k i j age sound
    (λ o x r s p q e. temps_alike c i j o r.state s.state (omega (arith, p.temps)) (omega (arith, q.temps)) e) agree r s
    (record { first = p; second = q; same = e })).same
