-- How the steps of a module are counted.
use Rattle.std.proofs.Common.{◌≡◌, ℕ, zero, suc, ◌<◌, ◌≤◌, true, false, arith}
use Rattle.std.proofs.lemmas.Bool.{cond-true, cond-false}
use Rattle.event_timing.specs.{Design, Trace, steps, done, rest, since}

-- what does not fall in one step never falls
pub never_falls : (f : ℕ → ℕ) → ((n : ℕ) → f n ≤ f (suc n)) → (a b : ℕ) → a ≤ b → f a ≤ f b
never_falls f up a zero l = grind arith
never_falls f up a (suc b) l = grind (arith, up b, λ (q : a ≤ b). never_falls f up a b q)

pub done_more : {S : Type 0} → (d : Design S) (h : Trace S) (m c : ℕ) → steps d h c m ≡ true → done d h m (suc c) ≡ suc (done d h m c)
unfolding done
done_more {S} d h m c e = cond-true _ _ _ e

pub done_same : {S : Type 0} → (d : Design S) (h : Trace S) (m c : ℕ) → steps d h c m ≡ false → done d h m (suc c) ≡ done d h m c
unfolding done
done_same {S} d h m c e = cond-false _ _ _ e

pub rest_more : {S : Type 0} → (d : Design S) (h : Trace S) (m c : ℕ) → steps d h c m ≡ true → rest d h m (suc c) ≡ h.state (suc c) m
unfolding rest
rest_more {S} d h m c e = cond-true _ _ _ e

pub rest_same : {S : Type 0} → (d : Design S) (h : Trace S) (m c : ℕ) → steps d h c m ≡ false → rest d h m (suc c) ≡ rest d h m c
unfolding rest
rest_same {S} d h m c e = cond-false _ _ _ e

pub since_more : {S : Type 0} → (d : Design S) (h : Trace S) (m c : ℕ) → steps d h c m ≡ true → since d h m (suc c) ≡ suc c
unfolding since
since_more {S} d h m c e = cond-true _ _ _ e

pub since_same : {S : Type 0} → (d : Design S) (h : Trace S) (m c : ℕ) → steps d h c m ≡ false → since d h m (suc c) ≡ since d h m c
unfolding since
since_same {S} d h m c e = cond-false _ _ _ e

pub done_up : {S : Type 0} → (d : Design S) (h : Trace S) (m c : ℕ) → done d h m c ≤ done d h m (suc c)
unfolding done
done_up {S} d h m c = grind arith

-- more time, more steps
pub done_mono : {S : Type 0} → (d : Design S) (h : Trace S) (m a b : ℕ) → a ≤ b → done d h m a ≤ done d h m b
done_mono {S} d h m a b l = never_falls (done d h m) (done_up d h m) a b l

-- a step counts for each later clock
pub done_past : {S : Type 0} → (d : Design S) (h : Trace S) (m a b : ℕ) → steps d h a m ≡ true → a < b → done d h m a < done d h m b
done_past {S} d h m a b e l = omega (arith, done_more d h m a e, done_mono d h m (suc a) b l)

-- where fewer steps were done, it was earlier
pub done_less : {S : Type 0} → (d : Design S) (h : Trace S) (m a b : ℕ) → done d h m a < done d h m b → a < b
done_less {S} d h m a b l = grind (arith, done_mono d h m b a)

-- the step of a number is in one clock
pub same_clock : {S : Type 0} → (d : Design S) (h : Trace S) (m a b : ℕ) → steps d h a m ≡ true → steps d h b m ≡ true
    → done d h m a ≡ done d h m b → a ≡ b
same_clock {S} d h m a b s t e = grind (arith, done_past d h m a b s, done_past d h m b a t)
