-- The heart: while iterations of a serial loop overlap, each thing holds what it holds in the serial run, in the iteration that uses it.
use Rattle.std.proofs.Common.{◌≡◌, ◌≢◌, ℕ, suc, ◌+◌, ◌-◌, ◌*◌, ◌≤◌, ◌<◌, List, [], ◌∷◌, length, min, Bool, true, false, ◌&&◌, refl, sym}
use Rattle.std.proofs.Common.{◌∙◌, ap, ◌==◌, ◌||◌, true≢false, ◌⊎◌, inl, inr}
use Rattle.std.proofs.lemmas.Bool.{eqb-true, eq-eqb, or_right, or_parts}
use Rattle.serial_order.specs.{Timed, Op, places_written, expressions_of, block_of, interval, live_count, temps_of, Used, is_written_at}
use Rattle.serial_order.specs.{SerialProgress, writes, is_use, is_this, is_named, is_listed}
use Rattle.serial_order.specs.declared.order.Used.TheVariants.{Register, Memory, Reading, Writing}
use Rattle.flow_design.specs.declared.expr.Op.TheVariants.{Set, Load, Store, Read, Write, TryRead, TryWrite, Empty, Full}
use Rattle.serial_order.proofs.{Lists.Among, Outcomes.Setting, Alike.IsThing, Alike.held, Applied.Placed, Offsets.Stands, Offsets.upto}

-- ---- writes are uses

op_writes_used : (u : Used) (t : Timed) (op : Op ℕ) → t.op ≡ op → writes u op ≡ true
    → is_use u (record { offset = t.offset; guard = t.guard; op = op }) ≡ true
op_writes_used (Register x) t op e h =
    or_right (is_this x t.guard) _ (or_right (is_named x (expressions_of op)) (is_listed x (places_written op)) h)
op_writes_used (Memory n) t (Set v a) e h = absurd cc
op_writes_used (Memory n) t (Load v k a) e h = absurd cc
op_writes_used (Memory n) t (Store k a b) e h = h
op_writes_used (Memory n) t (Read f v) e h = absurd cc
op_writes_used (Memory n) t (Write f a) e h = absurd cc
op_writes_used (Memory n) t (TryRead f v ok) e h = absurd cc
op_writes_used (Memory n) t (TryWrite f ok a) e h = absurd cc
op_writes_used (Memory n) t (Empty f v) e h = absurd cc
op_writes_used (Memory n) t (Full f v) e h = absurd cc
op_writes_used (Reading g) t (Set v a) e h = absurd cc
op_writes_used (Reading g) t (Load v k a) e h = absurd cc
op_writes_used (Reading g) t (Store k a b) e h = absurd cc
op_writes_used (Reading g) t (Read f v) e h = h
op_writes_used (Reading g) t (Write f a) e h = h
op_writes_used (Reading g) t (TryRead f v ok) e h = h
op_writes_used (Reading g) t (TryWrite f ok a) e h = h
op_writes_used (Reading g) t (Empty f v) e h = absurd cc
op_writes_used (Reading g) t (Full f v) e h = absurd cc
op_writes_used (Writing g) t (Set v a) e h = absurd cc
op_writes_used (Writing g) t (Load v k a) e h = absurd cc
op_writes_used (Writing g) t (Store k a b) e h = absurd cc
op_writes_used (Writing g) t (Read f v) e h = h
op_writes_used (Writing g) t (Write f a) e h = h
op_writes_used (Writing g) t (TryRead f v ok) e h = h
op_writes_used (Writing g) t (TryWrite f ok a) e h = h
op_writes_used (Writing g) t (Empty f v) e h = absurd cc
op_writes_used (Writing g) t (Full f v) e h = absurd cc

-- what an operation writes it uses
pub writes_used : (u : Used) (t : Timed) → writes u t.op ≡ true → is_use u t ≡ true
writes_used u t h = op_writes_used u t t.op refl h

-- an operation that writes a thing at an offset, or none does
pub some_written : (u : Used) (a : ℕ) (ts : List Timed) → is_written_at a u ts ≡ true
    → (o : Timed) × Among o ts × (writes u o.op ≡ true) × (o.offset ≡ a)
some_written u a [] e = absurd (true≢false (sym e))
some_written u a (t ∷ ts) e = by_tests (t.offset == a) (writes u t.op) refl refl e (λ e. some_written u a ts e)
  where
    later : (o : Timed) × Among o ts × (writes u o.op ≡ true) × (o.offset ≡ a)
        → (o : Timed) × Among o (t ∷ ts) × (writes u o.op ≡ true) × (o.offset ≡ a)
    later (o, among, wrote, at) = (o, inr among, wrote, at)

    by_tests : (x y : Bool) → (t.offset == a) ≡ x → writes u t.op ≡ y → ((x && y) || is_written_at a u ts) ≡ true
        → (is_written_at a u ts ≡ true → (o : Timed) × Among o ts × (writes u o.op ≡ true) × (o.offset ≡ a))
        → (o : Timed) × Among o (t ∷ ts) × (writes u o.op ≡ true) × (o.offset ≡ a)
    by_tests true true at wrote e rest = (t, inl refl, wrote, eqb-true t.offset a at)
    by_tests true false at wrote e rest = later (rest e)
    by_tests false y at wrote e rest = later (rest e)

pub none_written : (u : Used) (a : ℕ) (ts : List Timed) → is_written_at a u ts ≡ false
    → (w : Timed) → Among w ts → writes u w.op ≡ true → w.offset ≢ a
none_written u a [] e w among wrote at = absurd among
none_written u a (t ∷ ts) e w (inl same) wrote at =
    let parts = or_parts ((t.offset == a) && writes u t.op) (is_written_at a u ts) e in
    true≢false (sym (both (w.offset == a) (writes u w.op) (eq-eqb w.offset a at) wrote)
    ∙ (ap (λ (o : Timed). (o.offset == a) && writes u o.op) same ∙ parts.0))
  where
    both : (x y : Bool) → x ≡ true → y ≡ true → (x && y) ≡ true
    both x y e f = rw (e, f) refl
none_written u a (t ∷ ts) e w (inr among) wrote at =
    none_written u a ts (or_parts ((t.offset == a) && writes u t.op) (is_written_at a u ts) e).1 w among wrote at

-- ---- overlapping iterations

-- the uses of a thing reach over II at most, and a write comes less than II after any use
pub record IsNarrow (c : Setting) : Type 0 where
  pub within : (u : Used) → IsThing (length c.channels) c.owner u → (t w : Timed) → Among t c.block.ops → Among w c.block.ops
      → is_use u t ≡ true → is_use u w ≡ true → w.offset ≤ t.offset + interval c.block
  pub strict : (u : Used) → IsThing (length c.channels) c.owner u → (t w : Timed) → Among t c.block.ops → Among w c.block.ops
      → is_use u t ≡ true → writes u w.op ≡ true → w.offset < t.offset + interval c.block

-- the iterations of a serial run up to number n, one after the other
pub record IsChain (c : Setting) (from : ℕ → SerialProgress) (n : ℕ) : Type 0 where
  pub stands : (i : ℕ) → i ≤ n → Stands c (from i)
  pub linked : (i : ℕ) → i < n → (u : Used) → held u (from (suc i)) ≡ held u (upto c c.block.len (from i))

-- no later iteration has written the thing at local clock t
abbrev pub NotLater : Setting → ℕ → Used → ℕ → ℕ → Type 0
NotLater c n u i t =
    (i ≡ n) ⊎ ((w : Timed) → Among w c.block.ops → writes u w.op ≡ true → t ≤ suc i * interval c.block + w.offset)

-- and every earlier iteration has
abbrev pub AllEarlier : Setting → Used → ℕ → ℕ → Type 0
AllEarlier c u i t =
    (i ≡ 0) ⊎ ((w : Timed) → Among w c.block.ops → writes u w.op ≡ true → i * interval c.block + w.offset < t + interval c.block)

-- then the thing is that of the serial run in this iteration, which is of age a
abbrev pub HoldsAlike : Setting → (ℕ → SerialProgress) → ℕ → ℕ → SerialProgress → Type 0
HoldsAlike c from n t p =
    (u : Used) → IsThing (length c.channels) c.owner u → (i a : ℕ) → i ≤ n → a + i * interval c.block ≡ t
    → NotLater c n u i t → AllEarlier c u i t → held u p ≡ held u (upto c (min a c.block.len) (from i))

abbrev pub live_in : Setting → SerialProgress → ℕ
live_in c p = live_count c.block p.state.control

-- a live iteration: the j-th before the newest, number i in the loop, of age a
pub record IsSlot (c : Setting) (n t live j i a : ℕ) : Type 0 where
  pub there : j < live
  pub number : i + j ≡ n
  pub age : a + i * interval c.block ≡ t

-- its temps are those of the serial run
abbrev pub TempsAlike : Setting → (ℕ → SerialProgress) → ℕ → ℕ → ℕ → (ℕ → ℕ) → SerialProgress → Type 0
TempsAlike c from n t live later p =
    (j i a : ℕ) → IsSlot c n t live j i a → temps_of p.state (live - 1 - j) ≡ temps_of (upto c (later a) (from i)).state 0

-- a module in a loop at local clock t, whose newest iteration is number n
pub record IsInLoop (c : Setting) (from : ℕ → SerialProgress) (n t : ℕ) (p : SerialProgress) : Type 0 where
  pub block : block_of c.owner p.state ≡ c.block
  pub clock : p.state.control.clock ≡ t
  pub newest : p.state.control.newest ≡ n * interval c.block
  pub started : n * interval c.block ≤ t
  pub places : Placed c (live_in c p) p
  pub temps : TempsAlike c from n t (live_in c p) (λ a. a) p
  pub things : HoldsAlike c from n t p

-- the same after a commit
pub record HasCommitted (c : Setting) (from : ℕ → SerialProgress) (n t live : ℕ) (p : SerialProgress) : Type 0 where
  pub places : Placed c live p
  pub temps : TempsAlike c from n t live suc p
  pub things : HoldsAlike c from n (suc t) p
