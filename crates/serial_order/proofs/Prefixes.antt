-- What overlapping iterations have done at a channel is a prefix of what the serial run does there.
use Rattle.std.proofs.Common.{◌≡◌, ℕ, zero, suc, ◌+◌, ◌-◌, ◌*◌, ◌≤◌, ◌<◌, List, [], ◌∷◌, ◌++◌, length, min, Bool, true, false, refl, sym}
use Rattle.std.proofs.Common.{◌∙◌, ap, subst, arith, ◌⊎◌, inl, inr, append_assoc, append-nil, true≢false}
use Rattle.std.proofs.{lemmas.Bool.cases_lt, lemmas.Bool.cases_Bool, Math.Nat.mul-le-mul_right, Math.Nat.min-le_right}
use Rattle.std.specs.Prelude.{if◌then◌else◌}
use Rattle.serial_order.specs.{Side, Block, Channel, Timed, block_at, block_of, interval, IsModuleSound, requests, moved_by, paired, Used}
use Rattle.serial_order.specs.{writes, SerialProgress, IsPrefixOf, all_given, alone_at, moved_on, iteration, iterated, serial}
use Rattle.serial_order.specs.declared.order.Used.TheVariants.{Reading, Writing}
use Rattle.flow_word.specs.declared.access.Side.TheVariants.{Pop, Push}
use Rattle.flow_design.specs.declared.design.Module.{Module}
use Rattle.lockstep_defs.proofs.Queue.{moved_by-append}
use Rattle.serial_order.proofs.{Lists.Among, Alike.IsThing, Alike.held, Offsets.upto, Going.IsSerial, Runs.GoesBeside, Runs.from-suc}
use Rattle.serial_order.proofs.Outcomes.{Setting, setting_of}
use Rattle.serial_order.proofs.Windows.{IsNarrow, NotLater, AllEarlier, writes_used}

-- ---- fronts

prefix_same : (xs : List ℕ) → IsPrefixOf xs xs
prefix_same xs = ([], sym (append-nil xs))

prefix_on : (xs ys zs : List ℕ) → IsPrefixOf xs ys → IsPrefixOf ys zs → IsPrefixOf xs zs
prefix_on xs ys zs (m, e) (n, f) = (m ++ n, f ∙ (ap (λ (l : List ℕ). l ++ n) e ∙ append_assoc xs m n))

-- ---- the serial run goes on

module _ (side : Side) (f : ℕ) (lists : List (List ℕ)) (channels : List Channel) (m : Module) where
  abbrev at_end : SerialProgress → List ℕ
  at_end x = moved_by side f x.done

  one_offset : (a : ℕ) (x : SerialProgress)
      → IsPrefixOf (at_end (iteration lists channels m a x)) (at_end (iteration lists channels m (suc a) x))
  unfolding iteration
  one_offset a x =
      let y = iteration lists channels m a x in
      let asked = requests channels m (alone_at a y.state) in
      let more = paired asked (all_given lists y.done asked) in
      (moved_by side f more, moved_by-append side f y.done more)

  no_offset : (x : SerialProgress) → at_end (iteration lists channels m 0 x) ≡ at_end x
  unfolding iteration
  no_offset x = refl

  offsets : (n a : ℕ) (x : SerialProgress)
      → IsPrefixOf (at_end (iteration lists channels m a x)) (at_end (iteration lists channels m (n + a) x))
  offsets zero a x =
      subst (λ (b : ℕ). IsPrefixOf (at_end (iteration lists channels m a x)) (at_end (iteration lists channels m b x))) (omega arith)
      (prefix_same (at_end (iteration lists channels m a x)))
  offsets (suc n) a x =
      subst (λ (b : ℕ). IsPrefixOf (at_end (iteration lists channels m a x)) (at_end (iteration lists channels m b x))) (omega arith)
      (prefix_on _ _ _ (offsets n a x) (one_offset (n + a) x))

  pub further_offsets : (a b : ℕ) (x : SerialProgress) → a ≤ b
      → IsPrefixOf (at_end (iteration lists channels m a x)) (at_end (iteration lists channels m b x))
  further_offsets a b x l =
      subst (λ (c : ℕ). IsPrefixOf (at_end (iteration lists channels m a x)) (at_end (iteration lists channels m c x))) (omega arith)
      (offsets (b - a) a x)

  one_iteration : (x : SerialProgress) → IsPrefixOf (at_end x) (at_end (iterated lists channels m x))
  one_iteration x = by x.state.ended
    where
      by : (b : Bool) → IsPrefixOf (at_end x) (at_end (if b then x
          else (let y = iteration lists channels m (block_of m x.state).len x in record y { state = moved_on m y.state })))
      by true = prefix_same (at_end x)
      by false =
          subst (λ (xs : List ℕ). IsPrefixOf xs (at_end (iteration lists channels m (block_of m x.state).len x))) (no_offset x)
          (further_offsets 0 (block_of m x.state).len x (omega arith))

  serial-suc : (k : ℕ) → serial lists channels m (suc k) ≡ iterated lists channels m (serial lists channels m k)
  unfolding serial
  serial-suc k = refl

  iterations : (n k : ℕ) → IsPrefixOf (at_end (serial lists channels m k)) (at_end (serial lists channels m (n + k)))
  iterations zero k =
      subst (λ (l : ℕ). IsPrefixOf (at_end (serial lists channels m k)) (at_end (serial lists channels m l))) (omega arith)
      (prefix_same (at_end (serial lists channels m k)))
  iterations (suc n) k =
      subst (λ (l : ℕ). IsPrefixOf (at_end (serial lists channels m k)) (at_end (serial lists channels m l))) (omega arith)
      (prefix_on _ _ _ (iterations n k)
      (subst (λ (y : SerialProgress). IsPrefixOf (at_end (serial lists channels m (n + k))) (at_end y)) (sym (serial-suc (n + k)))
      (one_iteration (serial lists channels m (n + k)))))

  pub further_iterations : (k l : ℕ) → k ≤ l → IsPrefixOf (at_end (serial lists channels m k)) (at_end (serial lists channels m l))
  further_iterations k l less =
      subst (λ (c : ℕ). IsPrefixOf (at_end (serial lists channels m k)) (at_end (serial lists channels m c))) (omega arith)
      (iterations (l - k) k)

-- ---- the iteration that uses a thing in a local clock

-- some operation writes the thing before an offset, or none does
abbrev WritesBefore : Used → ℕ → ℕ → List Timed → Type 0
WritesBefore u base t ts = (w : Timed) × Among w ts × (writes u w.op ≡ true) × (base + w.offset < t)

abbrev WritesNone : Used → ℕ → ℕ → List Timed → Type 0
WritesNone u base t ts = (w : Timed) → Among w ts → writes u w.op ≡ true → t ≤ base + w.offset

writes_or_not : (u : Used) (base t : ℕ) (ts : List Timed) → WritesBefore u base t ts ⊎ WritesNone u base t ts
writes_or_not u base t [] = inr (λ w among. absurd among)
writes_or_not u base t (o ∷ ts) = by (writes_or_not u base t ts) (cases_Bool (writes u o.op)) (cases_lt (base + o.offset) t)
  where
    by : WritesBefore u base t ts ⊎ WritesNone u base t ts → (writes u o.op ≡ true) ⊎ (writes u o.op ≡ false)
        → (base + o.offset < t) ⊎ (t ≤ base + o.offset) → WritesBefore u base t (o ∷ ts) ⊎ WritesNone u base t (o ∷ ts)
    by (inl (w, among, is, at)) test place = inl (w, inr among, is, at)
    by (inr none) (inl is) (inl before) = inl (o, inl refl, is, before)
    by (inr none) (inl is) (inr after) = inr (λ w among wrote. here_or_later w among wrote)
      where
        here_or_later : (w : Timed) → Among w (o ∷ ts) → writes u w.op ≡ true → t ≤ base + w.offset
        here_or_later w (inl same) wrote = subst (λ (v : Timed). t ≤ base + v.offset) (sym same) after
        here_or_later w (inr among) wrote = none w among wrote
    by (inr none) (inr not) place = inr (λ w among wrote. later w among wrote)
      where
        later : (w : Timed) → Among w (o ∷ ts) → writes u w.op ≡ true → t ≤ base + w.offset
        later w (inl same) wrote = absurd (true≢false (sym wrote ∙ (ap (λ (v : Timed). writes u v.op) same ∙ not)))
        later w (inr among) wrote = none w among wrote

-- of the iterations up to number n one has the thing: no later one has written it before t, and all earlier ones have
pub record HasIt (c : Setting) (n : ℕ) (u : Used) (t i : ℕ) : Type 0 where
  pub within : i ≤ n
  pub later : NotLater c n u i t
  pub earlier : AllEarlier c u i t

pub has_it : (c : Setting) → IsNarrow c → (u : Used) → IsThing (length c.channels) c.owner u → (t n : ℕ) → (i : ℕ) × HasIt c n u t i
has_it c narrow u thing t zero = (0, record { within = omega arith; later = inl refl; earlier = inl refl })
has_it c narrow u thing t (suc n) = by (writes_or_not u (suc n * interval c.block) t c.block.ops) (has_it c narrow u thing t n)
  where
    by : WritesBefore u (suc n * interval c.block) t c.block.ops ⊎ WritesNone u (suc n * interval c.block) t c.block.ops
        → (i : ℕ) × HasIt c n u t i → (i : ℕ) × HasIt c (suc n) u t i
    by (inl (w, among, is, before)) before_it = (
      suc n,
      record {
        within = omega arith;
        later = inl refl;
        earlier = inr (λ v other wrote.
            let near = narrow.within u thing w v among other (writes_used u w is) (writes_used u v wrote) in omega arith);
      },
    )
    by (inr none) (i, h) = (i, record { within = (let l = h.within in omega arith); later = still h.later; earlier = h.earlier })
      where
        still : NotLater c n u i t → NotLater c (suc n) u i t
        still (inl newest) = inr (λ w among is.
            subst (λ (k : ℕ). t ≤ suc k * interval c.block + w.offset) (sym newest) (none w among is))
        still (inr not) = inr not

-- ---- a module that goes on in a block

abbrev thing_of : Side → ℕ → Used
thing_of Pop f = Reading f
thing_of Push f = Writing f

module _ (lists : List (List ℕ)) (channels : List Channel) (m : Module) (sound : IsModuleSound (length channels) m)
    (rules : (b : ℕ) → b < length m.blocks → IsSerial (setting_of lists channels m (block_at m b)))
    (b : Block) (first n t : ℕ) (p : SerialProgress) (h : GoesBeside lists channels m sound rules b first n t p) where
  abbrev c : Setting
  c = setting_of lists channels m b

  abbrev from : ℕ → SerialProgress
  from i = serial lists channels m (first + i)

  -- what the whole iteration has done, the serial run has done with it
  whole_done : (u : Used) → (held u (iterated lists channels m (from n)) ≡ held u (upto c b.len (from n)))
      → (i : ℕ) → i ≤ n → held u (from (suc i)) ≡ held u (upto c b.len (from i))
  whole_done u last i l = by (cases_lt i n)
    where
      by : (i < n) ⊎ (n ≤ i) → held u (from (suc i)) ≡ held u (upto c b.len (from i))
      by (inl less) = h.chain.linked i less u
      by (inr more) =
          let same : i ≡ n = omega arith in
          ap (λ (j : ℕ). held u (from (suc j))) same
          ∙ (ap (held u) (from-suc lists channels m sound rules first n)
          ∙ (last ∙ ap (λ (j : ℕ). held u (upto c b.len (from j))) (sym same)))

  module _ (side : Side) (f : ℕ) (inside : f < length channels) where
    abbrev ended_here : SerialProgress → List ℕ
    ended_here x = moved_by side f x.done

    is_held : (x : SerialProgress) → held (thing_of side f) x ≡ ended_here x
    is_held x = by side
      where
        by : (s : Side) → held (thing_of s f) x ≡ moved_by s f x.done
        by Pop = refl
        by Push = refl

    is_thing : IsThing (length channels) m (thing_of side f)
    is_thing = by side
      where
        by : (s : Side) → IsThing (length channels) m (thing_of s f)
        by Pop = inside
        by Push = inside

    last_done : held (thing_of side f) (iterated lists channels m (from n)) ≡ held (thing_of side f) (upto c b.len (from n))
    last_done =
        let y : SerialProgress = iteration lists channels m (block_of m (from n).state).len (from n) in
        is_held (iterated lists channels m (from n))
        ∙ (ap (λ (e : Bool). ended_here (if e then from n else record y { state = moved_on m y.state })) h.runs
        ∙ (ap (λ (q : Block). ended_here (iteration lists channels m q.len (from n))) (h.chain.stands n (omega arith)).block
        ∙ sym (is_held (upto c b.len (from n)))))

    pub end_front : IsPrefixOf (ended_here p) (ended_here (serial lists channels m (first + suc n)))
    end_front = by (has_it c h.keeps.narrow (thing_of side f) is_thing t n)
      where
        by : (i : ℕ) × HasIt c n (thing_of side f) t i → IsPrefixOf (ended_here p) (ended_here (serial lists channels m (first + suc n)))
        by (i, it) =
            let within = it.within in
            let begun = h.loop.started in
            let products : i * interval b ≤ n * interval b = mul-le-mul_right (interval b) within in
            let a : ℕ = t - i * interval b in
            let age : a + i * interval b ≡ t = omega arith in
            let here = h.loop.things (thing_of side f) is_thing i a within age it.later it.earlier in
            let now : ended_here p ≡ ended_here (upto c (min a b.len) (from i)) =
            sym (is_held p) ∙ (here ∙ is_held (upto c (min a b.len) (from i))) in
            let rest = further_offsets side f lists channels m (min a b.len) b.len (from i) (min-le_right a b.len) in
            let done : ended_here (from (suc i)) ≡ ended_here (upto c b.len (from i)) =
            sym (is_held (from (suc i))) ∙ (whole_done (thing_of side f) last_done i within ∙ is_held (upto c b.len (from i))) in
            let on = further_iterations side f lists channels m (first + suc i) (first + suc n) (omega arith) in
            subst (λ (xs : List ℕ). IsPrefixOf xs (ended_here (serial lists channels m (first + suc n)))) (sym now)
            (prefix_on _ _ _ (subst (IsPrefixOf (ended_here (upto c (min a b.len) (from i)))) (sym done) rest) on)
