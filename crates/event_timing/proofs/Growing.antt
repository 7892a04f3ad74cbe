-- What stays as a core grows: the replies to its settled steps.
use Rattle.std.proofs.lemmas.Bool.Decides.{nat_tests}
use Rattle.std.proofs.Common.{◌≡◌, ℕ, zero, suc, ◌+◌, ◌<◌, ◌≤◌, Bool, true, List, [], ◌∷◌, length, get_or, refl, ap, ap₂, ◌∙◌, arith}
use Rattle.event_timing.specs.{Side, Design, Access, takes_in, Trace, own, Begins, bare_replies, core_accesses, core_tally, core_values}
use Rattle.event_timing.specs.{replies_of, all_below, core_reply, values_there, AreOwnMarks, IsTimed, elements_timed, pops_timed, Grows}
use Rattle.event_timing.specs.{IsSettled, Core.Core}
use Rattle.flow_word.specs.declared.access.Side.TheVariants.{Pop, Push}
use Rattle.event_timing.proofs.{OwnRuns.own_0, OwnRuns.own_more, Values.begins_get, Values.begins_length, Fronts.tally_same}

pub settled_less : {S : Type 0} → (d : Design S) (x : Core S) (m n k : ℕ) → k ≤ n → IsSettled d x m n → IsSettled d x m k
settled_less {S} d x m n k l s = grind (arith, s)

get_grow : (V W : List ℕ) (t u : ℕ) → Begins W V → u ≡ t → t < length V → get_or W u 0 ≡ get_or V t 0
get_grow V W t u g e l = rw e (begins_get W V t g l)

replies_grow : (V W : ℕ → List ℕ) (t u : ℕ → ℕ) (xs : List Access) (bs : List Bool) → ((ch : ℕ) → Begins (W ch) (V ch))
    → ((ch : ℕ) → u ch ≡ t ch) → all_below (λ ch. length (V ch)) t xs bs ≡ true → replies_of W u xs bs ≡ replies_of V t xs bs
replies_grow V W t u [] bs g e l = refl
replies_grow V W t u (a ∷ xs) [] g e l = refl
replies_grow V W t u (a ∷ xs) (b ∷ bs) g e l =
    grind (
      arith,
      nat_tests,
      get_grow (V a.channel) (W a.channel) (t a.channel) (u a.channel) (g a.channel) (e a.channel),
      replies_grow V W t u xs bs g e,
    )

pub below_grow : (s s' t u : ℕ → ℕ) (xs : List Access) (bs : List Bool) → ((ch : ℕ) → s ch ≤ s' ch) → ((ch : ℕ) → u ch ≡ t ch)
    → all_below s t xs bs ≡ true → all_below s' u xs bs ≡ true
below_grow s s' t u [] bs l q e = refl
below_grow s s' t u (a ∷ xs) [] l q e = refl
below_grow s s' t u (a ∷ xs) (b ∷ bs) l q e =
    grind (arith, nat_tests, below_grow s s' t u xs bs l q, l a.channel, q a.channel)

pub tally_grow : {S : Type 0} → (d : Design S) (x z : Core S) → Grows d x z → (m n : ℕ) → ((k : ℕ) → k < n → k < x.emitted m)
    → ((k : ℕ) → k < n → x.answered m k ≡ true) → (side : Side) (ch : ℕ) → core_tally d z m side ch n ≡ core_tally d x m side ch n
tally_grow {S} d x z g m n f h side ch =
    tally_same (core_accesses d z m) (core_accesses d x m) (λ j. bare_replies (z.flags m j)) (λ j. bare_replies (x.flags m j)) side ch n
    (λ k l. ap₂ (λ (s : S) (b : List Bool). takes_in side ch (d.accesses m s) (bare_replies b)) (g.state_same m k (f k l))
    (g.flags_same m k (f k l) (h k l)))

pub reply_grow : {S : Type 0} → (d : Design S) (x z : Core S) → Grows d x z → (m n : ℕ) → IsSettled d x m (suc n)
    → core_reply d z m n ≡ core_reply d x m n
reply_grow {S} d x z g m n s =
    let now = s.emitted n (omega arith) in
    let counts = tally_grow d x z g m n (λ k l. s.emitted k (omega arith)) (λ k l. s.answered k (omega arith)) Pop in
    ap₂ (λ (p : S) (b : List Bool). replies_of (core_values d z) (λ ch. core_tally d z m Pop ch n) (d.accesses m p) b)
    (g.state_same m n now) (g.flags_same m n now (s.answered n (omega arith)))
    ∙ replies_grow (core_values d x) (core_values d z) (λ ch. core_tally d x m Pop ch n) (λ ch. core_tally d z m Pop ch n)
    (core_accesses d x m n) (x.flags m n) g.values_up counts (s.there n (omega arith))

pub there_grow : {S : Type 0} → (d : Design S) (x z : Core S) → Grows d x z → (m n : ℕ) → IsSettled d x m (suc n)
    → values_there d z m n ≡ true
there_grow {S} d x z g m n s =
    let now = s.emitted n (omega arith) in
    let counts = tally_grow d x z g m n (λ k l. s.emitted k (omega arith)) (λ k l. s.answered k (omega arith)) Pop in
    ap₂ (λ (p : S) (b : List Bool). all_below (λ ch. length (core_values d z ch)) (λ ch. core_tally d z m Pop ch n) (d.accesses m p) b)
    (g.state_same m n now) (g.flags_same m n now (s.answered n (omega arith)))
    ∙ below_grow (λ ch. length (core_values d x ch)) (λ ch. length (core_values d z ch)) (λ ch. core_tally d x m Pop ch n)
    (λ ch. core_tally d z m Pop ch n) (core_accesses d x m n) (x.flags m n)
    (λ ch. begins_length (core_values d z ch) (core_values d x ch) (g.values_up ch)) counts (s.there n (omega arith))

pub own_grow : {S : Type 0} → (d : Design S) (x z : Core S) → Grows d x z → (m n : ℕ) → IsSettled d x m n
    → own d m (core_reply d z m) n ≡ own d m (core_reply d x m) n
own_grow {S} d x z g m zero s = rw (own_0 d m (core_reply d z m), own_0 d m (core_reply d x m)) refl
own_grow {S} d x z g m (suc n) s =
    rw (
      own_more d m (core_reply d z m) n,
      own_more d m (core_reply d x m) n,
      own_grow d x z g m n (settled_less d x m (suc n) n (omega arith) s),
      reply_grow d x z g m n s,
    ) refl

-- how many elements have a push with a cycle stays, as long as no cycle is given
pub elements_grow : {S : Type 0} → (d : Design S) (h : Trace S) (limit : ℕ) (x z : Core S) → IsTimed d h limit x → Grows d x z → (ch : ℕ)
    → d.start Pop ch + core_tally d z (d.owner Push ch) Push ch (x.timed (d.owner Push ch)) ≡ elements_timed d x ch
elements_grow {S} d h limit x z u g ch =
    let w : ℕ = d.owner Push ch in
    let emitted : (k : ℕ) → k < x.timed w → k < x.emitted w = λ k l. (omega (arith, u.within w)) in
    ap (λ (n : ℕ). d.start Pop ch + n) (tally_grow d x z g w (x.timed w) emitted (u.answered_then w) Push ch)

-- and pops that have their pushes among the steps with a cycle have them still
pub pops_grow : {S : Type 0} → (d : Design S) (x z : Core S) → Grows d x z → ((ch : ℕ) → elements_timed d x ch ≤ elements_timed d z ch)
    → (m k : ℕ) → k < x.emitted m → IsSettled d x m k → (flags : List Bool) → pops_timed d x m k flags ≡ true
    → pops_timed d z m k flags ≡ true
pops_grow {S} d x z g up m k l s flags p =
    let popped : Core S → ℕ → ℕ = λ c ch. core_tally d c m Pop ch k in
    ap (λ (t : S). all_below (elements_timed d z) (popped z) (d.accesses m t) flags) (g.state_same m k l)
    ∙ below_grow (elements_timed d x) (elements_timed d z) (popped x) (popped z) (core_accesses d x m k) flags up
    (tally_grow d x z g m k s.emitted s.answered Pop)
    p

-- the steps before the newest are settled
pub settled_old : {S : Type 0} → (d : Design S) (x : Core S) → AreOwnMarks d x → (m n : ℕ) → n < x.emitted m → IsSettled d x m n
settled_old {S} d x b m n l = grind (arith, b)

pub settled_timed : {S : Type 0} → (d : Design S) (h : Trace S) (limit : ℕ) (x : Core S) → IsTimed d h limit x → (m n : ℕ)
    → n ≤ x.timed m → IsSettled d x m n
settled_timed {S} d h limit x u m n l = grind (arith, u, u.within m)

-- and so are all, where the newest has its replies
pub settled_all : {S : Type 0} → (d : Design S) (x : Core S) → AreOwnMarks d x → (m : ℕ)
    → ((k : ℕ) → suc k ≡ x.emitted m → x.answered m k ≡ true)
    → ((k : ℕ) → suc k ≡ x.emitted m → values_there d x m k ≡ true) → IsSettled d x m (x.emitted m)
settled_all {S} d x b m f g = grind (arith, b.replied m, b.there m, f, g)

-- and of a module whose end is emitted
pub ended_settled : {S : Type 0} → (d : Design S) (x : Core S) → AreOwnMarks d x → (m : ℕ) → x.over m ≡ true → IsSettled d x m (x.emitted m)
ended_settled {S} d x b m o = settled_all d x b m (λ k q. b.ended_replied m k o q) (λ k q. b.ended_there m k o q)
