-- The values pushed on a channel, in the history and in a view.
use Rattle.std.proofs.Common.{◌≡◌, ℕ, zero, suc, ◌+◌, ◌<◌, ◌≤◌, false, inl, inr, List, [], ◌∷◌, ◌++◌, length, get_or, sym, refl, ap, ◌∙◌}
use Rattle.std.proofs.Common.{arith, append_assoc, append-nil, length-append}
use Rattle.std.proofs.{lemmas.Bool.cases_eq, lemmas.Bool.cases_Bool, lemmas.Grind.common_steps}
use Rattle.event_timing.specs.{Side, Design, IsDesign, Access, Reply, is_some_access, values_in, takes_in, took, takers, takes_at, Trace}
use Rattle.event_timing.specs.{IsHistory, replies, can_move, steps, done, tally, View, Agrees, pushed_in, Begins}
use Rattle.flow_word.specs.declared.access.Side.TheVariants.{Pop, Push}
use Rattle.event_timing.proofs.Steps.{done_more, done_same, done_up}
use Rattle.event_timing.proofs.Standing.{step_ready, steps_moves, steps_from}
use Rattle.event_timing.proofs.OwnRuns.{Follows, follows, follows_less, tally_0, tally_more, rest_own, done_0, OwnAccesses}

pub pushed_in_0 : (ch : ℕ) (a : ℕ → List Access) (r : ℕ → List Reply) → pushed_in ch a r 0 ≡ []
unfolding pushed_in
pushed_in_0 ch a r = refl

pub pushed_in_more : (ch : ℕ) (a : ℕ → List Access) (r : ℕ → List Reply) (k : ℕ)
    → pushed_in ch a r (suc k) ≡ pushed_in ch a r k ++ values_in ch (a k) (r k)
unfolding pushed_in
pushed_in_more ch a r k = refl

none_pushed : (ch : ℕ) (xs : List Access) (rs : List Reply) → is_some_access xs ≡ false → values_in ch xs rs ≡ []
none_pushed ch [] rs e = refl
none_pushed ch (a ∷ xs) rs e = cc

pushed_still : {S : Type 0} → (d : Design S) (h : Trace S) → IsHistory d h → (c ch : ℕ) → steps d h c (d.owner Push ch) ≡ false
    → h.pushed (suc c) ch ≡ h.pushed c ch
pushed_still {S} d h y c ch e =
    let w : ℕ = d.owner Push ch in
    grind (
      arith,
      y.pushed_moves c ch,
      y.pushed_stays c ch,
      steps_from d h c w,
      append-nil,
      none_pushed ch (d.accesses w (h.state c w)) (replies d h c w),
    )

pub pushed_own : {S : Type 0} → (d : Design S) (h : Trace S) → IsDesign d → IsHistory d h
    → (ch : ℕ) (a : ℕ → List Access) (r : ℕ → List Reply) (c : ℕ)
    → Follows d h (d.owner Push ch) r c → OwnAccesses d (d.owner Push ch) a r (done d h (d.owner Push ch) c)
    → h.pushed c ch ≡ d.inputs ch ++ pushed_in ch a r (done d h (d.owner Push ch) c)
pushed_own {S} d h i y ch a r zero f x = y.pushed_0 ch ∙ (rw (done_0 d h (d.owner Push ch), pushed_in_0 ch a r) (sym (append-nil _)))
pushed_own {S} d h i y ch a r (suc c) f x =
    let w : ℕ = d.owner Push ch in
    let g = pushed_own d h i y ch a r c (follows_less d h w r c f) (λ k l. x k (omega (arith, done_up d h w c))) in
    elim (cases_Bool (steps d h c w)) [
      | inl e ↦
          let n = done_more d h w c e in
          let o = rest_own d h i y w r c (follows_less d h w r c f) in
          y.pushed_moves c ch (steps_moves d h c w e) ∙ (rw (
            n,
            pushed_in_more ch a r (done d h w c),
            x (done d h w c) (omega arith),
            f c (omega arith) e,
            step_ready d h i y w c e,
            o,
            g,
          ) (simp append_assoc))
      | inr e ↦ pushed_still d h y c ch e ∙ (rw (done_same d h w c e) g)
    ]

pub pushed_view : {S : Type 0} → (d : Design S) (h : Trace S) → IsDesign d → IsHistory d h → (v : View) → Agrees d h v → (ch c : ℕ)
    → done d h (d.owner Push ch) c ≤ v.timed (d.owner Push ch)
    → h.pushed c ch ≡ d.inputs ch ++ pushed_in ch (v.accesses (d.owner Push ch)) (v.reply (d.owner Push ch)) (done d h (d.owner Push ch) c)
pushed_view {S} d h i y v g ch c l =
    pushed_own d h i y ch (v.accesses (d.owner Push ch)) (v.reply (d.owner Push ch)) c (follows d h v g (d.owner Push ch) c l)
    (λ k q. g.accesses_then (d.owner Push ch) k (omega arith))

-- lists that only grow
pub begins_self : (xs : List ℕ) → Begins xs xs
begins_self xs = ([], sym (append-nil _))

pub begins_trans : (xs ys zs : List ℕ) → Begins xs ys → Begins ys zs → Begins xs zs
begins_trans xs ys zs (a, e) (b, f) = (b ++ a, e ∙ (ap (λ (z : List ℕ). z ++ a) f ∙ append_assoc zs b a))

pub begins_after : (front xs ys : List ℕ) → Begins xs ys → Begins (front ++ xs) (front ++ ys)
begins_after front xs ys (a, e) = (a, ap (λ (z : List ℕ). front ++ z) e ∙ sym (append_assoc front ys a))

pub begins_get : (xs ys : List ℕ) (i : ℕ) → Begins xs ys → i < length ys → get_or xs i 0 ≡ get_or ys i 0
begins_get xs ys i (a, e) l = rw e (grind (arith, common_steps))

pub begins_length : (xs ys : List ℕ) → Begins xs ys → length ys ≤ length xs
begins_length xs ys (a, e) = rw e (grind (arith, common_steps))

begins_rise : (f : ℕ → List ℕ) → ((n : ℕ) → Begins (f (suc n)) (f n)) → (a b : ℕ) → a ≤ b → Begins (f b) (f a)
begins_rise f up a zero l = let e : a ≡ 0 = omega arith in rw e (begins_self (f 0))
begins_rise f up a (suc b) l =
    elim (cases_eq a (suc b)) [
      | inl e ↦ rw e (begins_self (f (suc b)))
      | inr e ↦ begins_trans (f (suc b)) (f b) (f a) (up b) (begins_rise f up a b (omega arith))
    ]

pushed_up : {S : Type 0} → (d : Design S) (h : Trace S) → IsHistory d h → (ch c : ℕ) → Begins (h.pushed (suc c) ch) (h.pushed c ch)
pushed_up {S} d h y ch c =
    elim (cases_Bool (can_move d h c (d.owner Push ch))) [
      | inl e ↦ (_, y.pushed_moves c ch e)
      | inr e ↦ ([], y.pushed_stays c ch e ∙ sym (append-nil _))
    ]

pub pushed_mono : {S : Type 0} → (d : Design S) (h : Trace S) → IsHistory d h → (ch a b : ℕ) → a ≤ b
    → Begins (h.pushed b ch) (h.pushed a ch)
pushed_mono {S} d h y ch a b l = begins_rise (λ c. h.pushed c ch) (pushed_up d h y ch) a b l

pub length_values : (ch : ℕ) (xs : List Access) (rs : List Reply) → length (values_in ch xs rs) ≡ takes_in Push ch xs rs
length_values ch [] rs = refl
length_values ch (a ∷ xs) [] = refl
length_values ch (a ∷ xs) (r ∷ rs) = grind (arith, length_values ch xs rs)

pub length_pushed_in : (ch : ℕ) (a : ℕ → List Access) (r : ℕ → List Reply) (k : ℕ) → length (pushed_in ch a r k) ≡ tally a r Push ch k
length_pushed_in ch a r zero = rw (pushed_in_0 ch a r, tally_0 a r Push ch) refl
length_pushed_in ch a r (suc k) =
    grind (arith, pushed_in_more ch a r k, tally_more a r Push ch k, length-append, length_values ch (a k) (r k), length_pushed_in ch a r k)

pub length_pushed : {S : Type 0} → (d : Design S) (h : Trace S) → IsDesign d → IsHistory d h → (ch c : ℕ)
    → length (h.pushed c ch) ≡ d.start Pop ch + h.taken c Push ch
length_pushed {S} d h i y ch zero = rw (y.pushed_0 ch, y.taken_0 Push ch) (omega (arith, i.start_inputs ch))
length_pushed {S} d h i y ch (suc c) =
    let w : ℕ = d.owner Push ch in
    let new = length_values ch (d.accesses w (h.state c w)) (replies d h c w) in
    let pushed = y.pushed_moves c ch in
    let taken = y.taken_moves c Push ch in
    grind (arith, y.pushed_stays c ch, y.taken_stays c Push ch, length_pushed d h i y ch c, length-append)

pub pushed_in_mono : (ch : ℕ) (a : ℕ → List Access) (r : ℕ → List Reply) (p q : ℕ) → p ≤ q
    → Begins (pushed_in ch a r q) (pushed_in ch a r p)
pushed_in_mono ch a r p q l = begins_rise (pushed_in ch a r) (λ n. (values_in ch (a n) (r n), pushed_in_more ch a r n)) p q l

-- an access that does not take at a side takes nothing there, whatever it is replied
pub not_taken : (side : Side) (ch : ℕ) (a : Access) (r : Reply) → takes_at side ch a ≡ false → took side ch a r ≡ false
not_taken side ch a r k = grind arith

-- accesses take no more than those that take where it is possible
pub takes_takers : (side : Side) (ch : ℕ) (xs : List Access) (rs : List Reply) → takes_in side ch xs rs ≤ takers side ch xs
takes_takers side ch [] rs = omega arith
takes_takers side ch (a ∷ xs) [] = omega arith
takes_takers side ch (a ∷ xs) (r ∷ rs) = grind (arith, takes_takers side ch xs rs, not_taken side ch a r)

-- in one clock a side takes at most one
pub taken_once : {S : Type 0} → (d : Design S) (h : Trace S) → IsDesign d → IsHistory d h → (c : ℕ) (side : Side) (ch : ℕ)
    → h.taken (suc c) side ch ≤ suc (h.taken c side ch)
taken_once {S} d h i y c side ch =
    let o : ℕ = d.owner side ch in
    let s = h.state c o in
    let most = takes_takers side ch (d.accesses o s) (replies d h c o) in
    grind (arith, y.taken_moves c side ch, y.taken_stays c side ch, i.single side o s ch)
