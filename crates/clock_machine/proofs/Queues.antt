-- What operations leave in the channels, one after another.
use Rattle.clock_machine.specs.{Plan, ChannelKind, AreEntriesSound, delay_of, delay_at, Element, element_from, PushedValue, after_pops}
use Rattle.clock_machine.specs.{after_pushes}
use Rattle.flow_design.specs.declared.limits.TheConstants.{FIFO_DELAY}
use Rattle.flow_design.specs.declared.design.ChannelKind.TheVariants.{Source, Sink, Fifo}
use Rattle.std.proofs.Common.{◌≡◌, ℕ, suc, ◌+◌, ◌<◌, ◌≤◌, List, [], ◌∷◌, ◌++◌, map, length, take, drop, get_or, eqb, cond, Bool, true}
use Rattle.std.proofs.Common.{false, refl, sym, ◌∙◌, ap, arith, append_assoc, add-zero, zero-add, zero, ◌≢◌, ⊎_elim}
use Rattle.std.proofs.{Math.ListN.set, lemmas.Bool.Decides.eqb_tells, lemmas.List.Elements.filter-append}
use Rattle.std.proofs.lemmas.Bool.{eqb-true, eq-eqb}
use Rattle.std.proofs.lemmas.List.{map-append, append-nil, length-append, drop-drop, take_more, get_or_default}
use Rattle.std.specs.List.{enumerate_from, filter}

-- ---- a change of one channel

-- channel j changes
abbrev pub changed : (List Element → List Element) → ℕ → ℕ × List Element → List Element
changed change j f = cond (eqb j f.0) (change f.1) f.1

pub other_place : (a b : ℕ) → a ≢ b → eqb a b ≡ false
other_place a b e = ⊎_elim (λ h. absurd (e h.1)) (λ h. h.0) (eqb_tells a b)

at_later : (change : List Element → List Element) (n j : ℕ) (contents : List (List Element)) → j < n
    → map (changed change j) (enumerate_from n contents) ≡ contents
at_later change n j [] h = refl
at_later change n j (held ∷ contents) h =
    let rest = at_later change (n + 1) j contents (omega arith) in
    let other = other_place j n (λ same. omega arith) in
    rw (other, rest) refl

change_at : (change : List Element → List Element) (n k j : ℕ) (contents : List (List Element)) → n + k ≡ j → k < length contents
    → map (changed change j) (enumerate_from n contents) ≡ set contents k (change (get_or contents k []))
change_at change n k j [] e h = absurd (omega arith)
change_at change n zero j (held ∷ contents) e h =
    let rest = at_later change (n + 1) j contents (omega arith) in
    let here = eq-eqb j n (sym e ∙ add-zero n) in
    rw (here, rest) refl
change_at change n (suc k) j (held ∷ contents) e h =
    let rest = change_at change (n + 1) k j contents (omega arith) (omega arith) in
    let other = other_place j n (λ same. omega arith) in
    rw (other, rest) refl

pub changed_at : (change : List Element → List Element) (j : ℕ) (contents : List (List Element)) (held next : List Element)
    → j < length contents
    → next ≡ change (get_or contents j held) → set contents j next ≡ map (changed change j) (enumerate_from 0 contents)
changed_at change j contents held next h e =
    let read : get_or contents j held ≡ get_or contents j [] = get_or_default contents j held [] h in
    rw (e, read) (sym (change_at change 0 j j contents (zero-add j) h))

past : (change : List Element → List Element) (n k j : ℕ) (contents : List (List Element)) → n + k ≡ j → length contents ≤ k
    → map (changed change j) (enumerate_from n contents) ≡ contents
past change n k j [] e h = refl
past change n zero j (held ∷ contents) e h = absurd (omega arith)
past change n (suc k) j (held ∷ contents) e h =
    let rest = past change (n + 1) k j contents (omega arith) (omega arith) in
    let other = other_place j n (λ same. omega arith) in
    rw (other, rest) refl

pub unchanged_past : (change : List Element → List Element) (j : ℕ) (contents : List (List Element)) → length contents ≤ j
    → contents ≡ map (changed change j) (enumerate_from 0 contents)
unchanged_past change j contents h = sym (past change 0 j j contents (zero-add j) h)

-- ---- one operation

same_map : (f g : ℕ × List Element → List Element) (contents : List (List Element)) → ((m : ℕ × List Element) → f m ≡ g m)
    → map f (enumerate_from 0 contents) ≡ map g (enumerate_from 0 contents)
same_map f g contents h = ap (λ (k : ℕ × List Element → List Element). map k (enumerate_from 0 contents)) (λ i m. h m i)

unmoved : (f : ℕ × List Element → List Element) (n : ℕ) (contents : List (List Element)) → ((m : ℕ × List Element) → f m ≡ m.1)
    → map f (enumerate_from n contents) ≡ contents
unmoved f n [] h = refl
unmoved f n (held ∷ contents) h =
    let here = h (n, held) in let rest = unmoved f (n + 1) contents h in rw (here, rest) refl

one_pop : (j : ℕ) (m : ℕ × List Element) → changed (drop 1) j m ≡ after_pops (j ∷ []) m
one_pop j m = by_test (eqb j m.0)
  where
    by_test : (b : Bool) → cond b (drop 1 m.1) m.1 ≡ drop (length (cond b (j ∷ []) [])) m.1
    by_test true = refl
    by_test false = refl

pub popped_once : (j : ℕ) (contents : List (List Element))
    → map (changed (drop 1) j) (enumerate_from 0 contents) ≡ map (after_pops (j ∷ [])) (enumerate_from 0 contents)
popped_once j contents = same_map _ _ contents (one_pop j)

one_push : (p : Plan) (clock : ℕ) (q : PushedValue) (m : ℕ × List Element)
    → changed (λ held. held ++ element_from (clock + delay_at p q.channel) q.value ∷ []) q.channel m ≡ after_pushes p clock (q ∷ []) m
one_push p clock q m = by_test (eqb q.channel m.0) refl
  where
    by_test : (b : Bool) → eqb q.channel m.0 ≡ b
        → cond b (m.1 ++ element_from (clock + delay_at p q.channel) q.value ∷ []) m.1
        ≡ m.1 ++ map (λ (x : PushedValue). element_from (clock + delay_at p m.0) x.value) (cond b (q ∷ []) [])
    by_test true e = rw (eqb-true q.channel m.0 e) refl
    by_test false e = sym (append-nil m.1)

pub pushed_once : (p : Plan) (clock d : ℕ) (q : PushedValue) (contents : List (List Element)) → d ≡ delay_at p q.channel
    → map (changed (λ held. held ++ element_from (clock + d) q.value ∷ []) q.channel) (enumerate_from 0 contents)
    ≡ map (after_pushes p clock (q ∷ [])) (enumerate_from 0 contents)
pushed_once p clock d q contents e =
    ap (λ n. map (changed (λ held. held ++ element_from (clock + n) q.value ∷ []) q.channel) (enumerate_from 0 contents)) e
    ∙ same_map _ _ contents (one_push p clock q)

-- ---- one operation after another

-- what is left after some operations, and then after others
abbrev pub GoesOn : {X : Type 0} → (List X → ℕ × List Element → List Element) → Type 0
GoesOn {X} after = (xs ys : List X) (m : ℕ × List Element) → after ys (m.0, after xs m) ≡ after (xs ++ ys) m

pub pops_go_on : GoesOn after_pops
pops_go_on xs ys m =
    let at = λ (j : ℕ). eqb j m.0 in
    drop-drop (length (filter at ys)) (length (filter at xs)) m.1
    ∙ ap (λ n. drop n m.1) (sym (ap length (filter-append at xs ys) ∙ length-append (filter at xs) (filter at ys)))

pub pushes_go_on : (p : Plan) (clock : ℕ) → GoesOn (after_pushes p clock)
pushes_go_on p clock xs ys m =
    let at = λ (q : PushedValue). eqb q.channel m.0 in
    let on = λ (q : PushedValue). element_from (clock + delay_at p m.0) q.value in
    append_assoc m.1 (map on (filter at xs)) (map on (filter at ys))
    ∙ ap (λ l. m.1 ++ l) (sym (ap (map on) (filter-append at xs ys) ∙ map-append on (filter at xs) (filter at ys)))

pub no_pops : (contents : List (List Element)) → contents ≡ map (after_pops []) (enumerate_from 0 contents)
no_pops contents = sym (unmoved _ 0 contents (λ m. refl))

pub no_pushes : (p : Plan) (clock : ℕ) (contents : List (List Element))
    → contents ≡ map (after_pushes p clock []) (enumerate_from 0 contents)
no_pushes p clock contents = sym (unmoved _ 0 contents (λ m. append-nil m.1))

pub twice : (f g h : ℕ × List Element → List Element) (n : ℕ) (contents : List (List Element))
    → ((m : ℕ × List Element) → f (m.0, g m) ≡ h m)
    → map f (enumerate_from n (map g (enumerate_from n contents))) ≡ map h (enumerate_from n contents)
twice f g h n [] e = refl
twice f g h n (held ∷ contents) e =
    let here = e (n, held) in let rest = twice f g h (n + 1) contents e in rw (here, rest) refl

-- one operation more
pub one_more : {X : Type 0} (after : List X → ℕ × List Element → List Element) → GoesOn after
    → (before now next : List (List Element)) (items : List X) (i : ℕ) (d : X)
    → i < length items → now ≡ map (after (take i items)) (enumerate_from 0 before)
    → next ≡ map (after (get_or items i d ∷ [])) (enumerate_from 0 now)
    → next ≡ map (after (take (i + 1) items)) (enumerate_from 0 before)
one_more after goes before now next items i d h e f =
    f ∙ (ap (λ (contents : List (List Element)). map (after (get_or items i d ∷ [])) (enumerate_from 0 contents)) e
    ∙ (twice (after (get_or items i d ∷ [])) (after (take i items)) (after (take i items ++ get_or items i d ∷ [])) 0 before
    (goes (take i items) (get_or items i d ∷ []))
    ∙ ap (λ xs. map (after xs) (enumerate_from 0 before)) (sym (take_more items i d h))))

-- a delay of a plan that the engine takes is within its limit
few : (k : ChannelKind) (inputs : List ℕ) (depth : ℕ) → AreEntriesSound k inputs depth → delay_of k ≤ FIFO_DELAY
few Source inputs depth h = omega arith
few Sink inputs depth h = omega arith
few (Fifo declared delay) inputs depth h = let (a, b, c, d, e) = h in e
