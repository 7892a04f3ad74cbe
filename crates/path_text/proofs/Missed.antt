-- The last missed query before an access.
use Rattle.std.proofs.Common.{◌≡◌, ◌≢◌, ℕ, ◌+◌, ◌<◌, ◌≤◌, List, [], ◌∷◌, ◌++◌, length, take, set, replicate, Bool, true, false, ◌||◌, ◌&&◌}
use Rattle.std.proofs.Common.{cond, refl, sym, ◌∙◌, ap, ap₂, subst, arith, get_or, ltb, leb, eqb, inl, inr, Option, Some, None, length-set}
use Rattle.std.proofs.lemmas.Bool.{cases_lt, cases_eq, lt-ltb, le-ltb, le-leb, lt-leb, and_parts, eq-eqb, ne_eqb, eqb-true}
use Rattle.std.proofs.lemmas.List.{take_more, get_or-set_same, get_or-set_other, get_or-replicate, length-replicate}
use Rattle.std.proofs.{lemmas.List.Elements.filter-append, lemmas.List.Sums.fold-append}
use Rattle.std.specs.{Prelude.⊤, List.filter, List.fold, List.list_any, List.AllByRecursion}
use Rattle.path_text.specs.{Kind, Plan, contents_of, is_empty, state, LoggedAccess, is_query_on, is_missed, is_of, same_query, LastMissed}
use Rattle.path_text.specs.{missed_before, seeks, is_hit, AreMissed, last_missed, missed_by, missed_more, missed_with, unmissed}
use Rattle.flow_word.specs.declared.access.Kind.TheVariants.{Read, Write, TryRead, TryWrite, Empty, Full}
use Rattle.stall_text.proofs.Asked.{asks_owner}
use Rattle.path_text.proofs.{Logged.IsTold, Logged.Orderly, Fronts.hit_parts}

-- ---- the last of a list

abbrev pub UpTo : ℕ → Option ℕ → Type 0
UpTo c None = ⊤
UpTo c (Some v) = v ≤ c

-- some clock is there, and not before x
abbrev pub is_from : ℕ → Option ℕ → Bool
is_from x None = false
is_from x (Some v) = leb x v

abbrev pub is_miss : Kind → ℕ → LoggedAccess → Bool
is_miss kind f b = is_query_on kind f b && is_missed b

abbrev AllFrom : Option ℕ → List LoggedAccess → Type 0
AllFrom o bs = AllByRecursion (λ b. UpTo b.event.cycle o) bs

absorbed : (x c : ℕ) (o : Option ℕ) (rest : Bool) → UpTo c o → (is_from x o || (leb x c || rest)) ≡ (leb x c || rest)
absorbed x c None rest h = refl
absorbed x c (Some v) rest h = elim (cases_lt v x) [
  | inl w ↦ rw (lt-leb x v w) refl
  | inr w ↦ rw (le-leb x v w) (rw (le-leb x c (omega arith)) refl)
]

or_false : (b : Bool) → (b || false) ≡ b
or_false true = refl
or_false false = refl

-- one of them is not before x just where the last is not
any_missed : (kind : Kind) (f x : ℕ) (o : Option ℕ) (bs : List LoggedAccess) → Orderly bs → AllFrom o bs
    → (is_from x o || list_any (λ b. is_miss kind f b && leb x b.event.cycle) bs) ≡ is_from x (fold (missed_more kind f) o bs)
any_missed kind f x o [] h k = or_false (is_from x o)
any_missed kind f x o (b ∷ bs) h k =
    by_test (is_miss kind f b) (list_any (λ b. is_miss kind f b && leb x b.event.cycle) bs)
    (any_missed kind f x (Some b.event.cycle) bs h.1 h.0) (any_missed kind f x o bs h.1 k.1)
  where
    by_test : (t rest : Bool) → (leb x b.event.cycle || rest) ≡ is_from x (fold (missed_more kind f) (Some b.event.cycle) bs)
        → (is_from x o || rest) ≡ is_from x (fold (missed_more kind f) o bs)
        → (is_from x o || ((t && leb x b.event.cycle) || rest)) ≡ is_from x (fold (missed_more kind f) (cond t (Some b.event.cycle) o) bs)
    by_test true rest held lost = absorbed x b.event.cycle o rest k.0 ∙ held
    by_test false rest held lost = lost

bounded : (kind : Kind) (f c : ℕ) (o : Option ℕ) (bs : List LoggedAccess) → UpTo c o → AllByRecursion (λ b. b.event.cycle ≤ c) bs
    → UpTo c (fold (missed_more kind f) o bs)
bounded kind f c o [] h k = h
bounded kind f c o (b ∷ bs) h k = bounded kind f c (missed_more kind f o b) bs (by_test (is_miss kind f b)) k.1
  where
    by_test : (t : Bool) → UpTo c (cond t (Some b.event.cycle) o)
    by_test true = k.0
    by_test false = h

pub last_bounded : (kind : Kind) (f c : ℕ) (bs : List LoggedAccess) → AllByRecursion (λ b. b.event.cycle ≤ c) bs
    → UpTo c (last_missed bs kind f)
unfolding last_missed
last_bounded kind f c bs k = bounded kind f c None bs tt k

none_from : (bs : List LoggedAccess) → AllFrom None bs
none_from [] = tt
none_from (b ∷ bs) = (tt, none_from bs)

pub last_from : (kind : Kind) (f x : ℕ) (bs : List LoggedAccess) → Orderly bs
    → list_any (λ b. is_miss kind f b && leb x b.event.cycle) bs ≡ is_from x (last_missed bs kind f)
unfolding last_missed
last_from kind f x bs h = any_missed kind f x None bs h (none_from bs)

-- ---- of one module, before an access

same_kind : (k l : Kind) → same_query k l ≡ true → k ≡ l
same_kind TryRead TryRead e = refl
same_kind TryWrite TryWrite e = refl
same_kind Empty Empty e = refl
same_kind Full Full e = refl
same_kind k l e = grind arith

any-append : {X : Type 0} (P : X → Bool) (xs ys : List X) → list_any P (xs ++ ys) ≡ (list_any P xs || list_any P ys)
any-append P [] ys = refl
any-append P (x ∷ xs) ys = ap (λ (b : Bool). P x || b) (any-append P xs ys) ∙ or_assoc (P x) (list_any P xs) (list_any P ys)
  where
    or_assoc : (a b c : Bool) → (a || (b || c)) ≡ ((a || b) || c)
    or_assoc true b c = refl
    or_assoc false b c = refl

any_none : {X : Type 0} (P Q : X → Bool) (xs : List X) → AllByRecursion (λ x. P x ≡ false) xs → list_any P (filter Q xs) ≡ false
any_none P Q [] h = refl
any_none {X} P Q (x ∷ xs) h = by_test (Q x) (any_none P Q xs h.1)
  where
    by_test : (b : Bool) → list_any P (filter Q xs) ≡ false → list_any P (cond b (x ∷ filter Q xs) (filter Q xs)) ≡ false
    by_test true e = rw h.0 e
    by_test false e = e

any_same : {X : Type 0} (P Q R : X → Bool) (xs : List X) → AllByRecursion (λ x. (Q x && P x) ≡ R x) xs → list_any P (filter Q xs) ≡
    list_any R xs
any_same P Q R [] h = refl
any_same {X} P Q R (x ∷ xs) h = by_test (Q x) h.0 (any_same P Q R xs h.1)
  where
    by_test : (b : Bool) → (b && P x) ≡ R x → list_any P (filter Q xs) ≡ list_any R xs
        → list_any P (cond b (x ∷ filter Q xs) (filter Q xs)) ≡ (R x || list_any R xs)
    by_test true e rest = ap₂ (λ (a b : Bool). a || b) e rest
    by_test false e rest = rest ∙ ap (λ (b : Bool). b || list_any R xs) e

module _ (p : Plan) (a : LoggedAccess) (told : IsTold p a) (hit : is_hit p a ≡ true) (m x : ℕ) (own : is_of m a ≡ true) where
  -- a query like a that was missed, and not after it, was before it and is the same module's
  one_before : (b : LoggedAccess) → IsTold p b → b.event.cycle ≤ a.event.cycle → (t : Bool) → is_miss a.event.kind a.event.channel b ≡ t
      → (is_of m b && (t && (leb x b.event.cycle && ltb b.event.cycle a.event.cycle))) ≡ (t && leb x b.event.cycle)
  one_before b there l false e = no (is_of m b)
    where
      no : (c : Bool) → (c && false) ≡ false
      no true = refl
      no false = refl
  one_before b there l true e =
      let parts = and_parts (is_query_on a.event.kind a.event.channel b) (is_missed b) e in
      let same = and_parts (same_query a.event.kind b.event.kind) (eqb a.event.channel b.event.channel) parts.0 in
      let kind = same_kind a.event.kind b.event.kind same.0 in
      let channel = eqb-true a.event.channel b.event.channel same.1 in
      let hits = hit_parts p a hit in
      let module_is : b.event.«module» ≡ a.event.«module» =
      asks_owner p a.event.kind a.event.channel b there.owned parts.0 ∙ told.owned in
      let of : is_of m b ≡ true = ap (λ (k : ℕ). eqb k m) module_is ∙ own in
      let found : is_empty a.event.cycle (contents_of (state p a.event.cycle).contents a.event.channel) ≡ false =
      sym (told.missed hits.seeks) ∙ hits.there in
      let lost : is_empty b.event.cycle (contents_of (state p b.event.cycle).contents b.event.channel) ≡ true =
      sym (there.missed (subst (λ (k : Kind). seeks k ≡ true) kind hits.seeks)) ∙ parts.1 in
      let before : b.event.cycle < a.event.cycle = elim (cases_eq b.event.cycle a.event.cycle) [
        | inr other ↦ omega arith
        | inl at ↦
            let wrong : true ≡ false =
            sym lost ∙ (ap₂ (λ (c f : ℕ). is_empty c (contents_of (state p c).contents f)) at (sym channel) ∙ found) in
            absurd cc
      ] in
      rw of (rw (lt-ltb b.event.cycle a.event.cycle before) (and_true (leb x b.event.cycle)))
    where
      and_true : (c : Bool) → (c && true) ≡ c
      and_true true = refl
      and_true false = refl

  all_before : (bs : List LoggedAccess) → AllByRecursion (IsTold p) bs → AllByRecursion (λ b. b.event.cycle ≤ a.event.cycle) bs
      → AllByRecursion (λ b. (is_of m b && missed_before x a b) ≡ (is_miss a.event.kind a.event.channel b && leb x b.event.cycle)) bs
  all_before [] h k = tt
  all_before (b ∷ bs) h k = (one_before b h.0 k.0 (is_miss a.event.kind a.event.channel b) refl, all_before bs h.1 k.1)

  none_after : (bs : List LoggedAccess) → AllByRecursion (λ b. a.event.cycle ≤ b.event.cycle) bs
      → AllByRecursion (λ b. missed_before x a b ≡ false) bs
  none_after [] k = tt
  none_after (b ∷ bs) k = (
    rw (le-ltb b.event.cycle a.event.cycle k.0) (no (is_miss a.event.kind a.event.channel b) (leb x b.event.cycle)),
    none_after bs k.1,
  )
    where
      no : (s t : Bool) → (s && (t && false)) ≡ false
      no true true = refl
      no true false = refl
      no false t = refl

  -- so one like it was missed from x on and before it just where the last before it is not before x
  pub missed_is : (log front back : List LoggedAccess) → log ≡ front ++ a ∷ back → AllByRecursion (IsTold p) front → Orderly front
      → AllByRecursion (λ b. b.event.cycle ≤ a.event.cycle) front → AllByRecursion (λ b. a.event.cycle ≤ b.event.cycle) back
      → list_any (missed_before x a) (filter (is_of m) log) ≡ is_from x (last_missed front a.event.kind a.event.channel)
  missed_is log front back e h o k l =
      let test = missed_before x a in
      let after = any_none test (is_of m) (a ∷ back) (none_after (a ∷ back) (omega arith, l)) in
      ap (λ (bs : List LoggedAccess). list_any test (filter (is_of m) bs)) e
      ∙ (ap (list_any test) (filter-append (is_of m) front (a ∷ back))
      ∙ (any-append test (filter (is_of m) front) (filter (is_of m) (a ∷ back))
      ∙ (ap₂ (λ (b c : Bool). b || c)
      (any_same test (is_of m) (λ b. is_miss a.event.kind a.event.channel b && leb x b.event.cycle) front (all_before front h k)) after
      ∙ (or_false _ ∙ last_from a.event.kind a.event.channel x front o))))

-- ---- one access more

last_more : (log : List LoggedAccess) (k : ℕ) (d : LoggedAccess) (kind : Kind) (f : ℕ) → k < length log
    → last_missed (take (k + 1) log) kind f ≡ missed_more kind f (last_missed (take k log) kind f) (get_or log k d)
unfolding last_missed
last_more log k d kind f l =
    ap (fold (missed_more kind f) None) (take_more log k d l)
    ∙ fold-append (missed_more kind f) None (take k log) (get_or log k d ∷ [])

other_channel : (kind : Kind) (f : ℕ) (a : LoggedAccess) (o : Option ℕ) → f ≢ a.event.channel → missed_more kind f o a ≡ o
other_channel kind f a o n = rw (ne_eqb f a.event.channel n) (no (same_query kind a.event.kind) (is_missed a))
  where
    no : (s t : Bool) → cond ((s && false) && t) (Some a.event.cycle) o ≡ o
    no true t = refl
    no false t = refl

same_channel : (kind : Kind) (a : LoggedAccess) (o : Option ℕ)
    → missed_more kind a.event.channel o a ≡ cond (same_query kind a.event.kind && is_missed a) (Some a.event.cycle) o
same_channel kind a o = rw (eq-eqb a.event.channel a.event.channel refl) (keep (same_query kind a.event.kind) (is_missed a))
  where
    keep : (s t : Bool) → cond ((s && true) && t) (Some a.event.cycle) o ≡ cond (s && t) (Some a.event.cycle) o
    keep true t = refl
    keep false t = refl

-- what is kept of the channel of an access
with_tryread : (b : Bool) (kind : Kind) (c : ℕ) (m : LastMissed) → (missed_by b kind c m).tryread ≡ cond (same_query TryRead kind && b)
    (Some c) m.tryread
with_tryread false TryRead c m = refl
with_tryread false Read c m = refl
with_tryread false Write c m = refl
with_tryread false TryWrite c m = refl
with_tryread false Empty c m = refl
with_tryread false Full c m = refl
with_tryread true TryRead c m = refl
with_tryread true Read c m = refl
with_tryread true Write c m = refl
with_tryread true TryWrite c m = refl
with_tryread true Empty c m = refl
with_tryread true Full c m = refl

with_empty : (b : Bool) (kind : Kind) (c : ℕ) (m : LastMissed) → (missed_by b kind c m).empty ≡ cond (same_query Empty kind && b) (Some c)
    m.empty
with_empty false TryRead c m = refl
with_empty false Read c m = refl
with_empty false Write c m = refl
with_empty false TryWrite c m = refl
with_empty false Empty c m = refl
with_empty false Full c m = refl
with_empty true TryRead c m = refl
with_empty true Read c m = refl
with_empty true Write c m = refl
with_empty true TryWrite c m = refl
with_empty true Empty c m = refl
with_empty true Full c m = refl

pub missed_none : (channels : ℕ) (missed : List LastMissed) → missed ≡ replicate channels unmissed → AreMissed channels [] missed
unfolding last_missed
missed_none channels missed e = record {
  count = ap length e ∙ length-replicate channels unmissed;
  tryread = λ f l. ap (λ (m : LastMissed). m.tryread) (ap (λ (ms : List LastMissed). get_or ms f unmissed) e ∙ get_or-replicate channels f
      unmissed unmissed l);
  empty = λ f l. ap (λ (m : LastMissed). m.empty) (ap (λ (ms : List LastMissed). get_or ms f unmissed) e ∙ get_or-replicate channels f
      unmissed unmissed l);
}

pub missed_next : (channels : ℕ) (log : List LoggedAccess) (k : ℕ) (d : LoggedAccess) (missed new : List LastMissed) → k < length log
    → (get_or log k d).event.channel < channels → AreMissed channels (take k log) missed
    → new ≡ set missed (get_or log k d).event.channel (missed_with (get_or missed (get_or log k d).event.channel unmissed) (get_or log k d))
    → AreMissed channels (take (k + 1) log) new
missed_next channels log k d missed new l inside h q =
    let a = get_or log k d in
    let g = a.event.channel in
    let one = missed_with (get_or missed g unmissed) a in
    record {
      count = ap length q ∙ (length-set missed g one ∙ h.count);
      tryread = λ f m.
          ap (λ (ms : List LastMissed). (get_or ms f unmissed).tryread) q
          ∙ (elim (cases_eq f g) [
            | inl w ↦
                subst (λ (x : ℕ). (get_or (set missed g one) x unmissed).tryread ≡ last_missed (take (k + 1) log) TryRead x) (sym w)
                (ap (λ (x : LastMissed). x.tryread) (get_or-set_same missed g one unmissed (let n = h.count in omega arith))
                ∙ (with_tryread (is_missed a) a.event.kind a.event.cycle (get_or missed g unmissed)
                ∙ (ap (λ (o : Option ℕ). cond (same_query TryRead a.event.kind && is_missed a) (Some a.event.cycle) o) (h.tryread g inside)
                ∙ sym (last_more log k d TryRead g l ∙ same_channel TryRead a (last_missed (take k log) TryRead g)))))
            | inr w ↦
                ap (λ (x : LastMissed). x.tryread) (get_or-set_other missed g f one unmissed w)
                ∙ (h.tryread f m
                ∙ sym (last_more log k d TryRead f l ∙ other_channel TryRead f a (last_missed (take k log) TryRead f) w))
          ]);
      empty = λ f m.
          ap (λ (ms : List LastMissed). (get_or ms f unmissed).empty) q
          ∙ (elim (cases_eq f g) [
            | inl w ↦
                subst (λ (x : ℕ). (get_or (set missed g one) x unmissed).empty ≡ last_missed (take (k + 1) log) Empty x) (sym w)
                (ap (λ (x : LastMissed). x.empty) (get_or-set_same missed g one unmissed (let n = h.count in omega arith))
                ∙ (with_empty (is_missed a) a.event.kind a.event.cycle (get_or missed g unmissed)
                ∙ (ap (λ (o : Option ℕ). cond (same_query Empty a.event.kind && is_missed a) (Some a.event.cycle) o) (h.empty g inside)
                ∙ sym (last_more log k d Empty g l ∙ same_channel Empty a (last_missed (take k log) Empty g)))))
            | inr w ↦
                ap (λ (x : LastMissed). x.empty) (get_or-set_other missed g f one unmissed w)
                ∙ (h.empty f m
                ∙ sym (last_more log k d Empty f l ∙ other_channel Empty f a (last_missed (take k log) Empty f) w))
          ]);
    }
