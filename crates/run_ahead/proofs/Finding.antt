-- Reading a mail, access by access.
use Rattle.std.proofs.Common.{◌≡◌, refl, sym, ap, subst, ◌∙◌, ℕ, zero, suc, ◌+◌, ◌<◌, ◌≤◌, Bool, true, false, List, [], ◌∷◌, ◌++◌, length}
use Rattle.std.proofs.Common.{drop, cond, Option, Some, is_some, is_none, not, slice_get, inl, inr, arith, append_assoc}
use Rattle.std.proofs.{lemmas.Bool.eq-eqb, lemmas.Bool.Decides.eqb_tells, Math.Seq.drop-nil, lemmas.List.drop_all, lemmas.List.drop-drop}
use Rattle.std.specs.{Prelude.option_map, Int.from_bool}
use Rattle.engine_view.proofs.Adding.{get_drop}
use Rattle.run_ahead.specs.{Access, Kind, is_blocking, Reply, fits_kind, all_fit, replies_told, queries_in, Mail, reply_now, or_done}
use Rattle.run_ahead.specs.{reply_told, put_first, put_before, takes_by, takes_value, told_by, replies_from, first_missing, values_on}
use Rattle.run_ahead.specs.{next_value, replies_in, one_more, taken_after, none_taken, IsLeft}
use Rattle.run_ahead.proofs.Parts.{first_parts}

pub before_more : (qs : List Reply) (q : Reply) (r : Option (List Reply))
    → put_before qs (put_first (Some q) r) ≡ put_before (qs ++ q ∷ []) r
before_more qs q r = let whole = append_assoc qs (q ∷ []) in grind arith

pub drop_next : {X : Type 0} → (xs : List X) (i : ℕ) → i < length xs → (x : X) × (drop i xs ≡ x ∷ drop (suc i) xs)
drop_next [] i l = absurd (omega arith)
drop_next (x ∷ xs) zero l = (x, refl)
drop_next (x ∷ xs) (suc i) l = drop_next xs i (omega arith)

-- a reply fits
fits_with : (k : Kind) (o : Option Bool) (v : Option ℕ) (q : Reply) → reply_now k o v ≡ Some q → fits_kind k q ≡ true
fits_with k o v q e = grind arith

-- so many outcomes are read after an access
told_more : (k : Kind) (n : ℕ) → n + from_bool (not (is_blocking k)) ≡ told_by k n
told_more k n = by (is_blocking k) n
  where
    by : (blocking : Bool) (n : ℕ) → n + from_bool (not blocking) ≡ cond blocking n (suc n)
    by true n = omega arith
    by false n = omega arith

queries_more : (a : Access) (rest : List Access) → queries_in (a ∷ rest) ≡ from_bool (not (is_blocking a.kind)) + queries_in rest
queries_more a rest = by (not (is_blocking a.kind)) refl
  where
    by : (asks : Bool) → not (is_blocking a.kind) ≡ asks → queries_in (a ∷ rest) ≡ from_bool (not (is_blocking a.kind)) + queries_in rest
    by true e = rw e (omega arith)
    by false e = rw e (omega arith)

module _ (outs : List Bool) (value : Access → Option ℕ) where
  -- the replies to the accesses before this place are there
  pub record IsFinding (told₀ : ℕ) (xs : List Access) (told i : ℕ) : Type 0 where
    pub earlier : List Reply
    pub found : replies_from outs value told₀ xs ≡ put_before earlier (replies_from outs value told (drop i xs))
    pub number : told + queries_in (drop i xs) ≡ told₀ + queries_in xs

  pub finding_more : (told₀ : ℕ) (xs : List Access) (told now i : ℕ) (a : Access) (q : Reply) → IsFinding told₀ xs told i
      → drop i xs ≡ a ∷ drop (suc i) xs → reply_now a.kind (slice_get outs told) (value a) ≡ Some q → now ≡ told_by a.kind told
      → IsFinding told₀ xs now (i + 1)
  finding_more told₀ xs told now i a q k here is next =
      let rest = replies_from outs value (told_by a.kind told) (drop (suc i) xs) in
      let more : suc i ≡ i + 1 = omega arith in
      subst (λ (n : ℕ). IsFinding told₀ xs now n) more (subst (λ (n : ℕ). IsFinding told₀ xs n (suc i)) (sym next) (record {
        earlier = k.earlier ++ q ∷ [];
        found = k.found ∙ (ap (λ (ys : List Access). put_before k.earlier (replies_from outs value told ys)) here
            ∙ (ap (λ (r : Option Reply). put_before k.earlier (put_first r rest)) is ∙ before_more k.earlier q rest));
        number =
            let old = ap (λ (ys : List Access). told + queries_in ys) here in
            let all = k.number in let one = queries_more a (drop (suc i) xs) in let told_now = told_more a.kind told in omega arith;
      }))

  -- no reply was missing so far
  pub record IsSeeking (told₀ : ℕ) (xs : List Access) (told i : ℕ) (left : List Access) : Type 0 where
    pub missing : first_missing outs value told₀ xs ≡ option_map (λ (n : ℕ). i + n) (first_missing outs value told left)

  -- the replies fit
  pub replies_fit : (told : ℕ) (xs : List Access) (qs : List Reply) → replies_from outs value told xs ≡ Some qs → all_fit xs qs ≡ true
  replies_fit told [] qs e = grind arith
  replies_fit told (a ∷ xs) qs e =
      let (q, (qs', (e1, (e2, e3)))) = first_parts (reply_now a.kind (slice_get outs told) (value a))
      (replies_from outs value (told_by a.kind told) xs) qs e in
      rw (e3, fits_with a.kind (slice_get outs told) (value a) q e1) (replies_fit (told_by a.kind told) xs qs' e2)

  -- each reply is the one that is told
  pub told_replies : (n place : ℕ) (xs : List Access) (qs : List Reply) → replies_from outs value n xs ≡ Some qs
      → replies_told (reply_told outs value) place n xs ≡ qs
  told_replies n place [] qs e = grind arith
  told_replies n place (a ∷ xs) qs e =
      let (q, (qs', (e1, (e2, e3)))) = first_parts (reply_now a.kind (slice_get outs n) (value a))
      (replies_from outs value (told_by a.kind n) xs) qs e in
      ap (λ (r : Option Reply). or_done r
      ∷ replies_told (reply_told outs value) (place + 1) (n + from_bool (not (is_blocking a.kind))) xs) e1
      ∙ (ap (λ (k : ℕ). q ∷ replies_told (reply_told outs value) (place + 1) k xs) (told_more a.kind n)
      ∙ (ap (λ (rs : List Reply). q ∷ rs) (told_replies (told_by a.kind n) (place + 1) xs qs' e2) ∙ sym e3))

  -- one is missing where not all are there
  pub none_missing : (told : ℕ) (xs : List Access) → is_some (first_missing outs value told xs)
      ≡ not (is_some (replies_from outs value told xs))
  none_missing told [] = refl
  none_missing told (a ∷ xs) = let later = none_missing (told_by a.kind told) xs in grind arith

-- the outcomes from a step on give the same replies
get_after : {X : Type 0} → (xs : List X) (t n : ℕ) → slice_get (drop t xs) n ≡ slice_get xs (t + n)
get_after xs zero n = ap (slice_get xs) (omega arith)
get_after [] (suc t) n = refl
get_after (x ∷ xs) (suc t) n = let later : suc (t + n) ≡ suc t + n = omega arith in get_after xs t n ∙ ap (slice_get (x ∷ xs)) later

replies_cut : (outs : List Bool) (value : Access → Option ℕ) (told n : ℕ) (xs : List Access)
    → replies_from (drop told outs) value n xs ≡ replies_from outs value (told + n) xs
replies_cut outs value told n [] = refl
replies_cut outs value told n (a ∷ xs) =
    rw (get_after outs told n, replies_cut outs value told (told_by a.kind n) xs, by (is_blocking a.kind)) refl
  where
    by : (blocking : Bool) → told + cond blocking n (suc n) ≡ cond blocking (told + n) (suc (told + n))
    by true = refl
    by false = omega arith

-- so these are the replies that are told
pub told_from : (outs : List Bool) (value : Access → Option ℕ) (told : ℕ) (xs : List Access) (qs : List Reply)
    → replies_from outs value told xs ≡ Some qs → replies_told (reply_told (drop told outs) value) 0 0 xs ≡ qs
told_from outs value told xs qs found =
    told_replies (drop told outs) value 0 0 xs qs
    (replies_cut outs value told 0 xs ∙ (ap (λ (n : ℕ). replies_from outs value n xs) (omega arith) ∙ found))

-- ---- what is left

drop_more : (xs : List ℕ) (n : ℕ) → drop 1 (drop n xs) ≡ drop (suc n) xs
drop_more xs n = let next : n + 1 ≡ suc n = omega arith in rw next at (drop-drop 1 n xs)

pub drop_none : (n : ℕ) → ◌≡◌ {A = List ℕ} (drop n []) []
drop_none n = drop-nil n

-- nothing was taken
pub left_none : (mail : Mail) → IsLeft mail none_taken mail
left_none mail = record { outcomes = refl; values = λ c. refl }

-- the next value of what is left is that of the whole
next_left : (whole left : Mail) (taken : ℕ → ℕ) (c : ℕ) → IsLeft whole taken left
    → next_value whole taken c ≡ next_value left none_taken c
next_left whole left taken c k = rw (k.values c) (sym (get_drop (taken c) (values_on whole c)))

-- so are the replies
pub replies_left : (whole left : Mail) (taken : ℕ → ℕ) → IsLeft whole taken left → (told : ℕ) (xs : List Access)
    → replies_in whole told taken xs ≡ replies_in left told none_taken xs
replies_left whole left taken k told [] = refl
replies_left whole left taken k told (a ∷ xs) =
    rw (next_left whole left taken a.channel k, replies_left whole left taken k (told_by a.kind told) xs, ← k.outcomes) refl

-- one value of a channel was taken
pub left_more : (whole left more : Mail) (taken : ℕ → ℕ) (c : ℕ) → IsLeft whole taken left → more.outcomes ≡ left.outcomes
    → values_on more c ≡ drop 1 (values_on left c) → ((f : ℕ) → (f ≡ c → ⊥) → values_on more f ≡ values_on left f)
    → IsLeft whole (one_more taken c) more
left_more whole left more taken c k os here others = record {
  outcomes = os ∙ k.outcomes;
  values = λ f.
      elim (eqb_tells c f) [
        | inl e ↦ subst (λ (n : ℕ). values_on more n ≡ drop (one_more taken c n) (values_on whole n)) e.1 next
        | inr e ↦ rw e.0 (others f (λ z. e.1 (sym z)) ∙ k.values f)
      ];
}
  where
    next : values_on more c ≡ drop (one_more taken c c) (values_on whole c)
    next = rw (eq-eqb c c refl) (here ∙ (ap (λ (xs : List ℕ). drop 1 xs) (k.values c) ∙ drop_more (values_on whole c) (taken c)))

-- an access takes a value where its reply does
takes_same : (k : Kind) (o : Option Bool) (v : Option ℕ) (q : Reply) → reply_now k o v ≡ Some q → takes_by k o ≡ takes_value q
takes_same k o v q e = grind arith

-- a loop has taken the values of the replies before this place, and so many outcomes were read
pub record IsTaking (first : Mail) (told : ℕ) (xs : List Access) (left : Mail) (next i : ℕ) : Type 0 where
  pub outcomes : left.outcomes ≡ first.outcomes
  pub before : (qs : List Reply) → replies_in first told none_taken xs ≡ Some qs
      → (rest : List Reply) × ((replies_in first next none_taken (drop i xs) ≡ Some rest)
      × ((whole : Mail) (taken : ℕ → ℕ) → IsLeft whole taken first → (now : ℕ → ℕ)
      × (IsLeft whole now left × (taken_after now (drop i xs) rest ≡ taken_after taken xs qs))))

pub taking_none : (first : Mail) (told : ℕ) (xs : List Access) → IsTaking first told xs first told 0
taking_none first told xs = record {
  outcomes = refl;
  before = λ qs found. (qs, (found, λ whole taken l. (taken, (l, refl))));
}

pub taking_more : (first : Mail) (told : ℕ) (xs : List Access) (left more : Mail) (next now i : ℕ) (a : Access) (o : Option Bool)
    → IsTaking first told xs left next i → drop i xs ≡ a ∷ drop (suc i) xs → o ≡ slice_get left.outcomes next
    → more.outcomes ≡ left.outcomes
    → ((whole : Mail) (taken : ℕ → ℕ) → IsLeft whole taken left
    → IsLeft whole (cond (takes_by a.kind o) (one_more taken a.channel) taken) more)
    → ((v : Option ℕ) → is_none (reply_now a.kind o v) ≡ false → now ≡ told_by a.kind next)
    → IsTaking first told xs more now (suc i)
taking_more first told xs left more next now i a o k d read same takes tells = record {
  outcomes = same ∙ k.outcomes;
  before = λ qs found.
      let (rest, (there, left_so)) = k.before qs found in
      let here : o ≡ slice_get first.outcomes next = read ∙ ap (λ (os : List Bool). slice_get os next) k.outcomes in
      let v = next_value first none_taken a.channel in
      let (q, (rs, (e1, (e2, e3)))) = first_parts (reply_now a.kind (slice_get first.outcomes next) v)
      (replies_in first (told_by a.kind next) none_taken (drop (suc i) xs)) rest (rw d at there) in
      let is : reply_now a.kind o v ≡ Some q = rw here e1 in (
        rs,
        (
          rw (tells v (rw is refl)) e2,
          λ whole taken l.
              let (before, (is_left, after)) = left_so whole taken l in (
                cond (takes_by a.kind o) (one_more before a.channel) before,
                (
                  takes whole before is_left,
                  rw (takes_same a.kind o v q is) (rw (d, e3) at after),
                ),
              ),
        ),
      );
}

pub taking_all : (first : Mail) (told : ℕ) (xs : List Access) (left : Mail) (next i : ℕ) → IsTaking first told xs left next i
    → length xs ≤ i → (whole : Mail) (taken : ℕ → ℕ) → IsLeft whole taken first → (qs : List Reply)
    → replies_in first told none_taken xs ≡ Some qs → IsLeft whole (taken_after taken xs qs) left
taking_all first told xs left next i k l whole taken m qs found =
    let (rest, (there, left_so)) = k.before qs found in
    let (now, (is, same)) = left_so whole taken m in rw (rw (drop_all i xs l) at same) at is
