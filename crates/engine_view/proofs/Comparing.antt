-- The loop that compares a step's outcomes.
use Rattle.std.proofs.Common.{◌≡◌, refl, sym, ap, ◌∙◌, ℕ, zero, suc, ◌+◌, ◌<◌, ◌≤◌, Bool, true, cond, ◌||◌, List, [], ◌∷◌, ◌++◌, length}
use Rattle.std.proofs.Common.{take, drop, get_or, arith, append_assoc, inl, inr, Some}
use Rattle.std.proofs.{lemmas.Bool.cases_Bool, lemmas.List.drop_more, lemmas.List.take_more, lemmas.Option.slice_get-get_or}
use Rattle.std.specs.Prelude.{slice_get}
use Rattle.engine_view.specs.{is_blocking, Access, Lane, Channel, Query, when_possible, answer, possible_by, flag_now, queries_in, flags_by}
use Rattle.engine_view.specs.{as_known, flag_found, found_flags, IsOther}
use Rattle.engine_view.proofs.Adding.{get_drop, drop_next}
use Rattle.flow_word.proofs.Ranges.{some_is}

-- the accesses before this index were found alike, whose queries end before this number
pub record ComparesOn (lanes : List Lane) (channels : List Channel) (cycle : ℕ) (accesses : List Access) (outcomes : List Bool)
    (first index number : ℕ) : Type 0 where
  pub numbered : number ≡ first + queries_in (take index accesses)
  pub alike : flags_by accesses (drop first outcomes)
      ≡ found_flags lanes channels cycle (take index accesses) ++ flags_by (drop index accesses) (drop number outcomes)
  pub within : number ≤ first + index

-- ---- lists that begin alike

seam : {X : Type 0} → (as' bs : List X) (b : X) → slice_get (as' ++ b ∷ bs) (length as') ≡ Some b
seam {X} [] bs b = refl
seam {X} (a ∷ as') bs b = seam as' bs b

front : {X : Type 0} → (as' bs : List X) (i : ℕ) → i < length as' → slice_get (as' ++ bs) i ≡ slice_get as' i
front {X} [] bs i l = absurd (omega arith)
front {X} (a ∷ as') bs zero l = refl
front {X} (a ∷ as') bs (suc i) l = front as' bs i (omega arith)

-- ---- accesses

queries_append : (xs ys : List Access) → queries_in (xs ++ ys) ≡ queries_in xs + queries_in ys
queries_append [] ys = omega arith
queries_append (a ∷ xs) ys = let later = queries_append xs ys in grind arith

queries_one : (a : Access) → queries_in (a ∷ []) ≡ cond (is_blocking a.kind) 0 1
queries_one a = grind arith

pub queries_cons : (a : Access) (xs : List Access) → queries_in (a ∷ xs) ≡ cond (is_blocking a.kind) 0 1 + queries_in xs
queries_cons a xs = grind arith

flags_first : (a : Access) (xs : List Access) (outs : List Bool)
    → flags_by (a ∷ xs) outs ≡ flag_now a.kind (slice_get outs 0) ∷ flags_by xs (cond (is_blocking a.kind) outs (drop 1 outs))
flags_first a xs outs = grind arith

module _ (lanes : List Lane) (channels : List Channel) (c : ℕ) where
  found_append : (xs ys : List Access)
      → found_flags lanes channels c (xs ++ ys) ≡ found_flags lanes channels c xs ++ found_flags lanes channels c ys
  found_append [] ys = refl
  found_append (a ∷ xs) ys = ap (λ (bs : List Bool). flag_found lanes channels c a ∷ bs) (found_append xs ys)

  found_parts : (i : ℕ) (xs : List Access) → found_flags lanes channels c xs ≡ found_flags lanes channels c (take i xs) ++ found_flags lanes
      channels c (drop i xs)
  found_parts zero xs = refl
  found_parts (suc i) [] = refl
  found_parts (suc i) (a ∷ xs) = ap (λ (bs : List Bool). flag_found lanes channels c a ∷ bs) (found_parts i xs)

  found_length : (xs : List Access) (i : ℕ) → i ≤ length xs → length (found_flags lanes channels c (take i xs)) ≡ i
  found_length xs zero l = refl
  found_length [] (suc i) l = absurd (omega arith)
  found_length (a ∷ xs) (suc i) l = ap suc (found_length xs i (omega arith))

  module _ (xs : List Access) (outs : List Bool) (first i n : ℕ) (d : Access) (r : ComparesOn lanes channels c xs outs first i n) where
    abbrev a : Access
    a = get_or xs i d

    abbrev rest : List Bool
    rest = flags_by (drop (i + 1) xs) (drop (n + cond (is_blocking a.kind) 0 1) outs)

    abbrev found : List Bool
    found = found_flags lanes channels c (take i xs)

    here : i < length xs → flags_by xs (drop first outs) ≡ found ++ flag_now a.kind (slice_get outs n) ∷ rest
    here l =
        rw (
          r.alike,
          drop_more xs i d l,
          flags_first a (drop (i + 1) xs) (drop n outs),
          get_drop n outs,
          drop_next (is_blocking a.kind) n outs,
        ) refl

    there : i < length xs → found_flags lanes channels c xs ≡ found ++ flag_found lanes channels c a ∷ found_flags lanes channels c
        (drop (i + 1) xs)
    there l = found_parts i xs ∙ ap (λ (ys : List Access). found ++ found_flags lanes channels c ys) (drop_more xs i d l)

    pub compares_more : (q : ℕ) → i < length xs → flag_now a.kind (slice_get outs n) ≡ flag_found lanes channels c a
        → q ≡ cond (is_blocking a.kind) 0 1 → ComparesOn lanes channels c xs outs first (i + 1) (n + q)
    compares_more q l e s = record {
      numbered =
          let t = ap queries_in (take_more xs i d l) ∙ queries_append (take i xs) (a ∷ []) in
          let o = queries_one a in
          let w = r.numbered in
          omega arith;
      alike = rw (s, take_more xs i d l, found_append (take i xs) (a ∷ []), here l, e)
          (sym (append_assoc found (flag_found lanes channels c a ∷ []) rest));
      within = let w = r.within in grind arith;
    }

    pub compares_not : (owner : ℕ) (q : Query) → i < length xs → (flag_now a.kind (slice_get outs n) ≡ flag_found lanes channels c a → ⊥)
        → q.module ≡ owner → q.number ≡ n → q.kind ≡ a.kind → q.channel ≡ a.channel → q.ordinal ≡ a.ordinal
        → IsOther (flags_by xs (drop first outs)) (found_flags lanes channels c xs) xs owner first q
    compares_not owner q l f em en ek ec eo = record {
      place = i;
      access = a;
      is = slice_get-get_or xs i d l;
      query = elim (cases_Bool (is_blocking a.kind)) [
        | inl e ↦
            absurd (f (ap (λ (b : Bool). cond b true (possible_by a.kind (slice_get outs n))) e
            ∙ sym (ap (λ (b : Bool). b || answer (as_known (when_possible lanes channels a)) c) e)))
        | inr e ↦ e
      ];
      owned = em;
      number = en ∙ r.numbered;
      kind = ek;
      channel = ec;
      ordinal = eo;
      differs = λ e. f (some_is _ _ (sym (at_i (flag_now a.kind (slice_get outs n)) rest _ (here l))
          ∙ (e ∙ at_i (flag_found lanes channels c a) _ _ (there l))));
      before = λ j u. below j u _ _ (here l) ∙ sym (below j u _ _ (there l));
    }
      where
        size : length found ≡ i
        size = found_length xs i (omega arith)

        at_i : (b : Bool) (bs zs : List Bool) → zs ≡ found ++ b ∷ bs → slice_get zs i ≡ Some b
        at_i b bs zs e = ap (λ (ys : List Bool). slice_get ys i) e ∙ (ap (slice_get (found ++ b ∷ bs)) (sym size) ∙ seam found bs b)

        below : (j : ℕ) → j < i → (bs zs : List Bool) → zs ≡ found ++ bs → slice_get zs j ≡ slice_get found j
        below j u bs zs e = ap (λ (ys : List Bool). slice_get ys j) e ∙ front found bs j (let s = size in omega arith)
