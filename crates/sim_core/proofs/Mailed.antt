-- The replies that are read off a mail are those that the core tells.
use Rattle.std.proofs.Common.{◌≡◌, refl, sym, ap, ap₂, subst, ◌∙◌, ℕ, zero, suc, ◌+◌, Bool, true, false, not, cond, eqb, ltb, ◌&&◌, ◌||◌}
use Rattle.std.proofs.Common.{List, [], ◌∷◌, length, map, drop, get_or, Option, Some, None, slice_get, inl, inr, arith, length-drop}
use Rattle.std.proofs.{lemmas.Bool.Decides.nat_tests, lemmas.Bool.Decides.eqb_tells, lemmas.Bool.cases_Bool, lemmas.Bool.and_from}
use Rattle.std.proofs.lemmas.Option.{slice_get_within, slice_get_past, get_or_from_slice_get}
use Rattle.sim_core.specs.{Kind, same_side, side_of, is_blocking, is_taking, Reply, Request, Exchange, reply_by, access_of, takes_in}
use Rattle.sim_core.specs.{replies_of, all_below, bare_replies, has_query, FlagsFit, told_all, seen_request, queries_in, outcome_by, Mail}
use Rattle.sim_core.specs.{next_value, replies_in, one_more, taken_after, reply_now, put_first, takes_value, told_by, requested_outcomes}
use Rattle.flow_word.specs.declared.access.Side.TheVariants.{Pop}
use Rattle.flow_word.specs.declared.access.Kind.TheVariants.{Read, Write, TryRead, TryWrite, Empty, Full}
use Rattle.flow_design.specs.declared.state.Reply.TheVariants.{Done, Value, Flag, Took, Missed}
use Rattle.flow_word.proofs.Ranges.{some_is}
use Rattle.run_ahead.proofs.Parts.{first_parts}

-- the access takes a value
abbrev pub pops_one : Kind → Bool → Bool
pops_one k b = is_taking k && (same_side (side_of k) Pop && b)

-- ---- one access

record IsFound (k : Kind) (b : Bool) (value : Option ℕ) (front : ℕ) (q : Reply) : Type 0 where
  pub is : q ≡ reply_by k b (cond (pops_one k b) front 0)
  pub took : takes_value q ≡ pops_one k b
  pub there : pops_one k b ≡ true → (v : ℕ) × (value ≡ Some v)

found_one : (k : Kind) (b : Bool) (outcome : Option Bool) (value : Option ℕ) (front : ℕ) (q : Reply) → (is_blocking k ≡ true → b ≡ true)
    → (is_blocking k ≡ false → outcome ≡ Some (outcome_by k b)) → ((v : ℕ) → value ≡ Some v → front ≡ v)
    → reply_now k outcome value ≡ Some q → IsFound k b value front q
found_one k b outcome None front q f o w e = record { is = grind arith; took = grind arith; there = λ z. grind arith }
found_one k b outcome (Some v) front q f o w e =
    let same = w v refl in record { is = grind arith; took = grind arith; there = λ z. (v, refl) }

-- ---- lists

-- a list from some place on begins with the item at that place
pub drop_head : {X : Type 0} → (xs : List X) (n : ℕ) (y : X) (ys : List X) → drop n xs ≡ y ∷ ys → (slice_get xs n ≡ Some y)
    × (drop (suc n) xs ≡ ys)
drop_head [] zero y ys e = cc
drop_head [] (suc n) y ys e = cc
drop_head (x ∷ xs) zero y ys e = (cc, cc)
drop_head (x ∷ xs) (suc n) y ys e = drop_head xs n y ys e

pub drop_none : {X : Type 0} → (xs : List X) (n : ℕ) → drop n xs ≡ [] → slice_get xs n ≡ None
drop_none {X} xs n e = slice_get_past xs n (let none = ap (λ (ys : List X). length ys) e in let long = length-drop n xs in omega arith)

took_is : (k : Kind) (b e : Bool) → (is_taking k && (b && (same_side (side_of k) Pop && e))) ≡ (pops_one k b && e)
took_is k b e = grind arith

more_at : (u : ℕ → ℕ) (c f : ℕ) (h : Bool) → (cond h (one_more u c) u) f ≡ u f + cond {A = ℕ} (h && eqb c f) 1 0
more_at u c f false = omega arith
more_at u c f true = elim (eqb_tells c f) [ inl e ↦ rw e.0 (omega arith) | inr e ↦ rw e.0 (omega arith) ]

-- ---- a step's accesses

pub record AreFound (mail : Mail) (told : ℕ) (taken : ℕ → ℕ) (before : List Exchange) (V : ℕ → List ℕ) (t : ℕ → ℕ) (rs : List Request)
    (bs : List Bool) (qs : List Reply) : Type 0 where
  pub are : qs ≡ told_all rs (replies_of V t (map seen_request rs) bs)
  pub there : all_below (λ (c : ℕ). length (V c)) t (map seen_request rs) bs ≡ true
  pub all_told : drop (told + queries_in (map (access_of before) rs)) mail.outcomes ≡ []
  pub counts : (u : ℕ → ℕ) (f : ℕ)
      → taken_after u (map (access_of before) rs) qs f ≡ u f + takes_in Pop f (map seen_request rs) (bare_replies bs)

-- after one access, of a query or not
go_on : (mail : Mail) (before : List Exchange) (told : ℕ) (r : Request) (rs : List Request) (b : Bool) (bs : List Bool)
    → drop told mail.outcomes ≡ requested_outcomes (r ∷ rs) (b ∷ bs)
    → (is_blocking r.kind ≡ false → slice_get mail.outcomes told ≡ Some (outcome_by r.kind b))
    × ((drop (told_by r.kind told) mail.outcomes ≡ requested_outcomes rs bs)
    × (told + queries_in (map (access_of before) (r ∷ rs)) ≡ told_by r.kind told + queries_in (map (access_of before) rs)))
go_on mail before told r rs b bs e =
    elim (cases_Bool (is_blocking r.kind)) [
      | inl k ↦ (λ z. grind arith, (grind arith, grind arith))
      | inr k ↦
          let (h1, h2) = drop_head mail.outcomes told (outcome_by r.kind b) (requested_outcomes rs bs) (grind arith) in
          (λ z. h1, (grind arith, grind arith))
    ]

module _ (mail : Mail) (taken : ℕ → ℕ) (before : List Exchange) (V : ℕ → List ℕ) (t : ℕ → ℕ)
    (window : (c v : ℕ) → next_value mail taken c ≡ Some v → slice_get (V c) (t c) ≡ Some v)
  where
    front_is : (c v : ℕ) → next_value mail taken c ≡ Some v → get_or (V c) (t c) 0 ≡ v
    front_is c v e = get_or_from_slice_get (V c) (t c) v 0 (window c v e)

    pub read_is : (told : ℕ) (rs : List Request) (bs : List Bool) → FlagsFit (map seen_request rs) bs
        → drop told mail.outcomes ≡ requested_outcomes rs bs
        → (qs : List Reply)
        → replies_in mail told taken (map (access_of before) rs) ≡ Some qs → AreFound mail told taken before V t rs bs qs
    read_is told [] [] f o qs e = record {
      are = sym (some_is [] qs e);
      there = refl;
      all_told = let z : told + 0 ≡ told = omega arith in rw z o;
      counts = λ u c. omega arith;
    }
    read_is told [] (b ∷ bs) f o qs e = absurd f
    read_is told (r ∷ rs) [] f o qs e = absurd f
    read_is told (r ∷ rs) (b ∷ bs) (f, fs) o qs e =
        let (q, (qs', (e1, (e2, e3)))) = first_parts (reply_now r.kind (slice_get mail.outcomes told) (next_value mail taken r.channel))
        (replies_in mail (told_by r.kind told) taken (map (access_of before) rs)) qs e in
        let (h1, (h2, h3)) = go_on mail before told r rs b bs o in
        let one = found_one r.kind b (slice_get mail.outcomes told) (next_value mail taken r.channel)
        (get_or (V r.channel) (t r.channel) 0) q
        f h1 (front_is r.channel) e1 in
        let more = read_is (told_by r.kind told) rs bs fs h2 qs' e2 in
        record {
          are = e3 ∙ ap₂ (λ (x : Reply) (xs : List Reply). x ∷ xs) one.is more.are;
          there = and_from (not (pops_one r.kind b) || ltb (t r.channel) (length (V r.channel)))
              (all_below (λ (c : ℕ). length (V c)) t (map seen_request rs) bs) (below one.there) more.there;
          all_told = ap (λ (n : ℕ). drop n mail.outcomes) h3 ∙ more.all_told;
          counts = λ u c. subst (λ (z : List Reply). taken_after u (map (access_of before) (r ∷ rs)) z c
              ≡ u c + takes_in Pop c (map seen_request (r ∷ rs)) (bare_replies (b ∷ bs))) (sym e3) (counted q qs' one.took more.counts u c);
        }
      where
        below : (pops_one r.kind b ≡ true → (v : ℕ) × (next_value mail taken r.channel ≡ Some v))
            → (not (pops_one r.kind b) || ltb (t r.channel) (length (V r.channel))) ≡ true
        below g =
            elim (cases_Bool (pops_one r.kind b)) [
              | inr k ↦ rw k refl
              | inl k ↦ let (v, y) = g k in
                  let within = slice_get_within (V r.channel) (t r.channel) v (window r.channel v y) in grind (arith, nat_tests)
            ]

        counted : (q : Reply) (qs' : List Reply) → takes_value q ≡ pops_one r.kind b
            → ((u : ℕ → ℕ) (c : ℕ) → taken_after u (map (access_of before) rs) qs' c
            ≡ u c + takes_in Pop c (map seen_request rs) (bare_replies bs))
            → (u : ℕ → ℕ) (c : ℕ)
            → taken_after (cond (takes_value q) (one_more u r.channel) u) (map (access_of before) rs) qs' c
            ≡ u c + (cond {A = ℕ} (is_taking r.kind && (b && (same_side (side_of r.kind) Pop && eqb r.channel c))) 1
            0 + takes_in Pop c (map seen_request rs) (bare_replies bs))
        counted q qs' took more u c =
            let u' = cond (takes_value q) (one_more u r.channel) u in
            let m1 = more u' c in
            let m2 = more_at u r.channel c (takes_value q) in
            let m3 : cond {A = ℕ} (takes_value q && eqb r.channel c) 1 0 ≡ cond {A = ℕ}
            (is_taking r.kind && (b && (same_side (side_of r.kind) Pop && eqb r.channel c))) 1 0 =
            ap (λ (z : Bool). cond {A = ℕ} z 1 0)
            (ap (λ (z : Bool). z && eqb r.channel c) took ∙ sym (took_is r.kind b (eqb r.channel c))) in
            omega arith

-- ---- steps without outcomes

none_found : (k : Kind) (value : Option ℕ) → is_blocking k ≡ false → reply_now k None value ≡ None
none_found k value e = grind arith

-- where no outcome is left and all replies are found, there is no query
pub no_query : (mail : Mail) (told : ℕ) (taken : ℕ → ℕ) (before : List Exchange) (rs : List Request) (qs : List Reply)
    → drop told mail.outcomes ≡ []
    → replies_in mail told taken (map (access_of before) rs) ≡ Some qs → has_query (map seen_request rs) ≡ false
no_query mail told taken before [] qs o e = refl
no_query mail told taken before (r ∷ rs) qs o e =
    let (q, (qs', (e1, (e2, e3)))) = first_parts (reply_now r.kind (slice_get mail.outcomes told) (next_value mail taken r.channel))
    (replies_in mail (told_by r.kind told) taken (map (access_of before) rs)) qs e in
    elim (cases_Bool (is_blocking r.kind)) [
      | inl k ↦ let later = no_query mail told taken before rs qs' o (grind arith) in grind arith
      | inr k ↦
          let none = none_found r.kind (next_value mail taken r.channel) k in
          let gone = drop_none mail.outcomes told o in absurd cc
    ]

pub no_outcomes_of : (rs : List Request) (bs : List Bool) → has_query (map seen_request rs) ≡ false → requested_outcomes rs bs ≡ []
no_outcomes_of [] bs e = refl
no_outcomes_of (r ∷ rs) [] e = refl
no_outcomes_of (r ∷ rs) (b ∷ bs) e = let later = no_outcomes_of rs bs in grind arith

-- ---- a mail that has all replies

some_one : (k : Kind) (b : Bool) (outcome : Option Bool) (value : Option ℕ) → (is_blocking k ≡ true → b ≡ true)
    → (is_blocking k ≡ false → outcome ≡ Some (outcome_by k b))
    → (pops_one k b ≡ true → (v : ℕ) × (value ≡ Some v)) → (q : Reply) × (reply_now k outcome value ≡ Some q)
some_one Read false outcome value f o w = let z = f refl in cc
some_one Read true outcome value f o w = let (v, e) = w refl in (Value v, rw e refl)
some_one Write b outcome value f o w = (Done, refl)
some_one TryRead true outcome value f o w = let (v, e) = w refl in (Took v, rw (o refl, e) refl)
some_one TryRead false outcome value f o w = (Missed, rw (o refl) refl)
some_one TryWrite b outcome value f o w = (Flag b, rw (o refl) refl)
some_one Empty b outcome value f o w = (Flag (not b), rw (o refl) refl)
some_one Full b outcome value f o w = (Flag (not b), rw (o refl) refl)

-- each value that is taken is in the mail
abbrev pub HasValues : Mail → (ℕ → ℕ) → List Request → List Bool → Type 0
HasValues mail taken [] bs = Unit {0}
HasValues mail taken (r ∷ rs) [] = Unit {0}
HasValues mail taken (r ∷ rs) (b ∷ bs) = (pops_one r.kind b ≡ true → (v : ℕ) × (next_value mail taken r.channel ≡ Some v))
    × HasValues mail taken rs bs

pub all_found : (mail : Mail) (taken : ℕ → ℕ) (before : List Exchange) (told : ℕ) (rs : List Request) (bs : List Bool)
    → FlagsFit (map seen_request rs) bs → drop told mail.outcomes ≡ requested_outcomes rs bs
    → HasValues mail taken rs bs → (qs : List Reply) × (replies_in mail told taken (map (access_of before) rs) ≡ Some qs)
all_found mail taken before told [] bs f o h = ([], refl)
all_found mail taken before told (r ∷ rs) [] f o h = absurd f
all_found mail taken before told (r ∷ rs) (b ∷ bs) (f, fs) o (h, hs) =
    let (h1, (h2, h3)) = go_on mail before told r rs b bs o in
    let (q, e) = some_one r.kind b (slice_get mail.outcomes told) (next_value mail taken r.channel) f h1 h in
    let (qs, es) = all_found mail taken before (told_by r.kind told) rs bs fs h2 hs in
    (q ∷ qs, ap₂ put_first e es)
