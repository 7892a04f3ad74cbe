-- The loop that adds a step's pushes and pops.
use Rattle.std.proofs.Common.{◌≡◌, refl, sym, ap, subst, ◌∙◌, ℕ, zero, suc, ◌+◌, ◌<◌, ◌≤◌, ◌⊎◌, inl, inr, Bool, true, false, cond, not, eqb}
use Rattle.std.proofs.Common.{◌&&◌, List, [], ◌∷◌, length, drop, get_or, arith}
use Rattle.std.proofs.{lemmas.Bool.cases_Bool, lemmas.Bool.Decides.nat_tests}
use Rattle.std.proofs.lemmas.List.{drop_more, drop_all, drop-drop}
use Rattle.std.proofs.lemmas.List.Elements.{All-head, All-tail, All-weaker, All-append, All-replicate}
use Rattle.std.specs.Prelude.{All, slice_get}
use Rattle.engine_view.specs.{is_blocking, is_taking, same_side, side_of, Side, Access, Place, Channel, AreAllOf, channel_at, places_of}
use Rattle.engine_view.specs.{RoomedChannels, IsAccess, possible_by, flags_by, done_at_once, done_late, with_access, taken_all, kinds_in}
use Rattle.engine_view.specs.{room_of, TakesAt, TakeOncePerPort, HasRoomFor, StandAtOwn, done_by}
use Rattle.engine_view.proofs.Taking.{all_length, all_channel, kind_after, kinds_after, places_after}

-- the accesses before this index were taken, the outcomes of which end before this number
pub record TakesOn (at : Place) (late : Bool) (accesses : List Access) (outcomes : List Bool) (first : ℕ) (old now : RoomedChannels)
    (index number : ℕ) : Type 0 where
  pub channels : taken_all at now.channels (drop index accesses) (done_by late (drop index accesses) (drop number outcomes))
      ≡ taken_all at old.channels accesses (done_by late accesses (drop first outcomes))
  pub kinds : kinds_in now.channels ≡ kinds_in old.channels
  pub within : number ≤ first + index
  pub inside : All (IsAccess now.channels) (drop index accesses)
  pub own : StandAtOwn at.module now.channels (drop index accesses)
  pub apart : TakeOncePerPort (drop index accesses)
  pub rooms : HasRoomFor now (drop index accesses)
  -- a side from which a place was taken is not taken from again
  pub one : (side : Side) (c : ℕ) → (room_of old side c ≤ room_of now side c)
      ⊎ ((room_of old side c ≤ room_of now side c + 1) × All (λ (a : Access). TakesAt side c a → ⊥) (drop index accesses))
  pub others : (side : Side) (c : ℕ) → All (λ (a : Access). TakesAt side c a → ⊥) accesses → room_of old side c ≤ room_of now side c

pub get_drop : {X : Type 0} → (n : ℕ) (xs : List X) → slice_get (drop n xs) 0 ≡ slice_get xs n
get_drop {X} zero xs = refl
get_drop {X} (suc n) [] = refl
get_drop {X} (suc n) (x ∷ xs) = get_drop n xs

pub drop_next : {X : Type 0} → (b : Bool) (n : ℕ) (xs : List X) → cond b (drop n xs) (drop 1 (drop n xs)) ≡ drop (n + cond b 0 1) xs
drop_next {X} true n xs = grind arith
drop_next {X} false n xs = drop-drop 1 n xs

pub takes_init : (at : Place) (late : Bool) (xs : List Access) (outs : List Bool) (first : ℕ) (t : RoomedChannels)
    → All (IsAccess t.channels) xs → StandAtOwn at.module t.channels xs → TakeOncePerPort xs → HasRoomFor t xs
    → TakesOn at late xs outs first t t 0 first
takes_init at late xs outs first t inside own apart rooms = record {
  channels = refl;
  kinds = refl;
  within = omega arith;
  inside = inside;
  own = own;
  apart = apart;
  rooms = rooms;
  one = λ side c. inl (omega arith);
  others = λ side c f. omega arith;
}

-- one access keeps what the others need
one_kept : (at : Place) (channels : List Channel) (a : Access) (b : Bool) (y : Access) → a.channel < length channels → IsAccess channels y
    → IsAccess (cond (is_taking a.kind && b) (with_access (side_of a.kind) at channels a) channels) y
one_kept at channels a b y inside k =
    let inside' : All (λ (q : Access). q.channel < length channels) (a ∷ []) = λ j e l.
    let first : j ≡ 0 = omega arith in rw first inside in
    record {
      channel = let e = all_length at channels (a ∷ []) (b ∷ []) in let l = k.channel in omega arith;
      ordinal = k.ordinal;
      side = rw (
        all_channel at channels (a ∷ []) (b ∷ []) y.channel inside',
        kind_after at y.channel (channel_at channels y.channel)
            (a ∷ []) (b ∷ []),
      ) k.side;
    }

-- it adds only places of the module
own_kept : (at : Place) (channels : List Channel) (a : Access) (b : Bool) (y : Access) → a.channel < length channels
    → AreAllOf at.module (places_of (side_of y.kind) (channel_at channels y.channel))
    → AreAllOf at.module (places_of (side_of y.kind) (channel_at (cond (is_taking a.kind && b)
    (with_access (side_of a.kind) at channels a) channels) y.channel))
own_kept at channels a b y inside own =
    let inside' : All (λ (q : Access). q.channel < length channels) (a ∷ []) = λ j e l.
    let first : j ≡ 0 = omega arith in rw first inside in
    let new = all_channel at channels (a ∷ []) (b ∷ []) y.channel inside' in
    let longer = places_after (side_of y.kind) at y.channel (channel_at channels y.channel) (a ∷ []) (b ∷ []) in
    rw (new, longer) (All-append (λ (p : Place). p.module ≡ at.module) (places_of (side_of y.kind) (channel_at channels y.channel)) _ own
    (All-replicate (λ (p : Place). p.module ≡ at.module) _ at refl))

module _ (at : Place) (late : Bool) (xs : List Access) (outs : List Bool) (first : ℕ) (old now : RoomedChannels) (i n : ℕ) (d : Access)
    (r : TakesOn at late xs outs first old now i n) (l : i < length xs) where
  here : drop i xs ≡ get_or xs i d ∷ drop (i + 1) xs
  here = drop_more xs i d l

  pub access_here : IsAccess now.channels (get_or xs i d)
  access_here = All-head (IsAccess now.channels) (get_or xs i d) (drop (i + 1) xs) (rw here at r.inside)

  pub own_here : AreAllOf at.module (places_of (side_of (get_or xs i d).kind) (channel_at now.channels (get_or xs i d).channel))
  own_here = All-head (λ (q : Access). AreAllOf at.module (places_of (side_of q.kind) (channel_at now.channels q.channel))) (get_or xs i d)
      (drop (i + 1) xs) (rw here at r.own)

  pub room_here : is_taking (get_or xs i d).kind ≡ true → 0 < room_of now (side_of (get_or xs i d).kind) (get_or xs i d).channel
  room_here = All-head (λ (q : Access). is_taking q.kind ≡ true → 0 < room_of now (side_of q.kind) q.channel) (get_or xs i d)
      (drop (i + 1) xs) (rw here at r.rooms)

module _ (at : Place) (late : Bool) (xs : List Access) (outs : List Bool) (first : ℕ) (old now next : RoomedChannels) (i n : ℕ) (d : Access)
    (done : Bool)
    (r : TakesOn at late xs outs first old now i n) (l : i < length xs)
    (is : done ≡ cond (is_blocking (get_or xs i d).kind) (not late) (late && possible_by (get_or xs i d).kind (slice_get outs n)))
    (channels : next.channels ≡ cond (is_taking (get_or xs i d).kind && done) (with_access (side_of (get_or xs i d).kind) at now.channels
    (get_or xs i d)) now.channels)
    (one : (side : Side) (c : ℕ) → room_of now side c ≤ room_of next side c + 1)
    (others : (side : Side) (c : ℕ) → (TakesAt side c (get_or xs i d) → ⊥) → room_of now side c ≤ room_of next side c) where
  abbrev a : Access
  a = get_or xs i d

  abbrev line : drop i xs ≡ a ∷ drop (i + 1) xs
  line = here at late xs outs first old now i n d r l

  apart_here : All (λ (q : Access). is_taking a.kind ≡ true → TakesAt (side_of a.kind) a.channel q → ⊥) (drop (i + 1) xs)
      × TakeOncePerPort (drop (i + 1) xs)
  apart_here = subst TakeOncePerPort line r.apart

  channels_now : taken_all at next.channels (drop (i + 1) xs)
      (done_by late (drop (i + 1) xs) (drop (n + cond (is_blocking a.kind) 0 1) outs))
      ≡ taken_all at old.channels xs (done_by late xs (drop first outs))
  channels_now =
      let flag = get_drop n outs in
      let rest = drop_next (is_blocking a.kind) n outs in
      let before = r.channels in
      let whole = line in
      grind arith

  pub takes_step : TakesOn at late xs outs first old next (i + 1) (n + cond (is_blocking a.kind) 0 1)
  takes_step = record {
    channels = channels_now;
    kinds = ap kinds_in channels ∙ (kinds_after at now.channels a done ∙ r.kinds);
    within = let w = r.within in grind arith;
    inside = rw channels
        (All-weaker (IsAccess now.channels) _ (λ y k. one_kept at now.channels a done y (access_here at late xs outs first old now i n d r
        l).channel k) (drop (i + 1) xs)
        (All-tail (IsAccess now.channels) a (drop (i + 1) xs) (rw line at r.inside)));
    own = rw channels
        (All-weaker (λ (q : Access). AreAllOf at.module (places_of (side_of q.kind) (channel_at now.channels q.channel))) _
        (λ y k. own_kept at now.channels a done y (access_here at late xs outs first old now i n d r l).channel k) (drop (i + 1) xs)
        (All-tail (λ (q : Access). AreAllOf at.module (places_of (side_of q.kind) (channel_at now.channels q.channel))) a (drop (i + 1) xs)
        (rw line at r.own)));
    apart = apart_here.1;
    rooms = λ j e q t.
        let b = get_or (drop (i + 1) xs) j e in
        let room = All-tail (λ (z : Access). is_taking z.kind ≡ true → 0 < room_of now (side_of z.kind) z.channel) a (drop (i + 1) xs)
        (rw line at r.rooms) j e q t in
        let kept = others (side_of b.kind) b.channel
        (λ k. apart_here.0 j e q k.taking (record { taking = t; same_side = sym k.same_side; same_channel = sym k.same_channel })) in
        omega arith;
    one = λ side c. one_now side c (r.one side c);
    others = λ side c f.
        let before = r.others side c f in
        let kept = others side c (f i d l) in
        omega arith;
  }
    where
      tail_free : (side : Side) (c : ℕ) → All (λ (q : Access). TakesAt side c q → ⊥) (drop i xs)
          → (TakesAt side c a → ⊥) × All (λ (q : Access). TakesAt side c q → ⊥) (drop (i + 1) xs)
      tail_free side c f =
          let free : All (λ (q : Access). TakesAt side c q → ⊥) (a ∷ drop (i + 1) xs) = rw line at f in (
            All-head (λ (q : Access). TakesAt side c q → ⊥) a (drop (i + 1) xs) free,
            All-tail (λ (q : Access). TakesAt side c q → ⊥) a (drop (i + 1) xs) free,
          )

      by_side : (side : Side) (c : ℕ) → (TakesAt side c a → ⊥) ⊎ TakesAt side c a
      by_side side c = elim (cases_Bool (is_taking a.kind && (same_side side (side_of a.kind) && eqb c a.channel))) [
        | inl e ↦ inr (grind (arith, nat_tests))
        | inr e ↦ inl (λ k. grind (arith, nat_tests))
      ]

      one_now : (side : Side) (c : ℕ) → (room_of old side c ≤ room_of now side c) ⊎ ((room_of old side c ≤ room_of now side c + 1)
          × All (λ (q : Access). TakesAt side c q → ⊥) (drop i xs))
          → (room_of old side c ≤ room_of next side c) ⊎ ((room_of old side c ≤ room_of next side c + 1)
          × All (λ (q : Access). TakesAt side c q → ⊥) (drop (i + 1) xs))
      one_now side c (inr (q, f)) =
          let (mine, rest) = tail_free side c f in
          let kept = others side c mine in
          inr (omega arith, rest)
      one_now side c (inl q) =
          elim (by_side side c) [
            | inl f ↦ let kept = others side c f in inl (omega arith)
            | inr k ↦
                let less = one side c in
                inr (
                  omega arith,
                  λ j e z t. apart_here.0 j e z k.taking (record {
                    taking = t.taking;
                    same_side = sym k.same_side
                        ∙ t.same_side;
                    same_channel = sym k.same_channel ∙ t.same_channel;
                  }),
                )
          ]

pub takes_end : (at : Place) (late : Bool) (xs : List Access) (outs : List Bool) (first : ℕ) (old now : RoomedChannels) (i n : ℕ)
    → TakesOn at late xs outs first old now i n → length xs ≤ i
    → (now.channels ≡ taken_all at old.channels xs (done_by late xs (drop first outs)))
    × (kinds_in now.channels ≡ kinds_in old.channels)
    × ((side : Side) (c : ℕ) → room_of old side c ≤ room_of now side c + 1)
    × ((side : Side) (c : ℕ) → All (λ (q : Access). TakesAt side c q → ⊥) xs → room_of old side c ≤ room_of now side c)
takes_end at late xs outs first old now i n r l = (
  sym (ap (λ (ys : List Access). taken_all at now.channels ys (done_by late ys (drop n outs))) (drop_all i xs l)) ∙ r.channels,
  r.kinds,
  λ side c. elim (r.one side c) [ inl q ↦ omega arith | inr q ↦ q.0 ],
  r.others,
)

-- ---- the flags

pub done_first : (xs : List Access) (outs : List Bool) → done_by false xs outs ≡ done_at_once xs
done_first [] outs = refl
done_first (a ∷ xs) outs = let here = done_first xs outs in let later = done_first xs (drop 1 outs) in grind arith

pub done_later : (xs : List Access) (outs : List Bool) → done_by true xs outs ≡ done_late xs (flags_by xs outs)
done_later [] outs = refl
done_later (a ∷ xs) outs = let here = done_later xs outs in let later = done_later xs (drop 1 outs) in grind arith
