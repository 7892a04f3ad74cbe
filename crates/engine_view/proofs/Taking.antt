-- What the table has after the accesses of a step.
use Rattle.std.proofs.Common.{◌≡◌, refl, sym, ap, ◌∙◌, ℕ, ◌<◌, Bool, cond, eqb, ◌&&◌, List, [], ◌∷◌, ◌++◌, replicate, length, map, set}
use Rattle.std.proofs.Common.{arith, append-nil, append_assoc}
use Rattle.std.proofs.{Math.Seq.map-set_same, lemmas.Bool.Decides.nat_tests, lemmas.List.Elements.All-head, lemmas.List.Elements.All-tail}
use Rattle.std.proofs.lemmas.List.{replicate-append-replicate, length-set, get_or-set_same, get_or-set_other, map-append}
use Rattle.std.specs.Prelude.{All}
use Rattle.engine_view.specs.{is_taking, side_of, same_side, Side, Access, Place, Pushed, Channel, channel_at, unused, push_of, places_of}
use Rattle.engine_view.specs.{values_of, takes_in, values_in, bare_replies, seen, with_access, taken_all, kinds_in}
use Rattle.flow_word.specs.declared.access.Side.TheVariants.{Pop, Push}
use Rattle.fifo_table.specs.declared.channel.TableChannel.TheVariants.{Sink, Source}

-- ---- one channel

-- with a push or a pop of this one
abbrev grown : Side → Place → Access → Channel → Channel
grown Pop at a channel = record channel { pops = channel.pops ++ at ∷ [] }
grown Push at a channel = record channel { pushes = channel.pushes ++ push_of at a.value ∷ [] }

by_is : (side : Side) (at : Place) (channels : List Channel) (a : Access)
    → with_access side at channels a ≡ set channels a.channel (grown side at a (channel_at channels a.channel))
by_is Pop at channels a = refl
by_is Push at channels a = refl

abbrev after_one : Place → List Channel → Access → Bool → List Channel
after_one at channels a b = cond (is_taking a.kind && b) (with_access (side_of a.kind) at channels a) channels

one_length : (at : Place) (channels : List Channel) (a : Access) (b : Bool) → length (after_one at channels a b) ≡ length channels
one_length at channels a b = grind (arith, by_is, length-set {A = Channel})

-- the channel of this number after one access
abbrev channel_later : Place → Access → Bool → ℕ → Channel → Channel
channel_later at a b c channel = cond (is_taking a.kind && b && eqb a.channel c) (grown (side_of a.kind) at a channel) channel

one_channel : (at : Place) (channels : List Channel) (a : Access) (b : Bool) (c : ℕ) → a.channel < length channels
    → channel_at (after_one at channels a b) c ≡ channel_later at a b c (channel_at channels c)
one_channel at channels a b c inside =
    let same = get_or-set_same channels a.channel (grown (side_of a.kind) at a (channel_at channels a.channel)) (unused Sink) inside in
    let other = get_or-set_other channels a.channel c (grown (side_of a.kind) at a (channel_at channels a.channel)) (unused Sink) in
    grind (arith, by_is, nat_tests)

grown_kind : (side : Side) (at : Place) (a : Access) (channel : Channel) → (grown side at a channel).kind ≡ channel.kind
grown_kind Pop at a channel = refl
grown_kind Push at a channel = refl

one_kinds : (side : Side) (at : Place) (channels : List Channel) (a : Access)
    → kinds_in (with_access side at channels a) ≡ kinds_in channels
one_kinds side at channels a =
    rw (by_is side at channels a) (map-set_same (λ (q : Channel). q.kind) channels a.channel _ (unused Sink) (grown_kind side at a _))

-- each channel is what it was
pub kinds_after : (at : Place) (channels : List Channel) (a : Access) (b : Bool) → kinds_in (after_one at channels a b) ≡ kinds_in channels
kinds_after at channels a b = let same = one_kinds (side_of a.kind) at channels a in grind arith

-- ---- all accesses

pub all_length : (at : Place) (channels : List Channel) (xs : List Access) (bs : List Bool)
    → length (taken_all at channels xs bs) ≡ length channels
all_length at channels [] bs = refl
all_length at channels (a ∷ xs) [] = refl
all_length at channels (a ∷ xs) (b ∷ bs) = all_length at (after_one at channels a b) xs bs ∙ one_length at channels a b

-- the channel of this number after all of them
abbrev pub channel_after : Place → ℕ → Channel → List Access → List Bool → Channel
channel_after at c channel [] bs = channel
channel_after at c channel (a ∷ xs) [] = channel
channel_after at c channel (a ∷ xs) (b ∷ bs) = channel_after at c (channel_later at a b c channel) xs bs

pub all_channel : (at : Place) (channels : List Channel) (xs : List Access) (bs : List Bool) (c : ℕ)
    → All (λ (a : Access). a.channel < length channels) xs
    → channel_at (taken_all at channels xs bs) c ≡ channel_after at c (channel_at channels c) xs bs
all_channel at channels [] bs c inside = refl
all_channel at channels (a ∷ xs) [] c inside = refl
all_channel at channels (a ∷ xs) (b ∷ bs) c inside =
    let here = All-head (λ (a : Access). a.channel < length channels) a xs inside in
    let rest = All-tail (λ (a : Access). a.channel < length channels) a xs inside in
    let same = one_length at channels a b in
    all_channel at (after_one at channels a b) xs bs c (λ j e l. rw same (rest j e l))
    ∙ ap (λ (z : Channel). channel_after at c z xs bs) (one_channel at channels a b c here)

-- ---- what it has more

kind_later : (at : Place) (a : Access) (b : Bool) (c : ℕ) (channel : Channel) → (channel_later at a b c channel).kind ≡ channel.kind
kind_later at a b c channel = grind arith

pub kind_after : (at : Place) (c : ℕ) (channel : Channel) (xs : List Access) (bs : List Bool)
    → (channel_after at c channel xs bs).kind ≡ channel.kind
kind_after at c channel [] bs = refl
kind_after at c channel (a ∷ xs) [] = refl
kind_after at c channel (a ∷ xs) (b ∷ bs) = kind_after at c (channel_later at a b c channel) xs bs ∙ kind_later at a b c channel

-- of one access: the place once more where it takes at this side
places_later : (side s : Side) (t b e : Bool) (at : Place) (a : Access) (channel : Channel)
    → places_of side (cond (t && b && e) (grown s at a channel) channel) ≡ places_of side channel
    ++ replicate (cond (t && (b && (same_side s side && e))) 1 0) at
places_later side s t b e at a channel =
    let pushes = map-append (λ (p : Pushed). p.at) channel.pushes (push_of at a.value ∷ []) in grind (arith, append-nil {A = Place})

-- of all of them: as often as they take at this side, as the theory counts
pub places_after : (side : Side) (at : Place) (c : ℕ) (channel : Channel) (xs : List Access) (bs : List Bool)
    → places_of side (channel_after at c channel xs bs)
    ≡ places_of side channel ++ replicate (takes_in side c (map seen xs) (bare_replies bs)) at
places_after side at c channel [] bs = sym (append-nil (places_of side channel))
places_after side at c channel (a ∷ xs) [] = sym (append-nil (places_of side channel))
places_after side at c channel (a ∷ xs) (b ∷ bs) =
    let later = places_after side at c (channel_later at a b c channel) xs bs in
    let here = places_later side (side_of a.kind) (is_taking a.kind) b (eqb a.channel c) at a channel in
    let all = takes_in side c (map seen xs) (bare_replies bs) in
    grind (arith, append_assoc {A = Place}, replicate-append-replicate {A = Place})

-- ---- values

abbrev pub values_on : Channel → List ℕ
values_on channel = map (λ (p : Pushed). p.value) channel.pushes

values_later : (s : Side) (t b e : Bool) (at : Place) (a : Access) (channel : Channel)
    → values_on (cond (t && b && e) (grown s at a channel) channel) ≡ values_on channel ++ cond (t && (b && (same_side s Push && e)))
    (a.value ∷ []) []
values_later s t b e at a channel =
    let pushes = map-append (λ (p : Pushed). p.value) channel.pushes (push_of at a.value ∷ []) in grind (arith, append-nil {A = ℕ})

pub values_after : (at : Place) (c : ℕ) (channel : Channel) (xs : List Access) (bs : List Bool)
    → values_on (channel_after at c channel xs bs) ≡ values_on channel ++ values_in c (map seen xs) (bare_replies bs)
values_after at c channel [] bs = sym (append-nil (values_on channel))
values_after at c channel (a ∷ xs) [] = sym (append-nil (values_on channel))
values_after at c channel (a ∷ xs) (b ∷ bs) =
    let later = values_after at c (channel_later at a b c channel) xs bs in
    let here = values_later (side_of a.kind) (is_taking a.kind) b (eqb a.channel c) at a channel in
    grind (arith, append_assoc {A = ℕ})

-- a source's values stay, and any other channel's are those that are pushed
pub values_longer : (now before : Channel) (late : List ℕ) → now.kind ≡ before.kind → values_on now ≡ values_on before ++ late
    → ((inputs : List ℕ) → before.kind ≡ Source inputs → late ≡ [])
    → values_of now.kind now.pushes ≡ values_of before.kind before.pushes ++ late
values_longer now before late kind pushed none = let whole = append-nil {A = ℕ} in grind arith
