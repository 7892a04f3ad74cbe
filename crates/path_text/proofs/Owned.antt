-- The modules at the ends of channels.
use Rattle.std.proofs.Common.{◌≡◌, ℕ, ◌-◌, ◌<◌, Option, Some, List, length, get_or, sym, ◌∙◌, ap, arith, zero-add}
use Rattle.std.proofs.lemmas.List.FromFn.{length-map-range_with_len, get_or-map-range_with_len}
use Rattle.std.proofs.lemmas.List.{ext_get_or, get_or_default}
use Rattle.std.specs.Prelude.{slice_index}
use Rattle.path_text.specs.{Port, Side, Plan, Channel, kind_at, delay_of, no_channel, owner, Link, AreUsers, owners_at, before_link}
use Rattle.flow_word.specs.declared.access.Side.TheVariants.{Pop, Push}

-- ---- the modules of all channels

pub owners_count : (p : Plan) (side : Side) → length (owners_at p side) ≡ length p.design.channels
owners_count p side = length-map-range_with_len (λ f. owner p (record { side = side; channel = f })) 0 (length p.design.channels)

pub owner_at : (p : Plan) (side : Side) (f : ℕ) → f < length p.design.channels
    → slice_index (owners_at p side) f ≡ owner p (record { side = side; channel = f })
owner_at p side f l =
    get_or-map-range_with_len (λ g. owner p (record { side = side; channel = g })) 0 (length p.design.channels) f f 0 l (zero-add f)

-- ---- across a port

pub before_pop : (p : Plan) (l : Link) (a : Port) (pushers : List ℕ) (delay : ℕ) → l.crossed ≡ Some a → a.side ≡ Pop
    → a.channel < length p.design.channels → pushers ≡ owners_at p Push → delay ≡ delay_of (kind_at p a.channel)
    → Some (record { «module» = slice_index pushers a.channel; clock = l.first - delay }) ≡ before_link p l
before_pop p l a pushers delay e s inside known lag =
    let there = ap (λ (xs : List ℕ). slice_index xs a.channel) known ∙ owner_at p Push a.channel inside in
    (λ i. Some (record { «module» = there i; clock = l.first - lag i }))
    ∙ (sym (ap (λ (o : Option Port). before_link p (record l { crossed = o }))
    (ap (λ (t : Side). Some (record { side = t; channel = a.channel })) s))
    ∙ sym (ap (λ (o : Option Port). before_link p (record l { crossed = o })) e))

pub before_push : (p : Plan) (l : Link) (a : Port) (poppers : List ℕ) → l.crossed ≡ Some a → a.side ≡ Push
    → a.channel < length p.design.channels → poppers ≡ owners_at p Pop
    → Some (record { «module» = slice_index poppers a.channel; clock = l.first - 1 }) ≡ before_link p l
before_push p l a poppers e s inside known =
    let there = ap (λ (xs : List ℕ). slice_index xs a.channel) known ∙ owner_at p Pop a.channel inside in
    (λ i. Some (record { «module» = there i; clock = l.first - 1 }))
    ∙ (sym (ap (λ (o : Option Port). before_link p (record l { crossed = o }))
    (ap (λ (t : Side). Some (record { side = t; channel = a.channel })) s))
    ∙ sym (ap (λ (o : Option Port). before_link p (record l { crossed = o })) e))

-- ---- the table

-- where each channel has its module, they are these
pub owned : (p : Plan) (side : Side) (users : List ℕ) → AreUsers p side users → users ≡ owners_at p side
owned p side users are =
    ext_get_or 0 users (owners_at p side) (are.count ∙ sym (owners_count p side))
    (λ f l. are.each f l ∙ sym (owner_at p side f (let n = are.count in omega arith)))

-- the channel at a place
pub channel_is : (all slice : List Channel) (f : ℕ) (d : Channel) → f < length all → slice ≡ all → get_or slice f d
    ≡ get_or all f no_channel
channel_is all slice f d l same = ap (λ (cs : List Channel). get_or cs f d) same ∙ get_or_default all f d no_channel l
