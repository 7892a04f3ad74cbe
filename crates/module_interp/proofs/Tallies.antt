-- The counts of what a module has done.
use Rattle.std.proofs.Common.{◌≡◌, ℕ, zero, suc, ◌+◌, ◌<◌, ◌≤◌, inl, inr, Bool, true, false, not, cond, List, [], ◌∷◌, ◌++◌, length, take}
use Rattle.std.proofs.Common.{drop, add-one, get_or, set, eqb, refl, sym, ap, subst, arith, ◌∙◌, ◌==◌, length-append}
use Rattle.std.proofs.{lemmas.List.get_or-drop, lemmas.List.length-set, lemmas.List.flat_map_more, lemmas.List.Elements.filter-append}
use Rattle.std.proofs.lemmas.Bool.{cond_both, eq-eqb, ne_eqb, cases_eq}
use Rattle.std.specs.{Prelude.flat_map, Int.from_bool}
use Rattle.module_interp.specs.{is_blocking, side_of, Side, Kind, Request, Reply, uses, is_yes, value_in, queries, paired, Exchange}
use Rattle.module_interp.specs.{popped_value, pushed_value, moved_value, moved_by, Tally, place_in, AreCounts, HasCount, count_at}
use Rattle.module_interp.specs.{IsTallyOf, CountsOneMore, HasPort, KnowsPorts, declared.counts.Counts.Counts}
use Rattle.flow_word.specs.declared.access.Side.TheVariants.{Pop, Push}
use Rattle.flow_word.specs.declared.access.Kind.TheVariants.{Read, Write, TryRead, TryWrite, Empty, Full}
use Rattle.flow_design.specs.{declared.design.Module.Module, declared.state.Reply.TheVariants.Done}
use Rattle.module_code.proofs.Readiness.{fewer_pass}
use Rattle.module_interp.proofs.Places.{place_set}

-- ---- one operation more

moved_push : (side : Side) (f : ℕ) (before : List Exchange) (x : Exchange)
    → length (moved_by side f (before ++ x ∷ []))
    ≡ length (moved_by side f before) + length (cond (x.request.channel == f) (moved_value side x) [])
unfolding moved_by
moved_push side f before x =
    let g = λ (y : Exchange). cond (y.request.channel == f) (moved_value side y) [] in
    ap length (sym (flat_map_more g [] before x)) ∙ length-append (flat_map g before) (g x)

counts_more : (side : Side) (before : List Exchange) (x : Exchange) (t u : Counts) → CountsOneMore side x t u
    → ((f : ℕ) → count_at t f ≡ length (moved_by side f before))
    → (f : ℕ) → count_at u f ≡ length (moved_by side f (before ++ x ∷ []))
counts_more side before x t u k are f =
    let more = moved_push side f before x in let each = k.each f in let old = are f in omega arith

queries_push : (before : List Exchange) (x : Exchange)
    → length (queries (before ++ x ∷ [])) ≡ length (queries before) + from_bool (not (is_blocking x.request.kind))
queries_push before x =
    ap length (filter-append (λ (y : Exchange). not (is_blocking y.request.kind)) before (x ∷ []))
    ∙ (length-append (queries before) (queries (x ∷ []))
    ∙ ap (λ (n : ℕ). length (queries before) + n) (one (not (is_blocking x.request.kind)) refl))
  where
    one : (t : Bool) → not (is_blocking x.request.kind) ≡ t → length (queries (x ∷ [])) ≡ from_bool (not (is_blocking x.request.kind))
    one true e = rw e refl
    one false e = rw e refl

pub tally_more : (before : List Exchange) (x : Exchange) (t u : Tally) → IsTallyOf before t → CountsOneMore Pop x t.popped u.popped
    → CountsOneMore Push x t.pushed u.pushed → u.queries ≡ t.queries + from_bool (not (is_blocking x.request.kind))
    → IsTallyOf (before ++ x ∷ []) u
tally_more before x t u h popped pushed asks = record {
  popped_sound = popped.sound;
  pushed_sound = pushed.sound;
  popped_are = counts_more Pop before x t.popped u.popped popped h.popped_are;
  pushed_are = counts_more Push before x t.pushed u.pushed pushed h.pushed_are;
  queries_are = asks ∙ (ap (λ (k : ℕ). k + from_bool (not (is_blocking x.request.kind))) h.queries_are ∙ sym (queries_push before x));
}

-- a blocking operation moves as many elements on each reply
as_many_popped : (k : Kind) (d e : Bool) (v w : ℕ) → is_blocking k ≡ true → length (popped_value k d v) ≡ length (popped_value k e w)
as_many_popped Read d e v w b = refl
as_many_popped Write d e v w b = refl
as_many_popped TryRead d e v w b = cc
as_many_popped TryWrite d e v w b = refl
as_many_popped Empty d e v w b = refl
as_many_popped Full d e v w b = refl

as_many_pushed : (k : Kind) (d e : Bool) (v : ℕ) → is_blocking k ≡ true → length (pushed_value k d v) ≡ length (pushed_value k e v)
as_many_pushed Read d e v b = refl
as_many_pushed Write d e v b = refl
as_many_pushed TryRead d e v b = refl
as_many_pushed TryWrite d e v b = cc
as_many_pushed Empty d e v b = refl
as_many_pushed Full d e v b = refl

as_many : (side : Side) (r : Request) (a b : Reply) → is_blocking r.kind ≡ true
    → length (moved_value side (record { request = r; reply = a })) ≡ length (moved_value side (record { request = r; reply = b }))
as_many Pop r a b blocking = as_many_popped r.kind (is_yes a) (is_yes b) (value_in a) (value_in b) blocking
as_many Push r a b blocking = as_many_pushed r.kind (is_yes a) (is_yes b) r.value blocking

-- so it is counted as on its own reply
pub tally_on : (before : List Exchange) (r : Request) (a b : Reply) (t : Tally) → (is_blocking r.kind ≡ false → a ≡ b)
    → IsTallyOf (before ++ record { request = r; reply = a } ∷ []) t → IsTallyOf (before ++ record { request = r; reply = b } ∷ []) t
tally_on before r a b t same h = by (is_blocking r.kind) refl
  where
    exchange : Reply → Exchange
    exchange q = record { request = r; reply = q }

    if_there : (there : Bool) (xs ys : List ℕ) → length xs ≡ length ys → length (cond there xs []) ≡ length (cond there ys [])
    if_there true xs ys e = e
    if_there false xs ys e = refl

    moved_same : (side : Side) (f : ℕ) → is_blocking r.kind ≡ true
        → length (moved_by side f (before ++ exchange a ∷ [])) ≡ length (moved_by side f (before ++ exchange b ∷ []))
    moved_same side f blocking =
        moved_push side f before (exchange a)
        ∙ (ap (λ (n : ℕ). length (moved_by side f before) + n) (if_there (r.channel == f) _ _ (as_many side r a b blocking))
        ∙ sym (moved_push side f before (exchange b)))

    by : (t' : Bool) → is_blocking r.kind ≡ t' → IsTallyOf (before ++ exchange b ∷ []) t
    by true e = record {
      popped_sound = h.popped_sound;
      pushed_sound = h.pushed_sound;
      popped_are = λ f. h.popped_are f ∙ moved_same Pop f e;
      pushed_are = λ f. h.pushed_are f ∙ moved_same Push f e;
      queries_are = h.queries_are ∙ (queries_push before (exchange a) ∙ sym (queries_push before (exchange b)));
    }
    by false e = subst (λ (q : Reply). IsTallyOf (before ++ exchange q ∷ []) t) (same e) h

-- an operation that stands at the one side moves nothing at the other
none_popped : (k : Kind) (done : Bool) (v : ℕ) → side_of k ≡ Push → length (popped_value k done v) ≡ 0
none_popped Read done v e = cc
none_popped Write done v e = refl
none_popped TryRead done v e = cc
none_popped TryWrite done v e = refl
none_popped Empty done v e = cc
none_popped Full done v e = refl

none_pushed : (k : Kind) (done : Bool) (v : ℕ) → side_of k ≡ Pop → length (pushed_value k done v) ≡ 0
none_pushed Read done v e = refl
none_pushed Write done v e = cc
none_pushed TryRead done v e = refl
none_pushed TryWrite done v e = cc
none_pushed Empty done v e = refl
none_pushed Full done v e = cc

-- it is counted where it stands
pub counted_here : (side : Side) (x : Exchange) (t u : Counts) → AreCounts t → HasCount t x.request.channel → u.channels ≡ t.channels
    → u.counts ≡ set t.counts (place_in t.channels x.request.channel) (count_at t x.request.channel + length (moved_value side x))
    → CountsOneMore side x t u
counted_here side x t u sound there same counts = record {
  sound = rw (same, counts) (length-set t.counts (place_in t.channels x.request.channel) _ ∙ sound);
  same = same;
  each = each;
}
  where
    each : (f : ℕ) → count_at u f ≡ count_at t f + length (cond (eqb x.request.channel f) (moved_value side x) [])
    each f =
        let c = x.request.channel in
        let v = count_at t c + length (moved_value side x) in
        let now : count_at u f ≡ get_or (set t.counts (place_in t.channels c) v) (place_in t.channels f) 0 = rw (same, counts) refl in
        let (here, aside) = place_set t.channels t.counts sound c f v 0 there in
        elim (cases_eq c f) [
          | inl e ↦
              let set_is = here e in
              let old : count_at t c ≡ count_at t f = ap (count_at t) e in
              let added : length (cond (eqb c f) (moved_value side x) [])
              ≡ length (moved_value side x) = ap (λ (b : Bool). length (cond b (moved_value side x) [])) (eq-eqb c f e) in
              omega arith
          | inr n ↦
              let set_is = aside n in
              let added : length (cond (eqb c f) (moved_value side x) [])
              ≡ 0 = ap (λ (b : Bool). length (cond b (moved_value side x) [])) (ne_eqb c f n) in
              omega arith
        ]

-- what moves nothing is not counted
counted_aside : (side : Side) (x : Exchange) (t : Counts) → AreCounts t → length (moved_value side x) ≡ 0 → CountsOneMore side x t t
counted_aside side x t sound none = record {
  sound = sound;
  same = refl;
  each = λ f. let nothing = by (eqb x.request.channel f) (moved_value side x) none in omega arith;
}
  where
    by : (b : Bool) (xs : List ℕ) → length xs ≡ 0 → length (cond b xs []) ≡ 0
    by true xs e = e
    by false xs e = refl

pub popped_same : (x : Exchange) (t : Counts) → AreCounts t → side_of x.request.kind ≡ Push → CountsOneMore Pop x t t
popped_same x t sound push = counted_aside Pop x t sound (none_popped x.request.kind (is_yes x.reply) (value_in x.reply) push)

pub pushed_same : (x : Exchange) (t : Counts) → AreCounts t → side_of x.request.kind ≡ Pop → CountsOneMore Push x t t
pushed_same x t sound pop = counted_aside Push x t sound (none_pushed x.request.kind (is_yes x.reply) x.request.value pop)

-- ---- bounds

short : {X : Type 0} (f : X → List ℕ) (xs : List X) → ((x : X) → length (f x) ≤ 1) → length (flat_map f xs) ≤ length xs
short f [] one = omega arith
short f (x ∷ xs) one = let rest = short f xs one in let front = one x in omega (arith, length-append (f x) (flat_map f xs))

popped_short : (k : Kind) (done : Bool) (v : ℕ) → length (popped_value k done v) ≤ 1
popped_short Read done v = omega arith
popped_short Write done v = omega arith
popped_short TryRead true v = omega arith
popped_short TryRead false v = omega arith
popped_short TryWrite done v = omega arith
popped_short Empty done v = omega arith
popped_short Full done v = omega arith

pushed_short : (k : Kind) (done : Bool) (v : ℕ) → length (pushed_value k done v) ≤ 1
pushed_short Read done v = omega arith
pushed_short Write done v = omega arith
pushed_short TryRead done v = omega arith
pushed_short TryWrite true v = omega arith
pushed_short TryWrite false v = omega arith
pushed_short Empty done v = omega arith
pushed_short Full done v = omega arith

moved_short : (side : Side) (x : Exchange) → length (moved_value side x) ≤ 1
moved_short Pop x = popped_short x.request.kind (is_yes x.reply) (value_in x.reply)
moved_short Push x = pushed_short x.request.kind (is_yes x.reply) x.request.value

pub moved_few : (side : Side) (f : ℕ) (before : List Exchange) → length (moved_by side f before) ≤ length before
unfolding moved_by
moved_few side f before =
    short (λ (y : Exchange). cond (y.request.channel == f) (moved_value side y) []) before
    (λ x. cond_both (x.request.channel == f) (moved_value side x) [] (λ (vs : List ℕ). length vs ≤ 1) (λ e. moved_short side x)
    (λ e. omega arith))

pub queries_few : (before : List Exchange) → length (queries before) ≤ length before
queries_few before = fewer_pass (λ (x : Exchange). not (is_blocking x.request.kind)) before

-- ---- a step

pub paired_more : (rs : List Request) (qs : List Reply) (i : ℕ) (r d : Request) (q : Reply) → i < length rs
    → r ≡ get_or rs i d → q ≡ get_or qs i Done
    → paired (take (i + 1) rs) qs ≡ paired (take i rs) qs ++ record { request = r; reply = q } ∷ []
paired_more rs qs i r d q l read answer = rw (read, answer, add-one) (by_place rs qs i d l)
  where
    by_place : (rs : List Request) (qs : List Reply) (i : ℕ) (d : Request) → i < length rs
        → paired (take (suc i) rs) qs ≡ paired (take i rs) qs ++ record { request = get_or rs i d; reply = get_or qs i Done } ∷ []
    by_place [] qs i d l = absurd (omega arith)
    by_place (r ∷ rs) qs zero d l = refl
    by_place (r ∷ rs) [] (suc i) d l =
        ap (λ (xs : List Exchange). record { request = r; reply = Done } ∷ xs) (by_place rs [] i d (omega arith))
    by_place (r ∷ rs) (q ∷ qs) (suc i) d l =
        ap (λ (xs : List Exchange). record { request = r; reply = q } ∷ xs) (by_place rs qs i d (omega arith))

pub length-paired : (rs : List Request) (qs : List Reply) → length (paired rs qs) ≡ length rs
length-paired [] qs = refl
length-paired (r ∷ rs) qs = ap suc (length-paired rs (drop 1 qs))

-- the first of what is left after n replies is the reply with the number n
pub next_reply : (qs left : List Reply) (q : Reply) (n : ℕ) → left ≡ drop n qs → q ≡ get_or left 0 Done → q ≡ get_or qs n Done
next_reply qs left q n are is =
    is ∙ (ap (λ (rs : List Reply). get_or rs 0 Done) are ∙ (get_or-drop n qs 0 Done ∙ ap (λ (k : ℕ). get_or qs k Done) (omega arith)))

pub drop_next : (qs left after : List Reply) (n : ℕ) → left ≡ drop n qs → after ≡ drop 1 left → after ≡ drop (n + 1) qs
drop_next qs left after n are is = is ∙ (ap (λ (rs : List Reply). drop 1 rs) are ∙ rw add-one (sym (by qs n)))
  where
    by : (qs : List Reply) (n : ℕ) → drop (suc n) qs ≡ drop 1 (drop n qs)
    by qs zero = refl
    by [] (suc n) = refl
    by (q ∷ qs) (suc n) = by qs n

-- nothing was done
pub tally_none : (t : Tally) → AreCounts t.popped → AreCounts t.pushed → ((f : ℕ) → count_at t.popped f ≡ 0)
    → ((f : ℕ) → count_at t.pushed f ≡ 0) → t.queries ≡ 0 → IsTallyOf [] t
unfolding moved_by
tally_none t popped pushed none_popped none_pushed asks = record {
  popped_sound = popped;
  pushed_sound = pushed;
  popped_are = none_popped;
  pushed_are = none_pushed;
  queries_are = asks;
}

-- ---- ports

pub knows_ports : (m : Module) (t : Tally)
    → ((f : ℕ) → uses (record { side = Pop; channel = f }) m ≡ true → HasPort Pop f t)
    → ((f : ℕ) → uses (record { side = Push; channel = f }) m ≡ true → HasPort Push f t) → KnowsPorts m t
knows_ports m t pops pushes a used = by a.side a.channel used
  where
    by : (side : Side) (f : ℕ) → uses (record { side = side; channel = f }) m ≡ true → HasPort side f t
    by Pop f u = pops f u
    by Push f u = pushes f u

-- the ports stay where the channels do
pub same_ports : (m : Module) (t u : Tally) → u.popped.channels ≡ t.popped.channels → u.pushed.channels ≡ t.pushed.channels
    → KnowsPorts m t → KnowsPorts m u
same_ports m t u popped pushed h = knows_ports m u (λ f used. rw popped (h (record { side = Pop; channel = f }) used))
    (λ f used. rw pushed (h (record { side = Push; channel = f }) used))

pub same_port : (t u : Tally) → u.popped.channels ≡ t.popped.channels → u.pushed.channels ≡ t.pushed.channels → (side : Side) (f : ℕ)
    → HasPort side f t → HasPort side f u
same_port t u popped pushed Pop f h = rw popped h
same_port t u popped pushed Push f h = rw pushed h
