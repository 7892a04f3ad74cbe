-- The queries that are kept for a walk, access by access.
use Rattle.std.proofs.Common.{◌≡◌, ℕ, zero, suc, ◌+◌, ◌<◌, ◌≤◌, List, [], ◌∷◌, ◌++◌, map, length, take, drop, Bool, true, false, ◌&&◌, cond}
use Rattle.std.proofs.Common.{refl, sym, ◌∙◌, ap, ap₂, subst, arith, get_or, leb, inl, inr, Option, Some, None}
use Rattle.std.proofs.lemmas.Bool.{cases_lt, le-leb, lt-leb}
use Rattle.std.proofs.lemmas.List.{get_or_default, map-append, take_more, take_all}
use Rattle.std.proofs.lemmas.List.Elements.{filter-append, All-from_recursion, recursion_from_All}
use Rattle.std.specs.{Prelude.All, Prelude.AllPairs, Prelude.option_map, List.filter, List.list_any, List.AllByRecursion}
use Rattle.lockstep_defs.proofs.Queue.{all-append}
use Rattle.path_text.specs.{Kind, Side, Plan, FitsEngine, LoggedAccess, before, is_of, Link, Find, LastMissed, PolledLink, AreAccesses}
use Rattle.path_text.specs.{access_clock, ends_poll, from_query, front_pushed, if_some, is_hit, last_poll, latest_one, link_by}
use Rattle.path_text.specs.{missed_before, passing_clocks, polled_link, seeks, AreFinds, AreMissed, by_find, find_clock, found_by, lies_in}
use Rattle.path_text.specs.{last_missed, missed_of, unmissed}
use Rattle.flow_word.specs.declared.access.Kind.TheVariants.{Read, Write, TryRead, TryWrite, Empty, Full}
use Rattle.flow_word.specs.declared.access.Side.TheVariants.{Pop, Push}
use Rattle.stall_text.proofs.Accesses.{log_inside}
use Rattle.path_text.proofs.{Logged.IsTold, Logged.Orderly, Logged.log_orderly, Fronts.accesses_told, Fronts.clocks_rise, Fronts.front_is}
use Rattle.path_text.proofs.{Fronts.hit_parts, Missed.UpTo, Missed.is_from, Missed.last_bounded, Missed.missed_is}
use Rattle.path_text.proofs.Latest.{all_filter, in_turn, mapped, of_all, InTurn}

-- ---- an access between those before it and those after it

pub seam : (log : List LoggedAccess) (k : ℕ) (d : LoggedAccess) → k < length log → log ≡ take k log ++ get_or log k d ∷ drop (suc k) log
seam [] k d l = absurd (omega arith)
seam (a ∷ log) zero d l = refl
seam (a ∷ log) (suc k) d l = ap (λ (xs : List LoggedAccess). a ∷ xs) (seam log k d (omega arith))

pub record IsParted (front : List LoggedAccess) (a : LoggedAccess) (back : List LoggedAccess) : Type 0 where
  pub orderly : Orderly front
  pub before : AllByRecursion (λ b. b.event.cycle ≤ a.event.cycle) front
  pub after : AllByRecursion (λ b. a.event.cycle ≤ b.event.cycle) back

front_of : {X : Type 0} (P : X → Type 0) (xs ys : List X) → AllByRecursion P (xs ++ ys) → AllByRecursion P xs
front_of P [] ys h = tt
front_of P (x ∷ xs) ys h = (h.0, front_of P xs ys h.1)

back_of : {X : Type 0} (P : X → Type 0) (xs ys : List X) → AllByRecursion P (xs ++ ys) → AllByRecursion P ys
back_of P [] ys h = h
back_of P (x ∷ xs) ys h = back_of P xs ys h.1

parted : (front : List LoggedAccess) (a : LoggedAccess) (back : List LoggedAccess) → Orderly (front ++ a ∷ back) → IsParted front a back
parted [] a back h = record { orderly = tt; before = tt; after = h.0 }
parted (b ∷ front) a back h =
    let rest = parted front a back h.1 in
    let from = λ (x : LoggedAccess). b.event.cycle ≤ x.event.cycle in
    record {
      orderly = (front_of from front (a ∷ back) h.0, rest.orderly);
      before = ((back_of from front (a ∷ back) h.0).0, rest.before);
      after = rest.after;
    }

accesses_orderly : (p : Plan) (log : List LoggedAccess) → AreAccesses p log → Orderly log
accesses_orderly p log (inl e) = subst Orderly (sym e) tt
accesses_orderly p log (inr e) = subst Orderly (sym e) (log_orderly p)

-- ---- what is kept so far

abbrev FindsRise : List Find → Type 0
FindsRise finds = InTurn (λ f g. f.access.event.cycle ≤ g.access.event.cycle) finds

-- of the first k accesses
pub record AreFindsOf (p : Plan) (log : List LoggedAccess) (k : ℕ) (finds : List Find) : Type 0 where
  pub in_order : FindsRise finds
  pub early : (c : ℕ) → AllByRecursion (λ a. a.event.cycle ≤ c) (take k log) → AllByRecursion (λ f. find_clock f ≤ c) finds
  pub pushed : AllByRecursion (λ f. f.pushed ≡ front_pushed log f.access.event.channel f.access.event.cycle) finds
  pub each : (l : Link) → map (λ f. f.access) (filter (lies_in l) finds)
      ≡ filter (ends_poll p (filter (is_of l.«module») log) l.first l.last) (filter (is_of l.«module») (take k log))

rise_more : (finds more : List Find) → FindsRise finds → FindsRise more
    → AllByRecursion (λ f. AllByRecursion (λ g. find_clock f ≤ find_clock g) more) finds → FindsRise (finds ++ more)
rise_more [] more h k l = k
rise_more (f ∷ finds) more h k l =
    (all-append (λ g. find_clock f ≤ find_clock g) finds more h.0 l.0, rise_more finds more h.1 k l.1)

-- ---- one access more

abbrev within_by : Bool → ℕ → ℕ → ℕ → Option ℕ → Bool
within_by own x t c None = false
within_by own x t c (Some v) = own && ((leb x c && leb c t) && leb x v)

within_is : (own any : Bool) (x t c : ℕ) (o : Option ℕ) → UpTo c o → (own ≡ true → any ≡ is_from x o)
    → within_by own x t c o ≡ (own && (leb c t && any))
within_is false any x t c None h e = refl
within_is false any x t c (Some v) h e = refl
within_is true any x t c None h e = sym (ap (λ (b : Bool). leb c t && b) (e refl) ∙ no (leb c t))
  where
    no : (b : Bool) → (b && false) ≡ false
    no true = refl
    no false = refl
within_is true any x t c (Some v) h e =
    elim (cases_lt v x) [
      | inl w ↦ rw (lt-leb x v w) (no (leb x c && leb c t) (leb c t))
      | inr w ↦ rw (le-leb x v w) (rw (le-leb x c (omega arith)) refl)
    ]
    ∙ sym (ap (λ (b : Bool). leb c t && b) (e refl))
  where
    no : (a b : Bool) → (a && false) ≡ (b && false)
    no true true = refl
    no true false = refl
    no false true = refl
    no false false = refl

one_access : (test : LoggedAccess → Bool) (own : Bool) (a : LoggedAccess)
    → filter test (cond own (a ∷ []) []) ≡ cond (own && test a) (a ∷ []) []
one_access test true a = refl
one_access test false a = refl

one_find : (l : Link) (hit : Bool) (o : Option ℕ) (a : LoggedAccess) (e : ℕ)
    → map (λ f. f.access) (filter (lies_in l) (if_some (found_by hit o a e)))
    ≡ cond (hit && within_by (is_of l.«module» a) l.first l.last a.event.cycle o) (a ∷ []) []
one_find l false o a e = refl
one_find l true None a e = refl
one_find l true (Some v) a e = by_test (within_by (is_of l.«module» a) l.first l.last a.event.cycle (Some v))
  where
    by_test : (b : Bool)
        → map (λ (f : Find). f.access) (cond b (record { access = a; missed = v; pushed = e } ∷ []) []) ≡ cond b (a ∷ []) []
    by_test true = refl
    by_test false = refl

module _ (p : Plan) (fits : FitsEngine p) (log : List LoggedAccess) (ac : AreAccesses p log) (k : ℕ) (d : LoggedAccess) (l : k < length
    log) where
  abbrev a : LoggedAccess
  a = get_or log k d

  here : IsParted (take k log) a (drop (suc k) log)
  here = parted (take k log) a (drop (suc k) log) (subst Orderly (seam log k d l) (accesses_orderly p log ac))

  told_parts : AllByRecursion (IsTold p) (take k log ++ a ∷ drop (suc k) log)
  told_parts = subst (AllByRecursion (IsTold p)) (seam log k d l) (accesses_told p fits log ac)

  abbrev o : Option ℕ
  o = last_missed (take k log) a.event.kind a.event.channel

  -- whether it ends a poll
  ends_is : (link : Link) → (is_hit p a && within_by (is_of link.«module» a) link.first link.last a.event.cycle o)
      ≡ (is_of link.«module» a && ends_poll p (filter (is_of link.«module») log) link.first link.last a)
  ends_is link = by_hit (is_hit p a) refl
    where
      mine : List LoggedAccess
      mine = filter (is_of link.«module») log

      no : (b : Bool) → (b && false) ≡ false
      no true = refl
      no false = refl

      by_hit : (b : Bool) → is_hit p a ≡ b → (b && within_by (is_of link.«module» a) link.first link.last a.event.cycle o)
          ≡ (is_of link.«module» a && (b && (leb a.event.cycle link.last && list_any (missed_before link.first a) mine)))
      by_hit false e = sym (no (is_of link.«module» a))
      by_hit true e =
          within_is (is_of link.«module» a) (list_any (missed_before link.first a) mine) link.first link.last a.event.cycle o
          (last_bounded a.event.kind a.event.channel a.event.cycle (take k log) here.before)
          (λ own. missed_is p a ((back_of (IsTold p) (take k log) (a ∷ drop (suc k) log) told_parts).0) e link.«module» link.first own log
          (take k log) (drop (suc k) log) (seam log k d l) (front_of (IsTold p) (take k log) (a ∷ drop (suc k) log) told_parts)
          here.orderly here.before here.after)

  -- what is kept of it
  pub found_is : (missed : Option ℕ) (e : ℕ) → (seeks a.event.kind ≡ true → missed ≡ o)
      → found_by (is_hit p a) missed a e ≡ found_by (is_hit p a) o a e
  found_is missed e same = by_hit (is_hit p a) refl
    where
      by_hit : (b : Bool) → is_hit p a ≡ b → found_by b missed a e ≡ found_by b o a e
      by_hit false h = refl
      by_hit true h = ap (λ (m : Option ℕ). found_by true m a e) (same (hit_parts p a h).seeks)

  kept_clock : (hit : Bool) (missed : Option ℕ) (e : ℕ) (P : ℕ → Type 0) → P a.event.cycle
      → AllByRecursion (λ f. P (find_clock f)) (if_some (found_by hit missed a e))
  kept_clock false missed e P h = tt
  kept_clock true None e P h = tt
  kept_clock true (Some v) e P h = (h, tt)

  kept_push : (hit : Bool) (missed : Option ℕ) (e : ℕ) → e ≡ front_pushed log a.event.channel a.event.cycle
      → AllByRecursion (λ f. f.pushed ≡ front_pushed log f.access.event.channel f.access.event.cycle) (if_some (found_by hit missed a e))
  kept_push false missed e h = tt
  kept_push true None e h = tt
  kept_push true (Some v) e h = (h, tt)

  kept_rises : (hit : Bool) (missed : Option ℕ) (e : ℕ) → FindsRise (if_some (found_by hit missed a e))
  kept_rises false missed e = tt
  kept_rises true None e = tt
  kept_rises true (Some v) e = (tt, tt)

  before_all : (finds more : List Find) → AllByRecursion (λ f. find_clock f ≤ a.event.cycle) finds
      → AllByRecursion (λ g. a.event.cycle ≤ find_clock g) more → AllByRecursion (λ f. AllByRecursion (λ g. find_clock f ≤ find_clock g)
      more) finds
  before_all [] more h m = tt
  before_all (f ∷ finds) more h m = (each more m, before_all finds more h.1 m)
    where
      each : (more : List Find) → AllByRecursion (λ g. a.event.cycle ≤ find_clock g) more → AllByRecursion (λ g. find_clock f ≤ find_clock
          g) more
      each [] m = tt
      each (g ∷ more) m = (let x = h.0 in let y = m.0 in omega arith, each more m.1)

  next : (finds new : List Find) (missed : Option ℕ) (e : ℕ) → AreFindsOf p log k finds → (seeks a.event.kind ≡ true → missed ≡ o)
      → e ≡ front_pushed log a.event.channel a.event.cycle → new ≡ finds ++ if_some (found_by (is_hit p a) missed a e)
      → AreFindsOf p log (k + 1) new
  next finds new missed e h same pushed q =
      let kept = if_some (found_by (is_hit p a) missed a e) in
      let more = take_more log k d l in
      record {
        in_order = subst FindsRise (sym q)
            (rise_more finds kept h.in_order (kept_rises (is_hit p a) missed e)
            (before_all finds kept (h.early a.event.cycle here.before)
            (kept_clock (is_hit p a) missed e (λ c. a.event.cycle ≤ c) (omega arith))));
        early = λ c all.
            let parts = subst (AllByRecursion (λ b. b.event.cycle ≤ c)) more all in
            subst (AllByRecursion (λ f. find_clock f ≤ c)) (sym q)
            (all-append (λ f. find_clock f ≤ c) finds kept
            (h.early c (front_of (λ b. b.event.cycle ≤ c) (take k log) (a ∷ []) parts))
            (kept_clock (is_hit p a) missed e (λ x. x ≤ c) (back_of (λ b. b.event.cycle ≤ c) (take k log) (a ∷ []) parts).0));
        pushed = subst (AllByRecursion (λ f. f.pushed ≡ front_pushed log f.access.event.channel f.access.event.cycle)) (sym q)
            (all-append (λ f. f.pushed ≡ front_pushed log f.access.event.channel f.access.event.cycle) finds kept h.pushed
            (kept_push (is_hit p a) missed e pushed));
        each = λ link.
            let test = ends_poll p (filter (is_of link.«module») log) link.first link.last in
            let own = is_of link.«module» in
            ap (λ (fs : List Find). map (λ f. f.access) (filter (lies_in link) fs)) q
            ∙ (ap (map (λ f. f.access)) (filter-append (lies_in link) finds kept)
            ∙ (map-append (λ f. f.access) (filter (lies_in link) finds) (filter (lies_in link) kept)
            ∙ (ap₂ (λ (xs ys : List LoggedAccess). xs ++ ys) (h.each link)
            (ap (λ (f : Option Find). map (λ f. f.access) (filter (lies_in link) (if_some f))) (found_is missed e same)
            ∙ (one_find link (is_hit p a) o a e
            ∙ (ap (λ (b : Bool). cond b (a ∷ []) []) (ends_is link) ∙ sym (one_access test (own a) a))))
            ∙ sym (ap (λ (xs : List LoggedAccess). filter test (filter own xs)) more
            ∙ (ap (filter test) (filter-append own (take k log) (a ∷ []))
            ∙ filter-append test (filter own (take k log)) (filter own (a ∷ [])))))));
      }

pub finds_next : (p : Plan) → FitsEngine p → (log : List LoggedAccess) → AreAccesses p log → (k : ℕ) (d : LoggedAccess) → k < length log
    → (finds new : List Find) (missed : Option ℕ) (e : ℕ) → AreFindsOf p log k finds
    → (seeks (get_or log k d).event.kind ≡ true
    → missed ≡ last_missed (take k log) (get_or log k d).event.kind (get_or log k d).event.channel)
    → e ≡ front_pushed log (get_or log k d).event.channel (get_or log k d).event.cycle
    → new ≡ finds ++ if_some (found_by (is_hit p (get_or log k d)) missed (get_or log k d) e)
    → AreFindsOf p log (k + 1) new
finds_next p fits log ac k d l finds new missed e h same pushed q = next p fits log ac k d l finds new missed e h same pushed q

pub finds_none : (p : Plan) (log : List LoggedAccess) (finds : List Find) → finds ≡ [] → AreFindsOf p log 0 finds
finds_none p log finds e = subst (AreFindsOf p log 0) (sym e) (record { in_order = tt; early = λ c h. tt; pushed = tt; each = λ l. refl })

pub finds_all : (p : Plan) (log : List LoggedAccess) (finds : List Find) (k : ℕ) → k ≡ length log → AreFindsOf p log k finds
    → AreFinds p log finds
finds_all p log finds k e h =
    let all = take_all k log (omega arith) in
    record {
      in_order = in_turn (λ f g. f.access.event.cycle ≤ g.access.event.cycle) finds h.in_order;
      pushed = All-from_recursion (λ f. f.pushed ≡ front_pushed log f.access.event.channel f.access.event.cycle) finds h.pushed;
      each = λ l. h.each l
          ∙ ap (λ (xs : List LoggedAccess). filter (ends_poll p (filter (is_of l.«module») log) l.first l.last) (filter (is_of l.«module»)
          xs)) all;
    }

-- ---- the link that a walk takes

by_find_is : (p : Plan) (log : List LoggedAccess) (finds : List Find) → AreFinds p log finds → (l : Link)
    → by_find l (latest_one find_clock (filter (lies_in l) finds)) ≡ polled_link p log l
by_find_is p log finds h l = by_latest (latest_one find_clock (filter (lies_in l) finds)) refl
  where
    same : (o : Option Find) → latest_one find_clock (filter (lies_in l) finds) ≡ o → option_map (λ f. f.access) o ≡ last_poll p log l
    same o e =
        ap (option_map (λ f. f.access)) (sym e)
        ∙ (mapped (λ f. f.access) access_clock (filter (lies_in l) finds) ∙ ap (latest_one access_clock) (h.each l))

    by_latest : (o : Option Find) → latest_one find_clock (filter (lies_in l) finds) ≡ o → by_find l o ≡ link_by log l (last_poll p log l)
    by_latest None e = ap (link_by log l) (same None e)
    by_latest (Some f) e =
        let pushed = of_all find_clock (λ g. g.pushed ≡ front_pushed log g.access.event.channel g.access.event.cycle)
        (filter (lies_in l) finds)
        (all_filter (λ g. g.pushed ≡ front_pushed log g.access.event.channel g.access.event.cycle)
        (λ g. g.pushed ≡ front_pushed log g.access.event.channel g.access.event.cycle) (lies_in l) (λ g x t. x) finds
        (recursion_from_All (λ g. g.pushed ≡ front_pushed log g.access.event.channel g.access.event.cycle) finds h.pushed)) f e in
        ap (from_query l f.access) pushed ∙ ap (link_by log l) (same (Some f) e)

pub step_is : (p : Plan) (log : List LoggedAccess) (finds slice : List Find) (l m : Link) (step : PolledLink) → AreFinds p log finds
    → slice ≡ finds → l ≡ m → step ≡ by_find l (latest_one find_clock (filter (lies_in l) slice)) → step ≡ polled_link p log m
step_is p log finds slice l m step h same e s =
    s
    ∙ (ap₂ (λ (k : Link) (fs : List Find). by_find k (latest_one find_clock (filter (lies_in k) fs))) e same ∙ by_find_is p log finds h m)

-- ---- what is kept of an access

pub channels_inside : (p : Plan) → FitsEngine p → (log : List LoggedAccess) → AreAccesses p log
    → All (λ a. a.event.channel < length p.design.channels) log
channels_inside p fits log (inl e) = subst (All (λ a. a.event.channel < length p.design.channels)) (sym e) (λ k d l. absurd (omega arith))
channels_inside p fits log (inr e) = subst (All (λ a. a.event.channel < length p.design.channels)) (sym e) (log_inside p fits)

pub kept_at : (log : List LoggedAccess) (side : Side) (lists slice : List (List ℕ)) (f : ℕ) (found : List ℕ) → found ≡ get_or slice f found
    → slice ≡ lists → f < length lists → get_or lists f [] ≡ passing_clocks log side f → found ≡ passing_clocks log side f
kept_at log side lists slice f found is same l there =
    is ∙ (ap (λ (all : List (List ℕ)). get_or all f found) same ∙ (get_or_default lists f found [] l ∙ there))

pub moved_rise : (p : Plan) (log : List LoggedAccess) → AreAccesses p log → (side : Side) (f : ℕ)
    → AllPairs (λ a b. a ≤ b) (passing_clocks log side f)
moved_rise p log (inl e) side f =
    subst (λ (xs : List LoggedAccess). AllPairs (λ a b. a ≤ b) (passing_clocks xs side f)) (sym e) (λ i j d l m. absurd (omega arith))
moved_rise p log (inr e) side f =
    subst (λ (xs : List LoggedAccess). AllPairs (λ a b. a ≤ b) (passing_clocks xs side f)) (sym e) (clocks_rise p side f)

pub front_there : (p : Plan) → FitsEngine p → (log : List LoggedAccess) → AreAccesses p log → (k : ℕ) (d : LoggedAccess) → k < length log
    → is_hit p (get_or log k d) ≡ true
    → before (passing_clocks log Pop (get_or log k d).event.channel) (get_or log k d).event.cycle
    < length (passing_clocks log Push (get_or log k d).event.channel)
front_there p fits log (inl e) k d l hit = let none = ap length e in absurd (omega arith)
front_there p fits log (inr e) k d l hit =
    (front_is p fits log e (get_or log k d)
    (All-from_recursion (IsTold p) log (accesses_told p fits log (inr e)) k d l) hit).there

pub last_is_kept : (channels : ℕ) (log : List LoggedAccess) (missed slice : List LastMissed) (f : ℕ) (kind : Kind)
    → AreMissed channels log missed → f < channels → slice ≡ missed → seeks kind ≡ true
    → missed_of (get_or slice f unmissed) kind ≡ last_missed log kind f
last_is_kept channels log missed slice f kind h l same s =
    ap (λ (ms : List LastMissed). missed_of (get_or ms f unmissed) kind) same ∙ by_kind kind s
  where
    by_kind : (kind : Kind) → seeks kind ≡ true → missed_of (get_or missed f unmissed) kind ≡ last_missed log kind f
    by_kind TryRead s = h.tryread f l
    by_kind Empty s = h.empty f l
    by_kind Read s = absurd cc
    by_kind Write s = absurd cc
    by_kind TryWrite s = absurd cc
    by_kind Full s = absurd cc
