-- Room stays while modules act.
use Rattle.std.proofs.Common.{◌≡◌, refl, sym, ap, subst, ◌∙◌, ℕ, zero, suc, ◌+◌, ◌-◌, ◌*◌, ◌<◌, ◌≤◌, inl, inr, true, false, List, [], ◌∷◌}
use Rattle.std.proofs.Common.{length, map, get_or, set, arith}
use Rattle.std.proofs.{lemmas.Bool.Decides.nat_tests, lemmas.Bool.cond-false, lemmas.Bool.cases_lt}
use Rattle.std.proofs.lemmas.List.{get_or-set_same, get_or-set_other}
use Rattle.std.specs.Prelude.{All}
use Rattle.engine_view.specs.{side_of, same_side, Side, Step, Access, RoomedChannels, Channel, log_at, IsAccess, Design, IsDesign, Each}
use Rattle.engine_view.specs.{ready, takers, takes_at, AreOwnMarks, MayRun, newest, emit_step, step_of, emitted_of, seen, queries_in}
use Rattle.engine_view.specs.{are_among, core_of, held_parts, IsSound, queries_before, Engine, held_in, over_of, IsNextStep, with_emitted}
use Rattle.engine_view.specs.{place_of, done_at_once, query_bound, room_of, TakesAt, TakeOncePerPort, HasRoomFor, StandAtOwn, UsesRoom}
use Rattle.engine_view.specs.{pending, HasRoom, IsRoomy, Held.Held}
use Rattle.event_timing.specs.Core.{Core}
use Rattle.event_timing.proofs.Assigning.{put_same, put_other, put_at_other}
use Rattle.engine_view.proofs.{Taking.all_length, Emitted.there, Emitted.queries_same, Emitted.emitted_core}
use Rattle.engine_view.proofs.Answered.{queries_step, queries_zero, all_among}
use Rattle.event_timing.specs.Machines as theory

-- ---- accesses of a step

side_is : (p : Side) → same_side p p ≡ true
side_is p = grind arith

pub takes_seen : (side : Side) (c : ℕ) (a : Access) → TakesAt side c a → takes_at side c (seen a) ≡ true
takes_seen side c a k = let same = side_is (side_of a.kind) in grind (arith, nat_tests)

some_taker : (side : Side) (c : ℕ) (xs : List Access) (j : ℕ) (e : Access) → j < length xs → TakesAt side c (get_or xs j e)
    → 1 ≤ takers side c (map seen xs)
some_taker side c [] j e l k = absurd (omega arith)
some_taker side c (a ∷ xs) zero e l k = rw (takes_seen side c a k) (omega arith)
some_taker side c (a ∷ xs) (suc j) e l k = let r = some_taker side c xs j e (omega arith) k in omega arith

-- where each side of each channel is taken from at most once
pub apart_of : (xs : List Access) → ((side : Side) (c : ℕ) → takers side c (map seen xs) ≤ 1) → TakeOncePerPort xs
apart_of [] f = tt
apart_of (a ∷ xs) f = (
  λ j e l t k.
      let mine = takes_seen (side_of a.kind) a.channel a (record { taking = t; same_side = refl; same_channel = refl }) in
      let all = f (side_of a.kind) a.channel in
      let most = rw mine at all in
      let more = some_taker (side_of a.kind) a.channel xs j e l k in
      absurd (omega arith),
  apart_of xs (λ side c. let l = f side c in omega arith),
)

-- what takes at most once a port uses at most as much room there as it takes
pub used_taken : {m : ℕ} {xs : List Access} {lanes lanes' : List ℕ} {table table' : RoomedChannels}
    → UsesRoom m xs lanes lanes' table table' → (side : Side) (c : ℕ)
    → room_of table side c ≤ room_of table' side c + takers side c (map seen xs)
used_taken {m} {xs} {lanes} {lanes'} {table} {table'} used side c = elim (cases_lt 0 (takers side c (map seen xs))) [
  | inl l ↦ let one = used.one side c in omega arith
  | inr l ↦ let others = used.others side c (λ j e inside k. let some = some_taker side c xs j e inside k in omega arith) in omega arith
]

-- what holds of each access as the theory sees it holds of the one of this number
pub each_at : (P : theory.Access → Type 0) (xs : List Access) → Each P (map seen xs) → (j : ℕ) (e : Access) → j < length xs
    → P (seen (get_or xs j e))
each_at P [] p j e l = absurd (omega arith)
each_at P (a ∷ xs) p zero e l = p.0
each_at P (a ∷ xs) p (suc j) e l = each_at P xs p.1 j e (omega arith)

pub free_side : {S : Type 0} → (d : Design S) (m : ℕ) (xs : List Access) → Each (λ a. d.owner a.side a.channel ≡ m) (map seen xs)
    → (side : Side) (c : ℕ) → (d.owner side c ≡ m → ⊥)
    → All (λ (a : Access). TakesAt side c a → ⊥) xs
free_side {S} d m xs p side c f j e l k =
    let own = each_at (λ a. d.owner a.side a.channel ≡ m) xs p j e l in f (rw (k.same_side, k.same_channel) own)

pub room_for : {S : Type 0} → (d : Design S) (h : Held) (lanes : List ℕ) (table : RoomedChannels) (logs credits : List ℕ)
    → HasRoom d h lanes table logs credits → (m : ℕ) (xs : List Access)
    → 0 < get_or credits m 0 + pending (core_of d h) m → All (IsAccess h.channels) xs
    → Each (λ a. d.owner a.side a.channel ≡ m) (map seen xs) → HasRoomFor table xs
room_for {S} d h lanes table logs credits r m xs some inside owned j e l t =
    let a = get_or xs j e in
    let k = inside j e l in
    let own = each_at (λ a. d.owner a.side a.channel ≡ m) xs owned j e l in
    let room = rw own at (r.ends (side_of a.kind) a.channel k.channel) in
    omega arith

-- at each of module m's ports there is room for what these accesses take, for what they may take later, and for the credit that is
-- left after their step
abbrev pub IsEnoughFor : {S : Type 0} → Design S → Held → ℕ → List Access → RoomedChannels → List ℕ → Type 0
IsEnoughFor {S} d h m xs table credits = (side : Side) (c : ℕ) → c < length h.channels → d.owner side c ≡ m
    → (get_or credits m 0 - 2) + 1 + takers side c (map seen xs) ≤ room_of table side c

-- the places at a side of a channel are of its owner
pub own_for : {S : Type 0} → (d : Design S) (h : Held) → IsSound d h → (m : ℕ) (xs : List Access) → All (IsAccess h.channels) xs
    → Each (λ a. d.owner a.side a.channel ≡ m) (map seen xs) → StandAtOwn m h.channels xs
own_for {S} d h s m xs inside owned j e l i p u =
    let a = get_or xs j e in
    let owner = each_at (λ a. d.owner a.side a.channel ≡ m) xs owned j e l in
    let places = s.taken (side_of a.kind) a.channel (inside j e l).channel in
    (places.each i p u).owner ∙ owner

pub few_queries : (xs : List Access) → queries_in xs ≤ length xs
few_queries [] = omega arith
few_queries (a ∷ xs) = let later = few_queries xs in grind arith

pub pending_most : {S : Type 0} → (x : Core S) (m : ℕ) → pending x m ≤ 1
unfolding pending
pending_most {S} x m = grind arith

pub pending_same : {S : Type 0} → (x y : Core S) (m : ℕ) → x.emitted m ≡ y.emitted m → ((k : ℕ) → x.answered m k ≡ y.answered m k)
    → pending x m ≡ pending y m
unfolding pending
pending_same {S} x y m e f = rw (f (x.emitted m - 1), e) refl

-- a module that may run has all outcomes of its queries
pub all_there : {S : Type 0} → (d : Design S) (h : Held) → IsSound d h → AreOwnMarks d (core_of d h) → (m : ℕ) → MayRun d (core_of d h) m
    → queries_before h m (emitted_of h m) ≤ length (log_at h.logs m).outcomes
all_there {S} d h s b m r =
    all_among h m (emitted_of h m) (length (log_at h.logs m).outcomes) (λ k l. s.first_query m k l) (λ k l. there_at k l)
  where
    there_at : (k : ℕ) → k < emitted_of h m → are_among (step_of h m k) (length (log_at h.logs m).outcomes) ≡ true
    there_at k l = let replied = b.replied m k in let answered = r.answered k in grind (arith, nat_tests)

-- ---- a step more

module _ {S : Type 0} (d : Design S) (i : IsDesign d) (h : Held) (m : ℕ) (t : Step) (next : IsNextStep d h m t) where
  pub owned_next : Each (λ a. d.owner a.side a.channel ≡ m) (map seen t.accesses)
  owned_next = subst (Each (λ a. d.owner a.side a.channel ≡ m)) next.accesses (i.owned m (ready d m (newest d (core_of d h) m)))

  once_next : (side : Side) (c : ℕ) → takers side c (map seen t.accesses) ≤ 1
  once_next side c = subst (λ (xs : List theory.Access). takers side c xs ≤ 1) next.accesses
      (i.single side m (ready d m (newest d (core_of d h) m)) c)

  pub apart_next : TakeOncePerPort t.accesses
  apart_next = apart_of t.accesses once_next

  pub own_next : IsSound d h → StandAtOwn m h.channels t.accesses
  own_next s = own_for d h s m t.accesses next.inside owned_next

  pub room_for_next : (table : RoomedChannels) (credits : List ℕ) → IsEnoughFor d h m t.accesses table credits
      → HasRoomFor table t.accesses
  room_for_next table credits enough j e l k =
      let a = get_or t.accesses j e in
      let own = each_at (λ a. d.owner a.side a.channel ≡ m) t.accesses owned_next j e l in
      let room = enough (side_of a.kind) a.channel (next.inside j e l).channel own in
      let some = some_taker (side_of a.kind) a.channel t.accesses j e l (record { taking = k; same_side = refl; same_channel = refl }) in
      omega arith

  -- where the credit suffices for one step, there is enough
  pub rich_next : {lanes : List ℕ} {table : RoomedChannels} {logs credits : List ℕ} → HasRoom d h lanes table logs credits
      → 2 ≤ get_or credits m 0 → IsEnoughFor d h m t.accesses table credits
  rich_next {lanes} {table} {logs} {credits} r rich side c l own =
      let room = rw own at (r.ends side c l) in let once = once_next side c in omega arith

module _ {S : Type 0} (d : Design S) (i : IsDesign d) (h : Held) (m : ℕ) (t : Step) (inside : m < length h.lanes) (s : IsSound d h)
    (next : IsNextStep d h m t)
    (b : AreOwnMarks d (core_of d h)) (r : MayRun d (core_of d h) m) (lives : d.is_over m (ready d m (newest d (core_of d h) m))
    ≡ false) where
  abbrev x : Core S
  x = core_of d h

  abbrev g : Held
  g = with_emitted h m t

  is : core_of d g ≡ emit_step d x m (newest d x m)
  is = (emitted_core d i h m t inside s next b r lives).0 ∙ cond-false {A = Core S} (d.is_over m (ready d m (newest d x m))) _ _ lives

  pending_other : (n : ℕ) → (n ≡ m → ⊥) → pending (core_of d g) n ≡ pending x n
  pending_other n f =
      ap (λ (q : Core S). pending q n) is
      ∙ pending_same (emit_step d x m (newest d x m)) x n (put_other x.emitted m (suc (x.emitted m)) n f)
      (λ k. put_at_other x.answered m (x.emitted m) _ n k (λ e q. f e))

  emitted_same : emitted_of g m ≡ suc (emitted_of h m)
  emitted_same = ap (λ (q : Core S). q.emitted m) is ∙ put_same x.emitted m (suc (x.emitted m))

  emitted_else : (n : ℕ) → (n ≡ m → ⊥) → emitted_of g n ≡ emitted_of h n
  emitted_else n f = ap (λ (q : Core S). q.emitted n) is ∙ put_other x.emitted m (suc (x.emitted m)) n f

  queries_now : queries_before g m (emitted_of g m) ≡ queries_before h m (emitted_of h m) + queries_in t.accesses
  queries_now =
      let same = queries_same d i h m t inside m (emitted_of h m) (omega arith) in
      rw (emitted_same, queries_step g m (emitted_of h m), there d i h m t inside, same) refl

  queries_else : (n : ℕ) → (n ≡ m → ⊥) → queries_before g n (emitted_of g n) ≡ queries_before h n (emitted_of h n)
  queries_else n f = rw (emitted_else n f) (queries_same d i h m t inside n (emitted_of h n) (omega arith))

  pub room_emitted : (lanes lanes' : List ℕ) (table table' : RoomedChannels) (logs credits : List ℕ) → HasRoom d h lanes table logs credits
      → m < length credits → IsEnoughFor d h m t.accesses table credits
      → UsesRoom m t.accesses lanes lanes' table table' → queries_in t.accesses ≤ get_or logs m 0
      → t.first_query + queries_in t.accesses < query_bound
      → HasRoom d g lanes' table' logs (set credits m (get_or credits m 0 - 2))
  room_emitted lanes lanes' table table' logs credits old known enough used log_room few =
      let mine = get_or-set_same credits m (get_or credits m 0 - 2) 0 known in
      let rest = λ (n : ℕ). get_or-set_other credits m n (get_or credits m 0 - 2) 0 in
      let first = next.first_query in
      let all = all_there d h s b m r in
      record {
        ends = λ side c l. let e = all_length (place_of m (emitted_of h m)) h.channels t.accesses (done_at_once t.accesses) in
            ends_now side c (omega arith);
        steps = λ n.
            let before = old.steps n in
            let here = used.place.own in
            let there = used.place.others n in
            let else = rest n in
            grind arith;
        outcomes = λ n. let before = old.outcomes n in let now = queries_now in let else = queries_else n in grind arith;
        few = λ n. let before = old.few n in let now = queries_now in let else = queries_else n in grind arith;
      }
    where
      ends_now : (side : Side) (c : ℕ) → c < length h.channels
          → get_or (set credits m (get_or credits m 0 - 2)) (d.owner side c) 0 + pending (core_of d g) (d.owner side c) ≤ room_of table'
          side c
      ends_now side c l =
          let before = old.ends side c l in
          let mine = get_or-set_same credits m (get_or credits m 0 - 2) 0 known in
          let rest = get_or-set_other credits m (d.owner side c) (get_or credits m 0 - 2) 0 in
          let most = pending_most (core_of d g) (d.owner side c) in
          let less = used_taken used side c in
          let room = enough side c l in
          let still = pending_other (d.owner side c) in
          let kept = used.others side c in
          let free = free_side d m t.accesses (owned_next d i h m t next) side c in
          grind arith

-- ---- room that is made

-- where nothing is less than before
pub room_kept : {S : Type 0}
    → (d : Design S) (h : Held) (lanes lanes' : List ℕ) (table table' : RoomedChannels) (logs logs' credits : List ℕ)
    → HasRoom d h lanes table logs credits
    → ((k : ℕ) → get_or lanes k 0 ≤ get_or lanes' k 0) → ((side : Side) (c : ℕ) → room_of table side c ≤ room_of table' side c)
    → ((k : ℕ) → get_or logs k 0 ≤ get_or logs' k 0)
    → HasRoom d h lanes' table' logs' credits
room_kept {S} d h lanes lanes' table table' logs logs' credits r f g q = record {
  ends = λ side c l. let a = r.ends side c l in let b = g side c in omega arith;
  steps = λ m. let a = r.steps m in let b = f m in omega arith;
  outcomes = λ m. let a = r.outcomes m in let b = q m in omega arith;
  few = r.few;
}

-- a credit is set to what there is room for
pub room_lent : {S : Type 0} → (d : Design S) (h : Held) (lanes : List ℕ) (table : RoomedChannels) (logs credits : List ℕ) (m n : ℕ)
    → HasRoom d h lanes table logs credits → m < length credits
    → n ≤ 2 * get_or lanes m 0 → ((side : Side) (c : ℕ) → c < length h.channels → d.owner side c ≡ m → n + 1 ≤ room_of table side c)
    → HasRoom d h lanes table logs (set credits m n)
room_lent {S} d h lanes table logs credits m n r inside lane sides = record {
  ends = λ side c l.
      let before = r.ends side c l in
      let most = pending_most (core_of d h) (d.owner side c) in
      let room = sides side c l in
      let here = get_or-set_same credits m n 0 inside in
      let other = get_or-set_other credits m (d.owner side c) n 0 in
      grind arith;
  steps = λ k.
      let before = r.steps k in
      let here = get_or-set_same credits m n 0 inside in
      let other = get_or-set_other credits m k n 0 in
      grind arith;
  outcomes = r.outcomes;
  few = r.few;
}

-- where the same is emitted and recorded, for a design whose channels have the same owners
pub room_on : {S : Type 0} → (d e : Design S) (h g : Held) (lanes lanes' : List ℕ) (table table' : RoomedChannels) (logs credits : List ℕ)
    → HasRoom d h lanes table logs credits → ((side : Side) (c : ℕ) → e.owner side c ≡ d.owner side c)
    → length g.channels ≡ length h.channels → ((m : ℕ) → pending (core_of e g) m ≡ pending (core_of d h) m)
    → ((m : ℕ) → queries_before g m (emitted_of g m) ≡ queries_before h m (emitted_of h m))
    → ((m : ℕ) → length (log_at g.logs m).outcomes ≡ length (log_at h.logs m).outcomes) → ((k : ℕ) → get_or lanes k 0 ≤ get_or lanes' k 0)
    → ((side : Side) (c : ℕ) → room_of table side c ≤ room_of table' side c) → HasRoom e g lanes' table' logs credits
room_on {S} d e h g lanes lanes' table table' logs credits r own count still same log f q = record {
  ends = λ side c l.
      let a = r.ends side c (omega arith) in
      let b = still (d.owner side c) in
      let n = q side c in
      rw (own side c) (omega arith);
  steps = λ m. let a = r.steps m in let b = f m in omega arith;
  outcomes = λ m. let a = r.outcomes m in let b = same m in let c = log m in omega arith;
  few = λ m. let a = r.few m in let b = same m in omega arith;
}

pub room_same : {S : Type 0} → (d : Design S) (h g : Held) (lanes lanes' : List ℕ) (table : RoomedChannels) (logs credits : List ℕ)
    → HasRoom d h lanes table logs credits
    → length g.channels ≡ length h.channels → ((m : ℕ) → pending (core_of d g) m ≡ pending (core_of d h) m)
    → ((m : ℕ) → queries_before g m (emitted_of g m) ≡ queries_before h m (emitted_of h m))
    → ((m : ℕ) → length (log_at g.logs m).outcomes ≡ length (log_at h.logs m).outcomes) → ((k : ℕ) → get_or lanes k 0 ≤ get_or lanes' k 0)
    → HasRoom d g lanes' table logs credits
room_same {S} d h g lanes lanes' table logs credits r count still same log f =
    room_on d d h g lanes lanes' table table logs credits r (λ side c. refl) count still same log f (λ side c. omega arith)

-- nothing is emitted, and nothing waits
pub pending_none : {S : Type 0} → (x : Core S) (m : ℕ) → x.emitted m ≡ 0 → pending x m ≡ 0
unfolding pending
pending_none {S} x m e = rw e refl

-- so at first there is room enough
pub room_opening : {S : Type 0} → (d : Design S) (h : Held) (lanes : List ℕ) (table : RoomedChannels) (logs credits : List ℕ)
    → ((m : ℕ) → emitted_of h m ≡ 0) → ((m : ℕ) → get_or credits m 0 ≡ 0)
    → HasRoom d h lanes table logs credits
room_opening {S} d h lanes table logs credits none empty = record {
  ends = λ side c l. let a = empty (d.owner side c) in let b = pending_none (core_of d h) (d.owner side c) (none (d.owner side c)) in
      omega arith;
  steps = λ m. let a = empty m in omega arith;
  outcomes = λ m. let a = few m in omega arith;
  few = λ m. let a = few m in omega arith;
}
  where
    few : (m : ℕ) → queries_before h m (emitted_of h m) ≡ 0
    few m = ap (queries_before h m) (none m) ∙ queries_zero h m

-- ---- room of an engine

-- where only the room is another, and none is less
pub roomy_kept : {S : Type 0} → (d : Design S) (s t : Engine) → t.graph.lanes ≡ s.graph.lanes
    → t.fifos.channels ≡ s.fifos.channels → t.log.logs ≡ s.log.logs → t.ends.items ≡ s.ends.items
    → ((k : ℕ) → get_or s.graph.rooms k 0 ≤ get_or t.graph.rooms k 0)
    → ((side : Side) (c : ℕ) → room_of s.fifos side c ≤ room_of t.fifos side c)
    → ((k : ℕ) → get_or s.log.rooms k 0 ≤ get_or t.log.rooms k 0) → IsRoomy d s
    → HasRoom d (held_in t) t.graph.rooms t.fifos t.log.rooms s.credits.items
roomy_kept {S} d s t el ec eo ee f g q r =
    rw (el, eo, ee)
    (subst (λ (cs : List Channel). HasRoom d
    (held_parts s.graph.lanes cs s.log.logs (over_of s.ends.items)) t.graph.rooms t.fifos t.log.rooms s.credits.items)
    (sym ec)
    (room_kept d (held_in s) s.graph.rooms t.graph.rooms s.fifos t.fifos s.log.rooms t.log.rooms s.credits.items r f g q))
