-- A core that is shown by what is held, and whose marks are those of its modules' own runs, is the one that is read off.
use Rattle.std.proofs.Common.{◌≡◌, refl, sym, ap, ap₂, ◌∙◌, ℕ, zero, suc, ◌-◌, ◌<◌, ◌≤◌, Bool, false, cond, List, [], ◌∷◌, length, map}
use Rattle.std.proofs.Common.{get_or, arith}
use Rattle.std.proofs.{lemmas.Bool.Decides.nat_tests, lemmas.List.Elements.All-head, lemmas.List.Elements.All-tail}
use Rattle.std.specs.Prelude.{All}
use Rattle.engine_view.specs.{side_of, Side, Access, lane_at, Channel, log_at, Design, Reply, own, AreOwnMarks, core_tally, core_values}
use Rattle.engine_view.specs.{core_reply, replies_of, pops_now, step_of, emitted_of, seen, flags_of, has_all, values_at, replies_by}
use Rattle.engine_view.specs.{replies_at, waited, core_of, ShowsCore, IsSound, Held.Held}
use Rattle.flow_word.specs.declared.access.Side.TheVariants.{Pop}
use Rattle.event_timing.specs.Core.{Core}
use Rattle.event_timing.proofs.OwnRuns.{own_0, own_more, same_side_is}
use Rattle.engine_view.proofs.{Cores.same_core, Knowing.shown_inside}
use Rattle.event_timing.specs.Machines as theory

-- ---- replies

front_is : (a : Access) (b : Bool) (t n : ℕ) (xs ys : List ℕ) → (side_of a.kind ≡ Pop → n ≡ suc t) → xs ≡ ys
    → cond (pops_now (seen a) b) (get_or xs (n - 1) 0) 0 ≡ cond (pops_now (seen a) b) (get_or ys t 0) 0
front_is a b t n xs ys o e = let pop = same_side_is (side_of a.kind) Pop in grind arith

replies_are : (channels : List Channel) (V : ℕ → List ℕ) (t : Side → ℕ → ℕ) (xs : List Access) (bs : List Bool)
    → All (λ (a : Access). a.ordinal ≡ suc (t (side_of a.kind) a.channel)) xs
    → All (λ (a : Access). values_at channels a.channel ≡ V a.channel) xs
    → replies_by channels xs bs ≡ replies_of V (t Pop) (map seen xs) bs
replies_are channels V t [] bs o v = refl
replies_are channels V t (a ∷ xs) [] o v = refl
replies_are channels V t (a ∷ xs) (b ∷ bs) o v =
    let here = All-head (λ (a : Access). a.ordinal ≡ suc (t (side_of a.kind) a.channel)) a xs o in
    ap₂ (λ (f : ℕ) (rs : List Reply). record { possible = b; front = f } ∷ rs)
    (front_is a b (t Pop a.channel) a.ordinal _ _ (λ p. here ∙ ap (λ (c : Side). suc (t c a.channel)) p)
    (All-head (λ (a : Access). values_at channels a.channel ≡ V a.channel) a xs v))
    (replies_are channels V t xs bs (All-tail (λ (a : Access). a.ordinal ≡ suc (t (side_of a.kind) a.channel)) a xs o)
    (All-tail (λ (a : Access). values_at channels a.channel ≡ V a.channel) a xs v))

-- the replies that are read off are the core's
pub reply_is : {S : Type 0} → (d : Design S) (h : Held) (x : Core S) → ShowsCore d h x → ((m : ℕ) → emitted_of h m ≡ x.emitted m)
    → (m k : ℕ)
    → k < x.emitted m → flags_of h m k ≡ x.flags m k
    → replies_at h m k ≡ core_reply d x m k
reply_is {S} d h x s n m k l f =
    let inside = shown_inside d h x s m k (omega (arith, n m)) in
    ap (replies_by h.channels (step_of h m k).accesses) f
    ∙ (replies_are h.channels (core_values d x) (λ side ch. core_tally d x m side ch k) (step_of h m k).accesses (x.flags m k)
    (s.ordinals m k l) (λ j e q. s.values _ (inside j e q).channel)
    ∙ ap (λ (xs : List theory.Access). replies_of (core_values d x) (λ ch. core_tally d x m Pop ch k) xs (x.flags m k))
    (sym (s.accesses m k l)))

own_same : {S : Type 0} → (d : Design S) (m n : ℕ) (r q : ℕ → List Reply) → ((k : ℕ) → k < n → r k ≡ q k) → own d m r n ≡ own d m q n
own_same {S} d m zero r q e = own_0 d m r ∙ sym (own_0 d m q)
own_same {S} d m (suc n) r q e =
    rw (own_more d m r n, own_more d m q n, own_same d m n r q (λ k l. e k (omega arith)), e n (omega arith)) refl

-- ---- the core

-- what can be read off at each place
pub record IsRead {S : Type 0} (d : Design S) (h : Held) (x : Core S) : Type 0 where
  pub emitted : (m : ℕ) → emitted_of h m ≡ x.emitted m
  pub over : (m : ℕ) → get_or h.over m false ≡ x.over m
  pub past : (m k : ℕ) → x.emitted m ≤ k → d.opening m ≡ x.state m k
  pub wait : (m k : ℕ) → waited k (step_of h m k).gap ≡ x.wait m k
  pub flags : (m k : ℕ) → flags_of h m k ≡ x.flags m k
  pub answered : (m k : ℕ) → has_all h m k (length (log_at h.logs m).outcomes) ≡ x.answered m k
  pub verified : (m k : ℕ) → has_all h m k (log_at h.logs m).verified ≡ x.verified m k
  pub timed : (m : ℕ) → length (lane_at h.lanes m).cycles ≡ x.timed m
  pub cycle : (m k : ℕ) → get_or (lane_at h.lanes m).cycles k 0 ≡ x.cycle m k

pub read_back : {S : Type 0} → (d : Design S) (h : Held) (x : Core S) → AreOwnMarks d x → ShowsCore d h x → IsRead d h x → core_of d h ≡ x
read_back {S} d h x b s r =
    same_core (core_of d h) x (record {
      emitted = r.emitted;
      over = r.over;
      state = state;
      wait = r.wait;
      flags = r.flags;
      answered = r.answered;
      verified = r.verified;
      timed = r.timed;
      cycle = r.cycle;
    })
  where
    state : (m k : ℕ) → (core_of d h).state m k ≡ x.state m k
    state m k =
        let same = own_same d m k (replies_at h m) (core_reply d x m) in
        let each = reply_is d h x s r.emitted m in
        let emitted = r.emitted m in
        let flags = r.flags m in
        let own = b.own_step m k in
        let past = r.past m k in
        grind (arith, nat_tests)

-- and so what is held is sound
pub read_sound : {S : Type 0} → (d : Design S) (h : Held) (x : Core S) → AreOwnMarks d x → ShowsCore d h x → IsRead d h x
    → (core_of d h ≡ x) × IsSound d h
read_sound {S} d h x b s r = let e = read_back d h x b s r in (e, rw e s)
