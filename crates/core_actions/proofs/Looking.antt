-- What the code finds of a module's steps is what the theory says of them.
use Rattle.std.proofs.Common.{◌≡◌, refl, sym, ap, ap₂, subst, ◌∙◌, ℕ, zero, suc, ◌+◌, ◌-◌, ◌<◌, ◌≤◌, inl, inr, Bool, true, false, cond, ltb}
use Rattle.std.proofs.Common.{not, ◌&&◌, ◌||◌, List, [], ◌∷◌, length, map, drop, get_or, Option, None, Some, is_none, is_some, arith}
use Rattle.std.proofs.lemmas.Bool.{cases_lt, both_ways, and_from, and_parts, lt-ltb, le-ltb}
use Rattle.std.proofs.{lemmas.Option.get_or_from_slice_get, lemmas.Bool.Decides.eqb_tells}
use Rattle.std.proofs.lemmas.List.Elements.{All-head, All-tail}
use Rattle.std.specs.{Prelude.All, Prelude.position, Prelude.option_map, Prelude.slice_get, List.zip}
use Rattle.core_actions.specs.{side_of, is_blocking, is_taking, same_side, Access, Kind, Side, Step, lane_at, no_lane, Channel, log_at}
use Rattle.core_actions.specs.{when_possible, is_waiting, Design, IsDesign, first_accesses, Known, known_of, core_accesses, core_tally}
use Rattle.core_actions.specs.{core_values, has_query, view, no_step, step_of, emitted_of, seen, queries_in, flags_by, flag_now, are_among}
use Rattle.core_actions.specs.{core_of, as_known, AreWhole, IsSound, queries_before, first_of, reply_now, told_by, first_missing, value_now}
use Rattle.core_actions.specs.{is_query_access, is_open_query, first_lacking, is_held, is_undecided, is_unverified, lacks_reply}
use Rattle.flow_word.specs.declared.access.Kind.TheVariants.{Read, Write}
use Rattle.flow_word.specs.declared.access.Side.TheVariants.{Pop}
use Rattle.event_timing.specs.Core.{Core}
use Rattle.engine_view.specs.Held.{Held}
use Rattle.engine_view.proofs.{Knowing.access_known, Emitted.queries_mono, Comparing.queries_cons as queries_first}
use Rattle.engine_view.proofs.Answered.{queries_step, among_is, among_if}
use Rattle.core_actions.proofs.Causing.{ArePlain, lacks}
use Rattle.sim_core.proofs.Finding.{flags_from, some_there}
use Rattle.event_timing.specs.Machines as theory
use Rattle.core_actions.proofs.Firsts as firsts

-- ---- the first step without a cycle

module _ {S : Type 0} (d : Design S) (i : IsDesign d) (h : Held) (s : IsSound d h) (m : ℕ) (less : first_of h m < emitted_of h m) where
  abbrev x : Core S
  x = core_of d h

  abbrev know : theory.Access → Known
  know = known_of d (view d x) m

  abbrev taken : List Access
  taken = (step_of h m (first_of h m)).accesses

  known : All (λ (a : Access). as_known (when_possible h.lanes h.channels a) ≡ know (seen a)) taken
  known = access_known d i h s m less

  pub held_is : position (is_held know) (first_accesses (view d x) m) ≡ position (is_waiting h.lanes h.channels) taken
  held_is =
      let accesses = s.accesses m (first_of h m) less in
      rw accesses (firsts.position_seen (is_held know) (is_waiting h.lanes h.channels) seen taken
      (λ k e l. let same = known k e l in grind arith))

  undecided_is : position (is_undecided know) (first_accesses (view d x) m) ≡ position (is_open_query h.lanes h.channels) taken
  undecided_is =
      let accesses = s.accesses m (first_of h m) less in
      rw accesses (firsts.position_seen (is_undecided know) (is_open_query h.lanes h.channels) seen taken
      (λ k e l. let same = known k e l in grind arith))

-- what the code finds of the first step without a cycle: its first query, where its outcomes are not verified, and its first undecided one
pub record IsFirst {S : Type 0} (d : Design S) (h : Held) (m : ℕ) (step : Step) : Type 0 where
  pub verified : step.first_query < (log_at h.logs m).verified
      → None ≡ position (is_unverified (core_of d h) m) (first_accesses (view d (core_of d h)) m)
  pub unverified : (log_at h.logs m).verified ≤ step.first_query
      → position is_query_access step.accesses ≡ position (is_unverified (core_of d h) m) (first_accesses (view d (core_of d h)) m)
  pub undecided : position (is_open_query h.lanes h.channels) step.accesses
      ≡ position (is_undecided (known_of d (view d (core_of d h)) m)) (first_accesses (view d (core_of d h)) m)

-- ---- outcomes of whole steps

-- the queries of a step are among the first so many, or none is
whole_step : (h : Held) (m k n : ℕ) → k < emitted_of h m → (step_of h m k).first_query ≡ queries_before h m k → AreWhole h m n
    → (step_of h m k).first_query < n → (step_of h m k).first_query + queries_in (step_of h m k).accesses ≤ n
whole_step h m k n l first w less =
    let e = w.all in
    let step = queries_step h m k in
    elim (cases_lt k w.steps) [
      | inl q ↦ let up = queries_mono h m (suc k) w.steps q in omega arith
      | inr q ↦ let up = queries_mono h m w.steps k q in omega arith
    ]

no_queries : (xs : List Access) → queries_in xs ≡ 0 → All (λ (a : Access). is_query_access a ≡ false) xs
no_queries [] e k f l = absurd (omega arith)
no_queries (a ∷ xs) e zero f l = let more = queries_first a xs in grind arith
no_queries (a ∷ xs) e (suc k) f l = let more = queries_first a xs in no_queries xs (grind arith) k f (omega arith)

plain_step : (xs : List Access) → has_query (map seen xs) ≡ false → queries_in xs ≡ 0
plain_step [] e = refl
plain_step (a ∷ xs) e =
    let more = queries_first a xs in
    let later = plain_step xs in grind arith

module _ {S : Type 0} (d : Design S) (h : Held) (s : IsSound d h) where
  -- a step without a query has all its outcomes
  pub are_plain : ArePlain d (core_of d h)
  are_plain = record {
    answered = λ m k l e. all_there m k l e (length (log_at h.logs m).outcomes);
    verified = λ m k l e. all_there m k l e (log_at h.logs m).verified;
  }
    where
      all_there : (m k : ℕ) → k < emitted_of h m → has_query (core_accesses d (core_of d h) m k) ≡ false → (n : ℕ)
          → (ltb k (emitted_of h m) && are_among (step_of h m k) n) ≡ true
      all_there m k l e n =
          let none = plain_step (step_of h m k).accesses (sym (ap has_query (s.accesses m k l)) ∙ e) in
          and_from (ltb k (emitted_of h m)) (are_among (step_of h m k) n) (lt-ltb k (emitted_of h m) l) (among_if_none none n)
        where
          among_if_none : queries_in (step_of h m k).accesses ≡ 0 → (n : ℕ) → are_among (step_of h m k) n ≡ true
          among_if_none none n =
              elim (eqb_tells (queries_in (step_of h m k).accesses) 0) [ inl q ↦ rw q.0 refl | inr q ↦ absurd (q.1 none) ]

  module _ (i : IsDesign d) (m : ℕ) (less : first_of h m < emitted_of h m) (inside : m < length h.logs) where
    abbrev mine : Step
    mine = step_of h m (first_of h m)

    sure : mine.first_query < (log_at h.logs m).verified → (core_of d h).verified m (first_of h m) ≡ true
    sure l =
        let all = whole_step h m (first_of h m) (log_at h.logs m).verified less (s.first_query m (first_of h m) less) (s.verified m inside)
        l in
        and_from (ltb (first_of h m) (emitted_of h m)) (are_among mine (log_at h.logs m).verified)
        (lt-ltb (first_of h m) (emitted_of h m) less) (among_if mine (log_at h.logs m).verified all)

    unsure : (log_at h.logs m).verified ≤ mine.first_query
        → position is_query_access mine.accesses ≡ position (is_unverified (core_of d h) m) (first_accesses (view d (core_of d h)) m)
    unsure more =
        let accesses = s.accesses m (first_of h m) less in
        rw accesses (sym (firsts.position_seen (is_unverified (core_of d h) m) is_query_access seen mine.accesses (λ j e q.
        same (get_or mine.accesses j e) (queries_of j e q))))
      where
        v : Bool
        v = (core_of d h).verified m (first_of h m)

        queries_of : (j : ℕ) (e : Access) → j < length mine.accesses → v ≡ true → is_query_access (get_or mine.accesses j e) ≡ false
        queries_of j e q sure =
            elim (among_is mine (log_at h.logs m).verified (and_parts (ltb (first_of h m) (emitted_of h m))
            (are_among mine (log_at h.logs m).verified) sure).1) [
              | inl none ↦ no_queries mine.accesses none j e q
              | inr n ↦ no_queries mine.accesses (omega arith) j e q
            ]

        same : (a : Access) → (v ≡ true → is_query_access a ≡ false) → (is_query_access a && not v) ≡ is_query_access a
        same a f = grind arith

    pub first_is : (step : Step) → slice_get (lane_at h.lanes m).steps (first_of h m) ≡ Some step → IsFirst d h m step
    first_is step there = subst (IsFirst d h m) (get_or_from_slice_get (lane_at h.lanes m).steps (first_of h m) step no_step there)
        (record {
          verified = λ l.
              let v = sure l in
              sym (firsts.nothing_passes (is_unverified (core_of d h) m) (first_accesses (view d (core_of d h)) m) (λ j e q. grind arith));
          unverified = unsure;
          undecided = sym (undecided_is d i h s m less);
        })

-- ---- the replies to the newest step

lacks_is : (k : Kind) (o : Option Bool) (v : Option ℕ) (w u : Bool) → (is_blocking k ≡ false → is_some o ≡ w)
    → (side_of k ≡ Pop → is_none v ≡ not u)
    → is_none (reply_now k o v) ≡ ((not (is_blocking k) && not w) || ((is_taking k && (same_side (side_of k) Pop && flag_now k o)) && not
    u))
lacks_is Read o v w u f g = grind arith
lacks_is Write o v w u f g = grind arith
lacks_is k None v w u f g = grind arith
lacks_is k (Some b) v w u f g = grind arith

-- of a pop: its value is there where so many were popped before and so many were pushed
abbrev HasValue : List Channel → (ℕ → ℕ) → (ℕ → ℕ) → Access → Type 0
HasValue channels s t a = side_of a.kind ≡ Pop → is_none (value_now channels a) ≡ not (ltb (t a.channel) (s a.channel))

missing_is : (channels : List Channel) (s t : ℕ → ℕ) (w : Bool) (outs : List Bool) (xs : List Access) (n : ℕ)
    → All (HasValue channels s t) xs
    → (w ≡ true → queries_in xs ≤ length outs - n) → (w ≡ false → length outs ≤ n)
    → first_missing outs (value_now channels) n xs ≡ position (lacks s t w) (zip (map seen xs) (flags_by xs (drop n outs)))
missing_is channels s t w outs [] n all f g = refl
missing_is channels s t w outs (a ∷ xs) n all f g =
    ap₂ (λ (b : Bool) (o : Option ℕ). cond b (Some 0) (option_map suc o))
    (lacks_is a.kind (slice_get outs n) (value_now channels a) w (ltb (t a.channel) (s a.channel)) (λ b. there w (counted b) g)
    (All-head (HasValue channels s t) a xs all))
    (missing_is channels s t w outs xs (told_by a.kind n) (All-tail (HasValue channels s t) a xs all)
    (λ q. let l = f q in let m = queries_first a xs in fewer (is_blocking a.kind) (omega arith)) (λ q. later (is_blocking a.kind) (g q)))
    ∙ (sym (firsts.position_more (lacks s t w) (seen a, flag_now a.kind (slice_get outs n))
    (zip (map seen xs) (flags_by xs (drop (told_by a.kind n) outs))))
    ∙ ap (λ (bs : List Bool). position (lacks s t w) (zip (seen a ∷ map seen xs) bs)) (sym (flags_from a xs outs n)))
  where
    counted : is_blocking a.kind ≡ false → w ≡ true → 1 + queries_in xs ≤ length outs - n
    counted b q =
        let m : queries_in (a ∷ xs) ≡ 1 + queries_in xs = queries_first a xs ∙ ap (λ (c : Bool). cond {A = ℕ} c 0 1 + queries_in xs) b in
        let l = f q in omega arith

    there : (w : Bool) → (w ≡ true → 1 + queries_in xs ≤ length outs - n) → (w ≡ false → length outs ≤ n)
        → is_some (slice_get outs n) ≡ w
    there true f g = let l = f refl in some_there true outs n ∙ lt-ltb n (length outs) (omega arith)
    there false f g = some_there true outs n ∙ le-ltb n (length outs) (g refl)

    fewer : (b : Bool) → cond b 0 1 + queries_in xs ≤ length outs - n → queries_in xs ≤ length outs - cond b n (suc n)
    fewer true l = omega arith
    fewer false l = omega arith

    later : (b : Bool) → length outs ≤ n → length outs ≤ cond b n (suc n)
    later true l = l
    later false l = omega arith

value_there : (xs : List ℕ) (n : ℕ) → is_none (slice_get xs n) ≡ not (ltb n (length xs))
value_there xs n = let there = some_there 0 xs n in grind arith

module _ {S : Type 0} (d : Design S) (h : Held) (s : IsSound d h) (m k : ℕ) (l : k < emitted_of h m) (inside : m < length h.logs)
    (module_inside : m < length h.lanes) where
  abbrev y : Core S
  y = core_of d h

  abbrev step : Step
  step = step_of h m k

  abbrev outs : List Bool
  outs = (log_at h.logs m).outcomes

  pub missing_reply : first_missing outs (value_now h.channels) step.first_query step.accesses ≡ first_lacking d y m k
  missing_reply =
      missing_is h.channels (λ c. length (core_values d y c)) (λ c. core_tally d y m Pop c k) (y.answered m k) outs step.accesses
      step.first_query values recorded open_yet
      ∙ ap (λ (ys : List theory.Access). position (λ p. lacks_reply d y m k p.0 p.1) (zip ys (y.flags m k))) (sym (s.accesses m k l))
    where
      values : All (HasValue h.channels (λ c. length (core_values d y c)) (λ c. core_tally d y m Pop c k)) step.accesses
      values j e q pop =
          let a = get_or step.accesses j e in
          let channel = (s.inside m no_lane module_inside k no_step l j e q).channel in
          let ordinal = s.ordinals m k l j e q in
          let before : core_tally d y m (side_of a.kind) a.channel k ≡ core_tally d y m Pop a.channel k =
          ap (λ (side : Side). core_tally d y m side a.channel k) pop in
          let n : a.ordinal - 1 ≡ core_tally d y m Pop a.channel k = omega arith in
          ap₂ (λ (vs : List ℕ) (i : ℕ). is_none (slice_get vs i)) (s.values a.channel channel) n
          ∙ value_there (core_values d y a.channel) (core_tally d y m Pop a.channel k)

      recorded : y.answered m k ≡ true → queries_in step.accesses ≤ length outs - step.first_query
      recorded e =
          elim (among_is step (length outs) (and_parts (ltb k (emitted_of h m)) (are_among step (length outs)) e).1) [
            | inl none ↦ omega arith
            | inr most ↦ omega arith
          ]

      open_yet : y.answered m k ≡ false → length outs ≤ step.first_query
      open_yet e =
          elim (cases_lt step.first_query (length outs)) [
            | inl less ↦
                let all = whole_step h m k (length outs) l (s.first_query m k l) (s.recorded m inside) less in
                absurd (both_ways _ e (and_from (ltb k (emitted_of h m)) (are_among step (length outs)) (lt-ltb k (emitted_of h m) l)
                (among_if step (length outs) all)))
            | inr more ↦ more
          ]
