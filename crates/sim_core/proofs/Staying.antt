-- A run stays where it stands while others act, and goes to the next rest on its replies.
use Rattle.std.proofs.Common.{◌≡◌, refl, sym, ap, ap₂, subst, ◌∙◌, ℕ, zero, suc, ◌+◌, ◌<◌, List, [], ◌∷◌, ◌++◌, map, arith}
use Rattle.std.proofs.{lemmas.List.map-append, lemmas.List.FromFn.get_or-map-range_with_len}
use Rattle.std.specs.List.{range_with_len}
use Rattle.sim_core.specs.{Plan, Advance, Reply, ModuleState, requests_of, Own, ModuleRun, rest_at, replies_to, StandsAt, next_rest}
use Rattle.sim_core.specs.{mark_at, core_reply, AreOwnMarks, Grows, GrowsBeside, IsSettled, design, told_all, core_replies, IsAnswered}
use Rattle.sim_core.specs.{IsRunOf, IsEndOf, rest_after}
use Rattle.event_timing.specs.Core.{Core}
use Rattle.event_timing.proofs.Growing.{settled_less, settled_old, settled_all, reply_grow, there_grow}
use Rattle.flow_word.proofs.Ranges.{range_more}
use Rattle.event_timing.specs.Machines as theory

-- what the core tells module i of its step k
abbrev pub tell : Plan → Core ModuleState → ℕ → ℕ → List Reply
tell p x i k = told_all (requests_of p (i, x.state i k)) (core_reply (design p) x i k)

replies_more : (p : Plan) (x : Core ModuleState) (i n : ℕ) → core_replies p x i (suc n) ≡ core_replies p x i n ++ tell p x i n ∷ []
replies_more p x i n =
    let z : 0 + n ≡ n = omega arith in
    ap (map (tell p x i)) (range_more 0 n ∙ ap (λ (j : ℕ). range_with_len 0 n ++ j ∷ []) z)
    ∙ map-append (tell p x i) (range_with_len 0 n) (n ∷ [])

replies_same : (p : Plan) (x z : Core ModuleState) (i n : ℕ) → ((k : ℕ) → k < n → tell p z i k ≡ tell p x i k)
    → core_replies p z i n ≡ core_replies p x i n
replies_same p x z i zero f = refl
replies_same p x z i (suc n) f =
    replies_more p z i n ∙ (ap₂ (λ (rs : List (List Reply)) (r : List Reply). rs ++ r ∷ [])
    (replies_same p x z i n (λ k l. f k (omega arith))) (f n (omega arith)) ∙ sym (replies_more p x i n))

tell_grow : (p : Plan) (x z : Core ModuleState) → Grows (design p) x z → (i n : ℕ) → IsSettled (design p) x i n → (k : ℕ) → k < n
    → tell p z i k ≡ tell p x i k
tell_grow p x z g i n s k l =
    ap₂ (λ (q : ModuleState) (r : List theory.Reply). told_all (requests_of p (i, q)) r) (g.state_same i k (s.emitted k l))
    (reply_grow (design p) x z g i k (settled_less (design p) x i n (suc k) (omega arith) s))

pub after_same : (p : Plan) (x z : Core ModuleState) → Grows (design p) x z → (i n : ℕ) → IsSettled (design p) x i n
    → rest_after p z i n ≡ rest_after p x i n
after_same p x z g i n s = ap (λ (rs : List (List Reply)). rest_at p i rs n) (replies_same p x z i n (tell_grow p x z g i n s))

-- where the core grew, and not by this module's marks
module _ (p : Plan) (x z : Core ModuleState) (b : AreOwnMarks (design p) x) (i : ℕ) (beside : GrowsBeside (design p) x z i) where
  answered_stays : IsAnswered p x i → IsAnswered p z i
  answered_stays answered k e =
      let e' : suc k ≡ x.emitted i = e ∙ beside.emitted in (
        beside.grows.answered_up i k (omega arith) (answered k e').0,
        there_grow (design p) x z beside.grows i k (settled_less (design p) x i (x.emitted i) (suc k) (omega arith) (all_settled answered)),
      )
    where
      all_settled : IsAnswered p x i → IsSettled (design p) x i (x.emitted i)
      all_settled f = settled_all (design p) x b i (λ k e. (f k e).0) (λ k e. (f k e).1)

  newest_stays : IsAnswered p x i → rest_after p z i (z.emitted i) ≡ rest_after p x i (x.emitted i)
  newest_stays answered =
      ap (rest_after p z i) beside.emitted
      ∙ after_same p x z beside.grows i (x.emitted i) (settled_all (design p) x b i (λ k e. (answered k e).0) (λ k e. (answered k e).1))

  pub run_stays : (run : ModuleRun) → IsRunOf p x i run → IsRunOf p z i run
  run_stays run r = record {
    waiting = λ w.
        let (k, e, stands) = r.waiting w in (
          k,
          e ∙ sym beside.emitted,
          subst (λ (o : Own). StandsAt p i o run)
              (sym (after_same p x z beside.grows i k (settled_old (design p) x b i k (omega arith)))) stands,
        );
    going = λ w. let (answered, stands) = r.going w in
        (answered_stays answered, subst (λ (o : Own). StandsAt p i o run) (sym (newest_stays answered)) stands);
    over = λ e. r.over (sym beside.over ∙ e);
  }

  pub end_stays : (mark : Advance) → IsEndOf p x i mark → IsEndOf p z i mark
  end_stays mark e = record {
    no_step = e.no_step;
    short = e.short;
    answered = answered_stays e.answered;
    is = e.is
        ∙ ap (mark_at p i) (sym (newest_stays e.answered));
  }

-- ---- the next rest

rest_same : (p : Plan) (i n : ℕ) (r q : List (List Reply)) → ((k : ℕ) → k < n → replies_to r k ≡ replies_to q k)
    → rest_at p i r n ≡ rest_at p i q n
unfolding rest_at
rest_same p i zero r q f = refl
rest_same p i (suc n) r q f = ap₂ (next_rest p i) (rest_same p i n r q (λ k l. f k (omega arith))) (f n (omega arith))

told_at : (p : Plan) (x : Core ModuleState) (i total k : ℕ) → k < total → replies_to (core_replies p x i total) k ≡ tell p x i k
told_at p x i total k l = get_or-map-range_with_len (tell p x i) 0 total k k [] l (omega arith)

rest_more : (p : Plan) (i n : ℕ) (r : List (List Reply)) → rest_at p i r (suc n) ≡ next_rest p i (rest_at p i r n) (replies_to r n)
unfolding rest_at
rest_more p i n r = refl

-- fed with what the core tells of its step, a run comes to the rest after that step
pub fed_is : (p : Plan) (x : Core ModuleState) (i k : ℕ) → rest_after p x i (suc k) ≡ next_rest p i (rest_after p x i k) (tell p x i k)
fed_is p x i k =
    rest_more p i k (core_replies p x i (suc k))
    ∙ ap₂ (next_rest p i) (rest_same p i k (core_replies p x i (suc k)) (core_replies p x i k)
    (λ j l. told_at p x i (suc k) j (omega arith) ∙ sym (told_at p x i k j l))) (told_at p x i (suc k) k (omega arith))
