-- A run that waits is fed with the replies that are found for its newest step.
use Rattle.std.proofs.Common.{◌≡◌, refl, sym, ap, ap₂, subst, ◌∙◌, ℕ, suc, ◌+◌, ◌-◌, ◌<◌, ◌≤◌, inl, inr, Bool, true, false, cond, ltb, ◌&&◌}
use Rattle.std.proofs.Common.{List, [], ◌∷◌, length, map, get_or, drop, is_some, not, arith}
use Rattle.std.proofs.{lemmas.Option.get_or_from_slice_get, lemmas.Bool.Decides.eqb_tells}
use Rattle.std.proofs.lemmas.Bool.{both_ways, cond-true, and_from, and_parts, or_left, or_right, lt-ltb, le-leb}
use Rattle.std.proofs.lemmas.List.Elements.{All-head, All-tail}
use Rattle.std.specs.Prelude.{All, Option, Some, None, slice_get}
use Rattle.sim_core.specs.{Step, Access, Kind, Side, side_of, is_blocking, is_taking, same_side, Plan, Reply, Request, ModuleState, Channel}
use Rattle.sim_core.specs.{log_at, Exchange, reply_by, requests_of, Own, access_of, queries, ModuleRun, StandsAt, waits, listed_step}
use Rattle.sim_core.specs.{done_in, next_rest, accesses_at, all_fit, MayRun, AreOwnMarks, FlagsFit, core_values, core_tally, values_there}
use Rattle.sim_core.specs.{all_below, design, told_all, IsAccess, no_lane, lane_at, no_step, step_of, emitted_of, seen, queries_in}
use Rattle.sim_core.specs.{flags_of, are_among, values_at, replies_by, core_of, IsSound, Engine, held_in, replies_now, IsRestAfter, IsRunOf}
use Rattle.sim_core.specs.{IsAnswered, IsCore, rest_after, value_now, first_missing, reply_told}
use Rattle.flow_word.specs.declared.access.Side.TheVariants.{Pop, Push}
use Rattle.module_interp.proofs.Feeding.{asked_stage}
use Rattle.event_timing.specs.Core.{Core}
use Rattle.engine_view.specs.Held.{Held}
use Rattle.engine_view.proofs.{Reading.reply_is, Answered.among_is}
use Rattle.sim_core.proofs.{Marking.ordinal_is, Marking.queries_done, Resting.rest_is, Staying.tell, Staying.fed_is}
use Rattle.sim_core.proofs.Finding.{replies_found, values_now, are_found, not_found}
use Rattle.run_ahead.proofs.Finding.{replies_fit, none_missing, told_from}
use Rattle.engine_report.proofs.Asking.{same_kind, same_channel}
use Rattle.module_interp.specs.OwnRests as own
use Rattle.event_timing.specs.Machines as theory
use Rattle.timing_bridge.specs.Designs as bridge

-- ---- replies

told_one : (k : Kind) (b : Bool) (v : ℕ) → (is_blocking k ≡ true → b ≡ true)
    → reply_by k b (cond (is_taking k && (same_side (side_of k) Pop && b)) v 0) ≡ reply_by k b v
told_one k b v f = grind arith

told_found : (channels : List Channel) (rs : List Request) (xs : List Access) (bs : List Bool) → map bridge.seen_request rs ≡ map seen xs
    → FlagsFit (map seen xs) bs
    → told_all rs (replies_by channels xs bs) ≡ replies_found channels xs bs
told_found channels [] [] bs e f = refl
told_found channels [] (a ∷ xs) bs e f = cc
told_found channels (r ∷ rs) [] bs e f = cc
told_found channels (r ∷ rs) (a ∷ xs) [] e f = absurd f
told_found channels (r ∷ rs) (a ∷ xs) (b ∷ bs) e (f, fs) =
    let kind = same_kind r a cc in
    let one = told_one a.kind b (get_or (values_at channels a.channel) (a.ordinal - 1) 0) f in
    let later = told_found channels rs xs bs (cc) fs in cc

fit_same : (before : List Exchange) (rs : List Request) (xs : List Access) (qs : List Reply) → map bridge.seen_request rs ≡ map seen xs
    → all_fit (map (access_of before) rs) qs ≡ all_fit xs qs
fit_same before [] [] qs e = refl
fit_same before [] (a ∷ xs) qs e = cc
fit_same before (r ∷ rs) [] qs e = cc
fit_same before (r ∷ rs) (a ∷ xs) [] e = refl
fit_same before (r ∷ rs) (a ∷ xs) (q ∷ qs) e =
    let kind = same_kind r a cc in
    let later = fit_same before rs xs qs cc in cc

same_access : (x y : Access) → x.kind ≡ y.kind → x.channel ≡ y.channel → x.ordinal ≡ y.ordinal → x.value ≡ y.value → x ≡ y
same_access x y kind channel ordinal value =
    let access : Kind × ℕ → ℕ × ℕ → Access = λ p q. record { kind = p.0; channel = p.1; ordinal = q.0; value = q.1 } in
    ap₂ access (ap₂ (λ (a : Kind) (b : ℕ). (a, b)) kind channel) (ap₂ (λ (a b : ℕ). (a, b)) ordinal value)

-- accesses as the theory sees them, with the ordinals that it counts, are those of the requests
pub same_accesses : (before : List Exchange) (t : Side → ℕ → ℕ) (rs : List Request) (xs : List Access)
    → map bridge.seen_request rs ≡ map seen xs
    → ((r : Request) → (access_of before r).ordinal ≡ suc (t (side_of r.kind) r.channel))
    → All (λ (a : Access). a.ordinal ≡ suc (t (side_of a.kind) a.channel)) xs → map (access_of before) rs ≡ xs
same_accesses before t [] [] e f o = refl
same_accesses before t [] (a ∷ xs) e f o = cc
same_accesses before t (r ∷ rs) [] e f o = cc
same_accesses before t (r ∷ rs) (a ∷ xs) e f o =
    let here : bridge.seen_request r ≡ seen a = cc in
    let rest : map bridge.seen_request rs ≡ map seen xs = cc in
    let kind = same_kind r a here in
    let channel = same_channel r a here in
    let value : r.value ≡ a.value = ap (λ (t : theory.Access). t.value) here in
    let there = All-head (λ (a : Access). a.ordinal ≡ suc (t (side_of a.kind) a.channel)) a xs o in
    let ordinal : (access_of before r).ordinal ≡ a.ordinal = f r
    ∙ (ap suc (ap₂ t (ap side_of kind) channel) ∙ sym there) in
    let later = same_accesses before t rs xs rest f (All-tail (λ (a : Access). a.ordinal ≡ suc (t (side_of a.kind) a.channel)) a xs o) in
    ap₂ (λ (b : Access) (bs : List Access). b ∷ bs) (same_access (access_of before r) a kind channel ordinal value) later

-- each pop has its value, as the theory says it
there_same : (channels : List Channel) (V : ℕ → List ℕ) (t : Side → ℕ → ℕ) (xs : List Access) (bs : List Bool)
    → All (λ (a : Access). a.ordinal ≡ suc (t (side_of a.kind) a.channel)) xs
    → All (λ (a : Access). values_at channels a.channel ≡ V a.channel) xs
    → all_below (λ c. length (V c)) (t Pop) (map seen xs) bs ≡ values_now channels xs bs
there_same channels V t [] bs o v = refl
there_same channels V t (a ∷ xs) [] o v = refl
there_same channels V t (a ∷ xs) (b ∷ bs) o v =
    let mine = All-head (λ (a : Access). a.ordinal ≡ suc (t (side_of a.kind) a.channel)) a xs o in
    let values = All-head (λ (a : Access). values_at channels a.channel ≡ V a.channel) a xs v in
    let later = there_same channels V t xs bs (All-tail (λ (a : Access). a.ordinal ≡ suc (t (side_of a.kind) a.channel)) a xs o)
    (All-tail (λ (a : Access). values_at channels a.channel ≡ V a.channel) a xs v) in
    by (side_of a.kind) refl mine values later
  where
    by : (side : Side) → side_of a.kind ≡ side → a.ordinal ≡ suc (t (side_of a.kind) a.channel)
        → values_at channels a.channel ≡ V a.channel
        → all_below (λ c. length (V c)) (t Pop) (map seen xs) bs ≡ values_now channels xs bs
        → all_below (λ c. length (V c)) (t Pop) (map seen (a ∷ xs)) (b ∷ bs) ≡ values_now channels (a ∷ xs) (b ∷ bs)
    by Pop e mine values later = grind arith
    by Push e mine values later = grind arith

-- ---- a step

module _ (p : Plan) {h : Held} (s : IsSound (design p) h) (b : AreOwnMarks (design p) (core_of (design p) h))
    (i k : ℕ) (less : k < emitted_of h i) where
  abbrev d : theory.Design ModuleState
  d = design p

  abbrev x : Core ModuleState
  x = core_of d h

  abbrev step_accesses : List Access
  step_accesses = (step_of h i k).accesses

  abbrev outs : List Bool
  outs = (log_at h.logs i).outcomes

  pub seen_same : map bridge.seen_request (requests_of p (i, x.state i k)) ≡ map seen step_accesses
  seen_same = s.accesses i k less

  pub flags_fit : FlagsFit (map seen step_accesses) (flags_of h i k)
  flags_fit = subst (λ (xs : List theory.Access). FlagsFit xs (flags_of h i k)) seen_same (b.fit i k less)

  pub tell_is : tell p x i k ≡ replies_found h.channels step_accesses (flags_of h i k)
  tell_is =
      ap (told_all (requests_of p (i, x.state i k))) (sym (reply_is d h x s (λ n. refl) i k less refl))
      ∙ told_found h.channels (requests_of p (i, x.state i k)) step_accesses (flags_of h i k) seen_same flags_fit

  pub accesses_inside : i < length p.design.modules → All (IsAccess h.channels) step_accesses
  accesses_inside inside = s.inside i no_lane (let n = s.lanes in omega arith) k no_step less

  pub there_is : i < length p.design.modules → values_there d x i k ≡ values_now h.channels step_accesses (flags_of h i k)
  there_is inside =
      ap (λ (xs : List theory.Access). all_below (λ c. length (core_values d x c)) (λ c. core_tally d x i Pop c k) xs (flags_of h i k))
      seen_same
      ∙ there_same h.channels (core_values d x) (λ side c. core_tally d x i side c k) step_accesses (flags_of h i k) (s.ordinals i k less)
      (λ j e l. s.values (get_or step_accesses j e).channel (accesses_inside inside j e l).channel)

  pub enough : are_among (step_of h i k) (length outs) ≡ true → queries_in step_accesses
      ≤ length outs - (step_of h i k).first_query
  enough a =
      elim (among_is (step_of h i k) (length outs) a) [ inl q ↦ omega arith | inr q ↦ omega arith ]

  -- the replies that are found are those that the core tells
  pub found_told : {rs : List Reply} → replies_now h i (step_of h i k) ≡ Some rs → rs ≡ tell p x i k
  found_told {rs} e = (are_found h.channels outs step_accesses (step_of h i k).first_query rs e).replies ∙ sym tell_is

  -- all are found where the step's outcomes are recorded and its values are there
  pub are_told : i < length p.design.modules → x.answered i k ≡ true → values_there d x i k ≡ true
      → replies_now h i (step_of h i k) ≡ None → ⊥
  are_told inside answered there e =
      let among = (and_parts (ltb k (emitted_of h i)) (are_among (step_of h i k) (length (log_at h.logs i).outcomes)) answered).1 in
      not_found h.channels outs step_accesses (step_of h i k).first_query e (enough among) (sym (there_is inside) ∙ there)

-- ---- the step that waits

module _ {p : Plan} {engine : Engine} {runs : List (Option ModuleRun)} (core : IsCore p engine runs)
    {i k : ℕ} (newest : suc k ≡ emitted_of (held_in engine) i) (inside : i < length p.design.modules) where
  abbrev h : Held
  h = held_in engine

  abbrev now : Core ModuleState
  now = core_of (design p) h

  abbrev rest : Own
  rest = rest_after p now i k

  emitted : k < emitted_of h i
  emitted = omega arith

  abbrev waiting : List Access
  waiting = (step_of h i k).accesses

  pub state_is : rest.state ≡ now.state i k
  state_is =
      (rest_is p core.fits now core.agreed.marks i inside k k (omega arith) (omega arith)).state
      ∙ sym (core.agreed.marks.own_step i k emitted)

  -- all replies are found
  pub fed_fits : {rs : List Reply} → replies_now h i (step_of h i k) ≡ Some rs → all_fit (accesses_at p i rest) rs ≡ true
  fed_fits {rs} e =
      fit_same (done_in rest.steps) (requests_of p (i, rest.state)) waiting rs
      (ap (λ (z : ModuleState). map bridge.seen_request (requests_of p (i, z))) state_is
      ∙ seen_same p core.sound core.agreed.marks i k emitted)
      ∙ replies_fit (log_at h.logs i).outcomes (value_now h.channels) (step_of h i k).first_query waiting rs e

  pub fed_rest : {rs : List Reply} → replies_now h i (step_of h i k) ≡ Some rs
      → next_rest p i rest rs ≡ rest_after p now i (emitted_of h i)
  fed_rest {rs} e =
      ap (next_rest p i rest) (found_told p core.sound core.agreed.marks i k emitted e)
      ∙ (sym (fed_is p now i k) ∙ ap (rest_after p now i) newest)

  pub fed_answered : {rs : List Reply} → replies_now h i (step_of h i k) ≡ Some rs → IsAnswered p now i
  fed_answered {rs} e j q =
      let f = are_found h.channels (log_at h.logs i).outcomes waiting (step_of h i k).first_query rs e in
      let same : j ≡ k = omega arith in (
        subst (λ (n : ℕ). now.answered i n ≡ true) (sym same)
            (and_from (ltb k (emitted_of h i)) _ (lt-ltb k (emitted_of h i) emitted) (among f.enough)),
        subst (λ (n : ℕ). values_there (design p) now i n ≡ true) (sym same)
            (there_is p core.sound core.agreed.marks i k emitted inside ∙ f.there),
      )
    where
      among : queries_in waiting ≤ length (log_at h.logs i).outcomes - (step_of h i k).first_query
          → are_among (step_of h i k) (length (log_at h.logs i).outcomes) ≡ true
      among l =
          elim (eqb_tells (queries_in waiting) 0) [
            | inl q ↦ or_left _ _ q.0
            | inr q ↦ let some = q.1 in or_right _ _ (le-leb ((step_of h i k).first_query + queries_in waiting)
                (length (log_at h.logs i).outcomes) (omega arith))
          ]

  -- or some are not there
  pub not_fed : replies_now h i (step_of h i k) ≡ None → IsAnswered p now i → ⊥
  not_fed e answered =
      let (recorded, there) = answered k newest in are_told p core.sound core.agreed.marks i k emitted inside recorded there e

  module _ {step : Step} (there : slice_get (lane_at h.lanes i).steps k ≡ Some step) where
    step_is : step_of h i k ≡ step
    step_is = get_or_from_slice_get (lane_at h.lanes i).steps k step no_step there

    -- whether one is missing
    abbrev missing : Option ℕ
    missing = first_missing (log_at h.logs i).outcomes (value_now h.channels) step.first_query step.accesses

    both : is_some missing ≡ not (is_some (replies_now h i (step_of h i k)))
    both =
        none_missing (log_at h.logs i).outcomes (value_now h.channels) step.first_query step.accesses
        ∙ ap (λ (t : Step). not (is_some (replies_now h i t))) (sym step_is)

    pub newest_found : is_some missing ≡ false → IsAnswered p now i
    newest_found e = go (replies_now h i (step_of h i k)) refl
      where
        go : (o : Option (List Reply)) → replies_now h i (step_of h i k) ≡ o → IsAnswered p now i
        go None q = let z = sym e ∙ (both ∙ ap (λ (o : Option (List Reply)). not (is_some o)) q) in cc
        go (Some rs) q = fed_answered q

    pub newest_missed : is_some missing ≡ true → IsAnswered p now i → ⊥
    newest_missed e = go (replies_now h i (step_of h i k)) refl
      where
        go : (o : Option (List Reply)) → replies_now h i (step_of h i k) ≡ o → IsAnswered p now i → ⊥
        go None q = not_fed q
        go (Some rs) q = let z = sym e ∙ (both ∙ ap (λ (o : Option (List Reply)). not (is_some o)) q) in cc

-- ---- the step that a run is asked about

module _ {p : Plan} {engine : Engine} {runs : List (Option ModuleRun)} (core : IsCore p engine runs)
    {i : ℕ} (inside : i < length engine.graph.lanes) {run : ModuleRun}
    (r : IsRunOf p (core_of (design p) (held_in engine)) i run) (w : waits run ≡ true) where
  abbrev g : Held
  g = held_in engine

  abbrev k : ℕ
  k = emitted_of g i - 1

  pub asked_some : suc k ≡ emitted_of g i
  asked_some = let (n, newest, stands) = r.waiting w in omega arith

  within : i < length p.design.modules
  within = let n = core.sound.lanes in omega arith

  pub asked_stands : StandsAt p i (rest_after p (core_of (design p) g) i k) run
  asked_stands =
      let (n, newest, stands) = r.waiting w in
      let same : n ≡ k = omega arith in
      subst (λ (j : ℕ). StandsAt p i (rest_after p (core_of (design p) g) i j) run) same stands

  abbrev step : Step
  step = step_of g i k

  emitted_asked : k < emitted_of g i
  emitted_asked = let some = asked_some in omega arith

  after : IsRestAfter p (core_of (design p) g) i k (rest_after p (core_of (design p) g) i k)
  after = rest_is p core.fits (core_of (design p) g) core.agreed.marks i within k k (omega arith) (let l = emitted_asked in omega arith)

  accesses_same : accesses_at p i (rest_after p (core_of (design p) g) i k) ≡ step.accesses
  accesses_same =
      let l = emitted_asked in
      let rest = rest_after p (core_of (design p) g) i k in
      ap (λ (z : ModuleState). map (access_of (done_in rest.steps)) (requests_of p (i, z))) (state_is core asked_some within)
      ∙ same_accesses (done_in rest.steps) (λ side c. core_tally (design p) (core_of (design p) g) i side c k)
      (requests_of p (i, (core_of (design p) g).state i k)) step.accesses (seen_same p core.sound core.agreed.marks i k l)
      (ordinal_is p g core.agreed.marks i k (omega arith) (done_in rest.steps) after.done) (core.sound.ordinals i k l)

  -- the run lists the accesses of that step
  pub asked_accesses : {xs : List Access}
      → ((q : Plan) (j : ℕ) (o : Own) → StandsAt q j o run → xs ≡ cond (waits run) (accesses_at q j o) []) → xs ≡ step.accesses
  asked_accesses listed =
      let rest = rest_after p (core_of (design p) g) i k in
      listed p i rest asked_stands ∙ (cond-true (waits run) (accesses_at p i rest) [] w ∙ accesses_same)

  pub asked_listed : (listed_step run).accesses ≡ step.accesses
  asked_listed = asked_stands.accesses (asked_stage run.path.value.stage w) ∙ accesses_same

  -- and has made the queries of those before it
  pub asked_queries : {n : ℕ} → ((q : Plan) (j : ℕ) (o : Own) → StandsAt q j o run → n ≡ length (queries (done_in o.steps)))
      → n ≡ step.first_query
  asked_queries made =
      let l = emitted_asked in
      made p i (rest_after p (core_of (design p) g) i k) asked_stands
      ∙ (ap (λ (xs : List Exchange). length (queries xs)) after.done
      ∙ (queries_done p g core.sound i k (omega arith) ∙ sym (core.sound.first_query i k l)))

  pub asked_inside : All (IsAccess g.channels) step.accesses
  asked_inside = accesses_inside p core.sound core.agreed.marks i k emitted_asked within

  pub asked_not_fed : replies_now g i step ≡ None → MayRun (design p) (core_of (design p) g) i → ⊥
  asked_not_fed e may =
      not_fed core asked_some within e (λ j q. (may.answered j q, may.there j q))

  pub asked_fits : {rs : List Reply} → replies_now g i step ≡ Some rs → all_fit (accesses_at p i (rest_after p (core_of (design p) g) i k))
      rs ≡ true
  asked_fits e = fed_fits core asked_some within e

  -- they are told one after the other
  pub asked_told : {rs : List Reply} → replies_now g i step ≡ Some rs
      → own.replies_told (reply_told (drop step.first_query (log_at g.logs i).outcomes) (value_now g.channels)) 0 0
      (accesses_at p i (rest_after p (core_of (design p) g) i k))
      ≡ rs
  asked_told {rs} e =
      rw accesses_same (told_from (log_at g.logs i).outcomes (value_now g.channels) step.first_query step.accesses rs e)

  -- fed, the run goes on to the next rest
  pub asked_run : {rs : List Reply} → replies_now g i step ≡ Some rs → {new : ModuleRun}
      → StandsAt p i (next_rest p i (rest_after p (core_of (design p) g) i k) rs) new → waits new ≡ false
      → IsRunOf p (core_of (design p) g) i new
  asked_run {rs} e {new} go answered = record {
    waiting = λ q. absurd (both_ways _ answered q);
    going = λ q. (
      fed_answered core asked_some within e,
      subst (λ (o : Own). StandsAt p i o new) (fed_rest core asked_some within e) go,
    );
    over = λ q. answered;
  }
