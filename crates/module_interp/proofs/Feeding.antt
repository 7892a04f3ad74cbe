-- A run goes on from its rest on replies.
use Rattle.std.specs.{Box.with_value, Prelude.All, Prelude.filter_map, Prelude.Option, Prelude.Some, Prelude.None}
use Rattle.std.proofs.Common.{◌≡◌, ℕ, zero, suc, ◌+◌, ◌^◌, ◌<◌, ◌≤◌, true, false, List, [], ◌∷◌, ◌++◌, length, map, refl, sym, ap, subst}
use Rattle.std.proofs.Common.{◌∙◌, length-append, append_assoc, get_or, arith}
use Rattle.std.proofs.{lemmas.List.Sums.passes_at_first, lemmas.Bool.or_right}
use Rattle.std.proofs.lemmas.List.{length-map, get_or-map, append-nil}
use Rattle.module_interp.specs.{Access, Port, side_of, Channel, Plan, Reply, Request, due, port, uses, ModuleState, move, requests}
use Rattle.module_interp.specs.{request_for, is_over, no_module, module_at, requests_of, owner, Exchange, OwnStep, Own, own_after, paired}
use Rattle.module_interp.specs.{quiet, skip, is_some_request, IsStateOf, gone_on, Stage, Path, Tally, ModuleRun, is_asked, StandsAt}
use Rattle.module_interp.specs.{requests_at, next_rest, done_in, after_move, CanAsk, IsStageSoundBy, IsInTime, LeadsTo, IsTallyOf, HasPort}
use Rattle.module_interp.specs.{KnowsPorts, IsStateSound, request_from}
use Rattle.module_interp.specs.declared.path.Stage.TheVariants.{Begun, Asked, Ticked}
use Rattle.flow_design.specs.declared.design.Module.{Module}
use Rattle.lockstep_defs.proofs.{States.move_state, Standing.requests_stand}
use Rattle.module_code.proofs.Readiness.{few_due}
use Rattle.module_interp.proofs.{Gaps.IsOwnInTime, Gaps.next_in_time, Gaps.least_gap, Counting.move_up, Standing.IsAtRest, Standing.at_rest}
use Rattle.module_interp.proofs.{Standing.some_asked, Tallies.length-paired, Timing.module_sound, Timing.step_in_time}
use Rattle.module_interp.proofs.Keeping.{at_stage, sound_at, asked_same, begun_alive}

pub asked_stage : (g : Stage) → is_asked g ≡ true → g ≡ Asked
asked_stage Begun h = cc
asked_stage Asked h = refl
asked_stage Ticked h = cc

-- ---- at a step that waits

pub record Waits (p : Plan) (i : ℕ) (o : Own) (x : Path) : Type 0 where
  pub can : CanAsk x
  pub rest : IsAtRest p i o x
  pub state : IsStateOf (module_at p i) x.state
  pub time : IsInTime p (module_at p i) x.state x.since
  pub asked : map request_from x.asked ≡ requests_of p (i, x.state)
  pub alive : x.state.ended ≡ false
  pub few : x.state.count < p.ops

pub waits_at : (p : Plan) (i : ℕ) (o : Own) (x : Path) → LeadsTo p i o x → x.stage ≡ Asked → Waits p i o x
waits_at p i o x l asked =
    let b = l.path in
    let can : CanAsk x = sound_at x Asked asked b.stage in
    let here : after_move x ≡ x.state = at_stage x Asked asked in
    let same : map request_from x.asked ≡ requests_of p (i, x.state) = asked_same p i x b can.asked in
    let life = begun_alive x.limit x.state can.alive in
    record {
      can = can;
      rest = at_rest p i o x l here (or_right (is_over p.ops x.state) _ (ap is_some_request (sym same) ∙ some_asked x.asked can.some));
      state = subst (IsStateOf (module_at p i)) here b.state;
      time = subst (λ (s : ModuleState). IsInTime p (module_at p i) s x.since) here b.time;
      asked = same;
      alive = life.0;
      few = rw b.limit at life.1;
    }

asks : (p : Plan) (i : ℕ) (o : Own) (x : Path) → Waits p i o x → map request_from x.asked ≡ requests_at p i o
asks p i o x w = w.asked ∙ ap (λ (s : ModuleState). requests_of p (i, s)) (sym w.rest.state)

asks_some : (p : Plan) (i : ℕ) (o : Own) (x : Path) → Waits p i o x → 0 < length (requests_at p i o)
asks_some p i o x w =
    let some = w.can.some in
    let as_many = ap (λ (rs : List Request). length rs) (asks p i o x w) in
    omega (arith, length-map x.asked request_from)

-- ---- the next rest

after_state : (m : Module) (o : Own) (rs : List Request) (qs : List Reply) → 0 < length rs → (own_after m o rs qs).state ≡ move m o.state qs
after_state m o [] qs h = absurd (omega arith)
after_state m o (r ∷ rs) qs h = refl

after_since : (m : Module) (o : Own) (rs : List Request) (qs : List Reply) → 0 < length rs → (own_after m o rs qs).since ≡ 1
after_since m o [] qs h = absurd (omega arith)
after_since m o (r ∷ rs) qs h = refl

flat_push : (steps : List OwnStep) (s : OwnStep) → done_in (steps ++ s ∷ []) ≡ done_in steps ++ paired s.requests s.replies
flat_push [] s = append-nil (paired s.requests s.replies)
flat_push (t ∷ ts) s =
    ap (λ (xs : List Exchange). paired t.requests t.replies ++ xs) (flat_push ts s)
    ∙ sym (append_assoc (paired t.requests t.replies) (done_in ts) (paired s.requests s.replies))

pub after_done : (m : Module) (o : Own) (rs : List Request) (qs : List Reply) → 0 < length rs
    → done_in (own_after m o rs qs).steps ≡ done_in o.steps ++ paired rs qs
after_done m o [] qs h = absurd (omega arith)
after_done m o (r ∷ rs) qs h = flat_push o.steps (record { gap = o.since; requests = r ∷ rs; replies = qs })

-- the due operations have committed on these replies, and the clock has gone up
pub record HasCommitted (x y : Path) (qs : List Reply) : Type 0 where
  pub frame : y ≡ record x { state = y.state; stage = Ticked }
  pub moved : gone_on y.of y.state ≡ move x.of x.state qs
  pub block : y.state.control.block ≡ x.state.control.block
  pub has_started : y.state.control.newest ≤ y.state.control.clock

pub fed_leads : (p : Plan) (i : ℕ) (o : Own) (x y : Path) (qs : List Reply) → LeadsTo p i o x → x.stage ≡ Asked → HasCommitted x y qs
    → LeadsTo p i (next_rest p i o qs) (record y { since = 1 })
fed_leads p i o x y qs l asked h =
    let b = l.path in
    let f = h.frame in
    let of : y.of ≡ x.of = ap (λ (z : Path). z.of) f in
    let codes : y.codes ≡ x.codes = ap (λ (z : Path). z.codes) f in
    let ticked : y.stage ≡ Ticked = ap (λ (z : Path). z.stage) f in
    let there : after_move (record y { since = 1 }) ≡ move x.of x.state qs = at_stage (record y { since = 1 }) Ticked ticked ∙ h.moved in
    let w = waits_at p i o x l asked in
    let m = module_at p i in
    let sound = module_sound p b.fits i b.owner in
    let few = few_due (length p.design.channels) m x.state sound (record { state = w.state; running = w.alive }) in
    let ops = b.fits.operations in
    let count = (move_up m x.state qs).1 in
    let alive_few = w.few in
    let same : after_move (record y { since = 1 }) ≡ move m x.state qs = there ∙ ap (λ (n : Module). move n x.state qs) b.of in
    let some = asks_some p i o x w in
    let base : (own_after m o (requests_at p i o) qs).state ≡ after_move (record y { since = 1 }) =
    after_state m o (requests_at p i o) qs some ∙ (ap (λ (s : ModuleState). move m s qs) w.rest.state ∙ sym same) in
    record {
      path = record {
        fits = b.fits;
        owner = b.owner;
        of = of ∙ b.of;
        limit = ap (λ (z : Path). z.limit) f ∙ b.limit;
        codes = rw (of, codes) b.codes;
        state = subst (IsStateOf m) (sym same) (move_state (length p.design.channels) m sound x.state qs w.state w.alive);
        operations = subst (λ (s : ModuleState). s.count < 2 ^ 32) (sym same) (omega arith);
        time = subst (λ (s : ModuleState). IsInTime p m s 1) (sym same)
            (step_in_time p b.fits i b.owner x.state qs x.since w.state w.alive w.few w.time);
        stage = subst (λ (g : Stage). IsStageSoundBy g (record y { since = 1 })) (sym ticked)
            (record { block = rw (h.block, of) w.can.answer.state.state.block; has_started = h.has_started });
      };
      rest = ap (λ (s : ModuleState). skip p i (quiet p i s) s) base;
      since = ap (λ (n : ℕ). n + quiet p i (own_after m o (requests_at p i o) qs).state) (after_since m o (requests_at p i o) qs some)
          ∙ ap (λ (s : ModuleState). 1 + quiet p i s) base;
    }

-- ---- what was done counts

fewer_map : {X Y : Type 0} (f : X → Option Y) (xs : List X) → length (filter_map f xs) ≤ length xs
fewer_map f [] = omega arith
fewer_map {X} {Y} f (x ∷ xs) = by_option (f x) refl (fewer_map f xs)
  where
    by_option : (y : Option Y) → f x ≡ y → length (filter_map f xs) ≤ length xs → length (filter_map f (x ∷ xs)) ≤ suc (length xs)
    by_option None e rest = rw e (omega arith)
    by_option (Some y) e rest = rw e (omega arith)

pub fewer_requests : (channels : List Channel) (m : Module) (s : ModuleState) → length (requests channels m s) ≤ length (due m s)
unfolding requests
fewer_requests channels m s = fewer_map (request_for channels m s) (due m s)

skip_up : (p : Plan) (i n : ℕ) (s : ModuleState) → s.count ≤ (skip p i n s).count
skip_up p i zero s = omega arith
skip_up p i (suc n) s =
    let rest = skip_up p i n s in
    let more = (move_up (module_at p i) (skip p i n s) []).0 in
    omega arith

pub fed_few : (p : Plan) (i : ℕ) (o : Own) (qs : List Reply) → 0 < length (requests_at p i o) → length (done_in o.steps) ≤ o.state.count
    → length (done_in (next_rest p i o qs).steps) ≤ (next_rest p i o qs).state.count
fed_few p i o qs some few =
    let m = module_at p i in
    let rs = requests_at p i o in
    let z = (own_after m o rs qs).state in
    let total : length (done_in (next_rest p i o qs).steps) ≡ length (done_in o.steps) + length rs =
    ap (λ (xs : List Exchange). length xs) (after_done m o rs qs some)
    ∙ (length-append (done_in o.steps) (paired rs qs) ∙ ap (λ (n : ℕ). length (done_in o.steps) + n) (length-paired rs qs)) in
    let count : z.count ≡ (move m o.state qs).count = ap (λ (s : ModuleState). s.count) (after_state m o rs qs some) in
    let up = (move_up m o.state qs).0 in
    let less = fewer_requests p.design.channels m o.state in
    let later = skip_up p i (quiet p i z) z in
    omega arith

fed_in_time : (p : Plan) (i : ℕ) (o : Own) (r : ModuleRun) (qs : List Reply) → StandsAt p i o r → r.path.value.stage ≡ Asked
    → 0 < length (requests_at p i o) → IsOwnInTime p i (next_rest p i o qs)
fed_in_time p i o r qs s asked some =
    let b = s.leads.path in
    let m = module_at p i in
    let w = waits_at p i o r.path.value s.leads asked in
    let state : IsStateOf m o.state = subst (IsStateOf m) (sym w.rest.state) w.state in
    let alive : o.state.ended ≡ false = ap (λ (z : ModuleState). z.ended) w.rest.state ∙ w.alive in
    let count : o.state.count ≡ r.path.value.state.count = ap (λ (z : ModuleState). z.count) w.rest.state in
    let few = w.few in
    let later : IsStateOf m (own_after m o (requests_at p i o) qs).state =
    subst (IsStateOf m) (sym (after_state m o (requests_at p i o) qs some))
    (move_state (length p.design.channels) m (module_sound p b.fits i b.owner) o.state qs state alive) in
    next_in_time p b.fits i b.owner o qs some state alive (omega arith) later s.in_time

unasked : {P : Type 0} (g : Stage) → g ≡ Ticked → g ≡ Asked → P
unasked g ticked asked = cc

pub fed_stands : (p : Plan) (i : ℕ) (o : Own) (r : ModuleRun) (y : Path) (qs : List Reply) (t : Tally) → StandsAt p i o r
    → r.path.value.stage ≡ Asked → HasCommitted r.path.value y qs
    → IsTallyOf (done_in o.steps ++ paired (map request_from r.path.value.asked) qs) t → KnowsPorts (module_at p i) t
    → StandsAt p i (next_rest p i o qs) (record { path = with_value r.path (record y { since = 1 }); tally = t })
fed_stands p i o r y qs t s asked h tally ports =
    let w = waits_at p i o r.path.value s.leads asked in
    let m = module_at p i in
    let same = asks p i o r.path.value w in
    let some = asks_some p i o r.path.value w in
    record {
      leads = fed_leads p i o r.path.value y qs s.leads asked h;
      tally = subst (λ (xs : List Exchange). IsTallyOf xs t)
          (ap (λ (rs : List Request). done_in o.steps ++ paired rs qs) same ∙ sym (after_done m o (requests_at p i o) qs some)) tally;
      ports = ports;
      few = fed_few p i o qs some s.few;
      accesses = λ e. unasked y.stage (ap (λ (z : Path). z.stage) h.frame) e;
      in_time = fed_in_time p i o r qs s asked some;
      after = λ e. least_gap p i o qs;
    }

-- what is needed to count a step
pub record CanCount (o : Own) (t : Tally) (x : Path) : Type 0 where
  pub few : length (done_in o.steps) + length x.asked < 2 ^ 40
  pub ports : All (λ (a : Access). HasPort (side_of a.kind) a.channel t) x.asked

-- the module at a port uses it
pub owner_uses : (p : Plan) (i : ℕ) → i < length p.design.modules → (a : Port) → owner p a ≡ i → uses a (module_at p i) ≡ true
unfolding owner
owner_uses p i inside a is =
    subst (λ (n : ℕ). uses a (module_at p n) ≡ true) is
    (passes_at_first (uses a) p.design.modules no_module (let e = is in omega arith))

pub can_count : (p : Plan) (i : ℕ) (o : Own) (r : ModuleRun) → StandsAt p i o r → r.path.value.stage ≡ Asked
    → CanCount o r.tally r.path.value
can_count p i o r s asked =
    let w = waits_at p i o r.path.value s.leads asked in
    let b = s.leads.path in
    let m = module_at p i in
    let xs = r.path.value.asked in
    let count : o.state.count ≡ r.path.value.state.count = ap (λ (z : ModuleState). z.count) w.rest.state in
    let sound : IsStateSound m r.path.value.state = record { state = w.state; running = w.alive } in
    let due_few = few_due (length p.design.channels) m r.path.value.state (module_sound p b.fits i b.owner) sound in
    let less = fewer_requests p.design.channels m r.path.value.state in
    let size = ap (λ (rs : List Request). length rs) w.asked in
    let as_many = length-map xs request_from in
    let few = s.few in
    let ops = b.fits.operations in
    let alive_few = w.few in
    record {
      few = omega arith;
      ports = λ k d inside.
          let e = request_from d in
          let stands = requests_stand p b.fits i b.owner r.path.value.state k e (omega arith) in
          let q = get_or (requests_of p (i, r.path.value.state)) k e in
          subst (λ (z : Request). HasPort (side_of z.kind) z.channel r.tally)
          (ap (λ (rs : List Request). get_or rs k e) (sym w.asked) ∙ get_or-map request_from xs k d e inside)
          (s.ports (port q.kind q.channel) (owner_uses p i b.owner (port q.kind q.channel) stands.owned));
    }

-- the accesses of a step that waits are few
pub listed_few : (p : Plan) (i : ℕ) (o : Own) (r : ModuleRun) → StandsAt p i o r → r.path.value.stage ≡ Asked
    → length r.path.value.asked < 2 ^ 40
listed_few p i o r s asked = omega (arith, (can_count p i o r s asked).few)
