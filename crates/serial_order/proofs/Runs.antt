-- A module's run beside its serial run, from the opening to the end.
use Rattle.std.proofs.Common.{◌≡◌, ℕ, suc, ◌+◌, ◌-◌, ◌*◌, ◌≤◌, ◌<◌, List, [], ◌∷◌, length, get_or, min, Bool, true, false, not, ◌&&◌, cond}
use Rattle.std.proofs.Common.{refl, sym, ◌∙◌, ap, subst, arith, ◌==◌, true≢false, replicate, map}
use Rattle.std.proofs.{lemmas.Bool.eqb-true, lemmas.Bool.leb-true, lemmas.Bool.and_parts, Math.Nat.min-eq_left}
use Rattle.std.specs.Prelude.{nat_le, slice_index, if◌then◌else◌}
use Rattle.serial_order.specs.{Block, Channel, Next, Control, ModuleState, no_block, block_at, block_of, is_loop, interval, live_count}
use Rattle.serial_order.specs.{temps_of, due, IsModuleSound, IsNextSound, requests, ticked, decided, started, stopped, finished, followed}
use Rattle.serial_order.specs.{entered, again_of, is_block_over, move, opened, fresh_temps, HasAllPlaces, IsStateOf, Used, SerialProgress}
use Rattle.serial_order.specs.{all_given, clock_made, goes_again, iterated, serial}
use Rattle.serial_order.specs.declared.order.Used.TheVariants.{Register, Memory, Reading, Writing}
use Rattle.flow_design.specs.declared.design.Module.{Module}
use Rattle.flow_design.specs.declared.design.Next.TheVariants.{Goto, Branch, Stop}
use Rattle.lockstep_defs.proofs.States.{move_state, opened_state}
use Rattle.serial_order.proofs.{Outcomes.Setting, Outcomes.setting_of, Alike.IsThing, Alike.held, Alike.only, Applied.Placed}
use Rattle.serial_order.proofs.Offsets.{Stands, HasStores, upto, upto-zero, upto_ended, upto_start}
use Rattle.serial_order.proofs.Windows.{IsChain, HoldsAlike, live_in, TempsAlike, IsInLoop}
use Rattle.serial_order.proofs.Overlap.{after_clock, clock_is}
use Rattle.serial_order.proofs.Going.{IsSerial, HasTicked, tick_of, has_ticked, ticked_ended, decided_not, decided_stop, decided_start}
use Rattle.serial_order.proofs.Going.{finished_not, finished_now}
use Rattle.serial_order.proofs.Loops.{whole, iterated_again, iterated_over, whole_stands, last_thing, decides_alike, with_looping}
use Rattle.serial_order.proofs.Loops.{with_looping_holds, same_loop, with_start, longer_chain, started_loop}

module _ (lists : List (List ℕ)) (channels : List Channel) (m : Module) (sound : IsModuleSound (length channels) m)
    (rules : (b : ℕ) → b < length m.blocks → IsSerial (setting_of lists channels m (block_at m b))) where
  -- the serial run from an iteration on
  abbrev from_on : ℕ → ℕ → SerialProgress
  from_on first i = serial lists channels m (first + i)

  serial-suc : (k : ℕ) → serial lists channels m (suc k) ≡ iterated lists channels m (serial lists channels m k)
  unfolding serial
  serial-suc k = refl

  pub from-suc : (first i : ℕ) → from_on first (suc i) ≡ iterated lists channels m (from_on first i)
  from-suc first i = ap (serial lists channels m) (omega arith) ∙ serial-suc (first + i)

  abbrev setting : Block → Setting
  setting b = setting_of lists channels m b

  -- a module that goes on in a block: there the serial run begins with iteration `first`, and the newest iteration is number n
  pub record GoesBeside (b : Block) (first n t : ℕ) (p : SerialProgress) : Type 0 where
    pub state : IsStateOf m p.state
    pub alive : p.state.ended ≡ false
    pub keeps : IsSerial (setting b)
    pub next : IsNextSound (length m.registers) (length m.blocks) b.next
    pub chain : IsChain (setting b) (from_on first) n
    pub runs : (from_on first n).state.ended ≡ false
    pub loop : IsInLoop (setting b) (from_on first) n t p
    pub over : p.state.control.looping ≡ false → goes_again b (whole (setting b) (from_on first n)).state ≡ false

  -- a module that is ended, as the serial run is after k iterations
  pub record EndsBeside (k : ℕ) (p : SerialProgress) : Type 0 where
    pub ended : p.state.ended ≡ true
    pub serial_ended : (serial lists channels m k).state.ended ≡ true
    pub things : (u : Used) → IsThing (length channels) m u → held u p ≡ held u (serial lists channels m k)
    pub stores : HasStores m p.state
    pub serial_stores : HasStores m (serial lists channels m k).state

  pub data IsBeside (p : SerialProgress) : Type 0 where
    goes : (b : Block) (first n t : ℕ) → GoesBeside b first n t p → IsBeside p
    ends : (k : ℕ) → EndsBeside k p → IsBeside p

  -- ---- into a block

  entered_holds : (b : ℕ) (u : Used) (x : SerialProgress) → held u (record x { state = entered m b x.state }) ≡ held u x
  unfolding entered
  entered_holds b (Register x) r = refl
  entered_holds b (Memory n) r = refl
  entered_holds b (Reading f) r = refl
  entered_holds b (Writing f) r = refl

  entered_block : (b : ℕ) (s : ModuleState)
      → (entered m b s).control ≡ record { block = b; clock = 0; newest = 0; looping = is_loop (block_at m b).kind }
  unfolding entered
  entered_block b s = refl

  entered_temps : (b : ℕ) (s : ModuleState) → (entered m b s).temps ≡ fresh_temps (block_at m b) ∷ []
  unfolding entered
  entered_temps b s = refl

  entered_ended : (b : ℕ) (s : ModuleState) → (entered m b s).ended ≡ s.ended
  unfolding entered
  entered_ended b s = refl

  entered_stores : (b : ℕ) (s : ModuleState) → HasStores m s → HasStores m (entered m b s)
  unfolding entered
  entered_stores b s h = record { registers = h.registers; memories = h.memories; words = h.words }

  enters : (b k : ℕ) (x y : SerialProgress) → b < length m.blocks → x.state.ended ≡ false → y.state.ended ≡ false → HasStores m y.state
      → ((u : Used) → IsThing (length channels) m u → held u x ≡ held u y) → IsStateOf m (entered m b x.state)
      → serial lists channels m k ≡ record y { state = entered m b y.state }
      → GoesBeside (block_at m b) k 0 0 (record x { state = entered m b x.state })
  enters b k x y there x_runs y_runs stores alike state is = record {
    state = state;
    alive = entered_ended b x.state ∙ x_runs;
    keeps = rules b there;
    next = (sound.blocks b no_block there).next;
    chain = record { stands = λ i l. stands i (omega arith); linked = λ i l. absurd (omega arith) };
    runs = ap (λ (z : SerialProgress). z.state.ended) (start 0 refl) ∙ (entered_ended b y.state ∙ y_runs);
    loop = record {
      block = here x;
      clock = ap (λ (z : Control). z.clock) (entered_block b x.state);
      newest = ap (λ (z : Control). z.newest) (entered_block b x.state) ∙ (omega arith);
      started = omega arith;
      places = places;
      temps = temps;
      things = things;
    };
    over = λ e. not_looping (whole (setting (block_at m b)) (from_on k 0)).state
        (sym (ap (λ (z : Control). z.looping) (entered_block b x.state)) ∙ e);
  }
    where
      start : (i : ℕ) → i ≡ 0 → from_on k i ≡ record y { state = entered m b y.state }
      start i e = ap (serial lists channels m) (omega arith) ∙ is

      here : (z : SerialProgress) → block_of m (entered m b z.state) ≡ block_at m b
      here z = ap (λ (q : Control). block_at m q.block) (entered_block b z.state)

      stands : (i : ℕ) → i ≡ 0 → Stands (setting (block_at m b)) (from_on k i)
      stands i e =
          subst (Stands (setting (block_at m b))) (sym (start i e))
          (record { block = here y; stores = entered_stores b y.state stores })

      places : Placed (setting (block_at m b)) (live_count (block_at m b) (entered m b x.state).control)
          (record x { state = entered m b x.state })
      places =
          subst (λ (q : Block). HasAllPlaces m q (live_count q (entered m b x.state).control) (entered m b x.state)) (here x) state.places

      one : live_count (block_at m b) (entered m b x.state).control ≡ 1
      one = sym places.temps ∙ ap length (entered_temps b x.state)

      temps : TempsAlike (setting (block_at m b)) (from_on k) 0 0 (live_count (block_at m b) (entered m b x.state).control) (λ a. a)
          (record x { state = entered m b x.state })
      temps j i a slot =
          let there = slot.there in
          let number = slot.number in
          let age = slot.age in
          let live = one in
          let first : i ≡ 0 = omega arith in
          let begun : 0 ≡ a = omega arith in
          let place : live_count (block_at m b) (entered m b x.state).control - 1 - j ≡ 0 = omega arith in
          ap (λ (ts : List (List ℕ)). get_or ts (live_count (block_at m b) (entered m b x.state).control - 1 - j) [])
          (entered_temps b x.state)
          ∙ (ap (λ (q : ℕ). get_or (fresh_temps (block_at m b) ∷ []) q []) place
          ∙ (ap fresh_temps (sym (stands i first).block)
          ∙ (ap (λ (z : SerialProgress). temps_of z.state 0) (sym (upto-zero (setting (block_at m b)) (from_on k i)))
          ∙ ap (λ (q : ℕ). temps_of (upto (setting (block_at m b)) q (from_on k i)).state 0) begun)))

      things : HoldsAlike (setting (block_at m b)) (from_on k) 0 0 (record x { state = entered m b x.state })
      things u thing i a low age later earlier =
          let c = setting (block_at m b) in
          let first : i ≡ 0 = omega arith in
          let begun : 0 ≡ a = omega arith in
          let none : 0 ≤ c.block.len = omega arith in
          entered_holds b u x
          ∙ (alike u thing
          ∙ (sym (entered_holds b u y)
          ∙ (ap (held u) (sym (start i first))
          ∙ (sym (upto_start c u (from_on k i))
          ∙ (ap (λ (q : ℕ). held u (upto c q (from_on k i))) (sym (min-eq_left none))
          ∙ ap (λ (q : ℕ). held u (upto c (min q c.block.len) (from_on k i))) begun)))))

      not_looping : (z : ModuleState) → is_loop (block_at m b).kind ≡ false → goes_again (block_at m b) z ≡ false
      not_looping z e = rw e refl

  ended_holds : (u : Used) (x : SerialProgress) → held u (record x { state = record x.state { ended = true } }) ≡ held u x
  ended_holds (Register v) x = refl
  ended_holds (Memory n) x = refl
  ended_holds (Reading f) x = refl
  ended_holds (Writing f) x = refl

  ended_stores : (s : ModuleState) → HasStores m s → HasStores m (record s { ended = true })
  ended_stores s h = record { registers = h.registers; memories = h.memories; words = h.words }

  -- the terminator leads both the same way
  follows : (next : Next) → IsNextSound (length m.registers) (length m.blocks) next → (k : ℕ) (x y : SerialProgress) → x.state.ended ≡ false
      → y.state.ended ≡ false → HasStores m x.state → HasStores m y.state
      → ((u : Used) → IsThing (length channels) m u → held u x ≡ held u y) → IsStateOf m (followed m next x.state)
      → serial lists channels m k ≡ record y { state = followed m next y.state } → IsBeside (record x { state = followed m next x.state })
  follows (Goto b) there k x y x_runs y_runs x_stores y_stores alike state is =
      goes (block_at m b) k 0 0 (enters b k x y there x_runs y_runs y_stores alike state is)
  follows (Branch r b o) there k x y x_runs y_runs x_stores y_stores alike state is =
      let same = only (alike (Register r) there.0) in
      let to : ℕ = if slice_index x.state.registers r == 0 then o else b in
      goes (block_at m to) k 0 0 (enters to k x y (inside (slice_index x.state.registers r == 0)) x_runs y_runs y_stores alike state
      (subst (λ (v : ℕ). serial lists channels m k ≡ record y { state = entered m (if v == 0 then o else b) y.state }) (sym same) is))
    where
      inside : (e : Bool) → cond e o b < length m.blocks
      inside true = there.2
      inside false = there.1
  follows Stop there k x y x_runs y_runs x_stores y_stores alike state is =
      ends k (record {
        ended = refl;
        serial_ended = ap (λ (z : SerialProgress). z.state.ended) is;
        things = λ u thing. ended_holds u x ∙ (alike u thing ∙ (sym (ended_holds u y) ∙ ap (held u) (sym is)));
        stores = ended_stores x.state x_stores;
        serial_stores = subst (λ (z : SerialProgress). HasStores m z.state) (sym is) (ended_stores y.state y_stores);
      })

  -- ---- a local clock

  -- a move on the replies of the lists
  abbrev pub moved : SerialProgress → SerialProgress
  moved p = record {
    state = move m p.state (all_given lists p.done (requests channels m p.state));
    done = (clock_made lists channels m p.state p.done).done;
  }

  -- the rest of a move after the commit
  abbrev rest : Block → SerialProgress → SerialProgress
  rest b q = record { state = finished m b (decided b q.state); done = q.done }

  moved_is : (b : Block) (p : SerialProgress) → IsSerial (setting b) → block_of m p.state ≡ b
      → moved p ≡ rest b (tick_of (setting b) (p.state.count + length (due m p.state)) (after_clock (setting b) p))
  unfolding move
  moved_is b p keeps here =
      let y = clock_made lists channels m p.state p.done in
      ap (λ (c : Block). record {
        state = finished m c (decided c (ticked c (record y.state { count = p.state.count + length (due m p.state) })));
        done = y.done;
      }) here
      ∙ ap (λ (x : SerialProgress). rest b (tick_of (setting b) (p.state.count + length (due m p.state)) x))
      (clock_is (setting b) p keeps.fit.pops here)

  module _ (b : Block) (first n t : ℕ) (p : SerialProgress) (h : GoesBeside b first n t p) where
    -- the state after the tick
    abbrev after : SerialProgress
    after = tick_of (setting b) (p.state.count + length (due m p.state)) (after_clock (setting b) p)

    ticked_is : HasTicked (setting b) (from_on first) n t p.state.control after
    ticked_is = has_ticked (setting b) (from_on first) n t p h.keeps h.chain h.loop (p.state.count + length (due m p.state))

    still_alive : after.state.ended ≡ false
    still_alive =
        ticked_ended (setting b) (from_on first) n t p h.keeps h.chain h.loop (p.state.count + length (due m p.state)) ∙ h.alive

    after_block : block_of m after.state ≡ b
    after_block = ap (λ (k : Control). block_at m k.block) ticked_is.control ∙ h.loop.block

    rest_state : IsStateOf m (rest b after).state
    rest_state =
        subst (λ (x : SerialProgress). IsStateOf m x.state) (moved_is b p h.keeps h.loop.block)
        (move_state (length channels) m sound p.state (all_given lists p.done (requests channels m p.state)) h.state h.alive)

    -- the newest iteration is younger than LEN
    young : t < n * interval b + b.len
    young =
        let early = h.state.young h.alive in
        let len = ap (λ (c : Block). c.len) h.loop.block in
        let clock = h.loop.clock in
        let newest = h.loop.newest in omega arith

    later_clock : after.state.control.clock ≡ suc t
    later_clock = let clock = h.loop.clock in ap (λ (k : Control). k.clock) ticked_is.control ∙ (omega arith)

    after_newest : after.state.control.newest ≡ n * interval b
    after_newest = ap (λ (k : Control). k.newest) ticked_is.control ∙ h.loop.newest

    next_number : serial lists channels m (first + suc n) ≡ iterated lists channels m (from_on first n)
    next_number = from-suc first n

    -- it goes on in its iterations, or its block is over
    finish : (l : Bool) → (l ≡ false → goes_again b (whole (setting b) (from_on first n)).state ≡ false)
        → IsStateOf m (finished m b (with_looping l after).state)
        → IsBeside (record { state = finished m b (with_looping l after).state; done = after.done })
    finish l over state = by_test (is_block_over b (with_looping l after).state.control) refl
      where
        places : IsStateOf m (with_looping l after).state → Placed (setting b) (live_in (setting b) after) (with_looping l after)
        places is =
            subst (λ (c : Block). HasAllPlaces m c (live_count c after.state.control) (with_looping l after).state) after_block is.places

        on : IsStateOf m (with_looping l after).state → GoesBeside b first n (suc t) (with_looping l after)
        on is = record {
          state = is;
          alive = still_alive;
          keeps = h.keeps;
          next = h.next;
          chain = h.chain;
          runs = h.runs;
          loop = same_loop (setting b) (from_on first) n t p after h.loop ticked_is l (places is);
          over = over;
        }

        out : l ≡ false → b.len ≤ after.state.control.clock - after.state.control.newest
            → IsStateOf m (followed m b.next (with_looping l after).state)
            → IsBeside (record { state = followed m b.next (with_looping l after).state; done = after.done })
        out e old is =
            let clock = later_clock in
            let newest = after_newest in
            let before = young in
            let stands = whole_stands (setting b) h.keeps.fit (from_on first n) (h.chain.stands n (omega arith)) in
            follows b.next h.next (first + suc n) (with_looping l after) (whole (setting b) (from_on first n)) still_alive
            (upto_ended (setting b) b.len (from_on first n) ∙ h.runs)
            (record { registers = ticked_is.stores.registers; memories = ticked_is.stores.memories; words = ticked_is.stores.words })
            stands.stores
            (λ u thing. with_looping_holds l u after
            ∙ last_thing (setting b) (from_on first) n (suc t) h.keeps h.chain after ticked_is.things (omega arith) u thing)
            is
            (next_number ∙ iterated_over (setting b) (from_on first n) (h.chain.stands n (omega arith)) h.runs (over e))

        parts : (x : Bool) (y z : ℕ) → (not x && nat_le y z) ≡ true → (x ≡ false) × (y ≤ z)
        parts true y z e = absurd (true≢false (sym e))
        parts false y z e = (refl, leb-true y z e)

        by_test : (o : Bool) → is_block_over b (with_looping l after).state.control ≡ o
            → IsBeside (record { state = finished m b (with_looping l after).state; done = after.done })
        by_test false e =
            let is = finished_not m b (with_looping l after).state e in
            subst (λ (s : ModuleState). IsBeside (record { state = s; done = after.done })) (sym is)
            (goes b first n (suc t) (on (subst (IsStateOf m) is state)))
        by_test true e =
            let is = finished_now m b (with_looping l after).state e in
            let both = parts l b.len (after.state.control.clock - after.state.control.newest) e in
            subst (λ (s : ModuleState). IsBeside (record { state = s; done = after.done })) (sym is)
            (out both.0 both.1 (subst (IsStateOf m) is state))

    -- ---- the loop decides

    is_this_loop : after.state.control.looping ≡ true → is_loop b.kind ≡ true
    is_this_loop e =
        subst (λ (c : Block). is_loop c.kind ≡ true) h.loop.block
        (h.state.control.is_loop_going (sym (ap (λ (k : Control). k.looping) ticked_is.control) ∙ e))

    again_zero : (x y : Bool) → y ≡ true → (x && not y) ≡ false
    again_zero true y e = rw e refl
    again_zero false y e = refl

    again_more : (x y : Bool) → x ≡ true → y ≡ false → (x && not y) ≡ true
    again_more x y e f = rw (e, f) refl

    module _ (looping : after.state.control.looping ≡ true) (due_now : suc t ≡ n * interval b + interval b) where
      same_register : (slice_index after.state.registers (again_of b.kind) == 0)
          ≡ (slice_index (whole (setting b) (from_on first n)).state.registers (again_of b.kind) == 0)
      same_register =
          ap (λ (v : ℕ). v == 0)
          (decides_alike (setting b) (from_on first) n (suc t) h.keeps h.chain after ticked_is.things due_now (is_this_loop looping))

      starts : (slice_index after.state.registers (again_of b.kind) == 0) ≡ false
          → IsStateOf m (finished m b (started b after.state))
          → IsBeside (record { state = finished m b (started b after.state); done = after.done })
      starts e state =
          let is = finished_not m b (started b after.state) not_over in
          subst (λ (s : ModuleState). IsBeside (record { state = s; done = after.done })) (sym is)
          (goes b first (suc n) (suc t) (on (subst (IsStateOf m) is state)))
        where
          not_over : is_block_over b (started b after.state).control ≡ false
          not_over = rw looping refl

          next : from_on first (suc n) ≡ whole (setting b) (from_on first n)
          next = from-suc first n ∙ iterated_again (setting b) (from_on first n) (h.chain.stands n (omega arith)) h.runs
              (again_more (is_loop b.kind) _ (is_this_loop looping) (sym same_register ∙ e))

          on : IsStateOf m (with_start (setting b) after).state → GoesBeside b first (suc n) (suc t) (with_start (setting b) after)
          on is = record {
            state = is;
            alive = still_alive;
            keeps = h.keeps;
            next = h.next;
            chain = longer_chain (setting b) (from_on first) n h.keeps.fit h.chain next;
            runs = ap (λ (x : SerialProgress). x.state.ended) next ∙ (upto_ended (setting b) b.len (from_on first n) ∙ h.runs);
            loop = started_loop (setting b) (from_on first) n t p after h.keeps h.chain h.loop ticked_is due_now next
                (subst (λ (c : Block). HasAllPlaces m c (live_count c (started b after.state).control)
                (started b after.state)) after_block
                is.places);
            over = λ e. absurd (true≢false (sym looping ∙ e));
          }

      stops : (slice_index after.state.registers (again_of b.kind) == 0) ≡ true
          → IsStateOf m (finished m b (stopped after.state))
          → IsBeside (record { state = finished m b (stopped after.state); done = after.done })
      stops e state = finish false (λ _. again_zero (is_loop b.kind) _ (sym same_register ∙ e)) state

    abbrev is_due : Bool
    is_due = after.state.control.looping && (after.state.control.clock - after.state.control.newest == interval b)

    -- the loop decides as the serial run does
    decides : is_due ≡ true → IsBeside (rest b after)
    decides e =
        let parts = and_parts after.state.control.looping (after.state.control.clock - after.state.control.newest == interval b) e in
        let age = eqb-true (after.state.control.clock - after.state.control.newest) (interval b) parts.1 in
        let clock = later_clock in
        let newest = after_newest in
        let started = h.loop.started in
        by_register parts.0 (omega arith) (slice_index after.state.registers (again_of b.kind) == 0) refl
      where
        by_register : after.state.control.looping ≡ true → suc t ≡ n * interval b + interval b → (z : Bool)
            → (slice_index after.state.registers (again_of b.kind) == 0) ≡ z → IsBeside (rest b after)
        by_register looping now true f =
            let is = decided_stop b after.state e f in
            subst (λ (s : ModuleState). IsBeside (record { state = finished m b s; done = after.done })) (sym is)
            (stops looping now f (subst (λ (s : ModuleState). IsStateOf m (finished m b s)) is rest_state))
        by_register looping now false f =
            let is = decided_start b after.state e f in
            subst (λ (s : ModuleState). IsBeside (record { state = finished m b s; done = after.done })) (sym is)
            (starts looping now f (subst (λ (s : ModuleState). IsStateOf m (finished m b s)) is rest_state))

    goes_on : is_due ≡ false → IsBeside (rest b after)
    goes_on e =
        let is = decided_not b after.state e in
        subst (λ (s : ModuleState). IsBeside (record { state = finished m b s; done = after.done })) (sym is)
        (finish after.state.control.looping (λ f. h.over (sym (ap (λ (k : Control). k.looping) ticked_is.control) ∙ f))
        (subst (λ (s : ModuleState). IsStateOf m (finished m b s)) is rest_state))

    pub goes_further : IsBeside (moved p)
    goes_further = subst IsBeside (sym (moved_is b p h.keeps h.loop.block)) (by_test is_due refl)
      where
        by_test : (d : Bool) → is_due ≡ d → IsBeside (rest b after)
        by_test true e = decides e
        by_test false e = goes_on e

  -- ---- the opening

  -- all registers and words 0, before the first block is entered
  abbrev blank : ModuleState
  blank = record {
    control = record { block = 0; clock = 0; newest = 0; looping = false };
    registers = replicate (length m.registers) 0;
    memories = map (λ memory. replicate memory.len 0) m.memories;
    temps = [];
    count = 0;
    ended = false;
  }

  opened_is : opened m ≡ entered m 0 blank
  unfolding opened
  opened_is = refl

  blank_stores : IsStateOf m (opened m) → HasStores m blank
  unfolding opened entered
  blank_stores h = record { registers = h.places.registers; memories = h.places.memories; words = h.places.words }

  serial-zero : serial lists channels m 0 ≡ record { state = opened m; done = [] }
  unfolding serial
  serial-zero = refl

  pub opens : IsBeside (record { state = opened m; done = [] })
  opens =
      let x : SerialProgress = record { state = blank; done = [] } in
      let is = opened_state (length channels) m sound in
      subst (λ (s : ModuleState). IsBeside (record { state = s; done = [] })) (sym opened_is)
      (goes (block_at m 0) 0 0 0 (enters 0 0 x x sound.some refl refl (blank_stores is) (λ u thing. refl)
      (subst (IsStateOf m) opened_is is) (serial-zero ∙ ap (λ (s : ModuleState). record { state = s; done = [] }) opened_is)))
