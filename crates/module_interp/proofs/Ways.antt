-- Each way that the program's run takes leads to the same rest.
use Rattle.std.proofs.Common.{◌≡◌, ℕ, suc, ◌+◌, ◌-◌, ◌^◌, ◌<◌, ◌≤◌, Bool, true, false, ◌&&◌, ◌||◌, not, nat_lt, List, [], ◌∷◌, length}
use Rattle.std.proofs.Common.{get_or, refl, sym, ap, subst, arith, ◌∙◌}
use Rattle.std.proofs.lemmas.Bool.{ltb-true, and_parts}
use Rattle.module_interp.specs.{Access, Channel, Plan, ModuleState, block_of, interval, move, requests, is_over, module_at, requests_of}
use Rattle.module_interp.specs.{skip, rests, IsStateOf, ticked_to, gone_on, IsStateSound, BlockCode, IsBlockCodeOf, AreCodesOf, IsNextDue}
use Rattle.module_interp.specs.{StandsIn, Stage, Path, clock_bound, IsInTime, after_move, RequestsNothing, IsStageSoundBy, IsPathOf}
use Rattle.module_interp.specs.{AreNotesOf, CanAnswer, CanCommit, KeepsRest, IsPath, clocks_to_end}
use Rattle.module_interp.specs.declared.path.Stage.TheVariants.{Begun, Ticked}
use Rattle.flow_design.specs.declared.design.Module.{Module}
use Rattle.module_code.specs.declared.noted.Notes.{Notes}
use Rattle.module_interp.proofs.Idle.{IsIdle, skip_ticks, skip_on, never_rests}
use Rattle.module_interp.proofs.Timing.{GoesOn, skip_goes_on, lives, module_sound}
use Rattle.module_interp.proofs.Keeping.{IsFixed, leads_on, leads_still, at_stage, end_nearer, asks_nothing, begun_alive}

-- ---- a local clock that has begun

pub record HasBegun (x : Path) : Type 0 where
  pub sound : IsStateSound x.of x.state
  pub clock : x.state.control.clock ≤ clock_bound
  pub count : x.state.count < 2 ^ 32

pub has_begun : (x : Path) → IsPath x → x.stage ≡ Begun → is_over x.limit x.state ≡ false → HasBegun x
has_begun x h begun alive =
    let b = h.is in
    let here : after_move x ≡ x.state = at_stage x Begun begun in
    let life = begun_alive x.limit x.state alive in
    let state : IsStateOf (module_at h.plan h.number) x.state = subst (IsStateOf (module_at h.plan h.number)) here b.state in
    let time : IsInTime h.plan (module_at h.plan h.number) x.state x.since =
    subst (λ (s : ModuleState). IsInTime h.plan (module_at h.plan h.number) s x.since) here b.time in
    let clock = time.clock life.0 in
    record {
      sound = record { state = subst (λ (m : Module). IsStateOf m x.state) (sym b.of) state; running = life.0 };
      clock = omega arith;
      count = subst (λ (s : ModuleState). s.count < 2 ^ 32) here b.operations;
    }

-- ---- looking up

pub begun_same : (x y : Path) → IsFixed x y → x.stage ≡ Begun → y.stage ≡ Begun → y.state ≡ x.state → y.since ≡ x.since → KeepsRest x y
begun_same x y f begun still state since p i o l =
    leads_still p i o x y l f (at_stage y Begun still ∙ (state ∙ sym (at_stage x Begun begun))) since
    (subst (λ (s : Stage). IsStageSoundBy s y) (sym still) tt)

pub looked_up : (x y : Path) (ns : Notes) (rs : List Access) (ws : List ℕ) → x.stage ≡ Begun
    → y ≡ record x { notes = ns; asked = rs; scratch = ws } → KeepsRest x y
looked_up x y ns rs ws begun frame =
    begun_same x y
    (record {
      of = ap (λ (z : Path). z.of) frame;
      limit = ap (λ (z : Path). z.limit) frame;
      codes = ap (λ (z : Path). z.codes) frame;
    })
    begun (ap (λ (z : Path). z.stage) frame ∙ begun) (ap (λ (z : Path). z.state) frame) (ap (λ (z : Path). z.since) frame)

pub then : (x y z : Path) → KeepsRest x y → KeepsRest y z → KeepsRest x z
then x y z first second p i o l = second p i o (first p i o l)

-- ---- local clocks that pass

pub record Passes (x y : Path) (n : ℕ) : Type 0 where
  pub fixed_parts : IsFixed x y
  pub begun : x.stage ≡ Begun
  pub ticked : y.stage ≡ Ticked
  pub later : y.since ≡ x.since + suc n
  pub block : y.state.control.block ≡ x.state.control.block
  pub has_started : y.state.control.newest ≤ y.state.control.clock
  pub never_rests : (p : Plan) (i : ℕ) → IsPathOf p i x → (j : ℕ) → j < suc n → rests p i (skip p i j x.state) ≡ false
  pub moved : (p : Plan) (i : ℕ) → IsPathOf p i x → gone_on y.of y.state ≡ skip p i (suc n) x.state

pub passes_keep : (x y : Path) (n : ℕ) → Passes x y n → KeepsRest x y
passes_keep x y n h p i o l =
    let b = l.path in
    let here : after_move x ≡ x.state = at_stage x Begun h.begun in
    let state : IsStateOf (module_at p i) x.state = subst (IsStateOf (module_at p i)) here b.state in
    let inside : y.state.control.block < length y.of.blocks = rw (h.block, h.fixed_parts.of, b.of) state.block in
    leads_on p i o x y (suc n) l h.fixed_parts
    (λ j less. subst (λ (s : ModuleState). rests p i (skip p i j s) ≡ false) (sym here) (h.never_rests p i b j less))
    (at_stage y Ticked h.ticked ∙ (h.moved p i b ∙ ap (skip p i (suc n)) (sym here))) h.later
    (subst (λ (s : Stage). IsStageSoundBy s y) (sym h.ticked) (record { block = inside; has_started = h.has_started }))

pub passes_nearer : (x y : Path) (n : ℕ) → IsPath x → Passes x y n → clocks_to_end y < clocks_to_end x
passes_nearer x y n path h =
    let p = path.plan in
    let i = path.number in
    let b = path.is in
    let here : after_move x ≡ x.state = at_stage x Begun h.begun in
    end_nearer p i x y n b h.fixed_parts
    (λ j less. subst (λ (s : ModuleState). rests p i (skip p i j s) ≡ false) (sym here) (h.never_rests p i b j less))
    (at_stage y Ticked h.ticked ∙ (h.moved p i b ∙ ap (skip p i (suc n)) (sym here)))

-- a clock in which no FIFO operation is due
pub one_passes : (x y : Path) → IsFixed x y → x.stage ≡ Begun → y.stage ≡ Ticked → y.since ≡ x.since + 1 → is_over x.limit x.state ≡ false
    → RequestsNothing x → gone_on y.of y.state ≡ move x.of x.state []
    → y.state.control.block ≡ x.state.control.block → y.state.control.newest ≤ y.state.control.clock → Passes x y 0
one_passes x y f begun ticked later alive none moved block started = record {
  fixed_parts = f;
  begun = begun;
  ticked = ticked;
  later = later;
  block = block;
  has_started = started;
  never_rests = λ p i b j less.
      let zero_ : 0 ≡ j = omega arith in
      let asks : requests_of p (i, x.state) ≡ [] =
      sym (ap (λ (m : Module). requests p.design.channels m x.state) b.of) ∙ none p.design.channels b.codes in
      subst (λ (k : ℕ). rests p i (skip p i k x.state) ≡ false) zero_ (asks_nothing p i x.state (rw (← b.limit) alive) asks);
  moved = λ p i b. moved ∙ ap (λ (m : Module). move m x.state []) b.of;
}

-- the code of the block in which the path stands
some_code : (xs : List BlockCode) (n : ℕ) → n < length xs → BlockCode
some_code [] n l = absurd (omega arith)
some_code (x ∷ xs) n l = x

pub idle : (x : Path) (clock n : ℕ) → IsPath x → x.stage ≡ Begun → is_over x.limit x.state ≡ false
    → IsNextDue (block_of x.of x.state) x.state.control clock → clock ≡ x.state.control.clock + suc n
    → (p : Plan) (i : ℕ) → IsPathOf p i x → IsIdle (module_at p i) x.state (suc n)
idle x clock n path begun alive next far p i b =
    let sound = (has_begun x path begun alive).sound in
    subst (λ (m : Module). IsIdle m x.state (suc n)) b.of (record {
      some = (b.codes.each x.state.control.block
          (some_code x.codes x.state.control.block (omega (arith, sound.state.block, b.codes.count)))
          sound.state.block).schedule.limits.some;
      begun = sound.state.control.has_started;
      temps = sound.state.places.temps;
      none = λ c from below. next.idle_before c from (omega arith);
    })

-- a jump to the next clock with work
pub jumps : (x : Path) (clock n : ℕ) → IsPath x → x.stage ≡ Begun → is_over x.limit x.state ≡ false
    → IsNextDue (block_of x.of x.state) x.state.control clock → clock ≡ x.state.control.clock + suc n
    → Passes x (record x {
      since = x.since + (clock - x.state.control.clock);
      state = ticked_to x.of clock x.state;
      stage = Ticked;
    }) n
jumps x clock n path begun alive next far =
    let sound = (has_begun x path begun alive).sound in
    let started = sound.state.control.has_started in
    record {
      fixed_parts = record { of = refl; limit = refl; codes = refl };
      begun = begun;
      ticked = refl;
      later = omega arith;
      block = refl;
      has_started = omega arith;
      never_rests = λ p i b. never_rests p i x.state n (idle x clock n path begun alive next far p i b) (rw (← b.limit) alive);
      moved = λ p i b.
          let on = skip_on p i x.state n (idle x clock n path begun alive next far p i b) in
          ap (λ (m : Module). gone_on m (ticked_to m clock x.state)) b.of
          ∙ (ap (λ (c : ℕ). gone_on (module_at p i) (ticked_to (module_at p i) c x.state)) far ∙ sym on);
    }

pub record AreSmall (x : Path) (clock n : ℕ) : Type 0 where
  pub since : x.since + suc n ≤ clock_bound
  pub reached : clock ≤ clock_bound + 1

-- the numbers of a jump
pub jump_small : (x : Path) (clock n : ℕ) → IsPath x → x.stage ≡ Begun → is_over x.limit x.state ≡ false
    → IsNextDue (block_of x.of x.state) x.state.control clock → clock ≡ x.state.control.clock + suc n → AreSmall x clock n
jump_small x clock n path begun alive next far =
    let p = path.plan in
    let i = path.number in
    let b = path.is in
    let here : after_move x ≡ x.state = at_stage x Begun begun in
    let g : GoesOn p i x.state x.since = record {
      state = subst (IsStateOf (module_at p i)) here b.state;
      time = subst (λ (s : ModuleState). IsInTime p (module_at p i) s x.since) here b.time;
    } in
    let quiet = idle x clock n path begun alive next far p i b in
    let goes = never_rests p i x.state n quiet (rw (← b.limit) alive) in
    let all = skip_goes_on p b.fits i b.owner x.state x.since g (suc n) goes in
    let last = skip_goes_on p b.fits i b.owner x.state x.since g n (λ j l. goes j (omega arith)) in
    let life = lives p i (skip p i n x.state) (goes n (omega arith)) in
    let bound = last.time.clock life.0 in
    let clock_is : (skip p i n x.state).control.clock ≡ x.state.control.clock + n =
    ap (λ (s : ModuleState). s.control.clock) (skip_ticks p i x.state n quiet) in
    record { since = all.time.since; reached = omega arith }

-- where the path stands in its block
pub stands : (x : Path) → IsPath x → x.stage ≡ Begun → is_over x.limit x.state ≡ false → StandsIn (block_of x.of x.state) x.state.control
stands x path begun alive =
    let h = has_begun x path begun alive in
    record {
      small = let c = h.clock in omega arith;
      has_started = h.sound.state.control.has_started;
      is_young = λ e. h.sound.state.young h.sound.running;
      is_loop = h.sound.state.control.is_loop_going;
      undecided = λ e. near x.state.control.looping (interval (block_of x.of x.state)) x.state.control.clock x.state.control.newest e
          h.sound.state.control.goes;
    }
  where
    near : (l : Bool) (ii clock newest : ℕ) → l ≡ true → (not l || (nat_lt 0 ii && nat_lt clock (newest + ii))) ≡ true → clock ≤ newest + ii
    near true ii clock newest e g =
        let less = ltb-true clock (newest + ii) (and_parts (nat_lt 0 ii) (nat_lt clock (newest + ii)) g).1 in omega arith
    near false ii clock newest e g = cc

-- the code that was read
pub code_read : (x : Path) {channels : List Channel} → AreCodesOf channels x.of x.codes → (xs : List BlockCode) (d : BlockCode)
    → xs ≡ x.codes → d ≡ get_or xs x.state.control.block d → x.state.control.block < length x.of.blocks
    → IsBlockCodeOf channels x.of (block_of x.of x.state) d
code_read x {channels} codes xs d same read inside =
    subst (IsBlockCodeOf channels x.of (block_of x.of x.state))
    (sym (read ∙ ap (λ (ys : List BlockCode). get_or ys x.state.control.block d) same)) (codes.each x.state.control.block d inside)

-- so what is due can commit
pub can_commit : (x : Path) (path : IsPath x) → CanAnswer x → (xs : List BlockCode) (d : BlockCode) → xs ≡ x.codes
    → d ≡ get_or xs x.state.control.block d → CanCommit path.plan.design.channels x.of x.state d x.notes
can_commit x path can xs d same read =
    let here : d ≡ get_or x.codes x.state.control.block d = read ∙ ap (λ (ys : List BlockCode). get_or ys x.state.control.block d) same in
    record {
      of = rw path.is.of (module_sound path.plan path.is.fits path.number path.is.owner);
      state = can.state;
      code_is = code_read x path.is.codes xs d same read can.state.state.block;
      noted = subst (λ (code : BlockCode). AreNotesOf x.of x.state code x.notes) (sym here) (can.noted d);
      few = omega (arith, can.count);
    }
