-- The lockstep run of a plan is a history of its design.
use Rattle.std.proofs.Common.{◌≡◌, ℕ, suc, ◌+◌, List, [], ◌++◌, map, length, Bool, true, false, ◌&&◌, not, ◌<◌, refl, sym, ◌∙◌, ap, arith}
use Rattle.std.proofs.Common.{inl, inr, length-append, append_assoc}
use Rattle.std.proofs.{lemmas.Bool.cases_lt, lemmas.Bool.cond-false, lemmas.List.append-nil, lemmas.List.get_or_past}
use Rattle.timing_bridge.specs.{Side, Plan, ModuleState, no_channel, FitsEngine, nobody, is_over, owner, fits, reply, moved, values}
use Rattle.timing_bridge.specs.{contents_of, requests_of, moves, next_state, opening, moment, state, state_at, history, IsDesign, takes_in}
use Rattle.timing_bridge.specs.{values_in, IsHistory, replies, design, lag_in, lockstep_run, due_accesses, move_in, told_all}
use Rattle.flow_word.specs.declared.access.Side.TheVariants.{Pop, Push}
use Rattle.lockstep_defs.proofs.{Settled.history-zero, Counts.delay_positive, Queue.moved-nil, Queue.nothing_stalls}
use Rattle.lockstep_defs.proofs.Agrees.{all_modules, state_at-suc}
use Rattle.timing_bridge.proofs.Requests.{owned_in, open_in, one_taker}
use Rattle.timing_bridge.proofs.Quiet.{quiet_lives, quiet_idle, quiet_ends, first_fits, next_fits, outside_over}
use Rattle.timing_bridge.proofs.Alike.{alike, can_same, told_same, taken_same, pushes_same}
use Rattle.timing_bridge.proofs.Moved.{nobody_moves, share, share_moves, share_stays, moved_more}
use Rattle.event_timing.specs.Histories as counted

-- ---- the design

some_lag : (p : Plan) → FitsEngine p → (side : Side) (f : ℕ) → 0 < lag_in p side f
some_lag p h Push f = omega arith
some_lag p h Pop f = grind (arith, delay_positive p h f, get_or_past p.design.channels f no_channel)

pub plan_is_design : (p : Plan) → FitsEngine p → IsDesign (design p)
plan_is_design p h =
    record {
      quiet_lives = quiet_lives p;
      quiet_idle = quiet_idle p;
      fits = fits p;
      fits_opening = first_fits p h;
      fits_move = next_fits p h;
      quiet_ends = quiet_ends p h;
      owned = owned_in p h;
      open_sides = open_in p h;
      lag_positive = some_lag p h;
      pops_limited = λ f. refl;
      start_inputs = λ f. refl;
      single = one_taker p h;
      outside = outside_over p;
    }

-- ---- who moves, and to what state

pub moves_same : (p : Plan) → FitsEngine p → (c i : ℕ)
    → counted.can_move (design p) (lockstep_run p) c i ≡ moves p c (state p c).contents (i, state_at p c i)
unfolding counted.can_move moves
moves_same p h c i = ap (λ (z : Bool). not (is_over p.ops (state_at p c i)) && z)
    (can_same p c (requests_of p (i, state_at p c i)) (alike p h c i (state_at p c i)))

next_at : (p : Plan) (c i : ℕ) → state_at p (suc c) i ≡ next_state p c (state p c).contents (i, state_at p c i)
next_at p c i = elim (cases_lt i (length p.design.modules)) [
  | inl l ↦ state_at-suc p c i l
  | inr l ↦
      let now : state_at p c i ≡ nobody = get_or_past (state p c).modules i nobody (omega (arith, all_modules p c)) in
      let next : state_at p (suc c) i ≡ nobody = get_or_past (state p (suc c)).modules i nobody (omega (arith, all_modules p (suc c))) in
      let still : next_state p c (state p c).contents (i, nobody) ≡ nobody =
      cond-false (moves p c (state p c).contents (i, nobody)) _ nobody (nobody_moves p c (state p c).contents i) in
      next ∙ (sym still ∙ ap (λ (s : ModuleState). next_state p c (state p c).contents (i, s)) (sym now))
]

pub replies_same : (p : Plan) → FitsEngine p → (c i : ℕ) → moves p c (state p c).contents (i, state_at p c i) ≡ true
    → told_all (requests_of p (i, state_at p c i)) (replies (design p) (lockstep_run p) c i)
    ≡ map (reply p c (state p c).contents) (requests_of p (i, state_at p c i))
unfolding replies
replies_same p h c i e =
    told_same p c (requests_of p (i, state_at p c i)) (alike p h c i (state_at p c i))
    (nothing_stalls p c (state p c).contents (i, state_at p c i) e)

moves_on : (p : Plan) → FitsEngine p → (c i : ℕ) → counted.can_move (design p) (lockstep_run p) c i ≡ true
    → state_at p (suc c) i ≡ move_in p i (state_at p c i) (replies (design p) (lockstep_run p) c i)
moves_on p h c i m = grind (arith, moves_same p h c i, next_at p c i, replies_same p h c i)

stays : (p : Plan) → FitsEngine p → (c i : ℕ) → counted.can_move (design p) (lockstep_run p) c i ≡ false
    → state_at p (suc c) i ≡ state_at p c i
stays p h c i m = grind (arith, moves_same p h c i, next_at p c i)

-- ---- what is moved

shared : (p : Plan) → FitsEngine p → (c : ℕ) (side : Side) (f i : ℕ) → moves p c (state p c).contents (i, state_at p c i) ≡ true
    → length (share p c (state p c).contents side f (i, state_at p c i))
    ≡ takes_in side f (due_accesses p i (state_at p c i)) (replies (design p) (lockstep_run p) c i)
unfolding replies
shared p h c side f i e =
    ap length (share_moves p c (state p c).contents side f (i, state_at p c i) e)
    ∙ sym (taken_same p c side f (requests_of p (i, state_at p c i)) (alike p h c i (state_at p c i))
    (nothing_stalls p c (state p c).contents (i, state_at p c i) e))

shared_values : (p : Plan) → FitsEngine p → (c f i : ℕ) → moves p c (state p c).contents (i, state_at p c i) ≡ true
    → share p c (state p c).contents Push f (i, state_at p c i)
    ≡ values_in f (due_accesses p i (state_at p c i)) (replies (design p) (lockstep_run p) c i)
unfolding replies
shared_values p h c f i e =
    share_moves p c (state p c).contents Push f (i, state_at p c i) e
    ∙ sym (pushes_same p c f (requests_of p (i, state_at p c i)) (alike p h c i (state_at p c i))
    (nothing_stalls p c (state p c).contents (i, state_at p c i) e))

-- what was moved grows by what the owner moves, and not where it stays
grows_by : (p : Plan) → FitsEngine p → (c : ℕ) (side : Side) (f : ℕ) (vs : List ℕ)
    → share p c (state p c).contents side f
    (owner p (record { side = side; channel = f }), state_at p c (owner p (record { side = side; channel = f }))) ≡ vs
    → moved side f (history p (suc c)) ≡ moved side f (history p c) ++ vs
grows_by p h c side f vs e = moved_more p h c side f ∙ ap (λ (l : List ℕ). moved side f (history p c) ++ l) e

same_moved : (p : Plan) → FitsEngine p → (c : ℕ) (side : Side) (f : ℕ)
    → counted.can_move (design p) (lockstep_run p) c (owner p (record { side = side; channel = f })) ≡ false
    → moved side f (history p (suc c)) ≡ moved side f (history p c)
same_moved p h c side f m =
    let o = owner p (record { side = side; channel = f }) in
    grows_by p h c side f [] (share_stays p c (state p c).contents side f (o, state_at p c o) (sym (moves_same p h c o) ∙ m)) ∙ append-nil _

first_state : (p : Plan) (i : ℕ) → state_at p 0 i ≡ (design p).opening i
unfolding moment opening
first_state p i = refl

pub run_is_history : (p : Plan) → FitsEngine p → IsHistory (design p) (lockstep_run p)
run_is_history p h =
    record {
      state_0 = first_state p;
      taken_0 = λ side f. ap length (ap (moved side f) (history-zero p) ∙ moved-nil side f);
      pushed_0 = λ f. ap (λ (l : List ℕ). values (contents_of (state p 0).contents f) ++ l)
          (ap (moved Push f) (history-zero p) ∙ moved-nil Push f) ∙ append-nil _;
      state_moves = moves_on p h;
      state_stays = stays p h;
      taken_moves = λ c side f m.
          let o = owner p (record { side = side; channel = f }) in
          ap length (moved_more p h c side f)
          ∙ (length-append _ _ ∙ ap (λ (n : ℕ). length (moved side f (history p c)) + n)
          (shared p h c side f o (sym (moves_same p h c o) ∙ m)));
      taken_stays = λ c side f m. ap length (same_moved p h c side f m);
      pushed_moves = λ c f m.
          let o = owner p (record { side = Push; channel = f }) in
          ap (λ (l : List ℕ). values (contents_of (state p 0).contents f) ++ l)
          (grows_by p h c Push f _ (shared_values p h c f o (sym (moves_same p h c o) ∙ m)))
          ∙ sym (append_assoc (values (contents_of (state p 0).contents f)) (moved Push f (history p c))
          (values_in f (due_accesses p o (state_at p c o)) (replies (design p) (lockstep_run p) c o)));
      pushed_stays = λ c f m. ap (λ (l : List ℕ). values (contents_of (state p 0).contents f) ++ l) (same_moved p h c Push f m);
    }
