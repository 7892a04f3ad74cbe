-- After an edit the cycles below the first touched clock stay.
use Rattle.std.proofs.{lemmas.Bool.Decides.nat_tests, lemmas.Bool.both_ways}
use Rattle.std.proofs.Common.{◌≡◌, ℕ, zero, suc, ◌-◌, ◌<◌, ◌≤◌, Bool, true, false, not, ◌&&◌, ◌||◌, List, [], ◌∷◌, map, sym, refl, ap, ap₂}
use Rattle.std.proofs.Common.{◌∙◌, arith}
use mathlib.Core.Path.{fun_ext}
use Rattle.event_timing.specs.{values_there, core_accesses, has_query, Design, IsDesign, Access, steps, done, own, AreOwnMarks, IsTimed}
use Rattle.event_timing.specs.{IsAgreed, edited, IsUntouched, kept, kept_cycle, after_edit, Trace, IsHistory, replies, reply_to, can_move}
use Rattle.event_timing.specs.{is_possible, can_all, Side, Core.Core}
use Rattle.flow_word.specs.declared.access.Side.TheVariants.{Pop, Push}
use Rattle.event_timing.proofs.{Steps.done_less, Fronts.IsDone, Assigning.can_emitted, Assigning.plain_possible}

-- two runs that stand alike before clock c
pub record Alike {S : Type 0} (h g : Trace S) (c : ℕ) : Type 0 where
  pub state : (e : ℕ) → e ≤ c → (m : ℕ) → g.state e m ≡ h.state e m
  pub taken : (e : ℕ) → e ≤ c → (side : Side) (ch : ℕ) → g.taken e side ch ≡ h.taken e side ch
  pub pushed : (e : ℕ) → e ≤ c → (ch : ℕ) → g.pushed e ch ≡ h.pushed e ch

possible_alike : {S : Type 0} → (d : Design S) (h g : Trace S) → IsDesign d → (fifo depth t c : ℕ) → ((ch : ℕ) → d.lag Push ch ≡ 1)
    → IsUntouched d h fifo depth t → c < t → Alike h g c → (side : Side) (ch : ℕ)
    → is_possible (edited d fifo depth) g c side ch ≡ is_possible d h c side ch
possible_alike {S} d h g i fifo depth t c one u l a Pop ch =
    rw (a.taken c (omega arith) Pop ch, a.taken (suc c - d.lag Pop ch) (omega (arith, i.lag_positive Pop ch)) Push ch) refl
possible_alike {S} d h g i fifo depth t c one u l a Push ch =
    let taken = λ (side : Side). a.taken c (omega arith) side ch in
    grind (arith, nat_tests, one ch, taken Push, taken Pop, u.old_room c l, u.new_room c l)

can_alike : {S : Type 0} → (d e : Design S) (h g : Trace S) (c : ℕ)
    → ((side : Side) (ch : ℕ) → is_possible e g c side ch ≡ is_possible d h c side ch)
    → (xs : List Access) → can_all e g c xs ≡ can_all d h c xs
can_alike {S} d e h g c f [] = refl
can_alike {S} d e h g c f (a ∷ xs) = ap₂ (λ (x y : Bool). (not a.blocks || x) && y) (f a.side a.channel) (can_alike d e h g c f xs)

reply_alike : {S : Type 0} → (d e : Design S) (h g : Trace S) (c : ℕ)
    → ((side : Side) (ch : ℕ) → is_possible e g c side ch ≡ is_possible d h c side ch)
    → Alike h g c → (xs : List Access) → map (reply_to e g c) xs ≡ map (reply_to d h c) xs
reply_alike {S} d e h g c f a [] = refl
reply_alike {S} d e h g c f a (x ∷ xs) =
    rw (f x.side x.channel, a.pushed c (omega arith) x.channel, a.taken c (omega arith) Pop x.channel, reply_alike d e h g c f a xs) refl

up_to : (c : ℕ) (P : ℕ → Type 0) → ((e : ℕ) → e ≤ c → P e) → P (suc c) → (e : ℕ) → e ≤ suc c → P e
up_to c P f g e l = grind (arith, f, g)

-- what `kept` counts
pub kept_le : (cycle : ℕ → ℕ) (t n : ℕ) → kept cycle t n ≤ n
unfolding kept
kept_le cycle t zero = omega arith
kept_le cycle t (suc n) = grind (arith, kept_le cycle t n)

pub kept_below : (cycle : ℕ → ℕ) (t n : ℕ) → ((j k : ℕ) → j < k → k < n → cycle j < cycle k) → (k : ℕ) → k < kept cycle t n → cycle k < t
unfolding kept
kept_below cycle t zero f k l = absurd (omega arith)
kept_below cycle t (suc n) f k l = grind (arith, f k n, kept_below cycle t n (λ j k p q. f j k p (omega arith)) k)

pub kept_same : (cycle : ℕ → ℕ) (t n k : ℕ) → k < kept cycle t n → kept_cycle cycle t n k ≡ cycle k
kept_same cycle t n k l = grind (arith, nat_tests)

pub cycles_rise : {S : Type 0} → (d : Design S) (h : Trace S) (limit : ℕ) (x : Core S) → IsTimed d h limit x → (m j k : ℕ) → j < k
    → k < x.timed m → x.cycle m j < x.cycle m k
cycles_rise {S} d h limit x u m j k l q =
    done_less d h m (x.cycle m j) (x.cycle m k) (omega (arith, u.done_then m j (omega arith), u.done_then m k q))

pub edit_marks : {S : Type 0} → (d : Design S) (x : Core S) (fifo depth t : ℕ) → AreOwnMarks d x
    → AreOwnMarks (edited d fifo depth) (after_edit d x t)
unfolding own
edit_marks {S} d x fifo depth t b = grind arith

-- an edited design keeps the rules of a design
pub edit_design : {S : Type 0} → (d : Design S) (fifo depth : ℕ) → IsDesign d → IsDesign (edited d fifo depth)
edit_design {S} d fifo depth i = grind arith

-- the steps with a cycle are done by the history, so the core is timed as far as they go
pub time_from : {S : Type 0} → (d : Design S) (h : Trace S) → IsDesign d → IsHistory d h → (limit : ℕ) (z : Core S) → AreOwnMarks d z
    → IsDone d h z → ((m k : ℕ) → k < z.timed m → z.answered m k ≡ true) → ((m k : ℕ) → k < z.timed m → values_there d z m k ≡ true)
    → ((m k : ℕ) → k < z.timed m → z.cycle m k < limit) → ((m k : ℕ) → k < z.timed m → z.verified m k ≡ true)
    → ((m k : ℕ) → k < z.emitted m → z.verified m k ≡ true → z.answered m k ≡ true)
    → ((m k : ℕ) → z.timed m ≤ k → k < z.emitted m → z.verified m k ≡ true → has_query (core_accesses d z m k) ≡ false)
    → IsTimed d h limit z
time_from {S} d h i y limit z b w answered there below verified both plain =
    record {
      within = w.within;
      steps_then = w.steps_then;
      done_then = w.done_then;
      reply_then = w.reply_then;
      answered_then = answered;
      there_then = there;
      below = below;
      first_flags = λ m l q c s k.
          let p = plain m (z.timed m) (omega arith) l q in
          let a = can_emitted d h i y z b w m c (z.timed m) l (omega arith) s k in
          plain_possible d h c (core_accesses d z m (z.timed m)) (z.flags m (z.timed m)) p a (b.fit m (z.timed m) l);
      first_sure = λ m l q p. absurd (both_ways _ (plain m (z.timed m) (omega arith) l q) p);
      first_happens = λ m l q p. absurd (both_ways _ (plain m (z.timed m) (omega arith) l q) p);
      verified_then = verified;
      verified_answered = both;
      later_plain = λ m k l q p. plain m k (omega arith) q p;
    }

-- after the steps that stay, what counts as verified has no query
pub edit_plain : {S : Type 0} → (d : Design S) (x : Core S) (t m k : ℕ) → kept (x.cycle m) t (x.timed m) ≤ k
    → (after_edit d x t).verified m k ≡ true → has_query (core_accesses d x m k) ≡ false
edit_plain {S} d x t m k l v = grind (arith, nat_tests)

module _ {S : Type 0} (d : Design S) (h g : Trace S) (i : IsDesign d) (y : IsHistory d h) (fifo depth t : ℕ)
    (z : IsHistory (edited d fifo depth) g) (one : (ch : ℕ) → d.lag Push ch ≡ 1) (u : IsUntouched d h fifo depth t) where
  -- in a clock before t, up to which both stand alike
  module _ (c : ℕ) (l : c < t) (a : Alike h g c) where
    moves_alike : (m : ℕ) → can_move (edited d fifo depth) g c m ≡ can_move d h c m
    unfolding can_move
    moves_alike m =
        let f = possible_alike d h g i fifo depth t c one u l a in
        rw (a.state c (omega arith) m, can_alike d (edited d fifo depth) h g c f (d.accesses m (h.state c m))) refl

    replies_alike : (m : ℕ) → replies (edited d fifo depth) g c m ≡ replies d h c m
    unfolding replies
    replies_alike m =
        let f = possible_alike d h g i fifo depth t c one u l a in
        rw (a.state c (omega arith) m, reply_alike d (edited d fifo depth) h g c f a (d.accesses m (h.state c m))) refl

    alike_more : Alike h g (suc c)
    alike_more =
        let st = a.state c (omega arith) in
        record {
          state = λ e q m. up_to c (λ e. g.state e m ≡ h.state e m) (λ e q. a.state e q m)
              (grind (
                arith,
                moves_alike m,
                replies_alike m,
                st m,
                z.state_moves c m,
                z.state_stays c m,
                y.state_moves c m,
                y.state_stays c m,
              )) e q;
          taken = λ e q side ch. let w : ℕ = d.owner side ch in
              up_to c (λ e. g.taken e side ch ≡ h.taken e side ch) (λ e q. a.taken e q side ch)
              (grind (
                arith,
                moves_alike w,
                replies_alike w,
                st w,
                a.taken c (omega arith) side ch,
                z.taken_moves c side ch,
                z.taken_stays c side ch,
                y.taken_moves c side ch,
                y.taken_stays c side ch,
              )) e q;
          pushed = λ e q ch. let w : ℕ = d.owner Push ch in
              up_to c (λ e. g.pushed e ch ≡ h.pushed e ch) (λ e q. a.pushed e q ch)
              (grind (
                arith,
                moves_alike w,
                replies_alike w,
                st w,
                a.pushed c (omega arith) ch,
                z.pushed_moves c ch,
                z.pushed_stays c ch,
                y.pushed_moves c ch,
                y.pushed_stays c ch,
              )) e q;
        }

  alike_0 : Alike h g 0
  alike_0 =
      record {
        state = λ e l m. let k : e ≡ 0 = omega arith in rw (k, z.state_0 m, y.state_0 m) refl;
        taken = λ e l side ch. let k : e ≡ 0 = omega arith in rw (k, z.taken_0 side ch, y.taken_0 side ch) refl;
        pushed = λ e l ch. let k : e ≡ 0 = omega arith in rw (k, z.pushed_0 ch, y.pushed_0 ch) refl;
      }

  -- up to the first touched clock both runs are one
  alike : (c : ℕ) → c ≤ t → Alike h g c
  alike zero l = alike_0
  alike (suc c) l = alike_more c l (alike c (omega arith))

  steps_alike : (c : ℕ) → c < t → (m : ℕ) → steps (edited d fifo depth) g c m ≡ steps d h c m
  unfolding steps
  steps_alike c l m =
      let a = alike c (omega arith) in
      rw (moves_alike c l a m, a.state c (omega arith) m) refl

  pub done_alike : (m c : ℕ) → c ≤ t → done (edited d fifo depth) g m c ≡ done d h m c
  unfolding done
  done_alike m zero l = refl
  done_alike m (suc c) l = rw (steps_alike c l m, done_alike m c (omega arith)) refl

  module _ (limit : ℕ) (x : Core S) (b : AreOwnMarks d x) (v : IsTimed d h limit x) where
    -- how many steps of the module keep their cycles, which are no more than those that have one
    abbrev stays : ℕ → ℕ
    stays m = kept (x.cycle m) t (x.timed m)

    fewer : (m : ℕ) → stays m ≤ x.timed m
    fewer m = kept_le (x.cycle m) t (x.timed m)

    before : (m k : ℕ) → k < stays m → x.cycle m k < t
    before m k l = kept_below (x.cycle m) t (x.timed m) (cycles_rise d h limit x v m) k l

    same : (m k : ℕ) → k < stays m → kept_cycle (x.cycle m) t (x.timed m) k ≡ x.cycle m k
    same m k l = kept_same (x.cycle m) t (x.timed m) k l

    edit_done : IsDone (edited d fifo depth) g (after_edit d x t)
    edit_done =
        record {
          within = λ m. omega (arith, fewer m, v.within m);
          steps_then = λ m k l. rw (same m k l)
              (steps_alike (x.cycle m k) (before m k l) m ∙ v.steps_then m k (omega (arith, fewer m)));
          done_then = λ m k l. rw (same m k l)
              (done_alike m (x.cycle m k) (omega (arith, before m k l)) ∙ v.done_then m k (omega (arith, fewer m)));
          reply_then = λ m k l.
              let q = before m k l in
              rw (same m k l) (v.reply_then m k (omega (arith, fewer m))
              ∙ sym (replies_alike (x.cycle m k) q (alike (x.cycle m k) (omega arith)) m));
        }

    edit_time : IsTimed (edited d fifo depth) g limit (after_edit d x t)
    edit_time =
        time_from (edited d fifo depth) g (edit_design d fifo depth i) z limit (after_edit d x t) (edit_marks d x fifo depth t b) edit_done
        (λ m k l. v.answered_then m k (omega (arith, fewer m)))
        (λ m k l. v.there_then m k (omega (arith, fewer m)))
        (λ m k l. rw (same m k l) (v.below m k (omega (arith, fewer m))))
        (λ m k l. grind (arith, nat_tests, fewer m, v.verified_then m k))
        (λ m k l q. grind (arith, nat_tests, v.verified_answered m k l))
        (λ m k l q. edit_plain d x t m k l)

  -- the core from which a retiming begins agrees with the edited design
  pub edit_agrees : (limit : ℕ) (x : Core S) → IsAgreed d h limit x → IsAgreed (edited d fifo depth) g limit (after_edit d x t)
  edit_agrees limit x a = record { marks = edit_marks d x fifo depth t a.marks; time = edit_time limit x a.marks a.time }

-- ---- the depth that stands

same_start : {S : Type 0} → (d : Design S) (fifo : ℕ) (side : Side) (ch : ℕ)
    → (edited d fifo (d.start Push fifo)).start side ch ≡ d.start side ch
same_start {S} d fifo Pop ch = refl
same_start {S} d fifo Push ch = grind (arith, nat_tests)

-- an edit to it is no edit
pub same_depth : {S : Type 0} → (d : Design S) (fifo : ℕ) → edited d fifo (d.start Push fifo) ≡ d
same_depth {S} d fifo = ap (λ (f : Side → ℕ → ℕ). record d { start = f }) (fun_ext (λ side. fun_ext (λ ch. same_start d fifo side ch)))
