-- From the opening core no list of permitted actions is long.
use Rattle.std.proofs.{lemmas.Bool.Decides.nat_tests, lemmas.Bool.both_ways}
use Rattle.std.proofs.Common.{◌≡◌, ℕ, zero, suc, ◌+◌, ◌*◌, ◌<◌, ◌≤◌, true, false, cond, ◌⊎◌, List, [], ◌∷◌, length, sym, ap, ◌∙◌, arith}
use Rattle.std.proofs.Common.{ltb, Some}
use Rattle.event_timing.specs.{Design, IsDesign, Trace, IsHistory, candidate, opening_core, core_reply, view, Action, MayRun, MayAssign}
use Rattle.event_timing.specs.{Acts, ActsAll, after_run, after_assign, after_answer, emit_over, IsSame, AreOwnMarks, IsAgreed, IsBounded}
use Rattle.event_timing.specs.{AllVerified, first_one, over_one, work_of, sum_to, work, Core.Core}
use Rattle.event_timing.proofs.{Running.emit, Running.run_cases, Answering.first_emitted, Agreement.acts_agree, Agreement.opening_agrees}

sum_less : (f g : ℕ → ℕ) (n m : ℕ) → ((k : ℕ) → f k ≤ g k) → sum_to f n ≤ sum_to g n
unfolding sum_to
sum_less f g zero m l = omega arith
sum_less f g (suc n) m l = omega (arith, sum_less f g n m l, l n)

pub sum_grows : (f g : ℕ → ℕ) (n m : ℕ) → m < n → ((k : ℕ) → f k ≤ g k) → f m < g m → sum_to f n < sum_to g n
unfolding sum_to
sum_grows f g zero m l u v = absurd (omega arith)
sum_grows f g (suc n) m l u v = grind (arith, sum_less f g n m u, u n, λ (q : m < n). sum_grows f g n m q u v)

sum_most : (f : ℕ → ℕ) (n b : ℕ) → ((k : ℕ) → f k ≤ b) → sum_to f n ≤ n * b
unfolding sum_to
sum_most f zero b l = omega arith
sum_most f (suc n) b l = omega (arith, sum_most f n b l, l n)

first_le : {S : Type 0} → (x : Core S) (m : ℕ) → first_one x m ≤ 1
unfolding first_one
first_le {S} x m = grind arith

first_none : {S : Type 0} → (x : Core S) (m : ℕ) → x.emitted m ≤ x.timed m → first_one x m ≡ 0
unfolding first_one
first_none {S} x m l = grind arith

work_bound : {S : Type 0} → (d : Design S) (x : Core S) → AreOwnMarks d x → (most : ℕ) → IsBounded d most
    → ((m : ℕ) → x.timed m ≤ x.emitted m) → (m : ℕ) → work_of x m ≤ 3 * most + 1
unfolding work_of over_one
work_bound {S} d x b most u w m =
    let run = λ (j : ℕ) (q : j < x.emitted m). sym (ap (d.is_over m) (b.own_step m j q)) ∙ b.lives m j q in
    grind (arith, first_le x m, first_none x m, w m, u m (core_reply d x m) most, run)

-- some module's work rises, and no module's falls
record Rises {S : Type 0} (d : Design S) (x z : Core S) : Type 0 where
  who : ℕ
  inside : who < d.modules
  up : (n : ℕ) → work_of x n ≤ work_of z n
  more : work_of x who < work_of z who

over_rises : {S : Type 0} → (d : Design S) (x : Core S) (m : ℕ) → MayRun d x m → Rises d x (emit_over x m)
unfolding work_of over_one first_one
over_rises {S} d x m r =
    record {
      who = m;
      inside = r.inside;
      up = λ n. grind (arith, nat_tests, r.lives);
      more = grind (arith, nat_tests, r.lives);
    }

emit_rises : {S : Type 0} → (d : Design S) (x : Core S) (m : ℕ) → MayRun d x m → ((n : ℕ) → x.timed n ≤ x.emitted n)
    → Rises d x (emit d x m)
unfolding work_of over_one first_one
emit_rises {S} d x m r w =
    record { who = m; inside = r.inside; up = λ n. grind (arith, nat_tests, w n); more = grind (arith, nat_tests, w m) }

first_at : {S : Type 0} → Core S → ℕ → ℕ → ℕ
first_at {S} x n t = cond (ltb t (x.emitted n)) (cond (x.verified n t) 1 0) 0

assign_rises : {S : Type 0} → (d : Design S) (x : Core S) (m c : ℕ) → m < d.modules → x.timed m < x.emitted m
    → x.verified m (x.timed m) ≡ true → Rises d x (after_assign x m c)
unfolding work_of over_one first_one first_at
assign_rises {S} d x m c i l v =
    record {
      who = m;
      inside = i;
      up = λ n. grind (arith, nat_tests);
      more = grind (arith, nat_tests);
    }

answer_rises : {S : Type 0} → (d : Design S) (x : Core S) (m c : ℕ) → m < d.modules → x.timed m < x.emitted m
    → x.verified m (x.timed m) ≡ false → Rises d x (after_answer d x m c)
unfolding work_of over_one first_one
answer_rises {S} d x m c i l v = record { who = m; inside = i; up = λ n. grind (arith, nat_tests); more = grind (arith, nat_tests) }

run_none : {S : Type 0} → (d : Design S) (x : Core S) → AllVerified x → (m : ℕ) → AllVerified (after_run d x m)
run_none {S} d x g m n k l a = grind (arith, nat_tests, g n k)

answer_none : {S : Type 0} → (d : Design S) (x : Core S) → AllVerified x → (m c : ℕ) → AllVerified (after_answer d x m c)
answer_none {S} d x g m c n k = grind (arith, nat_tests, g n k)

assign_none : {S : Type 0} → (x : Core S) (m c : ℕ) → AllVerified x → AllVerified (after_assign x m c)
assign_none {S} x m c f = f

inside_of : {S : Type 0} → (d : Design S) (x : Core S) → AreOwnMarks d x → (m : ℕ) → x.timed m < x.emitted m → m < d.modules
inside_of {S} d x b m l = grind (arith, b.inside m)

run_rises : {S : Type 0} → (d : Design S) (h : Trace S) (limit : ℕ) (x : Core S) → IsAgreed d h limit x → (m : ℕ) → MayRun d x m
    → Rises d x (after_run d x m)
run_rises {S} d h limit x g m r = run_cases d x m (Rises d x) (λ o. over_rises d x m r) (λ o. emit_rises d x m r g.time.within)

given_rises : {S : Type 0} → (d : Design S) (h : Trace S) (limit : ℕ) (x : Core S) → IsAgreed d h limit x → (m c : ℕ)
    → MayAssign d limit x m c → Rises d x (after_assign x m c)
given_rises {S} d h limit x g m c r =
    let l = first_emitted d x m c r.determined.at in
    assign_rises d x m c (inside_of d x g.marks m l) l r.verified

found_rises : {S : Type 0} → (d : Design S) (h : Trace S) (limit : ℕ) (x : Core S) → IsAgreed d h limit x → (m c : ℕ)
    → candidate d (view d x) m ≡ Some c → x.verified m (x.timed m) ≡ false → Rises d x (after_answer d x m c)
found_rises {S} d h limit x g m c at v =
    let l = first_emitted d x m c at in
    answer_rises d x m c (inside_of d x g.marks m l) l v

-- a permitted action that changes the core raises some module's work
acts_rise : {S : Type 0} → (d : Design S) (h : Trace S) (limit : ℕ) (x : Core S) → IsAgreed d h limit x → (a : Action) (z : Core S)
    → Acts d limit x a z → (z ≡ x) ⊎ Rises d x z
acts_rise {S} d h limit x g (Action.Run m) z (r, e) = grind (arith, run_rises d h limit x g m r)
acts_rise {S} d h limit x g (Action.Assign m) z (c, r, e) = grind (arith, given_rises d h limit x g m c r)
acts_rise {S} d h limit x g (Action.Answer m) z (c, r, e) = grind (arith, found_rises d h limit x g m c r.determined.at r.open_query)
acts_rise {S} d h limit x g (Action.Earliest m) z (c, r, e) =
    grind (arith, found_rises d h limit x g m c r.open_step.determined.at r.open_step.open_query)

all_more : {S : Type 0} → (d : Design S) (x z : Core S) → Rises d x z → work d x < work d z
all_more {S} d x z p = sum_grows (work_of x) (work_of z) d.modules p.who p.inside p.up p.more

pub more_work : {S : Type 0} → (d : Design S) (h : Trace S) (limit : ℕ) (x : Core S) → IsAgreed d h limit x → (a : Action) (z : Core S)
    → Acts d limit x a z → (z ≡ x) ⊎ (work d x < work d z)
more_work {S} d h limit x g a z s = grind (arith, acts_rise d h limit x g a z s, all_more d x z)

pub most_work : {S : Type 0} → (d : Design S) (h : Trace S) (limit : ℕ) (x : Core S) → IsAgreed d h limit x → (most : ℕ)
    → IsBounded d most → work d x ≤ d.modules * (3 * most + 1)
most_work {S} d h limit x g most u = sum_most (work_of x) d.modules (3 * most + 1) (work_bound d x g.marks most u g.time.within)

-- ---- where no outcome is assumed

pub never_found : {S : Type 0} → (d : Design S) (x : Core S) → AllVerified x → (m c : ℕ) → candidate d (view d x) m ≡ Some c
    → x.verified m (x.timed m) ≡ false → IsSame d x m c
never_found {S} d x f m c at v a = absurd (both_ways _ v (f m (x.timed m) (first_emitted d x m c at) a))

-- each permitted action raises some module's work, and assumes nothing
acts_plainly : {S : Type 0} → (d : Design S) (h : Trace S) (limit : ℕ) (x : Core S) → IsAgreed d h limit x → AllVerified x
    → (a : Action) (z : Core S) → Acts d limit x a z → Rises d x z × AllVerified z
acts_plainly {S} d h limit x g f (Action.Run m) z (r, e) = grind (arith, run_rises d h limit x g m r, run_none d x f m)
acts_plainly {S} d h limit x g f (Action.Assign m) z (c, r, e) = grind (arith, given_rises d h limit x g m c r, assign_none x m c f)
acts_plainly {S} d h limit x g f (Action.Answer m) z (c, r, e) =
    let at = r.determined.at in
    grind (arith, found_rises d h limit x g m c at r.open_query, answer_none d x f m c, never_found d x f m c at r.open_query)
acts_plainly {S} d h limit x g f (Action.Earliest m) z (c, r, e) =
    let o = r.open_step in
    let at = o.determined.at in
    grind (arith, found_rises d h limit x g m c at o.open_query, answer_none d x f m c, never_found d x f m c at o.open_query)

pub all_rise : {S : Type 0} → (d : Design S) (h : Trace S) → IsDesign d → IsHistory d h → (limit : ℕ) (x : Core S)
    → IsAgreed d h limit x → AllVerified x → (actions : List Action) (z : Core S) → ActsAll d limit x actions z
    → (length actions + work d x ≤ work d z) × IsAgreed d h limit z × AllVerified z
all_rise {S} d h i y limit x g f [] z e = rw e (omega arith, g, f)
all_rise {S} d h i y limit x g f (a ∷ more) z (w, s, t) =
    let (p, q) = acts_plainly d h limit x g f a w s in
    let (n, r, v) = all_rise d h i y limit w (acts_agree d h i y limit x g a w s) q more z t in
    let k = all_more d x w p in
    (omega arith, r, v)

pub none_assumed : {S : Type 0} → (d : Design S) → AllVerified (opening_core d)
none_assumed {S} d m k l = absurd (omega arith)

-- how many actions there can be
pub few_actions : {S : Type 0} → (d : Design S) (h : Trace S) → IsDesign d → IsHistory d h → (limit most : ℕ) → IsBounded d most
    → (actions : List Action) (z : Core S) → ActsAll d limit (opening_core d) actions z → length actions ≤ d.modules * (3 * most + 1)
few_actions {S} d h i y limit most u actions z s =
    let (n, g, v) = all_rise d h i y limit (opening_core d) (opening_agrees d h i y limit) (none_assumed d) actions z s in
    omega (arith, n, most_work d h limit z g most u)
