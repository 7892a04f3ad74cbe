-- The tests of the permissions decide them.
use Rattle.std.proofs.{lemmas.Bool.Decides.nat_tests, lemmas.Bool.and_parts, lemmas.Bool.ltb-true, lemmas.Bool.lt-ltb}
use Rattle.std.proofs.Common.{◌≡◌, ℕ, zero, suc, ◌<◌, ◌≤◌, ◌↔◌, Bool, true, false, refl, ap, ◌∙◌, arith, Option, Some, None}
use Rattle.event_timing.specs.{Design, candidate, values_there, view, MayRun, IsDetermined, MayAssign, MayAnswer, IsOpen, IsQuiet}
use Rattle.event_timing.specs.{MayEarliest, IsFinal, IsInside, has_replies, may_run, is_before, is_determined, may_assign, decides}
use Rattle.event_timing.specs.{may_answer, is_open, passes_no_module, is_quiet, is_open_before, may_earliest, is_final, Core.Core}
use Rattle.event_timing.proofs.{Agreement.final_closed, Answering.first_emitted}

-- ---- Run

replies_there : {S : Type 0} → (d : Design S) (x : Core S) (m n : ℕ) → has_replies d x m n ≡ true → (k : ℕ) → suc k ≡ n
    → (x.answered m k ≡ true) × (values_there d x m k ≡ true)
replies_there {S} d x m zero h k e = absurd (omega arith)
replies_there {S} d x m (suc j) h k e = grind arith

there_replies : {S : Type 0} → (d : Design S) (x : Core S) (m n : ℕ) → ((k : ℕ) → suc k ≡ n → x.answered m k ≡ true)
    → ((k : ℕ) → suc k ≡ n → values_there d x m k ≡ true) → has_replies d x m n ≡ true
there_replies {S} d x m zero a t = refl
there_replies {S} d x m (suc j) a t = grind (arith, a j, t j)

pub run_decided : {S : Type 0} → (d : Design S) (x : Core S) (m : ℕ) → (may_run d x m ≡ true) ↔ MayRun d x m
unfolding may_run
run_decided {S} d x m = (
  λ e. grind (arith, nat_tests, replies_there d x m (x.emitted m)),
  λ r. grind (arith, nat_tests, r, there_replies d x m (x.emitted m) r.answered r.there),
)

-- ---- Assign, Answer, and open steps

before_found : (limit : ℕ) (o : Option ℕ) → is_before limit o ≡ true → (c : ℕ) × (o ≡ Some c) × (c < limit)
before_found limit None e = cc
before_found limit (Some c) e = (c, refl, ltb-true c limit e)

module _ {S : Type 0} (d : Design S) (limit : ℕ) (x : Core S) (m : ℕ) where
  determined_found : is_determined d limit x m ≡ true → (c : ℕ) × IsDetermined d limit x m c
  unfolding is_determined
  determined_found e = grind (arith, before_found limit (candidate d (view d x) m))

  determined_is : (c : ℕ) → IsDetermined d limit x m c → is_determined d limit x m ≡ true
  unfolding is_determined
  determined_is c n = ap (is_before limit) n.at ∙ lt-ltb c limit n.below

  pub assign_decided : (may_assign d limit x m ≡ true) ↔ ((c : ℕ) × MayAssign d limit x m c)
  unfolding may_assign
  assign_decided = (λ e. grind (arith, determined_found), λ w. grind (arith, determined_is))

  pub answer_decided : (may_answer d limit x m ≡ true) ↔ ((c : ℕ) × MayAnswer d limit x m c)
  unfolding may_answer decides
  answer_decided = (λ e. grind (arith, determined_found), λ w. grind (arith, determined_is))

  pub open_decided : (is_open d limit x m ≡ true) ↔ ((c : ℕ) × IsOpen d limit x m c)
  unfolding is_open decides
  open_decided = (λ e. grind (arith, determined_found), λ w. grind (arith, determined_is))

-- ---- over all modules

none_passes : (test : ℕ → Bool) (n : ℕ) → passes_no_module test n ≡ true → (m : ℕ) → m < n → test m ≡ false
unfolding passes_no_module
none_passes test zero e m l = absurd (omega arith)
none_passes test (suc n) e m l = grind (arith, none_passes test n)

none_found : (test : ℕ → Bool) (n : ℕ) → ((m : ℕ) → test m ≡ true → ⊥) → passes_no_module test n ≡ true
unfolding passes_no_module
none_found test zero f = refl
none_found test (suc n) f = grind (arith, f n, none_found test n f)

-- only a module of the design has a step whose cycle is determined
pub determined_inside : {S : Type 0} (d : Design S) (x : Core S) → IsInside d x → (m c : ℕ) → candidate d (view d x) m ≡ Some c
    → m < d.modules
determined_inside {S} d x inside m c at = grind (arith, first_emitted d x m c at, inside m)

module _ {S : Type 0} (d : Design S) (limit : ℕ) (x : Core S) (inside : IsInside d x) where
  pub quiet_decided : (is_quiet d limit x ≡ true) ↔ IsQuiet d limit x
  unfolding is_quiet
  quiet_decided = (there, back)
    where
      there : is_quiet d limit x ≡ true → IsQuiet d limit x
      there e =
          record {
            no_run = λ n r. grind (arith, none_passes (may_run d x) d.modules, run_decided d x n);
            no_assign = λ n c w.
                let l = determined_inside d x inside n c w.determined.at in
                grind (arith, none_passes (may_assign d limit x) d.modules, (assign_decided d limit x n).1 (c, w));
            no_answer = λ n c w.
                let l = determined_inside d x inside n c w.determined.at in
                grind (arith, none_passes (may_answer d limit x) d.modules, (answer_decided d limit x n).1 (c, w));
          }

      back : IsQuiet d limit x → is_quiet d limit x ≡ true
      back q =
          let a = none_found (may_run d x) d.modules (λ m e. q.no_run m ((run_decided d x m).0 e)) in
          let b = none_found (may_assign d limit x) d.modules (λ m e. let w = (assign_decided d limit x m).0 e in q.no_assign m w.0 w.1) in
          let c = none_found (may_answer d limit x) d.modules (λ m e. let w = (answer_decided d limit x m).0 e in q.no_answer m w.0 w.1) in
          grind arith

  -- no open step comes before that of the module
  least_there : (m c : ℕ) → candidate d (view d x) m ≡ Some c
      → passes_no_module (is_open_before d limit x (candidate d (view d x) m)) d.modules ≡ true → (n e : ℕ) → IsOpen d limit x n e → c ≤ e
  unfolding is_open_before
  least_there m c at p n e o =
      let f = none_passes (is_open_before d limit x (candidate d (view d x) m)) d.modules p n (determined_inside d x inside n e
      o.determined.at) in
      grind (arith, nat_tests, o.determined.at, (open_decided d limit x n).1 (e, o))

  least_back : (m c : ℕ) → candidate d (view d x) m ≡ Some c → ((n e : ℕ) → IsOpen d limit x n e → c ≤ e)
      → passes_no_module (is_open_before d limit x (candidate d (view d x) m)) d.modules ≡ true
  unfolding is_open_before
  least_back m c at f =
      none_found (is_open_before d limit x (candidate d (view d x) m)) d.modules (λ n p.
      grind (arith, nat_tests, (open_decided d limit x n).0, before_found c (candidate d (view d x) n), f n))

  pub earliest_decided : (m : ℕ) → (may_earliest d limit x m ≡ true) ↔ ((c : ℕ) × MayEarliest d limit x m c)
  unfolding may_earliest
  earliest_decided m = (there, back)
    where
      there : may_earliest d limit x m ≡ true → (c : ℕ) × MayEarliest d limit x m c
      there e =
          let (e1, e2) = and_parts _ _ e in
          let (e3, e4) = and_parts _ _ e2 in
          let (c, o) = (open_decided d limit x m).0 e1 in
          (c, record { open_step = o; quiet = quiet_decided.0 e3; least = least_there m c o.determined.at e4 })

      back : (c : ℕ) × MayEarliest d limit x m c → may_earliest d limit x m ≡ true
      back (c, w) =
          let least = least_back m c w.open_step.determined.at w.least in
          grind (arith, (open_decided d limit x m).1 (c, w.open_step), quiet_decided.1 w.quiet)

  pub final_decided : (is_final d limit x ≡ true) ↔ IsFinal d limit x
  unfolding is_final
  final_decided = (there, back)
    where
      there : is_final d limit x ≡ true → IsFinal d limit x
      there e =
          record {
            quiet = grind (arith, quiet_decided.0);
            no_earliest = λ n c w.
                let l = determined_inside d x inside n c w.open_step.determined.at in
                grind (arith, none_passes (is_open d limit x) d.modules, (open_decided d limit x n).1 (c, w.open_step));
          }

      back : IsFinal d limit x → is_final d limit x ≡ true
      back f =
          let a = quiet_decided.1 f.quiet in
          let b = none_found (is_open d limit x) d.modules (λ m e. let (c, o) = (open_decided d limit x m).0 e in
          final_closed d limit x f (suc c) c (omega arith) m o) in
          grind arith
