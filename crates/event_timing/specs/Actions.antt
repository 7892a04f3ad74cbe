-- The four actions of a core: when each is permitted, and what it does.
use Rattle.std.specs.Prelude.{Bool, List, Some, [], cond, eqb, false, not, suc, true, zero, ℕ, ◌&&◌, ◌+◌, ◌<◌, ◌∷◌, ◌≡◌, ◌≤◌, ◌⊎◌, ⊤}
use Rattle.event_timing.specs.{Machines.Design, Machines.ready, Views.first_accesses}
use Rattle.event_timing.specs.Enablers.{known_of, candidate, all_decided, flags_at}
use Rattle.event_timing.specs.Core.{Core, core_reply, values_there, view, has_query, no_outcomes}

-- ---- when each action is permitted

-- a Run of module m is permitted: its end is not emitted yet, and every reply to its newest step is there
pub record MayRun {S : Type 0} (d : Design S) (x : Core S) (m : ℕ) : Type 0 where
  pub inside : m < d.modules
  pub lives : x.over m ≡ false
  pub answered : (k : ℕ) → suc k ≡ x.emitted m → x.answered m k ≡ true
  pub there : (k : ℕ) → suc k ≡ x.emitted m → values_there d x m k ≡ true

-- the cycle of module m's first step without one is determined: it is c, below the limit
pub record IsDetermined {S : Type 0} (d : Design S) (limit : ℕ) (x : Core S) (m c : ℕ) : Type 0 where
  pub at : candidate d (view d x) m ≡ Some c
  pub below : c < limit

-- an Assign of module m is permitted: its first step without a cycle is determined, and each query in it has a verified outcome
pub record MayAssign {S : Type 0} (d : Design S) (limit : ℕ) (x : Core S) (m c : ℕ) : Type 0 where
  pub determined : IsDetermined d limit x m c
  pub verified : x.verified m (x.timed m) ≡ true

-- an Answer of module m is permitted: its first step without a cycle is determined, has a query without a verified outcome, and all
-- its queries are decided
pub record MayAnswer {S : Type 0} (d : Design S) (limit : ℕ) (x : Core S) (m c : ℕ) : Type 0 where
  pub determined : IsDetermined d limit x m c
  pub open_query : x.verified m (x.timed m) ≡ false
  pub decided : all_decided (known_of d (view d x) m) (first_accesses (view d x) m) ≡ true

-- module m's first step without a cycle is open: it is determined, and has a query without a verified outcome and a query that is
-- not decided
pub record IsOpen {S : Type 0} (d : Design S) (limit : ℕ) (x : Core S) (m c : ℕ) : Type 0 where
  pub determined : IsDetermined d limit x m c
  pub open_query : x.verified m (x.timed m) ≡ false
  pub undecided : all_decided (known_of d (view d x) m) (first_accesses (view d x) m) ≡ false

-- no Run, Assign or Answer is permitted
pub record IsQuiet {S : Type 0} (d : Design S) (limit : ℕ) (x : Core S) : Type 0 where
  pub no_run : (n : ℕ) → MayRun d x n → ⊥
  pub no_assign : (n c : ℕ) → MayAssign d limit x n c → ⊥
  pub no_answer : (n c : ℕ) → MayAnswer d limit x n c → ⊥

-- an Earliest of module m is permitted: its step is open, no other kind of action is permitted, and no open step has a lesser cycle
pub record MayEarliest {S : Type 0} (d : Design S) (limit : ℕ) (x : Core S) (m c : ℕ) : Type 0 where
  pub open_step : IsOpen d limit x m c
  pub quiet : IsQuiet d limit x
  pub least : (n e : ℕ) → IsOpen d limit x n e → c ≤ e

-- ---- what each action does

-- a function with another value at place m
abbrev pub put : {A : Type 0} → (ℕ → A) → ℕ → A → ℕ → A
put f m y n = cond (eqb n m) y (f n)

abbrev pub put_at : {A : Type 0} → (ℕ → ℕ → A) → ℕ → ℕ → A → ℕ → ℕ → A
put_at f m k y n j = cond (eqb n m && eqb j k) y (f n j)

-- the state of module m after its first k steps
abbrev pub state_next : {S : Type 0} → Design S → Core S → ℕ → ℕ → S
state_next {S} d x m zero = d.opening m
state_next {S} d x m (suc k) = d.move m (x.state m k) (core_reply d x m k)

-- the state of module m after its newest step
abbrev pub newest : {S : Type 0} → Design S → Core S → ℕ → S
newest {S} d x m = state_next d x m (x.emitted m)

-- the core after module m's end mark, that it ended or is spent, is emitted
abbrev pub emit_over : {S : Type 0} → Core S → ℕ → Core S
emit_over {S} x m = record x { over = put x.over m true }

-- the core after module m's next step is emitted; a step without a query has all its outcomes
abbrev pub emit_step : {S : Type 0} → Design S → Core S → ℕ → S → Core S
emit_step {S} d x m s =
    record x {
      emitted = put x.emitted m (suc (x.emitted m));
      state = put_at x.state m (x.emitted m) (ready d m s);
      wait = put_at x.wait m (x.emitted m) (d.quiet m s);
      flags = put_at x.flags m (x.emitted m) (no_outcomes (d.accesses m (ready d m s)));
      answered = put_at x.answered m (x.emitted m) (not (has_query (d.accesses m (ready d m s))));
      verified = put_at x.verified m (x.emitted m) (not (has_query (d.accesses m (ready d m s))));
    }

-- the core after a Run of module m: the replies are committed, and the next mark is emitted
abbrev pub after_run : {S : Type 0} → Design S → Core S → ℕ → Core S
after_run {S} d x m = cond (d.is_over m (ready d m (newest d x m))) (emit_over x m) (emit_step d x m (newest d x m))

-- the core after an Assign of module m: its first step without a cycle gets cycle c
abbrev pub after_assign : {S : Type 0} → Core S → ℕ → ℕ → Core S
after_assign {S} x m c = record x { timed = put x.timed m (suc (x.timed m)); cycle = put_at x.cycle m (x.timed m) c }

-- what is found for each access of module m's first step without a cycle, in clock c: whether it is done or possible
abbrev pub new_flags : {S : Type 0} → Design S → Core S → ℕ → ℕ → List Bool
new_flags {S} d x m c = flags_at (known_of d (view d x) m) c (first_accesses (view d x) m)

-- the core after an Answer or an Earliest of module m: the outcomes found in clock c are verified
abbrev pub after_answer : {S : Type 0} → Design S → Core S → ℕ → ℕ → Core S
after_answer {S} d x m c =
    record x {
      flags = put_at x.flags m (x.timed m) (new_flags d x m c);
      answered = put_at x.answered m (x.timed m) true;
      verified = put_at x.verified m (x.timed m) true;
    }

-- an assumed outcome, if there is one, is the outcome that is found in clock c
abbrev pub IsSame : {S : Type 0} → Design S → Core S → ℕ → ℕ → Type 0
IsSame {S} d x m c = x.answered m (x.timed m) ≡ true → x.flags m (x.timed m) ≡ new_flags d x m c

-- ---- lists of actions

pub data Action : Type 0 where
  Run : ℕ → Action
  Assign : ℕ → Action
  Answer : ℕ → Action
  Earliest : ℕ → Action

-- an action is permitted and makes core y of core x; an Answer or an Earliest that finds an assumed outcome to differ changes
-- nothing
abbrev pub Acts : {S : Type 0} → Design S → ℕ → Core S → Action → Core S → Type 0
Acts {S} d limit x (Run m) y = MayRun d x m × (y ≡ after_run d x m)
Acts {S} d limit x (Assign m) y = (c : ℕ) × MayAssign d limit x m c × (y ≡ after_assign x m c)
Acts {S} d limit x (Answer m) y =
    (c : ℕ) × MayAnswer d limit x m c × (IsSame d x m c × (y ≡ after_answer d x m c) ⊎ (IsSame d x m c → ⊥) × (y ≡ x))
Acts {S} d limit x (Earliest m) y =
    (c : ℕ) × MayEarliest d limit x m c × (IsSame d x m c × (y ≡ after_answer d x m c) ⊎ (IsSame d x m c → ⊥) × (y ≡ x))

-- these actions are permitted one after the other, and make core y of core x
abbrev pub ActsAll : {S : Type 0} → Design S → ℕ → Core S → List Action → Core S → Type 0
ActsAll {S} d limit x [] y = y ≡ x
ActsAll {S} d limit x (a ∷ rest) y = (z : Core S) × Acts d limit x a z × ActsAll d limit z rest y

-- the core is final: no action at all is permitted
pub record IsFinal {S : Type 0} (d : Design S) (limit : ℕ) (x : Core S) : Type 0 where
  pub quiet : IsQuiet d limit x
  pub no_earliest : (n e : ℕ) → MayEarliest d limit x n e → ⊥

-- n Runs of module m
abbrev pub runs : ℕ → ℕ → List Action
runs zero m = []
runs (suc n) m = Run m ∷ runs n m

-- none of these actions is a Run of module m
abbrev pub IsNoRunOf : ℕ → List Action → Type 0
IsNoRunOf m [] = ⊤
IsNoRunOf m (Run n ∷ rest) = (m ≡ n → ⊥) × IsNoRunOf m rest
IsNoRunOf m (Assign n ∷ rest) = IsNoRunOf m rest
IsNoRunOf m (Answer n ∷ rest) = IsNoRunOf m rest
IsNoRunOf m (Earliest n ∷ rest) = IsNoRunOf m rest

-- each query that the action answers has a recorded outcome
abbrev pub IsRecorded : {S : Type 0} → Core S → Action → Type 0
IsRecorded {S} x (Run m) = ⊤
IsRecorded {S} x (Assign m) = ⊤
IsRecorded {S} x (Answer m) = x.answered m (x.timed m) ≡ true
IsRecorded {S} x (Earliest m) = x.answered m (x.timed m) ≡ true

-- these actions are permitted one after the other, and answer only queries with recorded outcomes
abbrev pub ActsRecorded : {S : Type 0} → Design S → ℕ → Core S → List Action → Core S → Type 0
ActsRecorded {S} d limit x [] y = y ≡ x
ActsRecorded {S} d limit x (a ∷ rest) y = (z : Core S) × Acts d limit x a z × IsRecorded x a × ActsRecorded d limit z rest y

-- how many of these actions give a step of module m a cycle
abbrev pub assigns : ℕ → List Action → ℕ
assigns m [] = 0
assigns m (Run n ∷ rest) = assigns m rest
assigns m (Assign n ∷ rest) = cond (eqb m n) 1 0 + assigns m rest
assigns m (Answer n ∷ rest) = assigns m rest
assigns m (Earliest n ∷ rest) = assigns m rest

-- each of these actions is an Assign or an Answer
abbrev pub AreTimings : List Action → Type 0
AreTimings [] = ⊤
AreTimings (Run m ∷ rest) = ⊥
AreTimings (Assign m ∷ rest) = AreTimings rest
AreTimings (Answer m ∷ rest) = AreTimings rest
AreTimings (Earliest m ∷ rest) = ⊥
