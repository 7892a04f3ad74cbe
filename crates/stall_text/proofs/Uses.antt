-- Whose accesses those of a log are, and the clocks of each port.
use Rattle.std.proofs.Common.{◌≡◌, ◌≢◌, ℕ, ◌+◌, ◌-◌, List, [], ◌∷◌, ◌++◌, map, Bool, true, false, ◌&&◌, ◌==◌, cond, refl, sym, ◌∙◌, ap, ap₂}
use Rattle.std.proofs.Common.{subst, arith, inl, inr, is_some, eqb}
use Rattle.std.proofs.lemmas.Bool.{cases_eq, eq-eqb, ne_eqb, and_parts, eqb-true}
use Rattle.std.specs.{Prelude.IfOk, Prelude.Result, Prelude.Ok, Prelude.Err, List.filter, List.AllByRecursion}
use Rattle.stall_text.specs.{Port, Side, side_of, same_side, Plan, FitsEngine, same_port, owner, Act, acts, acts_before, last_clock}
use Rattle.stall_text.specs.{moved_before, before, ArePortClocks, log_of, LoggedAccess, moved_at, access_clocks, port_clocks, last_module}
use Rattle.event_timing.proofs.OwnRuns.{same_side_is}
use Rattle.port_clocks.proofs.Filled.{one_list}
use Rattle.stall_text.proofs.Accesses.{on, logged_act, log_is, clock_list, counted_before, list_rises, list_below, ActStands, all_stand}

-- ---- the last access

pub last_is : (m : ℕ) (xs : List LoggedAccess) (a : LoggedAccess) → last_module m (xs ++ a ∷ []) ≡ a.event.«module»
last_is m [] a = refl
last_is m (x ∷ xs) a = last_is x.event.«module» xs a

-- ---- one module's ports

abbrev pub Owns : Plan → LoggedAccess → Type 0
Owns p a = owner p (record { side = side_of a.event.kind; channel = a.event.channel }) ≡ a.event.«module»

owned : (p : Plan) (done : List Act) → AllByRecursion (ActStands p) done → AllByRecursion (Owns p) (map logged_act done)
owned p [] h = tt
owned p (a ∷ done) h = ((h.0).owned, owned p done h.1)

pub moved_owner : (p : Plan) (port : Port) (a : LoggedAccess) → Owns p a → moved_at port a ≡ true → a.event.«module» ≡ owner p port
moved_owner p port a h e =
    let both = and_parts (is_some a.value) (same_port port (record { side = side_of a.event.kind; channel = a.event.channel })) e in
    let parts = and_parts (same_side port.side (side_of a.event.kind)) (eqb port.channel a.event.channel) both.1 in
    sym (ap₂ (λ (s : Side) (f : ℕ). owner p (record { side = s; channel = f })) (same_side_is port.side (side_of a.event.kind) parts.0)
    (eqb-true port.channel a.event.channel parts.1) ∙ h)

-- those that pass a test are one module's
module _ (i o : ℕ) (test : LoggedAccess → Bool) where
  abbrev there : List LoggedAccess → List LoggedAccess
  there log = filter test log

  abbrev IsOwn : LoggedAccess → Type 0
  IsOwn a = a.event.«module» ≡ o

  abbrev pub Passes : LoggedAccess → Type 0
  Passes a = test a ≡ true → IsOwn a

  pub all_own : (log : List LoggedAccess) → AllByRecursion Passes log → AllByRecursion IsOwn (there log)
  all_own [] h = tt
  all_own (a ∷ log) h = by_test (test a) refl (all_own log h.1)
    where
      by_test : (b : Bool) → test a ≡ b → AllByRecursion IsOwn (there log) → AllByRecursion IsOwn (cond b (a ∷ there log) (there log))
      by_test true e rest = (h.0 e, rest)
      by_test false e rest = rest

  by_tests : (own moved : Bool) (a : LoggedAccess) (xs : List LoggedAccess) (b : Bool) → (moved ≡ true → own ≡ b)
      → cond (own && moved) (a ∷ cond b xs []) (cond b xs []) ≡ cond b (cond moved (a ∷ xs) xs) []
  by_tests true true a xs true h = refl
  by_tests true true a xs false h = let e = h refl in cc
  by_tests false true a xs true h = let e = h refl in cc
  by_tests false true a xs false h = refl
  by_tests true false a xs true h = refl
  by_tests true false a xs false h = refl
  by_tests false false a xs true h = refl
  by_tests false false a xs false h = refl

  abbrev nothing : List LoggedAccess
  nothing = []

  pub all_or_none : (log : List LoggedAccess) → AllByRecursion Passes log
      → filter (λ a. a.event.«module» == i && test a) log ≡ cond (o == i) (there log) []
  all_or_none [] h = by_bool (o == i)
    where
      by_bool : (b : Bool) → nothing ≡ cond b nothing nothing
      by_bool true = refl
      by_bool false = refl
  all_or_none (a ∷ log) h =
      ap (λ (xs : List LoggedAccess). cond (a.event.«module» == i && test a) (a ∷ xs) xs) (all_or_none log h.1)
      ∙ by_tests (a.event.«module» == i) (test a) a (there log) (o == i) (λ e. ap (λ (m : ℕ). m == i) (h.0 e))

  pub last_owner : (m : ℕ) (x : LoggedAccess) (xs : List LoggedAccess) → AllByRecursion IsOwn (x ∷ xs) → last_module m (x ∷ xs) ≡ o
  last_owner m x [] h = h.0
  last_owner m x (y ∷ ys) h = last_owner x.event.«module» y ys h.1

-- each access of a log stands at a port of its module
pub log_owned : (p : Plan) → FitsEngine p → AllByRecursion (Owns p) (log_of p)
unfolding acts
log_owned p fits = subst (AllByRecursion (Owns p)) (sym (log_is p)) (owned p (acts p) (all_stand p fits (last_clock p)))

pub passing : (p : Plan) (o : ℕ) (test : LoggedAccess → Bool) → ((a : LoggedAccess) → Owns p a → test a ≡ true → a.event.«module» ≡ o)
    → (log : List LoggedAccess) → AllByRecursion (Owns p) log → AllByRecursion (Passes 0 o test) log
passing p o test f [] h = tt
passing p o test f (a ∷ log) h = (f a h.0, passing p o test f log h.1)

-- ---- the clocks of a port

-- the log has the clocks of each port
pub log_clocks : (p : Plan) (side : Side) (f : ℕ) → ArePortClocks p (on side f) (clock_list (moved_at (on side f)) (acts p))
unfolding acts
log_clocks p side f = record {
  in_order = record {
    rise = list_rises p (moved_at (on side f)) (last_clock p);
    below = list_below p (moved_at (on side f)) (last_clock
        p);
  };
  counts = λ c l.
      subst (λ (e : ℕ). before (clock_list (moved_at (on side f)) (acts_before p e)) c ≡ moved_before p side f c)
      (let z : (last_clock p - c) + c ≡ last_clock p = omega arith in z) (counted_before p side f c (last_clock p - c));
}

-- so they are the owner's, and no others are known of the port
pub own_clocks_are : (p : Plan) → FitsEngine p → (i : ℕ) (port : Port) (xs : List ℕ) → (owner p port ≡ i → ArePortClocks p port xs)
    → (owner p port ≢ i → xs ≡ []) → xs ≡ port_clocks p i port
unfolding port_clocks
own_clocks_are p fits i port xs own other =
    let o = owner p port in
    let all = passing p o (moved_at port) (moved_owner p port) (log_of p) (log_owned p fits) in
    let those = filter (moved_at port) (log_of p) in
    let mine : port_clocks p i port ≡ access_clocks (cond (o == i) those []) =
    ap access_clocks (all_or_none i o (moved_at port) (log_of p) all) in
    elim (cases_eq o i) [
      | inl e ↦
          one_list p port xs (clock_list (moved_at port) (acts p)) (own e) (log_clocks p port.side port.channel)
          ∙ (ap (λ (log : List LoggedAccess). access_clocks (filter (moved_at port) log)) (sym (log_is p))
          ∙ sym (mine ∙ ap (λ (b : Bool). access_clocks (cond b those [])) (eq-eqb o i e)))
      | inr n ↦ other n ∙ sym (mine ∙ ap (λ (b : Bool). access_clocks (cond b those [])) (ne_eqb o i n))
    ]

-- what a call answers is the clocks of a module at a port
pub own_found : {E : Type 0} (p : Plan) → FitsEngine p → (i : ℕ) (port : Port) (r : Result (List ℕ) E)
    → (owner p port ≡ i → IfOk r (ArePortClocks p port)) → (owner p port ≢ i → IfOk r (λ clocks. clocks ≡ []))
    → IfOk r (λ clocks. clocks ≡ port_clocks p i port)
own_found p fits i port (Ok clocks) own other = own_clocks_are p fits i port clocks own other
own_found p fits i port (Err e) own other = tt
