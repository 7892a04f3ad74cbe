-- The core: the marks of each module, the cycles of its first steps, and the outcomes of its queries.
use Rattle.std.specs.Prelude.{Bool, List, [], cond, false, get_or, length, ltb, not, true, ℕ, ◌&&◌, ◌++◌, ◌||◌, ◌∷◌}
use Rattle.flow_word.specs.{Side, same_side, declared.access.Side.TheVariants.Pop, declared.access.Side.TheVariants.Push}
use Rattle.event_timing.specs.{Machines.Access, Machines.Reply, Machines.Design, Views.View, Views.tally, Views.pushed_in}

-- ---- the core

pub record Core (S : Type 0) : Type 0 where
  -- how many steps of each module are emitted, and whether its end (ended or spent) is
  pub emitted : ℕ → ℕ
  pub over : ℕ → Bool
  -- the state of a module at each emitted step, which has the step's accesses, and the quiet clocks before the step
  pub state : ℕ → ℕ → S
  pub wait : ℕ → ℕ → ℕ
  -- a flag for each access of a step: true where it blocks, else the outcome of the query, and false while there is none
  pub flags : ℕ → ℕ → List Bool
  -- whether all outcomes of a step are recorded, and whether they are verified
  pub answered : ℕ → ℕ → Bool
  pub verified : ℕ → ℕ → Bool
  -- how many steps of each module have a cycle, and the cycle of each
  pub timed : ℕ → ℕ
  pub cycle : ℕ → ℕ → ℕ

-- the core at the beginning: nothing is emitted
abbrev pub opening_core : {S : Type 0} → Design S → Core S
opening_core {S} d =
    record {
      emitted = λ m. 0;
      over = λ m. false;
      state = λ m k. d.opening m;
      wait = λ m k. 0;
      flags = λ m k. [];
      answered = λ m k. false;
      verified = λ m k. false;
      timed = λ m. 0;
      cycle = λ m k. 0;
    }

-- ---- the replies that a core gives to a module

-- replies without values, which is enough for counting
abbrev pub bare_replies : List Bool → List Reply
bare_replies [] = []
bare_replies (b ∷ bs) = record { possible = b; front = 0 } ∷ bare_replies bs

-- the accesses of module m's step k
abbrev pub core_accesses : {S : Type 0} → Design S → Core S → ℕ → ℕ → List Access
core_accesses {S} d x m k = d.accesses m (x.state m k)

-- how many elements of a channel module m pops (or pushes) in its first k steps
abbrev pub core_tally : {S : Type 0} → Design S → Core S → ℕ → Side → ℕ → ℕ → ℕ
core_tally {S} d x m side ch k = tally (core_accesses d x m) (λ j. bare_replies (x.flags m j)) side ch k

-- the values that module m pushed on a channel in its first k steps
abbrev pub core_pushed : {S : Type 0} → Design S → Core S → ℕ → ℕ → ℕ → List ℕ
core_pushed {S} d x m ch k = pushed_in ch (core_accesses d x m) (λ j. bare_replies (x.flags m j)) k

-- the values of a channel: its inputs, and then those that are pushed in emitted steps
abbrev pub core_values : {S : Type 0} → Design S → Core S → ℕ → List ℕ
core_values {S} d x ch = d.inputs ch ++ core_pushed d x (d.owner Push ch) ch (x.emitted (d.owner Push ch))

-- the access pops an element, by its flag
abbrev pub pops_now : Access → Bool → Bool
pops_now a b = a.takes && (same_side a.side Pop && b)

-- the replies to accesses with these flags, where V has the values of each channel, and t how many of them were popped before
abbrev pub replies_of : (ℕ → List ℕ) → (ℕ → ℕ) → List Access → List Bool → List Reply
replies_of V t [] bs = []
replies_of V t (a ∷ xs) [] = []
replies_of V t (a ∷ xs) (b ∷ bs) =
    record { possible = b; front = cond (pops_now a b) (get_or (V a.channel) (t a.channel) 0) 0 } ∷ replies_of V t xs bs

-- each pop of these accesses is of one of the first s elements of its channel, where t were popped before
abbrev pub all_below : (ℕ → ℕ) → (ℕ → ℕ) → List Access → List Bool → Bool
all_below s t [] bs = true
all_below s t (a ∷ xs) [] = true
all_below s t (a ∷ xs) (b ∷ bs) = (not (pops_now a b) || ltb (t a.channel) (s a.channel)) && all_below s t xs bs

-- the replies that the core gives to module m's step k
abbrev pub core_reply : {S : Type 0} → Design S → Core S → ℕ → ℕ → List Reply
core_reply {S} d x m k = replies_of (core_values d x) (λ ch. core_tally d x m Pop ch k) (core_accesses d x m k) (x.flags m k)

-- the core has the value of each pop in module m's step k
abbrev pub values_there : {S : Type 0} → Design S → Core S → ℕ → ℕ → Bool
values_there {S} d x m k =
    all_below (λ ch. length (core_values d x ch)) (λ ch. core_tally d x m Pop ch k) (core_accesses d x m k) (x.flags m k)

-- ---- what a core claims

abbrev pub view : {S : Type 0} → Design S → Core S → View
view {S} d x =
    record {
      timed = x.timed;
      more = λ m. ltb (x.timed m) (x.emitted m);
      accesses = core_accesses d x;
      wait = x.wait;
      reply = core_reply d x;
      cycle = x.cycle;
    }

-- ---- queries

abbrev pub has_query : List Access → Bool
has_query [] = false
has_query (a ∷ xs) = not a.blocks || has_query xs

-- the flags of a step without outcomes: its queries count as not possible
abbrev pub no_outcomes : List Access → List Bool
no_outcomes [] = []
no_outcomes (a ∷ xs) = a.blocks ∷ no_outcomes xs
