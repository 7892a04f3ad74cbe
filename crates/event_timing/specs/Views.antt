-- What a core claims: the first steps of each module were done in these clocks, with these replies.
use Rattle.std.specs.Prelude.{Bool, List, None, Option, Some, [], cond, false, leb, ltb, suc, true, zero, ℕ, ◌&&◌, ◌++◌, ◌+◌, ◌<◌, ◌≡◌}
use Rattle.flow_word.specs.{Side}
use Rattle.event_timing.specs.Machines.{Access, Reply, Design, ready, takes_in, values_in}
use Rattle.event_timing.specs.{Histories.Trace, Histories.replies, Steps.steps, Steps.done}

pub record View : Type 0 where
  -- how many steps of each module have a cycle, and whether there is a further step
  pub timed : ℕ → ℕ
  pub more : ℕ → Bool
  -- of each step its accesses, the quiet clocks before it, its replies and its cycle
  pub accesses : ℕ → ℕ → List Access
  pub wait : ℕ → ℕ → ℕ
  pub reply : ℕ → ℕ → List Reply
  pub cycle : ℕ → ℕ → ℕ

-- ---- own runs

-- the state of module m's own run after k steps, on these replies
unfoldable pub own : {S : Type 0} → Design S → ℕ → (ℕ → List Reply) → ℕ → S
own {S} d m r zero = d.opening m
own {S} d m r (suc k) = d.move m (ready d m (own d m r k)) (r k)

-- the accesses of step k of module m's own run, on these replies
abbrev pub own_accesses : {S : Type 0} → Design S → ℕ → (ℕ → List Reply) → ℕ → List Access
own_accesses {S} d m r k = d.accesses m (ready d m (own d m r k))

-- how many elements of a channel are popped (or pushed) in the first k steps, with these accesses and replies
unfoldable pub tally : (ℕ → List Access) → (ℕ → List Reply) → Side → ℕ → ℕ → ℕ
tally a r side ch zero = 0
tally a r side ch (suc k) = tally a r side ch k + takes_in side ch (a k) (r k)

-- the step, below n, that pops (or pushes) the channel after i earlier pops (or pushes)
unfoldable pub place : (ℕ → List Access) → (ℕ → List Reply) → Side → ℕ → ℕ → ℕ → Option ℕ
place a r side ch zero i = None
place a r side ch (suc n) i = cond (leb (tally a r side ch n) i && ltb i (tally a r side ch (suc n))) (Some n) (place a r side ch n i)

-- the clock after the cycle of a module's first k steps, or 0 where k is 0
abbrev pub from : (ℕ → ℕ) → ℕ → ℕ
from cycle zero = 0
from cycle (suc k) = suc (cycle k)

-- the accesses of module m's first step without a cycle
abbrev pub first_accesses : View → ℕ → List Access
first_accesses v m = v.accesses m (v.timed m)

-- the state of module m's own run at step k, which has the step's accesses
abbrev pub own_state : {S : Type 0} → Design S → View → ℕ → ℕ → S
own_state {S} d v m k = ready d m (own d m (v.reply m) k)

-- the claim agrees with the history: its steps are the history's, and the first step without a cycle is the next one of the own run
pub record Agrees {S : Type 0} (d : Design S) (h : Trace S) (v : View) : Type 0 where
  pub steps_then : (m k : ℕ) → k < v.timed m → steps d h (v.cycle m k) m ≡ true
  pub done_then : (m k : ℕ) → k < v.timed m → done d h m (v.cycle m k) ≡ k
  pub reply_then : (m k : ℕ) → k < v.timed m → v.reply m k ≡ replies d h (v.cycle m k) m
  pub accesses_then : (m k : ℕ) → k < v.timed m → v.accesses m k ≡ d.accesses m (own_state d v m k)
  pub accesses_first : (m : ℕ) → v.more m ≡ true → v.accesses m (v.timed m) ≡ d.accesses m (own_state d v m (v.timed m))
  pub wait_first : (m : ℕ) → v.more m ≡ true → v.wait m (v.timed m) ≡ d.quiet m (own d m (v.reply m) (v.timed m))
  pub lives_first : (m : ℕ) → v.more m ≡ true → d.is_over m (own_state d v m (v.timed m)) ≡ false

-- the values pushed on a channel in the first k steps, with these accesses and replies
unfoldable pub pushed_in : ℕ → (ℕ → List Access) → (ℕ → List Reply) → ℕ → List ℕ
pushed_in ch a r zero = []
pushed_in ch a r (suc k) = pushed_in ch a r k ++ values_in ch (a k) (r k)

-- the list xs begins with the list ys
abbrev pub Begins : List ℕ → List ℕ → Type 0
Begins xs ys = (more : List ℕ) × (xs ≡ ys ++ more)
