-- What a pass knows, before and after each kind of step.
use Rattle.std.specs.Prelude.{ℕ, ◌+◌, List, [], ◌∷◌, ◌++◌, length, Bool, true, false, if◌then◌else◌, nat_le}
use Rattle.turn_lock.specs.{declared.view.PassView.PassView, declared.view.Joined.Joined}

module _ {E : Type 0} where
  -- a pass between turns: with its number, for how many passes the lock was made, what it has seen, and whether it is settled
  abbrev pub new_view : ℕ → ℕ → List E → Bool → PassView E
  new_view n passes seen settled = record {
    spent = false;
    number = n;
    passes = passes;
    made = 0;
    seen = seen;
    own = [];
    settled = settled;
    joined = [];
    turns = 0;
    lost = 0;
    is_holder = false;
    history = [];
  }

  -- the first pass of a lock for this many passes, which has seen the value's entries
  abbrev pub first_view : ℕ → List E → PassView E
  first_view passes opening = new_view 0 passes opening true

  -- a pass that was joined into another
  abbrev pub spent_view : PassView E
  spent_view = record {
    spent = true;
    number = 0;
    passes = 0;
    made = 0;
    seen = [];
    own = [];
    settled = false;
    joined = [];
    turns = 0;
    lost = 0;
    is_holder = false;
    history = [];
  }

  -- the first pass after it has made one more pass
  abbrev pub after_split : PassView E → PassView E
  after_split v = record v { made = v.made + 1 }

  -- the pass that the first pass v makes: the count of passes made is its number, and it has seen what v has seen
  abbrev pub split_off : PassView E → PassView E
  split_off v = new_view (v.made + 1) v.passes v.seen v.settled

  -- a pass after this many tries that found the turn taken
  abbrev pub after_lost_tries : ℕ → PassView E → PassView E
  after_lost_tries k v = record v { lost = v.lost + k }

  -- a pass after a try that won the turn: it holds the turn, and the value has this history
  abbrev pub as_holder : List E → PassView E → PassView E
  as_holder log v = record v { is_holder = true; history = log }

  -- a pass that holds the turn, after it has put entry e: the value then has this history
  abbrev pub after_entry : List E → E → PassView E → PassView E
  after_entry log e v = record v { seen = log; own = v.own ++ e ∷ []; history = log }

  -- a pass after it has handed the turn back
  abbrev pub after_turn : PassView E → PassView E
  after_turn v = record v { seen = v.history; settled = true; turns = v.turns + 1; is_holder = false }

  -- the longer of two histories
  abbrev pub longer : List E → List E → List E
  longer xs ys = (if nat_le (length xs) (length ys) then ys else xs)

  -- what the first pass v keeps of the pass w, which is joined into it
  abbrev pub as_joined : PassView E → PassView E → Joined E
  as_joined v w = record { number = w.number; own = w.own; seen = w.seen; before = v.seen }

  -- the first pass v after pass w was joined into it
  abbrev pub after_join : PassView E → PassView E → PassView E
  after_join v w = record v { seen = longer v.seen w.seen; settled = false; joined = v.joined ++ as_joined v w ∷ [] }
