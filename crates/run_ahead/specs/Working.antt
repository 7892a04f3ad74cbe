-- How far a burst has come, while it goes on.
use Rattle.std.specs.Prelude.{◌≡◌, ℕ, ◌+◌, Bool, false, List, ◌++◌, Some}
use Rattle.flow_design.specs.{Plan, Advance, Reply}
use Rattle.lockstep_defs.specs.{Own}
use Rattle.module_interp.specs.{ModuleRun, StandsAt, waits, next_rest, accesses_at}
use Rattle.engine_view.specs.{queries_in}
use Rattle.run_ahead.specs.{declared.mail.Mail.Mail, declared.mail.Burst.Burst, declared.mail.Task.Task}
use Rattle.run_ahead.specs.Mails.{replies_in, taken_after, IsLeft, RunsOn}

-- the run stands at some rest of some module
abbrev pub StandsSomewhere : ModuleRun → Type 0
StandsSomewhere run = (p : Plan) × ((i : ℕ) × ((o : Own) × StandsAt p i o run))

-- a run that waited at a rest was fed with the replies of its mail, and stands at the next; this is left of the mail
pub record IsFed (p : Plan) (i : ℕ) (o : Own) (mail : Mail) (told : ℕ) (taken : ℕ → ℕ) (run : ModuleRun) (now : ℕ) (rest : Mail) : Type 0
  where
    pub replies : List Reply
    pub found : replies_in mail told taken (accesses_at p i o) ≡ Some replies
    pub stands : StandsAt p i (next_rest p i o replies) run
    pub number : now ≡ told + queries_in (accesses_at p i o)
    pub left : IsLeft mail (taken_after taken (accesses_at p i o) replies) rest

-- whatever marks the run gives from where it stands now, they follow the marks that it gave so far
pub record IsSoFar (p : Plan) (i : ℕ) (mail : Mail) (o : Own) (told : ℕ) (taken : ℕ → ℕ) (marks : List Advance) (run : ModuleRun) (now : ℕ)
    (left : Mail) : Type 0 where
  pub at : Own
  pub taken_now : ℕ → ℕ
  pub stands : StandsAt p i at run
  pub is_left : IsLeft mail taken_now left
  pub follows : (short : Bool) (last : Task) (more : List Advance) → RunsOn p i mail short last at now taken_now more
      → RunsOn p i mail short last o told taken (marks ++ more)

-- a run with its mail
abbrev pub task_of : ModuleRun → Mail → Task
task_of run mail = record { run = run; mail = mail }

-- a burst that leaves this run and mail, and gave these marks
abbrev pub burst_of : Task → List Advance → Bool → Burst
burst_of last marks short = record { run = last.run; emitted = marks; short = short; mail = last.mail }

-- what the loop of a burst keeps: how far it has come from each rest at which its run may have begun
pub record IsGoingOn (first : Mail) (from : ModuleRun) (told : ℕ) (marks : List Advance) (run : ModuleRun) (now : ℕ) (left : Mail) : Type 0
  where
    pub so_far : (p : Plan) (i : ℕ) (o : Own) → StandsAt p i o from → (mail : Mail) (taken : ℕ → ℕ) → IsLeft mail taken first
        → IsSoFar p i mail o told taken marks run now left
    pub goes : waits run ≡ false
