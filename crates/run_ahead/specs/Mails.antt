-- What a run reads off its mail, and how it goes on by it from rest to rest.
use Rattle.std.specs.Prelude.{◌≡◌, ℕ, suc, ◌+◌, ◌⊎◌, Bool, true, false, cond, List, [], ◌∷◌, length, drop, Option, None, Some, nat_eq}
use Rattle.std.specs.Prelude.{nat_lt, slice_get, slice_index_or, if◌then◌else◌}
use Rattle.flow_word.specs.{Access}
use Rattle.flow_design.specs.{Plan, Advance, Reply}
use Rattle.lockstep_defs.specs.{Own}
use Rattle.module_interp.specs.{place_in, StandsAt, waits, is_step, IsSoundMark, next_rest, accesses_at, mark_at}
use Rattle.engine_view.specs.{queries_in}
use Rattle.run_ahead.specs.{declared.mail.Mail.Mail, declared.mail.Task.Task, declared.mail.Burst.Burst}
use Rattle.run_ahead.specs.Replies.{replies_from, takes_value}

-- ---- replies

-- the values of a channel; none where it is none of the mail's channels
abbrev pub values_on : Mail → ℕ → List ℕ
values_on mail c =
    let place = place_in mail.channels c in
    if nat_lt place (length mail.channels) then slice_index_or mail.values place [] else []

-- the next value of a channel, where so many of each channel were taken
abbrev pub next_value : Mail → (ℕ → ℕ) → ℕ → Option ℕ
next_value mail taken c = slice_get (values_on mail c) (taken c)

-- the replies to a step's accesses, of a mail of which so many outcomes and so many values of each channel were taken before the
-- step; None where one of them is not in the mail
abbrev pub replies_in : Mail → ℕ → (ℕ → ℕ) → List Access → Option (List Reply)
replies_in mail told taken accesses = replies_from mail.outcomes (λ a. next_value mail taken a.channel) told accesses

-- one value more of a channel is taken
abbrev pub one_more : (ℕ → ℕ) → ℕ → ℕ → ℕ
one_more taken c f = if nat_eq c f then suc (taken f) else taken f

-- so many values of each channel are taken after a step with these replies
abbrev pub taken_after : (ℕ → ℕ) → List Access → List Reply → ℕ → ℕ
taken_after taken [] rs = taken
taken_after taken (a ∷ as') [] = taken
taken_after taken (a ∷ as') (r ∷ rs) = taken_after (cond (takes_value r) (one_more taken a.channel) taken) as' rs

-- nothing is taken
abbrev pub none_taken : ℕ → ℕ
none_taken c = 0

-- this is left of a mail of which so many values of each channel were taken: the values after them. Its outcomes are all still there
pub record IsLeft (mail : Mail) (taken : ℕ → ℕ) (left : Mail) : Type 0 where
  pub outcomes : left.outcomes ≡ mail.outcomes
  pub values : (c : ℕ) → values_on left c ≡ drop (taken c) (values_on mail c)

-- ---- bursts

-- the run waits at the step of a rest, and only want of memory stops it where the replies are in the mail
pub record IsWaiting (p : Plan) (m : ℕ) (mail : Mail) (short : Bool) (last : Task) (o : Own) (told : ℕ) (taken : ℕ → ℕ) : Type 0 where
  pub stands : StandsAt p m o last.run
  pub waits : waits last.run ≡ true
  pub missing : short ≡ false → replies_in mail told taken (accesses_at p m o) ≡ None
  pub left : IsLeft mail taken last.mail

-- the run goes on from a rest whose mark it has not given
pub record IsStillGoing (p : Plan) (m : ℕ) (mail : Mail) (last : Task) (o : Own) (taken : ℕ → ℕ) : Type 0 where
  pub stands : StandsAt p m o last.run
  pub goes : waits last.run ≡ false
  pub left : IsLeft mail taken last.mail

-- after the step of a rest the run gives these marks: none, and it waits at the rest; or it finds its replies in the mail, and goes on
abbrev pub IsAfterStep : Plan → ℕ → Mail → Bool → Task → Own → ℕ → (ℕ → ℕ) → List Advance → (Own → ℕ → (ℕ → ℕ) → Type 0) → Type 0
IsAfterStep p m mail short last o told taken marks next =
    ((marks ≡ []) × IsWaiting p m mail short last o told taken)
    ⊎ ((rs : List Reply) × ((replies_in mail told taken (accesses_at p m o) ≡ Some rs)
    × next (next_rest p m o rs) (told + queries_in (accesses_at p m o)) (taken_after taken (accesses_at p m o) rs)))

-- after the mark of a rest, which is a step or not, the run gives these marks
abbrev pub IsPast : Bool → Plan → ℕ → Mail → Bool → Task → Own → ℕ → (ℕ → ℕ) → List Advance → (Own → ℕ → (ℕ → ℕ) → Type 0) → Type 0
IsPast true p m mail short last o told taken marks next = IsAfterStep p m mail short last o told taken marks next
IsPast false p m mail short last o told taken marks next = (marks ≡ []) × IsStillGoing p m mail last o taken

-- from a rest on the run gives these marks, and leaves this run with this mail; it stops before the first mark only for want of memory
abbrev pub RunsOn : Plan → ℕ → Mail → Bool → Task → Own → ℕ → (ℕ → ℕ) → List Advance → Type 0
RunsOn p m mail short last o told taken [] = IsStillGoing p m mail last o taken × (short ≡ true)
RunsOn p m mail short last o told taken (mark ∷ more) =
    (mark ≡ mark_at p m o) × IsSoundMark (length o.steps) mark
    × IsPast (is_step mark) p m mail short last o told taken more (λ o' told' taken'. RunsOn p m mail short last o' told' taken' more)

-- the run that a burst leaves, with what is left of the mail
abbrev pub task_left : Burst → Task
task_left burst = record { run = burst.run; mail = burst.mail }

-- a burst of a run that stands at this rest, and that waits there or not
abbrev pub IsBurstFrom : Bool → Plan → ℕ → Own → Mail → Burst → Type 0
IsBurstFrom true p m o mail burst =
    IsAfterStep p m mail burst.short (task_left burst) o 0 none_taken burst.emitted
    (λ o' told taken. RunsOn p m mail burst.short (task_left burst) o' told taken burst.emitted)
IsBurstFrom false p m o mail burst = RunsOn p m mail burst.short (task_left burst) o 0 none_taken burst.emitted

-- the burst is one of a task whose run stands at this rest
abbrev pub IsBurst : Plan → ℕ → Own → Task → Burst → Type 0
IsBurst p m o task burst = IsBurstFrom (waits task.run) p m o task.mail burst
