use Rattle.cycle_changes.proofs.{Enabled.around, Enabled.enabled, Enabled.is_between, Standing.rise}
use Rattle.cycle_changes.proofs.Local.{beside_right, slack_right, still_right}
use Rattle.cycle_changes.specs.{IsRight, with_cycles}
use Rattle.cycle_changes.proofs.record_laws.local_changes.Goals as goal

pub returns-clause-still : goal.returns-clause-still
returns-clause-still g c = λ d x cycles m k s r. still_right d x cycles m k s r

pub returns-clause-beside : goal.returns-clause-beside
returns-clause-beside g c = λ d x fifo depth m k s r. beside_right d x fifo depth m k s r

pub returns-clause-slack : goal.returns-clause-slack
returns-clause-slack g c = λ d x fifo depth m k s r. slack_right d x fifo depth m k s r

pub returns-clause-enabled : goal.returns-clause-enabled
returns-clause-enabled g c = λ d x m k a e f. enabled d x m k a e f

pub returns-clause-between : goal.returns-clause-between
returns-clause-between g c = λ d x m k a. is_between d x m k a

pub returns-clause-around : goal.returns-clause-around
returns-clause-around g c =
    λ d x cycles changed r m k l. around d x cycles changed (λ m k. IsRight d (with_cycles x cycles) m k) r m k l

pub returns-clause-rise : goal.returns-clause-rise
returns-clause-rise g c = λ d x r m j k p l. rise d x r m j k p l
