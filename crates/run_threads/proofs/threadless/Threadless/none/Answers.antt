use Rattle.run_threads.proofs.Named.{none_named}
use Rattle.run_threads.proofs.threadless.Threadless.none.Goals as goal

pub returns : goal.returns
returns c = λ m. none_named 2048 m
