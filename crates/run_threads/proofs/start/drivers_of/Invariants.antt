use Rattle.std.proofs.Common.{◌≡◌, ◌++◌}
use Rattle.run_threads.specs.{passes_in}
use Rattle.run_threads.proofs.start.drivers_of.Given as goal

abbrev pub invariant-loop-pass : goal.invariant-loop-pass
invariant-loop-pass l = (passes_in l.drivers.items ≡ l.yielded) × (l.fn.modules.items ≡ l.yielded ++ l.pass-iterator.rest.items)
