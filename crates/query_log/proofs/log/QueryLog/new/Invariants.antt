use Rattle.std.proofs.Common.{◌≡◌, replicate}
use Rattle.query_log.specs.{no_log, logs_of}
use Rattle.query_log.proofs.log.QueryLog.new.Given as goal

-- so many logs without an outcome were made
abbrev pub invariant-loop : goal.invariant-loop
invariant-loop l = logs_of l.logs.items ≡ replicate l.counter no_log
