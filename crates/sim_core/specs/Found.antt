-- The replies to a step that is held, from the table and the module's outcomes.
use Rattle.std.specs.Prelude.{ℕ, List, Option}
use Rattle.flow_word.specs.{Step}
use Rattle.flow_design.specs.{Reply}
use Rattle.query_log.specs.{log_at}
use Rattle.engine_view.specs.Held.{Held}
use Rattle.run_ahead.specs.{replies_from, value_now}

-- the replies to a step of module m; none where one of them is not there
abbrev pub replies_now : Held → ℕ → Step → Option (List Reply)
replies_now h m step = replies_from (log_at h.logs m).outcomes (value_now h.channels) step.first_query step.accesses
