-- What is prepared of an action before the replies.
use Rattle.std.specs.Prelude.{ℕ, Option, Some, None}
use Rattle.flow_design.specs.{Request}
use Rattle.module_code.specs.declared.running.Prepared.{Prepared}
use Rattle.module_code.specs.declared.running.Prepared.TheVariants.{Writes, Asks}

-- the value that a prepared action writes, where no reply decides it; else 0
abbrev pub written_value : Prepared → ℕ
written_value (Writes value address) = value
written_value (Asks request) = 0

-- the address of a prepared `store`, else 0
abbrev pub written_address : Prepared → ℕ
written_address (Writes value address) = address
written_address (Asks request) = 0

-- the request of a prepared action, if it has one
abbrev pub request_in : Prepared → Option Request
request_in (Writes value address) = None
request_in (Asks request) = Some request
