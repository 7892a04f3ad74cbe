-- What a module asks of a channel, as an access.
use Rattle.flow_word.specs.{Access}
use Rattle.flow_design.specs.{Request}

-- the request that an access makes: the access without its ordinal
abbrev pub request_from : Access → Request
request_from a = record { kind = a.kind; channel = a.channel; value = a.value }
