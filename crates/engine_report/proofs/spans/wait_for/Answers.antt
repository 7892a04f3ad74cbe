use Rattle.std.proofs.Common.{rules}
use Rattle.engine_report.proofs.Waiting.{both_ok, passed_blocking}
use Rattle.engine_report.proofs.spans.wait_for.Goals as goal

pub returns : goal.returns
returns c = both_ok c.extend.result
    (λ s b. passed_blocking c.args.engine.now.graph.lanes c.args.engine.now.fifos.channels c.args.access.now c.args.until c.args.spans.now
    c.extend.new.spans c.possible_from-from.result c.side.result c.possible_from-from.ensures c.side.ensures (search rules) s b)
    c.extend.ensures.spans c.extend.ensures.reached
