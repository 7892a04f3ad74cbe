use Rattle.std.proofs.Common.{ap}
use Rattle.std.specs.Option.{option_copied}
use Rattle.flow_text.proofs.ReadingLaws.{next, stops_here}
use Rattle.flow_text.proofs.reading.read_on.Goals as goal

pub returns-in-Err-clause-err : goal.returns-in-Err-clause-err
returns-in-Err-clause-err c =
    stops_here c.args.progress.now.scale c.in-Err.fail c.args.text.now c.loop-left.progress c.loop-left.number
    (option_copied c.loop-left.left) (option_copied c.first_line.result.1) c.in-Some.rest.now c.first_line.result.0.now
    c.loop-left.invariant (ap option_copied c.in-Some.is) c.first_line.ensures.lines c.in-Err.ensures.err

pub loop-left-preserved : goal.loop-left-preserved
loop-left-preserved c =
    next c.args.progress.now.scale c.args.text.now c.loop-left.progress c.read_line.new.progress c.loop-left.number
    (option_copied c.loop-left.left) (option_copied c.first_line.result.1) c.in-Some.rest.now c.first_line.result.0.now
    c.loop-left.invariant (ap option_copied c.in-Some.is) c.first_line.ensures.lines c.first_line.ensures.shorter c.in-Ok.ensures.ok
