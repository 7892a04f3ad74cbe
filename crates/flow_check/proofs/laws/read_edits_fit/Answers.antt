use Rattle.flow_check.proofs.Reading.{edits_fit, edits_within}
use Rattle.flow_check.proofs.laws.read_edits_fit.Goals as goal

pub returns : goal.returns
returns c = record { fit = edits_fit; within = edits_within }
