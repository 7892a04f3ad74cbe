use Rattle.cycle_changes.proofs.{Final.right_final, Onward.final_record, Recording.right_agrees}
use Rattle.cycle_changes.proofs.record_laws.right_records.Goals as goal

pub returns-clause-agrees : goal.returns-clause-agrees
returns-clause-agrees g c = λ d h i y limit x r. right_agrees d h i y limit x r

pub returns-clause-is_final : goal.returns-clause-is_final
returns-clause-is_final g c = λ d limit x r. right_final d limit x r

pub returns-clause-converse : goal.returns-clause-converse
returns-clause-converse g c = λ d h i y limit x a f. final_record d h i y limit x a f
