use Rattle.flow_gen.proofs.Reading.{stands}
use Rattle.flow_gen.proofs.laws.generated_texts_are_read.Goals as goal

pub returns : goal.returns
returns c = stands
