use Rattle.retime.proofs.After.{agreed_after, outcomes_after}
use Rattle.retime.proofs.laws.retimings_agree.Goals as goal

pub returns : goal.returns
returns c = record {
  agreed = λ d y z limit old new guard edit t e. agreed_after d y z limit old new guard edit t e;
  outcomes = λ d y z limit old new guard edit t e m l. outcomes_after d y z limit old new guard edit t e m l;
}
