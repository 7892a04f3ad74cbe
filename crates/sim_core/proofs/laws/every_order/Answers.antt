use Rattle.sim_core.proofs.laws.every_order.Goals as goal

pub returns : goal.returns
returns c = record {
  agrees = λ p f actions x all. c.every_order_agrees.ensures p f p.cycles actions x all;
  reports = c.every_report.ensures.reached;
  few = λ p f actions x all. c.few_actions.ensures p f p.cycles actions x all;
}
