use Rattle.std.proofs.Common.{◌∙◌}
use Rattle.flow_text.proofs.NameLemmas.{key_among}
use Rattle.flow_text.proofs.names.Names.has.Goals as goal

pub returns : goal.returns
returns c = c.contains.ensures ∙ key_among (λ k. k.now) c.self.inside.names.keys c.args.name.now c.args.self.now c.self.view_is
