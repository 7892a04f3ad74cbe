use Rattle.flow_text.proofs.NameLemmas.{key_added}
use Rattle.flow_text.proofs.names.Names.add.Goals as goal

pub returns-clause-ok : goal.returns-clause-ok
returns-clause-ok c =
    key_added (λ k. k.now) c.self.inside.names.keys c.insert.new.self.keys c.args.name c.args.self.now c.self.view_is c.requires
    c.in_ok-insert.ensures.keys
