use Rattle.module_interp.proofs.Advancing.{kept_on, stands_on}
use Rattle.module_interp.proofs.run.ModuleRun.come.Goals as goal

pub returns-in_err-come_to_rest-clause-stands : goal.returns-in_err-come_to_rest-clause-stands
returns-in_err-come_to_rest-clause-stands c p i o s =
    stands_on p i o c.args.self.now c.come_to_rest.new.self
    (kept_on _ _ _ c.as_mut.ensures.value c.come_to_rest.ensures.kept) c.come_to_rest.ensures.unasked s

pub returns-clause-stands : goal.returns-clause-stands
returns-clause-stands c p i o s =
    stands_on p i o c.args.self.now c.come_to_rest.new.self
    (kept_on _ _ _ c.as_mut.ensures.value c.come_to_rest.ensures.kept) c.come_to_rest.ensures.unasked s
