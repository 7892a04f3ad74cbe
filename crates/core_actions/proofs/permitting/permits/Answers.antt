use Rattle.core_actions.proofs.Permissions as permissions
use Rattle.core_actions.proofs.permitting.permits.Goals as goal

pub returns-clause-permitted : goal.returns-clause-permitted
returns-clause-permitted c =
    permissions.ok_permitted c.args.core.now c.agrees.ensures.fits c.agrees.ensures.sound c.agrees.ensures.agreed
    c.args.action c.requires c.try_conditions.result c.try_conditions.ensures

pub returns-clause-refused : goal.returns-clause-refused
returns-clause-refused c =
    permissions.err_refused c.args.core.now c.agrees.ensures.fits c.agrees.ensures.sound c.agrees.ensures.agreed
    c.args.action c.requires c.try_conditions.result c.try_conditions.ensures
