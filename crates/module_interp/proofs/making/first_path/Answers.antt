use Rattle.std.proofs.Common.{refl}
use Rattle.module_interp.proofs.Opening.{opened_leads, module_is, blocks_keep}
use Rattle.module_interp.proofs.making.first_path.Goals as goal

pub codes_of-requires : goal.codes_of-requires
codes_of-requires c =
    let p = c.args.plan.now in
    let of =
    module_is p c.args.number c.modules.result.now c.index-modules-number.result c.in_ok-of.of c.requires c.modules.ensures
    c.index-modules-number.is c.in_ok-of.ensures in
    blocks_keep p c.fits.ensures c.args.number c.requires c.in_ok-of.of of

pub returns-clause-leads : goal.returns-clause-leads
returns-clause-leads c =
    let p = c.args.plan.now in
    let of =
    module_is p c.args.number c.modules.result.now c.index-modules-number.result c.in_ok-of.of c.requires c.modules.ensures
    c.index-modules-number.is c.in_ok-of.ensures in
    rw c.ops.ensures (opened_leads p c.fits.ensures c.args.number c.requires _ of refl (rw c.channels.ensures at c.in_ok-codes.ensures)
    c.in_ok-state.ensures.state refl refl)
