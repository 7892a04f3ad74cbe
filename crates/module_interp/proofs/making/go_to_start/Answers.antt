use Rattle.std.proofs.Common.{refl}
use Rattle.module_interp.proofs.Opening.{opened_leads}
use Rattle.module_interp.proofs.making.go_to_start.Goals as goal

pub returns-clause-leads : goal.returns-clause-leads
returns-clause-leads c p i h =
    opened_leads p h.fits i h.owner _ h.of h.limit h.codes c.in_ok-path.ensures.state refl refl
