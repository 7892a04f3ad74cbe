use Rattle.std.proofs.Common.{sym, subst}
use Rattle.module_interp.specs.{module_at, done_in, IsPathOf}
use Rattle.module_interp.proofs.{Opening.first_stands, Tallies.same_ports}
use Rattle.module_interp.proofs.run.ModuleRun.again.Goals as goal

pub returns-clause-stands : goal.returns-clause-stands
returns-clause-stands c p i o s =
    first_stands p i _
    (c.in_ok-go_to_start.ensures.leads p i (subst (IsPathOf p i) (sym c.as_mut.ensures.value) s.leads.path))
    c.in_ok-go_to_start.ensures.begun
    c.clear.ensures.tally
    (same_ports (module_at p i) c.args.self.tally c.clear.new.self c.clear.ensures.popped c.clear.ensures.pushed s.ports)

pub clear-requires : goal.clear-requires
clear-requires c = let (p, (i, (o, s))) = c.requires.stands in record { tally = (done_in o.steps, s.tally) }
