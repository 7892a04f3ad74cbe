use Rattle.std.proofs.Common.{ap, sym, ◌∙◌}
use Rattle.module_interp.specs.{Path, accesses_at, is_asked, waits}
use Rattle.module_interp.proofs.Sound.{some_accesses, some_wait}
use Rattle.module_interp.proofs.run.ModuleRun.waiting.Goals as goal

pub returns-in-Asked-clause-none : goal.returns-in-Asked-clause-none
returns-in-Asked-clause-none c p i o s =
    let stage = ap (λ (x : Path). x.stage) (sym c.deref.ensures) ∙ c.in-Asked.is in
    some_wait c.as_slice.result.now (accesses_at p i o) (waits c.args.self.now) (ap is_asked stage)
    (c.as_slice.ensures ∙ (ap (λ (x : Path). x.asked) c.deref-in-Asked.ensures ∙ s.accesses stage))
    (some_accesses p i o c.args.self.now s stage)
