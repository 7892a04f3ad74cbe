use Rattle.std.proofs.Common.{◌≡◌}
use Rattle.run_threads.specs.{HasNoDeskOut, IsOfHub, module_of, module_view}
use Rattle.run_threads.proofs.drive.drive.Given as goal

abbrev pub invariant-loop : goal.invariant-loop
invariant-loop g l = IsOfHub l.hub l.pass × (module_of l.pass ≡ l.which) × HasNoDeskOut l.which (module_view l.pass)
