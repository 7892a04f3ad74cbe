-- What driving a module tells its pass.
use Rattle.std.specs.Prelude.{◌≡◌, ℕ}
use Rattle.turn_lock.specs.{PassView}
use Rattle.timing_bridge.specs.{HubEntry}
use Rattle.sim_hub.specs.{Hub, ModulePass, HoldsAfter, HasNoDeskOut, IsOfHub, IsHubDone, WasShort, module_of, module_view}
use Rattle.run_threads.specs.{declared.drive.Answered.Answered, declared.drive.Went.Went, declared.drive.DriveEnd.DriveEnd}
use Rattle.run_threads.specs.declared.drive.Went.TheVariants as went
use Rattle.run_threads.specs.declared.drive.DriveEnd.TheVariants as end

-- what a try to drive a module says follows from what its pass has seen
abbrev pub WentIs : PassView HubEntry → Went → Type 0
WentIs v (went.Ran concern done) = Unit {0}
WentIs v went.Held = Unit {0}
WentIs v went.Over = HoldsAfter v.seen IsHubDone
WentIs v went.Short = HoldsAfter v.seen WasShort

abbrev pub EndIs : PassView HubEntry → DriveEnd → Type 0
EndIs v end.Over = HoldsAfter v.seen IsHubDone
EndIs v end.Short = HoldsAfter v.seen WasShort
EndIs v end.Undriven = Unit {0}

-- the pass is that of module m of this hub, with no desk out
abbrev pub IsHere : Hub → ℕ → ModulePass → Type 0
IsHere hub m pass = IsOfHub hub pass × (module_of pass ≡ m) × HasNoDeskOut m (module_view pass)

-- a module's thread gives back its pass, with no desk out, and why it ended
abbrev pub IsBack : Hub → ℕ → Answered → Type 0
IsBack hub m a = IsHere hub m a.pass × EndIs (module_view a.pass) a.end
