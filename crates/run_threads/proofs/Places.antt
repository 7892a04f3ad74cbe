-- The passes of the modules, by their places.
use Rattle.std.proofs.Common.{◌≡◌, ℕ, List, [], ◌∷◌, ◌++◌, length, Some, slice_get, refl, sym, subst, arith}
use Rattle.run_threads.specs.{Plan, Hub, ModulePass, PerfPass, HasNoDeskOut, hub_id, module_of, module_view, perf_view, AreNew, AreOfHub}
use Rattle.run_threads.specs.{AllHome, HasEachModule, Driver, IsHere, AreHere, passes_in}
use Rattle.sim_hub.proofs.{Lists.there, Openings.new_home}

pub home_at : (h : Hub) (k : ℕ) (p : ModulePass) → IsHere h k p → HasNoDeskOut (module_of p) (module_view p)
home_at h k p is = subst (λ n. HasNoDeskOut n (module_view p)) (sym is.1) is.2

-- the passes of a hub that was just opened
pub new_here : (h : Hub) (p : Plan) (passes : List ModulePass) → AreNew (hub_id h) p passes → AreHere h passes
new_here h p passes new k pass at =
    let (which, own, seen) = new k pass at in
    (own, which, subst (λ n. HasNoDeskOut n (module_view pass)) which (new_home (hub_id h) p passes new k pass at))

-- what holds of passes in order holds of them in any order
pub here_own : (h : Hub) (passes : List ModulePass) → AreHere h passes → AreOfHub (hub_id h) passes
here_own h passes here k p at = (here k p at).0

pub here_home : (h : Hub) (passes : List ModulePass) → AreHere h passes → AllHome passes
here_home h passes here k p at = home_at h k p (here k p at)

pub here_each : (h : Hub) (perf : PerfPass) (passes : List ModulePass) → (perf_view perf).made ≡ length passes → AreHere h passes
    → HasEachModule perf passes
here_each h perf passes made here m inside =
    let (p, at) = there passes m (omega arith) in
    (m, p, at, (here m p at).1)

-- the pass of the driver after these
pub driver_here : (ys : List Driver) (s : Driver) (rest : List Driver) → slice_get (passes_in (ys ++ s ∷ rest)) (length ys) ≡ Some s.pass
driver_here [] s rest = refl
driver_here (y ∷ ys) s rest = driver_here ys s rest
