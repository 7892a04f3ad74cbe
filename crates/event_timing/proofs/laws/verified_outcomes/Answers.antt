use Rattle.event_timing.proofs.{ActionBound.all_rise, ActionBound.none_assumed, ActionBound.never_found, Verified.verified_happens}
use Rattle.event_timing.proofs.laws.verified_outcomes.Goals as goal

pub returns-clause-opening : goal.returns-clause-opening
returns-clause-opening g c = λ d. none_assumed d

pub returns-clause-kept : goal.returns-clause-kept
returns-clause-kept g c = λ d h i y limit x a v actions z s. let (n, k, w) = all_rise d h i y limit x a v actions z s in w

pub returns-clause-never_differs : goal.returns-clause-never_differs
returns-clause-never_differs g c = λ d x v m k u e. never_found d x v m k e u

pub returns-clause-happens : goal.returns-clause-happens
returns-clause-happens g c = λ d h limit x a m k l v q. verified_happens d h limit x a m k l v q

pub returns-clause-found : goal.returns-clause-found
returns-clause-found g c = λ d h limit x a m k l v s. a.time.first_flags m l v k s.0 s.1
