use Rattle.std.proofs.Common.{arith, List, [], ◌∷◌, ◌++◌, ◌≡◌, Some, length, slice_get, ap, sym, ◌∙◌, subst, append_assoc, length-append}
use Rattle.run_threads.specs.{module_of, Driver, SlotIs, AreSlots, passes_in}
use Rattle.run_threads.proofs.{Lists.all-snoc, Places.home_at, Places.driver_here}
use Rattle.run_threads.proofs.start.start_all.Goals as goal

-- the pass of the next driver
here : (all ys : List Driver) (s : Driver) (rest : List Driver) → all ≡ ys ++ s ∷ rest → slice_get (passes_in all) (length ys) ≡ Some s.pass
here all ys s rest e = ap (λ (l : List Driver). slice_get (passes_in l) (length ys)) e ∙ driver_here ys s rest

-- the drivers that are left, after one that was taken
left_after : (all ys left : List Driver) (s : Driver) (rest : List Driver) → all ≡ ys ++ left → left ≡ s ∷ rest → all ≡ ys ++ s ∷ rest
left_after all ys left s rest e taken = e ∙ ap (λ (l : List Driver). ys ++ l) taken

pub place_one-requires-clause-own : goal.place_one-requires-clause-own
place_one-requires-clause-own g c κs within = let ys = c.loop-driver.yielded in let s = c.in-Some.driver in
    let rest = c.next.new.self.rest.items in
    let all = left_after c.args.drivers.items ys _ s rest c.loop-driver.invariant.2 c.in-Some.ensures.steps.0 in
    (c.requires.here (length ys) s.pass (here c.args.drivers.items ys s rest all)).0

pub place_one-requires-clause-home : goal.place_one-requires-clause-home
place_one-requires-clause-home g c κs within = let ys = c.loop-driver.yielded in let s = c.in-Some.driver in
    let rest = c.next.new.self.rest.items in
    let all = left_after c.args.drivers.items ys _ s rest c.loop-driver.invariant.2 c.in-Some.ensures.steps.0 in
    home_at c.args.crew.now.hub.now (length ys) s.pass (c.requires.here (length ys) s.pass (here c.args.drivers.items ys s rest all))

pub loop-driver-preserved : goal.loop-driver-preserved
loop-driver-preserved g c =
    let i = c.loop-driver.invariant in
    let ys = c.loop-driver.yielded in
    let s = c.in-Some.driver in
    let rest = c.next.new.self.rest.items in
    let h = c.args.crew.now.hub.now in let ss = c.loop-driver.slots.items in let slot = c.place_one.result in
    let all = left_after c.args.drivers.items ys _ s rest i.2 c.in-Some.ensures.steps.0 in
    let which : module_of s.pass ≡ length ss = (c.requires.here (length ys) s.pass (here c.args.drivers.items ys s rest all)).1 ∙ sym i.0 in
    let e = c.push_reserved.ensures in (
      omega (arith, ap length e.items, length-append ss (slot ∷ []), length-append ys (s ∷ [])),
      subst (AreSlots h) (sym e.items) (all-snoc (SlotIs h) ss slot i.1 (subst (λ n. SlotIs h n slot) which c.place_one.ensures.slot)),
      all ∙ sym (append_assoc ys (s ∷ []) rest),
      i.3 ∙ sym e.capacity,
    )
