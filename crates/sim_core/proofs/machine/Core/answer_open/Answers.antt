use Rattle.std.proofs.Common.{◌<◌, ℕ, [], refl, length, arith}
use Rattle.std.specs.Prelude.{slice_index_or}
use Rattle.sim_core.specs.{Has, HasMask, held_in, Lacks, lent_of}
use Rattle.sim_core.proofs.{Asking.asking_least, Asking.still_room, Listing.listed_least, Waking.waking_least}
use Rattle.sim_core.proofs.Turning as turning
use Rattle.sim_core.proofs.machine.Core.answer_open.Goals as goal

pub answer_first-requires-clause-core : goal.answer_first-requires-clause-core
answer_first-requires-clause-core c = turning.some_core c.self.invariant.core

pub answer_first-requires-clause-unsure : goal.answer_first-requires-clause-unsure
answer_first-requires-clause-unsure c =
    let k = c.self.invariant.core in
    turning.open_unsure k (rw (← c.self.view_is) at c.requires)

pub beside-beside-requires : goal.beside-beside-requires
beside-beside-requires c =
    let k = c.self.invariant.core in
    let u = (turning.open_unsure k (rw (← c.self.view_is) at c.requires)).inside in
    let lanes = k.sound.lanes in
    let count = c.self.invariant.wired.beside_are.count in
    omega arith

pub invariant_of-self : goal.invariant_of-self
invariant_of-self c =
    let k = c.self.invariant.core in
    let s = c.self.inside.engine in
    let may = rw (← c.self.view_is) at c.requires in
    let t = c.answer_first.new.self in
    let lent = lent_of c.self.inside.runs.items in
    let inside : c.args.owner < length c.self.inside.plan.design.modules =
    let u = (turning.open_unsure k may).inside in let lanes = k.sound.lanes in omega arith in
    let answered = turning.open_answered k may t c.answer_first.result lent c.answer_first.ensures.answered in
    let asks = c.self.invariant.due_are.asking_are.room in
    let own : Has c.ask_after.new.asking c.args.owner = c.ask_after.ensures.acted refl (omega arith) in
    let spread : (n : ℕ) → n < length c.self.inside.plan.design.modules → Lacks c.ask_after.new.asking n
    → HasMask (slice_index_or c.self.inside.wiring.hints c.args.owner []) n → ⊥ =
    λ n l. (rw c.beside-beside.ensures at c.ask_after.ensures.beside) refl n (omega arith) in
    record {
      core = turning.core_answered k may t c.answer_first.result c.answer_first.ensures.answered c.answer_first.ensures.room
          c.answer_first.ensures.kinds;
      wired = c.self.invariant.wired;
      unread_are = turning.unread_answered k may t c.answer_first.result c.self.inside.unread c.answer_first.ensures.answered
          c.self.invariant.unread_are;
      due_are = record {
        asking_are =
            let before = c.self.invariant.due_are.asking_are.room in
            asking_least (record { plan = c.self.inside.plan; held = held_in s; lent = lent })
            (record { plan = c.self.inside.plan; held = held_in t; lent = lent }) k.fits c.self.inside.wiring.hints
            c.self.invariant.wired.beside_are c.args.owner inside c.ask_after.new.asking
            (still_room c.self.inside.plan c.self.inside.due.asking c.ask_after.new.asking c.ask_after.ensures.room before) own
            spread c.args.cycle may c.answer_first.result answered;
        running_are =
            waking_least (record { plan = c.self.inside.plan; held = held_in s; lent = lent })
            (record { plan = c.self.inside.plan; held = held_in t; lent = lent }) c.self.inside.due.running
            c.self.invariant.due_are.running_are c.self.inside.wiring.hints c.self.invariant.wired.beside_are c.args.owner inside
            c.spread.new.set c.answer_first.result answered (rw c.beside-beside.ensures at c.spread.ensures);
      };
      listed_are =
          let listed = c.self.invariant.listed_are.room in
          listed_least (record { plan = c.self.inside.plan; held = held_in s; lent = lent })
          (record { plan = c.self.inside.plan; held = held_in t; lent = lent }) c.self.inside.due c.self.inside.candidates
          c.self.invariant.listed_are c.self.inside.wiring.hints c.self.invariant.wired.beside_are c.args.owner inside
          (record { asking = c.ask_after.new.asking; running = c.spread.new.set; unlisted = c.ask_after.new.unlisted })
          c.ask_after.ensures.unlisted_room (λ n l (none, rest). c.ask_after.ensures.listed n (omega arith) none rest)
          c.answer_first.result answered own spread;
    }

pub returns-clause-done : goal.returns-clause-done
returns-clause-done c =
    rw (← c.self.view_is) (turning.open_answered c.self.invariant.core (rw (← c.self.view_is) at c.requires) c.answer_first.new.self
    c.answer_first.result (lent_of c.self.inside.runs.items) c.answer_first.ensures.answered)
