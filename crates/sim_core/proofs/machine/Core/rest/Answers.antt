use Rattle.std.proofs.Common.{refl}
use Rattle.sim_core.proofs.{Listing.listed_fewer, Waking.waking_less}
use Rattle.sim_core.proofs.machine.Core.rest.Goals as goal

pub invariant_of-self : goal.invariant_of-self
invariant_of-self c = record {
  core = c.self.invariant.core;
  wired = c.self.invariant.wired;
  unread_are = c.self.invariant.unread_are;
  due_are = record {
    asking_are = c.self.invariant.due_are.asking_are;
    running_are = waking_less c.self.inside.plan _ c.self.inside.due.running c.self.invariant.due_are.running_are c.args.owner
        (rw (← c.self.view_is) at c.requires) c.remove.new.self c.remove.ensures;
  };
  listed_are = listed_fewer c.self.inside.plan _ c.self.inside.due c.self.inside.candidates c.self.invariant.listed_are
      (record c.self.inside.due { running = c.remove.new.self }) refl (λ n l listed. listed);
}
