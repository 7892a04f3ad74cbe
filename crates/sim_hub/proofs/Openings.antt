-- The passes of a hub that was just opened.
use Rattle.std.proofs.Common.{refl, sym, ◌∙◌, List, [], length}
use Rattle.sim_hub.specs.{Plan, design, opening_turned, ModulePass, module_of, AreNew, AllHome}
use Rattle.turn_lock.specs.Passes.{TableId}
use Rattle.sim_hub.proofs.Lists.{none_replicated}

-- no desk is out
pub new_home : (id : TableId) (p : Plan) (passes : List ModulePass) → AreNew id p passes → AllHome passes
new_home id p passes new k pass at = (
  p,
  opening_turned (design p),
  record { turns = []; entries = (new k pass at).2; standing = refl },
  λ lent. let out = sym (none_replicated (length p.design.modules) (module_of pass)) ∙ lent in absurd (cc),
)
