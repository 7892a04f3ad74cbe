use Rattle.std.proofs.Common.{◌∙◌, inl, inr, refl, arith}
use Rattle.sim_core.proofs.beside.ask_after.Goals as goal

pub returns-in-Assigned-clause-room : goal.returns-in-Assigned-clause-room
returns-in-Assigned-clause-room c = c.add-in-Assigned.ensures.room ∙ c.add_masks.ensures.room

pub returns-in-Assigned-clause-others : goal.returns-in-Assigned-clause-others
returns-in-Assigned-clause-others c = λ n other none h.
    none ((c.add-in-Assigned.ensures.has n).1 (inl ((c.add_masks.ensures.has n).1 (inl h))))

pub returns-in-Assigned-clause-own : goal.returns-in-Assigned-clause-own
returns-in-Assigned-clause-own c = λ some none h.
    none ((c.add-in-Assigned.ensures.has c.args.owner).1 (inl ((c.add_masks.ensures.has c.args.owner).1 (inl h))))

pub returns-in-Assigned-clause-acted : goal.returns-in-Assigned-clause-acted
returns-in-Assigned-clause-acted c = λ e low.
    let same = c.add_masks.ensures.room in
    (c.add-in-Assigned.ensures.has c.args.owner).1 (inr (refl, (omega arith)))

pub returns-in-Assigned-clause-beside : goal.returns-in-Assigned-clause-beside
returns-in-Assigned-clause-beside c = λ e n low none h.
    none ((c.add-in-Assigned.ensures.has n).1 (inl ((c.add_masks.ensures.has n).1 (inr (h, low)))))

pub returns-in-Nothing-clause-others : goal.returns-in-Nothing-clause-others
returns-in-Nothing-clause-others c = λ n other none h. none ((c.remove.ensures.has n).1 (h, other))

pub returns-in-Assigned-clause-listed : goal.returns-in-Assigned-clause-listed
returns-in-Assigned-clause-listed c = λ n low none rest. (
  λ h. none ((c.add-in-Assigned.ensures.has n).1 (inl ((c.add_masks.ensures.has n).1 (inl h)))),
  rest,
)

pub returns-in-Nothing-clause-listed : goal.returns-in-Nothing-clause-listed
returns-in-Nothing-clause-listed c = λ n low none rest. (
  λ h. none ((c.remove.ensures.has n).1 (h, λ e. rest ((c.add.ensures.has n).1 (inr (e, low))))),
  λ h. rest ((c.add.ensures.has n).1 (inl h)),
)
