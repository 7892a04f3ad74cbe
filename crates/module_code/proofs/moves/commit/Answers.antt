use Rattle.std.proofs.Common.{◌≡◌, ◌∙◌, ◌-◌, ap, subst, sym, arith, ℕ, ◌+◌}
use Rattle.std.proofs.lemmas.List.Elements.{All-drop, All-take}
use Rattle.std.specs.{Prelude.All, Prelude.List, Prelude.fold, Prelude.filter_map, Prelude.slice_range, List.zip}
use Rattle.module_code.specs.{Channel, Reply, block_of, ModuleState, stored, BlockCode, Guarded, Note, Noted, IsGuardedOf, CanCommit}
use Rattle.module_code.specs.{effects_by, listed, noted_by, declared.noted.Notes.Notes}
use Rattle.flow_design.specs.declared.design.Module.{Module}
use Rattle.lockstep_defs.proofs.Moves.{all_keep}
use Rattle.module_code.proofs.{Moving.counted_is, DueNotes.few_noted}
use Rattle.module_code.proofs.moves.commit.Goals as goal

-- the commits write what was noted, and change neither the control nor the count
pub record Commits (m : Module) (s w : ModuleState) (noted : List Noted) (replies : List Reply) : Type 0 where
  pub written : w ≡ fold (stored m (block_of m s)) s (effects_by (block_of m s) noted replies)
  pub control : w.control ≡ s.control
  pub count : w.count ≡ s.count

commits : (channels : List Channel) (m : Module) (s w : ModuleState) (code : BlockCode) (notes : Notes) (gs : List Guarded) (ns : List Note)
    (replies : List Reply) → CanCommit channels m s code notes → gs ≡ code.actions → ns ≡ notes.items
    → (All (IsGuardedOf channels m (block_of m s) code.room) (slice_range gs notes.from notes.to)
    → w ≡ fold (stored m (block_of m s)) s
    (effects_by (block_of m s) (filter_map noted_by (zip (slice_range gs notes.from notes.to) ns)) replies))
    → Commits m s w (listed code notes) replies
commits channels m s w code notes gs ns replies can actions items done =
    let b = block_of m s in
    let each = IsGuardedOf channels m b code.room in
    let all = subst (λ (hs : List Guarded). All each (slice_range hs notes.from notes.to)) (sym actions)
    (All-take each (notes.to - notes.from) _ (All-drop each notes.from code.actions can.code_is.each)) in
    let written : w ≡ fold (stored m b) s (effects_by b (listed code notes) replies) =
    done all ∙ (ap (λ (hs : List Guarded). fold (stored m b) s
    (effects_by b (filter_map noted_by (zip (slice_range hs notes.from notes.to) ns)) replies)) actions
    ∙ ap (λ (ms : List Note). fold (stored m b) s
    (effects_by b (filter_map noted_by (zip (slice_range code.actions notes.from notes.to) ms)) replies)) items) in
    let both = all_keep m b s (effects_by b (listed code notes) replies) in
    record {
      written = written;
      control = ap (λ (t : ModuleState). t.control) written ∙ both.0;
      count = ap (λ (t : ModuleState). t.count) written ∙ both.1;
    }

pub overflow_add-state : goal.overflow_add-state
overflow_add-state g c =
    let (channels, (m, can)) = c.requires.can in
    let most = few_noted channels m c.args.state.now c.args.code.now c.args.notes.now can in
    let same = (commits channels m c.args.state.now c.commit_all.new.state c.args.code.now c.args.notes.now c.as_slice.result.now
    c.as_slice-2.result.now (g.R.Replies.left c.args.replies.now) can c.as_slice.ensures c.as_slice-2.ensures
    (c.commit_all.ensures channels m (block_of m c.args.state.now) c.args.code.now.room)).count in
    omega (arith, can.few, can.noted.in_code.counted)

pub returns-clause-control : goal.returns-clause-control
returns-clause-control g c =
    let (channels, (m, can)) = c.requires.can in
    (commits channels m c.args.state.now c.commit_all.new.state c.args.code.now c.args.notes.now c.as_slice.result.now
    c.as_slice-2.result.now (g.R.Replies.left c.args.replies.now) can c.as_slice.ensures c.as_slice-2.ensures
    (c.commit_all.ensures channels m (block_of m c.args.state.now) c.args.code.now.room)).control

pub returns-clause-count : goal.returns-clause-count
returns-clause-count g c =
    let (channels, (m, can)) = c.requires.can in
    ap (λ (n : ℕ). n + c.args.notes.now.count) (commits channels m c.args.state.now c.commit_all.new.state c.args.code.now
    c.args.notes.now c.as_slice.result.now
    c.as_slice-2.result.now (g.R.Replies.left c.args.replies.now) can c.as_slice.ensures c.as_slice-2.ensures
    (c.commit_all.ensures channels m (block_of m c.args.state.now) c.args.code.now.room)).count
    ∙ ap (λ (n : ℕ). c.args.state.now.count + n) can.noted.in_code.counted

pub returns-clause-few : goal.returns-clause-few
returns-clause-few g c =
    let (channels, (m, can)) = c.requires.can in
    few_noted channels m c.args.state.now c.args.code.now c.args.notes.now can

pub returns-clause-committed : goal.returns-clause-committed
returns-clause-committed g c channels m can =
    let h = commits channels m c.args.state.now c.commit_all.new.state c.args.code.now c.args.notes.now c.as_slice.result.now
    c.as_slice-2.result.now (g.R.Replies.left c.args.replies.now) can c.as_slice.ensures c.as_slice-2.ensures
    (c.commit_all.ensures channels m (block_of m c.args.state.now) c.args.code.now.room) in
    ap (λ (n : ℕ). record c.commit_all.new.state { count = c.commit_all.new.state.count + n }) can.noted.in_code.counted
    ∙ counted_is m c.args.state.now (g.R.Replies.left c.args.replies.now) c.commit_all.new.state
    (listed c.args.code.now c.args.notes.now) can.noted.are h.written h.count
