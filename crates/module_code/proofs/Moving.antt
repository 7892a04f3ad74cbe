-- The parts of a move, put together.
use Rattle.std.proofs.Common.{◌≡◌, ◌∙◌, refl, ap, ℕ, ◌+◌, ◌≤◌, ◌-◌, ◌==◌, List, false, ◌&&◌, length, arith, sym, subst, cond}
use Rattle.std.proofs.{lemmas.List.length-map, lemmas.Bool.cond_both, lemmas.Bool.ne_eqb, lemmas.Bool.and_right}
use Rattle.std.specs.{Prelude.slice_index, List.fold}
use Rattle.flow_design.specs.declared.design.Module.{Module}
use Rattle.module_code.specs.{Block, ModuleState, Reply, block_at, block_of, interval, due, effects, stored, committed, ticked, decided}
use Rattle.module_code.specs.{finished, again_of, started, stopped, move, Noted, noted_for, effects_by, notes_of, counted, ticked_to}
use Rattle.module_code.specs.{gone_on}
use Rattle.lockstep_defs.proofs.Moves.{same_block, rest_of_move}
use Rattle.module_code.proofs.Enough.{all_noted}

-- the commits by what was noted of the due operations
pub counted_is : (m : Module) (s : ModuleState) (replies : List Reply) (w : ModuleState) (noted : List Noted) → noted ≡ notes_of m s
    → w ≡ fold (stored m (block_of m s)) s (effects_by (block_of m s) noted replies) → w.count ≡ s.count
    → record w { count = w.count + length noted } ≡ counted m s replies
counted_is m s replies w noted listed written kept =
    let b = block_of m s in
    let effects_are : effects_by b noted replies ≡ effects b s (due m s) replies =
    ap (λ (ns : List Noted). effects_by b ns replies) listed ∙ all_noted b s (due m s) replies in
    let commits : w ≡ committed m s replies = written ∙ ap (fold (stored m b) s) effects_are in
    let number : w.count + length noted ≡ s.count + length (due m s) = ap (λ (n : ℕ). n + length noted) kept
    ∙ ap (λ (n : ℕ). s.count + n) (ap (λ (ns : List Noted). length ns) listed ∙ length-map (due m s) (noted_for b s)) in
    ap (λ (n : ℕ). record w { count = n }) number ∙ ap (λ (v : ModuleState). record v { count = s.count + length (due m s) }) commits

-- the clock and the control make up the rest of a move
pub moved_is : (m : Module) (s t u : ModuleState) (replies : List Reply) → t ≡ counted m s replies → u ≡ ticked_to m (t.control.clock + 1) t
    → gone_on m u ≡ move m s replies
unfolding move ticked
moved_is m s t u replies commits ticks =
    ap (gone_on m) ticks ∙ (ap (λ (v : ModuleState). rest_of_move m (block_of m v) v) commits
    ∙ ap (λ (b : Block). rest_of_move m b (counted m s replies)) (same_block m s replies))

-- where nothing is to be decided
not_again : (b : Block) (s : ModuleState) → (s.control.looping && (s.control.clock - s.control.newest == interval b)) ≡ false
    → decided b s ≡ s
unfolding decided
not_again b s none = rw none refl

decided_is : (b : Block) (s : ModuleState) → decided b s
    ≡ cond (s.control.looping && (s.control.clock - s.control.newest == interval b))
    (cond (slice_index s.registers (again_of b.kind) == 0) (stopped s) (started b s)) s
unfolding decided
decided_is b s = refl

-- a decision that was made is not made again
pub decided_once : (b : Block) (s : ModuleState) → 1 ≤ interval b → decided b (decided b s) ≡ decided b s
decided_once b s some =
    subst (λ (t : ModuleState). decided b t ≡ t) (sym (decided_is b s))
    (cond_both (s.control.looping && (s.control.clock - s.control.newest == interval b)) _ s (λ (t : ModuleState). decided b t ≡ t)
    (λ e. cond_both (slice_index s.registers (again_of b.kind) == 0) (stopped s) (started b s) (λ (t : ModuleState). decided b t ≡ t)
    (λ z. not_again b (stopped s) refl)
    (λ z. not_again b (started b s)
    (and_right s.control.looping _ (ne_eqb (s.control.clock - s.control.clock) (interval b) (λ same. omega arith)))))
    (λ e. not_again b s e))

kept_block : (b : Block) (s : ModuleState) → (decided b s).control.block ≡ s.control.block
kept_block b s =
    subst (λ (t : ModuleState). t.control.block ≡ s.control.block) (sym (decided_is b s))
    (cond_both (s.control.looping && (s.control.clock - s.control.newest == interval b)) _ s
    (λ (t : ModuleState). t.control.block ≡ s.control.block)
    (λ e. cond_both (slice_index s.registers (again_of b.kind) == 0) (stopped s) (started b s)
    (λ (t : ModuleState). t.control.block ≡ s.control.block) (λ z. refl) (λ z. refl))
    (λ e. refl))

-- where the decision was made and the block didn't end yet, what is left to do is the same
pub gone_on_again : (m : Module) (s t : ModuleState) → 1 ≤ interval (block_of m s) → t ≡ decided (block_of m s) s
    → gone_on m t ≡ gone_on m s
gone_on_again m s t some is =
    let same : block_of m t ≡ block_of m s = ap (block_of m) is ∙ ap (block_at m) (kept_block (block_of m s) s) in
    ap (λ (b : Block). finished m b (decided b t)) same
    ∙ ap (finished m (block_of m s)) (ap (decided (block_of m s)) is ∙ decided_once (block_of m s) s some)
