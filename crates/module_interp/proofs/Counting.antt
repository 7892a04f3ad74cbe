-- How a move changes the operation count.
use Rattle.std.proofs.Common.{◌≡◌, ◌+◌, ◌-◌, ◌≤◌, ◌&&◌, ◌==◌, List, length, refl, ap, arith}
use Rattle.std.proofs.lemmas.Bool.{cond_both}
use Rattle.std.specs.Prelude.{slice_index}
use Rattle.module_interp.specs.{Block, Next, ModuleState, Reply, block_of, interval, due, move, entered, decided, finished, followed}
use Rattle.module_interp.specs.{started, stopped, again_of, is_block_over, counted, ticked_to, gone_on}
use Rattle.flow_design.specs.declared.design.Module.{Module}
use Rattle.flow_design.specs.declared.design.Next.TheVariants.{Goto, Branch, Stop}
use Rattle.module_code.proofs.Moving.{moved_is}

abbrev Up : ModuleState → ModuleState → Type 0
Up s t = (s.count ≤ t.count) × (t.count ≤ s.count + 1)

followed_up : (m : Module) (x : Next) (s : ModuleState) → Up s (followed m x s)
unfolding entered
followed_up m (Goto n) s = (omega arith, omega arith)
followed_up m (Branch r n o) s = (omega arith, omega arith)
followed_up m Stop s = (omega arith, omega arith)

finished_up : (m : Module) (b : Block) (s : ModuleState) → Up s (finished m b s)
unfolding finished
finished_up m b s = cond_both (is_block_over b s.control) _ s (Up s) (λ e. followed_up m b.next s) (λ e. (omega arith, omega arith))

decided_up : (b : Block) (s : ModuleState) → Up s (decided b s)
unfolding decided
decided_up b s =
    cond_both (s.control.looping && (s.control.clock - s.control.newest == interval b)) _ s (Up s)
    (λ e. cond_both (slice_index s.registers (again_of b.kind) == 0) (stopped s) (started b s) (Up s) (λ z. (omega arith, omega arith))
    (λ z. (omega arith, omega arith)))
    (λ e. (omega arith, omega arith))

pub gone_on_up : (m : Module) (s : ModuleState) → (s.count ≤ (gone_on m s).count) × ((gone_on m s).count ≤ s.count + 2)
gone_on_up m s =
    let first = decided_up (block_of m s) s in
    let second = finished_up m (block_of m s) (decided (block_of m s) s) in
    (omega (arith, first.0, second.0), omega (arith, first.1, second.1))

pub move_up : (m : Module) (s : ModuleState) (replies : List Reply)
    → (s.count + length (due m s) ≤ (move m s replies).count) × ((move m s replies).count ≤ s.count + length (due m s) + 2)
move_up m s replies =
    let t = counted m s replies in
    let u = ticked_to m (t.control.clock + 1) t in
    let is : (gone_on m u).count ≡ (move m s replies).count = ap (λ (z : ModuleState). z.count) (moved_is m s t u replies refl refl) in
    let up = gone_on_up m u in
    (omega (arith, up.0), omega (arith, up.1))
