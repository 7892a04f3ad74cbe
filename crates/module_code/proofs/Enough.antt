-- What was noted, and the replies, give what the operations write.
use Rattle.std.proofs.Common.{◌≡◌, refl, ◌∙◌, ap, ℕ, List, [], ◌∷◌, ◌++◌, map, drop, cond, get_or}
use Rattle.module_code.specs.{Block, Op, Due, Effect, Reply, operation_at, ModuleState, effects_of, effects, is_fifo_operation, noted_value}
use Rattle.module_code.specs.{noted_address, noted_for, effects_from, effects_by}
use Rattle.flow_design.specs.declared.state.Reply.TheVariants.{Done}
use Rattle.flow_design.specs.declared.expr.Op.TheVariants.{Set, Load, Store, Read, Write, TryRead, TryWrite, Empty, Full}

-- one operation
pub one_noted : (s : ModuleState) (number i : ℕ) (op : Op ℕ) (r : Reply)
    → effects_from (record { op = number; iteration = i; value = noted_value s i op; address = noted_address s i op }) op r
    ≡ effects_of s i op r
one_noted s number i (Set x e) r = refl
one_noted s number i (Load x n e) r = refl
one_noted s number i (Store n e a) r = refl
one_noted s number i (Read f x) r = refl
one_noted s number i (Write f e) r = refl
one_noted s number i (TryRead f x ok) r = refl
one_noted s number i (TryWrite f ok e) r = refl
one_noted s number i (Empty f x) r = refl
one_noted s number i (Full f x) r = refl

pub all_noted : (b : Block) (s : ModuleState) (pending : List Due) (replies : List Reply)
    → effects_by b (map (noted_for b s) pending) replies ≡ effects b s pending replies
all_noted b s [] replies = refl
all_noted b s (d ∷ ds) replies =
    let op = (operation_at b d.op).op in
    let left = cond (is_fifo_operation op) (drop 1 replies) replies in
    ap (λ (es : List Effect). es ++ effects_by b (map (noted_for b s) ds) left) (one_noted s d.op d.iteration op (get_or replies 0 Done))
    ∙ ap (λ (es : List Effect). effects_of s d.iteration op (get_or replies 0 Done) ++ es) (all_noted b s ds left)
