-- What the due operations write, one operation after another.
use Rattle.std.proofs.Common.{◌≡◌, refl, sym, ◌∙◌, ap, ℕ, Bool, true, false, cond, List, ◌∷◌, ◌++◌, drop, get_or}
use Rattle.std.proofs.{lemmas.Bool.true≢false, lemmas.List.Sums.fold-append}
use Rattle.std.specs.{Prelude.fold, List.cons_option}
use Rattle.module_code.specs.{Block, Channel, ModuleState, Effect, Reply, operation_at, stored, is_fifo_operation, OpCode, Guarded, Note}
use Rattle.module_code.specs.{Noted, IsGuardedOf, IsActionOf, carried_out, takes_reply, effects_from, effects_by, due_by, noted_by}
use Rattle.module_code.specs.declared.action.OpCode.TheVariants.{Set, Load, Store, Read, Write, TryRead, TryWrite, Empty, Full}
use Rattle.flow_design.specs.{declared.design.Module.Module, declared.state.Reply.TheVariants.Done}

-- an action that takes no reply does the same on each
pub no_reply : (c : OpCode) (s : ModuleState) (n : Noted) (r q : Reply) → takes_reply c ≡ false
    → carried_out s n r c ≡ carried_out s n q c
no_reply (Set t o) s n r q none = refl
no_reply (Load t m o) s n r q none = refl
no_reply (Store m mask o a) s n r q none = refl
no_reply (Read f t) s n r q none = absurd (true≢false none)
no_reply (Write f mask o) s n r q none = refl
no_reply (TryRead f t ok) s n r q none = absurd (true≢false none)
no_reply (TryWrite f mask ok o) s n r q none = absurd (true≢false none)
no_reply (Empty f t) s n r q none = absurd (true≢false none)
no_reply (Full f t) s n r q none = absurd (true≢false none)

-- one operation more was written, from its note and the next reply
pub writing_more : (channels : List Channel) (m : Module) (b : Block) (n : Noted) (c : OpCode) (replies left : List Reply)
    (before now : ModuleState) → IsActionOf channels m b c (operation_at b n.op).op
    → now ≡ carried_out before n (get_or replies 0 Done) c → left ≡ cond (takes_reply c) (drop 1 replies) replies
    → (rest : List Noted) → fold (stored m b) now (effects_by b rest left) ≡ fold (stored m b) before (effects_by b (n ∷ rest) replies)
writing_more channels m b n c replies left before now action written next rest =
    let op = (operation_at b n.op).op in
    let reply = get_or replies 0 Done in
    let others : cond (is_fifo_operation op) (drop 1 replies) replies ≡ left =
    ap (λ (t : Bool). cond t (drop 1 replies) replies) (sym action.replies) ∙ sym next in
    let step : effects_by b (n ∷ rest) replies ≡ effects_from n op reply ++ effects_by b rest left =
    ap (λ (rs : List Reply). effects_from n op reply ++ effects_by b rest rs) others in
    ap (λ (s : ModuleState). fold (stored m b) s (effects_by b rest left)) (written ∙ action.written before n reply)
    ∙ sym (ap (λ (es : List Effect). fold (stored m b) before es) step
    ∙ fold-append (stored m b) before (effects_from n op reply) (effects_by b rest left))

-- it was written if it is due
pub written_if : (channels : List Channel) (m : Module) (b : Block) (room : ℕ) (g : Guarded) (note : Note) (replies left : List Reply)
    (before now : ModuleState) → IsGuardedOf channels m b room g → (due : Bool) → note.passes ≡ due
    → now ≡ cond due (carried_out before (due_by g note) (get_or replies 0 Done) g.action) before
    → left ≡ cond due (cond (takes_reply g.action) (drop 1 replies) replies) replies
    → (rest : List Noted) → fold (stored m b) now (effects_by b rest left)
    ≡ fold (stored m b) before (effects_by b (cons_option (noted_by (g, note)) rest) replies)
written_if channels m b room g note replies left before now is true e written next rest =
    rw e (writing_more channels m b (due_by g note) g.action replies left before now is.action written next rest)
written_if channels m b room g note replies left before now is false e written next rest =
    rw (e, written, next) refl
