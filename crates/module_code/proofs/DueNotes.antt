-- What was noted of the due operations of a sound state.
use Rattle.std.proofs.Common.{◌≡◌, refl, ◌∙◌, sym, ap, subst, arith, ◌-◌, ◌*◌, ◌≤◌, ◌++◌, ℕ, List, append-nil, drop, length, map, take}
use Rattle.std.proofs.lemmas.List.{drop-map, drop_all, get_or-map, length-map, take-map, take_all}
use Rattle.std.proofs.lemmas.Simd.{map-map}
use Rattle.std.specs.Prelude.{All, filter_map, slice_range}
use Rattle.flow_design.specs.declared.limits.TheConstants.{LIVE_ITERATIONS, OPERATIONS}
use Rattle.flow_design.specs.declared.design.Module.{Module}
use Rattle.module_code.specs.{Block, Channel, ModuleState, block_of, ages_down, interval, live_count, due as due_of, request_for, requests}
use Rattle.module_code.specs.{DueRange, Slot, due_at_ages, placed, slots_in, IsSlotOf, IsBlockCodeOf, Guarded, BlockCode, Noted, noted_for}
use Rattle.module_code.specs.{listed, notes_of, passing, standing, CanCommit, HasCode, declared.noted.Notes.Notes}
use Rattle.module_code.proofs.{Looking.due_by_phase, Readiness.few_due}

pub noted_count : (m : Module) (s : ModuleState) (noted : List Noted) → noted ≡ notes_of m s → length noted ≡ length (due_of m s)
noted_count m s noted is = ap (λ (ns : List Noted). length ns) is ∙ length-map (due_of m s) (noted_for (block_of m s) s)

pub few_noted : (channels : List Channel) (m : Module) (s : ModuleState) (code : BlockCode) (notes : Notes)
    → CanCommit channels m s code notes → length (listed code notes) ≤ LIVE_ITERATIONS * OPERATIONS
few_noted channels m s code notes can =
    subst (λ (n : ℕ). n ≤ LIVE_ITERATIONS * OPERATIONS) (sym (noted_count m s (listed code notes) can.noted.are))
    (few_due (length channels) m s can.of can.state)

-- ---- the operations that stand at the ages of the live iterations

sliced : (gs : List Guarded) (from to : ℕ)
    → map (λ g. g.slot) (slice_range gs from to) ≡ slice_range (map (λ g. g.slot) gs) from to
sliced gs from to =
    sym (take-map (λ (g : Guarded). g.slot) (to - from) (drop from gs)) ∙ ap (take (to - from)) (sym (drop-map (λ (g : Guarded).
    g.slot) from gs))

unmapped : {X Y : Type 0} (P : Y → Type 0) (f : X → Y) (xs : List X) → All P (map f xs) → All (λ x. P (f x)) xs
unmapped P f xs all k d l = subst P (get_or-map f xs k d (f d) l) (all k (f d) (omega (arith, length-map xs f)))

-- each is in its slot
pub slots_stand : (channels : List Channel) (m : Module) (b : Block) (code : BlockCode) (due : DueRange) (live : ℕ)
    → IsBlockCodeOf channels m b code → All (IsSlotOf b due.oldest live) (slots_in code.schedule due)
    → All (λ (g : Guarded). IsSlotOf b due.oldest live g.slot) (slice_range code.actions due.from due.to)
slots_stand channels m b code due live is all =
    let same : slots_in code.schedule due ≡ map (λ (g : Guarded). g.slot) (slice_range code.actions due.from due.to) =
    sym (sliced code.actions due.from due.to ∙ ap (λ (ts : List Slot). slice_range ts due.from due.to) is.slots) in
    unmapped (IsSlotOf b due.oldest live) (λ (g : Guarded). g.slot) (slice_range code.actions due.from due.to)
    (subst (All (IsSlotOf b due.oldest live)) same all)

-- those that pass are what is due
pub pass_due : (m : Module) (s : ModuleState) (code : BlockCode) (due : DueRange) (live : ℕ) (gs : List Guarded) {channels : List Channel}
    → HasCode channels m s code → gs ≡ code.actions → live ≡ live_count (block_of m s) s.control
    → map (placed due.oldest) (slots_in code.schedule due)
    ≡ due_at_ages (block_of m s) (ages_down (interval (block_of m s)) (s.control.clock - s.control.newest) live)
    → passing (block_of m s) s (map (standing due.oldest) (slice_range gs due.from due.to)) ≡ due_of m s
pass_due m s code due live gs has same count stand =
    let b = block_of m s in
    let own : map (standing due.oldest) (slice_range gs due.from due.to) ≡ map (placed due.oldest) (slots_in code.schedule due) =
    sym (map-map (placed due.oldest) (λ (g : Guarded). g.slot) (slice_range gs due.from due.to))
    ∙ ap (map (placed due.oldest)) (sliced gs due.from due.to
    ∙ ap (λ (ts : List Slot). slice_range ts due.from due.to)
    (ap (map (λ (g : Guarded). g.slot)) same ∙ has.code_is.slots)) in
    ap (passing b s) (own ∙ (stand
    ∙ ap (λ (n : ℕ). due_at_ages b (ages_down (interval b) (s.control.clock - s.control.newest) n)) count)) ∙ sym (due_by_phase m s)

pub requests_are : (channels : List Channel) (m : Module) (s : ModuleState)
    → requests channels m s ≡ filter_map (request_for channels m s) (due_of m s)
unfolding requests
requests_are channels m s = refl

-- a list that was written in place, and has as many items as before
pub refilled : {X : Type 0} (now before : List X) → length now ≡ length before
    → take (length before) (now ++ drop (length now) before) ≡ now
refilled {X} now before same =
    ap (λ (xs : List X). take (length before) (now ++ xs)) (drop_all (length now) before (omega arith))
    ∙ (ap (take (length before)) (append-nil now) ∙ take_all (length before) now (omega arith))
