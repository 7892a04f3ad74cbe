use Rattle.std.proofs.Common.{◌≡◌, ◌∙◌, ◌≤◌, ◌++◌, [], ◌∷◌, List, map, get_or, ap, subst, sym, arith}
use Rattle.std.proofs.lemmas.List.{map_push, get_or_default, take_more, take_all}
use Rattle.std.specs.Prelude.{All}
use Rattle.module_code.specs.{Timed, no_operation, operation_at, Slot, Guarded, IsActionOf, IsGuardedOf}
use Rattle.module_code.proofs.Codes.{all_more, wider}
use Rattle.module_code.proofs.code.code_of.Goals as goal

abbrev none : Slot
none = record { rank = 0; op = 0 }

pub loop-slot-preserved : goal.loop-slot-preserved
loop-slot-preserved c =
    let b = c.args.block.now in
    let slots = c.slots-slot-items.result.now in
    let i = c.loop-slot.slot-index in
    let t : Slot = get_or slots i none in
    let a = c.in_ok-action.action in
    let timed = c.index-as_slice-slot.result in
    let g : Guarded = record { slot = t; guard = timed.guard; action = a } in
    let inside = c.slots-slot-items.ensures.inside b c.in_ok-schedule.ensures i none c.loop-slot-test.true in
    let item : timed ≡ operation_at b t.op = c.index-as_slice-slot.is
    ∙ (ap (λ (ts : List Timed). get_or ts t.op timed) c.as_slice.ensures ∙ get_or_default b.ops t.op timed no_operation inside) in
    let is : IsActionOf c.args.channels.now c.args.of.now b a (operation_at b t.op).op =
    subst (λ (x : Timed). IsActionOf c.args.channels.now c.args.of.now b a x.op) item c.in_ok-action.ensures in
    let added : c.push.new.self ≡ c.loop-slot.actions ++ g ∷ [] = c.in_ok-push.ensures.ok in
    let most : c.loop-slot.room ≤ c.max-room.result = omega arith in
    let own : IsGuardedOf c.args.channels.now c.args.of.now b c.max-room.result g =
    record { guard = ap (λ (x : Timed). x.guard) item; action = is; few = omega arith } in
    record {
      slots = ap (map (λ (h : Guarded). h.slot)) added
          ∙ (map_push (λ (h : Guarded). h.slot) c.loop-slot.actions g
          ∙ (ap (λ (ts : List Slot). ts ++ t ∷ []) c.loop-slot.invariant.slots ∙ sym (take_more slots i none c.loop-slot-test.true)));
      each = subst (All (IsGuardedOf c.args.channels.now c.args.of.now b c.max-room.result)) (sym added)
          (all_more (IsGuardedOf c.args.channels.now c.args.of.now b c.max-room.result) c.loop-slot.actions g
          (wider most c.loop-slot.actions c.loop-slot.invariant.each) own);
    }

pub returns : goal.returns
returns c = record {
  schedule = c.in_ok-schedule.ensures;
  slots = c.loop-slot.invariant.slots
      ∙ (take_all c.loop-slot.slot-index c.slots-slot-items.result.now c.loop-slot-test.false ∙ c.slots-slot-items.ensures.slots);
  each = c.loop-slot.invariant.each;
}
