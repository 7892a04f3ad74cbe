use Rattle.std.proofs.Common.{◌≡◌, ◌∙◌, refl, ap, sym, arith, ℕ, ◌+◌, ◌-◌, ◌<◌, ◌++◌, [], ◌∷◌, List, map, take, length, length-append, cond}
use Rattle.std.proofs.Common.{Bool, Some, None}
use Rattle.std.proofs.{lemmas.List.take_all, lemmas.List.length-set, lemmas.List.Elements.filter_map-append}
use Rattle.std.specs.{Int.from_bool, List.filter_map}
use Rattle.module_code.specs.{Due, Request, block_of, operation_at, temps_of, passes, request_for, IsSlotOf, Guarded, IsGuardedOf}
use Rattle.module_code.specs.{noted_for, passing, standing}
use Rattle.module_code.proofs.Asking.{asked_once, action_at}
use Rattle.module_code.proofs.Looking.{all_noted, at_place, note_more, one_counted, passing_more, passing_next}
use Rattle.module_code.proofs.noting.note_all.Goals as goal

pub note_one-requires-clause-action : goal.note_one-requires-clause-action
note_one-requires-clause-action t c =
    let g = c.index-actions-at.result in
    let (channels, (of, code)) = c.requires.code in
    let own = at_place (λ (h : Guarded). IsSlotOf (block_of c.args.on.now.of.now c.args.on.now.state.now) c.args.oldest (length
    c.args.on.now.state.now.temps) h.slot)
    c.args.actions.now c.index-actions-at.is c.loop-at-test.true c.requires.slots in
    action_at channels c.args.on.now.of.now c.args.on.now.state.now _ (g.slot.rank - c.args.oldest) g of c.requires.sound
    (at_place (IsGuardedOf channels c.args.on.now.of.now (block_of c.args.on.now.of.now c.args.on.now.state.now)
    (length c.args.scratch.now)) c.args.actions.now c.index-actions-at.is c.loop-at-test.true code)
    (record { iteration = omega (arith, own.from, own.to); op = own.op })

pub loop-at-preserved : goal.loop-at-preserved
loop-at-preserved t c =
    let m = c.args.on.now.of.now in
    let s = c.args.on.now.state.now in
    let b = block_of m s in
    let i = c.loop-at.at in
    let gs = c.args.actions.now in
    let g = c.index-actions-at.result in
    let place : ℕ = g.slot.rank - c.args.oldest in
    let due : Due = record { iteration = place; op = g.slot.op } in
    let p = c.in_ok-passes.passes in
    let h = c.in_ok-passes.ensures in
    let (channels, (of, code)) = c.requires.code in
    let front : List Due = passing b s (map (standing c.args.oldest) (take i gs)) in
    let one : List Due = cond p (due ∷ []) [] in
    let guard : g.guard ≡ (operation_at b g.slot.op).guard =
    (at_place (IsGuardedOf channels m b (length c.args.scratch.now)) gs c.index-actions-at.is c.loop-at-test.true code).guard in
    let same : p ≡ passes s.registers (temps_of s place) g.guard = rw c.temps_after-temps.ensures at h.due in
    let test : p ≡ passes s.registers (temps_of s place) (operation_at b g.slot.op).guard =
    same ∙ ap (passes s.registers (temps_of s place)) guard in
    let next : passing b s (map (standing c.args.oldest) (take (i + 1) gs)) ≡ front ++ one =
    passing_next b s c.args.oldest i g g gs p c.loop-at-test.true c.index-actions-at.is test in
    let there : i < length c.loop-at.items = omega (arith, c.requires.places, c.loop-at.invariant.places, c.loop-at-test.true) in
    record {
      noted = note_more b s c.args.oldest i gs c.loop-at.items _ g g c.note_one.new.note refl c.loop-at-test.true there
          c.index-actions-at.is
          (h.noted ∙ ap (λ (q : Bool). cond q (Some (noted_for b s due)) None) test) c.loop-at.invariant.noted;
      places = length-set c.loop-at.items i c.note_one.new.note ∙ c.loop-at.invariant.places;
      count = ap (λ (n : ℕ). n + from_bool p) c.loop-at.invariant.count
          ∙ (ap (λ (n : ℕ). length front + n) (sym (one_counted due p).0)
          ∙ (sym (length-append front one) ∙ ap (λ (ds : List Due). length ds) (sym next)));
      few = omega (arith, (one_counted due p).1, c.loop-at.invariant.few);
      asked = λ others room is.
          let request = request_for others m s in
          let requests = t.A.Asked.requests in
          passing_more (filter_map request) (λ xs ys. filter_map-append request xs ys) front _ one (requests c.args.asked.now)
          (requests c.loop-at.asked) (requests c.note_one.new.asked) next
          (h.asked ∙ ap (λ (rs : List Request). requests c.loop-at.asked ++ rs) (asked_once others m s room place g (at_place (IsGuardedOf
          others m b room) gs
          c.index-actions-at.is c.loop-at-test.true is) p))
          (c.loop-at.invariant.asked others room is);
      temps = c.temps_after-temps.ensures;
      room = h.room ∙ c.loop-at.invariant.room;
    }

pub returns-clause-noted : goal.returns-clause-noted
returns-clause-noted t c =
    all_noted (block_of c.args.on.now.of.now c.args.on.now.state.now) c.args.on.now.state.now c.args.oldest c.loop-at.at
    c.args.actions.now c.loop-at.items c.loop-at.invariant.noted c.loop-at-test.false
    (omega (arith, c.requires.places, c.loop-at.invariant.places))

pub returns-clause-asked : goal.returns-clause-asked
returns-clause-asked t c channels room is =
    c.loop-at.invariant.asked channels room is
    ∙ ap (λ (gs : List Guarded). t.A.Asked.requests c.args.asked.now
    ++ filter_map (request_for channels c.args.on.now.of.now c.args.on.now.state.now)
    (passing (block_of c.args.on.now.of.now c.args.on.now.state.now) c.args.on.now.state.now (map (standing c.args.oldest) gs)))
    (take_all c.loop-at.at c.args.actions.now c.loop-at-test.false)
