use Rattle.std.proofs.Common.{◌≡◌, ◌∙◌, ◌-◌, ◌*◌, ◌++◌, ◌<◌, ◌≤◌, ap, sym, subst, arith, List, ℕ, map, length, take, drop}
use Rattle.std.proofs.{lemmas.List.length-map, lemmas.List.Elements.All-drop, lemmas.List.Elements.All-take}
use Rattle.std.specs.{Prelude.All, Prelude.filter_map, Prelude.slice_range, List.zip}
use Rattle.flow_design.specs.declared.design.Module.{Module}
use Rattle.flow_design.specs.declared.limits.TheConstants.{LIVE_ITERATIONS, OPERATIONS}
use Rattle.module_code.specs.{ModuleState, Due, Request, block_of, due, request_for, Slot, slots_in, IsSlotOf, BlockCode, Guarded, Note}
use Rattle.module_code.specs.{Noted, IsGuardedOf, noted_by, noted_for, notes_of}
use Rattle.module_code.proofs.{Codes.wider, Ages.oldest_age, Readiness.few_are_live, Readiness.few_due}
use Rattle.module_code.proofs.DueNotes.{pass_due, refilled, requests_are, slots_stand}
use Rattle.module_code.proofs.noting.note.Goals as goal

pub due-due-requires : goal.due-due-requires
due-due-requires g c =
    let m = c.args.of.now in
    let s = c.args.state.now in
    let b = block_of m s in
    let sound = c.requires.sound in
    let young : s.control.clock - s.control.newest < b.len =
    omega (arith, sound.state.control.has_started, sound.state.young sound.running) in
    (b, (c.requires.code.1.code_is.schedule, oldest_age b s.control _ young (c.len.ensures ∙ sound.state.places.temps)))

pub note_all-requires-clause-few : goal.note_all-requires-clause-few
note_all-requires-clause-few g c =
    let few = few_are_live (length c.requires.code.0) c.args.of.now c.args.state.now c.requires.code.1.of c.requires.sound in
    omega (arith, few, c.requires.sound.state.places.temps)

pub note_all-requires-clause-code : goal.note_all-requires-clause-code
note_all-requires-clause-code g c =
    let (channels, has) = c.requires.code in
    let due = c.due-due.result in
    let is = IsGuardedOf channels c.args.of.now (block_of c.args.of.now c.args.state.now) (length c.as_mut_slice-room.result.now) in
    let room : c.args.code.now.room ≤ length c.as_mut_slice-room.result.now =
    omega (arith, c.in_ok-make_room.ensures, ap (λ (ws : List ℕ). length ws) c.as_mut_slice-room.ensures.value) in (
      channels,
      (
        has.of,
        subst (λ (gs : List Guarded). All is (slice_range gs due.from due.to)) (sym c.as_slice.ensures)
            (All-take is (due.to - due.from) _ (All-drop is due.from c.args.code.now.actions
            (wider room c.args.code.now.actions has.code_is.each))),
      ),
    )

pub note_all-requires-clause-slots : goal.note_all-requires-clause-slots
note_all-requires-clause-slots g c =
    let (channels, has) = c.requires.code in
    let due = c.due-due.result in
    let b = block_of c.args.of.now c.args.state.now in
    let live = length c.args.state.now.temps in
    let all = subst (λ (n : ℕ). All (IsSlotOf b due.oldest n) (slots_in c.args.code.now.schedule due)) c.len.ensures
    (c.due-due.ensures.inside b has.code_is.schedule) in
    subst (λ (gs : List Guarded). All (λ (g : Guarded). IsSlotOf b due.oldest live g.slot) (slice_range gs due.from due.to))
    (sym c.as_slice.ensures) (slots_stand channels c.args.of.now b c.args.code.now due live has.code_is all)

pub returns-clause-asked : goal.returns-clause-asked
returns-clause-asked g c channels is =
    let m = c.args.of.now in
    let s = c.args.state.now in
    let has = c.requires.code.1 in
    let at = c.due-due.result in
    let request = request_for channels m s in
    let each = IsGuardedOf channels m (block_of m s) c.args.code.now.room in
    let pass = pass_due m s c.args.code.now at c.len.result c.as_slice.result.now has c.as_slice.ensures
    (c.len.ensures ∙ c.requires.sound.state.places.temps) (c.due-due.ensures.places (block_of m s) has.code_is.schedule) in
    c.in_ok-count.ensures.asked channels c.args.code.now.room
    (subst (λ (gs : List Guarded). All each (slice_range gs at.from at.to)) (sym c.as_slice.ensures)
    (All-take each (at.to - at.from) _ (All-drop each at.from c.args.code.now.actions is.each)))
    ∙ (ap (λ (ds : List Due). g.A.Asked.requests c.clear.new.self ++ filter_map request ds) pass
    ∙ (ap (λ (rs : List Request). rs ++ filter_map request (due m s)) c.clear.ensures ∙ sym (requests_are channels m s)))

-- what was noted, in the list that was written
noted_are : (m : Module) (s : ModuleState) (code : BlockCode) (from to : ℕ) (gs : List Guarded) (now before held : List Note) (ds :
    List Due)
    → gs ≡ code.actions → length now ≡ length held → held ≡ before
    → filter_map noted_by (zip (slice_range gs from to) now) ≡ map (noted_for (block_of m s) s) ds → ds ≡ due m s
    → filter_map noted_by (zip (slice_range code.actions from to) (take (length before) (now ++ drop (length now) before))) ≡ notes_of m s
noted_are m s code from to gs now before held ds same places value noted pass =
    ap (λ (ns : List Note). filter_map noted_by (zip (slice_range code.actions from to) ns))
    (refilled now before (places ∙ ap (λ (ns : List Note). length ns) value))
    ∙ (ap (λ (hs : List Guarded). filter_map noted_by (zip (slice_range hs from to) now)) (sym same)
    ∙ (noted ∙ ap (map (noted_for (block_of m s) s)) pass))

pub returns-clause-noted : goal.returns-clause-noted
returns-clause-noted g c =
    let m = c.args.of.now in
    let s = c.args.state.now in
    let has = c.requires.code.1 in
    let pass = pass_due m s c.args.code.now c.due-due.result c.len.result c.as_slice.result.now has c.as_slice.ensures
    (c.len.ensures ∙ c.requires.sound.state.places.temps) (c.due-due.ensures.places (block_of m s) has.code_is.schedule) in
    noted_are m s c.args.code.now c.due-due.result.from c.due-due.result.to c.as_slice.result.now c.note_all.new.items
    c.make_places.new.items c.as_mut_slice-items.result.now _ c.as_slice.ensures c.in_ok-count.ensures.places
    c.as_mut_slice-items.ensures.value c.in_ok-count.ensures.noted pass

pub returns-clause-notes : goal.returns-clause-notes
returns-clause-notes g c =
    let at = c.due-due.result in
    let m = c.args.of.now in
    let s = c.args.state.now in
    let code = c.args.code.now in
    let has = c.requires.code.1 in
    let pass = pass_due m s code at c.len.result c.as_slice.result.now has c.as_slice.ensures
    (c.len.ensures ∙ c.requires.sound.state.places.temps) (c.due-due.ensures.places (block_of m s) has.code_is.schedule) in
    let value = ap (λ (ns : List Note). length ns) c.as_mut_slice-items.ensures.value in
    let written = refilled c.note_all.new.items c.make_places.new.items (c.in_ok-count.ensures.places ∙ value) in
    let noted = noted_are m s code at.from at.to c.as_slice.result.now c.note_all.new.items c.make_places.new.items
    c.as_mut_slice-items.result.now _ c.as_slice.ensures c.in_ok-count.ensures.places c.as_mut_slice-items.ensures.value
    c.in_ok-count.ensures.noted pass in
    let places : length (slice_range code.actions at.from at.to) ≤ length c.make_places.new.items =
    subst (λ (gs : List Guarded). length (slice_range gs at.from at.to) ≤ length c.make_places.new.items) c.as_slice.ensures
    c.in_ok-make_places.ensures in
    record {
      rises = c.due-due.ensures.rises;
      inside = omega (
        arith,
        c.due-due.ensures.bound,
        ap (λ (ts : List Slot). length ts) has.code_is.slots,
        length-map code.actions (λ (g : Guarded). g.slot),
      );
      each = omega (arith, places, ap (λ (ns : List Note). length ns) written, c.in_ok-count.ensures.places, value);
      counted = c.in_ok-count.ensures.count
          ∙ (ap (λ (ds : List Due). length ds) pass
          ∙ sym (ap (λ (ns : List Noted). length ns) noted ∙ length-map (due m s) (noted_for (block_of m s) s)));
    }

pub returns-clause-few : goal.returns-clause-few
returns-clause-few g c =
    let m = c.args.of.now in
    let s = c.args.state.now in
    let has = c.requires.code.1 in
    let pass = pass_due m s c.args.code.now c.due-due.result c.len.result c.as_slice.result.now has c.as_slice.ensures
    (c.len.ensures ∙ c.requires.sound.state.places.temps) (c.due-due.ensures.places (block_of m s) has.code_is.schedule) in
    subst (λ (n : ℕ). n ≤ LIVE_ITERATIONS * OPERATIONS)
    (sym (c.in_ok-count.ensures.count ∙ ap (λ (ds : List Due). length ds) pass))
    (few_due (length c.requires.code.0) m s has.of c.requires.sound)
