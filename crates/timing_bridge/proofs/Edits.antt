-- An edit of the plan is the theory's edit of its design.
use Rattle.std.proofs.{lemmas.Bool.Decides.nat_tests, lemmas.Bool.cases_eq}
use Rattle.std.proofs.Common.{arith, ◌≡◌, ℕ, ◌≤◌, ◌<◌, List, length, true, ◌&&◌, cond, refl, sym, ◌∙◌, ap, subst, inl, inr, eqb}
use Rattle.std.proofs.lemmas.List.{get_or-set_same, get_or-set_other, length-set, set-get_or}
use Rattle.std.specs.Prelude.{slice_index}
use Rattle.timing_bridge.specs.{Side, same_side, ChannelKind, Edit, Plan, ModuleState, is_fifo, kind_at, with_depth, EditFits}
use Rattle.timing_bridge.specs.{AreEntriesSound, IsChannelSound, FitsEngine, opening, moment, owner, quiet, quiet_below, measure, Design}
use Rattle.timing_bridge.specs.{IsHistory, IsFinal, IsAgreed, edited, after_edit, IsUntouchedByCycles, design, lag_in, lockstep_run}
use Rattle.timing_bridge.specs.{start_in}
use Rattle.flow_word.specs.declared.access.Side.TheVariants.{Pop, Push}
use Rattle.flow_design.specs.declared.limits.TheConstants.{FIFO_DEPTH}
use Rattle.flow_design.specs.declared.design.ChannelKind.TheVariants.{Source, Sink, Fifo}
use Rattle.event_timing.specs.Core.{Core}
use Rattle.event_timing.proofs.{Editing.edit_agrees, Touched.untouched}
use Rattle.timing_bridge.proofs.History.{plan_is_design, run_is_history}

-- ---- the edited plan is one that the engine takes

new_entries : (k : ChannelKind) (inputs : List ℕ) (old depth : ℕ) → AreEntriesSound k inputs old → is_fifo k ≡ true → 1 ≤ depth
    → depth ≤ FIFO_DEPTH → AreEntriesSound k inputs depth
new_entries Source inputs old depth h e a b = cc
new_entries Sink inputs old depth h e a b = cc
new_entries (Fifo declared delay) inputs old depth h e a b = let (none, least, most, some, few) = h in (none, a, b, some, few)

channel_kept : (p : Plan) (e : Edit) → EditFits p e → (f : ℕ) → IsChannelSound p f → IsChannelSound (with_depth p e.channel e.depth) f
channel_kept p e fit f h =
    record {
      name = h.name;
      popping = h.popping;
      pushing = h.pushing;
      entries = elim (cases_eq f e.channel) [
        | inl k ↦
            let at : slice_index (with_depth p e.channel e.depth).depths f ≡ e.depth =
            ap (slice_index (with_depth p e.channel e.depth).depths) k ∙ get_or-set_same p.depths e.channel e.depth 0 fit.entry in
            let fifo : is_fifo (kind_at p f) ≡ true = ap (λ (g : ℕ). is_fifo (kind_at p g)) k ∙ fit.fifo in
            subst (AreEntriesSound (kind_at p f) _) (sym at)
            (new_entries (kind_at p f) _ (slice_index p.depths f) e.depth h.entries fifo fit.least fit.most)
        | inr n ↦ subst (AreEntriesSound (kind_at p f) _) (sym (get_or-set_other p.depths e.channel f e.depth 0 n)) h.entries
      ];
    }

pub edited_fits : (p : Plan) → FitsEngine p → (e : Edit) → EditFits p e → FitsEngine (with_depth p e.channel e.depth)
edited_fits p h e fit =
    record {
      channel_count = h.channel_count;
      module_count = h.module_count;
      inputs = h.inputs;
      depths = length-set p.depths e.channel e.depth ∙ h.depths;
      input_count = h.input_count;
      channels = λ f l. channel_kept p e fit f (h.channels f l);
      modules = h.modules;
      some_cycles = h.some_cycles;
      cycles = h.cycles;
      some_operations = h.some_operations;
      operations = h.operations;
      pace = h.pace;
    }

-- an edit to the depth that stands is none
pub same_depth : (p : Plan) (f : ℕ) → with_depth p f (slice_index p.depths f) ≡ p
same_depth p f = ap (λ (ds : List ℕ). record p { depths = ds }) (set-get_or p.depths f 0)

-- ---- its design

same_start : (p : Plan) (f depth : ℕ) → f < length p.depths → (side : Side) (g : ℕ)
    → cond (same_side side Push && eqb g f) depth (start_in p side g) ≡ start_in (with_depth p f depth) side g
unfolding moment opening
same_start p f depth h Pop g = refl
same_start p f depth h Push g = grind (arith, nat_tests, get_or-set_same p.depths f depth 0 h, get_or-set_other p.depths f g depth 0)

same_lag : (p : Plan) (f depth : ℕ) (side : Side) (g : ℕ) → lag_in p side g ≡ lag_in (with_depth p f depth) side g
same_lag p f depth side g = grind arith

pub same_design : (p : Plan) (f depth : ℕ) → f < length p.depths → edited (design p) f depth ≡ design (with_depth p f depth)
unfolding moment opening owner quiet quiet_below measure
same_design p f depth h =
    λ i. record (design (with_depth p f depth)) {
      start = λ side g. same_start p f depth h side g i;
      lag = λ side g. same_lag p f depth
          side g i;
    }

-- the cycles below the first touched clock agree with the edited plan's lockstep run
pub plan_edit : (p : Plan) → FitsEngine p → (e : Edit) → EditFits p e → (limit t : ℕ) (x : Core ModuleState)
    → IsAgreed (design p) (lockstep_run p) limit x → IsFinal (design p) limit x
    → t ≤ limit → IsUntouchedByCycles (design p) x e.channel e.depth t
    → IsAgreed (design (with_depth p e.channel e.depth)) (lockstep_run (with_depth p e.channel e.depth)) limit (after_edit (design p) x t)
plan_edit p h e fit limit t x g final below u =
    let q = with_depth p e.channel e.depth in
    let w = lockstep_run p in
    let same = same_design p e.channel e.depth fit.entry in
    let other : IsHistory (edited (design p) e.channel e.depth) (lockstep_run q) =
    subst (λ (d : Design ModuleState). IsHistory d (lockstep_run q)) (sym same) (run_is_history q (edited_fits p h e fit)) in
    subst (λ (d : Design ModuleState). IsAgreed d (lockstep_run q) limit (after_edit (design p) x t)) same
    (edit_agrees (design p) w (lockstep_run q) (plan_is_design p h) (run_is_history p h) e.channel e.depth t other (λ f. refl)
    (untouched (design p) w (plan_is_design p h) (run_is_history p h) limit x g final e.channel e.depth t below u) limit x g)
