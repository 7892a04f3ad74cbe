-- What the performance pass does in a turn, as a turn that is computed.
use Rattle.std.proofs.Common.{◌≡◌, ℕ, ◌≤◌, sym, ap, ◌∙◌, subst, Some, None, Bool, true, false, cond}
use Rattle.std.specs.Prelude.{is_none}
use Rattle.sim_hub.specs.{Plan, ModuleState, Design, IsInside, design, after_timed, turned_by, next_timing, timings, earliest_of}
use Rattle.event_timing.specs.Core.{Core}
use Rattle.timing_bridge.specs.{declared.turn.HubTurn.TheVariants.Timed, Turned.Turned}
use Rattle.timing_bridge.proofs.Turning.{timed_fits, earliest_fits}

-- where nothing was done the core is the same
pub none_timed : (d : Design ModuleState) (limit : ℕ) (x y : Core ModuleState) (n : ℕ) → n ≡ 0 → timings d limit n 0 x ≡ Some y → y ≡ x
none_timed d limit x y n zeroth e = either (is_none (next_timing d limit x 0)) (ap (λ i. timings d limit i 0 x) (sym zeroth) ∙ e)
  where
    either : (b : Bool) → cond b (Some x) None ≡ Some y → y ≡ x
    either true same = some_same x y same
      where
        some_same : (a b : Core ModuleState) → Some a ≡ Some b → b ≡ a
        some_same a b q = cc
    either false same = absurd (cc)

pub timed_turn : (p : Plan) (at : Turned ModuleState) (x y : Core ModuleState) (n : ℕ) → x ≡ at.core → at.short ≡ false → 1 ≤ n
    → timings (design p) p.cycles n 0 x ≡ Some y → turned_by p at (Timed 0 n) ≡ Some (after_timed at y)
timed_turn p at x y n core memory some e =
    timed_fits (design p) p.cycles at 0 n y memory some
    (subst (λ (z : Core ModuleState). timings (design p) p.cycles n 0 z ≡ Some y) core e)

pub earliest_turn : (p : Plan) (at : Turned ModuleState) (x y : Core ModuleState) → x ≡ at.core → at.short ≡ false
    → IsInside (design p) x → earliest_of (design p) p.cycles x ≡ Some y → turned_by p at (Timed 0 1) ≡ Some (after_timed at y)
earliest_turn p at x y core memory inside e =
    earliest_fits (design p) p.cycles at 0 y memory (subst (IsInside (design p)) core inside)
    (subst (λ (z : Core ModuleState). earliest_of (design p) p.cycles z ≡ Some y) core e)
