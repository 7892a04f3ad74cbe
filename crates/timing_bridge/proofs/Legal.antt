-- A history that is computed is legal; what stands after a legal one is reached by permitted actions.
use Rattle.std.proofs.Common.{◌≡◌, ℕ, ap, Some, List, [], ◌∷◌, ◌++◌, inl, inr}
use Rattle.timing_bridge.specs.{Design, IsDesign, Trace, IsHistory, Action, ActsAll, runs, IsAgreed, AllVerified, HubTurn, IsTurnOf}
use Rattle.timing_bridge.specs.{TurnsOf, turn_on, turns_on, Turned.Turned}
use Rattle.timing_bridge.specs.declared.turn.HubTurn.TheVariants.{Lent, Ran, Timed, Short}
use Rattle.event_timing.specs.Actions.Action.{Earliest}
use Rattle.event_timing.proofs.{Agreement.all_agree, ActionBound.all_rise}
use Rattle.timing_bridge.proofs.{Timings.then_some, Turning.turn_is, Lending.acts_join}

module _ {S : Type 0} (d : Design S) (limit : ℕ) where
  turn_acts : (v w : Turned S) (turn : HubTurn) → IsTurnOf d limit v turn w
      → (actions : List Action) × ActsAll d limit v.core actions w.core
  turn_acts v w (Lent q m) (short, may, free, same) = ([], ap (λ (u : Turned S). u.core) same)
  turn_acts v w (Ran q m n) (holds, some, acts, same) = (runs n m, acts)
  turn_acts v w (Timed q n) (short, some, inl t, same) = (t.actions, t.acts)
  turn_acts v w (Timed q n) (short, some, inr (one, t), same) = (Earliest t.owner ∷ [], t.acts)
  turn_acts v w (Short q) same = ([], ap (λ (u : Turned S). u.core) same)

  pub turns_act : (v w : Turned S) (turns : List HubTurn) → TurnsOf d limit v turns w
      → (actions : List Action) × ActsAll d limit v.core actions w.core
  turns_act v w [] e = ([], ap (λ (u : Turned S). u.core) e)
  turns_act v w (turn ∷ more) (u, t, rest) =
      let (a, b) = turn_acts v u turn t in
      let (c, e) = turns_act u w more rest in
      (a ++ c, acts_join d limit v.core u.core w.core a c b e)

module _ {S : Type 0} (d : Design S) (h : Trace S) (i : IsDesign d) (y : IsHistory d h) (limit : ℕ) where
  pub turns_are : (v w : Turned S) → IsAgreed d h limit v.core → AllVerified v.core → (turns : List HubTurn)
      → turns_on d limit v turns ≡ Some w → TurnsOf d limit v turns w
  turns_are v w g f [] e = some_same v w e
    where
      some_same : (a b : Turned S) → Some a ≡ Some b → b ≡ a
      some_same a b q = cc
  turns_are v w g f (turn ∷ more) e =
      let (u, s, rest) = then_some (turn_on d limit v turn) (λ z. turns_on d limit z more) w e in
      let t = turn_is d h i y limit v u g f turn s in
      let (a, b) = turn_acts d limit v u turn t in
      (u, t, turns_are u w (all_agree d h i y limit v.core g a u.core b) (all_rise d h i y limit v.core g f a u.core b).2 more rest)
