-- The two counts of a pass are those of its calls.
use Rattle.std.proofs.Common.{◌≡◌, ℕ, ◌+◌, Option, ◌∙◌, arith}
use Rattle.turn_lock.specs.{PassView, IsLedBy, Counts.Start, Counts.Begun, Counts.Lost, Counts.Ended, Counts.Made, Counts.TakenIn}

module _ {E : Type 0} (bearer : E → Option ℕ) (v : PassView E) where
  pub turns_led : (w : PassView E) (turns lost : ℕ) → IsLedBy bearer v turns lost w → w.turns ≡ v.turns + turns
  turns_led w turns lost Start = omega arith
  turns_led w turns lost (Begun t l tries log u x led b) = b.turns ∙ turns_led u t l led
  turns_led w turns lost (Lost t l u led) = turns_led u t l led
  turns_led w turns lost (Ended t l added log u x led e) = let is = turns_led u t l led in let one = e.turns in omega arith
  turns_led w turns lost (Made t l u led) = turns_led u t l led
  turns_led w turns lost (TakenIn t l u other led) = turns_led u t l led

  pub lost_led : (w : PassView E) (turns lost : ℕ) → IsLedBy bearer v turns lost w → w.lost ≡ v.lost + lost
  lost_led w turns lost Start = omega arith
  lost_led w turns lost (Begun t l tries log u x led b) = let is = lost_led u t l led in let more = b.lost in omega arith
  lost_led w turns lost (Lost t l u led) = let is = lost_led u t l led in omega arith
  lost_led w turns lost (Ended t l added log u x led e) = e.lost ∙ lost_led u t l led
  lost_led w turns lost (Made t l u led) = lost_led u t l led
  lost_led w turns lost (TakenIn t l u other led) = lost_led u t l led
