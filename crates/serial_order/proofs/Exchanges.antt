-- What one exchange more moves at an end of a channel.
use Rattle.std.proofs.Common.{◌≡◌, ℕ, List, [], ◌∷◌, ◌++◌, Bool, true, false, cond, refl, sym, ◌∙◌, ◌==◌, append-nil}
use Rattle.std.proofs.lemmas.Bool.{eqb-false, ne_eqb}
use Rattle.std.specs.Prelude.{nat_eq}
use Rattle.serial_order.specs.{Side, Exchange, moved_by}
use Rattle.flow_word.specs.declared.access.Side.TheVariants.{Pop, Push}
use Rattle.flow_design.specs.declared.state.Reply.TheVariants.{Done, Value}
use Rattle.lockstep_defs.proofs.Queue.{moved_by-append}
use Rattle.flow_word.specs.declared.access.Kind.TheVariants as kind

-- an exchange at another end
pub unmoved : (side : Side) (f : ℕ) (x : Exchange) (done : List Exchange) → moved_by side f (x ∷ []) ≡ []
    → moved_by side f (done ++ x ∷ []) ≡ moved_by side f done
unmoved side f x done e = moved_by-append side f done (x ∷ []) ∙ rw (e, append-nil) refl

none_either : (b : Bool) → ◌++◌ {A = ℕ} (cond b [] []) [] ≡ []
none_either true = refl
none_either false = refl

-- a pop of channel g
abbrev pub pop_of : ℕ → ℕ → Exchange
pop_of g v = record { request = record { kind = kind.Read; channel = g; value = 0 }; reply = Value v }

-- a push of it
abbrev pub push_of : ℕ → ℕ → Exchange
push_of g v = record { request = record { kind = kind.Write; channel = g; value = v }; reply = Done }

pub pop_elsewhere : (f g v : ℕ) → nat_eq f g ≡ false → moved_by Pop f (pop_of g v ∷ []) ≡ []
unfolding moved_by
pop_elsewhere f g v e = rw (ne_eqb g f (λ same. eqb-false f g e (sym same))) refl

pub pop_no_push : (f g v : ℕ) → moved_by Push f (pop_of g v ∷ []) ≡ []
unfolding moved_by
pop_no_push f g v = none_either (g == f)

pub push_elsewhere : (f g v : ℕ) → nat_eq f g ≡ false → moved_by Push f (push_of g v ∷ []) ≡ []
unfolding moved_by
push_elsewhere f g v e = rw (ne_eqb g f (λ same. eqb-false f g e (sym same))) refl

pub push_no_pop : (f g v : ℕ) → moved_by Pop f (push_of g v ∷ []) ≡ []
unfolding moved_by
push_no_pop f g v = none_either (g == f)
