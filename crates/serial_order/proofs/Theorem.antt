-- Serial modules equal plain loops.
use Rattle.std.proofs.Common.{◌≡◌, ℕ, List, [], length, true, sym, subst}
use Rattle.serial_order.specs.{Design, Plan, Reply, own_run, module_in, order_of, DesignHasModule, AreGiven, EndsAlike, EqualsPlainLoops}
use Rattle.serial_order.specs.{GetsAsFar, KeepsToPlainLoops, serial, declared.order.Order.TheVariants.Serial}
use Rattle.serial_order.proofs.{Ends.ends_alike, Ends.gets_as_far, Serials.serial_blocks}

in_plan : (p : Plan) (i : ℕ) → DesignHasModule p.design i → order_of p.design i ≡ Serial
    → (lists : List (List ℕ)) (replies : List (List Reply)) (n : ℕ)
    → AreGiven lists [] (own_run p i replies n).steps → (own_run p i replies n).state.ended ≡ true
    → (k : ℕ) × EndsAlike (length p.design.channels) (serial lists p.design.channels (module_in p.design i) k) (own_run p i replies n)
in_plan p i h is lists replies n given ended =
    ends_alike p i lists replies h.sound (serial_blocks lists p.design.channels (module_in p.design i) h.sound is) n given ended

pub equals_plain_loops : (design : Design) (i : ℕ) → DesignHasModule design i → order_of design i ≡ Serial → EqualsPlainLoops design i
equals_plain_loops design i h is p e lists replies n given ended =
    subst (λ (d : Design). (k : ℕ) × EndsAlike (length d.channels) (serial lists d.channels (module_in d i) k) (own_run p i replies n)) e
    (in_plan p i (subst (λ (d : Design). DesignHasModule d i) (sym e) h) (subst (λ (d : Design). order_of d i ≡ Serial) (sym e) is)
    lists replies n given ended)

far_in_plan : (p : Plan) (i : ℕ) → DesignHasModule p.design i → order_of p.design i ≡ Serial
    → (lists : List (List ℕ)) (replies : List (List Reply)) (n : ℕ)
    → AreGiven lists [] (own_run p i replies n).steps
    → (k : ℕ) × GetsAsFar (length p.design.channels) (serial lists p.design.channels (module_in p.design i) k) (own_run p i replies n)
far_in_plan p i h is lists replies n given =
    gets_as_far p i lists replies h.sound (serial_blocks lists p.design.channels (module_in p.design i) h.sound is) n given

pub keeps_to_plain_loops : (design : Design) (i : ℕ) → DesignHasModule design i → order_of design i ≡ Serial → KeepsToPlainLoops design i
keeps_to_plain_loops design i h is p e lists replies n given =
    subst (λ (d : Design). (k : ℕ) × GetsAsFar (length d.channels) (serial lists d.channels (module_in d i) k) (own_run p i replies n)) e
    (far_in_plan p i (subst (λ (d : Design). DesignHasModule d i) (sym e) h) (subst (λ (d : Design). order_of d i ≡ Serial) (sym e) is)
    lists replies n given)
