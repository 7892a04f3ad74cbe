-- When a module moves.
use Rattle.clock_machine.specs.{Element, Plan, ClockState, ModuleState, Request, is_over, nobody, is_empty, contents_of, all_ready, stalls}
use Rattle.clock_machine.specs.{requests_of, moves, module_at, held_at, held_by, IsStateSound, AreFit}
use Rattle.flow_design.specs.declared.design.Module.{Module}
use Rattle.std.proofs.Common.{◌≡◌, ℕ, ◌<◌, List, [], ◌∷◌, length, get_or, Bool, true, false, not, cond, refl, sym, ◌∙◌, ap, subst, arith}
use Rattle.std.proofs.Common.{zero, suc}
use Rattle.std.proofs.lemmas.Bool.{lt-ltb}
use Rattle.std.specs.{Prelude.find, Prelude.option_map, Prelude.nat_lt, Prelude.None, List.list_any, List.filter_map}
use Rattle.lockstep_defs.proofs.{Agrees.not_ended, Settled.same_stalls}

-- ---- if every element could be popped

pub over_stays : (p : Plan) (clock : ℕ) (contents : List (List Element)) (m : ℕ × ModuleState) → is_over p.ops m.1 ≡ true
    → moves p clock contents m ≡ false
unfolding moves
over_stays p clock contents m h = rw h refl

pub moves_by_stalls : (p : Plan) (clock : ℕ) (contents : List (List Element)) (m : ℕ × ModuleState) → is_over p.ops m.1 ≡ false
    → moves p clock contents m ≡ not (list_any (stalls p clock contents) (requests_of p m))
unfolding moves
moves_by_stalls p clock contents m h = rw h refl

-- an element is then there to pop where the channel holds one
pub there_ever : (contents : List (List Element)) (f : ℕ)
    → nat_lt 0 (length (contents_of contents f)) ≡ not (is_empty 0 (contents_of (all_ready contents) f))
there_ever [] f = refl
there_ever ([] ∷ contents) zero = refl
there_ever ((e ∷ held) ∷ contents) zero = lt-ltb 0 (suc (length held)) (omega arith)
there_ever (held ∷ contents) (suc f) = there_ever contents f

-- how a module is held is then the same in each clock
pub held_ever : (p : Plan) (clock : ℕ) (contents : List (List Element)) (ms : List (ℕ × ModuleState))
    → filter_map (held_by p 0 (all_ready contents)) ms ≡ filter_map (held_by p clock (all_ready contents)) ms
held_ever p clock contents ms =
    ap (λ (test : Request → Bool). filter_map
    (λ (m : ℕ × ModuleState). cond (is_over p.ops m.1) None (option_map (held_at m.0) (find test (requests_of p m)))) ms)
    (λ i r. same_stalls p 0 clock contents r i)

-- ---- states that can come up

-- a module that can run is in a sound state as long as it is not over
pub sound_of : (p : Plan) (clock : ℕ) (st : ClockState) (i : ℕ) (m : Module) (s : ModuleState) → AreFit p clock st.modules
    → i < length st.modules
    → m ≡ module_at p i → s ≡ get_or st.modules i nobody → is_over p.ops s ≡ false → IsStateSound m s
sound_of p clock st i m s fit h e k running =
    subst (λ (of : Module). IsStateSound of s) (sym e)
    (subst (λ (now : ModuleState). IsStateSound (module_at p i) now) (sym k)
    ((fit.each i h).runnable (ap (λ (now : ModuleState). now.ended) (sym k) ∙ not_ended p.ops s running)))
