-- The ports that modules use, and the slots that operations have taken.
use Rattle.std.proofs.Common.{◌≡◌, ℕ, ◌+◌, ◌<◌, List, [], ◌∷◌, length, map, get_or, count_by, Bool, false, cond, refl, sym, ap, ◌∙◌, arith}
use Rattle.std.proofs.Common.{take, drop, Option, Some, option_map, true}
use Rattle.std.proofs.{lemmas.List.get_or-map, lemmas.List.length-map, lemmas.List.Sums.sum_by-cons, lemmas.Bool.Decides.nat_tests}
use Rattle.indexmap.specs.IndexSet.{IndexSet}
use Rattle.flow_design.specs.declared.design.Module.{Module}
use Rattle.flow_check.specs.{uses, Timed, BlockKind, Port, has, HasPorts, HavePorts, has_slot, first_after, PortSlot, slot, is_slot}
use Rattle.flow_check.specs.{same_slot, clashes}
use Rattle.flow_word.specs.{declared.access.Side.TheVariants.Pop, contracts.access.PortPartialEq.TheImpl.ghosts}
use Rattle.std.specs.{Prelude.◌||◌, Prelude.◌&&◌, Prelude.◌==◌, List.list_any}

module _ {S : Type 0} (all : List (IndexSet Port S)) (modules : List Module) (have : HavePorts all modules) where
  pub long : length all ≡ length modules
  long =
      let first : Port = record { side = Pop; channel = 0 } in
      let e : length (map (λ s. has s first) all) ≡ length (map (uses first) modules) = ap length (have first) in
      simp length-map at e

  pub at_place : (at : ℕ) (ports : IndexSet Port S) (m : Module) → at < length modules → ports ≡ get_or all at ports
      → m ≡ get_or modules at m → HasPorts ports m
  at_place at ports m there is_ports is_m a =
      ap (λ (s : IndexSet Port S). has s a) is_ports
      ∙ sym (get_or-map (λ s. has s a) all at ports false (omega (arith, long)))
      ∙ ap (λ (l : List Bool). get_or l at false) (have a)
      ∙ get_or-map (uses a) modules at m false there
      ∙ ap (uses a) (sym is_m)

count_map : {A : Type 0} (p : A → Bool) (ys : List A) → count_by (λ b. b) (map p ys) ≡ count_by p ys
count_map p [] = refl
count_map p (y ∷ ys) =
    let one = sum_by-cons (λ b. cond b 1 0) (p y) (map p ys) in
    let more = sum_by-cons (λ z. cond (p z) 1 0) y ys in let later = count_map p ys in grind arith

-- how many of the sets have a port is how many of the modules use it
pub count_users : {S : Type 0} (all : List (IndexSet Port S)) (modules : List Module) (a : Port) → HavePorts all modules
    → count_by (λ ports. has ports a) all ≡ count_by (uses a) modules
count_users all modules a have =
    sym (count_map (λ ports. has ports a) all) ∙ ap (count_by (λ b. b)) (have a) ∙ count_map (uses a) modules

-- ---- slots that the operations so far have taken

-- the slots are those of the operations so far, and none of these clashes with an earlier one
pub record AreTaken {S : Type 0} (kind : BlockKind) (ops : List Timed) (at : ℕ) (slots : IndexSet PortSlot S) : Type 0 where
  pub each : (s : PortSlot) → has_slot slots s ≡ list_any (λ t. is_slot s (slot kind t)) (take at ops)
  pub rest : first_after (clashes kind) [] ops ≡ option_map (λ k. at + k) (first_after (clashes kind) (take at ops) (drop at ops))

-- ---- equal ports and slots

pub slots_turn : (s t : PortSlot) → same_slot s t ≡ same_slot t s
slots_turn s t = grind (arith, nat_tests)

-- the test of a set's keys, which is the same
abbrev pub plain : PortSlot → PortSlot → Bool
plain s t = ghosts.eq s.0 t.0 && (s.1 == t.1)

plain_is : (s t : PortSlot) → plain s t ≡ same_slot s t
plain_is s t = grind (arith, nat_tests)

-- a slot more among the keys of a set
pub slot_more : (old new : List PortSlot) (own : PortSlot) (o : Option PortSlot) → o ≡ Some own
    → ((q : PortSlot) → list_any (plain q) new ≡ cond (plain own q) true (list_any (plain q) old))
    → (s : PortSlot) → list_any (same_slot s) new ≡ list_any (same_slot s) old || is_slot s o
slot_more old new own o is more s =
    let told : list_any (same_slot s) new ≡ cond (plain own s) true (list_any (same_slot s) old)
    = (λ i. list_any (λ x. sym (plain_is s x) i) new) ∙ more s
    ∙ (λ i. cond (plain own s) true (list_any (λ x. plain_is s x i) old)) in
    let same = plain_is own s in let turned = slots_turn own s in grind arith
