-- The channels that a module pops, or pushes.
use Rattle.std.proofs.Common.{◌≡◌, refl, sym, subst, ℕ, true, List, eqb}
use Rattle.std.proofs.{lemmas.Bool.and_parts, lemmas.Bool.eqb-true, lemmas.List.Folds.Any-from_list_any}
use Rattle.std.specs.{Prelude.All, Prelude.Contains, Prelude.IfSome, Prelude.Option, Prelude.None, Prelude.Some, List.list_any}
use Rattle.module_interp.specs.{Port, Side, same_side, Block, Timed, Op, used_port, is_port, uses, IsGathered}
use Rattle.flow_word.specs.declared.access.Side.TheVariants.{Pop, Push}
use Rattle.flow_design.specs.declared.design.Module.{Module}

-- what was gathered stays
pub gathered_more : (side : Side) (xs ys : List ℕ) → ((f : ℕ) → Contains xs f → Contains ys f) → (op : Op ℕ) → IsGathered side xs op
    → IsGathered side ys op
gathered_more side xs ys more op h = by (used_port op) h
  where
    by : (o : Option Port) → IfSome o (λ a. a.side ≡ side → Contains xs a.channel) → IfSome o (λ a. a.side ≡ side → Contains ys a.channel)
    by None h = tt
    by (Some a) h = λ e. more a.channel (h e)

same_sides : (a b : Side) → same_side a b ≡ true → b ≡ a
same_sides Pop Pop e = refl
same_sides Pop Push e = cc
same_sides Push Pop e = cc
same_sides Push Push e = refl

-- so all are there
pub used_gathered : (side : Side) (xs : List ℕ) (m : Module) → All (λ b. All (λ t. IsGathered side xs t.op) b.ops) m.blocks → (f : ℕ)
    → uses (record { side = side; channel = f }) m ≡ true → Contains xs f
used_gathered side xs m h f used =
    let a : Port = record { side = side; channel = f } in
    let (k, b, l, is, has) = Any-from_list_any (λ (b : Block). list_any (λ t. is_port a (used_port t.op)) b.ops) m.blocks used in
    let (j, t, n, at, port) = Any-from_list_any (λ (t : Timed). is_port a (used_port t.op)) b.ops has in
    let own : All (λ t. IsGathered side xs t.op) b.ops = subst (λ (x : Block). All (λ t. IsGathered side xs t.op) x.ops) is (h k b l) in
    by (used_port t.op) (subst (λ (x : Timed). IsGathered side xs x.op) at (own j t n)) port
  where
    by : (o : Option Port) → IfSome o (λ a. a.side ≡ side → Contains xs a.channel) → is_port (record { side = side; channel = f }) o ≡ true
        → Contains xs f
    by None g e = cc
    by (Some b) g e =
        let parts = and_parts (same_side side b.side) (eqb f b.channel) e in
        subst (Contains xs) (sym (eqb-true f b.channel parts.1)) (g (same_sides side b.side parts.0))
