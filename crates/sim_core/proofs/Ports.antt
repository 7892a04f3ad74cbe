-- A module's own ports are all of those at which it stands, are within the channels, and are in order.
use Rattle.std.proofs.Common.{◌≡◌, ℕ, zero, suc, ◌+◌, ◌<◌, ◌≤◌, ◌*◌, Bool, true, false, eqb, inl, inr, List, [], ◌∷◌, ◌++◌, Some, refl}
use Rattle.std.proofs.Common.{subst, sym, append_assoc, length, get_or, arith}
use Rattle.std.proofs.{lemmas.Bool.Decides.eqb_tells, lemmas.List.Elements.All-from_recursion, lemmas.Bool.eq-eqb}
use Rattle.std.specs.{Prelude.All, Prelude.flat_map, Prelude.slice_get, List.range_with_len, List.AllByRecursion}
use Rattle.sim_core.specs.{Port, Side, Plan, Advance, design, AreAllPorts, room_of, Engine, port_where, ports_at, ports_to, HasPlaceForEach}
use Rattle.sim_core.specs.{rank_of, side_rank, ArePortsInOrder, AreTakenByMarks}
use Rattle.flow_word.specs.declared.access.Side.TheVariants.{Pop, Push}

abbrev Has : List Port → Port → Type 0
Has ports port = (i : ℕ) × (slice_get ports i ≡ Some port)

here : (b : Bool) (side : Side) (c : ℕ) (more : List Port) → b ≡ true → Has (port_where b side c ++ more)
    (record { side = side; channel = c })
here true side c more e = (0, refl)
here false side c more e = cc

after : (b : Bool) (side : Side) (c : ℕ) (more : List Port) (port : Port) → Has more port → Has (port_where b side c ++ more) port
after true side c more port (i, e) = (suc i, e)
after false side c more port (i, e) = (i, e)

module _ (p : Plan) (m : ℕ) where
  first : (side : Side) (a c : ℕ) (more : List Port) → a ≡ c → (design p).owner side c ≡ m
      → Has (port_where (eqb ((design p).owner side a) m) side a ++ more) (record { side = side; channel = c })
  first side a c more e o =
      subst (λ (k : ℕ). Has (port_where (eqb ((design p).owner side a) m) side a ++ more) (record { side = side; channel = k })) e
      (here (eqb ((design p).owner side a) m) side a more (eq-eqb ((design p).owner side a) m
      (subst (λ (k : ℕ). (design p).owner side k ≡ m) (sym e) o)))

  has_port : (a n c : ℕ) (side : Side) → a ≤ c → c < a + n → (design p).owner side c ≡ m
      → Has (flat_map (ports_at p m) (range_with_len a n)) (record { side = side; channel = c })
  has_port a zero c side l u o = absurd (omega arith)
  has_port a (suc n) c side l u o =
      let more = flat_map (ports_at p m) (range_with_len (a + 1) n) in
      subst (λ (ps : List Port). Has ps (record { side = side; channel = c }))
      (sym (append_assoc (port_where (eqb ((design p).owner Pop a) m) Pop a) (port_where (eqb ((design p).owner Push a) m) Push a) more))
      (elim (eqb_tells c a) [
        | inl e ↦ at side (sym e.1) o
        | inr e ↦
            let f = e.1 in
            after (eqb ((design p).owner Pop a) m) Pop a (port_where (eqb ((design p).owner Push a) m) Push a ++ more) _
            (after (eqb ((design p).owner Push a) m) Push a more _ (has_port (a + 1) n c side (omega arith) (omega arith) o))
      ])
    where
      at : (side : Side) → a ≡ c → (design p).owner side c ≡ m
          → Has (port_where (eqb ((design p).owner Pop a) m) Pop a ++ (port_where (eqb ((design p).owner Push a) m) Push a
          ++ flat_map (ports_at p m) (range_with_len (a + 1) n))) (record { side = side; channel = c })
      at Pop e o = first Pop a c
          (port_where (eqb ((design p).owner Push a) m) Push a ++ flat_map (ports_at p m) (range_with_len (a + 1) n)) e o
      at Push e o =
          after (eqb ((design p).owner Pop a) m) Pop a
          (port_where (eqb ((design p).owner Push a) m) Push a ++ flat_map (ports_at p m) (range_with_len (a + 1) n))
          (record { side = Push; channel = c })
          (first Push a c (flat_map (ports_at p m) (range_with_len (a + 1) n)) e o)

  pub all_there : (n : ℕ) (ports : List Port) → n ≡ length p.design.channels → ports ≡ ports_to p m (length p.design.channels)
      → AreAllPorts (design p) m n ports
  all_there n ports count e port l owned =
      subst (λ (ps : List Port). Has ps port) (sym e)
      (has_port 0 (length p.design.channels) port.channel port.side (omega arith) (omega arith) owned)

  one_within : (b : Bool) (side : Side) (c most : ℕ) (more : List Port) → c < most
      → AllByRecursion (λ (port : Port). port.channel < most) more
      → AllByRecursion (λ (port : Port). port.channel < most) (port_where b side c ++ more)
  one_within true side c most more l k = (l, k)
  one_within false side c most more l k = k

  each_within : (a n most : ℕ) → a + n ≤ most
      → AllByRecursion (λ (port : Port). port.channel < most) (flat_map (ports_at p m) (range_with_len a n))
  each_within a zero most l = tt
  each_within a (suc n) most l =
      let more = flat_map (ports_at p m) (range_with_len (a + 1) n) in
      subst (AllByRecursion (λ (port : Port). port.channel < most))
      (sym (append_assoc (port_where (eqb ((design p).owner Pop a) m) Pop a) (port_where (eqb ((design p).owner Push a) m) Push a) more))
      (one_within (eqb ((design p).owner Pop a) m) Pop a most _ (omega arith)
      (one_within (eqb ((design p).owner Push a) m) Push a most more (omega arith) (each_within (a + 1) n most (omega arith))))

  pub all_within : (n : ℕ) (ports : List Port) → n ≡ length p.design.channels → ports ≡ ports_to p m (length p.design.channels)
      → All (λ (port : Port). port.channel < n) ports
  all_within n ports count e =
      subst (All (λ (port : Port). port.channel < n)) (sym e) (All-from_recursion (λ (port : Port). port.channel < n)
      (ports_to p m (length p.design.channels)) (each_within 0 (length p.design.channels) n (omega arith)))

-- ---- they are in order

-- the ranks of the ports rise, from this one on
abbrev Rises : ℕ → List Port → Type 0
Rises low [] = Unit {0}
Rises low (a ∷ more) = (low ≤ rank_of a) × Rises (rank_of a + 1) more

rises_lower : (low high : ℕ) (ports : List Port) → low ≤ high → Rises high ports → Rises low ports
rises_lower low high [] l k = tt
rises_lower low high (a ∷ more) l k = let r = k.0 in (omega arith, k.1)

rises_where : (b : Bool) (side : Side) (c low : ℕ) (more : List Port) → low ≤ 2 * c + side_rank side
    → Rises (2 * c + side_rank side + 1) more → Rises low (port_where b side c ++ more)
rises_where true side c low more l k = (l, k)
rises_where false side c low more l k = rises_lower low (2 * c + side_rank side + 1) more (omega arith) k

at_least : (low : ℕ) (ports : List Port) → Rises low ports → (i : ℕ) (a : Port) → slice_get ports i ≡ Some a → low ≤ rank_of a
at_least low [] k i a e = absurd (cc)
at_least low (x ∷ more) k zero a e = let same : x ≡ a = cc in rw (← same) k.0
at_least low (x ∷ more) k (suc i) a e =
    let later = at_least (rank_of x + 1) more k.1 i a e in let first = k.0 in omega arith

ordered : (low : ℕ) (ports : List Port) → Rises low ports → ArePortsInOrder ports
ordered low [] k i j a b l e f = absurd (cc)
ordered low (x ∷ more) k zero zero a b l e f = absurd (omega arith)
ordered low (x ∷ more) k zero (suc j) a b l e f =
    let same : x ≡ a = cc in
    let later = at_least (rank_of x + 1) more k.1 j b f in
    rw (← same) (omega arith)
ordered low (x ∷ more) k (suc i) zero a b l e f = absurd (omega arith)
ordered low (x ∷ more) k (suc i) (suc j) a b l e f = ordered (rank_of x + 1) more k.1 i j a b (omega arith) e f

module _ (p : Plan) (m : ℕ) where
  rising : (a n : ℕ) → Rises (2 * a) (flat_map (ports_at p m) (range_with_len a n))
  rising a zero = tt
  rising a (suc n) =
      let more = flat_map (ports_at p m) (range_with_len (a + 1) n) in
      subst (Rises (2 * a))
      (sym (append_assoc (port_where (eqb ((design p).owner Pop a) m) Pop a) (port_where (eqb ((design p).owner Push a) m) Push a) more))
      (rises_where (eqb ((design p).owner Pop a) m) Pop a (2 * a) _ (omega arith)
      (rises_where (eqb ((design p).owner Push a) m) Push a (2 * a + 0 + 1) more (omega arith)
      (rises_lower (2 * a + 1 + 1) (2 * (a + 1)) more (omega arith) (rising (a + 1) n))))

  pub all_in_order : (ports : List Port) → ports ≡ ports_to p m (length p.design.channels) → ArePortsInOrder ports
  all_in_order ports e =
      subst ArePortsInOrder (sym e) (ordered 0 (ports_to p m (length p.design.channels)) (rising 0 (length p.design.channels)))

-- ---- room at each of them

-- where there is room for what marks take at each of these ports, there is a place for each of the marks
pub place_for_each : (p : Plan) (m : ℕ) {own : List Port} → own ≡ ports_to p m (length p.design.channels)
    → (t : Engine) {marks : List Advance} {taken : List ℕ} → AreTakenByMarks own marks taken → length marks ≤ get_or t.graph.rooms m 0
    → ((i : ℕ) (port : Port) → slice_get own i ≡ Some port → get_or taken i 0 + 1 ≤ room_of t.fifos port.side port.channel)
    → HasPlaceForEach p t m marks
place_for_each p m {own} own_is t {marks} {taken} are steps room = record {
  steps = steps;
  ports = λ side c inside owned.
      let port : Port = record { side = side; channel = c } in
      let (i, at) = all_there p m (length p.design.channels) own refl own_is port inside owned in
      let most = are.each i port at in
      let there = room i port at in
      omega arith;
}
