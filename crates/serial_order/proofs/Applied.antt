-- What outcomes and exchanges leave of a thing, and of the temps of an iteration.
use Rattle.std.proofs.Common.{◌≡◌, ◌≢◌, ℕ, ◌-◌, ◌<◌, List, [], ◌∷◌, ◌++◌, length, get_or, set, Option, Some, None, Bool, true, false}
use Rattle.std.proofs.Common.{nat_lt, refl, sym, ◌∙◌, ap, ◌==◌}
use Rattle.std.proofs.lemmas.Bool.{eqb-true, eqb-false, or_parts}
use Rattle.std.proofs.lemmas.List.{get_or-set_same, get_or-set_other}
use Rattle.std.specs.Prelude.{if◌then◌else◌}
use Rattle.serial_order.specs.{Side, Op, ModuleState, cut_to, temps_of, memory_of, Exchange, moved_by, HasAllPlaces, Used, writes}
use Rattle.serial_order.specs.{SerialProgress}
use Rattle.serial_order.specs.declared.order.Used.TheVariants.{Register, Memory, Reading, Writing}
use Rattle.flow_word.specs.declared.access.Side.TheVariants.{Pop, Push}
use Rattle.flow_design.specs.declared.expr.Op.TheVariants.{Set, Load, Store, Read, Write, TryRead, TryWrite, Empty, Full}
use Rattle.flow_design.specs.declared.state.Effect.TheVariants.{Variable, Word}
use Rattle.lockstep_defs.proofs.{Queue.moved_by-append, States.stored_places}
use Rattle.serial_order.proofs.Outcomes.{Outcome, Nothing, ToVariable, ToWord, Setting, put, more, applied, done_by_op}
use Rattle.serial_order.proofs.Exchanges.{unmoved, pop_elsewhere, pop_no_push, push_elsewhere, push_no_pop}
use Rattle.serial_order.proofs.Alike.{set_alike, held}

-- a value for a register, or for a temp after them, by whether it is a register
abbrev chosen : Setting → ℕ → ℕ → ℕ → ModuleState → Bool → ModuleState
chosen c i v w s is_register =
    if is_register
    then record s { registers = set s.registers v (cut_to (get_or c.owner.registers v 0) w) }
    else (let t = v - length c.owner.registers in
    record s { temps = set s.temps i (set (temps_of s i) t (cut_to (get_or c.block.temps t 0) w)) })

-- ---- places

abbrev pub Placed : Setting → ℕ → SerialProgress → Type 0
Placed c n r = HasAllPlaces c.owner c.block n r.state

pub applied_places : (c : Setting) (n i : ℕ) (o : Outcome) (x : Option Exchange) (r : SerialProgress) → Placed c n r
    → Placed c n (applied c i o x r)
applied_places c n i Nothing x r h = h
applied_places c n i (ToVariable v w) x r h = stored_places c.owner c.block n r.state (Variable i v w) h
applied_places c n i (ToWord k a w) x r h = stored_places c.owner c.block n r.state (Word k a w) h

-- ---- one outcome with two runs that hold alike

-- what was moved by one exchange more
abbrev moved_more : Side → ℕ → Option Exchange → List Exchange → List ℕ
moved_more side f x done = moved_by side f (more x done)

more_alike : (side : Side) (f : ℕ) (x : Option Exchange) (done done' : List Exchange)
    → moved_by side f done ≡ moved_by side f done' → moved_more side f x done ≡ moved_more side f x done'
more_alike side f None done done' h = h
more_alike side f (Some x) done done' h =
    moved_by-append side f done (x ∷ [])
    ∙ (ap (λ (vs : List ℕ). vs ++ moved_by side f (x ∷ [])) h ∙ sym (moved_by-append side f done' (x ∷ [])))

register_alike : (c : Setting) (y i j : ℕ) (o : Outcome) (s s' : ModuleState) → length s.registers ≡ length s'.registers
    → get_or s.registers y 0 ≡ get_or s'.registers y 0
    → get_or (put c i o s).registers y 0 ≡ get_or (put c j o s').registers y 0
register_alike c y i j Nothing s s' l h = h
register_alike c y i j (ToWord n a w) s s' l h = h
register_alike c y i j (ToVariable v w) s s' l h = by_test (nat_lt v (length c.owner.registers))
  where
    by_test : (b : Bool)
        → get_or (chosen c i v w s b).registers y 0
        ≡ get_or (chosen c j v w s' b).registers y 0
    by_test true = set_alike s.registers s'.registers v y _ 0 l h
    by_test false = h

-- a value for a variable leaves the memories
variable_leaves : (c : Setting) (i v w n : ℕ) (s : ModuleState) → memory_of (put c i (ToVariable v w) s) n ≡ memory_of s n
variable_leaves c i v w n s = by_test (nat_lt v (length c.owner.registers))
  where
    by_test : (b : Bool)
        → memory_of (chosen c i v w s b) n
        ≡ memory_of s n
    by_test true = refl
    by_test false = refl

memory_alike : (c : Setting) (n i j : ℕ) (o : Outcome) (s s' : ModuleState) → length s.memories ≡ length s'.memories
    → memory_of s n ≡ memory_of s' n → memory_of (put c i o s) n ≡ memory_of (put c j o s') n
memory_alike c n i j Nothing s s' l h = h
memory_alike c n i j (ToVariable v w) s s' l h = variable_leaves c i v w n s ∙ (h ∙ sym (variable_leaves c j v w n s'))
memory_alike c n i j (ToWord k a w) s s' l h = by_test (k == n) refl
  where
    by_test : (b : Bool) → (k == n) ≡ b → memory_of (put c i (ToWord k a w) s) n ≡ memory_of (put c j (ToWord k a w) s') n
    by_test true e =
        let same = eqb-true k n e in
        let memory : memory_of s k ≡ memory_of s' k = rw same h in
        rw memory (set_alike s.memories s'.memories k n _ [] l h)
    by_test false e =
        let other = eqb-false k n e in
        get_or-set_other s.memories k n _ [] (λ same. other (sym same))
        ∙ (h ∙ sym (get_or-set_other s'.memories k n _ [] (λ same. other (sym same))))

pub applied_alike : (c : Setting) (u : Used) (n k i j : ℕ) (o : Outcome) (x : Option Exchange) (r r' : SerialProgress)
    → Placed c n r → Placed c k r' → held u r ≡ held u r' → held u (applied c i o x r) ≡ held u (applied c j o x r')
applied_alike c (Register y) n k i j o x r r' p q h =
    ap (λ (v : ℕ). v ∷ []) (register_alike c y i j o r.state r'.state (p.registers ∙ sym q.registers) cc)
applied_alike c (Memory m) n k i j o x r r' p q h = memory_alike c m i j o r.state r'.state (p.memories ∙ sym q.memories) h
applied_alike c (Reading f) n k i j o x r r' p q h = more_alike Pop f x r.done r'.done h
applied_alike c (Writing f) n k i j o x r r' p q h = more_alike Push f x r.done r'.done h

-- ---- an operation leaves what it does not write

register_left : (c : Setting) (y i v w : ℕ) (s : ModuleState) → (v == y) ≡ false
    → get_or (put c i (ToVariable v w) s).registers y 0 ≡ get_or s.registers y 0
register_left c y i v w s e = by_test (nat_lt v (length c.owner.registers))
  where
    by_test : (b : Bool)
        → get_or (chosen c i v w s b).registers y 0
        ≡ get_or s.registers y 0
    by_test true = get_or-set_other s.registers v y _ 0 (λ same. eqb-false v y e (sym same))
    by_test false = refl

pub op_leaves : (c : Setting) (x : SerialProgress) (u : Used) (i : ℕ) (op : Op ℕ) (r : SerialProgress) → writes u op ≡ false
    → held u (done_by_op c x i op r) ≡ held u r
op_leaves c x (Register y) i (Set v e) r h = ap (λ (v : ℕ). v ∷ []) (register_left c y i v _ r.state (or_parts (v == y) false h).0)
op_leaves c x (Register y) i (Load v n e) r h = ap (λ (v : ℕ). v ∷ []) (register_left c y i v _ r.state (or_parts (v == y) false h).0)
op_leaves c x (Register y) i (Read f v) r h = ap (λ (v : ℕ). v ∷ []) (register_left c y i v _ r.state (or_parts (v == y) false h).0)
op_leaves c x (Register y) i (Store n e a) r h = refl
op_leaves c x (Register y) i (Write f e) r h = refl
op_leaves c x (Register y) i (TryRead f v ok) r h = refl
op_leaves c x (Register y) i (TryWrite f ok e) r h = refl
op_leaves c x (Register y) i (Empty f v) r h = refl
op_leaves c x (Register y) i (Full f v) r h = refl
op_leaves c x (Memory k) i (Set v e) r h = variable_leaves c i v _ k r.state
op_leaves c x (Memory k) i (Load v n e) r h = variable_leaves c i v _ k r.state
op_leaves c x (Memory k) i (Read f v) r h = variable_leaves c i v _ k r.state
op_leaves c x (Memory k) i (Store n e a) r h =
    let other = eqb-false n k h in get_or-set_other r.state.memories n k _ [] (λ same. other (sym same))
op_leaves c x (Memory k) i (Write f e) r h = refl
op_leaves c x (Memory k) i (TryRead f v ok) r h = refl
op_leaves c x (Memory k) i (TryWrite f ok e) r h = refl
op_leaves c x (Memory k) i (Empty f v) r h = refl
op_leaves c x (Memory k) i (Full f v) r h = refl
op_leaves c x (Reading f) i (Set v e) r h = refl
op_leaves c x (Reading f) i (Load v n e) r h = refl
op_leaves c x (Reading f) i (Read g v) r h = unmoved Pop f _ r.done (pop_elsewhere f g _ h)
op_leaves c x (Reading f) i (Store n e a) r h = refl
op_leaves c x (Reading f) i (Write g e) r h = unmoved Pop f _ r.done (push_no_pop f g _)
op_leaves c x (Reading f) i (TryRead g v ok) r h = refl
op_leaves c x (Reading f) i (TryWrite g ok e) r h = refl
op_leaves c x (Reading f) i (Empty g v) r h = refl
op_leaves c x (Reading f) i (Full g v) r h = refl
op_leaves c x (Writing f) i (Set v e) r h = refl
op_leaves c x (Writing f) i (Load v n e) r h = refl
op_leaves c x (Writing f) i (Read g v) r h = unmoved Push f _ r.done (pop_no_push f g _)
op_leaves c x (Writing f) i (Store n e a) r h = refl
op_leaves c x (Writing f) i (Write g e) r h = unmoved Push f _ r.done (push_elsewhere f g _ h)
op_leaves c x (Writing f) i (TryRead g v ok) r h = refl
op_leaves c x (Writing f) i (TryWrite g ok e) r h = refl
op_leaves c x (Writing f) i (Empty g v) r h = refl
op_leaves c x (Writing f) i (Full g v) r h = refl

-- ---- temps

pub temps_alike : (c : Setting) (i j : ℕ) (o : Outcome) (s s' : ModuleState) → i < length s.temps → j < length s'.temps
    → temps_of s i ≡ temps_of s' j → temps_of (put c i o s) i ≡ temps_of (put c j o s') j
temps_alike c i j Nothing s s' l l' h = h
temps_alike c i j (ToWord n a w) s s' l l' h = h
temps_alike c i j (ToVariable v w) s s' l l' h = by_test (nat_lt v (length c.owner.registers))
  where
    by_test : (b : Bool)
        → temps_of (chosen c i v w s b) i
        ≡ temps_of (chosen c j v w s' b) j
    by_test true = h
    by_test false =
        get_or-set_same s.temps i _ [] l
        ∙ (ap (λ (ts : List ℕ). set ts (v - length c.owner.registers) (cut_to (get_or c.block.temps (v - length c.owner.registers) 0) w)) h
        ∙ sym (get_or-set_same s'.temps j _ [] l'))

pub temps_left : (c : Setting) (i k : ℕ) (o : Outcome) (s : ModuleState) → k ≢ i → temps_of (put c i o s) k ≡ temps_of s k
temps_left c i k Nothing s other = refl
temps_left c i k (ToWord n a w) s other = refl
temps_left c i k (ToVariable v w) s other = by_test (nat_lt v (length c.owner.registers))
  where
    by_test : (b : Bool)
        → temps_of (chosen c i v w s b) k
        ≡ temps_of s k
    by_test true = refl
    by_test false = get_or-set_other s.temps i k _ [] other
