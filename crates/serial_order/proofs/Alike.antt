-- What an operation makes of a thing follows from the things that it uses and from the temps of its iteration.
use Rattle.std.proofs.Common.{◌≡◌, ℕ, zero, suc, ◌-◌, ◌%◌, ◌^◌, ◌<◌, List, [], ◌∷◌, length, get_or, set, Option, Some, None, Bool, true}
use Rattle.std.proofs.Common.{false, not, ◌||◌, nat_lt, refl, sym, ◌∙◌, ap, arith, ◌==◌}
use Rattle.std.proofs.lemmas.Bool.{ltb-true, ltb-false, eq-eqb, or_right, or_left}
use Rattle.std.proofs.{Math.ListN.get_or-append, Math.Seq.get_or-append_right}
use Rattle.flow_word.specs.declared.access.Side.TheVariants.{Pop, Push}
use Rattle.serial_order.specs.{Expr, Op, Timed, temps_of, passes, IsOperationSound, variable, value, unary, extended, places_written}
use Rattle.serial_order.specs.{expressions_of, memory_of, moved_by, Used, SerialProgress, names, is_named, is_this, is_listed, is_use}
use Rattle.serial_order.specs.declared.order.Used.TheVariants.{Register, Memory, Reading, Writing}
use Rattle.flow_design.specs.declared.expr.Expr.{more_of-Expr, Number, Var, Unary', Binary', Sext', Pick'}
use Rattle.flow_design.specs.declared.design.Module.{Module}
use Rattle.flow_design.specs.declared.expr.Op.TheVariants.{Set, Load, Store, Read, Write, TryRead, TryWrite, Empty, Full}
use Rattle.serial_order.proofs.Outcomes.{ToVariable, Setting, outcome, exchange}

-- ---- tests and lists

pub only : {A : Type 0} {a b : A} → a ∷ [] ≡ b ∷ [] → a ≡ b
only e = cc

-- two lists of one length that agree at a place agree there when both are written at one place
pub set_alike : {A : Type 0} (xs ys : List A) (k j : ℕ) (v d : A) → length xs ≡ length ys → get_or xs j d ≡ get_or ys j d
    → get_or (set xs k v) j d ≡ get_or (set ys k v) j d
set_alike [] [] k j v d l e = refl
set_alike [] (y ∷ ys) k j v d l e = absurd (omega arith)
set_alike (x ∷ xs) [] k j v d l e = absurd (omega arith)
set_alike (x ∷ xs) (y ∷ ys) zero zero v d l e = refl
set_alike (x ∷ xs) (y ∷ ys) zero (suc j) v d l e = e
set_alike (x ∷ xs) (y ∷ ys) (suc k) zero v d l e = e
set_alike (x ∷ xs) (y ∷ ys) (suc k) (suc j) v d l e = set_alike xs ys k j v d (omega arith) e

-- ---- things

-- a thing of a module
abbrev pub IsThing : ℕ → Module → Used → Type 0
IsThing channels m (Register x) = x < length m.registers
IsThing channels m (Memory n) = n < length m.memories
IsThing channels m (Reading f) = f < channels
IsThing channels m (Writing f) = f < channels

-- what a run holds of a thing: a register's value, a memory's words, and what was popped or pushed at an end
abbrev pub held : Used → SerialProgress → List ℕ
held (Register x) r = get_or r.state.registers x 0 ∷ []
held (Memory n) r = memory_of r.state n
held (Reading f) r = moved_by Pop f r.done
held (Writing f) r = moved_by Push f r.done

-- ---- what an operation reads

-- two runs, and a live iteration of each, that agree in all that an operation uses
pub record Agree (c : Setting) (x y : SerialProgress) (i j : ℕ) (t : Timed) : Type 0 where
  pub registers : length x.state.registers ≡ length c.owner.registers
  pub as_many : length y.state.registers ≡ length c.owner.registers
  pub temps : temps_of x.state i ≡ temps_of y.state j
  pub things : (u : Used) → IsThing (length c.channels) c.owner u → is_use u t ≡ true → held u x ≡ held u y

same_value : (rs ts rs' ts' : List ℕ) (e : Expr ℕ) → ((v : ℕ) → names v e ≡ true → variable rs ts v ≡ variable rs' ts' v)
    → value rs ts e ≡ value rs' ts' e
unfolding value names
same_value rs ts rs' ts' (Number n) h = refl
same_value rs ts rs' ts' (Var at) h = h at (eq-eqb at at refl)
same_value rs ts rs' ts' (Unary' op s (more_of-Expr a _)) h = ap (unary op) (same_value rs ts rs' ts' a h)
same_value rs ts rs' ts' (Binary' op s (more_of-Expr a _) t (more_of-Expr b _)) h =
    let first = same_value rs ts rs' ts' a (λ v e. h v (or_left (names v a) (names v b) e)) in
    let second = same_value rs ts rs' ts' b (λ v e. h v (or_right (names v a) (names v b) e)) in cc
same_value rs ts rs' ts' (Sext' k s (more_of-Expr a _)) h = ap (λ v. extended k (v % 2 ^ k)) (same_value rs ts rs' ts' a h)
same_value rs ts rs' ts' (Pick' s (more_of-Expr a _) t (more_of-Expr b _) u (more_of-Expr c _)) h =
    let first = same_value rs ts rs' ts' a (λ v e. h v (or_left (names v a) (names v b || names v c) e)) in
    let second =
    same_value rs ts rs' ts' b (λ v e. h v (or_right (names v a) (names v b || names v c) (or_left (names v b) (names v c) e))) in
    let third =
    same_value rs ts rs' ts' c (λ v e. h v (or_right (names v a) (names v b || names v c) (or_right (names v b) (names v c) e))) in cc

same_variable : (c : Setting) (x y : SerialProgress) (i j : ℕ) (t : Timed) → Agree c x y i j t → (v : ℕ) → is_use (Register v) t ≡ true
    → variable x.state.registers (temps_of x.state i) v ≡ variable y.state.registers (temps_of y.state j) v
same_variable c x y i j t h v used = by_test (nat_lt v (length c.owner.registers)) refl
  where
    by_test : (b : Bool) → nat_lt v (length c.owner.registers) ≡ b
        → variable x.state.registers (temps_of x.state i) v ≡ variable y.state.registers (temps_of y.state j) v
    by_test true e =
        let low = ltb-true v (length c.owner.registers) e in
        get_or-append x.state.registers (temps_of x.state i) 0 v (omega (arith, h.registers))
        ∙ (only (h.things (Register v) low used)
        ∙ sym (get_or-append y.state.registers (temps_of y.state j) 0 v (omega (arith, h.as_many))))
    by_test false e =
        let past = ltb-false v (length c.owner.registers) e in
        get_or-append_right x.state.registers (temps_of x.state i) v 0 (omega (arith, h.registers))
        ∙ (ap (λ (ts : List ℕ). get_or ts (v - length x.state.registers) 0) h.temps
        ∙ (ap (λ (n : ℕ). get_or (temps_of y.state j) (v - n) 0) (h.registers ∙ sym h.as_many)
        ∙ sym (get_or-append_right y.state.registers (temps_of y.state j) v 0 (omega (arith, h.as_many)))))

pub same_passes : (c : Setting) (x y : SerialProgress) (i j age : ℕ) (g : Option ℕ) (op : Op ℕ)
    → Agree c x y i j (record { offset = age; guard = g; op = op })
    → passes x.state.registers (temps_of x.state i) g ≡ passes y.state.registers (temps_of y.state j) g
same_passes c x y i j age None op h = refl
same_passes c x y i j age (Some g) op h =
    ap (λ (v : ℕ). not (v == 0))
    (same_variable c x y i j (record { offset = age; guard = Some g; op = op }) h g (or_left (g == g) _ (eq-eqb g g refl)))

-- the values of an operation's expressions
same_named : (c : Setting) (x y : SerialProgress) (i j : ℕ) (t : Timed) (e : Expr ℕ) → Agree c x y i j t
    → ((v : ℕ) → names v e ≡ true → is_named v (expressions_of t.op) ≡ true)
    → value x.state.registers (temps_of x.state i) e ≡ value y.state.registers (temps_of y.state j) e
same_named c x y i j t e h named =
    same_value x.state.registers (temps_of x.state i) y.state.registers (temps_of y.state j) e
    (λ v is. same_variable c x y i j t h v
    (or_right (is_this v t.guard) (is_named v (expressions_of t.op) || is_listed v (places_written t.op))
    (or_left (is_named v (expressions_of t.op)) (is_listed v (places_written t.op)) (named v is))))

pub same_outcome : (c : Setting) (x y : SerialProgress) (i j age : ℕ) (g : Option ℕ) (op : Op ℕ)
    → IsOperationSound (length c.channels) c.owner (length c.block.temps) op
    → Agree c x y i j (record { offset = age; guard = g; op = op })
    → outcome c x i op ≡ outcome c y j op
same_outcome c x y i j age g (Set v e) sound h =
    ap (ToVariable v) (same_named c x y i j _ e h (λ v is. or_left (names v e) false is))
same_outcome c x y i j age g (Load v n e) sound h =
    let val = same_named c x y i j _ e h (λ v is. or_left (names v e) false is) in
    let mem = h.things (Memory n) sound.memory (eq-eqb n n refl) in cc
same_outcome c x y i j age g (Store n e a) sound h =
    let at = same_named c x y i j _ e h (λ v is. or_left (names v e) (names v a || false) is) in
    let val = same_named c x y i j _ a h (λ v is. or_right (names v e) (names v a || false) (or_left (names v a) false is)) in
    let mem = h.things (Memory n) sound.memory (eq-eqb n n refl) in cc
same_outcome c x y i j age g (Read f v) sound h =
    let pops = h.things (Reading f) sound.channel (eq-eqb f f refl) in cc
same_outcome c x y i j age g (Write f e) sound h = refl
same_outcome c x y i j age g (TryRead f v ok) sound h = refl
same_outcome c x y i j age g (TryWrite f ok e) sound h = refl
same_outcome c x y i j age g (Empty f v) sound h = refl
same_outcome c x y i j age g (Full f v) sound h = refl

pub same_exchange : (c : Setting) (x y : SerialProgress) (i j age : ℕ) (g : Option ℕ) (op : Op ℕ)
    → IsOperationSound (length c.channels) c.owner (length c.block.temps) op
    → Agree c x y i j (record { offset = age; guard = g; op = op })
    → exchange c x i op ≡ exchange c y j op
same_exchange c x y i j age g (Set v e) sound h = refl
same_exchange c x y i j age g (Load v n e) sound h = refl
same_exchange c x y i j age g (Store n e a) sound h = refl
same_exchange c x y i j age g (Read f v) sound h =
    let pops = h.things (Reading f) sound.channel (eq-eqb f f refl) in cc
same_exchange c x y i j age g (Write f e) sound h =
    let val = same_named c x y i j _ e h (λ v is. or_left (names v e) false is) in cc
same_exchange c x y i j age g (TryRead f v ok) sound h = refl
same_exchange c x y i j age g (TryWrite f ok e) sound h = refl
same_exchange c x y i j age g (Empty f v) sound h = refl
same_exchange c x y i j age g (Full f v) sound h = refl
