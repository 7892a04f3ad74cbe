-- What the operations of a local clock make of a module: one outcome and one exchange each.
use Rattle.std.proofs.Common.{◌≡◌, ℕ, suc, ◌+◌, ◌≤◌, ◌<◌, List, [], ◌∷◌, ◌++◌, length, map, drop, get_or, zero-add, Option, Some, None}
use Rattle.std.proofs.Common.{Bool, true, false, cond, refl, ◌∙◌, ap, subst, arith, ◌==◌, inl, inr, append_assoc, append-nil, add-zero}
use Rattle.std.proofs.{lemmas.Bool.eq-eqb, lemmas.List.Sums.fold-append}
use Rattle.std.specs.Prelude.{slice_index, if◌then◌else◌, nat_eq, ◌⊎◌}
use Rattle.std.specs.List.{fold, filter, filter_map, flat_map, enumerate_from, cons_option}
use Rattle.serial_order.specs.{Reply, Op, Block, Channel, Timed, Due, ModuleState, Request, cut_to, interval, no_operation, block_of}
use Rattle.serial_order.specs.{operation_at, ages, temps_of, passes, due_at, due_in, due, live_count, IsDueIn, takes, is_query, Exchange}
use Rattle.serial_order.specs.{moved_by, paired, width_of, value_of, request_of, requests, memory_of, address_in, effects_of}
use Rattle.serial_order.specs.{is_fifo_operation, effects, stored, reading_end, value_given, serial_reply, all_given, SerialProgress}
use Rattle.serial_order.specs.{clock_made}
use Rattle.flow_design.specs.{declared.design.Module.Module, declared.state.Reply.TheVariants.Done, declared.state.Reply.TheVariants.Value}
use Rattle.flow_design.specs.declared.expr.Op.TheVariants.{Set, Load, Store, Read, Write, TryRead, TryWrite, Empty, Full}
use Rattle.flow_design.specs.declared.state.Effect.TheVariants.{Variable, Word}
use Rattle.flow_word.specs.declared.access.Side.TheVariants.{Pop}
use Rattle.lockstep_defs.proofs.{Standing.due_in_range, Due.AreApart, Due.how_many, Due.due_once}
use Rattle.serial_order.proofs.Exchanges.{pop_of, push_of, unmoved, pop_elsewhere, push_no_pop}
use Rattle.serial_order.proofs.Lists.{Among, among_all, among_at}
use Rattle.flow_word.specs.declared.access.Kind.TheVariants as kind

-- ---- outcomes

-- nothing for a place, or a value for a register or temp, or for the word of a memory at an address
pub data Outcome : Type 0 where
  Nothing : Outcome
  ToVariable : ℕ → ℕ → Outcome
  ToWord : ℕ → ℕ → ℕ → Outcome

-- lists of values, the channels, a module and one of its blocks
pub record Setting : Type 0 where
  pub lists : List (List ℕ)
  pub channels : List Channel
  pub owner : Module
  pub block : Block

-- what comes of an operation in a live iteration, where no queries are made
abbrev pub outcome : Setting → SerialProgress → ℕ → Op ℕ → Outcome
outcome c x i (Set v e) = ToVariable v (value_of x.state i e)
outcome c x i (Load v n e) = ToVariable v (slice_index (memory_of x.state n) (address_in x.state n (value_of x.state i e)))
outcome c x i (Store n e a) = ToWord n (address_in x.state n (value_of x.state i e)) (value_of x.state i a)
outcome c x i (Read f v) = ToVariable v (value_given c.lists f (length (moved_by Pop f x.done)))
outcome c x i (Write f e) = Nothing
outcome c x i (TryRead f v ok) = Nothing
outcome c x i (TryWrite f ok e) = Nothing
outcome c x i (Empty f v) = Nothing
outcome c x i (Full f v) = Nothing

abbrev pub exchange : Setting → SerialProgress → ℕ → Op ℕ → Option Exchange
exchange c x i (Set v e) = None
exchange c x i (Load v n e) = None
exchange c x i (Store n e a) = None
exchange c x i (Read f v) = Some (record {
  request = record { kind = kind.Read; channel = f; value = 0 };
  reply = Value (value_given c.lists f (length (moved_by Pop f x.done)));
})
exchange c x i (Write f e) = Some (record {
  request = record { kind = kind.Write; channel = f; value = cut_to (width_of c.channels f) (value_of x.state i e) };
  reply = Done;
})
exchange c x i (TryRead f v ok) = None
exchange c x i (TryWrite f ok e) = None
exchange c x i (Empty f v) = None
exchange c x i (Full f v) = None

abbrev pub put : Setting → ℕ → Outcome → ModuleState → ModuleState
put c i Nothing s = s
put c i (ToVariable v w) s = stored c.owner c.block s (Variable i v w)
put c i (ToWord n a w) s = stored c.owner c.block s (Word n a w)

abbrev pub more : Option Exchange → List Exchange → List Exchange
more None done = done
more (Some x) done = done ++ x ∷ []

abbrev pub applied : Setting → ℕ → Outcome → Option Exchange → SerialProgress → SerialProgress
applied c i o x r = record { state = put c i o r.state; done = more x r.done }

-- ---- a list of due operations

abbrev op_of : Setting → Due → Op ℕ
op_of c d = (operation_at c.block d.op).op

abbrev asked : Setting → SerialProgress → List Due → List Request
asked c x ds = filter_map (λ d. request_of c.channels x.state d.iteration (op_of c d)) ds

abbrev pub done_by_op : Setting → SerialProgress → ℕ → Op ℕ → SerialProgress → SerialProgress
done_by_op c x i op r = applied c i (outcome c x i op) (exchange c x i op) r

abbrev due_done : Setting → SerialProgress → SerialProgress → Due → SerialProgress
due_done c x r d = done_by_op c x d.iteration (op_of c d) r

-- the replies to requests, as if each came first in the local clock
abbrev at_once : Setting → SerialProgress → List Request → List Reply
at_once c x reqs = map (serial_reply c.lists x.done) reqs

-- the machine's effects and exchanges of these, from r on
abbrev machine_done : Setting → SerialProgress → List Due → SerialProgress → SerialProgress
machine_done c x ds r = record {
  state = fold (stored c.owner c.block) r.state (effects c.block x.state ds (at_once c x (asked c x ds)));
  done = r.done ++ paired (asked c x ds) (at_once c x (asked c x ds));
}

-- the same where one operation comes before others
abbrev machine_first : Setting → SerialProgress → ℕ → Op ℕ → List Due → SerialProgress → SerialProgress
machine_first c x i op ds r =
    let reqs = cons_option (request_of c.channels x.state i op) (asked c x ds) in
    let replies = at_once c x reqs in record {
      state = fold (stored c.owner c.block) r.state
          (effects_of x.state i op (get_or replies 0 Done)
          ++ effects c.block x.state ds (cond (is_fifo_operation op) (drop 1 replies) replies));
      done = r.done ++ paired reqs replies;
    }

first_done : (c : Setting) (x : SerialProgress) (i : ℕ) (op : Op ℕ) → is_query op ≡ false → (ds : List Due) (r : SerialProgress)
    → machine_first c x i op ds r ≡ machine_done c x ds (done_by_op c x i op r)
first_done c x i (Set v e) plain ds r = refl
first_done c x i (Load v n e) plain ds r = refl
first_done c x i (Store n e a) plain ds r = refl
first_done c x i (Read f v) plain ds r = rw append_assoc refl
first_done c x i (Write f e) plain ds r = rw append_assoc refl
first_done c x i (TryRead f v ok) plain ds r = absurd cc
first_done c x i (TryWrite f ok e) plain ds r = absurd cc
first_done c x i (Empty f v) plain ds r = absurd cc
first_done c x i (Full f v) plain ds r = absurd cc

one_by_one : (c : Setting) (x : SerialProgress) (ds : List Due) → ((d : Due) → Among d ds → is_query (op_of c d) ≡ false)
    → (r : SerialProgress) → machine_done c x ds r ≡ fold (due_done c x) r ds
one_by_one c x [] plain r = ap (λ (d : List Exchange). record { state = r.state; done = d }) (append-nil r.done)
one_by_one c x (d ∷ ds) plain r =
    first_done c x d.iteration (op_of c d) (plain d (inl refl)) ds r
    ∙ one_by_one c x ds (λ e among. plain e (inr among)) (due_done c x r d)

-- ---- the live iterations

-- a scheduled operation in an iteration of this age: done where it is due
abbrev pub at_age : Setting → SerialProgress → ℕ → ℕ → SerialProgress → Timed → SerialProgress
at_age c x i age r t =
    if t.offset == age then (if passes x.state.registers (temps_of x.state i) t.guard then done_by_op c x i t.op r else r) else r

-- one live iteration, given by its place and its age
abbrev pub iteration_done : Setting → SerialProgress → SerialProgress → ℕ × ℕ → SerialProgress
iteration_done c x r it = fold (at_age c x it.0 it.1) r c.block.ops

fold-flat_map : {A B R : Type 0} (f : R → B → R) (g : A → List B) (r : R) (xs : List A)
    → fold f r (flat_map g xs) ≡ fold (λ r x. fold f r (g x)) r xs
fold-flat_map f g r [] = refl
fold-flat_map f g r (x ∷ xs) = fold-append f r (g x) (flat_map g xs) ∙ fold-flat_map f g (fold f r (g x)) xs

-- these are the block's operations from number k on
abbrev StandFrom : Block → ℕ → List Timed → Type 0
StandFrom b k ts = (j : ℕ) → j < length ts → operation_at b (k + j) ≡ get_or ts j no_operation

-- the due operations of an iteration, of the operations from number k on
abbrev due_from : Setting → SerialProgress → ℕ → ℕ → ℕ → List Timed → List Due
due_from c x i age k ts =
    map (λ n. record { iteration = i; op = n })
    (filter (λ n. passes x.state.registers (temps_of x.state i) (operation_at c.block n).guard)
    (map (λ t. t.0) (filter (λ t. (t.1).offset == age) (enumerate_from k ts))))

iteration_by_one : (c : Setting) (x : SerialProgress) (i age k : ℕ) (ts : List Timed) (r : SerialProgress) → StandFrom c.block k ts
    → fold (due_done c x) r (due_from c x i age k ts) ≡ fold (at_age c x i age) r ts
iteration_by_one c x i age k [] r h = refl
iteration_by_one c x i age k (t ∷ ts) r h =
    let here : operation_at c.block k ≡ t = subst (λ (n : ℕ). operation_at c.block n ≡ t) (add-zero k) (h 0 (omega arith)) in
    by_test (t.offset == age) here
    (λ r. iteration_by_one c x i age (k + 1) ts r
    (λ j l. subst (λ (n : ℕ). operation_at c.block n ≡ get_or ts j no_operation) (omega arith) (h (suc j) (omega arith))))
  where
    passing : (p : Bool) → operation_at c.block k ≡ t
        → ((r : SerialProgress) → fold (due_done c x) r (due_from c x i age (k + 1) ts) ≡ fold (at_age c x i age) r ts)
        → fold (due_done c x) r
        (map (λ n. record { iteration = i; op = n })
        (cond p (k ∷ filter (λ n. passes x.state.registers (temps_of x.state i) (operation_at c.block n).guard)
        (map (λ t. t.0) (filter (λ t. (t.1).offset == age) (enumerate_from (k + 1) ts))))
        (filter (λ n. passes x.state.registers (temps_of x.state i) (operation_at c.block n).guard)
        (map (λ t. t.0) (filter (λ t. (t.1).offset == age) (enumerate_from (k + 1) ts))))))
        ≡ fold (at_age c x i age) (cond p (done_by_op c x i t.op r) r) ts
    passing true here rest = rest (due_done c x r (record { iteration = i; op = k }))
        ∙ ap (λ (t : Timed). fold (at_age c x i age) (done_by_op c x i t.op r) ts) here
    passing false here rest = rest r

    by_test : (e : Bool) → operation_at c.block k ≡ t
        → ((r : SerialProgress) → fold (due_done c x) r (due_from c x i age (k + 1) ts) ≡ fold (at_age c x i age) r ts)
        → fold (due_done c x) r
        (map (λ n. record { iteration = i; op = n })
        (filter (λ n. passes x.state.registers (temps_of x.state i) (operation_at c.block n).guard)
        (map (λ t. t.0) (cond e ((k, t) ∷ filter (λ t. (t.1).offset == age) (enumerate_from (k + 1) ts))
        (filter (λ t. (t.1).offset == age) (enumerate_from (k + 1) ts))))))
        ≡ fold (at_age c x i age)
        (cond e (cond (passes x.state.registers (temps_of x.state i) t.guard) (done_by_op c x i t.op r) r) r) ts
    by_test false here rest = rest r
    by_test true here rest =
        passing (passes x.state.registers (temps_of x.state i) (operation_at c.block k).guard) here rest
        ∙ ap (λ (u : Timed). fold (at_age c x i age) (cond (passes x.state.registers (temps_of x.state i) u.guard)
        (done_by_op c x i t.op r) r) ts) here

-- the settings of a module's state
abbrev pub setting_of : List (List ℕ) → List Channel → Module → Block → Setting
setting_of lists channels m b = record { lists = lists; channels = channels; owner = m; block = b }

same_iterations : (c : Setting) (x r : SerialProgress) (its : List (ℕ × ℕ))
    → fold (λ r it. fold (due_done c x) r (due_in c.block x.state it)) r its ≡ fold (iteration_done c x) r its
unfolding due_at
same_iterations c x r [] = refl
same_iterations c x r (it ∷ its) =
    ap (λ (q : SerialProgress). fold (λ r it. fold (due_done c x) r (due_in c.block x.state it)) q its)
    (iteration_by_one c x it.0 it.1 0 c.block.ops r (λ j l. ap (operation_at c.block) (zero-add j)))
    ∙ same_iterations c x (iteration_done c x r it) its

-- ---- replies

abbrev pops : ℕ → Op ℕ → Bool
pops f op = takes (reading_end f) op

-- what was done pops a channel as x did, or these operations pop it no more
abbrev Unpopped : SerialProgress → List Exchange → (ℕ → ℕ) → Type 0
Unpopped x done count = (f : ℕ) → (moved_by Pop f done ≡ moved_by Pop f x.done) ⊎ (count f ≡ 0)

less : {A : Type 0} (n : ℕ) → A ⊎ (0 + n ≡ 0) → A ⊎ (n ≡ 0)
less n (inl same) = inl same
less n (inr none) = inr (omega arith)

-- one operation before others, where each channel is popped at most once
first_given : (c : Setting) (x : SerialProgress) (i : ℕ) (op : Op ℕ) (rest : List Request) (done : List Exchange) (count : ℕ → ℕ)
    → is_query op ≡ false → Unpopped x done (λ f. cond (pops f op) 1 0 + count f)
    → ((f : ℕ) → cond (pops f op) 1 0 + count f ≤ 1)
    → ((later : List Exchange) → Unpopped x later count → all_given c.lists later rest ≡ at_once c x rest)
    → all_given c.lists done (cons_option (request_of c.channels x.state i op) rest)
    ≡ at_once c x (cons_option (request_of c.channels x.state i op) rest)
first_given c x i (Set v e) rest done count plain before once given_rest = given_rest done (λ f. less (count f) (before f))
first_given c x i (Load v n e) rest done count plain before once given_rest = given_rest done (λ f. less (count f) (before f))
first_given c x i (Store n e a) rest done count plain before once given_rest = given_rest done (λ f. less (count f) (before f))
first_given c x i (Read g v) rest done count plain before once given_rest =
    let longer : List Exchange = done ++ pop_of g (value_given c.lists g (length (moved_by Pop g done))) ∷ [] in
    ap (λ (v : ℕ). Value v ∷ all_given c.lists longer rest) (this (before g))
    ∙ ap (λ (later : List Reply). Value (value_given c.lists g (length (moved_by Pop g x.done))) ∷ later) (given_rest longer later)
  where
    this : (moved_by Pop g done ≡ moved_by Pop g x.done) ⊎ (cond (nat_eq g g) 1 0 + count g ≡ 0)
        → value_given c.lists g (length (moved_by Pop g done)) ≡ value_given c.lists g (length (moved_by Pop g x.done))
    this (inl same) = ap (λ (vs : List ℕ). value_given c.lists g (length vs)) same
    this (inr none) =
        let some = ap (λ (b : Bool). cond {A = ℕ} b 1 0) (eq-eqb g g refl) in absurd (omega arith)

    later : Unpopped x (done ++ pop_of g (value_given c.lists g (length (moved_by Pop g done))) ∷ []) count
    later f = by_test (nat_eq f g) refl (before f) (once f)
      where
        by_test : (b : Bool) → nat_eq f g ≡ b → (moved_by Pop f done ≡ moved_by Pop f x.done) ⊎ (cond b 1 0 + count f ≡ 0)
            → cond b 1 0 + count f ≤ 1
            → (moved_by Pop f (done ++ pop_of g (value_given c.lists g (length (moved_by Pop g done))) ∷ []) ≡ moved_by Pop f x.done)
            ⊎ (count f ≡ 0)
        by_test true e h most = inr (omega arith)
        by_test false e (inl same) most = inl (unmoved Pop f _ done (pop_elsewhere f g _ e) ∙ same)
        by_test false e (inr none) most = inr (omega arith)
first_given c x i (Write g e) rest done count plain before once given_rest =
    ap (λ (later : List Reply). Done ∷ later)
    (given_rest (done ++ push_of g (cut_to (width_of c.channels g) (value_of x.state i e)) ∷ []) (λ f. later f (less (count f) (before f))))
  where
    later : (f : ℕ) → (moved_by Pop f done ≡ moved_by Pop f x.done) ⊎ (count f ≡ 0)
        → (moved_by Pop f (done ++ push_of g (cut_to (width_of c.channels g) (value_of x.state i e)) ∷ []) ≡ moved_by Pop f x.done)
        ⊎ (count f ≡ 0)
    later f (inl same) = inl (unmoved Pop f _ done (push_no_pop f g _) ∙ same)
    later f (inr none) = inr none
first_given c x i (TryRead g v ok) rest done count plain before once given_rest = absurd cc
first_given c x i (TryWrite g ok e) rest done count plain before once given_rest = absurd cc
first_given c x i (Empty g v) rest done count plain before once given_rest = absurd cc
first_given c x i (Full g v) rest done count plain before once given_rest = absurd cc

all_at_once : (c : Setting) (x : SerialProgress) (ds : List Due) → ((d : Due) → Among d ds → is_query (op_of c d) ≡ false)
    → ((f : ℕ) → how_many (pops f) c.block ds ≤ 1) → (done : List Exchange) → Unpopped x done (λ f. how_many (pops f) c.block ds)
    → all_given c.lists done (asked c x ds) ≡ at_once c x (asked c x ds)
all_at_once c x [] plain once done before = refl
all_at_once c x (d ∷ ds) plain once done before =
    first_given c x d.iteration (op_of c d) (asked c x ds) done (λ f. how_many (pops f) c.block ds) (plain d (inl refl)) before once
    (λ later h. all_at_once c x ds (λ e among. plain e (inr among)) (λ f. let most = once f in omega arith) later h)

-- ---- a local clock

-- the block has no query
abbrev pub IsPlain : Block → Type 0
IsPlain b = (t : Timed) → Among t b.ops → is_query t.op ≡ false

-- and it pops each channel at most once in a local clock
pub record PopsOnce (b : Block) : Type 0 where
  pub plain : IsPlain b
  pub some : 0 < interval b
  pub apart : (f : ℕ) → AreApart (pops f) (interval b) b.ops

due_plain : (m : Module) (s : ModuleState) → IsPlain (block_of m s) → (d : Due) → Among d (due m s)
    → is_query (operation_at (block_of m s) d.op).op ≡ false
due_plain m s plain d among =
    let b = block_of m s in
    let is = among_all (IsDueIn b (live_count b s.control)) (due m s) (due_in_range m s) d among in
    plain (operation_at b d.op) (among_at b.ops d.op no_operation is.op)

-- a local clock with these replies
abbrev clock_with : List (List ℕ) → List Channel → Module → SerialProgress → List Reply → SerialProgress
clock_with lists channels m x replies =
    let c = setting_of lists channels m (block_of m x.state) in record {
      state = fold (stored m (block_of m x.state)) x.state (effects (block_of m x.state) x.state (due m x.state) replies);
      done = x.done ++ paired (asked c x (due m x.state)) replies;
    }

clock_requests : (lists : List (List ℕ)) (channels : List Channel) (m : Module) (x : SerialProgress)
    → clock_made lists channels m x.state x.done
    ≡ clock_with lists channels m x
    (all_given lists x.done (asked (setting_of lists channels m (block_of m x.state)) x (due m x.state)))
unfolding requests
clock_requests lists channels m x = refl

due_by_iterations : (lists : List (List ℕ)) (channels : List Channel) (m : Module) (x : SerialProgress)
    → fold (due_done (setting_of lists channels m (block_of m x.state)) x) x (due m x.state)
    ≡ fold (iteration_done (setting_of lists channels m (block_of m x.state)) x) x
    (enumerate_from 0 (ages (block_of m x.state) x.state.control))
unfolding due
due_by_iterations lists channels m x =
    let c = setting_of lists channels m (block_of m x.state) in
    let its = enumerate_from 0 (ages (block_of m x.state) x.state.control) in
    fold-flat_map (due_done c x) (due_in (block_of m x.state) x.state) x its ∙ same_iterations c x x its

-- a local clock without queries, iteration by iteration
pub clock_by_iterations : (lists : List (List ℕ)) (channels : List Channel) (m : Module) (x : SerialProgress)
    → PopsOnce (block_of m x.state) → clock_made lists channels m x.state x.done
    ≡ fold (iteration_done (setting_of lists channels m (block_of m x.state)) x) x
    (enumerate_from 0 (ages (block_of m x.state) x.state.control))
clock_by_iterations lists channels m x h =
    let c = setting_of lists channels m (block_of m x.state) in
    let plain = due_plain m x.state h.plain in
    clock_requests lists channels m x
    ∙ (ap (λ (replies : List Reply). clock_with lists channels m x replies)
    (all_at_once c x (due m x.state) plain (λ f. due_once (pops f) m x.state (h.apart f) h.some) x.done (λ f. inl refl))
    ∙ (one_by_one c x (due m x.state) plain x ∙ due_by_iterations lists channels m x))
