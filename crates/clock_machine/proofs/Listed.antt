-- What operations pop, push and tell, as lists.
use Rattle.std.proofs.Common.{◌≡◌, ℕ, List, [], ◌∷◌, ◌++◌, map, length, eqb, cond, Bool, true, false, refl, sym, ◌∙◌, ap, append_assoc}
use Rattle.std.proofs.lemmas.List.{map-append, length-append}
use Rattle.std.proofs.{lemmas.List.Concat.flat_map-append, lemmas.List.Elements.filter-append}
use Rattle.std.specs.List.{filter}
use Rattle.flow_word.specs.declared.access.Side.TheVariants.{Pop, Push}
use Rattle.clock_machine.specs.{is_yes, Exchange, moved_by, moved_value, queries, PushedValue, outcomes_in, popped, pushed}

-- what some operations give, and then others, is what all of them give
abbrev pub Adds : {Y : Type 0} → (List Exchange → List Y) → Type 0
Adds {Y} gives = (xs ys : List Exchange) → gives (xs ++ ys) ≡ gives xs ++ gives ys

pub popped_adds : Adds popped
popped_adds xs ys = flat_map-append _ xs ys

pub pushed_adds : Adds pushed
pushed_adds xs ys = flat_map-append _ xs ys

pub outcomes_add : Adds outcomes_in
outcomes_add xs ys = ap (map (λ (x : Exchange). is_yes x.reply)) (filter-append _ xs ys) ∙ map-append _ (queries xs) (queries ys)

-- what more operations give is added
pub added : {Y : Type 0} (gives : List Exchange → List Y) → Adds gives → (before now next : List Y) (so_far here more : List Exchange)
    → more ≡ so_far ++ here → now ≡ before ++ gives so_far → next ≡ now ++ gives here → next ≡ before ++ gives more
added gives adds before now next so_far here more is e f =
    f ∙ (ap (λ l. l ++ gives here) e ∙ (append_assoc before (gives so_far) (gives here)
    ∙ ap (λ l. before ++ l) (sym (ap gives is ∙ adds so_far here))))

-- ---- what is moved on one channel

pops_at : (f j : ℕ) (vs : List ℕ) → length (filter (λ (c : ℕ). eqb c f) (map (λ (v : ℕ). j) vs)) ≡ length (cond (eqb j f) vs [])
pops_at f j vs = by_test (eqb j f) refl vs
  where
    by_test : (b : Bool) → eqb j f ≡ b → (ws : List ℕ)
        → length (filter (λ (c : ℕ). eqb c f) (map (λ (v : ℕ). j) ws)) ≡ length (cond b ws [])
    by_test true e [] = refl
    by_test true e (w ∷ ws) = let rest = by_test true e ws in rw (e, rest) refl
    by_test false e [] = refl
    by_test false e (w ∷ ws) = let rest = by_test false e ws in rw (e, rest) refl

pushes_at : (f j : ℕ) (vs : List ℕ)
    → map (λ (q : PushedValue). q.value) (filter (λ (q : PushedValue). eqb q.channel f) (map (λ v. record { channel = j; value = v }) vs))
    ≡ cond (eqb j f) vs []
pushes_at f j vs = by_test (eqb j f) refl vs
  where
    by_test : (b : Bool) → eqb j f ≡ b → (ws : List ℕ)
        → map (λ (q : PushedValue). q.value)
        (filter (λ (q : PushedValue). eqb q.channel f) (map (λ v. record { channel = j; value = v }) ws))
        ≡ cond b ws []
    by_test true e [] = refl
    by_test true e (w ∷ ws) = let rest = by_test true e ws in rw (e, rest) refl
    by_test false e [] = refl
    by_test false e (w ∷ ws) = let rest = by_test false e ws in rw (e, rest) refl

pub popped_at : (f : ℕ) (xs : List Exchange) → length (filter (λ (c : ℕ). eqb c f) (popped xs)) ≡ length (moved_by Pop f xs)
unfolding moved_by
popped_at f [] = refl
popped_at f (x ∷ xs) =
    let at = λ (c : ℕ). eqb c f in
    let own = map (λ (v : ℕ). x.request.channel) (moved_value Pop x) in
    let here = pops_at f x.request.channel (moved_value Pop x) in
    let rest = popped_at f xs in
    ap length (filter-append at own (popped xs)) ∙ (length-append (filter at own) (filter at (popped xs)) ∙ (rw (here, rest) refl
    ∙ sym (length-append (cond (eqb x.request.channel f) (moved_value Pop x) []) (moved_by Pop f xs))))

pub pushed_at : (f : ℕ) (xs : List Exchange)
    → map (λ (q : PushedValue). q.value) (filter (λ (q : PushedValue). eqb q.channel f) (pushed xs)) ≡ moved_by Push f xs
unfolding moved_by
pushed_at f [] = refl
pushed_at f (x ∷ xs) =
    let at = λ (q : PushedValue). eqb q.channel f in
    let value = λ (q : PushedValue). q.value in
    let own : List PushedValue = map (λ v. record { channel = x.request.channel; value = v }) (moved_value Push x) in
    let here = pushes_at f x.request.channel (moved_value Push x) in
    let rest = pushed_at f xs in
    ap (map value) (filter-append at own (pushed xs)) ∙ (map-append value (filter at own) (filter at (pushed xs)) ∙ rw (here, rest) refl)
