-- In one clock a side of a channel is moved by its owner alone.
use Rattle.std.proofs.Common.{◌≡◌, ◌≢◌, ℕ, suc, ◌+◌, ◌-◌, ◌≤◌, ◌<◌, List, [], ◌∷◌, ◌++◌, map, get_or, Bool, true, false, cond, refl, sym}
use Rattle.std.proofs.Common.{◌∙◌, ap, ap₂, arith, inl, inr, ◌==◌}
use Rattle.std.proofs.lemmas.Bool.{cases_Bool, cases_eq, eqb-true, cond-true, cond-false}
use Rattle.std.proofs.lemmas.List.{append-nil}
use Rattle.std.specs.List.{flat_map, enumerate_from, AllByRecursion}
use Rattle.timing_bridge.specs.{Side, Kind, side_of, Plan, Element, ModuleState, Request, FitsEngine, is_over, nobody, owner, StandsAtPort}
use Rattle.timing_bridge.specs.{can_take, front, reply, reply_by, moved_value, moved_by, moved, contents_of, numbered, requests_of, moves}
use Rattle.timing_bridge.specs.{answered, step_with, module_step, steps_in, state, state_at, history}
use Rattle.lockstep_defs.proofs.{Settled.history-suc, Queue.moved-nil, Queue.moved-append, Queue.moved-step}
use Rattle.timing_bridge.proofs.Requests.{stand}

pub nobody_moves : (p : Plan) (c : ℕ) (cs : List (List Element)) (i : ℕ) → moves p c cs (i, nobody) ≡ false
unfolding moves is_over
nobody_moves p c cs i = refl

-- ---- one module

-- what module m moves at a side of channel f in clock c
abbrev pub share : Plan → ℕ → List (List Element) → Side → ℕ → ℕ × ModuleState → List ℕ
share p c cs side f m = moved side f (module_step p c cs m)

pub share_moves : (p : Plan) (c : ℕ) (cs : List (List Element)) (side : Side) (f : ℕ) (m : ℕ × ModuleState) → moves p c cs m ≡ true
    → share p c cs side f m ≡ moved_by side f (map (answered p c cs) (requests_of p m))
share_moves p c cs side f m e =
    ap (moved side f) (cond-true (moves p c cs m) (step_with c m.0 (map (answered p c cs) (requests_of p m))) [] e)
    ∙ moved-step c m.0 side f _

pub share_stays : (p : Plan) (c : ℕ) (cs : List (List Element)) (side : Side) (f : ℕ) (m : ℕ × ModuleState) → moves p c cs m ≡ false
    → share p c cs side f m ≡ []
share_stays p c cs side f m e =
    ap (moved side f) (cond-false (moves p c cs m) (step_with c m.0 (map (answered p c cs) (requests_of p m))) [] e) ∙ moved-nil side f

-- an operation moves nothing at the other side of its channel
moves_nothing : (k : Kind) (channel value : ℕ) (q : Bool) (v : ℕ) (side : Side) → (side_of k ≢ side)
    → moved_value side (record { request = record { kind = k; channel = channel; value = value }; reply = reply_by k q v }) ≡ []
moves_nothing k channel value q v side h = grind arith

-- none of module i's requests on channel f stands at this side
abbrev pub StandsElsewhere : Plan → Side → ℕ → ℕ → Type 0
StandsElsewhere p side f i = (r : Request) → StandsAtPort p i r → r.channel ≡ f → side_of r.kind ≢ side

none_by : (p : Plan) (c : ℕ) (cs : List (List Element)) (side : Side) (f i : ℕ) → StandsElsewhere p side f i → (r : Request)
    → StandsAtPort p i r → (b : Bool) → (r.channel == f) ≡ b → cond b (moved_value side (answered p c cs r)) [] ≡ []
unfolding reply
none_by p c cs side f i never r h false e = refl
none_by p c cs side f i never r h true e =
    moves_nothing r.kind r.channel r.value (can_take p c cs (side_of r.kind) r.channel) (front (contents_of cs r.channel)) side
    (never r h (eqb-true r.channel f e))

none_moved : (p : Plan) (c : ℕ) (cs : List (List Element)) (side : Side) (f i : ℕ) → StandsElsewhere p side f i → (rs : List Request)
    → AllByRecursion (StandsAtPort p i) rs → moved_by side f (map (answered p c cs) rs) ≡ []
unfolding moved_by
none_moved p c cs side f i never [] h = refl
none_moved p c cs side f i never (r ∷ rs) h =
    rw (none_by p c cs side f i never r h.0 (r.channel == f) refl) (none_moved p c cs side f i never rs h.1)

pub none_shared : (p : Plan) → FitsEngine p → (c : ℕ) (cs : List (List Element)) (side : Side) (f i : ℕ) → StandsElsewhere p side f i
    → (s : ModuleState) → share p c cs side f (i, s) ≡ []
none_shared p h c cs side f i never s = elim (cases_Bool (moves p c cs (i, s))) [
  | inl e ↦ share_moves p c cs side f (i, s) e ∙ none_moved p c cs side f i never (requests_of p (i, s)) (stand p h i s)
  | inr e ↦ share_stays p c cs side f (i, s) e
]

-- only its owner stands there
not_owner : (p : Plan) (side : Side) (f i : ℕ) → (i ≢ owner p (record { side = side; channel = f })) → StandsElsewhere p side f i
not_owner p side f i ne r h e k = grind (arith, h.owned)

-- ---- all modules

-- a sum over numbered items to which one number alone gives something
only_one : {X Y : Type 0} (g : ℕ × X → List Y) (r : ℕ) (d : X) → ((i : ℕ) (x : X) → (i ≢ r) → g (i, x) ≡ []) → g (r, d) ≡ []
    → (n : ℕ) (xs : List X)
    → (n ≤ r → flat_map g (enumerate_from n xs) ≡ g (r, get_or xs (r - n) d)) × (r < n → flat_map g (enumerate_from n xs) ≡ [])
only_one g r d none past n [] = (λ h. sym past, λ h. refl)
only_one {X} {Y} g r d none past n (x ∷ xs) =
    let rest = only_one g r d none past (n + 1) xs in
    elim (cases_eq n r) [
      | inl e ↦ (
        λ h.
            let z : r - n ≡ 0 = omega arith in
            let same : g (n, x) ≡ g (r, get_or (x ∷ xs) (r - n) d) =
            ap₂ (λ (i : ℕ) (y : X). g (i, y)) e (sym (ap (λ (k : ℕ). get_or (x ∷ xs) k d) z)) in
            ap₂ (λ (a b : List Y). a ++ b) same (rest.1 (omega arith)) ∙ append-nil _,
        λ h. absurd (omega arith),
      )
      | inr ne ↦ (
        λ h.
            let l : n < r = omega arith in
            let z : r - n ≡ suc (r - (n + 1)) = omega arith in
            ap₂ (λ (a b : List Y). a ++ b) (none n x ne) (rest.0 (omega arith)) ∙ sym (ap (λ (k : ℕ). g (r, get_or (x ∷ xs) k d)) z),
        λ h. ap₂ (λ (a b : List Y). a ++ b) (none n x ne) (rest.1 (omega arith)),
      )
    ]

moved_shares : (p : Plan) (c : ℕ) (cs : List (List Element)) (side : Side) (f : ℕ) (ms : List (ℕ × ModuleState))
    → moved side f (flat_map (module_step p c cs) ms) ≡ flat_map (share p c cs side f) ms
moved_shares p c cs side f [] = moved-nil side f
moved_shares p c cs side f (m ∷ ms) =
    moved-append side f (module_step p c cs m) (flat_map (module_step p c cs) ms)
    ∙ ap (λ (l : List ℕ). share p c cs side f m ++ l) (moved_shares p c cs side f ms)

-- in a clock a side of a channel is moved by its owner alone
pub moved_in : (p : Plan) → FitsEngine p → (c : ℕ) (side : Side) (f : ℕ)
    → moved side f (steps_in p c (state p c))
    ≡ share p c (state p c).contents side f
    (owner p (record { side = side; channel = f }), state_at p c (owner p (record { side = side; channel = f })))
unfolding steps_in
moved_in p h c side f =
    let st = state p c in
    let o = owner p (record { side = side; channel = f }) in
    let past : share p c st.contents side f (o, nobody) ≡ [] =
    share_stays p c st.contents side f (o, nobody) (nobody_moves p c st.contents o) in
    let z : o - 0 ≡ o = omega arith in
    moved_shares p c st.contents side f (numbered st)
    ∙ ((only_one (share p c st.contents side f) o nobody
    (λ i x ne. none_shared p h c st.contents side f i (not_owner p side f i ne) x) past 0 st.modules).0 (omega arith)
    ∙ ap (λ (k : ℕ). share p c st.contents side f (o, get_or st.modules k nobody)) z)

pub moved_more : (p : Plan) → FitsEngine p → (c : ℕ) (side : Side) (f : ℕ)
    → moved side f (history p (suc c)) ≡ moved side f (history p c)
    ++ share p c (state p c).contents side f
    (owner p (record { side = side; channel = f }), state_at p c (owner p (record { side = side; channel = f })))
moved_more p h c side f =
    ap (moved side f) (history-suc p c)
    ∙ (moved-append side f (history p c) (steps_in p c (state p c))
    ∙ ap (λ (l : List ℕ). moved side f (history p c) ++ l) (moved_in p h c side f))
