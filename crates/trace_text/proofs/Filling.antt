-- The lines of the FIFOs.
use Rattle.std.proofs.Common.{◌≡◌, ℕ, zero, suc, ◌+◌, ◌-◌, ◌<◌, ◌≤◌, List, [], ◌∷◌, ◌++◌, refl, sym, ap, ap₂, ◌∙◌, subst, arith, Bool, true}
use Rattle.std.proofs.Common.{false, not, cond, ◌||◌, eqb, append_assoc, length}
use Rattle.std.proofs.{lemmas.Bool.eq-eqb, lemmas.Bool.ne_eqb, lemmas.List.append-nil, lemmas.List.Concat.flat_map-append}
use Rattle.std.specs.{Prelude.codes, List.flat_map, List.filter, List.range_with_len, List.count_by}
use Rattle.flow_word.specs.declared.access.Side.TheVariants.{Pop, Push}
use Rattle.flow_word.proofs.Ranges.{range_more}
use Rattle.trace_text.specs.{ChannelKind, Plan, is_fifo, kind_at, FitsEngine, users_wanted, uses, channel_name, fifos, fill, last_clock}
use Rattle.trace_text.specs.{FifoWalk, IsFifoWalk, next_of, fill_event, fill_events_at, fill_events, further}
use Rattle.flow_design.specs.declared.design.ChannelKind.TheVariants.{Source, Sink, Fifo}
use Rattle.port_clocks.proofs.Walking.{stands_before, walk_fill}
use Rattle.trace_text.proofs.Lines.{further-append, further-one, numbers_rest}

-- ---- one FIFO

events_first : (p : Plan) (f : ℕ) → fill_events p f 0 ≡ fill_event (channel_name p.design f) 0 (fill p f 0) ∷ []
unfolding fill_events
events_first p f = refl

events_more : (p : Plan) (f c : ℕ) → fill_events p f (suc c) ≡ fill_events p f c ++ fill_events_at p f (suc c)
unfolding fill_events
events_more p f c =
    let e : suc c + 1 ≡ suc (c + 1) = omega arith in
    let z : 0 + (c + 1) ≡ suc c = omega arith in
    ap (λ (n : ℕ). flat_map (fill_events_at p f) (range_with_len 0 n)) e
    ∙ (ap (flat_map (fill_events_at p f)) (range_more 0 (c + 1))
    ∙ (flat_map-append (fill_events_at p f) (range_with_len 0 (c + 1)) ((0 + (c + 1)) ∷ [])
    ∙ ap (λ (l : _). flat_map (fill_events_at p f) (range_with_len 0 (c + 1)) ++ l)
    (append-nil (fill_events_at p f (0 + (c + 1))) ∙ ap (fill_events_at p f) z)))

-- in a later clock by what it held in the clock before
events_at : (p : Plan) (f c held : ℕ) → fill p f c ≡ held → fill_events_at p f (suc c)
    ≡ cond (not (eqb (fill p f (suc c)) held)) (fill_event (channel_name p.design f) (suc c) (fill p f (suc c)) ∷ []) []
events_at p f c held e =
    let z : suc c - 1 ≡ c = omega arith in
    let later = ne_eqb (suc c) 0 (λ w. omega arith) in
    ap₂ (λ (b : Bool) (n : ℕ). cond (b || not (eqb (fill p f (suc c)) n))
    (fill_event (channel_name p.design f) (suc c) (fill p f (suc c)) ∷ []) [])
    later (ap (fill p f) z ∙ e)

-- as long as it holds the same there is no further line
events_same : (p : Plan) (f c n : ℕ) → ((b : ℕ) → c ≤ b → b ≤ n + c → fill p f b ≡ fill p f c) → fill_events p f (n + c) ≡ fill_events p f c
events_same p f c zero h = ap (fill_events p f) (omega arith)
events_same p f c (suc n) h =
    let e : suc n + c ≡ suc (n + c) = omega arith in
    let now = h (suc (n + c)) (omega arith) (omega arith) in
    ap (fill_events p f) e
    ∙ (events_more p f (n + c)
    ∙ (ap (λ (l : _). fill_events p f (n + c) ++ l)
    (events_at p f (n + c) (fill p f c) (h (n + c) (omega arith) (omega arith)) ∙ rw (eq-eqb _ _ now) refl)
    ∙ (append-nil _ ∙ events_same p f c n (λ b x y. h b x (omega arith)))))

pub events_steady : (p : Plan) (f c d : ℕ) → c ≤ d → ((b : ℕ) → c ≤ b → b ≤ d → fill p f b ≡ fill p f c)
    → fill_events p f d ≡ fill_events p f c
events_steady p f c d l h =
    let e : (d - c) + c ≡ d = omega arith in
    ap (fill_events p f) (sym e) ∙ events_same p f c (d - c) (λ b x y. h b x (omega arith))

pub events_next : (p : Plan) (f c d : ℕ) → c < d → ((b : ℕ) → c ≤ b → b < d → fill p f b ≡ fill p f c)
    → fill_events p f d ≡ fill_events p f c
    ++ cond (not (eqb (fill p f d) (fill p f c))) (fill_event (channel_name p.design f) d (fill p f d) ∷ []) []
events_next p f c d l h =
    let e : suc (d - 1) ≡ d = omega arith in
    subst (λ (n : ℕ). fill_events p f n ≡ fill_events p f c
    ++ cond (not (eqb (fill p f n) (fill p f c))) (fill_event (channel_name p.design f) n (fill p f n) ∷ []) []) e
    (events_more p f (d - 1)
    ∙ ap₂ (λ (x y : List (List ℕ)). x ++ y) (events_steady p f c (d - 1) (omega arith) (λ b x y. h b x (omega arith)))
    (events_at p f (d - 1) (fill p f c) (h (d - 1) (omega arith) (omega arith))))

-- ---- the text of one FIFO

abbrev pub filled_to : Plan → ℕ → List ℕ → ℕ → List ℕ
filled_to p f first c = first ++ further (fill_events p f c)

pub filled_first : (p : Plan) (f : ℕ) (first : List ℕ) (held : ℕ) → held ≡ fill p f 0
    → first ++ (codes ",\n" ++ fill_event (channel_name p.design f) 0 held) ≡ filled_to p f first 0
filled_first p f first held is =
    ap (λ (n : ℕ). first ++ (codes ",\n" ++ fill_event (channel_name p.design f) 0 n)) is
    ∙ ap (λ (t : List ℕ). first ++ t)
    (sym (further-one (fill_event (channel_name p.design f) 0 (fill p f 0))) ∙ ap further (sym (events_first p f)))

-- up to the clock after one up to which it holds the same
pub filled_next : (p : Plan) (f : ℕ) (first : List ℕ) (c d before now : ℕ) → c < d
    → ((b : ℕ) → c ≤ b → b < d → fill p f b ≡ fill p f c) → before ≡ fill p f c → now ≡ fill p f d
    → filled_to p f first c ++ further (cond (not (eqb now before)) (fill_event (channel_name p.design f) d now ∷ []) [])
    ≡ filled_to p f first d
filled_next p f first c d before now l same is is_now =
    ap₂ (λ (m n : ℕ). filled_to p f first c ++ further (cond (not (eqb n m)) (fill_event (channel_name p.design f) d n ∷ []) [])) is is_now
    ∙ (append_assoc first _ _
    ∙ ap (λ (t : List ℕ). first ++ t)
    (sym (further-append (fill_events p f c)
    (cond (not (eqb (fill p f d) (fill p f c))) (fill_event (channel_name p.design f) d (fill p f d) ∷ []) []))
    ∙ ap further (sym (events_next p f c d l same))))

pub filled_last : (p : Plan) (f : ℕ) (first : List ℕ) (c d : ℕ) → c ≤ d → ((b : ℕ) → c ≤ b → b ≤ d → fill p f b ≡ fill p f c)
    → filled_to p f first c ≡ filled_to p f first d
filled_last p f first c d l same = ap (λ (es : List (List ℕ)). first ++ further es) (sym (events_steady p f c d l same))

-- the text up to a clock begins the text up to a later one
pub filled_rest : (p : Plan) (f : ℕ) (first : List ℕ) (c d : ℕ) → c ≤ d
    → (rest : List ℕ) × (filled_to p f first c ++ rest ≡ filled_to p f first d)
unfolding fill_events
filled_rest p f first c d l = (
  further (flat_map (fill_events_at p f) (range_with_len (0 + (c + 1)) ((d + 1) - (c + 1)))),
  numbers_rest (fill_events_at p f) (c + 1) (d + 1) first (omega arith),
)

-- ---- where a walk stands

-- its own clock is at most the one of the next pop or push
pub walk_early : (p : Plan) → FitsEngine p → (w : FifoWalk) → IsFifoWalk p w → w.clock ≤ next_of w
walk_early p fits w h =
    let pops = stands_before p fits (record { side = Pop; channel = w.channel }) w.pops w.clock h.pops h.within in
    let pushes = stands_before p fits (record { side = Push; channel = w.channel }) w.pushes w.clock h.pushes h.within in
    omega arith

-- the FIFO holds the same up to the clock of its next pop or push
pub walk_steady : (p : Plan) → FitsEngine p → (w : FifoWalk) → IsFifoWalk p w → (b : ℕ) → w.clock ≤ b → b ≤ next_of w → b ≤ last_clock p
    → fill p w.channel b ≡ fill p w.channel w.clock
walk_steady p fits w h b from until within =
    sym (walk_fill p fits w h b from until within) ∙ walk_fill p fits w h w.clock (omega arith) (walk_early p fits w h) h.within

-- ---- the FIFOs among the channels

pub chosen_fills : (test : ℕ → Bool) (g : ℕ → List (List ℕ)) (fs : List ℕ)
    → flat_map (λ f. cond (test f) (g f) []) fs ≡ flat_map g (filter test fs)
chosen_fills test g [] = refl
chosen_fills test g (f ∷ fs) = by_test (test f) (chosen_fills test g fs)
  where
    by_test : (b : Bool) → flat_map (λ f. cond (test f) (g f) []) fs ≡ flat_map g (filter test fs)
        → cond b (g f) [] ++ flat_map (λ f. cond (test f) (g f) []) fs ≡ flat_map g (cond b (f ∷ filter test fs) (filter test fs))
    by_test true e = ap (λ (l : List (List ℕ)). g f ++ l) e
    by_test false e = e

abbrev pub channel_events : Plan → ℕ → List (List ℕ)
channel_events p f = cond (is_fifo (kind_at p f)) (fill_events p f (last_clock p)) []

pub all_channels : (p : Plan)
    → flat_map (channel_events p) (range_with_len 0 (length p.design.channels)) ≡ flat_map (λ f. fill_events p f (last_clock p)) (fifos p)
all_channels p =
    chosen_fills (λ f. is_fifo (kind_at p f)) (λ f. fill_events p f (last_clock p)) (range_with_len 0 (length p.design.channels))

-- ---- a plan without modules

-- a plan without modules has no FIFO
wanted_some : (k : ChannelKind) → 0 ≡ users_wanted k Pop → is_fifo k ≡ false
wanted_some Source e = absurd (omega arith)
wanted_some Sink e = refl
wanted_some (Fifo depth delay) e = absurd (omega arith)

filter_none : (test : ℕ → Bool) (a n : ℕ) → ((f : ℕ) → a ≤ f → f < a + n → test f ≡ false) → filter test (range_with_len a n) ≡ []
filter_none test a zero h = refl
filter_none test a (suc n) h =
    rw (h a (omega arith) (omega arith)) (filter_none test (a + 1) n (λ f x y. h f (omega arith) (omega arith)))

pub no_fifos : (p : Plan) → FitsEngine p → p.design.modules ≡ [] → fifos p ≡ []
no_fifos p h e =
    filter_none (λ f. is_fifo (kind_at p f)) 0 (length p.design.channels) (λ f x y.
    let c = h.channels f (omega arith) in
    wanted_some (kind_at p f) (sym (ap (count_by (uses (record { side = Pop; channel = f }))) e) ∙ c.popping))
