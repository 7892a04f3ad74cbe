-- The ordinals of a core's accesses: how many elements its earlier steps moved at a side of a channel.
use Rattle.std.proofs.Common.{◌≡◌, ℕ, zero, suc, ◌+◌, ◌≤◌, ◌<◌, List, [], ◌∷◌, ◌++◌, map, length, Bool, true, false, ◌&&◌, not, cond, refl}
use Rattle.std.proofs.Common.{sym, ◌∙◌, ap, ap₂, arith, length-append, ◌==◌}
use Rattle.std.proofs.lemmas.List.{append-nil, map-append}
use Rattle.std.specs.List.{range_with_len}
use Rattle.timing_bridge.specs.{Side, Kind, same_side, side_of, is_blocking, is_taking, Plan, ModuleState, Request, HistoryStep, reply_by}
use Rattle.timing_bridge.specs.{moved_value, moved_by, moved, requests_of, paired, takes_in, tally, FlagsFit, AreOwnMarks, core_accesses}
use Rattle.timing_bridge.specs.{core_tally, core_values, replies_of, core_reply, design, seen_request, told_all, core_step}
use Rattle.flow_word.specs.declared.access.Side.TheVariants.{Pop}
use Rattle.lockstep_defs.proofs.Queue.{moved-nil, moved-append}
use Rattle.event_timing.specs.Core.{Core}
use Rattle.event_timing.proofs.{OwnRuns.tally_0, OwnRuns.tally_more, Fronts.core_tally_is}
use Rattle.flow_word.proofs.Ranges.{range_more}

-- ---- one step

not_stuck : (blocks possible : Bool) → (blocks ≡ true → possible ≡ true) → (blocks && not possible) ≡ false
not_stuck blocks possible h = grind arith

-- an operation takes at a side, by counts, where it moves something there
moves_one : (side : Side) (k : Kind) (q t : Bool) (channel v w : ℕ) → (is_blocking k && not q) ≡ false
    → cond (is_taking k && (q && (same_side (side_of k) side && t))) 1 0
    ≡ length (cond t (moved_value side (record { request = record { kind = k; channel = channel; value = w }; reply = reply_by k q v })) [])
moves_one side k q t channel v w h = grind arith

moves_all : (values : ℕ → List ℕ) (before : ℕ → ℕ) (side : Side) (f : ℕ) (rs : List Request) (bs : List Bool)
    → FlagsFit (map seen_request rs) bs
    → takes_in side f (map seen_request rs) (replies_of values before (map seen_request rs) bs)
    ≡ length (moved_by side f (paired rs (told_all rs (replies_of values before (map seen_request rs) bs))))
unfolding moved_by
moves_all values before side f [] [] h = refl
moves_all values before side f [] (b ∷ bs) h = absurd h
moves_all values before side f (r ∷ rs) [] h = absurd h
moves_all values before side f (r ∷ rs) (b ∷ bs) (h, hs) =
    ap₂ (λ (x y : ℕ). x + y)
    (moves_one side r.kind b (r.channel == f) r.channel _ r.value (not_stuck (is_blocking r.kind) b h))
    (moves_all values before side f rs bs hs)
    ∙ sym (length-append _ _)

step_moves : (p : Plan) (x : Core ModuleState) → AreOwnMarks (design p) x → (i k : ℕ) → k < x.emitted i → (side : Side) (f : ℕ)
    → takes_in side f (core_accesses (design p) x i k) (core_reply (design p) x i k)
    ≡ length (moved_by side f (core_step p x i k).exchanges)
step_moves p x b i k l side f =
    moves_all (core_values (design p) x) (λ g. core_tally (design p) x i Pop g k) side f (requests_of p (i, x.state i k)) (x.flags i k)
    (b.fit i k l)

-- ---- all earlier steps

one_step : (side : Side) (f : ℕ) (s : HistoryStep) → moved side f (s ∷ []) ≡ moved_by side f s.exchanges
unfolding moved
one_step side f s = append-nil _

counted : (p : Plan) (x : Core ModuleState) → AreOwnMarks (design p) x → (i : ℕ) (side : Side) (f k : ℕ) → k ≤ x.emitted i
    → tally (core_accesses (design p) x i) (core_reply (design p) x i) side f k
    ≡ length (moved side f (map (core_step p x i) (range_with_len 0 k)))
counted p x b i side f zero l = tally_0 (core_accesses (design p) x i) (core_reply (design p) x i) side f
    ∙ sym (ap length (moved-nil side f))
counted p x b i side f (suc k) l =
    let before = map (core_step p x i) (range_with_len 0 k) in
    let z : 0 + k ≡ k = omega arith in
    let now : HistoryStep = core_step p x i k in
    let steps : map (core_step p x i) (range_with_len 0 (suc k)) ≡ before ++ now ∷ [] =
    ap (map (core_step p x i)) (range_more 0 k ∙ ap (λ (j : ℕ). range_with_len 0 k ++ j ∷ []) z)
    ∙ map-append (core_step p x i) (range_with_len 0 k) (k ∷ []) in
    tally_more (core_accesses (design p) x i) (core_reply (design p) x i) side f k
    ∙ (ap₂ (λ (m n : ℕ). m + n) (counted p x b i side f k (omega arith))
    (step_moves p x b i k (omega arith) side f ∙ sym (ap length (one_step side f now)))
    ∙ (sym (length-append (moved side f before) (moved side f (now ∷ [])))
    ∙ ap length (sym (moved-append side f before (now ∷ [])) ∙ ap (moved side f) (sym steps))))

pub ordinals : (p : Plan) (x : Core ModuleState) → AreOwnMarks (design p) x → (i : ℕ) (side : Side) (f k : ℕ) → k ≤ x.emitted i
    → core_tally (design p) x i side f k ≡ length (moved side f (map (core_step p x i) (range_with_len 0 k)))
ordinals p x b i side f k l = sym (core_tally_is (design p) x i side f k) ∙ counted p x b i side f k l
