-- How many FIFOs there are.
use Rattle.std.proofs.Common.{◌≡◌, ℕ, suc, ◌+◌, ◌<◌, Bool, true, false, cond, List, [], ◌∷◌, length, get_or, refl, sym, ◌∙◌, ap, arith}
use Rattle.std.proofs.Common.{add-zero}
use Rattle.std.specs.List.{filter, range_with_len}
use Rattle.timelines.specs.{Channel, ChannelKind, is_fifo, no_channel}

-- their numbers are as many as they are
pub counted_numbers : (kind : ℕ → ChannelKind) (k : ℕ) (cs : List Channel)
    → ((i : ℕ) → i < length cs → kind (k + i) ≡ (get_or cs i no_channel).kind)
    → length (filter (λ f. is_fifo (kind f)) (range_with_len k (length cs))) ≡ length (filter (λ (c : Channel). is_fifo c.kind) cs)
counted_numbers kind k [] h = refl
counted_numbers kind k (c ∷ cs) h =
    by_test (is_fifo c.kind) (ap is_fifo (ap kind (sym (add-zero k)) ∙ h 0 (omega arith)))
    (counted_numbers kind (k + 1) cs (λ i l. ap kind (omega arith) ∙ h (suc i) (omega arith)))
  where
    by_test : (b : Bool) → is_fifo (kind k) ≡ b
        → length (filter (λ f. is_fifo (kind f)) (range_with_len (k + 1) (length cs)))
        ≡ length (filter (λ (x : Channel). is_fifo x.kind) cs)
        → length (cond (is_fifo (kind k)) (k ∷ filter (λ f. is_fifo (kind f)) (range_with_len (k + 1) (length cs)))
        (filter (λ f. is_fifo (kind f)) (range_with_len (k + 1) (length cs))))
        ≡ length (cond b (c ∷ filter (λ (x : Channel). is_fifo x.kind) cs) (filter (λ (x : Channel). is_fifo x.kind) cs))
    by_test true e same = rw e (ap suc same)
    by_test false e same = rw e same
