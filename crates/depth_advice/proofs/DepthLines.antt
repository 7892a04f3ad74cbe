-- Lines of depths.
use Rattle.std.proofs.Common.{◌≡◌, refl, sym, ◌∙◌, ap, arith, ℕ, ◌+◌, ◌<◌, Bool, true, false, cond, List, ◌∷◌, ◌++◌, length, drop, get_or}
use Rattle.std.proofs.Common.{add-one, append_assoc}
use Rattle.std.proofs.Math.Seq.{drop-cons}
use Rattle.depth_advice.specs.{Channel, is_fifo, no_channel, Token, line, text_of_lines, depth_tokens, depth_lines}

-- what is printed, with what the channels from a place on give, is the whole
abbrev pub IsPrinting : List ℕ → List ℕ → List Channel → List ℕ → ℕ → Type 0
IsPrinting first text channels depths at =
    text ++ text_of_lines (depth_lines (drop at channels) (drop at depths)) ≡ first ++ text_of_lines (depth_lines channels depths)

module _ (channels : List Channel) (depths : List ℕ) (at : ℕ) (here : at < length channels) (same : length depths ≡ length channels) where
  abbrev channel : Channel
  channel = get_or channels at no_channel

  abbrev depth : ℕ
  depth = get_or depths at 0

  opened : drop at channels ≡ channel ∷ drop (at + 1) channels
  opened = drop-cons channels at no_channel here ∙ ap (λ (k : ℕ). channel ∷ drop k channels) (sym (add-one at))

  opened_depths : drop at depths ≡ depth ∷ drop (at + 1) depths
  opened_depths = drop-cons depths at 0 (omega arith) ∙ ap (λ (k : ℕ). depth ∷ drop k depths) (sym (add-one at))

  lines_here : depth_lines (drop at channels) (drop at depths)
      ≡ cond (is_fifo channel.kind) (depth_tokens (channel, depth) ∷ depth_lines (drop (at + 1) channels) (drop (at + 1) depths))
      (depth_lines (drop (at + 1) channels) (drop (at + 1) depths))
  lines_here = ap (λ (cs : List Channel). depth_lines cs (drop at depths)) opened
      ∙ (ap (depth_lines (channel ∷ drop (at + 1) channels)) opened_depths ∙ by_test (is_fifo channel.kind) refl)
    where
      by_test : (b : Bool) → is_fifo channel.kind ≡ b
          → depth_lines (channel ∷ drop (at + 1) channels) (depth ∷ drop (at + 1) depths)
          ≡ cond b (depth_tokens (channel, depth) ∷ depth_lines (drop (at + 1) channels) (drop (at + 1) depths))
          (depth_lines (drop (at + 1) channels) (drop (at + 1) depths))
      by_test true e = rw e refl
      by_test false e = rw e refl

  -- past a channel that is no FIFO
  pub depth_passed : (first text : List ℕ) → is_fifo channel.kind ≡ false → IsPrinting first text channels depths at
      → IsPrinting first text channels depths (at + 1)
  depth_passed first text e printing =
      ap (λ (ls : List (List Token)). text ++ text_of_lines ls)
      (sym (lines_here ∙ ap (λ (b : Bool). cond b (depth_tokens (channel, depth) ∷ depth_lines (drop (at + 1) channels)
      (drop (at + 1) depths)) (depth_lines (drop (at + 1) channels) (drop (at + 1) depths))) e)) ∙ printing

  -- past a FIFO whose line is printed
  pub depth_printed : (first text : List ℕ) → is_fifo channel.kind ≡ true → IsPrinting first text channels depths at
      → IsPrinting first (text ++ line (depth_tokens (channel, depth))) channels depths (at + 1)
  depth_printed first text e printing =
      let rest = depth_lines (drop (at + 1) channels) (drop (at + 1) depths) in
      append_assoc text (line (depth_tokens (channel, depth))) (text_of_lines rest)
      ∙ (ap (λ (ls : List (List Token)). text ++ text_of_lines ls)
      (sym (lines_here ∙ ap (λ (b : Bool). cond b (depth_tokens (channel, depth) ∷ rest) rest) e)) ∙ printing)
