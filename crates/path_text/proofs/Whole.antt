-- The whole text.
use Rattle.std.proofs.Common.{◌≡◌, ℕ, ◌+◌, ◌<◌, ◌^◌, false, List, [], ◌∷◌, ◌++◌, sym, ap, subst, ◌∙◌, arith, length, get_or, inl, inr, Bool}
use Rattle.std.proofs.{lemmas.Bool.cases_lt, lemmas.List.get_or_append_left, Math.Seq.get_or-append_seam}
use Rattle.std.specs.Prelude.{codes, All}
use Rattle.path_text.specs.{Design, Plan, Report, FitsEngine, report, verdict, report_with, Span, AreSpansBelow, line, text_of_lines}
use Rattle.path_text.specs.{verdict_tokens, Link, AreLinksOf, count_lines, link_lines, path_text, told_links, told_polls}
use Rattle.path_text.proofs.Printed.{whole}

-- ---- what the text is made from

pub verdict_is : (p : Plan) (r : Report) → r ≡ report_with false p → r.verdict ≡ verdict p
unfolding report
verdict_is p r e = ap (λ (x : Report). x.verdict) e

-- the spans of one module more
pub spans_more : (p : Plan) (end n : ℕ) (spans new : List (List Span)) (s : List Span) → length spans ≡ n
    → ((m : ℕ) → m < n → AreSpansBelow p m end (get_or spans m [])) → new ≡ spans ++ s ∷ [] → AreSpansBelow p n end s
    → (m : ℕ) → m < n + 1 → AreSpansBelow p m end (get_or new m [])
spans_more p end n spans new s count each e here m l = elim (cases_lt m n) [
  | inl w ↦
      let same = ap (λ (ss : List (List Span)). get_or ss m []) e ∙ get_or_append_left spans (s ∷ []) [] m (omega arith) in
      subst (AreSpansBelow p m end) (sym same) (each m w)
  | inr w ↦
      let at : n ≡ m = omega arith in
      let same : get_or new n [] ≡ s =
      ap (λ (ss : List (List Span)). get_or ss n []) e
      ∙ (ap (λ (k : ℕ). get_or (spans ++ s ∷ []) k []) (sym count) ∙ get_or-append_seam spans s [] []) in
      subst (λ (k : ℕ). AreSpansBelow p k end (get_or new k [])) at (subst (AreSpansBelow p n end) (sym same) here)
]

pub few_modules : (p : Plan) → FitsEngine p → length p.design.modules < 2 ^ 32
few_modules p h = let c = h.module_count in omega arith

pub few_channels : (p : Plan) → FitsEngine p → length p.design.channels < 2 ^ 32
few_channels p h = let c = h.channel_count in omega arith

pub movers_inside : (design : Design) (links : List Link) → AreLinksOf design links
    → All (λ (l : Link). l.module < length design.modules) links
movers_inside design links all k d l = (all k d l).mover

-- ---- and the text

pub whole_path : (p : Plan) (events polls : Bool) (s t u v : List ℕ) → s ≡ codes "path\n" → t ≡ s ++ line (verdict_tokens (verdict p))
    → u ≡ t ++ text_of_lines (count_lines p.design (told_links polls p) (told_polls polls p))
    → v ≡ u ++ text_of_lines (link_lines p.design events (told_links polls p)) → v ≡ path_text events polls p
unfolding path_text
whole_path p events polls s t u v e f g h =
    whole (codes "path" ∷ []) (verdict_tokens (verdict p)) (count_lines p.design (told_links polls p) (told_polls polls p))
    (link_lines p.design events (told_links polls p)) s t u v e f g h
