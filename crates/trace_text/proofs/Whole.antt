-- The whole text.
use Rattle.std.proofs.Common.{◌≡◌, ℕ, ◌<◌, ◌^◌, List, [], ◌∷◌, ◌++◌, refl, sym, ap, ap₂, ◌∙◌, arith, length}
use Rattle.std.proofs.lemmas.List.FromFn.{length-map-range_with_len}
use Rattle.std.specs.List.{flat_map, range_with_len}
use Rattle.flow_design.specs.declared.design.Module.{Module}
use Rattle.trace_text.specs.{Plan, FitsEngine, module_name, fifos, last_clock, name_event, names_of, span_events, fill_events, opening_text}
use Rattle.trace_text.specs.{closing_text, further, joined_lines, trace_text}
use Rattle.trace_text.proofs.{Lines.whole, Lines.whole_lines, Filling.no_fifos}

pub few_modules : (p : Plan) → FitsEngine p → length p.design.modules < 2 ^ 32
few_modules p h = let c = h.module_count in omega arith

no_items : (ms : List Module) → length ms ≡ 0 → ms ≡ []
no_items [] e = refl
no_items (m ∷ ms) e = absurd (omega arith)

abbrev pub all_spans : Plan → List (List ℕ)
all_spans p = flat_map (span_events p) (range_with_len 0 (length p.design.modules))

abbrev pub all_fills : Plan → List (List ℕ)
all_fills p = flat_map (λ f. fill_events p f (last_clock p)) (fifos p)

nothing_else : (p : Plan) → FitsEngine p → names_of p.design ≡ [] → all_spans p ++ all_fills p ≡ []
nothing_else p h e =
    let none : length p.design.modules ≡ 0 =
    sym (length-map-range_with_len (λ i. name_event i (module_name p.design i)) 0 (length p.design.modules)) ∙ ap length e in
    ap₂ (λ (n : ℕ) (fs : List ℕ). flat_map (span_events p) (range_with_len 0 n) ++ flat_map (λ f. fill_events p f (last_clock p)) fs)
    none (no_fifos p h (no_items p.design.modules none))

pub whole_trace : (p : Plan) → FitsEngine p → (a b c d e : List ℕ) → a ≡ opening_text → b ≡ a ++ joined_lines (names_of p.design)
    → c ≡ b ++ further (all_spans p) → d ≡ c ++ further (all_fills p) → e ≡ d ++ closing_text → e ≡ trace_text p
unfolding trace_text
whole_trace p h a b c d e q r s t u =
    whole opening_text (joined_lines (names_of p.design)) (further (all_spans p)) (further (all_fills p)) closing_text a b c d e q r s t u
    ∙ ap (λ (l : List ℕ). (opening_text ++ l) ++ closing_text)
    (whole_lines (names_of p.design) (all_spans p) (all_fills p) (nothing_else p h))
