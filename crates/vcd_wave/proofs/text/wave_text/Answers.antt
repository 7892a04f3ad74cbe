use Rattle.std.proofs.Common.{◌≡◌, ◌∙◌, ap, refl, ℕ, List, [], ◌++◌, length}
use Rattle.std.specs.List.{flat_map}
use Rattle.vcd_wave.specs.{Channel, Design, Plan, text_of_lines, fifo_names, wave_of, header_lines, wave_text, opening_instant}
use Rattle.vcd_wave.specs.{instant_lines}
use Rattle.flow_design.proofs.Failing.{on_err}
use Rattle.sim_io.proofs.Pending.{prefix_as, prefix_none, told_as}
use Rattle.vcd_wave.proofs.{LineLemmas.whole_text, Instants.wave_is}
use Rattle.vcd_wave.proofs.text.wave_text.Goals as goal

-- the whole text, by its three parts
whole : (p : Plan) (channels : List Channel) (count : ℕ) (a b c : List ℕ) → channels ≡ p.design.channels → a ≡ []
    → b ≡ a ++ text_of_lines (header_lines (fifo_names channels)) → count ≡ length (fifo_names channels)
    → c ≡ b ++ text_of_lines (instant_lines (opening_instant count))
    → c ++ text_of_lines (flat_map instant_lines (wave_of p).later) ≡ wave_text (wave_of p)
whole p channels count a b c declared empty header counted opened =
    whole_text (fifo_names channels) (wave_of p).later a b c _ empty header
    (opened ∙ ap (λ (n : ℕ). b ++ text_of_lines (instant_lines (opening_instant n))) counted)
    refl
    ∙ ap wave_text (wave_is p (fifo_names channels) (ap fifo_names declared))

pub returns-in_err-fifos-clause-prefix : goal.returns-in_err-fifos-clause-prefix
returns-in_err-fifos-clause-prefix g c = on_err _ (prefix_none _ _)

pub returns-in_err-print_opening-clause-prefix : goal.returns-in_err-print_opening-clause-prefix
returns-in_err-print_opening-clause-prefix g c = on_err _ (prefix_none _ _)

pub returns-in_err-write_later-clause-prefix : goal.returns-in_err-write_later-clause-prefix
returns-in_err-write_later-clause-prefix g c =
    on_err _ (prefix_as _ _ _ _ c.in_err-write_later.ensures.err
    (whole c.args.core.now.plan c.as_slice.result.now c.in_ok-fifos.fifos c.new-pending.result _ _
    (c.as_slice.ensures ∙ ap (λ (d : Design). d.channels) c.requires) c.new-pending.ensures c.in_ok-fifos.ensures.text
    c.in_ok-fifos.ensures.count c.in_ok-print_opening.ensures))

pub returns-clause-rest : goal.returns-clause-rest
returns-clause-rest g c =
    told_as _ _ _ _ _ c.in_ok-write_later.ensures.ok
    (whole c.args.core.now.plan c.as_slice.result.now c.in_ok-fifos.fifos c.new-pending.result _ _
    (c.as_slice.ensures ∙ ap (λ (d : Design). d.channels) c.requires) c.new-pending.ensures c.in_ok-fifos.ensures.text
    c.in_ok-fifos.ensures.count c.in_ok-print_opening.ensures)
