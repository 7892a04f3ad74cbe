use Rattle.vcd_wave.proofs.LineLemmas.{header_text}
use Rattle.vcd_wave.proofs.lines.print_header.Goals as goal

pub returns-clause-text : goal.returns-clause-text
returns-clause-text c =
    header_text c.args.text.now _ _ _ _ c.in_ok-extend_from_slice.ensures.ok c.in_ok-count.ensures.text
    c.in_ok-extend_from_slice-2.ensures.ok
