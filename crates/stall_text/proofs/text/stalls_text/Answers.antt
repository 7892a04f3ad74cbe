use Rattle.std.proofs.Common.{◌∙◌, ap, Bool, length, ◌++◌}
use Rattle.std.specs.List.{flat_map, range_with_len}
use Rattle.stall_text.specs.{clock_of, text_of_lines, module_lines}
use Rattle.stall_text.proofs.Whole.{whole_text}
use Rattle.stall_text.proofs.text.stalls_text.Goals as goal

pub print_modules-requires-clause-clock : goal.print_modules-requires-clause-clock
print_modules-requires-clause-clock c = c.clock-clock.ensures ∙ ap clock_of c.verdict-verdict.ensures

pub print_fifos-requires : goal.print_fifos-requires
print_fifos-requires c = c.clock-clock.ensures ∙ ap clock_of c.verdict-verdict.ensures

pub returns : goal.returns
returns c =
    let p = c.args.core.now.plan in
    whole_text p c.args.polls c.verdict-verdict.result c.in_ok-text.text c.print_verdict.new.text c.print_modules.new.text
    c.print_fifos.new.text c.verdict-verdict.ensures c.in_ok-text.ensures c.in_ok-print_verdict.ensures.ok
    (c.in_ok-print_modules.ensures
    ∙ ap (λ (b : Bool). c.print_verdict.new.text
    ++ text_of_lines (flat_map (module_lines b p) (range_with_len 0 (length p.design.modules))))
    c.in_ok-polled.ensures.asked) c.in_ok-print_fifos.ensures
