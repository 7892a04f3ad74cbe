use Rattle.std.proofs.Common.{◌∙◌, ap, arith, ℕ, ◌+◌, List, ◌++◌, map, drop}
use Rattle.flow_design.proofs.Failing.{on_err}
use Rattle.trace_text.specs.{line, text_of_lines, access_tokens}
use Rattle.sim_io.proofs.Pending.{items_rest, prefix_as, told_as, told_more, told_prefix_more}
use Rattle.trace_text.proofs.LogLines.{access_more}
use Rattle.trace_text.proofs.log.write_log.Goals as goal

pub loop-access-preserved : goal.loop-access-preserved
loop-access-preserved g c = record {
  told = told_as _ _ _ _ _ (told_more _ _ _ _ _ _ _ c.loop-access.invariant.told c.in_ok-write_access.ensures.ok)
      (access_more c.args.design.now c.args.pending.now c.args.log.now c.loop-access.access-index _ c.loop-access-test.true);
  faults = omega (arith, c.loop-access.invariant.faults, c.in_ok-write_access.ensures.cause.later);
}

pub returns-in_err-write_access-clause-err : goal.returns-in_err-write_access-clause-err
returns-in_err-write_access-clause-err g c =
    let tokens_of = access_tokens c.args.design.now in
    let first = c.args.pending.now in
    let log = c.args.log.now in
    let k = c.loop-access.access-index in
    let rest = text_of_lines (map tokens_of (drop (k + 1) log)) in
    on_err _ (prefix_as _ _ _ _ (told_prefix_more _ _ _ _ _ _ rest c.loop-access.invariant.told c.in_err-write_access.ensures.err)
    (ap (λ (t : List ℕ). t ++ rest) (access_more c.args.design.now first log k _ c.loop-access-test.true)
    ∙ items_rest line tokens_of first log (k + 1)))
