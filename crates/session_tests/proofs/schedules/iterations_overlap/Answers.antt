use Rattle.std.proofs.{Common.arith, Common.◌<◌, Common.map, Common.[], Common.◌∷◌, lemmas.List.Elements.All-from_recursion}
use Rattle.flow_design.specs.declared.design.BlockKind.TheVariants.{Loop}
use Rattle.session_tests.specs.{Timed, KeepsLimits, test_at, tests_at}
use Rattle.session_tests.proofs.schedules.iterations_overlap.Goals as goal

limits : KeepsLimits (tests_at (Loop 2 0) 5 (3 ∷ 0 ∷ 3 ∷ 4 ∷ []))
limits = record {
  some = omega arith;
  short = omega arith;
  span = omega arith;
  most = omega arith;
  in_block = All-from_recursion (λ (t : Timed). t.offset < 5) (map test_at (3 ∷ 0 ∷ 3 ∷ 4 ∷ []))
      (omega arith, (omega arith, (omega arith, (omega arith, tt))));
  count = omega arith;
}

pub new-requires : goal.new-requires
new-requires g c = rw (c.in_ok-block.ensures, c.as_slice.ensures) limits
