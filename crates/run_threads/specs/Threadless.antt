-- Which modules a Threadless names.
use Rattle.std.specs.Prelude.{◌≡◌, ℕ, true, false, slice_index_or}
use Rattle.run_threads.specs.declared.threadless.Threadless.{Threadless}

abbrev pub IsNamed : Threadless → ℕ → Type 0
IsNamed threadless m = slice_index_or threadless.named m false ≡ true
