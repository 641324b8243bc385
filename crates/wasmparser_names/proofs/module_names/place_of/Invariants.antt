use Rattle.std.proofs.Common.{◌≢◌, ◌<◌, ℕ, Some, map}
use Rattle.std.specs.Prelude.{slice_get}
use Rattle.std.specs.String.{string_bytes}
use Rattle.wasmparser_names.proofs.module_names.place_of.Given as goal

abbrev pub invariant-loop-place : goal.invariant-loop-place
invariant-loop-place l = record {
  none : (n : ℕ) → n < l.place → slice_get (map string_bytes l.names) n ≢ Some l.name;
}
