use Rattle.std.proofs.Common.{◌≡◌, ◌++◌, length, drop}
use Rattle.std.specs.List.{flat_map}
use Rattle.wasm_encoder_bodies.specs.CoreLocals.{run_bytes}
use Rattle.wasm_spec.specs.Shortest.{unsigned_encoding}
use Rattle.wasm_encoder_bodies.proofs.local_runs.write_runs.Given as goal

abbrev pub invariant-loop-run : goal.invariant-loop-run
invariant-loop-run l = record {
  written : l.bytes.items ++ flat_map run_bytes (drop l.run-index l.runs) ≡ unsigned_encoding (length l.runs) ++ flat_map run_bytes l.runs;
}
