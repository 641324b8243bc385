-- The runs of locals of the code, and their encodings.
use Rattle.std.specs.Prelude.{ℕ, List}
use Rattle.wasm_core_types.specs.declared.types.ValType.{ValType}
use Rattle.wasm_encoder_bodies.specs.Locals.{run_of, run_encoding}
use Rattle.wasm_encoder_bodies.specs.declared.local_runs.LocalRun.{LocalRun}

abbrev pub pair_of : LocalRun → ℕ × ValType
pair_of run = (run.count, run.ty)

unfoldable pub run_bytes : LocalRun → List ℕ
run_bytes run = run_encoding (run_of (pair_of run))
