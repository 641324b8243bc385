-- Runs of locals, as a loop writes them.
use Rattle.std.proofs.Common.{◌≡◌, List, ◌++◌, length, map, ◌∙◌}
use Rattle.std.specs.List.{flat_map}
use Rattle.wasm_core_write.proofs.TypeLists.{list_mapped}
use Rattle.wasm_encoder_bodies.specs.CoreLocals.{pair_of, run_bytes}
use Rattle.wasm_encoder_bodies.specs.Locals.{run_of, run_encoding, locals_encoding}
use Rattle.wasm_encoder_bodies.specs.declared.local_runs.LocalRun.{LocalRun}
use Rattle.wasm_spec.specs.Shortest.{unsigned_encoding, list_encoding}
use Rattle.wasm_spec.proofs.ListEncodings.{writes_item, all_written, nothing_left, length_of_rest}

pub runs_written : (runs : List LocalRun) → unsigned_encoding (length runs) ++ flat_map run_bytes runs ≡ locals_encoding (map run_of (map pair_of runs))
unfolding list_encoding run_bytes
runs_written runs = list_mapped (λ run. run_encoding (run_of run)) pair_of runs ∙ list_mapped run_encoding run_of (map pair_of runs)

pub ruleset written_steps = (runs_written, writes_item, all_written)
