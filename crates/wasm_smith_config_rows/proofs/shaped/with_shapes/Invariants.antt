use Rattle.std.proofs.Common.{◌≡◌}
use Rattle.wasm_smith_config_rows.specs.Settings.{with_shapes}
use Rattle.wasm_smith_config_rows.proofs.shaped.with_shapes.Given as goal

abbrev pub invariant-loop-part : goal.invariant-loop-part
invariant-loop-part l = with_shapes l.config l.initial.config ≡ l.initial.config
