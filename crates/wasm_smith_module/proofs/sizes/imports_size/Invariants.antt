use Rattle.std.proofs.Common.{◌≡◌, ◌+◌, ◌-◌, ◌^◌, ◌≤◌, map, drop}
use Rattle.std.specs.List.{sum_by}
use Rattle.wasm_core_types.specs.SubTypes.{sub_type}
use Rattle.wasm_smith_shapes.specs.Imports.{import_entry}
use Rattle.wasm_smith_module.proofs.sizes.imports_size.Given as goal
use Rattle.wasm_smith_module.specs.Measured.{saturated}
use Rattle.wasm_smith_module.specs.Measures.{size_of}
use Rattle.wasm_spec.specs.Syntax.{imported_by}

abbrev pub invariant-loop-entry : goal.invariant-loop-entry
invariant-loop-entry l = record {
  sum : saturated (l.size + sum_by (λ entry. sum_by (size_of (map sub_type l.types)) (imported_by (import_entry entry))) (drop l.entry-index l.imports))
      ≡ saturated (sum_by (λ entry. sum_by (size_of (map sub_type l.types)) (imported_by (import_entry entry))) l.imports);
  fits : l.size ≤ 2 ^ 64 - 1;
}
