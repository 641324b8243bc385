use Rattle.std.proofs.Common.{◌≡◌, ◌+◌, ◌-◌, ◌^◌, ◌≤◌, map, drop, min}
use Rattle.std.specs.List.{sum_by}
use Rattle.wasm_core_types.specs.SubTypes.{sub_type}
use Rattle.wasm_spec.specs.Syntax.{imported_by}
use Rattle.wasm_smith_shapes.specs.Imports.{import_entry}
use Rattle.wasm_smith_externs.specs.Candidates.{type_size}
use Rattle.wasm_smith_externs.proofs.import_sizes.imports_size.Given as goal

abbrev pub invariant-loop-entry : goal.invariant-loop-entry
invariant-loop-entry l = record {
  sum : min (l.size + sum_by (λ entry. sum_by (type_size (map sub_type l.types)) (imported_by (import_entry entry))) (drop l.entry-index l.entries)) (2 ^ 64 - 1)
      ≡ min (sum_by (λ entry. sum_by (type_size (map sub_type l.types)) (imported_by (import_entry entry))) l.entries) (2 ^ 64 - 1);
  fits : l.size ≤ 2 ^ 64 - 1;
}
