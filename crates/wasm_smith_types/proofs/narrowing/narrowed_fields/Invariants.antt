use Rattle.std.proofs.Common.{◌≡◌, ◌≤◌, ℕ, List, ◌++◌, length, map, drop}
use Rattle.wasm_core_types.specs.CoreTypes.{field_type}
use Rattle.wasm_spec.specs.Matching.{Pairwise}
use Rattle.wasm_spec.specs.Types.{FieldType}
use Rattle.wasm_smith_types.specs.Copies.{IsNarrowedField, narrowed_field_at}
use Rattle.wasm_smith_types.specs.Growing.{each_at, with_front}
use Rattle.wasm_smith_types.proofs.narrowing.narrowed_fields.Given as goal

-- copies of what is left complete the copies of all
abbrev pub invariant-loop-field : goal.invariant-loop-field
invariant-loop-field l = record {
  kept : (rest : List (FieldType ℕ)) → Pairwise IsNarrowedField rest (map field_type (drop l.field-index l.fields))
      → Pairwise IsNarrowedField (map field_type l.copies.items ++ rest) (map field_type l.fields);
  drawn : with_front (map field_type l.copies.items)
      (each_at narrowed_field_at (map field_type (drop l.field-index l.fields)) l.unstructured) ≡ each_at narrowed_field_at
      (map field_type l.fields) l.fn.unstructured;
  taken : length l.unstructured ≤ length l.fn.unstructured;
}
