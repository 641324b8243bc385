use Rattle.std.proofs.Common.{◌≡◌, ◌≤◌, ℕ, List, ◌++◌, length, map, drop}
use Rattle.wasm_core_types.specs.CoreTypes.{val_type}
use Rattle.wasm_spec.specs.Matching.{Pairwise}
use Rattle.wasm_spec.specs.Types.{ValType}
use Rattle.wasm_smith_types.specs.Copies.{Varies, varied_at}
use Rattle.wasm_smith_types.specs.Growing.{each_at, with_front}
use Rattle.wasm_smith_types.proofs.narrowing.varied_values.Given as goal

-- copies of what is left complete the copies of all
abbrev pub invariant-loop-type_ : goal.invariant-loop-type_
invariant-loop-type_ l = record {
  kept : (rest : List (ValType ℕ)) → Pairwise (Varies l.nullable) rest (map val_type (drop l.type_-index l.types))
      → Pairwise (Varies l.nullable) (map val_type l.copies.items ++ rest) (map val_type l.types);
  drawn : with_front (map val_type l.copies.items) (each_at (varied_at l.nullable) (map val_type (drop l.type_-index l.types)) l.unstructured) ≡ each_at
      (varied_at l.nullable) (map val_type l.types) l.fn.unstructured;
  taken : length l.unstructured ≤ length l.fn.unstructured;
}
