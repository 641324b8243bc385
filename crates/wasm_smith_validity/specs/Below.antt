-- Types and references of the code, as subtyping sees them.
use Rattle.std.specs.Prelude.{ℕ, List, slice_get, map}
use Rattle.wasm_core_types.specs.CoreTypes.{heap_type}
use Rattle.wasm_core_types.specs.SubTypes.{sub_type}
use Rattle.wasm_core_types.specs.declared.types.RefType.{RefType}
use Rattle.wasm_core_types.specs.declared.types.SubType.{SubType}
use Rattle.wasm_spec.specs.Subtyping.{SubTypes}
use Rattle.wasm_spec.specs.Types as spec

-- the types, by type index
abbrev pub seen : List SubType → SubTypes ℕ
seen types = slice_get (map sub_type types)

abbrev pub ref_type : RefType → spec.RefType ℕ
ref_type reference = record { nullable = reference.nullable; heap_type = heap_type reference.heap_type }
