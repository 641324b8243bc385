-- The offers of the code, as they are in the specification.
use Rattle.wasm_core_types.specs.CoreTypes.{val_type}
use Rattle.wasm_smith_types.specs.Drawing as spec
use Rattle.wasm_smith_types.specs.declared.value_types.Kind.{Kind}
use Rattle.wasm_smith_types.specs.declared.value_types.Kind.TheVariants.{NumberOrVector, Reference}

abbrev pub kind : Kind → spec.Kind
kind (NumberOrVector type) = spec.NumberOrVector (val_type type)
kind Reference = spec.Reference
