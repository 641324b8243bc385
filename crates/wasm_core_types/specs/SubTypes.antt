-- Defined types of the code as those of the specification.
use Rattle.std.specs.Prelude.{ℕ}
use Rattle.std.specs.Option.{option_to_list}
use Rattle.wasm_spec.specs.Types as spec
use Rattle.wasm_core_types.specs.CoreTypes.{field_type}
use Rattle.wasm_core_types.specs.declared.types.CompositeType.{CompositeType}
use Rattle.wasm_core_types.specs.declared.types.CompositeType.TheVariants.{Func, Array, Struct, Cont}
use Rattle.wasm_core_types.specs.declared.types.SubType.{SubType}

abbrev pub composite_type : CompositeType → spec.CompositeType ℕ
composite_type (Func type) = spec.FuncComposite type
composite_type (Array type) = spec.ArrayComposite (field_type type.0)
composite_type (Struct fields) = spec.StructComposite fields
composite_type (Cont type) = spec.ContComposite type.0

abbrev pub sub_type : SubType → spec.SubType ℕ
sub_type type = record {
  is_final = type.is_final;
  supertypes = option_to_list type.supertype_idx;
  composite_type = composite_type type.composite_type;
}
