-- Composite types of the code as those of the specification.
use Rattle.std.specs.Prelude.{List, Option, Some, None, map}
use Rattle.wasm_spec.specs.Types as spec
use Rattle.wasmparser_types.specs.Index.{Index}
use Rattle.wasmparser_types.specs.ValTypes.{val_type, field_type}
use Rattle.wasmparser_types.specs.declared.composite_type.FuncType.{FuncType}
use Rattle.wasmparser_types.specs.declared.composite_type.StructType.{StructType}
use Rattle.wasmparser_types.specs.declared.composite_type.CompositeType.{CompositeType}
use Rattle.wasmparser_types.specs.declared.composite_type.CompositeType.TheVariants.{Func, Array, Struct, Cont}

abbrev pub func_type : FuncType → spec.FuncType Index
func_type type = record { params = map val_type type.params.items; results = map val_type type.results.items }

abbrev pub struct_fields : StructType → List (spec.FieldType Index)
struct_fields type = map field_type type.fields.items

abbrev pub composite_type : CompositeType → spec.CompositeType Index
composite_type (Func type) = spec.FuncComposite (func_type type)
composite_type (Array type) = spec.ArrayComposite (field_type type.0)
composite_type (Struct type) = spec.StructComposite (struct_fields type)
composite_type (Cont type) = spec.ContComposite type.0

-- what a composite type is, if it is of this kind
abbrev pub func_of : spec.CompositeType Index → Option (spec.FuncType Index)
func_of (spec.FuncComposite type) = Some type
func_of (spec.StructComposite fields) = None
func_of (spec.ArrayComposite field) = None
func_of (spec.ContComposite index) = None

abbrev pub struct_of : spec.CompositeType Index → Option (List (spec.FieldType Index))
struct_of (spec.FuncComposite type) = None
struct_of (spec.StructComposite fields) = Some fields
struct_of (spec.ArrayComposite field) = None
struct_of (spec.ContComposite index) = None

abbrev pub array_of : spec.CompositeType Index → Option (spec.FieldType Index)
array_of (spec.FuncComposite type) = None
array_of (spec.StructComposite fields) = None
array_of (spec.ArrayComposite field) = Some field
array_of (spec.ContComposite index) = None

abbrev pub cont_of : spec.CompositeType Index → Option Index
cont_of (spec.FuncComposite type) = None
cont_of (spec.StructComposite fields) = None
cont_of (spec.ArrayComposite field) = None
cont_of (spec.ContComposite index) = Some index
