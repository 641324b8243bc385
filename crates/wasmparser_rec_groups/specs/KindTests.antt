-- The tests by which the code finds out of which kinds supertypes are. A law ties them to what is meant.
use Rattle.std.specs.Prelude.{Bool, true, false, List, Option, Some, None}
use Rattle.std.specs.List.{list_all}
use Rattle.wasm_spec.specs.Subtyping.{SubTypes}
use Rattle.wasm_spec.specs.Types.{CompositeType, FuncComposite, StructComposite, ArrayComposite, ContComposite, SubType}
use Rattle.wasmparser_types.specs.Index.{Index}

-- two composite types are both of functions, of structures, of arrays or of continuations
abbrev pub is_of_one_kind : CompositeType Index → CompositeType Index → Bool
is_of_one_kind (FuncComposite a) (FuncComposite b) = true
is_of_one_kind (StructComposite a) (StructComposite b) = true
is_of_one_kind (ArrayComposite a) (ArrayComposite b) = true
is_of_one_kind (ContComposite a) (ContComposite b) = true
is_of_one_kind _ _ = false

-- a type is known, and of the kind of a composite type
abbrev pub is_like : CompositeType Index → Option (SubType Index) → Bool
is_like composite (Some type) = is_of_one_kind type.composite_type composite
is_like composite None = false

-- all supertypes of a type are of its kind
abbrev pub has_supertypes_of_kind : SubTypes Index → SubType Index → Bool
has_supertypes_of_kind sub_at type = list_all (λ supertype. is_like type.composite_type (sub_at supertype)) type.supertypes

abbrev pub have_supertypes_of_kind : SubTypes Index → List (SubType Index) → Bool
have_supertypes_of_kind sub_at types = list_all (has_supertypes_of_kind sub_at) types
