-- Types by id that worked examples are about.
use Rattle.std.specs.Prelude.{false, List, [], ◌∷◌, slice_get}
use Rattle.wasm_spec.specs.Subtyping.{SubTypes}
use Rattle.wasm_spec.specs.Types.{I32, Val, CompositeType, FuncComposite, StructComposite, ArrayComposite, ContComposite, SubType}
use Rattle.wasmparser_type_relations.specs.Chains.{by_id}
use Rattle.wasmparser_types.specs.Index.{Index, Id}

abbrev pub empty_structure : CompositeType Index
empty_structure = StructComposite []

abbrev pub empty_function : CompositeType Index
empty_function = FuncComposite (record { params = []; results = [] })

abbrev pub open_type : CompositeType Index → SubType Index
open_type composite = record { is_final = false; supertypes = []; composite_type = composite }

abbrev pub open_below : Index → CompositeType Index → SubType Index
open_below supertype composite = record { is_final = false; supertypes = supertype ∷ []; composite_type = composite }

-- three structures, each below the one before it; another structure; a function and one below it; an array and a continuation
abbrev pub some_types : List (SubType Index)
some_types =
    open_type empty_structure
    ∷ open_below (Id 0) empty_structure
    ∷ open_below (Id 1) empty_structure
    ∷ open_type empty_structure
    ∷ open_type empty_function
    ∷ open_below (Id 4) empty_function
    ∷ open_type (ArrayComposite (record { element_type = Val I32; mutable = false }))
    ∷ open_type (ContComposite (Id 4))
    ∷ []

abbrev pub known : SubTypes Index
known = by_id (slice_get some_types)

-- a structure that is declared below a function, which validity rules out
abbrev pub across_kinds : SubTypes Index
across_kinds = by_id (slice_get (open_type empty_function ∷ open_below (Id 0) empty_structure ∷ []))
