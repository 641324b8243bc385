-- Types by id that worked examples are about.
use Rattle.std.specs.Prelude.{ℕ, true, false, List, [], ◌∷◌, None, map}
use Rattle.wasm_spec.specs.Trees.{DefType, section_types}
use Rattle.wasm_spec.specs.Types.{CompositeType, Concrete, FuncComposite, FuncType, RefType, Ref, Single, StructComposite, SubType, TableType, ValType}
use Rattle.wasm_validity.specs.Context.{Context, at_first}
use Rattle.wasmparser_types.specs.Index.{Index, Id}

abbrev pub empty_structure : {R : Type 0} → CompositeType R
empty_structure = StructComposite []

abbrev pub open_type : {R : Type 0} → CompositeType R → SubType R
open_type composite = record { is_final = false; supertypes = []; composite_type = composite }

abbrev pub open_below : {R : Type 0} → R → CompositeType R → SubType R
open_below supertype composite = record { is_final = false; supertypes = supertype ∷ []; composite_type = composite }

abbrev pub takes : {R : Type 0} → List (ValType R) → FuncType R
takes params = record { params = params; results = [] }

-- a function that takes a reference to a type
abbrev pub function_to : {R : Type 0} → R → SubType R
function_to r = record { is_final = true; supertypes = []; composite_type = FuncComposite (takes (Ref true (Concrete r) ∷ [])) }

-- two structures, which are equal, one that is below the second of these, and a function that takes the third
abbrev pub written_types : List (SubType ℕ)
written_types = open_type empty_structure ∷ open_type empty_structure ∷ open_below 1 empty_structure ∷ function_to 2 ∷ []

abbrev pub types : List DefType
types = section_types (map Single written_types)

-- the equal ones have one id
abbrev pub ids : List ℕ
ids = 0 ∷ 0 ∷ 1 ∷ 2 ∷ []

abbrev pub interned : List DefType
interned = section_types (Single (open_type empty_structure) ∷ Single (open_below 0 empty_structure) ∷ Single (function_to 1) ∷ [])

abbrev pub sub_types : List (SubType Index)
sub_types = open_type empty_structure ∷ open_below (Id 0) empty_structure ∷ function_to (Id 1) ∷ []

abbrev pub to : {R : Type 0} → R → RefType R
to r = record { nullable = true; heap_type = Concrete r }

-- a table of a type
abbrev pub table_of : {R : Type 0} → RefType R → TableType R
table_of type = record { element_type = type; limits = record { minimum = 0; maximum = None; shared = false; is_64 = false; page_size_log2 = None } }

-- these types, two functions, a table, a global and an element segment
abbrev pub known : Context
known = record at_first {
  types = types;
  own_functions = 3 ∷ 3 ∷ [];
  tables = table_of (to 1) ∷ [];
  own_globals = record { value_type = Ref true (Concrete 2); mutable = true } ∷ [];
  elements = to 2 ∷ [];
}
