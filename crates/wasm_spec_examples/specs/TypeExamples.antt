-- Types that worked examples share.
use Rattle.std.specs.Prelude.{◌≡◌, ℕ, zero, suc, true, false, List, [], ◌∷◌, map, replicate}
use Rattle.wasm_spec.specs.Trees.{section_types, type_at}
use Rattle.wasm_spec.specs.Types.{Any, Struct, HeapType, Abstract, Concrete, ValType, I32, I64, Ref, StorageType, Val, FieldType, FuncType, CompositeType, FuncComposite, StructComposite, ArrayComposite, ContComposite, SubType, RecGroup, Single, Group}

abbrev pub ref_null : {R : Type 0} → HeapType R → ValType R
ref_null heap = Ref true heap

-- a field that can't be written, and one that can
abbrev pub const_field : {R : Type 0} → ValType R → FieldType R
const_field type = record { element_type = Val type; mutable = false }

abbrev pub var_field : {R : Type 0} → ValType R → FieldType R
var_field type = record { element_type = Val type; mutable = true }

-- one that holds a packed number, and can be written
abbrev pub packed_field : {R : Type 0} → StorageType R → FieldType R
packed_field type = record { element_type = type; mutable = true }

-- functions without results, and without parameters
abbrev pub takes : {R : Type 0} → List (ValType R) → FuncType R
takes params = record { params = params; results = [] }

abbrev pub gives : {R : Type 0} → List (ValType R) → FuncType R
gives results = record { params = []; results = results }

-- types without supertypes: final, and open
abbrev pub final_type : {R : Type 0} → CompositeType R → SubType R
final_type composite = record { is_final = true; supertypes = []; composite_type = composite }

abbrev pub open_type : {R : Type 0} → CompositeType R → SubType R
open_type composite = record { is_final = false; supertypes = []; composite_type = composite }

-- an open type with one supertype
abbrev pub open_below : {R : Type 0} → R → CompositeType R → SubType R
open_below supertype composite = record { is_final = false; supertypes = supertype ∷ []; composite_type = composite }

-- a final type with one supertype
abbrev pub final_below : {R : Type 0} → R → CompositeType R → SubType R
final_below supertype composite = record { is_final = true; supertypes = supertype ∷ []; composite_type = composite }

-- a structure that refers to one type, and the final type of it
abbrev pub field_to : {R : Type 0} → R → CompositeType R
field_to r = StructComposite (const_field (ref_null (Concrete r)) ∷ [])

abbrev pub structure_to : {R : Type 0} → R → SubType R
structure_to r = final_type (field_to r)

-- two structures, the first of which refers to the second index, the second to the first
abbrev pub pair_from : ℕ → ℕ → RecGroup ℕ
pair_from first second = Group (structure_to second ∷ structure_to first ∷ [])

abbrev pub empty_structure : {R : Type 0} → CompositeType R
empty_structure = StructComposite []

abbrev pub empty_function : {R : Type 0} → CompositeType R
empty_function = FuncComposite (takes [])

-- so many open empty structures, the first of which is below the type of this index, and each other below the one before it
abbrev pub chain_from : ℕ → ℕ → List (SubType ℕ)
chain_from index zero = []
chain_from index (suc n) = open_below index empty_structure ∷ chain_from (suc index) n

-- an open empty structure, and so many in a chain below it
abbrev pub chain : ℕ → RecGroup ℕ
chain links = Group (open_type empty_structure ∷ chain_from 0 links)

abbrev pub one_field : {R : Type 0} → CompositeType R
one_field = StructComposite (const_field I32 ∷ [])

abbrev pub two_fields : {R : Type 0} → CompositeType R
two_fields = StructComposite (const_field I32 ∷ var_field I64 ∷ [])

-- functions of so many parameters
abbrev pub of_params : {R : Type 0} → ℕ → SubType R
of_params n = final_type (FuncComposite (takes (replicate n I32)))

-- a function that takes a reference to one type
abbrev pub function_to : {R : Type 0} → R → SubType R
function_to r = final_type (FuncComposite (takes (ref_null (Concrete r) ∷ [])))

-- a type of each kind
abbrev pub one_of_each : List (SubType ℕ)
one_of_each = final_type empty_function ∷ final_type empty_structure ∷ final_type (ArrayComposite (const_field I32)) ∷ final_type (ContComposite 0) ∷ []

-- any internal reference, and a reference to any structure
abbrev pub any : {R : Type 0} → ValType R
any = ref_null (Abstract Any)

abbrev pub any_structure : {R : Type 0} → ValType R
any_structure = ref_null (Abstract Struct)

-- two type indexes of a section stand for one type
abbrev pub IsOneType : List (RecGroup ℕ) → ℕ → ℕ → Type 0
IsOneType groups i j = type_at (section_types groups) i ≡ type_at (section_types groups) j

-- An empty structure and one below it; a structure that refers to the first, and one below that, which refers to the type of this index.
abbrev pub group_with_links : ℕ → RecGroup ℕ
group_with_links index = Group (open_type empty_structure ∷ open_below 0 empty_structure ∷ open_type (field_to 0) ∷ open_below 2 (field_to index) ∷ [])

-- two equal structures, and one that is declared below the second
abbrev pub twins : List (RecGroup ℕ)
twins = Single (open_type empty_structure) ∷ Single (open_type empty_structure) ∷ Single (open_below 1 empty_structure) ∷ []

-- an open empty structure, and so many in a chain below it, each by itself
abbrev pub lone_chain : ℕ → List (RecGroup ℕ)
lone_chain links = map Single (open_type empty_structure ∷ chain_from 0 links)
