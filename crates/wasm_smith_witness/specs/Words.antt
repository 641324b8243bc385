-- One spelling of each list of groups and functions.
use Rattle.std.specs.Prelude.{ℕ, zero, suc, ◌+◌, ◌-◌, Bool, not, ◌&&◌, List, [], ◌∷◌, ◌++◌, length, nat_lt, if◌then◌else◌}
use Rattle.std.specs.Int.{bytes_high_first}
use Rattle.std.specs.List.{list_any}
use Rattle.wasm_spec.specs.Types.{AbstractHeapType, Func, Extern, Any, Eq, I31, Struct, Array, None, NoFunc, NoExtern, Exn, NoExn, Cont, NoCont, HeapType, Abstract, Concrete, ValType, I32, I64, F32, F64, V128, Ref, StorageType, I8, I16, Val, FieldType, FuncType, CompositeType, FuncComposite, StructComposite, ArrayComposite, ContComposite, SubType}
use Rattle.wasm_smith_unstructured.specs.Draws.{width}
use Rattle.wasm_smith_config.specs.declared.config.Config.{Config}
use Rattle.wasm_smith_types.specs.Drawing.{Front, front_then, asks_then, fits, no_groups, total}
use Rattle.wasm_smith_types.specs.Offering.{common_heaps, max_results}
use Rattle.wasm_smith_definitions.specs.FunctionTypes.{is_function, function_indexes}
use Rattle.wasm_smith_witness.specs.Asking.{asks_for_import, asks_for_tag}
use Rattle.wasm_smith_witness.specs.Family.{types_of}

-- ---- draws

abbrev pub bool_byte : Bool → ℕ
bool_byte b = if b then 1 else 0

-- false, where it is asked
abbrev pub no_word : Bool → List ℕ
no_word asked = if asked then 0 ∷ [] else []

-- a number in as many bytes as the greatest one takes, most significant first
unfoldable pub int_word : ℕ → ℕ → List ℕ
int_word greatest n = bytes_high_first (width greatest) n

-- true before each thing
unfoldable pub each_word : {A : Type 0} → (A → List ℕ) → List A → List ℕ
each_word word [] = []
each_word word (x ∷ xs) = 1 ∷ (word x ++ each_word word xs)

-- false where room is left
unfoldable pub list_word : {A : Type 0} → (A → List ℕ) → ℕ → List A → List ℕ
list_word word max xs = each_word word xs ++ no_word (nat_lt (length xs) max)

-- ---- types

-- the place of vectors, or else of references, among what is offered
abbrev pub place_after_floats : Config → ℕ
place_after_floats c = if c.allow_floats then 4 else 2

-- the place of a value type, or of references, among what is offered
abbrev pub value_place : Config → ValType ℕ → ℕ
value_place c I32 = 0
value_place c I64 = 1
value_place c F32 = 2
value_place c F64 = 3
value_place c V128 = place_after_floats c
value_place c (Ref nullable heap) = place_after_floats c + bool_byte c.simd_enabled

-- the place of a heap type among those that are offered
abbrev pub heap_place : Config → AbstractHeapType → ℕ
heap_place c Func = 0
heap_place c Extern = 1
heap_place c Any = 2
heap_place c Eq = 3
heap_place c I31 = 4
heap_place c Struct = 5
heap_place c Array = 6
heap_place c None = 7
heap_place c NoFunc = 8
heap_place c NoExtern = 9
heap_place c Exn = if c.gc_enabled then 10 else 2
heap_place c NoExn = 11
heap_place c Cont = length (common_heaps c.gc_enabled c.exceptions_enabled)
heap_place c NoCont = length (common_heaps c.gc_enabled c.exceptions_enabled) + 1

unfoldable pub heap_word : Config → ℕ → HeapType ℕ → List ℕ
heap_word c bound (Abstract heap) = no_word (c.gc_enabled && nat_lt 0 bound) ++ heap_place c heap ∷ []
heap_word c bound (Concrete index) = 1 ∷ int_word (bound - 1) index

unfoldable pub value_word : Config → ℕ → ValType ℕ → List ℕ
value_word c bound (Ref nullable heap) = value_place c (Ref nullable heap) ∷ (no_word c.gc_enabled ++ heap_word c bound heap)
value_word c bound I32 = value_place c I32 ∷ []
value_word c bound I64 = value_place c I64 ∷ []
value_word c bound F32 = value_place c F32 ∷ []
value_word c bound F64 = value_place c F64 ∷ []
value_word c bound V128 = value_place c V128 ∷ []

unfoldable pub storage_word : Config → ℕ → StorageType ℕ → List ℕ
storage_word c bound (Val type) = 0 ∷ value_word c bound type
storage_word c bound I8 = 1 ∷ []
storage_word c bound I16 = 2 ∷ []

unfoldable pub field_word : Config → ℕ → FieldType ℕ → List ℕ
field_word c bound field = storage_word c bound field.element_type ++ bool_byte field.mutable ∷ []

unfoldable pub function_word : Config → ℕ → FuncType ℕ → List ℕ
function_word c bound type = list_word (value_word c bound) 20 type.params ++ list_word (value_word c bound) (max_results c) type.results

unfoldable pub composite_word : Config → ℕ → CompositeType ℕ → List ℕ
composite_word c bound (FuncComposite type) = 0 ∷ function_word c bound type
composite_word c bound (StructComposite fields) = 1 ∷ list_word (field_word c bound) 20 fields
composite_word c bound (ArrayComposite field) = 2 ∷ field_word c bound field
composite_word c bound (ContComposite function) = []

-- asked: an earlier type is open
unfoldable pub type_word : Config → ℕ → Bool → SubType ℕ → List ℕ
type_word c bound asked type = no_word asked ++ (bool_byte (not type.is_final) ∷ composite_word c bound type.composite_type)

unfoldable pub members_word : Config → ℕ → Bool → List (SubType ℕ) → List ℕ
members_word c bound asked [] = []
members_word c bound asked (type ∷ types) = type_word c bound asked type ++ members_word c bound (asks_then asked type) types

-- ---- groups

-- cloneable: an earlier group fits into what is left
unfoldable pub group_word : Config → ℕ → ℕ → Bool → Bool → List (SubType ℕ) → List ℕ
group_word c left end cloneable asked group = no_word cloneable ++ (int_word (left - 1) (length group - 1) ++ members_word c end asked group)

unfoldable pub groups_word : Config → ℕ → Front → List (List (SubType ℕ)) → List ℕ
groups_word c max front [] = no_word (nat_lt (total front.sizes) max)
groups_word c max front (group ∷ groups) =
    1 ∷ (group_word c (max - total front.sizes) (total front.sizes + length group) (list_any (fits (max - total front.sizes)) front.sizes) front.asked group
    ++ groups_word c max (front_then front group) groups)

-- without garbage collection, the parameters and results of each group's one type
unfoldable pub lone_composite_word : Config → CompositeType ℕ → List ℕ
lone_composite_word c (FuncComposite type) = function_word c 0 type
lone_composite_word c (StructComposite fields) = []
lone_composite_word c (ArrayComposite field) = []
lone_composite_word c (ContComposite function) = []

unfoldable pub lone_word : Config → List (SubType ℕ) → List ℕ
lone_word c [] = []
lone_word c (type ∷ types) = lone_composite_word c type.composite_type ++ lone_word c types

unfoldable pub types_word : Config → List (List (SubType ℕ)) → List ℕ
types_word c groups = if c.gc_enabled then groups_word c c.max_types no_groups groups else list_word (lone_word c) c.max_types groups

-- ---- functions

-- how many function types come before it
abbrev pub place_of : List (SubType ℕ) → ℕ → ℕ
place_of [] index = 0
place_of (type ∷ types) zero = 0
place_of (type ∷ types) (suc index) = if is_function type.composite_type then suc (place_of types index) else place_of types index

-- the function type of a function, among these types
abbrev pub index_word : List (SubType ℕ) → ℕ → List ℕ
index_word types index = int_word (length (function_indexes 0 types) - 1) (place_of types index)

-- the groups, false for imports and for tags, and then the functions
abbrev pub module_word : Config → List (List (SubType ℕ)) → List ℕ → List ℕ
module_word c groups funcs =
    types_word c groups ++ (no_word (asks_for_import c (types_of groups)) ++ (no_word (asks_for_tag c (types_of groups)) ++ each_word (index_word (types_of groups)) funcs))
