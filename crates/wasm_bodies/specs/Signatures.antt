-- The operators that take operands of fixed types and give some of fixed types: their signatures in a context, where they have one. Core
-- Specification 3.0, Validation, "Instructions". A signature is written as a function type. Gates are asked of operators elsewhere, and here of
-- the types that they write.
use Rattle.std.specs.Prelude.{◌^◌, ℕ, Bool, true, false, ◌&&◌, List, [], ◌∷◌, ◌++◌, map, replicate, nat_lt, nat_le, Option, Some, None, option_map, slice_get, if◌then◌else◌}
use Rattle.std.specs.List.{list_all}
use Rattle.std.specs.Option.{option_and_then}
use Rattle.wasm_bodies.specs.BodyContext.{ModuleItems, BodyContext, provided, written, value_of, address_type, unpacked, is_defaultable, func_at, fields_at, element_at, function_at, reference_at}
use Rattle.wasm_bodies.specs.OperatorRows.{AccessRow, value_type}
use Rattle.wasm_bodies.specs.Operators.{MemoryArgument, Operator, Nop, Call, CallIndirect, CallRef, SelectTyped, GlobalGet, GlobalSet, I32Const, I64Const, F32Const, F64Const, V128Const, Scalar, Load, Store, MemorySize, MemoryGrow, MemoryFill, MemoryCopy, MemoryInit, DataDrop, TableGet, TableSet, TableSize, TableGrow, TableFill, TableCopy, TableInit, ElemDrop, RefNull, RefFunc, RefEq, StructNew, StructNewDefault, ArrayNew, ArrayNewDefault, ArrayNewFixed, RefI31}
use Rattle.wasm_spec.specs.Types.{Eq, I31, Abstract, ValType, I32, I64, F32, F64, V128, Ref, FuncType, RefType, MemoryType, TableType, funcref}

-- operands of these types are taken and given
abbrev pub from_to : {R : Type 0} → List (ValType R) → List (ValType R) → FuncType R
from_to takes gives = record { params = takes; results = gives }

-- one operand is given, and none is taken
abbrev pub gives_one : {R : Type 0} → ValType R → FuncType R
gives_one type = from_to [] (type ∷ [])

-- the same, with one operand more to be taken after the others
abbrev pub after_one_more : {R : Type 0} → ValType R → FuncType R → FuncType R
after_one_more type signature = record signature { params = signature.params ++ type ∷ [] }

-- ---- addresses

-- what a memory is addressed by, and a table, and what lies in a table
abbrev pub memory_index : {R : Type 0} → MemoryType → ValType R
memory_index memory = address_type memory.is_64

abbrev pub table_index : {R : Type 0} → TableType R → ValType R
table_index table = address_type table.limits.is_64

abbrev pub table_item : {R : Type 0} → TableType R → ValType R
table_item table = value_of table.element_type

-- ---- calls

-- a call of a function of the type through a table, whose items are functions ("Control Instructions")
abbrev pub through_table : {R : Type 0} → ModuleItems R → FuncType R → TableType R → Option (FuncType R)
through_table items type table =
    provided (items.is_below (table_item table) (value_of funcref)) (Some (after_one_more (table_index table) type))

abbrev pub call_through : {R : Type 0} → ModuleItems R → ℕ → ℕ → Option (FuncType R)
call_through items type table = option_and_then (λ signature. option_and_then (through_table items signature) (slice_get items.tables table)) (func_at items type)

-- a call of a reference to a function of the type, which may be null
abbrev pub call_of_reference : {R : Type 0} → ModuleItems R → ℕ → Option (FuncType R)
call_of_reference items type =
    option_and_then (λ signature. option_map (λ reference. after_one_more reference signature) (reference_at items true type)) (func_at items type)

-- ---- memories

abbrev pub memory_address : {R : Type 0} → ModuleItems R → ℕ → Option (ValType R)
memory_address items memory = option_map memory_index (slice_get items.memories memory)

-- the offset is an address of the memory, and no greater alignment is said than the access has ("Memory Instructions")
abbrev pub is_in_range : AccessRow → MemoryArgument → MemoryType → Bool
is_in_range row argument memory = nat_le argument.exponent row.exponent && nat_lt argument.offset (2 ^ (if memory.is_64 then 64 else 32))

-- the type of the addresses that a load or a store takes
abbrev pub accessed : {R : Type 0} → ModuleItems R → AccessRow → MemoryArgument → Option (ValType R)
accessed items row argument =
    option_and_then (λ memory. provided (is_in_range row argument memory) (Some (memory_index memory))) (slice_get items.memories argument.memory)

-- the length of what is copied, which is within both
abbrev pub length_type : {R : Type 0} → Bool → Bool → ValType R
length_type to_64 from_64 = address_type (to_64 && from_64)

abbrev pub has_data : {R : Type 0} → ModuleItems R → ℕ → Bool
has_data items segment = covers items.data_count
  where
    covers : Option ℕ → Bool
    covers None = false
    covers (Some count) = nat_lt segment count

-- ---- tables

-- what lies in the second may be put into the first
abbrev pub table_copy : {R : Type 0} → ModuleItems R → TableType R → TableType R → Option (FuncType R)
table_copy items to from =
    provided (items.is_below (table_item from) (table_item to))
    (Some (from_to (table_index to ∷ table_index from ∷ length_type to.limits.is_64 from.limits.is_64 ∷ []) []))

abbrev pub table_init : {R : Type 0} → ModuleItems R → RefType R → TableType R → Option (FuncType R)
table_init items segment table = provided (items.is_below (value_of segment) (table_item table)) (Some (from_to (table_index table ∷ I32 ∷ I32 ∷ []) []))

-- ---- structures and arrays

-- something of these operands that a new reference is made of, one to the type of this index, which isn't null
abbrev pub makes : {R : Type 0} → ModuleItems R → ℕ → List (ValType R) → Option (FuncType R)
makes items type takes = option_map (λ reference. from_to takes (reference ∷ [])) (reference_at items false type)

-- ---- signatures

abbrev pub signature_of : {R : Type 0} → BodyContext R → Operator ℕ → Option (FuncType R)
signature_of cx Nop = Some (from_to [] [])
signature_of cx (Call function) = function_at cx.items function
signature_of cx (CallIndirect type table) = call_through cx.items type table
signature_of cx (CallRef type) = call_of_reference cx.items type
-- a choice whose type is written: just one type
signature_of cx (SelectTyped (type ∷ [])) = option_map (λ t. from_to (t ∷ t ∷ I32 ∷ []) (t ∷ [])) (written cx.features cx.items type)
signature_of cx (SelectTyped _) = None
signature_of cx (GlobalGet global) = option_map (λ type. gives_one type.value_type) (slice_get cx.items.globals global)
signature_of cx (GlobalSet global) =
    option_and_then (λ type. provided type.mutable (Some (from_to (type.value_type ∷ []) []))) (slice_get cx.items.globals global)
signature_of cx (I32Const value) = Some (gives_one I32)
signature_of cx (I64Const value) = Some (gives_one I64)
signature_of cx (F32Const bits) = Some (gives_one F32)
signature_of cx (F64Const bits) = Some (gives_one F64)
signature_of cx (V128Const bytes) = Some (gives_one V128)
signature_of cx (Scalar row) = Some (from_to (map value_type row.takes) (value_type row.gives ∷ []))
signature_of cx (Load row argument) = option_map (λ address. from_to (address ∷ []) (value_type row.type ∷ [])) (accessed cx.items row argument)
signature_of cx (Store row argument) = option_map (λ address. from_to (address ∷ value_type row.type ∷ []) []) (accessed cx.items row argument)
signature_of cx (MemorySize memory) = option_map gives_one (memory_address cx.items memory)
signature_of cx (MemoryGrow memory) = option_map (λ address. from_to (address ∷ []) (address ∷ [])) (memory_address cx.items memory)
signature_of cx (MemoryFill memory) = option_map (λ address. from_to (address ∷ I32 ∷ address ∷ []) []) (memory_address cx.items memory)
signature_of cx (MemoryCopy to from) =
    option_and_then (λ t. option_map (λ f. from_to (memory_index t ∷ memory_index f ∷ length_type t.is_64 f.is_64 ∷ []) []) (slice_get cx.items.memories from)) (slice_get cx.items.memories to)
signature_of cx (MemoryInit segment memory) =
    provided (has_data cx.items segment) (option_map (λ address. from_to (address ∷ I32 ∷ I32 ∷ []) []) (memory_address cx.items memory))
signature_of cx (DataDrop segment) = provided (has_data cx.items segment) (Some (from_to [] []))
signature_of cx (TableGet table) = option_map (λ t. from_to (table_index t ∷ []) (table_item t ∷ [])) (slice_get cx.items.tables table)
signature_of cx (TableSet table) = option_map (λ t. from_to (table_index t ∷ table_item t ∷ []) []) (slice_get cx.items.tables table)
signature_of cx (TableSize table) = option_map (λ t. gives_one (table_index t)) (slice_get cx.items.tables table)
signature_of cx (TableGrow table) = option_map (λ t. from_to (table_item t ∷ table_index t ∷ []) (table_index t ∷ [])) (slice_get cx.items.tables table)
signature_of cx (TableFill table) = option_map (λ t. from_to (table_index t ∷ table_item t ∷ table_index t ∷ []) []) (slice_get cx.items.tables table)
signature_of cx (TableCopy to from) = option_and_then (λ t. option_and_then (table_copy cx.items t) (slice_get cx.items.tables from)) (slice_get cx.items.tables to)
signature_of cx (TableInit segment table) =
    option_and_then (λ type. option_and_then (table_init cx.items type) (slice_get cx.items.tables table)) (slice_get cx.items.elements segment)
signature_of cx (ElemDrop segment) = option_map (λ type. from_to [] []) (slice_get cx.items.elements segment)
-- null is of the type that is written
signature_of cx (RefNull heap) = option_map gives_one (written cx.features cx.items (Ref true heap))
-- a function that the module names outside of bodies
signature_of cx (RefFunc function) =
    provided (cx.items.declared function) (option_map gives_one (option_and_then (reference_at cx.items false) (slice_get cx.items.functions function)))
signature_of cx RefEq = Some (from_to (Ref true (Abstract Eq) ∷ Ref true (Abstract Eq) ∷ []) (I32 ∷ []))
signature_of cx (StructNew type) = option_and_then (λ fields. makes cx.items type (map unpacked fields)) (fields_at cx.items type)
signature_of cx (StructNewDefault type) =
    option_and_then (λ fields. provided (list_all is_defaultable (map unpacked fields)) (makes cx.items type [])) (fields_at cx.items type)
-- the element, and then how many
signature_of cx (ArrayNew type) = option_and_then (λ field. makes cx.items type (unpacked field ∷ I32 ∷ [])) (element_at cx.items type)
signature_of cx (ArrayNewDefault type) =
    option_and_then (λ field. provided (is_defaultable (unpacked field)) (makes cx.items type (I32 ∷ []))) (element_at cx.items type)
signature_of cx (ArrayNewFixed type count) = option_and_then (λ field. makes cx.items type (replicate count (unpacked field))) (element_at cx.items type)
signature_of cx RefI31 = Some (from_to (I32 ∷ []) (Ref false (Abstract I31) ∷ []))
signature_of cx _ = None
