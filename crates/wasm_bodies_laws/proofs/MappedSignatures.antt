-- The items that indexes name and the signatures of operators, over mapped references.
use Rattle.std.proofs.Common.{ℕ, Bool, true, false, ◌≡◌, ◌&&◌, List, [], ◌∷◌, map, replicate, Option, Some, refl, sym, ap, ◌∙◌}
use Rattle.std.proofs.lemmas.List.{map-append}
use Rattle.std.proofs.lemmas.Option.{slice_get-map}
use Rattle.std.specs.List.{list_all, slice_get}
use Rattle.std.specs.Option.{option_and_then, option_map}
use Rattle.wasm_bodies.specs.BodyContext.{ModuleItems, BodyContext, provided, heap_meant, meant, written, value_of, address_type, unpacked, is_defaultable, func_in, fields_in, element_in, func_at, fields_at, element_at, function_at, reference_at}
use Rattle.wasm_bodies.specs.OperatorRows.{NumberType, Int32, Int64, Float32, Float64, AccessRow, value_type}
use Rattle.wasm_bodies.specs.Operators.{MemoryArgument, Operator, Nop, Call, CallIndirect, CallRef, SelectTyped, GlobalGet, GlobalSet, I32Const, I64Const, F32Const, F64Const, V128Const, Scalar, Load, Store, MemorySize, MemoryGrow, MemoryFill, MemoryCopy, MemoryInit, DataDrop, TableGet, TableSet, TableSize, TableGrow, TableFill, TableCopy, TableInit, ElemDrop, RefNull, RefFunc, RefEq, StructNew, StructNewDefault, ArrayNew, ArrayNewDefault, ArrayNewFixed, RefI31}
use Rattle.wasm_bodies.specs.Signatures.{from_to, gives_one, after_one_more, memory_index, table_index, table_item, through_table, call_through, call_of_reference, memory_address, accessed, is_in_range, length_type, has_data, table_copy, table_init, makes, signature_of}
use Rattle.wasm_bodies_laws.specs.References.{AgreeOn, AreWanted, Below, named_map, items_map, context_map}
use Rattle.wasm_bodies_laws.proofs.HeldOptions.{held, then_held}
use Rattle.wasm_bodies_laws.proofs.MappedOptions.{provided_map, map_map, then_map, map_same, then_same, replicate_map}
use Rattle.wasm_spec.specs.Features.{Features}
use Rattle.wasm_spec.specs.Gates.{is_allowed}
use Rattle.wasm_spec.specs.TypeReferences.{heap_map, ref_map, val_map, storage_map, field_map, func_map, composite_map, table_map, global_map}
use Rattle.wasm_spec.specs.Types.{Func, HeapType, Abstract, Concrete, RefType, ValType, I32, I64, F32, F64, V128, Ref, StorageType, I8, I16, Val, FieldType, FuncType, CompositeType, FuncComposite, StructComposite, ArrayComposite, ContComposite, TableType, funcref}

-- ---- types alone

module _ {R S : Type 0} (f : R → S) where
  pub unpacked_is : (field : FieldType R) → unpacked (field_map f field) ≡ val_map f (unpacked field)
  unpacked_is field = of field.element_type
    where
      of : (storage : StorageType R) → unpacked (record { element_type = storage_map f storage; mutable = field.mutable }) ≡ val_map f (unpacked (record { element_type = storage; mutable = field.mutable }))
      of I8 = refl
      of I16 = refl
      of (Val type) = refl

  pub is_defaultable_is : (type : ValType R) → is_defaultable (val_map f type) ≡ is_defaultable type
  is_defaultable_is I32 = refl
  is_defaultable_is I64 = refl
  is_defaultable_is F32 = refl
  is_defaultable_is F64 = refl
  is_defaultable_is V128 = refl
  is_defaultable_is (Ref nullable heap) = refl

  pub all_unpacked_is : (fields : List (FieldType R)) → map unpacked (map (field_map f) fields) ≡ map (val_map f) (map unpacked fields)
  all_unpacked_is [] = refl
  all_unpacked_is (field ∷ fields) = rw (unpacked_is field, all_unpacked_is fields)

  pub all_defaultable_is : (types : List (ValType R)) → list_all is_defaultable (map (val_map f) types) ≡ list_all is_defaultable types
  all_defaultable_is [] = refl
  all_defaultable_is (type ∷ types) = rw (is_defaultable_is type, all_defaultable_is types)

  pub address_is : (is_64 : Bool) → address_type is_64 ≡ val_map f (address_type is_64)
  address_is true = refl
  address_is false = refl

  pub value_type_is : (type : NumberType) → value_type type ≡ val_map f (value_type type)
  value_type_is Int32 = refl
  value_type_is Int64 = refl
  value_type_is Float32 = refl
  value_type_is Float64 = refl

  pub value_types_are : (types : List NumberType) → map value_type types ≡ map (val_map f) (map value_type types)
  value_types_are [] = refl
  value_types_are (type ∷ types) = rw (← value_type_is type, ← value_types_are types)

  pub func_in_is : (composite : CompositeType R) → func_in (composite_map f composite) ≡ option_map (func_map f) (func_in composite)
  func_in_is (FuncComposite type) = refl
  func_in_is (StructComposite fields) = refl
  func_in_is (ArrayComposite field) = refl
  func_in_is (ContComposite function) = refl

  pub fields_in_is : (composite : CompositeType R) → fields_in (composite_map f composite) ≡ option_map (map (field_map f)) (fields_in composite)
  fields_in_is (FuncComposite type) = refl
  fields_in_is (StructComposite fields) = refl
  fields_in_is (ArrayComposite field) = refl
  fields_in_is (ContComposite function) = refl

  pub element_in_is : (composite : CompositeType R) → element_in (composite_map f composite) ≡ option_map (field_map f) (element_in composite)
  element_in_is (FuncComposite type) = refl
  element_in_is (StructComposite fields) = refl
  element_in_is (ArrayComposite field) = refl
  element_in_is (ContComposite function) = refl

  pub one_more_is : (type : ValType R) (signature : FuncType R) → after_one_more (val_map f type) (func_map f signature) ≡ func_map f (after_one_more type signature)
  one_more_is type signature =
      ap (λ params. from_to params (map (val_map f) signature.results)) (sym (map-append (val_map f) signature.params (type ∷ [])))

-- ---- what indexes name

module _ {R S : Type 0} (f : R → S) (items : ModuleItems R) (below : Below S) where
  named_is : (index : ℕ) → slice_get (items_map f items below).types index ≡ option_map (named_map f) (slice_get items.types index)
  named_is index = slice_get-map (named_map f) items.types index

  heap_meant_is : (heap : HeapType ℕ) → heap_meant (items_map f items below) heap ≡ option_map (heap_map f) (heap_meant items heap)
  heap_meant_is (Abstract heap) = refl
  heap_meant_is (Concrete index) = rw (named_is index) (map_map (named_map f) (heap_map f) _ _ (λ named. refl) (slice_get items.types index))

  meant_is : (type : ValType ℕ) → meant (items_map f items below) type ≡ option_map (val_map f) (meant items type)
  meant_is I32 = refl
  meant_is I64 = refl
  meant_is F32 = refl
  meant_is F64 = refl
  meant_is V128 = refl
  meant_is (Ref nullable heap) = rw (heap_meant_is heap) (map_map (heap_map f) (val_map f) _ _ (λ defined. refl) (heap_meant items heap))

  pub written_is : (features : Features) (type : ValType ℕ) → written features (items_map f items below) type ≡ option_map (val_map f) (written features items type)
  written_is features type = rw (meant_is type) (provided_map (val_map f) (is_allowed features type) (meant items type))

  pub func_at_is : (index : ℕ) → func_at (items_map f items below) index ≡ option_map (func_map f) (func_at items index)
  func_at_is index = rw (named_is index) (then_map (named_map f) (func_map f) _ _ (λ named. func_in_is f named.composite) (slice_get items.types index))

  fields_at_is : (index : ℕ) → fields_at (items_map f items below) index ≡ option_map (map (field_map f)) (fields_at items index)
  fields_at_is index = rw (named_is index) (then_map (named_map f) (map (field_map f)) _ _ (λ named. fields_in_is f named.composite) (slice_get items.types index))

  element_at_is : (index : ℕ) → element_at (items_map f items below) index ≡ option_map (field_map f) (element_at items index)
  element_at_is index = rw (named_is index) (then_map (named_map f) (field_map f) _ _ (λ named. element_in_is f named.composite) (slice_get items.types index))

  pub function_at_is : (function : ℕ) → function_at (items_map f items below) function ≡ option_map (func_map f) (function_at items function)
  function_at_is function = then_same (func_map f) (func_at items) _ func_at_is (slice_get items.functions function)

  reference_at_is : (nullable : Bool) (index : ℕ) → reference_at (items_map f items below) nullable index ≡ option_map (val_map f) (reference_at items nullable index)
  reference_at_is nullable index = rw (named_is index) (map_map (named_map f) (val_map f) _ _ (λ named. refl) (slice_get items.types index))

  -- ---- memories and data

  memory_address_is : (memory : ℕ) → memory_address (items_map f items below) memory ≡ option_map (val_map f) (memory_address items memory)
  memory_address_is memory = map_same (val_map f) _ _ (λ m. address_is f m.is_64) (slice_get items.memories memory)

  accessed_is : (row : AccessRow) (argument : MemoryArgument) → accessed (items_map f items below) row argument ≡ option_map (val_map f) (accessed items row argument)
  accessed_is row argument =
      then_same (val_map f) _ _ (λ m. rw (address_is f m.is_64) (provided_map (val_map f) (is_in_range row argument m) (Some (memory_index m))))
      (slice_get items.memories argument.memory)

  -- ---- aggregates

  makes_is : (type : ℕ) (takes : List (ValType R)) → makes (items_map f items below) type (map (val_map f) takes) ≡ option_map (func_map f) (makes items type takes)
  makes_is type takes = rw (reference_at_is false type) (map_map (val_map f) (func_map f) _ _ (λ reference. refl) (reference_at items false type))

  -- ---- calls of references

  pub call_of_reference_is : (type : ℕ) → call_of_reference (items_map f items below) type ≡ option_map (func_map f) (call_of_reference items type)
  call_of_reference_is type =
      rw (func_at_is type, reference_at_is true type)
      (then_map (func_map f) (func_map f) _ _ (λ signature. map_map (val_map f) (func_map f) _ _ (λ reference. one_more_is f reference signature) (reference_at items true type)) (func_at items type))

-- ---- what fits, by the premise

module _ {R S : Type 0} (Wanted : ValType R → Type 0) (f : R → S) (features : Features) (items : ModuleItems R) (below : Below S) (agree : AgreeOn Wanted f items below) (wanted : AreWanted Wanted features items) where
  through_table_is : (type : FuncType R) (table : TableType R) → through_table (items_map f items below) (func_map f type) (table_map f table) ≡ option_map (func_map f) (through_table items type table)
  through_table_is type table =
      rw (agree (table_item table) (value_of funcref) (wanted.abstract_references Func), address_is f table.limits.is_64, one_more_is f (table_index table) type)
      (provided_map (func_map f) (items.is_below (table_item table) (value_of funcref)) (Some (after_one_more (table_index table) type)))

  pub call_through_is : (type table : ℕ) → call_through (items_map f items below) type table ≡ option_map (func_map f) (call_through items type table)
  call_through_is type table =
      rw (func_at_is f items below type, slice_get-map (table_map f) items.tables table)
      (then_map (func_map f) (func_map f) _ _ (λ signature. then_map (table_map f) (func_map f) _ _ (through_table_is signature) (slice_get items.tables table)) (func_at items type))

  table_copy_is : (to : TableType R) → Wanted (table_item to) → (from : TableType R) → table_copy (items_map f items below) (table_map f to) (table_map f from) ≡ option_map (func_map f) (table_copy items to from)
  table_copy_is to one from =
      rw (agree (table_item from) (table_item to) one, address_is f to.limits.is_64, address_is f from.limits.is_64, address_is f (to.limits.is_64 && from.limits.is_64))
      (provided_map (func_map f) (items.is_below (table_item from) (table_item to))
      (Some (from_to (table_index to ∷ table_index from ∷ length_type to.limits.is_64 from.limits.is_64 ∷ []) [])))

  table_init_is : (segment : RefType R) (table : TableType R) → Wanted (table_item table) → table_init (items_map f items below) (ref_map f segment) (table_map f table) ≡ option_map (func_map f) (table_init items segment table)
  table_init_is segment table one =
      rw (agree (value_of segment) (table_item table) one, address_is f table.limits.is_64)
      (provided_map (func_map f) (items.is_below (value_of segment) (table_item table)) (Some (from_to (table_index table ∷ I32 ∷ I32 ∷ []) [])))

-- ---- signatures

-- what is made of values that types have by themselves
abbrev made_of_defaults : {R : Type 0} → ModuleItems R → ℕ → List (FieldType R) → Option (FuncType R)
made_of_defaults items type fields = provided (list_all is_defaultable (map unpacked fields)) (makes items type [])

abbrev made_of_default : {R : Type 0} → ModuleItems R → ℕ → FieldType R → Option (FuncType R)
made_of_default items type field = provided (is_defaultable (unpacked field)) (makes items type (I32 ∷ []))

module _ {R S : Type 0} (Wanted : ValType R → Type 0) (f : R → S) (cx : BodyContext R) (below : Below S) (agree : AgreeOn Wanted f cx.items below) (wanted : AreWanted Wanted cx.features cx.items) where
  defaults_are : (type : ℕ) (fields : List (FieldType R)) → made_of_defaults (items_map f cx.items below) type (map (field_map f) fields) ≡ option_map (func_map f) (made_of_defaults cx.items type fields)
  defaults_are type fields =
      rw (all_unpacked_is f fields, all_defaultable_is f (map unpacked fields), makes_is f cx.items below type [])
      (provided_map (func_map f) (list_all is_defaultable (map unpacked fields)) (makes cx.items type []))

  default_is : (type : ℕ) (field : FieldType R) → made_of_default (items_map f cx.items below) type (field_map f field) ≡ option_map (func_map f) (made_of_default cx.items type field)
  default_is type field =
      rw (unpacked_is f field, is_defaultable_is f (unpacked field), makes_is f cx.items below type (I32 ∷ []))
      (provided_map (func_map f) (is_defaultable (unpacked field)) (makes cx.items type (I32 ∷ [])))

  pub signature_is : (operator : Operator ℕ) → signature_of (context_map f cx below) operator ≡ option_map (func_map f) (signature_of cx operator)
  signature_is Nop = refl
  signature_is (Call function) = function_at_is f cx.items below function
  signature_is (CallIndirect type table) = call_through_is Wanted f cx.features cx.items below agree wanted type table
  signature_is (CallRef type) = call_of_reference_is f cx.items below type
  signature_is (SelectTyped []) = refl
  signature_is (SelectTyped (type ∷ [])) =
      rw (written_is f cx.items below cx.features type) (map_map (val_map f) (func_map f) _ _ (λ t. refl) (written cx.features cx.items type))
  signature_is (SelectTyped (type ∷ other ∷ types)) = refl
  signature_is (GlobalGet global) =
      rw (slice_get-map (global_map f) cx.items.globals global) (map_map (global_map f) (func_map f) _ _ (λ type. refl) (slice_get cx.items.globals global))
  signature_is (GlobalSet global) =
      rw (slice_get-map (global_map f) cx.items.globals global)
      (then_map (global_map f) (func_map f) _ _ (λ type. provided_map (func_map f) type.mutable (Some (from_to (type.value_type ∷ []) []))) (slice_get cx.items.globals global))
  signature_is (I32Const value) = refl
  signature_is (I64Const value) = refl
  signature_is (F32Const bits) = refl
  signature_is (F64Const bits) = refl
  signature_is (V128Const bytes) = refl
  signature_is (Scalar row) = rw (value_types_are f row.takes, value_type_is f row.gives)
  signature_is (Load row argument) =
      rw (accessed_is f cx.items below row argument)
      (map_map (val_map f) (func_map f) _ _ (λ address. rw (value_type_is f row.type)) (accessed cx.items row argument))
  signature_is (Store row argument) =
      rw (accessed_is f cx.items below row argument)
      (map_map (val_map f) (func_map f) _ _ (λ address. rw (value_type_is f row.type)) (accessed cx.items row argument))
  signature_is (MemorySize memory) =
      rw (memory_address_is f cx.items below memory) (map_map (val_map f) (func_map f) _ _ (λ address. refl) (memory_address cx.items memory))
  signature_is (MemoryGrow memory) =
      rw (memory_address_is f cx.items below memory) (map_map (val_map f) (func_map f) _ _ (λ address. refl) (memory_address cx.items memory))
  signature_is (MemoryFill memory) =
      rw (memory_address_is f cx.items below memory) (map_map (val_map f) (func_map f) _ _ (λ address. refl) (memory_address cx.items memory))
  signature_is (MemoryCopy to from) =
      then_same (func_map f) _ _ (λ t. map_same (func_map f) _ _ (λ m. rw (address_is f t.is_64, address_is f m.is_64, address_is f (t.is_64 && m.is_64))) (slice_get cx.items.memories from))
      (slice_get cx.items.memories to)
  signature_is (MemoryInit segment memory) =
      ap (provided (has_data cx.items segment))
      (rw (memory_address_is f cx.items below memory) (map_map (val_map f) (func_map f) _ (λ address. from_to (address ∷ I32 ∷ I32 ∷ []) []) (λ address. refl) (memory_address cx.items memory)))
      ∙ provided_map (func_map f) (has_data cx.items segment) (option_map (λ address. from_to (address ∷ I32 ∷ I32 ∷ []) []) (memory_address cx.items memory))
  signature_is (DataDrop segment) = provided_map (func_map f) (has_data cx.items segment) (Some (from_to [] []))
  signature_is (TableGet table) =
      rw (slice_get-map (table_map f) cx.items.tables table)
      (map_map (table_map f) (func_map f) _ _ (λ t. rw (address_is f t.limits.is_64)) (slice_get cx.items.tables table))
  signature_is (TableSet table) =
      rw (slice_get-map (table_map f) cx.items.tables table)
      (map_map (table_map f) (func_map f) _ _ (λ t. rw (address_is f t.limits.is_64)) (slice_get cx.items.tables table))
  signature_is (TableSize table) =
      rw (slice_get-map (table_map f) cx.items.tables table)
      (map_map (table_map f) (func_map f) _ _ (λ t. rw (address_is f t.limits.is_64)) (slice_get cx.items.tables table))
  signature_is (TableGrow table) =
      rw (slice_get-map (table_map f) cx.items.tables table)
      (map_map (table_map f) (func_map f) _ _ (λ t. rw (address_is f t.limits.is_64)) (slice_get cx.items.tables table))
  signature_is (TableFill table) =
      rw (slice_get-map (table_map f) cx.items.tables table)
      (map_map (table_map f) (func_map f) _ _ (λ t. rw (address_is f t.limits.is_64)) (slice_get cx.items.tables table))
  signature_is (TableCopy to from) =
      rw (slice_get-map (table_map f) cx.items.tables to, slice_get-map (table_map f) cx.items.tables from)
      (then_held (λ t. Wanted (table_item t)) (table_map f) (func_map f) _ _ (λ t one. then_map (table_map f) (func_map f) _ _ (table_copy_is Wanted f cx.features cx.items below agree wanted t one) (slice_get cx.items.tables from)) (slice_get cx.items.tables to) (held _ (slice_get cx.items.tables to) (wanted.tables to)))
  signature_is (TableInit segment table) =
      rw (slice_get-map (ref_map f) cx.items.elements segment, slice_get-map (table_map f) cx.items.tables table)
      (then_map (ref_map f) (func_map f) _ _ (λ type. then_held (λ t. Wanted (table_item t)) (table_map f) (func_map f) _ _ (table_init_is Wanted f cx.features cx.items below agree wanted type) (slice_get cx.items.tables table) (held _ (slice_get cx.items.tables table) (wanted.tables table))) (slice_get cx.items.elements segment))
  signature_is (ElemDrop segment) =
      rw (slice_get-map (ref_map f) cx.items.elements segment) (map_map (ref_map f) (func_map f) _ _ (λ type. refl) (slice_get cx.items.elements segment))
  signature_is (RefNull heap) =
      rw (written_is f cx.items below cx.features (Ref true heap)) (map_map (val_map f) (func_map f) _ _ (λ type. refl) (written cx.features cx.items (Ref true heap)))
  signature_is (RefFunc function) =
      rw (then_same (val_map f) (reference_at cx.items false) _ (reference_at_is f cx.items below false) (slice_get cx.items.functions function))
      (rw (map_map (val_map f) (func_map f) gives_one gives_one (λ type. refl) (option_and_then (reference_at cx.items false) (slice_get cx.items.functions function)))
      (provided_map (func_map f) (cx.items.declared function) _))
  signature_is RefEq = refl
  signature_is (StructNew type) =
      rw (fields_at_is f cx.items below type)
      (then_map (map (field_map f)) (func_map f) _ _ (λ fields. rw (all_unpacked_is f fields) (makes_is f cx.items below type (map unpacked fields))) (fields_at cx.items type))
  signature_is (StructNewDefault type) =
      rw (fields_at_is f cx.items below type)
      (then_map (map (field_map f)) (func_map f) (made_of_defaults cx.items type) (made_of_defaults (items_map f cx.items below) type) (defaults_are type) (fields_at cx.items type))
  signature_is (ArrayNew type) =
      rw (element_at_is f cx.items below type)
      (then_map (field_map f) (func_map f) _ _ (λ field. rw (unpacked_is f field) (makes_is f cx.items below type (unpacked field ∷ I32 ∷ []))) (element_at cx.items type))
  signature_is (ArrayNewDefault type) =
      rw (element_at_is f cx.items below type)
      (then_map (field_map f) (func_map f) (made_of_default cx.items type) (made_of_default (items_map f cx.items below) type) (default_is type) (element_at cx.items type))
  signature_is (ArrayNewFixed type count) =
      rw (element_at_is f cx.items below type)
      (then_map (field_map f) (func_map f) _ _ (λ field. rw (unpacked_is f field, replicate_map (val_map f) count (unpacked field)) (makes_is f cx.items below type (replicate count (unpacked field)))) (element_at cx.items type))
  signature_is RefI31 = refl
  signature_is _ = refl
