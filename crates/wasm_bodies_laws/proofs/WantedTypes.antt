-- Which types operators want of their operands: all that signatures take, and what blocks take and give.
use Rattle.std.proofs.Common.{ℕ, Bool, true, false, ◌≡◌, ◌&&◌, List, [], ◌∷◌, map, replicate, Option, Some, None}
use Rattle.std.proofs.lemmas.Bool.{and_parts}
use Rattle.std.specs.List.{list_all, slice_get}
use Rattle.std.specs.Option.{IfSome, option_and_then}
use Rattle.wasm_bodies.specs.BodyContext.{ModuleItems, BodyContext, provided, written, address_type, unpacked, is_defaultable, func_at, fields_at, element_at, function_at, reference_at}
use Rattle.wasm_bodies.specs.Bodies.{block_signature, entered_with, entered}
use Rattle.wasm_bodies.specs.OperatorGates.{is_on}
use Rattle.wasm_bodies.specs.OperatorRows.{NumberType, Int32, Int64, AccessRow, value_type}
use Rattle.wasm_bodies.specs.Operands.{State, taken, all_taken}
use Rattle.wasm_bodies.specs.Operators.{BlockType, Empty, Value, Indexed, MemoryArgument, Operator, If, Nop, Call, CallIndirect, CallRef, SelectTyped, GlobalGet, GlobalSet, I32Const, I64Const, F32Const, F64Const, V128Const, Scalar, Load, Store, MemorySize, MemoryGrow, MemoryFill, MemoryCopy, MemoryInit, DataDrop, TableGet, TableSet, TableSize, TableGrow, TableFill, TableCopy, TableInit, ElemDrop, RefNull, RefFunc, RefEq, StructNew, StructNewDefault, ArrayNew, ArrayNewDefault, ArrayNewFixed, RefI31}
use Rattle.wasm_bodies.specs.Signatures.{from_to, gives_one, after_one_more, memory_index, table_index, table_item, through_table, call_through, call_of_reference, memory_address, accessed, is_in_range, length_type, has_data, table_copy, table_init, makes, signature_of}
use Rattle.wasm_bodies_laws.specs.References.{AreAllWanted, TakesAndGives, AreWanted}
use Rattle.wasm_bodies_laws.proofs.HeldOptions.{held, held_map, held_then, held_by_all, held_after_all, held_provided, all_append, all_replicate}
use Rattle.wasm_spec.specs.Features.{Features, Flag, has, FunctionReferences, Gc}
use Rattle.wasm_spec.specs.Types.{Eq, ValType, I32, Ref, FuncType, TableType, GlobalType}

-- a single flag is asked for
pub flag_is_on : (features : Features) (flag : Flag) → list_all (has features) (flag ∷ []) ≡ true → has features flag ≡ true
flag_is_on features flag on = (and_parts (has features flag) true on).0

-- a signature takes operands of wanted types
abbrev pub Takes : {R : Type 0} → (ValType R → Type 0) → FuncType R → Type 0
Takes Wanted type = AreAllWanted Wanted type.params

module _ {R : Type 0} (Wanted : ValType R → Type 0) (features : Features) (items : ModuleItems R) (wanted : AreWanted Wanted features items) where
  pub i32_wanted : Wanted I32
  i32_wanted = wanted.numbers Int32

  address_wanted : (is_64 : Bool) → Wanted (address_type is_64)
  address_wanted true = wanted.numbers Int64
  address_wanted false = wanted.numbers Int32

  numbers_wanted : (types : List NumberType) → AreAllWanted Wanted (map value_type types)
  numbers_wanted [] = tt
  numbers_wanted (type ∷ types) = (wanted.numbers type, numbers_wanted types)

  -- ---- what indexes name

  pub written_wanted : (type : ValType ℕ) → IfSome (written features items type) Wanted
  written_wanted type = held Wanted (written features items type) (wanted.written type)

  pub func_wanted : (index : ℕ) → IfSome (func_at items index) (TakesAndGives Wanted)
  func_wanted index = held (TakesAndGives Wanted) (func_at items index) (wanted.functions index)

  pub function_wanted : (function : ℕ) → IfSome (function_at items function) (TakesAndGives Wanted)
  function_wanted function = held_after_all (TakesAndGives Wanted) (func_at items) func_wanted (slice_get items.functions function)

  table_wanted : (table : ℕ) → IfSome (slice_get items.tables table) (λ t. Wanted (table_item t))
  table_wanted table = held (λ t. Wanted (table_item t)) (slice_get items.tables table) (wanted.tables table)

  -- ---- calls

  one_more_wanted : (type : ValType R) (signature : FuncType R) → Wanted type → TakesAndGives Wanted signature → TakesAndGives Wanted (after_one_more type signature)
  one_more_wanted type signature one all = (all_append Wanted signature.params (type ∷ []) all.0 (one, tt), all.1)

  pub through_wanted : (type table : ℕ) → IfSome (call_through items type table) (TakesAndGives Wanted)
  through_wanted type table =
      held_then (TakesAndGives Wanted) (TakesAndGives Wanted) _
      (λ signature all. held_after_all (TakesAndGives Wanted) (through_table items signature) (λ t. held_provided (TakesAndGives Wanted) _ (Some (after_one_more (table_index t) signature)) (λ on. one_more_wanted (table_index t) signature (address_wanted t.limits.is_64) all)) (slice_get items.tables table))
      (func_at items type) (func_wanted type)

  pub of_reference_wanted : has features FunctionReferences ≡ true → (type : ℕ) → IfSome (call_of_reference items type) (TakesAndGives Wanted)
  of_reference_wanted on type =
      held_then (TakesAndGives Wanted) (TakesAndGives Wanted) _
      (λ signature all. held_map Wanted (TakesAndGives Wanted) (λ reference. after_one_more reference signature) (λ reference one. one_more_wanted reference signature one all) (reference_at items true type) (held Wanted (reference_at items true type) (wanted.references on type)))
      (func_at items type) (func_wanted type)

  -- ---- memories, tables and aggregates

  memory_wanted : (memory : ℕ) → IfSome (memory_address items memory) Wanted
  memory_wanted memory = held_by_all Wanted memory_index (λ m. address_wanted m.is_64) (slice_get items.memories memory)

  accessed_wanted : (row : AccessRow) (argument : MemoryArgument) → IfSome (accessed items row argument) Wanted
  accessed_wanted row argument =
      held_after_all Wanted _ (λ m. held_provided Wanted (is_in_range row argument m) (Some (memory_index m)) (λ on. address_wanted m.is_64)) (slice_get items.memories argument.memory)

  copy_wanted : (to from : TableType R) → IfSome (table_copy items to from) (Takes Wanted)
  copy_wanted to from =
      held_provided (Takes Wanted) (items.is_below (table_item from) (table_item to))
      (Some (from_to (table_index to ∷ table_index from ∷ length_type to.limits.is_64 from.limits.is_64 ∷ []) []))
      (λ on. (address_wanted to.limits.is_64, (address_wanted from.limits.is_64, (address_wanted (to.limits.is_64 && from.limits.is_64), tt))))

  makes_wanted : (type : ℕ) (takes : List (ValType R)) → AreAllWanted Wanted takes → IfSome (makes items type takes) (Takes Wanted)
  makes_wanted type takes all = held_by_all (Takes Wanted) (λ reference. from_to takes (reference ∷ [])) (λ reference. all) (reference_at items false type)

-- ---- signatures

module _ {R : Type 0} (Wanted : ValType R → Type 0) (cx : BodyContext R) (wanted : AreWanted Wanted cx.features cx.items) where
  only_taken : (o : Option (FuncType R)) → IfSome o (TakesAndGives Wanted) → IfSome o (Takes Wanted)
  only_taken None all = tt
  only_taken (Some type) all = all.0

  mutable_wanted : (global : ℕ) (type : GlobalType R) → slice_get cx.items.globals global ≡ Some type → IfSome (provided type.mutable (Some (from_to (type.value_type ∷ []) []))) (Takes Wanted)
  mutable_wanted global type at = held_provided (Takes Wanted) type.mutable (Some (from_to (type.value_type ∷ []) [])) (λ mutable. (wanted.globals global type at mutable, tt))

  pub signature_wanted : (operator : Operator ℕ) → is_on cx.features operator ≡ true → IfSome (signature_of cx operator) (Takes Wanted)
  signature_wanted Nop on = tt
  signature_wanted (Call function) on = only_taken (function_at cx.items function) (function_wanted Wanted cx.features cx.items wanted function)
  signature_wanted (CallIndirect type table) on = only_taken (call_through cx.items type table) (through_wanted Wanted cx.features cx.items wanted type table)
  signature_wanted (CallRef type) on =
      only_taken (call_of_reference cx.items type) (of_reference_wanted Wanted cx.features cx.items wanted (flag_is_on cx.features FunctionReferences on) type)
  signature_wanted (SelectTyped []) on = tt
  signature_wanted (SelectTyped (type ∷ [])) on =
      held_map Wanted (Takes Wanted) _ (λ t one. (one, (one, (wanted.numbers Int32, tt)))) (written cx.features cx.items type) (written_wanted Wanted cx.features cx.items wanted type)
  signature_wanted (SelectTyped (type ∷ other ∷ types)) on = tt
  signature_wanted (GlobalGet global) on = held_by_all (Takes Wanted) _ (λ type. tt) (slice_get cx.items.globals global)
  signature_wanted (GlobalSet global) on =
      held_then (λ type. IfSome (provided type.mutable (Some (from_to (type.value_type ∷ []) []))) (Takes Wanted)) (Takes Wanted) _ (λ type all. all) (slice_get cx.items.globals global)
      (held _ (slice_get cx.items.globals global) (mutable_wanted global))
  signature_wanted (I32Const value) on = tt
  signature_wanted (I64Const value) on = tt
  signature_wanted (F32Const bits) on = tt
  signature_wanted (F64Const bits) on = tt
  signature_wanted (V128Const bytes) on = tt
  signature_wanted (Scalar row) on = numbers_wanted Wanted cx.features cx.items wanted row.takes
  signature_wanted (Load row argument) on =
      held_map Wanted (Takes Wanted) _ (λ address one. (one, tt)) (accessed cx.items row argument) (accessed_wanted Wanted cx.features cx.items wanted row argument)
  signature_wanted (Store row argument) on =
      held_map Wanted (Takes Wanted) _ (λ address one. (one, (wanted.numbers row.type, tt))) (accessed cx.items row argument) (accessed_wanted Wanted cx.features cx.items wanted row argument)
  signature_wanted (MemorySize memory) on = held_by_all (Takes Wanted) gives_one (λ address. tt) (memory_address cx.items memory)
  signature_wanted (MemoryGrow memory) on =
      held_map Wanted (Takes Wanted) _ (λ address one. (one, tt)) (memory_address cx.items memory) (memory_wanted Wanted cx.features cx.items wanted memory)
  signature_wanted (MemoryFill memory) on =
      held_map Wanted (Takes Wanted) _ (λ address one. (one, (wanted.numbers Int32, (one, tt)))) (memory_address cx.items memory) (memory_wanted Wanted cx.features cx.items wanted memory)
  signature_wanted (MemoryCopy to from) on =
      held_after_all (Takes Wanted) _
      (λ t. held_by_all (Takes Wanted) _ (λ m. (address_wanted Wanted cx.features cx.items wanted t.is_64, (address_wanted Wanted cx.features cx.items wanted m.is_64, (address_wanted Wanted cx.features cx.items wanted (t.is_64 && m.is_64), tt)))) (slice_get cx.items.memories from))
      (slice_get cx.items.memories to)
  signature_wanted (MemoryInit segment memory) on =
      held_provided (Takes Wanted) (has_data cx.items segment) _
      (λ has. held_map Wanted (Takes Wanted) (λ address. from_to (address ∷ I32 ∷ I32 ∷ []) []) (λ address one. (one, (wanted.numbers Int32, (wanted.numbers Int32, tt)))) (memory_address cx.items memory) (memory_wanted Wanted cx.features cx.items wanted memory))
  signature_wanted (DataDrop segment) on = held_provided (Takes Wanted) (has_data cx.items segment) (Some (from_to [] [])) (λ has. tt)
  signature_wanted (TableGet table) on =
      held_by_all (Takes Wanted) _ (λ t. (address_wanted Wanted cx.features cx.items wanted t.limits.is_64, tt)) (slice_get cx.items.tables table)
  signature_wanted (TableSet table) on =
      held_map (λ t. Wanted (table_item t)) (Takes Wanted) _ (λ t one. (address_wanted Wanted cx.features cx.items wanted t.limits.is_64, (one, tt))) (slice_get cx.items.tables table) (table_wanted Wanted cx.features cx.items wanted table)
  signature_wanted (TableSize table) on = held_by_all (Takes Wanted) _ (λ t. tt) (slice_get cx.items.tables table)
  signature_wanted (TableGrow table) on =
      held_map (λ t. Wanted (table_item t)) (Takes Wanted) _ (λ t one. (one, (address_wanted Wanted cx.features cx.items wanted t.limits.is_64, tt))) (slice_get cx.items.tables table) (table_wanted Wanted cx.features cx.items wanted table)
  signature_wanted (TableFill table) on =
      held_map (λ t. Wanted (table_item t)) (Takes Wanted) _ (λ t one. (address_wanted Wanted cx.features cx.items wanted t.limits.is_64, (one, (address_wanted Wanted cx.features cx.items wanted t.limits.is_64, tt)))) (slice_get cx.items.tables table) (table_wanted Wanted cx.features cx.items wanted table)
  signature_wanted (TableCopy to from) on =
      held_after_all (Takes Wanted) _
      (λ t. held_after_all (Takes Wanted) (table_copy cx.items t) (copy_wanted Wanted cx.features cx.items wanted t) (slice_get cx.items.tables from))
      (slice_get cx.items.tables to)
  signature_wanted (TableInit segment table) on =
      held_after_all (Takes Wanted) _
      (λ type. held_after_all (Takes Wanted) (table_init cx.items type) (λ t. held_provided (Takes Wanted) _ (Some (from_to (table_index t ∷ I32 ∷ I32 ∷ []) [])) (λ below. (address_wanted Wanted cx.features cx.items wanted t.limits.is_64, (wanted.numbers Int32, (wanted.numbers Int32, tt))))) (slice_get cx.items.tables table))
      (slice_get cx.items.elements segment)
  signature_wanted (ElemDrop segment) on = held_by_all (Takes Wanted) _ (λ type. tt) (slice_get cx.items.elements segment)
  signature_wanted (RefNull heap) on = held_by_all (Takes Wanted) gives_one (λ type. tt) (written cx.features cx.items (Ref true heap))
  signature_wanted (RefFunc function) on =
      held_provided (Takes Wanted) (cx.items.declared function) _
      (λ declared. held_by_all (Takes Wanted) gives_one (λ type. tt) (option_and_then (reference_at cx.items false) (slice_get cx.items.functions function)))
  signature_wanted RefEq on = (wanted.abstract_references Eq, (wanted.abstract_references Eq, tt))
  signature_wanted (StructNew type) on =
      held_then (λ fields. AreAllWanted Wanted (map unpacked fields)) (Takes Wanted) _ (λ fields all. makes_wanted Wanted cx.features cx.items wanted type (map unpacked fields) all)
      (fields_at cx.items type) (held _ (fields_at cx.items type) (wanted.fields (flag_is_on cx.features Gc on) type))
  signature_wanted (StructNewDefault type) on =
      held_after_all (Takes Wanted) _
      (λ fields. held_provided (Takes Wanted) (list_all is_defaultable (map unpacked fields)) (makes cx.items type []) (λ has. makes_wanted Wanted cx.features cx.items wanted type [] tt))
      (fields_at cx.items type)
  signature_wanted (ArrayNew type) on =
      held_then (λ field. Wanted (unpacked field)) (Takes Wanted) _ (λ field one. makes_wanted Wanted cx.features cx.items wanted type (unpacked field ∷ I32 ∷ []) (one, (wanted.numbers Int32, tt)))
      (element_at cx.items type) (held _ (element_at cx.items type) (wanted.elements (flag_is_on cx.features Gc on) type))
  signature_wanted (ArrayNewDefault type) on =
      held_after_all (Takes Wanted) _
      (λ field. held_provided (Takes Wanted) (is_defaultable (unpacked field)) (makes cx.items type (I32 ∷ [])) (λ has. makes_wanted Wanted cx.features cx.items wanted type (I32 ∷ []) (wanted.numbers Int32, tt)))
      (element_at cx.items type)
  signature_wanted (ArrayNewFixed type count) on =
      held_then (λ field. Wanted (unpacked field)) (Takes Wanted) _ (λ field one. makes_wanted Wanted cx.features cx.items wanted type (replicate count (unpacked field)) (all_replicate Wanted count (unpacked field) one))
      (element_at cx.items type) (held _ (element_at cx.items type) (wanted.elements (flag_is_on cx.features Gc on) type))
  signature_wanted RefI31 on = (wanted.numbers Int32, tt)
  signature_wanted _ on = tt

  -- ---- blocks

  pub block_wanted : (type : BlockType ℕ) → IfSome (block_signature cx type) (TakesAndGives Wanted)
  block_wanted Empty = (tt, tt)
  block_wanted (Value type) =
      held_map Wanted (TakesAndGives Wanted) gives_one (λ t one. (tt, (one, tt))) (written cx.features cx.items type) (written_wanted Wanted cx.features cx.items wanted type)
  block_wanted (Indexed index) = func_wanted Wanted cx.features cx.items wanted index

  with_wanted : (signature : FuncType R) (s : State R) → TakesAndGives Wanted signature → IfSome (entered_with cx.items signature s) (λ b. TakesAndGives Wanted b.signature)
  with_wanted signature s all = held_by_all (λ b. TakesAndGives Wanted b.signature) _ (λ m. all) (all_taken cx.items signature.params s)

  -- what is entered takes and gives what is wanted
  pub entered_wanted : (operator : Operator ℕ) (type : BlockType ℕ) (s : State R) → IfSome (entered cx operator type s) (λ b. TakesAndGives Wanted b.signature)
  entered_wanted operator type s =
      held_provided (λ b. TakesAndGives Wanted b.signature) (is_on cx.features operator) _
      (λ on. held_then (TakesAndGives Wanted) (λ b. TakesAndGives Wanted b.signature) (λ signature. entered_with cx.items signature s) (λ signature all. with_wanted signature s all) (block_signature cx type) (block_wanted type))

  pub if_entered_wanted : (type : BlockType ℕ) (s : State R) → IfSome (option_and_then (entered cx (If type) type) (taken cx.items I32 s)) (λ b. TakesAndGives Wanted b.signature)
  if_entered_wanted type s =
      held_after_all (λ b. TakesAndGives Wanted b.signature) (entered cx (If type) type) (entered_wanted (If type) type) (taken cx.items I32 s)
