-- The rules on the items that a shape exports hold in a module, where its types stand among others; and which types its items name.
use Rattle.std.proofs.Common.{◌≡◌, ℕ, suc, ◌+◌, ◌≤◌, true, List, [], ◌∷◌, ◌++◌, map, length, Some, is_some, refl, sym, ap, ◌∙◌, subst, arith, length-append, ltb-true}
use Rattle.std.specs.Prelude.{◌&&◌, ◌||◌, nat_eq}
use Rattle.std.specs.List.{AllByRecursion, list_all}
use Rattle.std.proofs.lemmas.Bool.{and_parts}
use Rattle.wasm_spec.specs.Features.{Features, has, FunctionReferences, MultiMemory, ReferenceTypes}
use Rattle.wasm_spec.specs.TypeReferences.{heap_map, val_map, table_map, global_map, external_map}
use Rattle.wasm_spec.specs.Types.{HeapType, Abstract, Concrete, ValType, I32, I64, F32, F64, V128, Ref, SubType, TableType, GlobalType, ExternalType, FuncExternal, TableExternal, MemoryExternal, GlobalExternal, TagExternal}
use Rattle.wasm_spec.proofs.MappedTypes.{all_map}
use Rattle.wasm_validity.specs.Rules.{may_cross, may_leave}
use Rattle.wasm_validity.specs.TypeRules.{is_memory_type}
use Rattle.wasm_smith_shapes.specs.Forms.{may_have_item, may_hold, may_refer}
use Rattle.wasm_smith_shapes.specs.Shapes.{ShapeValue, exported_items, imported_items, shape_types}
use Rattle.wasm_smith_shapes.specs.ValidShapes.{imported_spaces, keep_own, keeps_own, with_own}
use Rattle.wasm_smith_validity.specs.Rules.{is_table_type, keep_items, keeps_item, keeps_table, keeps_tag}
use Rattle.wasm_smith_validity.specs.Spaces.{Spaces, func_type_at, is_value, spaces_of_types, with_item}
use Rattle.wasm_smith_definitions.specs.OwnItems.{HasFewOf, KeepsOwnTableType, functions_in, globals_in, memories_in, tables_in, tags_in}
use Rattle.wasm_smith_definitions.proofs.ImportCounts.{after_memory, after_table, few_memories, few_tables, fewer, first_kept, types_after}
use Rattle.wasm_smith_definitions.proofs.MovedTypes.{IsBelow, Moves, function_below, function_moved, is_tag_type, table_below, table_type_moved, tag_below, tag_type_moved, value_below, value_moved}

-- ---- the rules on own items, by types alone

-- the rule on an item of the module's own, the numbers of tables and memories aside
abbrev pub KeepsOwnRule : Features → List (SubType ℕ) → ExternalType ℕ → Type 0
KeepsOwnRule features types (FuncExternal function) = is_some (func_type_at types function) ≡ true
KeepsOwnRule features types (TableExternal type) = KeepsOwnTableType features types type
KeepsOwnRule features types (MemoryExternal type) = is_memory_type features type ≡ true
KeepsOwnRule features types (GlobalExternal type) = is_value features types type.value_type ≡ true
KeepsOwnRule features types (TagExternal function) = is_tag_type features types function ≡ true

-- an own item keeps its rule, and may be exported
pub record IsOwn (features : Features) (types : List (SubType ℕ)) (item : ExternalType ℕ) : Type 0 where
  pub rule : KeepsOwnRule features types item
  pub leaves : may_leave features (Some item) ≡ true

-- an item may leave as before it is moved
pub leave_moved : (features : Features) (f : ℕ → ℕ) (item : ExternalType ℕ) → may_leave features (Some (external_map f item)) ≡ may_leave features (Some item)
leave_moved features f (FuncExternal function) = refl
leave_moved features f (TableExternal type) = refl
leave_moved features f (MemoryExternal type) = refl
leave_moved features f (GlobalExternal type) = refl
leave_moved features f (TagExternal function) = refl

-- own items change no types
pub own_types : (spaces : Spaces) (item : ExternalType ℕ) → (with_own spaces item).types ≡ spaces.types
own_types spaces (FuncExternal function) = refl
own_types spaces (TableExternal type) = refl
own_types spaces (MemoryExternal type) = refl
own_types spaces (GlobalExternal type) = refl
own_types spaces (TagExternal function) = refl

module _ (features : Features) where
  table_rule : (types : List (SubType ℕ)) (type : TableType ℕ) → is_table_type features types type ≡ true
      → (type.element_type.nullable || has features FunctionReferences) ≡ true → KeepsOwnTableType features types type
  table_rule types type is filled = record { type = is; filled = λ off. ap (λ b. b || has features FunctionReferences) (sym off) ∙ filled }

  own_rule : (spaces : Spaces) (item : ExternalType ℕ) → keeps_own features spaces item ≡ true → KeepsOwnRule features spaces.types item
  own_rule spaces (FuncExternal function) h = h
  own_rule spaces (TableExternal type) h =
      let parts = and_parts (keeps_table features spaces type) (type.element_type.nullable || has features FunctionReferences) h in
      let rule = and_parts (is_table_type features spaces.types type) (nat_eq (length spaces.tables) 0 || has features ReferenceTypes) parts.0 in
      table_rule spaces.types type rule.0 parts.1
  own_rule spaces (MemoryExternal type) h = (and_parts (is_memory_type features type) (nat_eq (length spaces.memories) 0 || has features MultiMemory) h).0
  own_rule spaces (GlobalExternal type) h = h
  own_rule spaces (TagExternal function) h = h

  first_own : (spaces : Spaces) (item : ExternalType ℕ) (items : List (ExternalType ℕ)) → keep_own features spaces (item ∷ items) ≡ true
      → (keeps_own features spaces item ≡ true) × (may_leave features (Some item) ≡ true) × (keep_own features (with_own spaces item) items ≡ true)
  first_own spaces item items h =
      let parts = and_parts (keeps_own features spaces item && may_leave features (Some item)) (keep_own features (with_own spaces item) items) h in
      let own = and_parts (keeps_own features spaces item) (may_leave features (Some item)) parts.0 in
      (own.0, own.1, parts.1)

  -- own items that keep their rules one after the other keep them by types alone
  pub own_rules : (types : List (SubType ℕ)) (spaces : Spaces) (items : List (ExternalType ℕ)) → spaces.types ≡ types → keep_own features spaces items ≡ true
      → AllByRecursion (IsOwn features types) items
  own_rules types spaces [] known h = tt
  own_rules types spaces (item ∷ items) known h =
      let parts = first_own spaces item items h in (
        record { rule = subst (λ ts. KeepsOwnRule features ts item) known (own_rule spaces item parts.0); leaves = parts.1 },
        own_rules types (with_own spaces item) items (own_types spaces item ∙ known) parts.2,
      )

-- ---- the rules, kind by kind

-- the items are own ones of a module with these types, kind by kind
pub record AreOwn (features : Features) (types : List (SubType ℕ)) (items : List (ExternalType ℕ)) : Type 0 where
  pub functions : AllByRecursion (λ index. is_some (func_type_at types index) ≡ true) (functions_in items)
  pub tables : AllByRecursion (KeepsOwnTableType features types) (tables_in items)
  pub memories : AllByRecursion (λ type. is_memory_type features type ≡ true) (memories_in items)
  pub globals : AllByRecursion (λ type. is_value features types type.value_type ≡ true) (globals_in items)
  pub tags : (spaces : Spaces) → spaces.types ≡ types → AllByRecursion (λ index. keeps_tag features spaces index ≡ true) (tags_in items)
  pub leave : AllByRecursion (λ item. may_leave features (Some item) ≡ true) items

module _ (features : Features) (types : List (SubType ℕ)) where
  own_functions : (items : List (ExternalType ℕ)) → AllByRecursion (IsOwn features types) items
      → AllByRecursion (λ index. is_some (func_type_at types index) ≡ true) (functions_in items)
  own_functions [] all = tt
  own_functions (FuncExternal function ∷ items) all = (all.0.rule, own_functions items all.1)
  own_functions (TableExternal type ∷ items) all = own_functions items all.1
  own_functions (MemoryExternal type ∷ items) all = own_functions items all.1
  own_functions (GlobalExternal type ∷ items) all = own_functions items all.1
  own_functions (TagExternal function ∷ items) all = own_functions items all.1

  own_tables : (items : List (ExternalType ℕ)) → AllByRecursion (IsOwn features types) items → AllByRecursion (KeepsOwnTableType features types) (tables_in items)
  own_tables [] all = tt
  own_tables (FuncExternal function ∷ items) all = own_tables items all.1
  own_tables (TableExternal type ∷ items) all = (all.0.rule, own_tables items all.1)
  own_tables (MemoryExternal type ∷ items) all = own_tables items all.1
  own_tables (GlobalExternal type ∷ items) all = own_tables items all.1
  own_tables (TagExternal function ∷ items) all = own_tables items all.1

  own_memories : (items : List (ExternalType ℕ)) → AllByRecursion (IsOwn features types) items
      → AllByRecursion (λ type. is_memory_type features type ≡ true) (memories_in items)
  own_memories [] all = tt
  own_memories (FuncExternal function ∷ items) all = own_memories items all.1
  own_memories (TableExternal type ∷ items) all = own_memories items all.1
  own_memories (MemoryExternal type ∷ items) all = (all.0.rule, own_memories items all.1)
  own_memories (GlobalExternal type ∷ items) all = own_memories items all.1
  own_memories (TagExternal function ∷ items) all = own_memories items all.1

  own_globals : (items : List (ExternalType ℕ)) → AllByRecursion (IsOwn features types) items
      → AllByRecursion (λ type. is_value features types type.value_type ≡ true) (globals_in items)
  own_globals [] all = tt
  own_globals (FuncExternal function ∷ items) all = own_globals items all.1
  own_globals (TableExternal type ∷ items) all = own_globals items all.1
  own_globals (MemoryExternal type ∷ items) all = own_globals items all.1
  own_globals (GlobalExternal type ∷ items) all = (all.0.rule, own_globals items all.1)
  own_globals (TagExternal function ∷ items) all = own_globals items all.1

  own_tags : (spaces : Spaces) → spaces.types ≡ types → (items : List (ExternalType ℕ)) → AllByRecursion (IsOwn features types) items
      → AllByRecursion (λ index. keeps_tag features spaces index ≡ true) (tags_in items)
  own_tags spaces known [] all = tt
  own_tags spaces known (FuncExternal function ∷ items) all = own_tags spaces known items all.1
  own_tags spaces known (TableExternal type ∷ items) all = own_tags spaces known items all.1
  own_tags spaces known (MemoryExternal type ∷ items) all = own_tags spaces known items all.1
  own_tags spaces known (GlobalExternal type ∷ items) all = own_tags spaces known items all.1
  own_tags spaces known (TagExternal function ∷ items) all =
      (subst (λ ts. is_tag_type features ts function ≡ true) (sym known) all.0.rule, own_tags spaces known items all.1)

  own_leave : (items : List (ExternalType ℕ)) → AllByRecursion (IsOwn features types) items → AllByRecursion (λ item. may_leave features (Some item) ≡ true) items
  own_leave [] all = tt
  own_leave (item ∷ items) all = (all.0.leaves, own_leave items all.1)

  -- items that are own ones are so kind by kind
  pub own_by_kind : (items : List (ExternalType ℕ)) → AllByRecursion (IsOwn features types) items → AreOwn features types items
  own_by_kind items all = record {
    functions = own_functions items all;
    tables = own_tables items all;
    memories = own_memories items all;
    globals = own_globals items all;
    tags = λ spaces known. own_tags spaces known items all;
    leave = own_leave items all;
  }

-- ---- own items, moved

module _ (features : Features) (f : ℕ → ℕ) (types others : List (SubType ℕ)) (moves : Moves f types others) where
  -- an own item that keeps its rule keeps it where it is moved
  pub rule_moved : (item : ExternalType ℕ) → KeepsOwnRule features types item → KeepsOwnRule features others (external_map f item)
  rule_moved (FuncExternal function) rule = function_moved features f types others moves function rule
  rule_moved (TableExternal type) rule = record { type = table_type_moved features f types others moves type rule.type; filled = rule.filled }
  rule_moved (MemoryExternal type) rule = rule
  rule_moved (GlobalExternal type) rule = value_moved features f types others moves type.value_type rule
  rule_moved (TagExternal function) rule = tag_type_moved features f types others moves function rule

  -- so do all
  pub rules_moved : (items : List (ExternalType ℕ)) → AllByRecursion (IsOwn features types) items
      → AllByRecursion (IsOwn features others) (map (external_map f) items)
  rules_moved items all =
      all_map (IsOwn features types) (IsOwn features others) (external_map f) (λ item own.
      record { rule = rule_moved item own.rule; leaves = leave_moved features f item ∙ own.leaves }) items all

  -- own items that keep their rules one after the other keep them kind by kind where they are moved
  pub own_moved : (spaces : Spaces) (items : List (ExternalType ℕ)) → spaces.types ≡ types → keep_own features spaces items ≡ true
      → AreOwn features others (map (external_map f) items)
  own_moved spaces items known h = own_by_kind features others (map (external_map f) items) (rules_moved items (own_rules features types spaces items known h))

-- The items that a shape exports are own ones of a module where its types are moved.
pub shape_own_moved : (features : Features) (f : ℕ → ℕ) (others : List (SubType ℕ)) (it : ShapeValue) → Moves f (shape_types it) others
    → keep_own features (imported_spaces it) (exported_items it) ≡ true → AreOwn features others (map (external_map f) (exported_items it))
shape_own_moved features f others it moves h =
    own_moved features f (shape_types it) others moves (imported_spaces it) (exported_items it)
    (types_after (spaces_of_types (shape_types it)) (imported_items it)) h

-- ---- numbers of own items

module _ (features : Features) where
  -- few tables are few with own ones that keep their rules
  pub few_own_tables : (spaces : Spaces) (items : List (ExternalType ℕ)) → keep_own features spaces items ≡ true
      → HasFewOf (has features ReferenceTypes) (length spaces.tables)
      → HasFewOf (has features ReferenceTypes) (length spaces.tables + length (tables_in items))
  few_own_tables spaces [] h few = fewer (has features ReferenceTypes) (length spaces.tables) (length spaces.tables + 0) (omega arith) few
  few_own_tables spaces (FuncExternal function ∷ items) h few =
      few_own_tables (with_own spaces (FuncExternal function)) items (first_own features spaces (FuncExternal function) items h).2 few
  few_own_tables spaces (TableExternal type ∷ items) h few =
      let parts = first_own features spaces (TableExternal type) items h in
      let kept = (and_parts (keeps_table features spaces type) (type.element_type.nullable || has features FunctionReferences) parts.0).0 in
      let one = after_table features spaces type kept in
      fewer (has features ReferenceTypes) (length (spaces.tables ++ type ∷ []) + length (tables_in items)) (length spaces.tables + length (type ∷ tables_in items))
      (omega (arith, length-append spaces.tables (type ∷ []))) (few_own_tables (with_own spaces (TableExternal type)) items parts.2 one)
  few_own_tables spaces (MemoryExternal type ∷ items) h few =
      few_own_tables (with_own spaces (MemoryExternal type)) items (first_own features spaces (MemoryExternal type) items h).2 few
  few_own_tables spaces (GlobalExternal type ∷ items) h few =
      few_own_tables (with_own spaces (GlobalExternal type)) items (first_own features spaces (GlobalExternal type) items h).2 few
  few_own_tables spaces (TagExternal function ∷ items) h few =
      few_own_tables (with_own spaces (TagExternal function)) items (first_own features spaces (TagExternal function) items h).2 few

  -- few memories are few with own ones that keep their rules
  pub few_own_memories : (spaces : Spaces) (items : List (ExternalType ℕ)) → keep_own features spaces items ≡ true
      → HasFewOf (has features MultiMemory) (length spaces.memories)
      → HasFewOf (has features MultiMemory) (length spaces.memories + length (memories_in items))
  few_own_memories spaces [] h few = fewer (has features MultiMemory) (length spaces.memories) (length spaces.memories + 0) (omega arith) few
  few_own_memories spaces (FuncExternal function ∷ items) h few =
      few_own_memories (with_own spaces (FuncExternal function)) items (first_own features spaces (FuncExternal function) items h).2 few
  few_own_memories spaces (TableExternal type ∷ items) h few =
      few_own_memories (with_own spaces (TableExternal type)) items (first_own features spaces (TableExternal type) items h).2 few
  few_own_memories spaces (MemoryExternal type ∷ items) h few =
      let parts = first_own features spaces (MemoryExternal type) items h in
      let one = after_memory features spaces type parts.0 in
      fewer (has features MultiMemory) (length (spaces.memories ++ type ∷ []) + length (memories_in items)) (length spaces.memories + length (type ∷ memories_in items))
      (omega (arith, length-append spaces.memories (type ∷ []))) (few_own_memories (with_own spaces (MemoryExternal type)) items parts.2 one)
  few_own_memories spaces (GlobalExternal type ∷ items) h few =
      few_own_memories (with_own spaces (GlobalExternal type)) items (first_own features spaces (GlobalExternal type) items h).2 few
  few_own_memories spaces (TagExternal function ∷ items) h few =
      few_own_memories (with_own spaces (TagExternal function)) items (first_own features spaces (TagExternal function) items h).2 few

  -- the imported and own tables of a shape are few
  pub few_shape_tables : (it : ShapeValue) → keep_items features (spaces_of_types (shape_types it)) (imported_items it) ≡ true
      → keep_own features (imported_spaces it) (exported_items it) ≡ true
      → HasFewOf (has features ReferenceTypes) (length (imported_spaces it).tables + length (tables_in (exported_items it)))
  few_shape_tables it imports own =
      few_own_tables (imported_spaces it) (exported_items it) own
      (few_tables features (spaces_of_types (shape_types it)) (imported_items it) imports (λ off. omega arith))

  -- the imported and own memories of a shape are few
  pub few_shape_memories : (it : ShapeValue) → keep_items features (spaces_of_types (shape_types it)) (imported_items it) ≡ true
      → keep_own features (imported_spaces it) (exported_items it) ≡ true
      → HasFewOf (has features MultiMemory) (length (imported_spaces it).memories + length (memories_in (exported_items it)))
  few_shape_memories it imports own =
      few_own_memories (imported_spaces it) (exported_items it) own
      (few_memories features (spaces_of_types (shape_types it)) (imported_items it) imports (λ off. omega arith))

-- as many tables as before are moved
pub tables_moved_count : (f : ℕ → ℕ) (items : List (ExternalType ℕ)) → length (tables_in (map (external_map f) items)) ≡ length (tables_in items)
tables_moved_count f [] = refl
tables_moved_count f (FuncExternal function ∷ items) = tables_moved_count f items
tables_moved_count f (TableExternal type ∷ items) = ap suc (tables_moved_count f items)
tables_moved_count f (MemoryExternal type ∷ items) = tables_moved_count f items
tables_moved_count f (GlobalExternal type ∷ items) = tables_moved_count f items
tables_moved_count f (TagExternal function ∷ items) = tables_moved_count f items

-- memories stay as they are where items are moved
pub memories_unmoved : (f : ℕ → ℕ) (items : List (ExternalType ℕ)) → memories_in (map (external_map f) items) ≡ memories_in items
memories_unmoved f [] = refl
memories_unmoved f (FuncExternal function ∷ items) = memories_unmoved f items
memories_unmoved f (TableExternal type ∷ items) = memories_unmoved f items
memories_unmoved f (MemoryExternal type ∷ items) = ap (λ types. type ∷ types) (memories_unmoved f items)
memories_unmoved f (GlobalExternal type ∷ items) = memories_unmoved f items
memories_unmoved f (TagExternal function ∷ items) = memories_unmoved f items

-- The own tables of a shape are few after no more tables than its imports have.
pub few_moved_tables : (features : Features) (f : ℕ → ℕ) (it : ShapeValue) (new : Spaces) → length new.tables ≤ length (imported_spaces it).tables
    → keep_items features (spaces_of_types (shape_types it)) (imported_items it) ≡ true → keep_own features (imported_spaces it) (exported_items it) ≡ true
    → HasFewOf (has features ReferenceTypes) (length new.tables + length (tables_in (map (external_map f) (exported_items it))))
few_moved_tables features f it new le imports own =
    fewer (has features ReferenceTypes) (length (imported_spaces it).tables + length (tables_in (exported_items it)))
    (length new.tables + length (tables_in (map (external_map f) (exported_items it)))) (omega (arith, le, tables_moved_count f (exported_items it)))
    (few_shape_tables features it imports own)

-- So are its own memories.
pub few_moved_memories : (features : Features) (f : ℕ → ℕ) (it : ShapeValue) (new : Spaces) → length new.memories ≤ length (imported_spaces it).memories
    → keep_items features (spaces_of_types (shape_types it)) (imported_items it) ≡ true → keep_own features (imported_spaces it) (exported_items it) ≡ true
    → HasFewOf (has features MultiMemory) (length new.memories + length (memories_in (map (external_map f) (exported_items it))))
few_moved_memories features f it new le imports own =
    fewer (has features MultiMemory) (length (imported_spaces it).memories + length (memories_in (exported_items it)))
    (length new.memories + length (memories_in (map (external_map f) (exported_items it)))) (omega (arith, le, ap length (memories_unmoved f (exported_items it))))
    (few_shape_memories features it imports own)

-- ---- items name only the types of their shape

module _ (features : Features) where
  import_below : (spaces : Spaces) (item : ExternalType ℕ) → keeps_item features spaces item ≡ true → IsBelow (length spaces.types) item
  import_below spaces (FuncExternal function) h = (function_below spaces.types function h, tt)
  import_below spaces (TableExternal type) h =
      table_below spaces.types features type
      (and_parts (is_table_type features spaces.types type) (nat_eq (length spaces.tables) 0 || has features ReferenceTypes) h).0
  import_below spaces (MemoryExternal type) h = tt
  import_below spaces (GlobalExternal type) h =
      value_below spaces.types features type.value_type (and_parts (is_value features spaces.types type.value_type) (may_cross features type) h).0
  import_below spaces (TagExternal function) h = (tag_below spaces.types features function h, tt)

  item_types : (spaces : Spaces) (item : ExternalType ℕ) → (with_item spaces item).types ≡ spaces.types
  item_types spaces item = types_after spaces (item ∷ [])

  -- imports that keep their rules name only the types that are there
  pub imports_below : (types : List (SubType ℕ)) (spaces : Spaces) (items : List (ExternalType ℕ)) → spaces.types ≡ types
      → keep_items features spaces items ≡ true → AllByRecursion (IsBelow (length types)) items
  imports_below types spaces [] known h = tt
  imports_below types spaces (item ∷ items) known h =
      let parts = first_kept features spaces item items h in (
        subst (λ ts. IsBelow (length ts) item) known (import_below spaces item parts.0),
        imports_below types (with_item spaces item) items (item_types spaces item ∙ known) parts.1,
      )

  rule_below : (types : List (SubType ℕ)) (item : ExternalType ℕ) → KeepsOwnRule features types item → IsBelow (length types) item
  rule_below types (FuncExternal function) rule = (function_below types function rule, tt)
  rule_below types (TableExternal type) rule = table_below types features type rule.type
  rule_below types (MemoryExternal type) rule = tt
  rule_below types (GlobalExternal type) rule = value_below types features type.value_type rule
  rule_below types (TagExternal function) rule = (tag_below types features function rule, tt)

  all_below : (types : List (SubType ℕ)) (items : List (ExternalType ℕ)) → AllByRecursion (IsOwn features types) items
      → AllByRecursion (IsBelow (length types)) items
  all_below types [] all = tt
  all_below types (item ∷ items) all = (rule_below types item all.0.rule, all_below types items all.1)

  -- so do own items that keep their rules
  pub own_below : (types : List (SubType ℕ)) (spaces : Spaces) (items : List (ExternalType ℕ)) → spaces.types ≡ types
      → keep_own features spaces items ≡ true → AllByRecursion (IsBelow (length types)) items
  own_below types spaces items known h = all_below types items (own_rules features types spaces items known h)

  -- the imports of a shape name only its types
  pub shape_imports_below : (it : ShapeValue) → keep_items features (spaces_of_types (shape_types it)) (imported_items it) ≡ true
      → AllByRecursion (IsBelow (length (shape_types it))) (imported_items it)
  shape_imports_below it h = imports_below (shape_types it) (spaces_of_types (shape_types it)) (imported_items it) refl h

  -- so do its exports
  pub shape_own_below : (it : ShapeValue) → keep_own features (imported_spaces it) (exported_items it) ≡ true
      → AllByRecursion (IsBelow (length (shape_types it))) (exported_items it)
  shape_own_below it h =
      own_below (shape_types it) (imported_spaces it) (exported_items it) (types_after (spaces_of_types (shape_types it)) (imported_items it)) h

-- ---- tables and globals that name no types

element_unmoved : (f : ℕ → ℕ) (heap : HeapType ℕ) → may_refer 0 heap ≡ true → heap_map f heap ≡ heap
element_unmoved f (Abstract heap) h = refl
element_unmoved f (Concrete index) h = absurd (omega (arith, ltb-true index 0 h))

table_unmoved : (f : ℕ → ℕ) (type : TableType ℕ) → may_have_item 0 (TableExternal type) ≡ true → table_map f type ≡ type
table_unmoved f type h =
    ap (λ q. record { element_type = record { nullable = type.element_type.nullable; heap_type = q }; limits = type.limits })
    (element_unmoved f type.element_type.heap_type h)

value_unmoved : (f : ℕ → ℕ) (type : ValType ℕ) → may_hold 0 type ≡ true → val_map f type ≡ type
value_unmoved f I32 h = refl
value_unmoved f I64 h = refl
value_unmoved f F32 h = refl
value_unmoved f F64 h = refl
value_unmoved f V128 h = refl
value_unmoved f (Ref nullable heap) h = ap (λ q. Ref nullable q) (element_unmoved f heap h)

global_unmoved : (f : ℕ → ℕ) (type : GlobalType ℕ) → may_have_item 0 (GlobalExternal type) ≡ true → global_map f type ≡ type
global_unmoved f type h = ap (λ q. record { value_type = q; mutable = type.mutable }) (value_unmoved f type.value_type h)

others_may : (item : ExternalType ℕ) (items : List (ExternalType ℕ)) → list_all (may_have_item 0) (item ∷ items) ≡ true
    → (may_have_item 0 item ≡ true) × (list_all (may_have_item 0) items ≡ true)
others_may item items h = and_parts (may_have_item 0 item) (list_all (may_have_item 0) items) h

-- tables that name no types stay as they are where items are moved
pub tables_unmoved : (f : ℕ → ℕ) (items : List (ExternalType ℕ)) → list_all (may_have_item 0) items ≡ true
    → tables_in (map (external_map f) items) ≡ tables_in items
tables_unmoved f [] h = refl
tables_unmoved f (FuncExternal function ∷ items) h = tables_unmoved f items (others_may (FuncExternal function) items h).1
tables_unmoved f (TableExternal type ∷ items) h =
    let may = others_may (TableExternal type) items h in rw (table_unmoved f type may.0, tables_unmoved f items may.1) refl
tables_unmoved f (MemoryExternal type ∷ items) h = tables_unmoved f items (others_may (MemoryExternal type) items h).1
tables_unmoved f (GlobalExternal type ∷ items) h = tables_unmoved f items (others_may (GlobalExternal type) items h).1
tables_unmoved f (TagExternal function ∷ items) h = tables_unmoved f items (others_may (TagExternal function) items h).1

-- so do such globals
pub globals_unmoved : (f : ℕ → ℕ) (items : List (ExternalType ℕ)) → list_all (may_have_item 0) items ≡ true
    → globals_in (map (external_map f) items) ≡ globals_in items
globals_unmoved f [] h = refl
globals_unmoved f (FuncExternal function ∷ items) h = globals_unmoved f items (others_may (FuncExternal function) items h).1
globals_unmoved f (TableExternal type ∷ items) h = globals_unmoved f items (others_may (TableExternal type) items h).1
globals_unmoved f (MemoryExternal type ∷ items) h = globals_unmoved f items (others_may (MemoryExternal type) items h).1
globals_unmoved f (GlobalExternal type ∷ items) h =
    let may = others_may (GlobalExternal type) items h in rw (global_unmoved f type may.0, globals_unmoved f items may.1) refl
globals_unmoved f (TagExternal function ∷ items) h = globals_unmoved f items (others_may (TagExternal function) items h).1
