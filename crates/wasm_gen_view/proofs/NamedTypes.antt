-- The type indexes of the items of a made module that is valid by index name types of it.
use Rattle.std.proofs.Common.{◌≡◌, ◌∙◌, ℕ, ◌<◌, Bool, true, false, List, [], ◌∷◌, ◌++◌, map, length, slice_get, Option, Some, None, is_some, refl, sym, subst}
use Rattle.std.specs.Prelude.{⊤}
use Rattle.std.specs.List.{AllByRecursion, flat_map}
use Rattle.std.specs.Option.{option_to_list}
use Rattle.std.proofs.lemmas.Bool.{and_parts}
use Rattle.std.proofs.lemmas.Grind.{flat_map-append}
use Rattle.std.proofs.lemmas.Option.{slice_get_within}
use Rattle.wasm_spec.proofs.GroupTrees.{section_stands}
use Rattle.wasm_spec.proofs.MappedBack.{all_left, all_right}
use Rattle.wasm_spec.specs.Features.{Features}
use Rattle.wasm_spec.specs.Syntax.{ImportEntry, ElementItems, FunctionItems, ExpressionItems, imported_by}
use Rattle.wasm_spec.specs.TypeReferences.{external_refs, global_refs, heap_refs, ref_refs, table_refs, val_refs}
use Rattle.wasm_spec.specs.Types.{HeapType, Abstract, Concrete, ValType, Ref, FuncType, SubType, ExternalType, FuncExternal, TableExternal, MemoryExternal, GlobalExternal, TagExternal}
use Rattle.wasm_validity.specs.Context.{element_type}
use Rattle.wasm_validity.specs.Entries.{Entry, OfType, OfImport, OfFunction, OfTable, OfMemory, OfTag, OfGlobal, OfExport, OfStart, OfElement}
use Rattle.wasm_validity.specs.IndexSpaces.{spaces_of}
use Rattle.wasm_validity.specs.Rules.{value_of}
use Rattle.wasm_smith_validity.specs.Made.{Made}
use Rattle.wasm_smith_validity.specs.Rules.{KeepAll, KeepsItems, KeepsRule, keep_items, keeps_item, keeps_tag, may_be_thrown}
use Rattle.wasm_smith_validity.specs.Sections.{sections_with}
use Rattle.wasm_smith_validity.specs.Spaces.{Spaces, func_type_at, is_named, is_value, spaces_after, spaces_of_types, with_item, with_items}
use Rattle.wasm_smith_validity.specs.ValidGroups.{types_of}
use Rattle.wasm_smith_validity.specs.Validity.{IsValidByIndex}
use Rattle.wasm_smith_validity.proofs.GroupLaws.{valid_in_range}
use Rattle.wasm_smith_validity.proofs.IndexedContext.{IsBehind}
use Rattle.wasm_smith_validity.proofs.MadeSections.{all_append, entries_behind_types, of_tags, rules_of, said_behind}
use Rattle.wasm_smith_validity.proofs.MeantItems.{element_named}
use Rattle.wasm_smith_validity.proofs.MeantTypes.{below_of, named_of}
use Rattle.wasm_gen_view.specs.MadeSpaces.{functions_among, globals_among, imported_types, made_spaces, tables_among, tags_among}
use Rattle.wasm_gen_view.specs.Views.{HasTypes}
use Rattle.wasm_gen_view.proofs.WrittenSpaces.{spaces_written, types_same}

-- ---- what the rules ask

abbrev AreBelow : ℕ → List ℕ → Type 0
AreBelow n indexes = AllByRecursion (λ index. index < n) indexes

function_below : (types : List (SubType ℕ)) (index : ℕ) → is_some (func_type_at types index) ≡ true → index < length types
function_below types index named = at (slice_get types index) refl
  where
    at : (found : Option (SubType ℕ)) → slice_get types index ≡ found → index < length types
    at None e = let never : false ≡ true = rw e at named in absurd cc
    at (Some type) e = slice_get_within types index type e

heap_below : (types : List (SubType ℕ)) (heap : HeapType ℕ) → is_named types heap ≡ true → AreBelow (length types) (heap_refs heap)
heap_below types (Abstract heap) named = tt
heap_below types (Concrete index) named = (below_of index (length types) named, tt)

value_below : (features : Features) (types : List (SubType ℕ)) (type : ValType ℕ) → is_value features types type ≡ true → AreBelow (length types) (val_refs type)
value_below features types (Ref nullable heap) keeps = heap_below types heap (named_of features types (Ref nullable heap) keeps)
value_below features types _ keeps = tt

tag_below : (features : Features) (k : Spaces) (index : ℕ) → keeps_tag features k index ≡ true → index < length k.types
tag_below features k index keeps = function_below k.types index (thrown (func_type_at k.types index) (and_parts _ _ keeps).1)
  where
    thrown : (type : Option (FuncType ℕ)) → may_be_thrown features type ≡ true → is_some type ≡ true
    thrown None e = absurd cc
    thrown (Some type) e = refl

element_below : (features : Features) (k : Spaces) (items : ElementItems) → KeepsItems features k items → AreBelow (length k.types) (ref_refs (element_type items))
element_below features k (FunctionItems functions) keeps = tt
element_below features k (ExpressionItems type expressions) keeps = value_below features k.types (value_of type) keeps.0

item_below : (features : Features) (k : Spaces) (type : ExternalType ℕ) → keeps_item features k type ≡ true → AreBelow (length k.types) (external_refs type)
item_below features k (FuncExternal function) keeps = (function_below k.types function keeps, tt)
item_below features k (TableExternal type) keeps = heap_below k.types type.element_type.heap_type (element_named features k type keeps)
item_below features k (MemoryExternal type) keeps = tt
item_below features k (GlobalExternal type) keeps = value_below features k.types type.value_type (and_parts _ _ keeps).0
item_below features k (TagExternal function) keeps = (tag_below features k function keeps, tt)

-- ---- entries, which leave the types as they are

abbrev AreItemsBelow : ℕ → List (ExternalType ℕ) → Type 0
AreItemsBelow n types = AllByRecursion (λ type. AreBelow n (external_refs type)) types

item_types : (k : Spaces) (type : ExternalType ℕ) → (with_item k type).types ≡ k.types
item_types k (FuncExternal function) = refl
item_types k (TableExternal type) = refl
item_types k (MemoryExternal type) = refl
item_types k (GlobalExternal type) = refl
item_types k (TagExternal function) = refl

items_types : (k : Spaces) (types : List (ExternalType ℕ)) → (with_items k types).types ≡ k.types
items_types k [] = refl
items_types k (type ∷ types) = items_types (with_item k type) types ∙ item_types k type

items_below : (features : Features) (k : Spaces) (types : List (ExternalType ℕ)) → keep_items features k types ≡ true → AreItemsBelow (length k.types) types
items_below features k [] keep = tt
items_below features k (type ∷ types) keep =
    let kept = and_parts (keeps_item features k type) (keep_items features (with_item k type) types) keep in
    (item_below features k type kept.0, subst (λ known. AreItemsBelow (length known) types) (item_types k type) (items_below features (with_item k type) types kept.1))

-- the type indexes of what an entry adds behind the types
abbrev IsBelow : ℕ → Entry → Type 0
IsBelow n (OfImport entry) = AreItemsBelow n (imported_by entry)
IsBelow n (OfFunction index) = index < n
IsBelow n (OfTable table) = AreBelow n (table_refs table.type)
IsBelow n (OfTag index) = index < n
IsBelow n (OfGlobal global) = AreBelow n (global_refs global.type)
IsBelow n (OfElement segment) = AreBelow n (ref_refs (element_type segment.items))
IsBelow n _ = ⊤

entry_below : (features : Features) (k : Spaces) (entry : Entry) → KeepsRule features k entry → IsBelow (length k.types) entry
entry_below features k (OfImport entry) keeps = items_below features k (imported_by entry) keeps.1
entry_below features k (OfFunction index) keeps = function_below k.types index keeps
entry_below features k (OfTable table) keeps = item_below features k (TableExternal table.type) keeps.type
entry_below features k (OfTag index) keeps = tag_below features k index keeps
entry_below features k (OfGlobal global) keeps = value_below features k.types global.type.value_type keeps.type
entry_below features k (OfElement segment) keeps = element_below features k segment.items keeps.items
entry_below features k _ keeps = tt

entry_types : (k : Spaces) (entry : Entry) → IsBehind entry → (spaces_after k entry).types ≡ k.types
entry_types k (OfType group) behind = absurd behind
entry_types k (OfImport entry) behind = items_types k (imported_by entry)
entry_types k _ behind = refl

entries_below : (features : Features) (k : Spaces) (entries : List Entry) → AllByRecursion IsBehind entries → KeepAll features k entries
    → AllByRecursion (IsBelow (length k.types)) entries
entries_below features k [] behind keep = tt
entries_below features k (entry ∷ entries) behind keep = (
  entry_below features k entry keep.0,
  subst (λ types. AllByRecursion (IsBelow (length types)) entries) (entry_types k entry behind.0) (entries_below features (spaces_after k entry) entries behind.1 keep.1),
)

-- ---- the lists of a made module

module _ (n : ℕ) where
  all_of : {A : Type 0} (entry : A → Entry) (Holds : A → Type 0) → ((item : A) → IsBelow n (entry item) → Holds item) → (items : List A)
      → AllByRecursion (IsBelow n) (map entry items) → AllByRecursion Holds items
  all_of entry Holds one [] h = tt
  all_of entry Holds one (item ∷ items) h = (one item h.0, all_of entry Holds one items h.1)

  tags_of : (indexes : List ℕ) → AllByRecursion (IsBelow n) (of_tags indexes) → AreBelow n indexes
  tags_of [] h = tt
  tags_of (index ∷ indexes) h = all_of (λ x. OfTag x) (λ index. index < n) (λ index below. below) (index ∷ indexes) h.1

  items_of : (imports : List ImportEntry) → AllByRecursion (IsBelow n) (map (λ x. OfImport x) imports) → AreItemsBelow n (flat_map imported_by imports)
  items_of [] h = tt
  items_of (entry ∷ imports) h = all_append (λ type. AreBelow n (external_refs type)) (imported_by entry) (flat_map imported_by imports) h.0 (items_of imports h.1)

  refs_of : {A B : Type 0} (view : A → B) (refs : B → List ℕ) (items : List A) → AllByRecursion (λ item. AreBelow n (refs (view item))) items
      → AreBelow n (flat_map refs (map view items))
  refs_of view refs [] h = tt
  refs_of view refs (item ∷ items) h = all_append (λ index. index < n) (refs (view item)) (flat_map refs (map view items)) h.0 (refs_of view refs items h.1)

  refs_join : {A : Type 0} (refs : A → List ℕ) (xs ys : List A) → AreBelow n (flat_map refs xs) → AreBelow n (flat_map refs ys) → AreBelow n (flat_map refs (xs ++ ys))
  refs_join refs xs ys h g = subst (AreBelow n) (sym (flat_map-append refs xs ys)) (all_append (λ index. index < n) (flat_map refs xs) (flat_map refs ys) h g)

  functions_imported : (types : List (ExternalType ℕ)) → AreItemsBelow n types → AreBelow n (functions_among types)
  functions_imported [] h = tt
  functions_imported (FuncExternal function ∷ types) h = (h.0.0, functions_imported types h.1)
  functions_imported (type ∷ types) h = functions_imported types h.1

  tables_imported : (types : List (ExternalType ℕ)) → AreItemsBelow n types → AreBelow n (flat_map table_refs (tables_among types))
  tables_imported [] h = tt
  tables_imported (TableExternal type ∷ types) h = all_append (λ index. index < n) (table_refs type) (flat_map table_refs (tables_among types)) h.0 (tables_imported types h.1)
  tables_imported (type ∷ types) h = tables_imported types h.1

  globals_imported : (types : List (ExternalType ℕ)) → AreItemsBelow n types → AreBelow n (flat_map global_refs (globals_among types))
  globals_imported [] h = tt
  globals_imported (GlobalExternal type ∷ types) h = all_append (λ index. index < n) (global_refs type) (flat_map global_refs (globals_among types)) h.0 (globals_imported types h.1)
  globals_imported (type ∷ types) h = globals_imported types h.1

  tags_imported : (types : List (ExternalType ℕ)) → AreItemsBelow n types → AreBelow n (tags_among types)
  tags_imported [] h = tt
  tags_imported (TagExternal function ∷ types) h = (h.0.0, tags_imported types h.1)
  tags_imported (type ∷ types) h = tags_imported types h.1

all_below : (features : Features) (m : Made) → IsValidByIndex features m → AllByRecursion (IsBelow (length (made_spaces m).types)) (entries_behind_types m)
all_below features m valid =
    let rules = rules_of features m valid in
    let same = (section_stands m.groups (valid_in_range features m.groups rules.valid)).lengths in
    subst (λ n. AllByRecursion (IsBelow n) (entries_behind_types m)) (sym same)
    (entries_below features (spaces_of_types (types_of m.groups)) (entries_behind_types m) (said_behind false [] m) rules.behind_types)

pub has_types : (features : Features) (m : Made) → IsValidByIndex features m → HasTypes (made_spaces m)
has_types features m valid =
    let n = length (made_spaces m).types in
    let Below = IsBelow n in
    let all = all_below features m valid in
    let types = imported_types m in
    let imported = items_of n m.imports (all_left Below (map (λ x. OfImport x) m.imports) _ all) in
    let functions_on = all_right Below (map (λ x. OfImport x) m.imports) _ all in
    let tables_on = all_right Below (map (λ x. OfFunction x) m.funcs) _ functions_on in
    let memories_on = all_right Below (map (λ x. OfTable x) m.tables) _ tables_on in
    let tags_on = all_right Below (map (λ x. OfMemory x) m.memories) _ memories_on in
    let globals_on = all_right Below (of_tags m.tags) _ tags_on in
    let exports_on = all_right Below (map (λ x. OfGlobal x) m.globals) _ globals_on in
    let start_on = all_right Below (map (λ x. OfExport x) m.exports) _ exports_on in
    let elements_on = all_right Below (map (λ x. OfStart x) (option_to_list m.start)) _ start_on in
    record {
      functions = all_append (λ index. index < n) (functions_among types) m.funcs (functions_imported n types imported)
          (all_of n (λ x. OfFunction x) (λ index. index < n) (λ index below. below) m.funcs (all_left Below (map (λ x. OfFunction x) m.funcs) _ functions_on));
      tables = refs_join n table_refs (tables_among types) (map (λ table. table.type) m.tables) (tables_imported n types imported)
          (refs_of n (λ table. table.type) table_refs m.tables
          (all_of n (λ x. OfTable x) (λ table. AreBelow n (table_refs table.type)) (λ table below. below) m.tables (all_left Below (map (λ x. OfTable x) m.tables) _ tables_on)));
      globals = refs_join n global_refs (globals_among types) (map (λ global. global.type) m.globals) (globals_imported n types imported)
          (refs_of n (λ global. global.type) global_refs m.globals
          (all_of n (λ x. OfGlobal x) (λ global. AreBelow n (global_refs global.type)) (λ global below. below) m.globals (all_left Below (map (λ x. OfGlobal x) m.globals) _ globals_on)));
      tags = all_append (λ index. index < n) (tags_among types) m.tags (tags_imported n types imported) (tags_of n m.tags (all_left Below (of_tags m.tags) _ tags_on));
      elements = refs_of n (λ segment. element_type segment.items) ref_refs m.elems
          (all_of n (λ x. OfElement x) (λ segment. AreBelow n (ref_refs (element_type segment.items))) (λ segment below. below) m.elems
          (all_left Below (map (λ x. OfElement x) m.elems) _ elements_on));
    }

pub has_written_types : (features : Features) (m : Made) (counted : Bool) (bodies : List (List ℕ)) → IsValidByIndex features m → HasTypes (spaces_of (sections_with counted bodies m))
has_written_types features m counted bodies valid =
    let imported = (spaces_of (sections_with counted bodies m)).imported in
    subst HasTypes (sym (spaces_written m counted bodies)) (types_same (record (made_spaces m) { imported = imported }) [] (has_types features m valid))
