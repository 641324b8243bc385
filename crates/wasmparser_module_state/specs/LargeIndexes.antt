-- An item with an index that can't be packed breaks its rule, where the types are within their limit: no type has that index.
use Rattle.std.specs.Prelude.{◌≡◌, ◌≤◌, ◌⊎◌, ℕ, true, List, [], ◌∷◌, ◌++◌, length, map, nat_lt, refl}
use Rattle.std.specs.List.{list_all}
use Rattle.std.proofs.Common.{inl, inr, sym, subst, lit≤}
use Rattle.std.proofs.Math.Nat.{le_trans, lt_of_lt_of_le, not-le_of_lt}
use Rattle.std.proofs.lemmas.Bool.{and_parts, ltb-true}
use Rattle.wasm_spec.specs.Features.{Features}
use Rattle.wasm_spec.specs.Limits.{Types, most, total_of_types}
use Rattle.wasm_spec.specs.Syntax.{ImportEntry, Import, CompactItems, CompactNames, ImportItem, Table, Global, ElementSegment, ElementItems, FunctionItems, ExpressionItems}
use Rattle.wasm_spec.specs.TypeReferences.{heap_refs, val_refs, table_refs, global_refs}
use Rattle.wasm_spec.specs.Types.{HeapType, Abstract, Concrete, ValType, I32, I64, F32, F64, V128, Ref, ExternalType, FuncExternal, TableExternal, MemoryExternal, GlobalExternal, TagExternal}
use Rattle.wasm_validity.specs.Context.{Context, after_item}
use Rattle.wasm_validity.specs.Entries.{OfImport, OfTable, OfGlobal, OfElement}
use Rattle.wasm_validity.specs.Rules.{Keeps, KeepsItems, keeps_item, keep_items, has_small_index}
use Rattle.wasm_validity.specs.TypeRules.{is_named, is_value}
use Rattle.wasmparser_entries.specs.Entries.{refs_of_element, refs_of_global, refs_of_items, refs_of_table}
use Rattle.wasmparser_entries.specs.ImportEntries.{entry_refs}
use Rattle.wasmparser_entries.specs.ImportItems.{items_refs}
use Rattle.wasmparser_readers.specs.ItemTypes.{packed_refs}
use Rattle.wasmparser_module_state.specs.Judging.{HasLarge}
use Rattle.wasmparser_types.specs.Index.{packable}

few_are_packable : most Types ≤ packable
few_are_packable = lit≤ tt

not_named : (cx : Context) (heap : HeapType ℕ) → length cx.types ≤ most Types → HasLarge (heap_refs heap) → is_named cx heap ≡ true → ⊥
not_named cx (Abstract heap) few large named = large
not_named cx (Concrete index) few (inl large) named = not-le_of_lt (lt_of_lt_of_le (ltb-true index (length cx.types) named) few) (le_trans few_are_packable large)
not_named cx (Concrete index) few (inr none) named = none

no_value : (features : Features) (cx : Context) (type : ValType ℕ) → length cx.types ≤ most Types → HasLarge (val_refs type) → is_value features cx type ≡ true → ⊥
no_value features cx I32 few large keeps = large
no_value features cx I64 few large keeps = large
no_value features cx F32 few large keeps = large
no_value features cx F64 few large keeps = large
no_value features cx V128 few large keeps = large
no_value features cx (Ref nullable heap) few large keeps = not_named cx heap few large (and_parts _ _ keeps).1

no_item : (features : Features) (cx : Context) (type : ExternalType ℕ) → length cx.types ≤ most Types → HasLarge (packed_refs type) → keeps_item features cx type ≡ true → ⊥
no_item features cx (FuncExternal function) few large keeps = large
no_item features cx (TableExternal type) few large keeps =
    not_named cx type.element_type.heap_type few large (and_parts _ _ (and_parts _ _ (and_parts _ _ keeps).0).0).1
no_item features cx (MemoryExternal type) few large keeps = large
no_item features cx (GlobalExternal type) few large keeps = no_value features cx type.value_type few large (and_parts _ _ keeps).0
no_item features cx (TagExternal function) few large keeps = large

large_part : (xs ys : List ℕ) → HasLarge (xs ++ ys) → HasLarge xs ⊎ HasLarge ys
large_part [] ys large = inr large
large_part (x ∷ xs) ys (inl large) = inl (inl large)
large_part (x ∷ xs) ys (inr large) = after_first (large_part xs ys large)
  where
    after_first : HasLarge xs ⊎ HasLarge ys → HasLarge (x ∷ xs) ⊎ HasLarge ys
    after_first (inl h) = inl (inr h)
    after_first (inr h) = inr h

pub same_types : (cx : Context) (type : ExternalType ℕ) → (after_item cx type).types ≡ cx.types
same_types cx (FuncExternal function) = refl
same_types cx (TableExternal type) = refl
same_types cx (MemoryExternal type) = refl
same_types cx (GlobalExternal type) = refl
same_types cx (TagExternal function) = refl

no_items : (features : Features) (cx : Context) (items : List ImportItem) → length cx.types ≤ most Types → HasLarge (items_refs items)
    → keep_items features cx (map (λ item. item.type) items) ≡ true → ⊥
no_items features cx [] few large keep = large
no_items features cx (item ∷ items) few large keep =
    by_part (large_part (packed_refs item.type) (items_refs items) large) (no_items features (after_item cx item.type) items (subst (λ ts. length ts ≤ most Types) (sym (same_types cx item.type)) few))
  where
    by_part : HasLarge (packed_refs item.type) ⊎ HasLarge (items_refs items)
        → (HasLarge (items_refs items) → keep_items features (after_item cx item.type) (map (λ item. item.type) items) ≡ true → ⊥) → ⊥
    by_part (inl h) others = no_item features cx item.type few h (and_parts _ _ keep).0
    by_part (inr h) others = others h (and_parts _ _ keep).1

not_below : (indexes : List ℕ) → HasLarge indexes → list_all (λ index. nat_lt index total_of_types) indexes ≡ true → ⊥
not_below [] large all = large
not_below (index ∷ indexes) (inl large) all = not-le_of_lt (ltb-true index total_of_types (and_parts _ _ all).0) large
not_below (index ∷ indexes) (inr large) all = not_below indexes large (and_parts _ _ all).1

not_small : (type : ExternalType ℕ) → HasLarge (packed_refs type) → has_small_index type ≡ true → ⊥
not_small (FuncExternal function) large small = large
not_small (TableExternal type) large small = not_below (table_refs type) large small
not_small (MemoryExternal type) large small = large
not_small (GlobalExternal type) large small = not_below (global_refs type) large small
not_small (TagExternal function) large small = large

pub large_import : (features : Features) (cx : Context) (entry : ImportEntry) → length cx.types ≤ most Types → HasLarge (entry_refs entry) → ¬ (Keeps features cx (OfImport entry))
large_import features cx (Import origin name type) few large keeps = no_item features cx type few large (and_parts (keeps_item features cx type) true keeps).0
large_import features cx (CompactItems origin items) few large keeps = no_items features cx items few large keeps
large_import features cx (CompactNames origin type names) few large keeps = not_small type large (and_parts _ _ keeps).0

-- ---- the module's own items

pub large_table : (features : Features) (cx : Context) (table : Table) → length cx.types ≤ most Types → HasLarge (refs_of_table table) → ¬ (Keeps features cx (OfTable table))
large_table features cx table few large keeps = no_item features cx (TableExternal table.type) few large keeps.type

pub large_global : (features : Features) (cx : Context) (global : Global) → length cx.types ≤ most Types → HasLarge (refs_of_global global) → ¬ (Keeps features cx (OfGlobal global))
large_global features cx global few large keeps = no_value features cx global.type.value_type few large keeps.type

pub large_element : (features : Features) (cx : Context) (segment : ElementSegment) → length cx.types ≤ most Types → HasLarge (refs_of_element segment) → ¬ (Keeps features cx (OfElement segment))
large_element features cx segment few large keeps = by_items segment.items large keeps.items
  where
    by_items : (items : ElementItems) → HasLarge (refs_of_items items) → KeepsItems features cx items → ⊥
    by_items (FunctionItems functions) large keeps = large
    by_items (ExpressionItems type expressions) large keeps = not_named cx type.heap_type few large (and_parts _ _ keeps.0).1
