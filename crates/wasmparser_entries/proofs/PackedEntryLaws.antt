-- What reads packed is what the grammar reads, with its indexes packed; and what that says of an entry.
use Rattle.std.proofs.Common.{◌≡◌, ◌≤◌, ℕ, List, Option, Some, None, refl, sym, ap, ◌∙◌}
use Rattle.std.specs.List.{AllByRecursion, Any}
use Rattle.wasm_core_read.specs.ConstantReading.{expression_at}
use Rattle.wasm_core_read.specs.Input.{Input}
use Rattle.wasm_core_read.specs.PartReading.{table_at, global_at, element_from, element_at, functions_at, kind_and_items_at, bare_table_from, with_initialiser}
use Rattle.wasm_core_read.specs.Reading.{◌>>=◌, ReadingOf, unsigned_at, seen_at, pair_at, announced_at, after_code, no_code}
use Rattle.wasm_core_read.specs.TypeReading.{list_at, ref_type_at, table_type_from, table_type_at, global_type_at}
use Rattle.wasm_spec.specs.Constants.{ConstantExpression}
use Rattle.wasm_spec.specs.Syntax as syntax
use Rattle.wasm_spec.specs.TypeReferences.{ref_map, table_map, global_map, table_refs, global_refs}
use Rattle.wasm_spec.specs.Types.{RefType, TableType, GlobalType}
use Rattle.wasmparser_types.specs.Index.{Index, packable, number_of}
use Rattle.wasmparser_readers.specs.PackedItems.{packed_table_from}
use Rattle.wasmparser_readers.proofs.PackedItemLaws.{same, table_from, table_is, table_back, global_is, global_back}
use Rattle.wasmparser_readers.specs.Answers.{HasLargeIndex}
use Rattle.wasmparser_readers.specs.ModuleIndexes.{IsModuleIndex}
use Rattle.wasmparser_readers.specs.PackedReading.{packed_index}
use Rattle.wasmparser_readers.proofs.MappedReading.{Mapped, MappedFrom, given, both, by_code, by_none, by_first, by_view, by_pair}
use Rattle.wasmparser_readers.proofs.ModuleLaws.{item_unread, item_read, item_large, ref_back, ref_large_in, val_large_in}
use Rattle.wasmparser_readers.proofs.PackedLaws.{ref_is}
use Rattle.wasmparser_entries.specs.declared.element.ElementItems.{ElementItems}
use Rattle.wasmparser_entries.specs.declared.element.ElementItems.TheVariants as kinds
use Rattle.wasmparser_entries.specs.Entries.{AreItemsRead, ItemsAreLast, PackedTable, table_of, refs_of_table, PackedGlobal, global_of, refs_of_global, PackedItems, Functions, Expressions, PackedElement, items_of, element_of, refs_of_items, refs_of_element, packed_refs_of_items}
use Rattle.wasmparser_entries.specs.PackedEntries.{bare_table, initialised_at, packed_entry_from, packed_entry_at, packed_initialised_at, typed_at, packed_element_from, packed_element_at}

-- ---- tables

pack_table : syntax.Table → PackedTable
pack_table table = (table_map packed_index table.type, table.initialiser)

initialised_is : Mapped pack_table (announced_at (after_code 0x00 (seen_at with_initialiser (pair_at table_type_at expression_at)) no_code)) initialised_at
unfolding initialised_at pack_table
initialised_is = by_first _ _ _ (by_code _ 0x00 _ _ _ _ (by_view (both (table_map packed_index) (λ e. e)) _ _ pack_table _ _ (by_pair _ _ _ _ _ _ table_is (same expression_at)) (λ x. refl)) (by_none pack_table))

bare_is : MappedFrom pack_table bare_table_from (λ code. seen_at bare_table (packed_table_from code))
unfolding pack_table
bare_is = λ code. by_view (table_map packed_index) _ _ pack_table (table_type_from code) (packed_table_from code) (table_from code) (λ x. refl)

table_entry_is : Mapped pack_table table_at packed_entry_at
unfolding table_at packed_entry_at
table_entry_is = by_first _ _ _ (by_code _ 0x40 _ _ _ _ initialised_is bare_is)

abbrev IsTableOfModule : PackedTable → Type 0
IsTableOfModule table = AllByRecursion IsModuleIndex (table_refs table.0)

table_entry_back : (x : syntax.Table) → IsTableOfModule (pack_table x) → table_of (pack_table x) ≡ x
unfolding pack_table
table_entry_back x h = ap (λ (t : TableType ℕ). record { type = t; initialiser = x.initialiser }) (table_back x.type h)

pub table_unread : (bytes : List ℕ) → packed_entry_at bytes ≡ None → table_at bytes ≡ None
table_unread bytes e = item_unread _ _ _ table_entry_is bytes e

pub table_read : (bytes : List ℕ) (v : PackedTable) (rest : List ℕ) → packed_entry_at bytes ≡ Some (v, rest) → AllByRecursion IsModuleIndex (table_refs v.0) → table_at bytes ≡ Some (table_of v, rest)
table_read bytes v rest e h = item_read _ _ _ table_of IsTableOfModule table_entry_is table_entry_back bytes v rest e h

pub table_large : (bytes : List ℕ) (v : PackedTable) (rest : List ℕ) → packed_entry_at bytes ≡ Some (v, rest) → ¬ (AllByRecursion IsModuleIndex (table_refs v.0)) → HasLargeIndex refs_of_table (table_at bytes)
unfolding pack_table
table_large bytes v rest e h = item_large _ _ _ IsTableOfModule refs_of_table table_entry_is (λ x not. ref_large_in x.type.element_type not) bytes v rest e h

pub ruleset table_items = (table_unread, table_read, table_large)

-- ---- globals

pack_global : syntax.Global → PackedGlobal
pack_global global = (global_map packed_index global.type, global.initialiser)

global_from : GlobalType ℕ × ConstantExpression → syntax.Global
global_from x = record { type = x.0; initialiser = x.1 }

global_entry_is : Mapped pack_global global_at packed_initialised_at
unfolding global_at packed_initialised_at pack_global global_from
global_entry_is = λ bytes. by_pair _ _ _ _ _ _ global_is (same expression_at) bytes ∙ by_read (pair_at global_type_at expression_at bytes)
  where
    by_read : (read : Option ((GlobalType ℕ × ConstantExpression) × List ℕ)) → (read >>= λ x. given (both (global_map packed_index) (λ e. e) x.0) x.1) ≡ ((read >>= λ x. given (global_from x.0) x.1) >>= λ x. given (pack_global x.0) x.1)
    by_read None = refl
    by_read (Some x) = refl

abbrev IsGlobalOfModule : PackedGlobal → Type 0
IsGlobalOfModule global = AllByRecursion IsModuleIndex (global_refs global.0)

global_entry_back : (x : syntax.Global) → IsGlobalOfModule (pack_global x) → global_of (pack_global x) ≡ x
unfolding pack_global
global_entry_back x h = ap (λ (t : GlobalType ℕ). record { type = t; initialiser = x.initialiser }) (global_back x.type h)

pub global_unread : (bytes : List ℕ) → packed_initialised_at bytes ≡ None → global_at bytes ≡ None
global_unread bytes e = item_unread _ _ _ global_entry_is bytes e

pub global_read : (bytes : List ℕ) (v : PackedGlobal) (rest : List ℕ) → packed_initialised_at bytes ≡ Some (v, rest) → AllByRecursion IsModuleIndex (global_refs v.0) → global_at bytes ≡ Some (global_of v, rest)
global_read bytes v rest e h = item_read _ _ _ global_of IsGlobalOfModule global_entry_is global_entry_back bytes v rest e h

pub global_large : (bytes : List ℕ) (v : PackedGlobal) (rest : List ℕ) → packed_initialised_at bytes ≡ Some (v, rest) → ¬ (AllByRecursion IsModuleIndex (global_refs v.0)) → HasLargeIndex refs_of_global (global_at bytes)
unfolding pack_global
global_large bytes v rest e h = item_large _ _ _ IsGlobalOfModule refs_of_global global_entry_is (λ x not. val_large_in x.type.value_type not) bytes v rest e h

pub ruleset global_items = (global_unread, global_read, global_large)

-- ---- element segments

pack_items : syntax.ElementItems → PackedItems
pack_items (syntax.FunctionItems functions) = Functions functions
pack_items (syntax.ExpressionItems type expressions) = Expressions (ref_map packed_index type) expressions

pack_element : syntax.ElementSegment → PackedElement
pack_element element = record { mode = element.mode; items = pack_items element.items }

-- the type of some expressions, and these
pack_typed : RefType ℕ × List ConstantExpression → PackedItems
pack_typed x = Expressions (ref_map packed_index x.0) x.1

typed_is : Mapped pack_typed (pair_at ref_type_at (list_at expression_at)) typed_at
unfolding typed_at pack_typed
typed_is = λ bytes. by_view (both (ref_map packed_index) (λ e. e)) (λ x. x) (λ x. Expressions x.0 x.1) pack_typed _ _ (by_pair _ _ _ _ _ _ ref_is (same (list_at expression_at))) (λ x. refl) bytes ∙ again bytes
  where
    again : (bytes : List ℕ) → seen_at pack_typed (seen_at (λ x. x) (pair_at ref_type_at (list_at expression_at))) bytes ≡ seen_at pack_typed (pair_at ref_type_at (list_at expression_at)) bytes
    again bytes = by_read (pair_at ref_type_at (list_at expression_at) bytes)
      where
        by_read : (read : Option ((RefType ℕ × List ConstantExpression) × List ℕ)) → ((read >>= λ x. given x.0 x.1) >>= λ x. given (pack_typed x.0) x.1) ≡ (read >>= λ x. given (pack_typed x.0) x.1)
        by_read None = refl
        by_read (Some x) = refl

element_is_from : MappedFrom pack_element element_from packed_element_from
unfolding pack_items pack_element pack_typed
element_is_from =
    by_code _ 0 _ _ _ _ (by_view (λ x. x) _ _ pack_element _ _ (same (pair_at expression_at functions_at)) (λ x. refl))
    (by_code _ 1 _ _ _ _ (by_view (λ x. x) _ _ pack_element _ _ (same kind_and_items_at) (λ x. refl))
    (by_code _ 2 _ _ _ _ (by_view (λ x. x) _ _ pack_element _ _ (same (pair_at (unsigned_at 32) (pair_at expression_at kind_and_items_at))) (λ x. refl))
    (by_code _ 3 _ _ _ _ (by_view (λ x. x) _ _ pack_element _ _ (same kind_and_items_at) (λ x. refl))
    (by_code _ 4 _ _ _ _ (by_view (λ x. x) _ _ pack_element _ _ (same (pair_at expression_at (list_at expression_at))) (λ x. refl))
    (by_code _ 5 _ _ _ _ (by_view pack_typed _ _ pack_element _ _ typed_is (λ x. refl))
    (by_code _ 6 _ _ _ _ (by_view (both (λ n. n) (both (λ e. e) pack_typed)) _ _ pack_element _ _ (by_pair _ _ _ _ _ _ (same (unsigned_at 32)) (by_pair _ _ _ _ _ _ (same expression_at) typed_is)) (λ x. refl))
    (by_code _ 7 _ _ _ _ (by_view pack_typed _ _ pack_element _ _ typed_is (λ x. refl)) (by_none pack_element))))))))

element_is : Mapped pack_element element_at packed_element_at
unfolding element_at packed_element_at
element_is = λ bytes. by_number (unsigned_at 32 bytes)
  where
    by_number : (read : Option (ℕ × List ℕ)) → (read >>= λ n. packed_element_from n.0 n.1) ≡ ((read >>= λ n. element_from n.0 n.1) >>= λ x. given (pack_element x.0) x.1)
    by_number None = refl
    by_number (Some n) = element_is_from n.0 n.1

abbrev IsPackedOfModule : PackedElement → Type 0
IsPackedOfModule element = AllByRecursion IsModuleIndex (packed_refs_of_items element.items)

items_back : (x : syntax.ElementItems) → AllByRecursion IsModuleIndex (packed_refs_of_items (pack_items x)) → items_of (pack_items x) ≡ x
unfolding pack_items
items_back (syntax.FunctionItems functions) h = refl
items_back (syntax.ExpressionItems type expressions) h = ap (λ (t : RefType ℕ). syntax.ExpressionItems t expressions) (ref_back type h)

items_large : (x : syntax.ElementItems) → ¬ (AllByRecursion IsModuleIndex (packed_refs_of_items (pack_items x))) → Any (λ n. packable ≤ n) (refs_of_items x)
unfolding pack_items
items_large (syntax.FunctionItems functions) h = absurd (h tt)
items_large (syntax.ExpressionItems type expressions) h = ref_large_in type h

element_back : (x : syntax.ElementSegment) → IsPackedOfModule (pack_element x) → element_of (pack_element x) ≡ x
unfolding pack_element
element_back x h = ap (λ (i : syntax.ElementItems). record { mode = x.mode; items = i }) (items_back x.items h)

pub element_unread : (bytes : List ℕ) → packed_element_at bytes ≡ None → element_at bytes ≡ None
element_unread bytes e = item_unread _ _ _ element_is bytes e

pub element_read : (bytes : List ℕ) (v : PackedElement) (rest : List ℕ) → packed_element_at bytes ≡ Some (v, rest) → AllByRecursion IsModuleIndex (packed_refs_of_items v.items) → element_at bytes ≡ Some (element_of v, rest)
element_read bytes v rest e h = item_read _ _ _ element_of IsPackedOfModule element_is element_back bytes v rest e h

pub element_large : (bytes : List ℕ) (v : PackedElement) (rest : List ℕ) → packed_element_at bytes ≡ Some (v, rest) → ¬ (AllByRecursion IsModuleIndex (packed_refs_of_items v.items)) → HasLargeIndex refs_of_element (element_at bytes)
unfolding pack_element
element_large bytes v rest e h = item_large _ _ _ IsPackedOfModule refs_of_element element_is (λ x not. items_large x.items not) bytes v rest e h

-- items that a reader passed read again
pub items_read : (old new : Input) (items : ElementItems) → ItemsAreLast old new items → AreItemsRead items
items_read old new (kinds.Functions section) are = are.read
items_read old new (kinds.Expressions type section) are = are.read

pub ruleset element_items = (element_unread, element_read, element_large, items_read)
