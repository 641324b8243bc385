-- Where the features don't ask for types to be canonicalized, the items of a module refer to no types.
use Rattle.std.proofs.Common.{◌≡◌, ℕ, suc, Bool, true, false, List, [], ◌∷◌, ◌++◌, length, Some, refl, ap, sym, ◌∙◌, subst}
use Rattle.std.proofs.lemmas.Bool.{and_parts}
use Rattle.std.specs.List.{AllByRecursion}
use Rattle.wasm_bodies_laws.proofs.HeldOptions.{all_append}
use Rattle.wasm_bodies_laws.proofs.WantedChoices.{allowed_without, function_under, wanted_under}
use Rattle.wasm_bodies_laws.specs.References.{AreWanted, HasNoReferences, TakesAndGives, WantedBy, is_wanted_under}
use Rattle.wasm_spec.proofs.Places.{all_get}
use Rattle.wasm_spec.specs.Features.{Features, needs_type_canonicalization}
use Rattle.wasm_spec.specs.Syntax.{Section, imported_by, types_of}
use Rattle.wasm_spec.specs.TypeReferences.{func_refs, global_refs, heap_refs, table_refs, val_refs}
use Rattle.wasm_spec.specs.Types.{HeapType, Abstract, Concrete, ValType, I32, I64, F32, F64, V128, Ref, FuncType, TableType, GlobalType, ExternalType, FuncExternal, TableExternal, MemoryExternal, GlobalExternal, TagExternal, SubType}
use Rattle.wasm_validity.specs.ModuleBodies.{Below, func_type_in, items_in}
use Rattle.wasm_validity_laws.proofs.NamedWanted.{entries_named, entry_functions_named}
use Rattle.wasm_validity_laws.proofs.PlainTypes.{written_plain}
use Rattle.wasm_validity_laws.proofs.WantedBoth.{both_functions, both_wanted}
use Rattle.wasm_validity_laws.proofs.WrittenItems.{function_by_index, function_refs}
use Rattle.wasm_validity_laws.proofs.WrittenTypes.{section_written}
use Rattle.wasm_validity_laws.specs.WantedTypes.{is_named_under}
use Rattle.wasm_validity_laws.specs.Written.{is_named, written_in}
use Rattle.wasm_validity.specs.Context.{Context, after, after_all, after_item, after_items, at_first}
use Rattle.wasm_validity.specs.Entries.{Entry, OfType, OfImport, OfFunction, OfTable, OfMemory, OfTag, OfGlobal, OfExport, OfElement, OfDataCount, OfData, entries_of}
use Rattle.wasm_validity.specs.Rules.{Keeps, KeepRules, keep_items, keeps_item, keeps_table, shares_small_index}
use Rattle.wasm_validity.specs.TypeRules.{is_element_type, is_value}
use Rattle.wasm_validity.specs.Validity.{context_of}

abbrev IsPlainTable : TableType ℕ → Type 0
IsPlainTable type = table_refs type ≡ []

abbrev IsPlainGlobal : GlobalType ℕ → Type 0
IsPlainGlobal type = global_refs type ≡ []

abbrev ArePlain : Context → Type 0
ArePlain cx = AllByRecursion IsPlainTable cx.tables × (AllByRecursion IsPlainGlobal cx.imported_globals × AllByRecursion IsPlainGlobal cx.own_globals)

module _ (features : Features) (plain : needs_type_canonicalization features ≡ false) where
  plain_element : (cx : Context) (nullable : Bool) (heap : HeapType ℕ) → is_element_type features cx (record { nullable = nullable; heap_type = heap }) ≡ true → heap_refs heap ≡ []
  plain_element cx nullable (Abstract heap) keeps = refl
  plain_element cx true (Concrete index) keeps = allowed_without features plain (Ref true (Concrete index)) (and_parts _ _ keeps).0
  plain_element cx false (Concrete index) keeps = allowed_without features plain (Ref false (Concrete index)) (and_parts _ _ keeps).0

  plain_table : (cx : Context) (type : TableType ℕ) → keeps_table features cx type ≡ true → IsPlainTable type
  plain_table cx type keeps = plain_element cx type.element_type.nullable type.element_type.heap_type (and_parts _ _ (and_parts _ _ keeps).0).0

  plain_value : (cx : Context) (type : ValType ℕ) → is_value features cx type ≡ true → val_refs type ≡ []
  plain_value cx I32 keeps = refl
  plain_value cx I64 keeps = refl
  plain_value cx F32 keeps = refl
  plain_value cx F64 keeps = refl
  plain_value cx V128 keeps = refl
  plain_value cx (Ref nullable heap) keeps = allowed_without features plain (Ref nullable heap) (and_parts _ _ keeps).0

  -- an item is judged in one context and added to another
  plain_item : (cx known : Context) (type : ExternalType ℕ) → ArePlain known → keeps_item features cx type ≡ true → ArePlain (after_item known type)
  plain_item cx known (FuncExternal function) all keeps = all
  plain_item cx known (TableExternal type) all keeps = (all_append IsPlainTable known.tables (type ∷ []) all.0 (plain_table cx type keeps, tt), all.1)
  plain_item cx known (MemoryExternal type) all keeps = all
  plain_item cx known (GlobalExternal type) all keeps =
      (all.0, (all_append IsPlainGlobal known.imported_globals (type ∷ []) all.1.0 (plain_value cx type.value_type (and_parts _ _ keeps).0, tt), all.1.1))
  plain_item cx known (TagExternal function) all keeps = all

  plain_items : (cx known : Context) (types : List (ExternalType ℕ)) → ArePlain known → keep_items features cx types ≡ true → ArePlain (after_items known types)
  plain_items cx known [] all keep = all
  plain_items cx known (type ∷ types) all keep =
      let parts = and_parts (keeps_item features cx type) (keep_items features (after_item cx type) types) keep in
      plain_items (after_item cx type) (after_item known type) types (plain_item cx known type all parts.0) parts.1

  plain_entry : (cx : Context) (entry : Entry) → ArePlain cx → Keeps features cx entry → ArePlain (after cx entry)
  plain_entry cx (OfType group) all keeps = all
  plain_entry cx (OfImport entry) all keeps =
      plain_items cx (record cx { imports = suc cx.imports }) (imported_by entry) all (and_parts (shares_small_index entry) (keep_items features cx (imported_by entry)) keeps).1
  plain_entry cx (OfFunction index) all keeps = all
  plain_entry cx (OfTable table) all keeps = (all_append IsPlainTable cx.tables (table.type ∷ []) all.0 (plain_table cx table.type keeps.type, tt), all.1)
  plain_entry cx (OfMemory type) all keeps = all
  plain_entry cx (OfTag index) all keeps = all
  plain_entry cx (OfGlobal global) all keeps =
      (all.0, (all.1.0, all_append IsPlainGlobal cx.own_globals (global.type ∷ []) all.1.1 (plain_value cx global.type.value_type keeps.type, tt)))
  plain_entry cx (OfExport export) all keeps = all
  plain_entry cx (OfElement segment) all keeps = all
  plain_entry cx (OfDataCount count) all keeps = all
  plain_entry cx (OfData segment) all keeps = all
  plain_entry cx _ all keeps = all

  plain_entries : (cx : Context) (entries : List Entry) → ArePlain cx → KeepRules features cx entries → ArePlain (after_all cx entries)
  plain_entries cx [] all keep = all
  plain_entries cx (entry ∷ entries) all keep = plain_entries (after cx entry) entries (plain_entry cx entry all keep.0) keep.1

-- ---- functions

no_item : {A : Type 0} (xs : List A) → AllByRecursion (λ x. ⊥) xs → xs ≡ []
no_item [] all = refl
no_item (x ∷ xs) all = absurd all.0

pub plain_function : (features : Features) (entries : List Entry) (index : ℕ) (type : FuncType ℕ) → needs_type_canonicalization features ≡ false → KeepRules features at_first entries
    → func_type_in (written_in entries) index ≡ Some type → func_refs type ≡ []
plain_function features entries index type plain keep e =
    no_item (func_refs type)
    (function_refs (λ r. ⊥) (written_in entries) (λ at sub is. subst (λ (refs : List ℕ). AllByRecursion (λ r. ⊥) refs) (sym (written_plain features entries at sub plain keep is)) tt) index type e)

-- ---- items

pub plain_of_entries : (features : Features) (entries : List Entry) (is_below : Below) → needs_type_canonicalization features ≡ false → KeepRules features at_first entries
    → HasNoReferences (items_in (written_in entries) (after_all at_first entries) is_below)
plain_of_entries features entries is_below plain keep =
    let cx = after_all at_first entries in
    let all = plain_entries features plain at_first entries (tt, (tt, tt)) keep in
    record {
      functions = λ index type e. plain_function features entries index type plain keep (sym (function_by_index (written_in entries) cx is_below index) ∙ e);
      tables = λ index type e. all_get IsPlainTable cx.tables all.0 index type e;
      globals = λ index type e.
          all_get IsPlainGlobal (cx.imported_globals ++ cx.own_globals) (all_append IsPlainGlobal cx.imported_globals cx.own_globals all.1.0 all.1.1) index type e;
    }

-- ---- what is wanted under the features

pub under_of_entries : (features : Features) (entries : List Entry) (is_below : Below) → KeepRules features at_first entries
    → AreWanted (WantedBy (is_named_under (length (after_all at_first entries).types) features)) features (items_in (written_in entries) (after_all at_first entries) is_below)
under_of_entries features entries is_below keep =
    let items = items_in (written_in entries) (after_all at_first entries) is_below in
    both_wanted (is_named (length (after_all at_first entries).types)) (is_wanted_under features) features items (entries_named features entries is_below keep)
    (wanted_under features items (λ plain. plain_of_entries features entries is_below plain keep))

pub function_of_entries : (features : Features) (entries : List Entry) (index : ℕ) (type : FuncType ℕ) → KeepRules features at_first entries → func_type_in (written_in entries) index ≡ Some type
    → TakesAndGives (WantedBy (is_named_under (length (after_all at_first entries).types) features)) type
function_of_entries features entries index type keep e =
    both_functions (is_named (length (after_all at_first entries).types)) (is_wanted_under features) type (entry_functions_named features entries index type keep e)
    (function_under features type (λ plain. plain_function features entries index type plain keep e))

-- ---- sections

module _ (features : Features) (sections : List Section) (keep : KeepRules features at_first (entries_of sections)) where
  pub plain_of_sections : (is_below : Below) → needs_type_canonicalization features ≡ false → HasNoReferences (items_in (types_of sections) (context_of sections) is_below)
  plain_of_sections is_below plain =
      subst (λ (types : List (SubType ℕ)). HasNoReferences (items_in types (context_of sections) is_below)) (sym (section_written sections))
      (plain_of_entries features (entries_of sections) is_below plain keep)

  pub under_of_sections : (is_below : Below)
      → AreWanted (WantedBy (is_named_under (length (context_of sections).types) features)) features (items_in (types_of sections) (context_of sections) is_below)
  under_of_sections is_below =
      subst (λ (types : List (SubType ℕ)). AreWanted (WantedBy (is_named_under (length (context_of sections).types) features)) features (items_in types (context_of sections) is_below))
      (sym (section_written sections)) (under_of_entries features (entries_of sections) is_below keep)

  pub function_of_sections : (index : ℕ) (type : FuncType ℕ) → func_type_in (types_of sections) index ≡ Some type
      → TakesAndGives (WantedBy (is_named_under (length (context_of sections).types) features)) type
  function_of_sections index type e =
      function_of_entries features (entries_of sections) index type keep (ap (λ (types : List (SubType ℕ)). func_type_in types index) (sym (section_written sections)) ∙ e)
