-- What reads packed is what the grammar reads, with its indexes packed; and what that says of an item.
use Rattle.std.proofs.Common.{◌≡◌, ◌≤◌, ℕ, List, Option, Some, None, refl, ap}
use Rattle.std.specs.List.{AllByRecursion, Any}
use Rattle.wasm_core_read.specs.Reading.{◌>>=◌, unsigned_at}
use Rattle.wasm_core_read.specs.TypeReading.{table_type_from, table_type_at, table_limits_at, limits_at, global_type_at, mutability_at, tag_type_at, external_type_at, ref_type_from}
use Rattle.wasm_spec.specs.TypeReferences.{ref_map, val_map, table_map, global_map, external_map, table_refs, global_refs}
use Rattle.wasm_spec.specs.Types.{RefType, ValType, TableType, GlobalType, ExternalType, FuncExternal, TableExternal, MemoryExternal, GlobalExternal, TagExternal}
use Rattle.wasmparser_types.specs.Index.{Index, packable, number_of}
use Rattle.wasmparser_readers.specs.Answers.{HasLargeIndex}
use Rattle.wasmparser_readers.specs.ModuleIndexes.{IsModuleIndex}
use Rattle.wasmparser_readers.specs.PackedReading.{packed_index, packed_ref_from}
use Rattle.wasmparser_readers.proofs.MappedReading.{Mapped, MappedFrom, given, both, by_code, by_none, by_first, by_view, by_pair}
use Rattle.wasmparser_readers.proofs.ModuleLaws.{item_unread, item_read, item_large, ref_back, ref_large_in, val_back, val_large_in}
use Rattle.wasmparser_readers.proofs.PackedLaws.{ref_from, val_is}
use Rattle.wasmparser_readers.specs.ItemTypes.{packed_refs}
use Rattle.wasmparser_readers.specs.PackedItems.{packed_table_from, packed_table_at, packed_global_at, packed_external_at, packed_external}

-- ---- tables

pub same : {A : Type 0} (a_at : List ℕ → Option (A × List ℕ)) → Mapped (λ x. x) a_at a_at
same {A = A} a_at = λ bytes. by_read (a_at bytes)
  where
    by_read : (read : Option (A × List ℕ)) → read ≡ (read >>= λ x. given x.0 x.1)
    by_read None = refl
    by_read (Some x) = refl

pub table_from : MappedFrom (table_map packed_index) table_type_from packed_table_from
table_from = λ code. by_view (both (ref_map packed_index) (λ limits. limits)) _ _ (table_map packed_index) _ _ (by_pair (ref_map packed_index) (λ limits. limits) (ref_type_from code) (packed_ref_from code) _ _ (ref_from code) (same table_limits_at)) (λ x. refl)

pub table_is : Mapped (table_map packed_index) table_type_at packed_table_at
unfolding table_type_at packed_table_at
table_is = by_first _ _ _ table_from

pub table_back : (x : TableType ℕ) → AllByRecursion IsModuleIndex (table_refs (table_map packed_index x)) → table_map number_of (table_map packed_index x) ≡ x
table_back x h = ap (λ (r : RefType ℕ). record { element_type = r; limits = x.limits }) (ref_back x.element_type h)

pub table_unread : (bytes : List ℕ) → packed_table_at bytes ≡ None → table_type_at bytes ≡ None
table_unread bytes e = item_unread _ _ _ table_is bytes e

pub table_read : (bytes : List ℕ) (v : TableType Index) (rest : List ℕ) → packed_table_at bytes ≡ Some (v, rest) → AllByRecursion IsModuleIndex (table_refs v) → table_type_at bytes ≡ Some (table_map number_of v, rest)
table_read bytes v rest e h = item_read _ _ _ (table_map number_of) (λ t. AllByRecursion IsModuleIndex (table_refs t)) table_is table_back bytes v rest e h

pub table_large : (bytes : List ℕ) (v : TableType Index) (rest : List ℕ) → packed_table_at bytes ≡ Some (v, rest) → ¬ (AllByRecursion IsModuleIndex (table_refs v)) → HasLargeIndex table_refs (table_type_at bytes)
table_large bytes v rest e h = item_large _ _ _ (λ t. AllByRecursion IsModuleIndex (table_refs t)) table_refs table_is (λ x not. ref_large_in x.element_type not) bytes v rest e h

pub ruleset table_items = (table_unread, table_read, table_large)

-- ---- globals

pub global_is : Mapped (global_map packed_index) global_type_at packed_global_at
unfolding global_type_at packed_global_at
global_is = by_view (both (val_map packed_index) (λ mutable. mutable)) _ _ (global_map packed_index) _ _ (by_pair _ _ _ _ _ _ val_is (same mutability_at)) (λ x. refl)

pub global_back : (x : GlobalType ℕ) → AllByRecursion IsModuleIndex (global_refs (global_map packed_index x)) → global_map number_of (global_map packed_index x) ≡ x
global_back x h = ap (λ (t : ValType ℕ). record { value_type = t; mutable = x.mutable }) (val_back x.value_type h)

pub global_unread : (bytes : List ℕ) → packed_global_at bytes ≡ None → global_type_at bytes ≡ None
global_unread bytes e = item_unread _ _ _ global_is bytes e

pub global_read : (bytes : List ℕ) (v : GlobalType Index) (rest : List ℕ) → packed_global_at bytes ≡ Some (v, rest) → AllByRecursion IsModuleIndex (global_refs v) → global_type_at bytes ≡ Some (global_map number_of v, rest)
global_read bytes v rest e h = item_read _ _ _ (global_map number_of) (λ t. AllByRecursion IsModuleIndex (global_refs t)) global_is global_back bytes v rest e h

pub global_large : (bytes : List ℕ) (v : GlobalType Index) (rest : List ℕ) → packed_global_at bytes ≡ Some (v, rest) → ¬ (AllByRecursion IsModuleIndex (global_refs v)) → HasLargeIndex global_refs (global_type_at bytes)
global_large bytes v rest e h = item_large _ _ _ (λ t. AllByRecursion IsModuleIndex (global_refs t)) global_refs global_is (λ x not. val_large_in x.value_type not) bytes v rest e h

pub ruleset global_items = (global_unread, global_read, global_large)

-- ---- what is imported

pub external_is : Mapped packed_external external_type_at packed_external_at
unfolding external_type_at packed_external_at
external_is = by_first _ _ _
    (by_code _ 0x00 _ _ _ _ (by_view (λ n. n) _ _ packed_external _ _ (same (unsigned_at 32)) (λ x. refl))
    (by_code _ 0x01 _ _ _ _ (by_view (table_map packed_index) _ _ packed_external _ _ table_is (λ x. refl))
    (by_code _ 0x02 _ _ _ _ (by_view (λ limits. limits) _ _ packed_external _ _ (same limits_at) (λ x. refl))
    (by_code _ 0x03 _ _ _ _ (by_view (global_map packed_index) _ _ packed_external _ _ global_is (λ x. refl))
    (by_code _ 0x04 _ _ _ _ (by_view (λ n. n) _ _ packed_external _ _ (same tag_type_at) (λ x. refl)) (by_none packed_external))))))

pub external_back : (x : ExternalType ℕ) → AllByRecursion IsModuleIndex (packed_refs (packed_external x)) → external_map number_of (packed_external x) ≡ x
external_back (FuncExternal function) h = refl
external_back (TableExternal type) h = ap TableExternal (table_back type h)
external_back (MemoryExternal type) h = refl
external_back (GlobalExternal type) h = ap GlobalExternal (global_back type h)
external_back (TagExternal function) h = refl

pub external_large_in : (x : ExternalType ℕ) → ¬ (AllByRecursion IsModuleIndex (packed_refs (packed_external x))) → Any (λ n. packable ≤ n) (packed_refs x)
external_large_in (FuncExternal function) h = absurd (h tt)
external_large_in (TableExternal type) h = ref_large_in type.element_type h
external_large_in (MemoryExternal type) h = absurd (h tt)
external_large_in (GlobalExternal type) h = val_large_in type.value_type h
external_large_in (TagExternal function) h = absurd (h tt)

pub external_unread : (bytes : List ℕ) → packed_external_at bytes ≡ None → external_type_at bytes ≡ None
external_unread bytes e = item_unread _ _ _ external_is bytes e

pub external_read : (bytes : List ℕ) (v : ExternalType Index) (rest : List ℕ) → packed_external_at bytes ≡ Some (v, rest) → AllByRecursion IsModuleIndex (packed_refs v) → external_type_at bytes ≡ Some (external_map number_of v, rest)
external_read bytes v rest e h = item_read _ _ _ (external_map number_of) (λ t. AllByRecursion IsModuleIndex (packed_refs t)) external_is external_back bytes v rest e h

pub external_large : (bytes : List ℕ) (v : ExternalType Index) (rest : List ℕ) → packed_external_at bytes ≡ Some (v, rest) → ¬ (AllByRecursion IsModuleIndex (packed_refs v)) → HasLargeIndex packed_refs (external_type_at bytes)
external_large bytes v rest e h = item_large _ _ _ (λ t. AllByRecursion IsModuleIndex (packed_refs t)) packed_refs external_is external_large_in bytes v rest e h

pub ruleset external_items = (external_unread, external_read, external_large)
