-- What reads packed of an item's type, and what that says of the item.
use Rattle.std.proofs.Common.{◌≡◌, ℕ, Bool, true, false, List, [], ◌∷◌, Option, Some, None, refl, sym, ap, subst, ◌∙◌, ◌↔◌, IsTrue, inl, inr}
use Rattle.std.proofs.lemmas.Bool.{cases_lt, lt-ltb, le-ltb}
use Rattle.std.specs.List.{AllByRecursion}
use Rattle.wasm_core_read.specs.PartReading.{import_item_at}
use Rattle.wasm_core_read.specs.Reading.{◌>>=◌, seen_at, name_at}
use Rattle.wasm_core_read.specs.TypeReading.{external_type_at}
use Rattle.wasm_core_read.proofs.Forms.{some_is}
use Rattle.wasm_spec.specs.Syntax.{ImportItem}
use Rattle.wasm_spec.specs.Types.{HeapType, Abstract, Concrete, ValType, I32, I64, F32, F64, V128, Ref, ExternalType, FuncExternal, TableExternal, MemoryExternal, GlobalExternal, TagExternal}
use Rattle.wasm_spec.specs.TypeReferences.{heap_map, heap_refs, val_map, val_refs}
use Rattle.wasmparser_types.specs.Index.{Index, packable}
use Rattle.wasmparser_readers.specs.Answers.{HasLargeIndex}
use Rattle.wasmparser_readers.specs.ModuleIndexes.{IsModuleIndex}
use Rattle.wasmparser_readers.specs.PackedReading.{packed_index}
use Rattle.wasmparser_readers.proofs.MappedReading.{given}
use Rattle.wasmparser_readers.specs.ItemTypes.{packed_refs}
use Rattle.wasmparser_readers.specs.PackedItems.{packed_external, packed_external_at}
use Rattle.wasmparser_readers.proofs.PackedItemLaws.{external_is, external_unread}
use Rattle.wasmparser_entries.specs.ImportItems.{are_packable}

abbrev named : List ℕ × ExternalType ℕ → List ℕ → Option (ImportItem × List ℕ)
named x rest = Some (record { name = x.0; type = x.1 }, rest)

-- a name, and what is read after it
abbrev after_name : List ℕ → ExternalType ℕ → List ℕ → Option ((List ℕ × ExternalType ℕ) × List ℕ)
after_name name type rest = Some ((name, type), rest)

pub unread_type : (bytes name mid : List ℕ) → name_at bytes ≡ Some (name, mid) → packed_external_at mid ≡ None → import_item_at bytes ≡ None
unfolding import_item_at
unread_type bytes name mid e f = rw (e, external_unread mid f) refl

-- an index that is too large, in an item whose type has it
pub large_item : (bytes name mid : List ℕ) → name_at bytes ≡ Some (name, mid) → HasLargeIndex packed_refs (external_type_at mid) → HasLargeIndex (λ item. packed_refs item.type) (import_item_at bytes)
unfolding import_item_at
large_item bytes name mid e large = rw e (by_read (external_type_at mid) large)
  where
    by_read : (read : Option (ExternalType ℕ × List ℕ)) → HasLargeIndex packed_refs read → HasLargeIndex (λ item. packed_refs item.type) ((read >>= λ t. after_name name t.0 t.1) >>= λ x. named x.0 x.1)
    by_read None h = absurd h
    by_read (Some t) h = h

-- ---- whether the indexes of an item can be packed

-- the answer of a test
is_answer : (b c : Bool) → (IsTrue b ↔ IsTrue c) → b ≡ c
is_answer true true h = refl
is_answer true false h = let said : false ≡ true = h.0 refl in absurd cc
is_answer false true h = let said : false ≡ true = h.1 refl in absurd cc
is_answer false false h = refl

one_packable : (n : ℕ) → (AllByRecursion IsModuleIndex (packed_index n ∷ []) → are_packable (n ∷ []) ≡ true) × (are_packable (n ∷ []) ≡ true → AllByRecursion IsModuleIndex (packed_index n ∷ []))
one_packable n =
    elim (cases_lt n packable) [
      | inl lt ↦ let t = lt-ltb n packable lt in (rw t (λ h. refl), rw t (λ e. (tt, tt)))
      | inr le ↦ let t = le-ltb n packable le in (rw t (λ h. absurd h.0), rw t (λ e. let said : false ≡ true = e in absurd cc))
    ]

heap_packable : (heap : HeapType ℕ) → (AllByRecursion IsModuleIndex (heap_refs (heap_map packed_index heap)) → are_packable (heap_refs heap) ≡ true) × (are_packable (heap_refs heap) ≡ true → AllByRecursion IsModuleIndex (heap_refs (heap_map packed_index heap)))
heap_packable (Abstract heap) = (λ h. refl, λ e. tt)
heap_packable (Concrete n) = one_packable n

val_packable : (type : ValType ℕ) → (AllByRecursion IsModuleIndex (val_refs (val_map packed_index type)) → are_packable (val_refs type) ≡ true) × (are_packable (val_refs type) ≡ true → AllByRecursion IsModuleIndex (val_refs (val_map packed_index type)))
val_packable I32 = (λ h. refl, λ e. tt)
val_packable I64 = (λ h. refl, λ e. tt)
val_packable F32 = (λ h. refl, λ e. tt)
val_packable F64 = (λ h. refl, λ e. tt)
val_packable V128 = (λ h. refl, λ e. tt)
val_packable (Ref nullable heap) = heap_packable heap

external_packable : (type : ExternalType ℕ) → (AllByRecursion IsModuleIndex (packed_refs (packed_external type)) → are_packable (packed_refs type) ≡ true)
    × (are_packable (packed_refs type) ≡ true → AllByRecursion IsModuleIndex (packed_refs (packed_external type)))
external_packable (FuncExternal function) = (λ h. refl, λ e. tt)
external_packable (TableExternal type) = heap_packable type.element_type.heap_type
external_packable (MemoryExternal type) = (λ h. refl, λ e. tt)
external_packable (GlobalExternal type) = val_packable type.value_type
external_packable (TagExternal function) = (λ h. refl, λ e. tt)

pub unread_item : (bytes name mid : List ℕ) → name_at bytes ≡ Some (name, mid) → packed_external_at mid ≡ None → seen_at (λ item. are_packable (packed_refs item.type)) import_item_at bytes ≡ None
unfolding import_item_at
unread_item bytes name mid named e = rw (named, external_unread mid e) refl

pub checked_item : (bytes name mid : List ℕ) (v : ExternalType Index) (rest : List ℕ) (b : Bool) → name_at bytes ≡ Some (name, mid) → packed_external_at mid ≡ Some (v, rest) → (IsTrue b ↔ AllByRecursion IsModuleIndex (packed_refs v))
    → seen_at (λ item. are_packable (packed_refs item.type)) import_item_at bytes ≡ Some (b, rest)
unfolding import_item_at
checked_item bytes name mid v rest b e f told = rw e (by_read (external_type_at mid) (sym (external_is mid) ∙ f))
  where
    by_read : (read : Option (ExternalType ℕ × List ℕ)) → (read >>= λ t. given (packed_external t.0) t.1) ≡ given v rest
        → (((read >>= λ t. after_name name t.0 t.1) >>= λ x. named x.0 x.1) >>= λ item. given (are_packable (packed_refs item.0.type)) item.1) ≡ given b rest
    by_read None h = absurd cc
    by_read (Some t) h =
        let p = some_is (packed_external t.0, t.1) (v, rest) h in
        let is : packed_external t.0 ≡ v = ap (λ (q : ExternalType Index × List ℕ). q.0) p in
        let law = external_packable t.0 in
        let same : are_packable (packed_refs t.0) ≡ b =
        is_answer _ b (
          λ yes. told.1 (subst (λ (w : ExternalType Index). AllByRecursion IsModuleIndex (packed_refs w)) is (law.1 yes)),
          λ yes. law.0 (subst (λ (w : ExternalType Index). AllByRecursion IsModuleIndex (packed_refs w)) (sym is) (told.0 yes)),
        ) in
        ap (λ (c : Bool). given c t.1) same ∙ ap (λ (q : ExternalType Index × List ℕ). given b q.1) p
