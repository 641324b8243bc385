-- What operators want of their operands names types of the module.
use Rattle.std.proofs.Common.{◌≡◌, ℕ, ◌<◌, Bool, true, List, [], ◌∷◌, map, length, Some, refl, ap, sym, ◌∙◌, subst, arith, slice_get}
use Rattle.std.proofs.lemmas.Bool.Decides.{nat_tests}
use Rattle.std.specs.List.{AllByRecursion, flat_map}
use Rattle.std.specs.Option.{IfSome, option_map}
use Rattle.wasm_bodies.specs.BodyContext.{ModuleItems, meant, reference_at, unpacked, written}
use Rattle.wasm_bodies.specs.OperatorRows.{NumberType, Int32, Int64, Float32, Float64, value_type}
use Rattle.wasm_bodies_laws.proofs.HeldOptions.{held, held_at, held_map, held_provided}
use Rattle.wasm_bodies_laws.specs.References.{AreAllWanted, AreWanted, TakesAndGives, WantedBy}
use Rattle.wasm_spec.proofs.MappedBack.{all_left, all_right}
use Rattle.wasm_spec.specs.Features.{Features}
use Rattle.wasm_spec.specs.Gates.{is_allowed}
use Rattle.wasm_spec.specs.Syntax.{Section, types_of}
use Rattle.wasm_spec.specs.Trees.{DefType}
use Rattle.wasm_spec.specs.TypeReferences.{field_refs, func_refs, heap_refs, storage_refs, val_refs}
use Rattle.wasm_spec.specs.Types.{HeapType, Abstract, Concrete, ValType, I32, I64, F32, F64, V128, Ref, StorageType, I8, I16, Val, FieldType, FuncType, SubType}
use Rattle.wasm_validity.specs.ModuleBodies.{Below, func_type_in, items_in, named_from}
use Rattle.wasm_validity_laws.proofs.WrittenItems.{array_refs, function_by_index, function_refs, reference_within, structure_refs}
use Rattle.wasm_validity_laws.proofs.WrittenTypes.{section_written, stands, written_in_range}
use Rattle.wasm_validity_laws.specs.Written.{IsInRange, is_heap_below, is_named, written_in}
use Rattle.wasm_validity.specs.Context.{Context, after_all, at_first}
use Rattle.wasm_validity.specs.Entries.{Entry, entries_of}
use Rattle.wasm_validity.specs.IndexSpaces.{spaces_in}
use Rattle.wasm_validity.specs.Rules.{KeepRules}
use Rattle.wasm_validity.specs.Validity.{context_of}
use Rattle.wasm_validity_laws.proofs.NamedTypes.{types_named}
use Rattle.wasm_validity_laws.specs.NamedTypes.{NamesTypes, names_heap, names_value}

-- ---- types whose references are in range

module _ (n : ℕ) where
  heap_named : (heap : HeapType ℕ) → AllByRecursion (λ index. index < n) (heap_refs heap) → is_heap_below n heap ≡ true
  heap_named (Abstract heap) all = refl
  heap_named (Concrete index) all = let below = all.0 in grind (arith, nat_tests)

  value_named : (type : ValType ℕ) → AllByRecursion (λ index. index < n) (val_refs type) → is_named n type ≡ true
  value_named I32 all = refl
  value_named I64 all = refl
  value_named F32 all = refl
  value_named F64 all = refl
  value_named V128 all = refl
  value_named (Ref nullable heap) all = heap_named heap all

  values_named : (types : List (ValType ℕ)) → AllByRecursion (λ index. index < n) (flat_map val_refs types) → AreAllWanted (WantedBy (is_named n)) types
  values_named [] all = tt
  values_named (type ∷ types) all = (
    value_named type (all_left (λ index. index < n) (val_refs type) (flat_map val_refs types) all),
    values_named types (all_right (λ index. index < n) (val_refs type) (flat_map val_refs types) all),
  )

  pub function_named : (type : FuncType ℕ) → AllByRecursion (λ index. index < n) (func_refs type) → TakesAndGives (WantedBy (is_named n)) type
  function_named type all = (
    values_named type.params (all_left (λ index. index < n) (flat_map val_refs type.params) (flat_map val_refs type.results) all),
    values_named type.results (all_right (λ index. index < n) (flat_map val_refs type.params) (flat_map val_refs type.results) all),
  )

  storage_named : (storage : StorageType ℕ) (mutable : Bool) → AllByRecursion (λ index. index < n) (storage_refs storage) → is_named n (unpacked (record { element_type = storage; mutable = mutable })) ≡ true
  storage_named I8 mutable all = refl
  storage_named I16 mutable all = refl
  storage_named (Val type) mutable all = value_named type all

  field_named : (field : FieldType ℕ) → AllByRecursion (λ index. index < n) (field_refs field) → is_named n (unpacked field) ≡ true
  field_named field all = storage_named field.element_type field.mutable all

  fields_named : (fields : List (FieldType ℕ)) → AllByRecursion (λ index. index < n) (flat_map field_refs fields) → AreAllWanted (WantedBy (is_named n)) (map unpacked fields)
  fields_named [] all = tt
  fields_named (field ∷ fields) all = (
    field_named field (all_left (λ index. index < n) (field_refs field) (flat_map field_refs fields) all),
    fields_named fields (all_right (λ index. index < n) (field_refs field) (flat_map field_refs fields) all),
  )

  number_named : (type : NumberType) → is_named n (value_type type) ≡ true
  number_named Int32 = refl
  number_named Int64 = refl
  number_named Float32 = refl
  number_named Float64 = refl

-- types of items, as `NamedTypes` says it
same_heap : (types : List DefType) (heap : HeapType ℕ) → names_heap types heap ≡ true → is_heap_below (length types) heap ≡ true
same_heap types (Abstract heap) e = refl
same_heap types (Concrete index) e = e

same_value : (types : List DefType) (type : ValType ℕ) → names_value types type ≡ true → is_named (length types) type ≡ true
same_value types I32 e = refl
same_value types I64 e = refl
same_value types F32 e = refl
same_value types F64 e = refl
same_value types V128 e = refl
same_value types (Ref nullable heap) e = same_heap types heap e

-- ---- items

module _ (types : List (SubType ℕ)) (cx : Context) (is_below : Below) (as_many : length cx.types ≡ length types)
    (in_range : (index : ℕ) (type : SubType ℕ) → slice_get types index ≡ Some type → IsInRange (length cx.types) type) (names : NamesTypes (spaces_in cx)) where
  abbrev items : ModuleItems ℕ
  items = items_in types cx is_below

  abbrev Named : ValType ℕ → Type 0
  Named = WantedBy (is_named (length cx.types))

  index_named : (nullable : Bool) (index : ℕ) → IfSome (option_map (λ named. Ref nullable (Concrete named.reference)) (slice_get (named_from 0 types) index)) Named
  index_named nullable index =
      held_map (λ named. named.reference < length cx.types) Named (λ named. Ref nullable (Concrete named.reference)) (λ named below. let here : named.reference < length cx.types = below in grind (arith, nat_tests)) (slice_get (named_from 0 types) index)
      (held (λ named. named.reference < length cx.types) (slice_get (named_from 0 types) index) (λ named at. omega (arith, reference_within types index named at, as_many)))

  meant_named : (type : ValType ℕ) → IfSome (meant items type) Named
  meant_named I32 = refl
  meant_named I64 = refl
  meant_named F32 = refl
  meant_named F64 = refl
  meant_named V128 = refl
  meant_named (Ref nullable (Abstract heap)) = refl
  meant_named (Ref nullable (Concrete index)) =
      held_map (λ heap. is_heap_below (length cx.types) heap ≡ true) Named (λ heap. Ref nullable heap) (λ heap e. e) (option_map (λ named. Concrete named.reference) (slice_get (named_from 0 types) index))
      (held_map (λ named. named.reference < length cx.types) (λ heap. is_heap_below (length cx.types) heap ≡ true) (λ named. Concrete named.reference) (λ named below. let here : named.reference < length cx.types = below in grind (arith, nat_tests)) (slice_get (named_from 0 types) index)
      (held (λ named. named.reference < length cx.types) (slice_get (named_from 0 types) index) (λ named at. omega (arith, reference_within types index named at, as_many))))

  written_named : (features : Features) (type : ValType ℕ) → IfSome (written features items type) Named
  written_named features type = held_provided Named (is_allowed features type) (meant items type) (λ allowed. meant_named type)

  functions_named : (index : ℕ) (type : FuncType ℕ) → func_type_in types index ≡ Some type → TakesAndGives Named type
  functions_named index type e = function_named (length cx.types) type (function_refs (λ i. i < length cx.types) types in_range index type e)

  all_named : (features : Features) → AreWanted Named features items
  all_named features = record {
    numbers = number_named (length cx.types);
    abstract_references = λ heap. refl;
    written = λ type stands_for e. held_at Named (written features items type) stands_for (written_named features type) e;
    functions = λ index type e. functions_named index type (sym (function_by_index types cx is_below index) ∙ e);
    globals = λ index type e mutable. same_value cx.types type.value_type (names.globals index type e);
    tables = λ index type e. same_heap cx.types type.element_type.heap_type (names.tables index type e);
    references = λ on index type e. held_at Named (reference_at items true index) type (index_named true index) e;
    nullable = λ on nullable heap one. one;
    fields = λ on index fields e. fields_named (length cx.types) fields (structure_refs (λ i. i < length cx.types) types in_range index fields e);
    elements = λ on index field e. field_named (length cx.types) field (array_refs (λ i. i < length cx.types) types in_range index field e);
  }

-- ---- entries that keep the rules

pub entries_named : (features : Features) (entries : List Entry) (is_below : Below) → KeepRules features at_first entries
    → AreWanted (WantedBy (is_named (length (after_all at_first entries).types))) features (items_in (written_in entries) (after_all at_first entries) is_below)
entries_named features entries is_below keep =
    all_named (written_in entries) (after_all at_first entries) is_below (stands features entries keep).lengths (λ index type at. written_in_range features entries index type keep at) (types_named features entries keep) features

pub entry_functions_named : (features : Features) (entries : List Entry) (index : ℕ) (type : FuncType ℕ) → KeepRules features at_first entries → func_type_in (written_in entries) index ≡ Some type
    → TakesAndGives (WantedBy (is_named (length (after_all at_first entries).types))) type
entry_functions_named features entries index type keep e =
    function_named (length (after_all at_first entries).types) type
    (function_refs (λ i. i < length (after_all at_first entries).types) (written_in entries) (λ index type at. written_in_range features entries index type keep at) index type e)

pub sections_named : (features : Features) (sections : List Section) (is_below : Below) → KeepRules features at_first (entries_of sections)
    → AreWanted (WantedBy (is_named (length (context_of sections).types))) features (items_in (types_of sections) (context_of sections) is_below)
sections_named features sections is_below keep =
    subst (λ (types : List (SubType ℕ)). AreWanted (WantedBy (is_named (length (context_of sections).types))) features (items_in types (context_of sections) is_below)) (sym (section_written sections))
    (entries_named features (entries_of sections) is_below keep)

pub section_functions_named : (features : Features) (sections : List Section) (index : ℕ) (type : FuncType ℕ) → KeepRules features at_first (entries_of sections)
    → func_type_in (types_of sections) index ≡ Some type → TakesAndGives (WantedBy (is_named (length (context_of sections).types))) type
section_functions_named features sections index type keep e =
    entry_functions_named features (entries_of sections) index type keep (ap (λ (types : List (SubType ℕ)). func_type_in types index) (sym (section_written sections)) ∙ e)
