-- What types by ids mean.
use Rattle.std.proofs.Common.{◌≡◌, ◌≤◌, ℕ, zero, suc, Bool, true, false, ◌&&◌, List, [], ◌∷◌, length, map, nat_lt, Option, Some, None, option_map, slice_get, IfSome, refl, sym, ap, subst, ◌∙◌, arith}
use Rattle.std.proofs.lemmas.Bool.Decides.{nat_tests}
use Rattle.std.specs.List.{AllByRecursion, flat_map}
use Rattle.std.specs.Option.{unwrap_or}
use Rattle.std.specs.Prelude.{is_some}
use Rattle.wasm_spec.specs.Constants.{RefNull}
use Rattle.wasm_spec.specs.Features.{Features}
use Rattle.wasm_spec.specs.Gates.{is_allowed}
use Rattle.wasm_spec.specs.Trees.{DefType, no_type, type_at, unrolled}
use Rattle.wasm_spec.specs.TypeReferences.{composite_map, heap_map, composite_refs, field_map, field_refs, storage_refs, sub_map, sub_refs, val_map, val_refs}
use Rattle.wasm_spec.specs.Types.{HeapType, ValType, I32, I64, F32, F64, V128, Ref, Abstract, Concrete, StorageType, I8, I16, Val, CompositeType, FuncComposite, StructComposite, ArrayComposite, ContComposite, SubType}
use Rattle.wasm_spec.proofs.MappedBack.{all_left, all_right}
use Rattle.wasm_validity.specs.ConstantTyping.{effect, fields_at, meant, provided, puts, unpacked}
use Rattle.wasm_validity.specs.Context.{Context}
use Rattle.wasm_validity.specs.DefinedTypes.{fields_in}
use Rattle.wasmparser_constants.specs.Operands.{meant_type}
use Rattle.wasmparser_constants.specs.Scopes.{field_values}
use Rattle.wasmparser_module_types.specs.ModuleTypes.{KnownTypes, stands_for}
use Rattle.wasmparser_module_types.specs.WithIds.{names_only}
use Rattle.wasmparser_types.specs.CompositeTypes.{struct_of}
use Rattle.wasmparser_types.specs.HeapTypes.{Packs}
use Rattle.wasmparser_types.specs.Index.{Index, number_of}
use Rattle.wasmparser_types.specs.ValTypes.{field_type, storage_type, unpacked_type, val_type}
use Rattle.wasmparser_types.specs.declared.val_type.FieldType.{FieldType}
use Rattle.wasmparser_types.specs.declared.val_type.ValType.{ValType as Packed}

within : {X : Type 0} (xs : List X) (i : ℕ) → is_some (slice_get xs i) ≡ nat_lt i (length xs)
within [] zero = refl
within [] (suc i) = grind (arith, nat_tests)
within (x ∷ xs) zero = grind (arith, nat_tests)
within (x ∷ xs) (suc i) = within xs i ∙ grind (arith, nat_tests)

-- a reference to the type that an index names
abbrev reference : Bool → Option DefType → Option (ValType DefType)
reference nullable found = option_map (λ defined. Ref nullable defined) (option_map (λ type. Concrete type) found)

some_reference : (nullable : Bool) (found : Option DefType) → is_some found ≡ true → Some (Ref nullable (Concrete (unwrap_or found no_type))) ≡ reference nullable found
some_reference nullable None is = absurd cc
some_reference nullable (Some type) is = refl

no_reference : (nullable : Bool) (found : Option DefType) → is_some found ≡ false → None ≡ reference nullable found
no_reference nullable None is = refl
no_reference nullable (Some type) is = absurd cc

module _ (known : KnownTypes) where
  abbrev found_as : Option Packed → Option (ValType DefType)
  found_as found = option_map (λ new. meant_type known (val_type new)) found

  pub meant_is : (cx : Context) (type : ValType ℕ) (found : Option Packed) → is_some found ≡ names_only cx.types type
      → IfSome found (λ new. val_map (stands_for known) (val_type new) ≡ val_map (type_at cx.types) type) → found_as found ≡ meant cx type
  meant_is cx I32 (Some new) n same = ap (λ t. Some t) same
  meant_is cx I64 (Some new) n same = ap (λ t. Some t) same
  meant_is cx F32 (Some new) n same = ap (λ t. Some t) same
  meant_is cx F64 (Some new) n same = ap (λ t. Some t) same
  meant_is cx V128 (Some new) n same = ap (λ t. Some t) same
  meant_is cx (Ref nullable (Abstract heap)) (Some new) n same = ap (λ t. Some t) same
  meant_is cx (Ref nullable (Concrete index)) (Some new) n same = ap (λ t. Some t) same ∙ some_reference nullable (slice_get cx.types index) (within cx.types index ∙ sym n)
  meant_is cx I32 None n same = absurd cc
  meant_is cx I64 None n same = absurd cc
  meant_is cx F32 None n same = absurd cc
  meant_is cx F64 None n same = absurd cc
  meant_is cx V128 None n same = absurd cc
  meant_is cx (Ref nullable (Abstract heap)) None n same = absurd cc
  meant_is cx (Ref nullable (Concrete index)) None n same = no_reference nullable (slice_get cx.types index) (within cx.types index ∙ sym n)

  -- ---- fields

  unpacked_meant : (type : StorageType Index) → meant_type known (unpacked_type type) ≡ unpacked (field_map (stands_for known) (record { element_type = type; mutable = false })).element_type
  unpacked_meant I8 = refl
  unpacked_meant I16 = refl
  unpacked_meant (Val type) = refl

  values_meant : (fields : List FieldType) → map (meant_type known) (field_values fields) ≡ map (λ field. unpacked field.element_type) (map (field_map (stands_for known)) (map field_type fields))
  values_meant [] = refl
  values_meant (field ∷ fields) = rw (unpacked_meant (storage_type field.element_type), values_meant fields) refl

  of_structure : (composite : CompositeType Index) (fields : List FieldType) → Some (map field_type fields) ≡ struct_of composite
      → Some (map (meant_type known) (field_values fields)) ≡ option_map (map (λ field. unpacked field.element_type)) (fields_in (composite_map (stands_for known) composite))
  of_structure (StructComposite found) fields is =
      let same : map field_type fields ≡ found = cc in
      subst (λ fs. Some (map (meant_type known) (field_values fields)) ≡ Some (map (λ field. unpacked field.element_type) (map (field_map (stands_for known)) fs))) same
      (ap (λ vs. Some vs) (values_meant fields))
  of_structure (FuncComposite function) fields is = absurd cc
  of_structure (ArrayComposite field) fields is = absurd cc
  of_structure (ContComposite function) fields is = absurd cc

  pub fields_are : (cx : Context) (index id : ℕ) (sub : SubType Index) (fields : List FieldType) → slice_get cx.types index ≡ Some (type_at known.interned id)
      → unrolled (type_at known.interned id) ≡ Some (sub_map (stands_for known) sub) → Some (map field_type fields) ≡ struct_of sub.composite_type
      → Some (map (meant_type known) (field_values fields)) ≡ fields_at cx index
  fields_are cx index id sub fields named unrolls is = rw (named, unrolls) (of_structure sub.composite_type fields is)

  -- what holds of all references of a structure holds of those of its fields
  pub field_ids : (P : Index → Type 0) (sub : SubType Index) (fields : List FieldType) → Some (map field_type fields) ≡ struct_of sub.composite_type → AllByRecursion P (sub_refs sub)
      → AllByRecursion (λ type. AllByRecursion P (val_refs type)) (field_values fields)
  field_ids P sub fields is all = of_kind sub.composite_type is (all_right P sub.supertypes (composite_refs sub.composite_type) all)
    where
      one : (type : StorageType Index) → AllByRecursion P (storage_refs type) → AllByRecursion P (val_refs (unpacked_type type))
      one I8 h = tt
      one I16 h = tt
      one (Val type) h = h

      each : (fs : List FieldType) → AllByRecursion P (flat_map field_refs (map field_type fs)) → AllByRecursion (λ type. AllByRecursion P (val_refs type)) (field_values fs)
      each [] h = tt
      each (f ∷ fs) h = (
        one (storage_type f.element_type) (all_left P (storage_refs (storage_type f.element_type)) (flat_map field_refs (map field_type fs)) h),
        each fs (all_right P (storage_refs (storage_type f.element_type)) (flat_map field_refs (map field_type fs)) h),
      )

      of_kind : (c : CompositeType Index) → Some (map field_type fields) ≡ struct_of c → AllByRecursion P (composite_refs c) → AllByRecursion (λ type. AllByRecursion P (val_refs type)) (field_values fields)
      of_kind (StructComposite found) e h =
          let same : map field_type fields ≡ found = cc in each fields (subst (λ fs. AllByRecursion P (flat_map field_refs fs)) (sym same) h)
      of_kind (FuncComposite function) e h = absurd cc
      of_kind (ArrayComposite field) e h = absurd cc
      of_kind (ContComposite function) e h = absurd cc

-- ---- null

-- a type whose index can't be packed is none of the module's
pub unpacked_null : (cx : Context) (heap : HeapType Index) → ¬ (Packs heap) → length cx.types ≤ 1000000 → None ≡ meant cx (Ref true (heap_map number_of heap))
unpacked_null cx (Abstract heap) large few = absurd (large tt)
unpacked_null cx (Concrete index) large few = past cx.types (number_of index) (omega (arith, few, large))
  where
    past : (types : List DefType) (i : ℕ) → length types ≤ i → None ≡ reference true (slice_get types i)
    past [] i le = refl
    past (t ∷ ts) zero le = absurd (omega (arith, le))
    past (t ∷ ts) (suc i) le = past ts i (omega (arith, le))

pub not_provided : {A : Type 0} (condition : Bool) (a : Option A) → None ≡ a → None ≡ provided condition a
not_provided true a none = none
not_provided false a none = refl

pub ruleset null_steps = (unpacked_null, not_provided)

twice_mapped : {A B C : Type 0} (f : A → B) (g : B → C) (found : Option A) → option_map (λ a. g (f a)) found ≡ option_map g (option_map f found)
twice_mapped f g None = refl
twice_mapped f g (Some a) = refl

puts_provided : (b named : Bool) (type : Option (ValType DefType)) → is_some type ≡ named → option_map puts (provided b type) ≡ provided (b && named) (option_map puts type)
puts_provided true true type e = refl
puts_provided true false None e = refl
puts_provided true false (Some t) e = absurd cc
puts_provided false named type e = refl

pub null_effect : (known : KnownTypes) (features : Features) (cx : Context) (heap : HeapType Index) (found : Option Packed)
    → found_as known found ≡ provided (is_allowed features (Ref true heap)) (meant cx (Ref true (heap_map number_of heap)))
    → option_map (λ ty. puts (meant_type known (val_type ty))) found ≡ effect features cx (RefNull (heap_map number_of heap))
null_effect known features cx heap found same = twice_mapped (λ ty. meant_type known (val_type ty)) puts found ∙ ap (option_map puts) same ∙ of_heap heap
  where
    named : (found : Option DefType) → is_some (reference true found) ≡ is_some found
    named None = refl
    named (Some type) = refl

    of_heap : (heap : HeapType Index) → option_map puts (provided (is_allowed features (Ref true heap)) (meant cx (Ref true (heap_map number_of heap)))) ≡ effect features cx (RefNull (heap_map number_of heap))
    of_heap (Abstract a) = puts_provided (is_allowed features (Ref true (heap_map number_of (Abstract a)))) true (Some (Ref true (Abstract a))) refl
    of_heap (Concrete index) =
        puts_provided (is_allowed features (Ref true (Concrete (number_of index)))) (nat_lt (number_of index) (length cx.types)) (reference true (slice_get cx.types (number_of index)))
        (named (slice_get cx.types (number_of index)) ∙ within cx.types (number_of index))
