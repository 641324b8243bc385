-- Gates don't ask which types are referred to.
use Rattle.std.proofs.Common.{◌≡◌, Bool, ◌&&◌, ◌||◌, nat_eq, List, [], ◌∷◌, length, map, refl, ap, ◌∙◌}
use Rattle.std.proofs.lemmas.List.{length-map}
use Rattle.std.specs.List.{list_all}
use Rattle.wasm_spec.specs.Features.{Features, Gc, GcTypes, ReferenceTypes, has}
use Rattle.wasm_spec.specs.Gates.{is_allowed, is_allowed_composite, is_allowed_func, is_allowed_group, is_allowed_heap, is_allowed_storage, is_allowed_sub}
use Rattle.wasm_spec.specs.TypeReferences.{composite_map, field_map, func_map, group_map, heap_map, storage_map, sub_map, val_map}
use Rattle.wasm_spec.specs.Types.{ArrayComposite, Abstract, CompositeType, Concrete, ContComposite, F32, F64, FieldType, FuncComposite, FuncType, Group, HeapType, I16, I32, I64, I8, RecGroup, Ref, Single, StorageType, StructComposite, SubType, V128, Val, ValType}

all_same : {X Y : Type 0} (f : X → Y) (p : Y → Bool) (q : X → Bool) → ((x : X) → p (f x) ≡ q x) → (xs : List X) → list_all p (map f xs) ≡ list_all q xs
all_same f p q one [] = refl
all_same f p q one (x ∷ xs) = ap (λ b. b && list_all p (map f xs)) (one x) ∙ ap (λ b. q x && b) (all_same f p q one xs)

module _ {R S : Type 0} (f : R → S) (features : Features) where
  heap : (nullable : Bool) (x : HeapType R) → is_allowed_heap features nullable (heap_map f x) ≡ is_allowed_heap features nullable x
  heap nullable (Abstract a) = refl
  heap nullable (Concrete r) = refl

  val : (x : ValType R) → is_allowed features (val_map f x) ≡ is_allowed features x
  val I32 = refl
  val I64 = refl
  val F32 = refl
  val F64 = refl
  val V128 = refl
  val (Ref nullable x) = ap (λ b. has features ReferenceTypes && b) (heap nullable x)

  storage : (x : StorageType R) → is_allowed_storage features (storage_map f x) ≡ is_allowed_storage features x
  storage I8 = refl
  storage I16 = refl
  storage (Val x) = val x

  func : (x : FuncType R) → is_allowed_func features (func_map f x) ≡ is_allowed_func features x
  func x =
      let params = all_same (val_map f) (is_allowed features) (is_allowed features) val x.params in
      let results = all_same (val_map f) (is_allowed features) (is_allowed features) val x.results in
      rw (params, results, length-map x.results (val_map f)) refl

  composite : (x : CompositeType R) → is_allowed_composite features (composite_map f x) ≡ is_allowed_composite features x
  composite (FuncComposite x) = func x
  composite (StructComposite xs) =
      ap (λ b. has features Gc && has features GcTypes && b)
      (all_same (field_map f) (λ (y : FieldType S). is_allowed_storage features y.element_type) (λ (y : FieldType R). is_allowed_storage features y.element_type) (λ y. storage y.element_type) xs)
  composite (ArrayComposite x) = ap (λ b. has features Gc && has features GcTypes && b) (storage x.element_type)
  composite (ContComposite r) = refl

  sub : (x : SubType R) → is_allowed_sub features (sub_map f x) ≡ is_allowed_sub features x
  sub x =
      ap (λ n. (x.is_final && nat_eq n 0 || has features Gc) && is_allowed_composite features (composite_map f x.composite_type)) (length-map x.supertypes f)
      ∙ ap (λ b. (x.is_final && nat_eq (length x.supertypes) 0 || has features Gc) && b) (composite x.composite_type)

  pub same_gate : (x : RecGroup R) → is_allowed_group features (group_map f x) ≡ is_allowed_group features x
  same_gate (Single x) = sub x
  same_gate (Group xs) = ap (λ b. has features Gc && b) (all_same (sub_map f) (is_allowed_sub features) (is_allowed_sub features) sub xs)
