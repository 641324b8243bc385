-- The items of a module, where the map changes no reference.
use Rattle.std.proofs.Common.{◌≡◌, List, [], ◌∷◌, map, refl, ap}
use Rattle.wasm_bodies.specs.BodyContext.{NamedType, ModuleItems}
use Rattle.wasm_bodies_laws.specs.References.{named_map, items_map}
use Rattle.wasm_spec.specs.TypeReferences.{heap_map, ref_map, val_map, storage_map, field_map, composite_map, table_map, global_map}
use Rattle.wasm_spec.specs.Types.{HeapType, Abstract, Concrete, RefType, ValType, I32, I64, F32, F64, V128, Ref, StorageType, I8, I16, Val, FieldType, CompositeType, FuncComposite, StructComposite, ArrayComposite, ContComposite, TableType, GlobalType}

all_unchanged : {A : Type 0} (k : A → A) → ((a : A) → k a ≡ a) → (xs : List A) → map k xs ≡ xs
all_unchanged k same [] = refl
all_unchanged k same (x ∷ xs) = rw (same x, all_unchanged k same xs)

module _ {R : Type 0} where
  heap_unchanged : (heap : HeapType R) → heap_map (λ r. r) heap ≡ heap
  heap_unchanged (Abstract heap) = refl
  heap_unchanged (Concrete r) = refl

  val_unchanged : (type : ValType R) → val_map (λ r. r) type ≡ type
  val_unchanged I32 = refl
  val_unchanged I64 = refl
  val_unchanged F32 = refl
  val_unchanged F64 = refl
  val_unchanged V128 = refl
  val_unchanged (Ref nullable heap) = ap (Ref nullable) (heap_unchanged heap)

  storage_unchanged : (storage : StorageType R) → storage_map (λ r. r) storage ≡ storage
  storage_unchanged I8 = refl
  storage_unchanged I16 = refl
  storage_unchanged (Val type) = ap (λ t. Val t) (val_unchanged type)

  field_unchanged : (field : FieldType R) → field_map (λ r. r) field ≡ field
  field_unchanged field = ap (λ storage. record { element_type = storage; mutable = field.mutable }) (storage_unchanged field.element_type)

  composite_unchanged : (composite : CompositeType R) → composite_map (λ r. r) composite ≡ composite
  composite_unchanged (FuncComposite type) =
      rw (all_unchanged (val_map (λ r. r)) val_unchanged type.params, all_unchanged (val_map (λ r. r)) val_unchanged type.results)
  composite_unchanged (StructComposite fields) = ap (λ fs. StructComposite fs) (all_unchanged (field_map (λ r. r)) field_unchanged fields)
  composite_unchanged (ArrayComposite field) = ap (λ f. ArrayComposite f) (field_unchanged field)
  composite_unchanged (ContComposite function) = refl

  ref_unchanged : (type : RefType R) → ref_map (λ r. r) type ≡ type
  ref_unchanged type = ap (λ heap. record { nullable = type.nullable; heap_type = heap }) (heap_unchanged type.heap_type)

  named_unchanged : (named : NamedType R) → named_map (λ r. r) named ≡ named
  named_unchanged named = ap (λ composite. record { reference = named.reference; composite = composite }) (composite_unchanged named.composite)

  table_unchanged : (type : TableType R) → table_map (λ r. r) type ≡ type
  table_unchanged type = ap (λ element. record { element_type = element; limits = type.limits }) (ref_unchanged type.element_type)

  global_unchanged : (type : GlobalType R) → global_map (λ r. r) type ≡ type
  global_unchanged type = ap (λ value. record { value_type = value; mutable = type.mutable }) (val_unchanged type.value_type)

  pub items_unchanged : (items : ModuleItems R) → items_map (λ r. r) items items.is_below ≡ items
  items_unchanged items =
      rw (all_unchanged (named_map (λ r. r)) named_unchanged items.types, all_unchanged (table_map (λ r. r)) table_unchanged items.tables, all_unchanged (global_map (λ r. r)) global_unchanged items.globals, all_unchanged (ref_map (λ r. r)) ref_unchanged items.elements)
