-- Codes of types, over any kind of references that has a code, by which equal types are found.
use Rattle.std.specs.Prelude.{◌≡◌, ◌⊎◌, ℕ, Bool, List, [], ◌∷◌, get_or, refl}
use mathlib.Core.Logic.{inl, inr}
use Rattle.std.specs.Coded.{Coded, code_by, coded×, coded⊎, coded_ℕ, coded_bool, coded_list}
use Rattle.wasm_spec.specs.Types.{AbstractHeapType, Func, Extern, Any, None, NoExtern, NoFunc, Eq, Struct, Array, I31, Exn, NoExn, Cont, NoCont, HeapType, Abstract, Concrete, ValType, I32, I64, F32, F64, V128, Ref, StorageType, I8, I16, Val, FieldType, FuncType, CompositeType, FuncComposite, StructComposite, ArrayComposite, ContComposite, SubType}

-- ---- abstract heap types, as their places in a list

abbrev heaps : List AbstractHeapType
heaps = Func ∷ Extern ∷ Any ∷ None ∷ NoExtern ∷ NoFunc ∷ Eq ∷ Struct ∷ Array ∷ I31 ∷ Exn ∷ NoExn ∷ Cont ∷ NoCont ∷ []

abbrev heap_number : AbstractHeapType → ℕ
heap_number Func = 0
heap_number Extern = 1
heap_number Any = 2
heap_number None = 3
heap_number NoExtern = 4
heap_number NoFunc = 5
heap_number Eq = 6
heap_number Struct = 7
heap_number Array = 8
heap_number I31 = 9
heap_number Exn = 10
heap_number NoExn = 11
heap_number Cont = 12
heap_number NoCont = 13

abbrev heap_numbered : ℕ → AbstractHeapType
heap_numbered n = get_or heaps n Func

pub heap_numbered-heap_number : (heap : AbstractHeapType) → heap_numbered (heap_number heap) ≡ heap
heap_numbered-heap_number Func = refl
heap_numbered-heap_number Extern = refl
heap_numbered-heap_number Any = refl
heap_numbered-heap_number None = refl
heap_numbered-heap_number NoExtern = refl
heap_numbered-heap_number NoFunc = refl
heap_numbered-heap_number Eq = refl
heap_numbered-heap_number Struct = refl
heap_numbered-heap_number Array = refl
heap_numbered-heap_number I31 = refl
heap_numbered-heap_number Exn = refl
heap_numbered-heap_number NoExn = refl
heap_numbered-heap_number Cont = refl
heap_numbered-heap_number NoCont = refl

abbrev pub abstract_code : Coded AbstractHeapType
abstract_code = code_by ℕ coded_ℕ heap_number heap_numbered heap_numbered-heap_number

-- ---- types with references

module _ {R : Type 0} (references : Coded R) where
  abbrev heap_parts : HeapType R → AbstractHeapType ⊎ R
  heap_parts (Abstract heap) = inl heap
  heap_parts (Concrete r) = inr r

  abbrev heap_of : AbstractHeapType ⊎ R → HeapType R
  heap_of (inl heap) = Abstract heap
  heap_of (inr r) = Concrete r

  pub heap_back : (type : HeapType R) → heap_of (heap_parts type) ≡ type
  heap_back (Abstract heap) = refl
  heap_back (Concrete r) = refl

  abbrev pub heap_code : Coded (HeapType R)
  heap_code = code_by (AbstractHeapType ⊎ R) (coded⊎ abstract_code references) heap_parts heap_of heap_back

  abbrev val_parts : ValType R → ℕ ⊎ (Bool × HeapType R)
  val_parts I32 = inl 0
  val_parts I64 = inl 1
  val_parts F32 = inl 2
  val_parts F64 = inl 3
  val_parts V128 = inl 4
  val_parts (Ref nullable heap) = inr (nullable, heap)

  abbrev val_of : ℕ ⊎ (Bool × HeapType R) → ValType R
  val_of (inl n) = get_or (I32 ∷ I64 ∷ F32 ∷ F64 ∷ V128 ∷ []) n I32
  val_of (inr reference) = Ref reference.0 reference.1

  pub val_back : (type : ValType R) → val_of (val_parts type) ≡ type
  val_back I32 = refl
  val_back I64 = refl
  val_back F32 = refl
  val_back F64 = refl
  val_back V128 = refl
  val_back (Ref nullable heap) = refl

  abbrev pub val_code : Coded (ValType R)
  val_code = code_by (ℕ ⊎ (Bool × HeapType R)) (coded⊎ coded_ℕ (coded× coded_bool heap_code)) val_parts val_of val_back

  abbrev storage_parts : StorageType R → ℕ ⊎ ValType R
  storage_parts I8 = inl 0
  storage_parts I16 = inl 1
  storage_parts (Val type) = inr type

  abbrev storage_of : ℕ ⊎ ValType R → StorageType R
  storage_of (inl n) = get_or (I8 ∷ I16 ∷ []) n I8
  storage_of (inr type) = Val type

  pub storage_back : (type : StorageType R) → storage_of (storage_parts type) ≡ type
  storage_back I8 = refl
  storage_back I16 = refl
  storage_back (Val type) = refl

  abbrev pub storage_code : Coded (StorageType R)
  storage_code = code_by (ℕ ⊎ ValType R) (coded⊎ coded_ℕ val_code) storage_parts storage_of storage_back

  abbrev pub field_code : Coded (FieldType R)
  field_code =
      code_by (StorageType R × Bool) (coded× storage_code coded_bool)
      (λ field. (field.element_type, field.mutable)) (λ p. record { element_type = p.0; mutable = p.1 }) (λ _. refl)

  abbrev pub func_code : Coded (FuncType R)
  func_code =
      code_by (List (ValType R) × List (ValType R)) (coded× (coded_list val_code) (coded_list val_code))
      (λ type. (type.params, type.results)) (λ p. record { params = p.0; results = p.1 }) (λ _. refl)

  abbrev composite_parts : CompositeType R → FuncType R ⊎ (List (FieldType R) ⊎ (FieldType R ⊎ R))
  composite_parts (FuncComposite type) = inl type
  composite_parts (StructComposite fields) = inr (inl fields)
  composite_parts (ArrayComposite field) = inr (inr (inl field))
  composite_parts (ContComposite function) = inr (inr (inr function))

  abbrev composite_of : FuncType R ⊎ (List (FieldType R) ⊎ (FieldType R ⊎ R)) → CompositeType R
  composite_of (inl type) = FuncComposite type
  composite_of (inr (inl fields)) = StructComposite fields
  composite_of (inr (inr (inl field))) = ArrayComposite field
  composite_of (inr (inr (inr function))) = ContComposite function

  pub composite_back : (type : CompositeType R) → composite_of (composite_parts type) ≡ type
  composite_back (FuncComposite type) = refl
  composite_back (StructComposite fields) = refl
  composite_back (ArrayComposite field) = refl
  composite_back (ContComposite function) = refl

  abbrev pub composite_code : Coded (CompositeType R)
  composite_code =
      code_by (FuncType R ⊎ (List (FieldType R) ⊎ (FieldType R ⊎ R))) (coded⊎ func_code (coded⊎ (coded_list field_code) (coded⊎ field_code references)))
      composite_parts composite_of composite_back

  abbrev pub sub_code : Coded (SubType R)
  sub_code =
      code_by (Bool × (List R × CompositeType R)) (coded× coded_bool (coded× (coded_list references) composite_code))
      (λ type. (type.is_final, (type.supertypes, type.composite_type))) (λ p. record { is_final = p.0; supertypes = p.1.0; composite_type = p.1.1 }) (λ _. refl)
