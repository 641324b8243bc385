-- Types that name only the first types, for fewer and for more of them.
use Rattle.std.proofs.Common.{◌≡◌, ℕ, ◌≤◌, ◌<◌, Bool, true, List, [], ◌∷◌, ◌++◌, refl, arith}
use Rattle.std.specs.List.{AllByRecursion, flat_map, list_all}
use Rattle.std.proofs.lemmas.Bool.{and_from, and_parts, lt-ltb, ltb-true}
use Rattle.wasm_spec.specs.TypeReferences.{heap_refs, val_refs, storage_refs, field_refs, composite_refs}
use Rattle.wasm_spec.specs.Types.{HeapType, Abstract, Concrete, ValType, I32, I64, F32, F64, V128, Ref, StorageType, I8, I16, Val, FieldType, CompositeType, FuncComposite, StructComposite, ArrayComposite, ContComposite}
use Rattle.wasm_smith_shapes.specs.Forms.{may_refer, may_hold, may_store, may_be_made_of}

-- ---- lists

pub all_wider : {X : Type 0} (f g : X → Bool) → ((x : X) → f x ≡ true → g x ≡ true) → (xs : List X) → list_all f xs ≡ true → list_all g xs ≡ true
all_wider f g h [] all = refl
all_wider f g h (x ∷ xs) all =
    let parts = and_parts (f x) (list_all f xs) all in
    and_from (g x) (list_all g xs) (h x parts.0) (all_wider f g h xs parts.1)

pub append_all : {A : Type 0} (P : A → Type 0) (xs ys : List A) → AllByRecursion P xs → AllByRecursion P ys → AllByRecursion P (xs ++ ys)
append_all P [] ys p q = q
append_all P (x ∷ xs) ys p q = (p.0, append_all P xs ys p.1 q)

pub first_all : {A : Type 0} (P : A → Type 0) (xs ys : List A) → AllByRecursion P (xs ++ ys) → AllByRecursion P xs
first_all P [] ys p = tt
first_all P (x ∷ xs) ys p = (p.0, first_all P xs ys p.1)

pub last_all : {A : Type 0} (P : A → Type 0) (xs ys : List A) → AllByRecursion P (xs ++ ys) → AllByRecursion P ys
last_all P [] ys p = p
last_all P (x ∷ xs) ys p = last_all P xs ys p.1

all_refs : {X : Type 0} (P : ℕ → Type 0) (f : X → Bool) (refs : X → List ℕ) → ((x : X) → f x ≡ true → AllByRecursion P (refs x)) → (xs : List X)
    → list_all f xs ≡ true → AllByRecursion P (flat_map refs xs)
all_refs P f refs h [] all = tt
all_refs P f refs h (x ∷ xs) all =
    let parts = and_parts (f x) (list_all f xs) all in
    append_all P (refs x) (flat_map refs xs) (h x parts.0) (all_refs P f refs h xs parts.1)

all_back : {X : Type 0} (P : ℕ → Type 0) (f g : X → Bool) (refs : X → List ℕ) → ((x : X) → g x ≡ true → AllByRecursion P (refs x) → f x ≡ true) → (xs : List X)
    → list_all g xs ≡ true → AllByRecursion P (flat_map refs xs) → list_all f xs ≡ true
all_back P f g refs h [] all below = refl
all_back P f g refs h (x ∷ xs) all below =
    let parts = and_parts (g x) (list_all g xs) all in
    and_from (f x) (list_all f xs) (h x parts.0 (first_all P (refs x) (flat_map refs xs) below))
    (all_back P f g refs h xs parts.1 (last_all P (refs x) (flat_map refs xs) below))

-- ---- more types may be named

module _ (n m : ℕ) (le : n ≤ m) where
  heap_wider : (heap : HeapType ℕ) → may_refer n heap ≡ true → may_refer m heap ≡ true
  heap_wider (Abstract heap) e = e
  heap_wider (Concrete r) e = lt-ltb r m (omega (arith, ltb-true r n e, le))

  value_wider : (type : ValType ℕ) → may_hold n type ≡ true → may_hold m type ≡ true
  value_wider (Ref nullable heap) e = heap_wider heap e
  value_wider I32 e = refl
  value_wider I64 e = refl
  value_wider F32 e = refl
  value_wider F64 e = refl
  value_wider V128 e = refl

  storage_wider : (type : StorageType ℕ) → may_store n type ≡ true → may_store m type ≡ true
  storage_wider (Val type) e = value_wider type e
  storage_wider I8 e = refl
  storage_wider I16 e = refl

  pub composite_wider : (type : CompositeType ℕ) → may_be_made_of n type ≡ true → may_be_made_of m type ≡ true
  composite_wider (FuncComposite type) e =
      let parts = and_parts (list_all (may_hold n) type.params) (list_all (may_hold n) type.results) e in
      and_from (list_all (may_hold m) type.params) (list_all (may_hold m) type.results)
      (all_wider (may_hold n) (may_hold m) value_wider type.params parts.0) (all_wider (may_hold n) (may_hold m) value_wider type.results parts.1)
  composite_wider (StructComposite fields) e =
      all_wider (λ (field : FieldType ℕ). may_store n field.element_type) (λ field. may_store m field.element_type) (λ field h. storage_wider field.element_type h) fields e
  composite_wider (ArrayComposite field) e = storage_wider field.element_type e
  composite_wider (ContComposite function) e = absurd cc

-- ---- what is named is among the first

module _ (n : ℕ) where
  abbrev Below : ℕ → Type 0
  Below r = r < n

  heap_below : (heap : HeapType ℕ) → may_refer n heap ≡ true → AllByRecursion Below (heap_refs heap)
  heap_below (Abstract heap) e = tt
  heap_below (Concrete r) e = (ltb-true r n e, tt)

  value_below : (type : ValType ℕ) → may_hold n type ≡ true → AllByRecursion Below (val_refs type)
  value_below (Ref nullable heap) e = heap_below heap e
  value_below I32 e = tt
  value_below I64 e = tt
  value_below F32 e = tt
  value_below F64 e = tt
  value_below V128 e = tt

  storage_below : (type : StorageType ℕ) → may_store n type ≡ true → AllByRecursion Below (storage_refs type)
  storage_below (Val type) e = value_below type e
  storage_below I8 e = tt
  storage_below I16 e = tt

  pub composite_below : (type : CompositeType ℕ) → may_be_made_of n type ≡ true → AllByRecursion Below (composite_refs type)
  composite_below (FuncComposite type) e =
      let parts = and_parts (list_all (may_hold n) type.params) (list_all (may_hold n) type.results) e in
      append_all Below (flat_map val_refs type.params) (flat_map val_refs type.results)
      (all_refs Below (may_hold n) val_refs value_below type.params parts.0) (all_refs Below (may_hold n) val_refs value_below type.results parts.1)
  composite_below (StructComposite fields) e =
      all_refs Below (λ (field : FieldType ℕ). may_store n field.element_type) field_refs (λ field h. storage_below field.element_type h) fields e
  composite_below (ArrayComposite field) e = storage_below field.element_type e
  composite_below (ContComposite function) e = absurd cc

  -- ---- fewer types may be named where no others are

  module _ (m : ℕ) where
    heap_back : (heap : HeapType ℕ) → may_refer m heap ≡ true → AllByRecursion Below (heap_refs heap) → may_refer n heap ≡ true
    heap_back (Abstract heap) e below = e
    heap_back (Concrete r) e below = lt-ltb r n below.0

    value_back : (type : ValType ℕ) → may_hold m type ≡ true → AllByRecursion Below (val_refs type) → may_hold n type ≡ true
    value_back (Ref nullable heap) e below = heap_back heap e below
    value_back I32 e below = refl
    value_back I64 e below = refl
    value_back F32 e below = refl
    value_back F64 e below = refl
    value_back V128 e below = refl

    storage_back : (type : StorageType ℕ) → may_store m type ≡ true → AllByRecursion Below (storage_refs type) → may_store n type ≡ true
    storage_back (Val type) e below = value_back type e below
    storage_back I8 e below = refl
    storage_back I16 e below = refl

    pub composite_back : (type : CompositeType ℕ) → may_be_made_of m type ≡ true → AllByRecursion Below (composite_refs type) → may_be_made_of n type ≡ true
    composite_back (FuncComposite type) e below =
        let parts = and_parts (list_all (may_hold m) type.params) (list_all (may_hold m) type.results) e in
        let params = first_all Below (flat_map val_refs type.params) (flat_map val_refs type.results) below in
        let results = last_all Below (flat_map val_refs type.params) (flat_map val_refs type.results) below in
        and_from (list_all (may_hold n) type.params) (list_all (may_hold n) type.results)
        (all_back Below (may_hold n) (may_hold m) val_refs value_back type.params parts.0 params)
        (all_back Below (may_hold n) (may_hold m) val_refs value_back type.results parts.1 results)
    composite_back (StructComposite fields) e below =
        all_back Below (λ (field : FieldType ℕ). may_store n field.element_type) (λ field. may_store m field.element_type) field_refs (λ field h b. storage_back field.element_type h b) fields e below
    composite_back (ArrayComposite field) e below = storage_back field.element_type e below
    composite_back (ContComposite function) e below = absurd cc
