-- Items with their references replaced twice, and the references that they have then.
use Rattle.std.proofs.Common.{◌≡◌, List, [], ◌∷◌, ◌++◌, map, refl, ap, sym, ◌∙◌, flat_map}
use Rattle.std.proofs.lemmas.List.{map-append}
use Rattle.wasm_spec.proofs.TypeMaps.{map-map}
use Rattle.wasm_spec.specs.TypeReferences.{heap_map, ref_map, val_map, table_map, global_map, external_map, heap_refs, ref_refs, val_refs, table_refs, global_refs}
use Rattle.wasm_spec.specs.Types.{HeapType, Abstract, Concrete, RefType, ValType, I32, I64, F32, F64, V128, Ref, TableType, GlobalType, ExternalType, FuncExternal, TableExternal, MemoryExternal, GlobalExternal, TagExternal}
use Rattle.wasm_gen_view.specs.MadeSpaces.{functions_among, globals_among, memories_among, tables_among, tags_among}

-- ---- one map after another

module _ {R S T : Type 0} (g : S → T) (f : R → S) (h : R → T) (same : (r : R) → g (f r) ≡ h r) where
  heap_twice : (x : HeapType R) → heap_map g (heap_map f x) ≡ heap_map h x
  heap_twice (Abstract a) = refl
  heap_twice (Concrete r) = ap Concrete (same r)

  pub ref_twice : (x : RefType R) → ref_map g (ref_map f x) ≡ ref_map h x
  ref_twice x = ap (λ heap. record { nullable = x.nullable; heap_type = heap }) (heap_twice x.heap_type)

  val_twice : (x : ValType R) → val_map g (val_map f x) ≡ val_map h x
  val_twice I32 = refl
  val_twice I64 = refl
  val_twice F32 = refl
  val_twice F64 = refl
  val_twice V128 = refl
  val_twice (Ref null heap) = ap (Ref null) (heap_twice heap)

  pub table_twice : (x : TableType R) → table_map g (table_map f x) ≡ table_map h x
  table_twice x = ap (λ element. record { element_type = element; limits = x.limits }) (ref_twice x.element_type)

  pub global_twice : (x : GlobalType R) → global_map g (global_map f x) ≡ global_map h x
  global_twice x = ap (λ value. record { value_type = value; mutable = x.mutable }) (val_twice x.value_type)

  pub external_twice : (x : ExternalType R) → external_map g (external_map f x) ≡ external_map h x
  external_twice (FuncExternal r) = ap FuncExternal (same r)
  external_twice (TableExternal x) = ap TableExternal (table_twice x)
  external_twice (MemoryExternal x) = refl
  external_twice (GlobalExternal x) = ap GlobalExternal (global_twice x)
  external_twice (TagExternal r) = ap TagExternal (same r)

-- items that stand for others, as others do
pub lists_twice : {A B C X : Type 0} (g : B → C) (f : A → B) (h : A → C) → ((a : A) → g (f a) ≡ h a) → (view : X → B) (shown : X → C) → ((x : X) → shown x ≡ g (view x))
    → (xs : List X) (ys : List A) → map view xs ≡ map f ys → map shown xs ≡ map h ys
lists_twice g f h same view shown is xs ys e = sym (map-map g view shown (λ x. sym (is x)) xs) ∙ ap (map g) e ∙ map-map g f h same ys

-- ---- references

module _ {R S : Type 0} (f : R → S) where
  heap_refs_are : (x : HeapType R) → heap_refs (heap_map f x) ≡ map f (heap_refs x)
  heap_refs_are (Abstract a) = refl
  heap_refs_are (Concrete r) = refl

  pub ref_refs_are : (x : RefType R) → ref_refs (ref_map f x) ≡ map f (ref_refs x)
  ref_refs_are x = heap_refs_are x.heap_type

  pub table_refs_are : (x : TableType R) → table_refs (table_map f x) ≡ map f (table_refs x)
  table_refs_are x = heap_refs_are x.element_type.heap_type

  val_refs_are : (x : ValType R) → val_refs (val_map f x) ≡ map f (val_refs x)
  val_refs_are I32 = refl
  val_refs_are I64 = refl
  val_refs_are F32 = refl
  val_refs_are F64 = refl
  val_refs_are V128 = refl
  val_refs_are (Ref null heap) = heap_refs_are heap

  pub global_refs_are : (x : GlobalType R) → global_refs (global_map f x) ≡ map f (global_refs x)
  global_refs_are x = val_refs_are x.value_type

  all_refs_are : {X Y : Type 0} (k : X → Y) (p : X → List R) (q : Y → List S) → ((x : X) → q (k x) ≡ map f (p x)) → (xs : List X) → flat_map q (map k xs) ≡ map f (flat_map p xs)
  all_refs_are k p q same [] = refl
  all_refs_are k p q same (x ∷ xs) = rw (same x, all_refs_are k p q same xs) (sym (map-append f (p x) (flat_map p xs)))

  flat_map_map : {X Y : Type 0} (view : X → Y) (q : Y → List S) (xs : List X) → flat_map (λ x. q (view x)) xs ≡ flat_map q (map view xs)
  flat_map_map view q [] = refl
  flat_map_map view q (x ∷ xs) = ap (λ rs. q (view x) ++ rs) (flat_map_map view q xs)

  -- the references of items that stand for others
  pub lists_refs : {A B X : Type 0} (k : A → B) (p : A → List R) (q : B → List S) → ((a : A) → q (k a) ≡ map f (p a)) → (view : X → B) (xs : List X) (ys : List A) → map view xs ≡ map k ys
      → flat_map (λ x. q (view x)) xs ≡ map f (flat_map p ys)
  lists_refs k p q same view xs ys e = flat_map_map view q xs ∙ ap (flat_map q) e ∙ all_refs_are k p q same ys

-- ---- items of one kind

module _ {R S : Type 0} (f : R → S) where
  functions_mapped : (xs : List (ExternalType R)) → functions_among (map (external_map f) xs) ≡ map f (functions_among xs)
  functions_mapped [] = refl
  functions_mapped (FuncExternal r ∷ xs) = ap (λ rs. f r ∷ rs) (functions_mapped xs)
  functions_mapped (TableExternal x ∷ xs) = functions_mapped xs
  functions_mapped (MemoryExternal x ∷ xs) = functions_mapped xs
  functions_mapped (GlobalExternal x ∷ xs) = functions_mapped xs
  functions_mapped (TagExternal r ∷ xs) = functions_mapped xs

  tables_mapped : (xs : List (ExternalType R)) → tables_among (map (external_map f) xs) ≡ map (table_map f) (tables_among xs)
  tables_mapped [] = refl
  tables_mapped (FuncExternal r ∷ xs) = tables_mapped xs
  tables_mapped (TableExternal x ∷ xs) = ap (λ ts. table_map f x ∷ ts) (tables_mapped xs)
  tables_mapped (MemoryExternal x ∷ xs) = tables_mapped xs
  tables_mapped (GlobalExternal x ∷ xs) = tables_mapped xs
  tables_mapped (TagExternal r ∷ xs) = tables_mapped xs

  memories_mapped : (xs : List (ExternalType R)) → memories_among (map (external_map f) xs) ≡ memories_among xs
  memories_mapped [] = refl
  memories_mapped (FuncExternal r ∷ xs) = memories_mapped xs
  memories_mapped (TableExternal x ∷ xs) = memories_mapped xs
  memories_mapped (MemoryExternal x ∷ xs) = ap (λ ts. x ∷ ts) (memories_mapped xs)
  memories_mapped (GlobalExternal x ∷ xs) = memories_mapped xs
  memories_mapped (TagExternal r ∷ xs) = memories_mapped xs

  globals_mapped : (xs : List (ExternalType R)) → globals_among (map (external_map f) xs) ≡ map (global_map f) (globals_among xs)
  globals_mapped [] = refl
  globals_mapped (FuncExternal r ∷ xs) = globals_mapped xs
  globals_mapped (TableExternal x ∷ xs) = globals_mapped xs
  globals_mapped (MemoryExternal x ∷ xs) = globals_mapped xs
  globals_mapped (GlobalExternal x ∷ xs) = ap (λ ts. global_map f x ∷ ts) (globals_mapped xs)
  globals_mapped (TagExternal r ∷ xs) = globals_mapped xs

  tags_mapped : (xs : List (ExternalType R)) → tags_among (map (external_map f) xs) ≡ map f (tags_among xs)
  tags_mapped [] = refl
  tags_mapped (FuncExternal r ∷ xs) = tags_mapped xs
  tags_mapped (TableExternal x ∷ xs) = tags_mapped xs
  tags_mapped (MemoryExternal x ∷ xs) = tags_mapped xs
  tags_mapped (GlobalExternal x ∷ xs) = tags_mapped xs
  tags_mapped (TagExternal r ∷ xs) = ap (λ rs. f r ∷ rs) (tags_mapped xs)

  -- imported ones, as they are shown, and own ones
  module _ (types : List (ExternalType R)) (shown : List (ExternalType S)) (are : shown ≡ map (external_map f) types) where
    pub functions_joined : (own : List R) → functions_among shown ++ map f own ≡ map f (functions_among types ++ own)
    functions_joined own = ap (λ xs. functions_among xs ++ map f own) are ∙ ap (λ xs. xs ++ map f own) (functions_mapped types) ∙ sym (map-append f (functions_among types) own)

    pub tables_joined : (own : List (TableType R)) → tables_among shown ++ map (table_map f) own ≡ map (table_map f) (tables_among types ++ own)
    tables_joined own = ap (λ xs. tables_among xs ++ map (table_map f) own) are ∙ ap (λ xs. xs ++ map (table_map f) own) (tables_mapped types) ∙ sym (map-append (table_map f) (tables_among types) own)

    pub memories_are : memories_among shown ≡ memories_among types
    memories_are = ap memories_among are ∙ memories_mapped types

    pub globals_joined : (own : List (GlobalType R)) → globals_among shown ++ map (global_map f) own ≡ map (global_map f) (globals_among types ++ own)
    globals_joined own = ap (λ xs. globals_among xs ++ map (global_map f) own) are ∙ ap (λ xs. xs ++ map (global_map f) own) (globals_mapped types) ∙ sym (map-append (global_map f) (globals_among types) own)

    pub tags_joined : (own : List R) → tags_among shown ++ map f own ≡ map f (tags_among types ++ own)
    tags_joined own = ap (λ xs. tags_among xs ++ map f own) are ∙ ap (λ xs. xs ++ map f own) (tags_mapped types) ∙ sym (map-append f (tags_among types) own)
