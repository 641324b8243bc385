-- Types with ids in place of type indexes: what they stand for, and when there are any.
use Rattle.std.proofs.Common.{◌≡◌, ℕ, zero, suc, nat_lt, List, [], ◌∷◌, length, Option, Some, None, IfSome, is_some, refl, sym, ap, ◌∙◌, arith, slice_get, subst}
use Rattle.std.proofs.lemmas.Bool.Decides.{nat_tests}
use Rattle.std.proofs.lemmas.List.{length-map}
use Rattle.std.specs.List.{AllByRecursion}
use Rattle.std.specs.Option.{option_map, unwrap_or}
use Rattle.wasm_spec.specs.Features.{Features}
use Rattle.wasm_spec.specs.Trees.{no_type, type_at}
use Rattle.wasm_spec.specs.TypeReferences.{heap_map, heap_refs, val_map, val_refs}
use Rattle.wasm_spec.specs.Types.{HeapType, Abstract, Concrete, ValType, I32, I64, F32, F64, V128, Ref}
use Rattle.wasmparser_type_list.specs.TypeTables.{TablesAgree, TypeTables}
use Rattle.wasmparser_type_list.specs.IdTypes.{type_of_index}
use Rattle.wasmparser_module_types.proofs.KnownIds.{known_id, types_named}
use Rattle.wasmparser_module_types.specs.ModuleTypes.{AreIds, IsIdOf, KnownTypes, KnowsModule, all_groups, interned_types, known_types, module_types, stands_for}
use Rattle.wasmparser_module_types.specs.WithIds.{heap_by_ids, names_only, names_only_heap, val_by_ids}
use Rattle.wasmparser_rec_groups.specs.Interning.{AreKnown}
use Rattle.wasmparser_types.specs.Index.{Index, Id, number_of}

-- ---- options

same_some : {X Y : Type 0} (f : X → Y) (o : Option X) → is_some (option_map f o) ≡ is_some o
same_some f None = refl
same_some f (Some x) = refl

within : {X : Type 0} (xs : List X) (i : ℕ) → is_some (slice_get xs i) ≡ nat_lt i (length xs)
within [] zero = refl
within [] (suc i) = grind (arith, nat_tests)
within (x ∷ xs) zero = grind (arith, nat_tests)
within (x ∷ xs) (suc i) = within xs i ∙ grind (arith, nat_tests)

of_mapped : {X Y : Type 0} (f : X → Y) (P : Y → Type 0) (o : Option X) → IfSome (option_map f o) P → IfSome o (λ x. P (f x))
of_mapped f P None h = tt
of_mapped f P (Some x) h = h

to_mapped : {X Y : Type 0} (f : X → Y) (P : Y → Type 0) (o : Option X) → IfSome o (λ x. P (f x)) → IfSome (option_map f o) P
to_mapped f P None h = tt
to_mapped f P (Some x) h = h

both : {X : Type 0} (P Q : X → Type 0) (o : Option X) → IfSome o (λ x. P x × Q x) → IfSome o P × IfSome o Q
both P Q None h = (tt, tt)
both P Q (Some x) h = h

-- ---- types with ids

module _ (list : TypeTables) (ids : List ℕ) where
  -- a type by ids that stands for what a type with type indexes does
  abbrev IsHeap : HeapType Index → HeapType Index → Type 0
  IsHeap heap new =
      (heap_map (type_of_index all_groups list) new ≡ heap_map (type_at (module_types list ids)) (heap_map number_of heap))
      × AllByRecursion (IsIdOf (interned_types list)) (heap_refs new)

  abbrev IsVal : ValType Index → ValType Index → Type 0
  IsVal type new =
      (val_map (type_of_index all_groups list) new ≡ val_map (type_at (module_types list ids)) (val_map number_of type))
      × AllByRecursion (IsIdOf (interned_types list)) (val_refs new)

  heap_named : (heap : HeapType Index) → is_some (heap_by_ids ids heap) ≡ names_only_heap (module_types list ids) (heap_map number_of heap)
  heap_named (Abstract heap) = refl
  heap_named (Concrete index) =
      same_some (λ id. Concrete (Id id)) (slice_get ids (number_of index)) ∙ within ids (number_of index)
      ∙ ap (nat_lt (number_of index)) (sym (length-map ids (type_at (interned_types list))))

  val_named : (type : ValType Index) → is_some (val_by_ids ids type) ≡ names_only (module_types list ids) (val_map number_of type)
  val_named I32 = refl
  val_named I64 = refl
  val_named F32 = refl
  val_named F64 = refl
  val_named V128 = refl
  val_named (Ref nullable heap) = same_some (λ h. Ref nullable h) (heap_by_ids ids heap) ∙ heap_named heap

module _ (list : TypeTables) (agree : TablesAgree list) (ids : List ℕ) (known : AreKnown list ids) where
  heap_is : (heap : HeapType Index) → IfSome (heap_by_ids ids heap) (IsHeap list ids heap)
  heap_is (Abstract heap) = (refl, tt)
  heap_is (Concrete index) = to_mapped (λ id. Concrete (Id id)) (IsHeap list ids (Concrete index)) (slice_get ids (number_of index)) (go (slice_get ids (number_of index)) refl) where
    go : (o : Option ℕ) → slice_get ids (number_of index) ≡ o → IfSome o (λ id. IsHeap list ids (Concrete index) (Concrete (Id id)))
    go None at = tt
    go (Some id) at =
        let named : slice_get (module_types list ids) (number_of index) ≡ Some (type_at (interned_types list) id) =
        types_named list ids (number_of index) ∙ ap (option_map (type_at (interned_types list))) at in
        (ap (λ t. Concrete t) (sym (ap (λ o. unwrap_or o no_type) named)), (known_id list agree ids (number_of index) id known at, tt))

  val_is : (type : ValType Index) → IfSome (val_by_ids ids type) (IsVal list ids type)
  val_is I32 = (refl, tt)
  val_is I64 = (refl, tt)
  val_is F32 = (refl, tt)
  val_is F64 = (refl, tt)
  val_is V128 = (refl, tt)
  val_is (Ref nullable heap) = to_mapped (λ h. Ref nullable h) (IsVal list ids (Ref nullable heap)) (heap_by_ids ids heap) (go (heap_by_ids ids heap) (heap_is heap)) where
    go : (o : Option (HeapType Index)) → IfSome o (IsHeap list ids heap) → IfSome o (λ h. IsVal list ids (Ref nullable heap) (Ref nullable h))
    go None is = tt
    go (Some new) is = (ap (λ h. Ref nullable h) is.0, is.1)

-- ---- what calls answer

pub record HeapAnswer {X : Type 0} (view : X → HeapType Index) (known : KnownTypes) (heap : HeapType Index) (result : Option X) : Type 0 where
  pub named : is_some result ≡ names_only_heap known.types (heap_map number_of heap)
  pub same : IfSome result (λ new. heap_map (stands_for known) (view new) ≡ heap_map (type_at known.types) (heap_map number_of heap))
  pub ids : IfSome result (λ new. AreIds known (heap_refs (view new)))

pub record ValAnswer {X : Type 0} (view : X → ValType Index) (known : KnownTypes) (type : ValType Index) (result : Option X) : Type 0 where
  pub named : is_some result ≡ names_only known.types (val_map number_of type)
  pub same : IfSome result (λ new. val_map (stands_for known) (view new) ≡ val_map (type_at known.types) (val_map number_of type))
  pub ids : IfSome result (λ new. AreIds known (val_refs (view new)))

module _ {X : Type 0} (features : Features) (list : TypeTables) (ids : List ℕ) (groups : ℕ) (knows : KnowsModule features list ids) where
  pub heap_answered : (view : X → HeapType Index) (heap : HeapType Index) (result : Option X) → option_map view result ≡ heap_by_ids ids heap
      → HeapAnswer view (known_types features list ids groups) heap result
  heap_answered view heap result is =
      let new = of_mapped view (IsHeap list ids heap) result (subst (λ o. IfSome o (IsHeap list ids heap)) (sym is) (heap_is list knows.agree ids knows.known heap)) in
      let parts = both _ _ result new in
      record { named = sym (same_some view result) ∙ ap is_some is ∙ heap_named list ids heap; same = parts.0; ids = parts.1 }

  pub val_answered : (view : X → ValType Index) (type : ValType Index) (result : Option X) → option_map view result ≡ val_by_ids ids type
      → ValAnswer view (known_types features list ids groups) type result
  val_answered view type result is =
      let new = of_mapped view (IsVal list ids type) result (subst (λ o. IfSome o (IsVal list ids type)) (sym is) (val_is list knows.agree ids knows.known type)) in
      let parts = both _ _ result new in
      record { named = sym (same_some view result) ∙ ap is_some is ∙ val_named list ids type; same = parts.0; ids = parts.1 }
