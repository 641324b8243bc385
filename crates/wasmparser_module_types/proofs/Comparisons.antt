-- Subtyping of types by ids, and of the types that these stand for.
use Rattle.std.proofs.Common.{◌≡◌, ℕ, Bool, true, false, List, [], ◌∷◌, refl, sym, ap, ◌∙◌, inl, inr, subst}
use Rattle.std.specs.Prelude.{◌||◌}
use Rattle.std.proofs.lemmas.Bool.{and_parts}
use Rattle.std.specs.List.{AllByRecursion}
use Rattle.wasm_spec.proofs.Closures.{complete, same_defined, sound}
use Rattle.wasm_spec.proofs.MappedBack.{val_below_back}
use Rattle.wasm_spec.proofs.MappedTypes.{abstract_of_map, bottom_of_map, val_below_map}
use Rattle.wasm_spec.specs.Features.{Features, FunctionReferences, Gc, ReferenceTypes, StackSwitching, has, needs_type_canonicalization}
use Rattle.wasm_spec.specs.Gates.{is_allowed}
use Rattle.wasm_spec.specs.ReferenceMaps.{IsType, KeepsTypes}
use Rattle.wasm_spec.specs.Subtyping.{Closure, Defined, HeapTest, Link, SubTypes, ValBelow, abstract_of, bottom_of, is_abstract_below, same}
use Rattle.wasm_spec.specs.Trees.{unrolled}
use Rattle.wasm_spec.specs.TypeReferences.{composite_map, heap_map, heap_refs, sub_map, val_map, val_refs}
use Rattle.wasm_spec.specs.Types.{HeapType, Abstract, Concrete, CompositeType, ValType, I32, I64, F32, F64, V128, Ref}
use Rattle.wasmparser_type_list.specs.TypeTables.{TypeTables, type_by_id}
use Rattle.wasmparser_type_list.proofs.IdLaws.{distinct_one_to_one, ids_closed, ids_unroll}
use Rattle.wasmparser_type_list.specs.IdTypes.{type_of_index}
use Rattle.wasmparser_module_types.proofs.KnownIds.{are_types}
use Rattle.wasmparser_module_types.specs.ModuleTypes.{CanCompare, IsIdOf, KnowsModule, all_groups, interned_types}
use Rattle.wasmparser_types.specs.Index.{Index}

-- ---- where no reference is compared with another one

abbrev pub AreOne : {R : Type 0} → List R → List R → Type 0
AreOne lower upper = AllByRecursion (λ a. AllByRecursion (λ b. a ≡ b) upper) lower

module _ {R S : Type 0} (f : R → S) (from : SubTypes R) (to : SubTypes S) (keeps : KeepsTypes f from to) where
  kind_back : (r : R) → IsType from r → (P : CompositeType S → Type 0) → Defined to (f r) P → Defined from r (λ c. P (composite_map f c))
  kind_back r known P d =
      let (s, at) = known in
      let one : d.type ≡ sub_map f s = same_defined to (f r) d.type (sub_map f s) d.is (keeps r s at) in
      record { type = s; is = at; holds = rw one at d.holds }

  test_back : (a b : HeapType R) → AllByRecursion (IsType from) (heap_refs a) → AllByRecursion (IsType from) (heap_refs b) → AreOne (heap_refs a) (heap_refs b)
      → HeapTest to (heap_map f a) (heap_map f b) → HeapTest from a b
  test_back (Abstract a) (Abstract b) ka kb one t = t
  test_back (Abstract a) (Concrete r) ka kb one t =
      let d = kind_back r kb.0 (λ c. bottom_of c ≡ a) t in
      record { type = d.type; is = d.is; holds = sym (bottom_of_map f d.type.composite_type) ∙ d.holds }
  test_back (Concrete r) (Abstract b) ka kb one t =
      let d = kind_back r ka.0 (λ c. is_abstract_below (abstract_of c) b ≡ true) t in
      record { type = d.type; is = d.is; holds = ap (λ q. is_abstract_below q b) (sym (abstract_of_map f d.type.composite_type)) ∙ d.holds }
  test_back (Concrete r) (Concrete t) ka kb one p =
      let P : R → Type 0 = λ q. Closure (Link from) r q in
      subst P one.0.0 same

  one_back : (a b : ValType R) → AllByRecursion (IsType from) (val_refs a) → AllByRecursion (IsType from) (val_refs b) → AreOne (val_refs a) (val_refs b)
      → ValBelow to (val_map f a) (val_map f b) → ValBelow from a b
  one_back I32 I32 ka kb one h = h
  one_back I64 I64 ka kb one h = h
  one_back F32 F32 ka kb one h = h
  one_back F64 F64 ka kb one h = h
  one_back V128 V128 ka kb one h = h
  one_back (Ref n a) (Ref m b) ka kb one h = record { null = h.null; heap = sound from a b (test_back a b ka kb one (complete to h.heap)) }
  one_back _ _ ka kb one h = absurd h

-- ---- ids of a module's types

module _ (features : Features) (list : TypeTables) (ids : List ℕ) (knows : KnowsModule features list ids) (a b : ValType Index) where
  pub below : ValBelow (type_by_id list) a b → ValBelow unrolled (val_map (type_of_index all_groups list) a) (val_map (type_of_index all_groups list) b)
  below = val_below_map (type_of_index all_groups list) (type_by_id list) unrolled (ids_unroll list knows.agree knows.no_module all_groups) a b

  pub below_back : AllByRecursion (IsIdOf (interned_types list)) (val_refs a) → AllByRecursion (IsIdOf (interned_types list)) (val_refs b) → CanCompare features (val_refs a) (val_refs b)
      → ValBelow unrolled (val_map (type_of_index all_groups list) a) (val_map (type_of_index all_groups list) b) → ValBelow (type_by_id list) a b
  below_back lower upper can h = elim can [
    | inl needs ↦
        val_below_back (type_of_index all_groups list) (type_by_id list) unrolled keeps (ids_closed list knows.agree knows.no_module)
        (distinct_one_to_one list knows.agree knows.no_module all_groups (knows.distinct needs)) a b (known (val_refs a) lower) (known (val_refs b) upper) h
    | inr one ↦ one_back (type_of_index all_groups list) (type_by_id list) unrolled keeps a b (known (val_refs a) lower) (known (val_refs b) upper) one h
  ] where
    keeps : KeepsTypes (type_of_index all_groups list) (type_by_id list) unrolled
    keeps = ids_unroll list knows.agree knows.no_module all_groups

    known : (indexes : List Index) → AllByRecursion (IsIdOf (interned_types list)) indexes → AllByRecursion (IsType (type_by_id list)) indexes
    known = are_types list knows.agree

-- ---- types that can be compared

-- a reference to a defined type is allowed only where types are canonicalized
allowed_concrete : (features : Features) (nullable : Bool) (r : Index) → is_allowed features (Ref nullable (Concrete r)) ≡ true → needs_type_canonicalization features ≡ true
allowed_concrete features nullable r allowed = go (has features FunctionReferences) (has features Gc) (has features StackSwitching) (and_parts (has features ReferenceTypes) (has features Gc || has features FunctionReferences) allowed).1 where
  go : (references gc switching : Bool) → (gc || references) ≡ true → (references || gc || switching) ≡ true
  go true gc switching h = refl
  go false true switching h = refl
  go false false switching h = absurd cc

pub allowed_lower : (features : Features) (a : ValType Index) (upper : List Index) → is_allowed features a ≡ true → CanCompare features (val_refs a) upper
allowed_lower features I32 upper allowed = inr tt
allowed_lower features I64 upper allowed = inr tt
allowed_lower features F32 upper allowed = inr tt
allowed_lower features F64 upper allowed = inr tt
allowed_lower features V128 upper allowed = inr tt
allowed_lower features (Ref nullable (Abstract heap)) upper allowed = inr tt
allowed_lower features (Ref nullable (Concrete r)) upper allowed = inl (allowed_concrete features nullable r allowed)

-- no type that names none is asked
pub none_above : (lower : List Index) → AreOne lower []
none_above [] = tt
none_above (a ∷ lower) = (tt, none_above lower)

pub allowed_upper : (features : Features) (lower : List Index) (b : ValType Index) → is_allowed features b ≡ true → CanCompare features lower (val_refs b)
allowed_upper features lower I32 allowed = inr (none_above lower)
allowed_upper features lower I64 allowed = inr (none_above lower)
allowed_upper features lower F32 allowed = inr (none_above lower)
allowed_upper features lower F64 allowed = inr (none_above lower)
allowed_upper features lower V128 allowed = inr (none_above lower)
allowed_upper features lower (Ref nullable (Abstract heap)) allowed = inr (none_above lower)
allowed_upper features lower (Ref nullable (Concrete r)) allowed = inl (allowed_concrete features nullable r allowed)

pub itself : (features : Features) (a : ValType Index) → CanCompare features (val_refs a) (val_refs a)
itself features I32 = inr tt
itself features I64 = inr tt
itself features F32 = inr tt
itself features F64 = inr tt
itself features V128 = inr tt
itself features (Ref nullable (Abstract heap)) = inr tt
itself features (Ref nullable (Concrete r)) = inr ((refl, tt), tt)
