-- The resources of a state are those of its parts.
use Rattle.std.proofs.Common.{◌≡◌, ℕ, ◌<◌, List, length, map, Option, Some, None, refl, sym, ap, ◌∙◌, subst, arith, slice_get}
use Rattle.std.specs.Prelude.{get_or}
use Rattle.std.specs.Option.{option_and_then, option_map}
use Rattle.std.proofs.lemmas.Option.{slice_get-get_or, slice_get-map, slice_get_within}
use Rattle.wasm_bodies.specs.BodyContext as bodies
use Rattle.wasm_bodies.specs.BodyContext.{NamedType, func_at, heap_meant}
use Rattle.wasm_spec.proofs.Places.{all_get}
use Rattle.wasm_spec.specs.TypeReferences.{heap_map}
use Rattle.wasm_spec.specs.Types.{ArrayComposite, CompositeType, ContComposite, FuncComposite, HeapType, Abstract, Concrete, StructComposite, SubType}
use Rattle.wasm_validity.specs.Context.{Context}
use Rattle.wasmparser_module_state.specs.StateResources.{items_in, named_type, no_sub_type, resources_in}
use Rattle.wasmparser_module_types.specs.ModuleTypes.{AreKnownTypes, KnownTypes, func_type_of_index, sub_type_of_index}
use Rattle.wasmparser_module_types.specs.WithIds.{heap_by_ids}
use Rattle.wasmparser_bodies.specs.Resources.{reference_of, sub_type_at}
use Rattle.wasmparser_types.specs.CompositeTypes.{func_of}
use Rattle.wasmparser_types.specs.HeapTypes.{Packs}
use Rattle.wasmparser_types.specs.Index.{Index, Id, number_of, packable}

-- ---- types by index

same_func : (type : CompositeType Index) → bodies.func_in type ≡ func_of type
same_func (FuncComposite type) = refl
same_func (StructComposite fields) = refl
same_func (ArrayComposite field) = refl
same_func (ContComposite function) = refl

module _ (known : KnownTypes) (cx : Context) where
  named : (index : ℕ) → slice_get (items_in known cx).types index ≡ option_map (named_type known.sub_types) (slice_get known.ids index)
  named index = slice_get-map (named_type known.sub_types) known.ids index

  pub sub_named : (index : ℕ) → sub_type_at (resources_in known cx) index ≡ sub_type_of_index known index
  sub_named index = ap (λ o. option_and_then (resources_in known cx).sub_type_of (option_map (λ (type : NamedType Index). type.reference) o)) (named index) ∙ go (slice_get known.ids index) where
    go : (o : Option ℕ) → option_and_then (resources_in known cx).sub_type_of (option_map (λ (type : NamedType Index). type.reference) (option_map (named_type known.sub_types) o)) ≡ option_and_then (slice_get known.sub_types) o
    go None = refl
    go (Some id) = refl

  pub reference_named : (index : ℕ) → reference_of (items_in known cx) index ≡ option_map (λ id. Id id) (slice_get known.ids index)
  reference_named index = ap (option_map (λ (type : NamedType Index). type.reference)) (named index) ∙ go (slice_get known.ids index) where
    go : (o : Option ℕ) → option_map (λ (type : NamedType Index). type.reference) (option_map (named_type known.sub_types) o) ≡ option_map (λ id. Id id) o
    go None = refl
    go (Some id) = refl

  pub heap_named : (heap : HeapType Index) → heap_meant (items_in known cx) (heap_map number_of heap) ≡ heap_by_ids known.ids heap
  heap_named (Abstract heap) = refl
  heap_named (Concrete index) = ap (option_map (λ (type : NamedType Index). Concrete type.reference)) (named (number_of index)) ∙ go (slice_get known.ids (number_of index)) where
    go : (o : Option ℕ) → option_map (λ (type : NamedType Index). Concrete type.reference) (option_map (named_type known.sub_types) o) ≡ option_map (λ id. Concrete (Id id)) o
    go None = refl
    go (Some id) = refl

  module _ (are : AreKnownTypes known) where
    sub_of : (index id : ℕ) → slice_get known.ids index ≡ Some id → slice_get known.sub_types id ≡ Some (get_or known.sub_types id no_sub_type)
    sub_of index id at =
        let within = all_get (λ n. n < length known.interned) known.ids are.within index id at in slice_get-get_or known.sub_types id no_sub_type (omega (arith, within, are.count))

    pub func_named : (index : ℕ) → func_at (items_in known cx) index ≡ func_type_of_index known index
    func_named index = ap (option_and_then (λ (type : NamedType Index). bodies.func_in type.composite)) (named index) ∙ go (slice_get known.ids index) refl where
      go : (o : Option ℕ) → slice_get known.ids index ≡ o
          → option_and_then (λ (type : NamedType Index). bodies.func_in type.composite) (option_map (named_type known.sub_types) o)
          ≡ option_and_then (λ (sub : SubType Index). func_of sub.composite_type) (option_and_then (slice_get known.sub_types) o)
      go None at = refl
      go (Some id) at =
          same_func (get_or known.sub_types id no_sub_type).composite_type ∙ ap (option_and_then (λ (sub : SubType Index). func_of sub.composite_type)) (sym (sub_of index id at))

    pub composite_named : (index : ℕ) → option_map (λ (sub : SubType Index). sub.composite_type) (sub_type_of_index known index)
        ≡ option_map (λ (type : NamedType Index). type.composite) (slice_get (items_in known cx).types index)
    composite_named index = go (slice_get known.ids index) refl ∙ ap (option_map (λ (type : NamedType Index). type.composite)) (sym (named index)) where
      go : (o : Option ℕ) → slice_get known.ids index ≡ o
          → option_map (λ (sub : SubType Index). sub.composite_type) (option_and_then (slice_get known.sub_types) o)
          ≡ option_map (λ (type : NamedType Index). type.composite) (option_map (named_type known.sub_types) o)
      go None at = refl
      go (Some id) at = ap (option_map (λ (sub : SubType Index). sub.composite_type)) (sub_of index id at)

    pub heap_packs : (heap new : HeapType Index) → Some new ≡ heap_by_ids known.ids heap → Packs new
    heap_packs (Abstract heap) new is = let same : new ≡ Abstract heap = cc in subst Packs (sym same) tt
    heap_packs (Concrete index) new is = go (slice_get known.ids (number_of index)) refl is where
      go : (o : Option ℕ) → slice_get known.ids (number_of index) ≡ o → Some new ≡ option_map (λ id. Concrete (Id id)) o → Packs new
      go None at is = absurd cc
      go (Some id) at is =
          let same : new ≡ Concrete (Id id) = cc in subst Packs (sym same) (all_get (λ n. n < packable) known.ids are.packable (number_of index) id at)

    pub is_interned : (id : ℕ) (sub : SubType Index) → slice_get known.sub_types id ≡ Some sub → id < length known.interned
    is_interned id sub at = omega (arith, slice_get_within known.sub_types id sub at, are.count)

-- ---- items

pub element_at : {A B C : Type 0} (g : A → B) (f : B → C) (xs : List A) (i : ℕ) (x : A) (new : C) → Some x ≡ slice_get xs i → new ≡ f (g x) → Some new ≡ slice_get (map f (map g xs)) i
element_at g f xs i x new at same =
    ap Some same ∙ ap (λ o. option_map f (option_map g o)) at ∙ ap (option_map f) (sym (slice_get-map g xs i)) ∙ sym (slice_get-map f (map g xs) i)

pub ruleset type_steps = (sub_named, reference_named, heap_named, func_named, composite_named, heap_packs, is_interned)
