-- Bodies may name over ids what they may name over type indexes.
use Rattle.std.proofs.Common.{◌≡◌, get_or, ◌+◌, ℕ, suc, List, [], ◌∷◌, length, map, Some, slice_get, refl, sym, ap, ◌∙◌, arith}
use Rattle.std.proofs.lemmas.Option.{get_or_from_slice_get}
use Rattle.wasm_bodies_laws.specs.References.{items_map, named_map}
use Rattle.wasm_spec.specs.Features.{Features}
use Rattle.wasm_spec.specs.Trees.{DefType}
use Rattle.wasm_spec.specs.TypeReferences.{composite_map, sub_map}
use Rattle.wasm_spec.specs.Types.{SubType}
use Rattle.wasm_validity.specs.ModuleBodies.{Below, items_in, named_from}
use Rattle.wasm_validity.specs.Context.{Context}
use Rattle.wasmparser_types.specs.Index.{Index, Id}
use Rattle.wasmparser_validator.proofs.Ids.{as_many, index_is, sub_at}
use Rattle.wasmparser_validator.specs.TypesById.{AreKnown, AreWritten, index_at, items_by_ids, named_by_id, no_sub_type}

-- these are named by these ids, the first of them by this index
abbrev AreNamed : (ℕ → Index) → List (SubType Index) → ℕ → List (SubType ℕ) → List ℕ → Type 0
AreNamed f sub_types start written ids = (place : ℕ) (type : SubType ℕ) (id : ℕ) → slice_get written place ≡ Some type → slice_get ids place ≡ Some id
    → (f (start + place) ≡ Id id) × (composite_map f type.composite_type ≡ (get_or sub_types id no_sub_type).composite_type)

named_types : (f : ℕ → Index) (sub_types : List (SubType Index)) (start : ℕ) (written : List (SubType ℕ)) (ids : List ℕ) → length ids ≡ length written → AreNamed f sub_types start written ids
    → map (named_map f) (named_from start written) ≡ map (named_by_id sub_types) ids
named_types f sub_types start [] [] count named = refl
named_types f sub_types start [] (id ∷ ids) count named = absurd (omega (arith, count))
named_types f sub_types start (type ∷ written) [] count named = absurd (omega (arith, count))
named_types f sub_types start (type ∷ written) (id ∷ ids) count named =
    let first = named 0 type id refl refl in
    let here : start + 0 ≡ start = omega arith in
    let reference : f start ≡ Id id = ap f (sym here) ∙ first.0 in
    rw (
      reference,
      first.1,
      named_types f sub_types (suc start) written ids (omega (arith, count)) (λ place more other e e'.
          let (reference, composite) = named (suc place) more other e e' in
          let moved : suc start + place ≡ start + suc place = omega arith in
          (ap f moved ∙ reference, composite)),
    )

module _ (features : Features) (cx : Context) (written : List (SubType ℕ)) (ids : List ℕ) (interned : List DefType) (sub_types : List (SubType Index)) (are : AreWritten features cx.types written)
    (known : AreKnown features cx.types ids interned sub_types) where
  all_named : AreNamed (index_at ids) sub_types 0 written ids
  all_named place type id e at =
      let same : 0 + place ≡ place = omega arith in
      (ap (index_at ids) same ∙ index_is features cx.types ids interned sub_types known place id at, sym (ap (λ (sub : SubType Index). sub.composite_type) (get_or_from_slice_get sub_types id (sub_map (index_at ids) type) no_sub_type (sub_at features cx.types ids interned sub_types known written are place id type e at))))

  pub types_by_ids : map (named_map (index_at ids)) (named_from 0 written) ≡ map (named_by_id sub_types) ids
  types_by_ids = named_types (index_at ids) sub_types 0 written ids (as_many features cx.types ids interned sub_types known ∙ are.count) all_named

  pub items_are : (test : Below) → items_map (index_at ids) (items_in written cx test) (items_by_ids ids sub_types cx).is_below ≡ items_by_ids ids sub_types cx
  items_are test = rw types_by_ids
