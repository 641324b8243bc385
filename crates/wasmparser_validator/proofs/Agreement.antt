-- Over ids the same is below the same, as far as types are named and wanted.
use Rattle.std.proofs.Common.{◌≡◌, ◌<◌, ◌≤◌, ℕ, Bool, true, false, ◌||◌, List, length, Some, None, slice_get, option_map, unwrap_or, nat_lt, refl, sym, ap, ◌∙◌, arith}
use Rattle.std.proofs.lemmas.Bool.{and_parts}
use Rattle.std.proofs.lemmas.Bool.Decides.{nat_tests, same_from_decides}
use Rattle.std.proofs.lemmas.Option.{slice_get_past}
use Rattle.std.specs.Bool.{Decides}
use Rattle.wasm_bodies_laws.specs.References.{AgreeOn, WantedBy, is_abstract, is_wanted_under}
use Rattle.wasm_spec.proofs.Places.{get_some}
use Rattle.wasm_spec.specs.Features.{Features, needs_type_canonicalization}
use Rattle.wasm_spec.specs.ReferenceMaps.{AreTypes}
use Rattle.wasm_spec.specs.Subtyping.{ValBelow}
use Rattle.wasm_spec.specs.Trees.{DefType, no_type, unrolled}
use Rattle.wasm_spec.specs.TypeReferences.{val_map, val_refs}
use Rattle.wasm_spec.specs.Types.{Abstract, Concrete, ValType, I32, I64, F32, F64, V128, Ref, SubType}
use Rattle.wasm_validity.specs.ModuleBodies.{Below, TellsBelow, items_in}
use Rattle.wasm_validity_laws.specs.WantedTypes.{is_named_under}
use Rattle.wasm_validity_laws.specs.Written.{is_named}
use Rattle.wasm_validity.specs.ConstantTyping.{meant}
use Rattle.wasm_validity.specs.Context.{Context}
use Rattle.wasm_validity.specs.Rules.{IsBelow}
use Rattle.wasmparser_type_relations.specs.Chains.{by_id}
use Rattle.wasmparser_type_relations.specs.Decision.{is_val_below}
use Rattle.wasmparser_types.specs.Index.{Index, Module}
use Rattle.wasmparser_validator.proofs.BelowById.{RefersToId, below_nothing, decided, decided_abstract, id_is_type}
use Rattle.wasmparser_validator.proofs.Ids.{as_many, id_of, index_is, index_stands, index_within}
use Rattle.wasmparser_validator.specs.TypesById.{AreKnown, id_or, index_at, stands_for}

-- ---- numbers and tests

is_less : (n m : ℕ) → nat_lt n m ≡ true → n < m
is_less n m e = grind (arith, nat_tests)

not_less : (n m : ℕ) → nat_lt n m ≡ false → m ≤ n
not_less n m e = grind (arith, nat_tests)

never : (b : Bool) → (b ≡ true → ⊥) → b ≡ false
never true no_way = absurd (no_way refl)
never false no_way = refl

-- ---- which types refer to none

still_abstract : {R S : Type 0} (f : R → S) (type : ValType R) → is_abstract (val_map f type) ≡ is_abstract type
still_abstract f I32 = refl
still_abstract f I64 = refl
still_abstract f F32 = refl
still_abstract f F64 = refl
still_abstract f V128 = refl
still_abstract f (Ref nullable (Abstract heap)) = refl
still_abstract f (Ref nullable (Concrete r)) = refl

module _ (features : Features) (cx : Context) (ids : List ℕ) (interned : List DefType) (sub_types : List (SubType Index)) (known : AreKnown features cx.types ids interned sub_types) where
  abbrev f : Index → DefType
  f = stands_for interned

  abbrev by_ids : ValType ℕ → ValType Index
  by_ids type = val_map (index_at ids) type

  -- ---- types that are named

  -- what they mean is what their ids stand for
  meant_by_id : (type : ValType ℕ) → is_named (length cx.types) type ≡ true → meant cx type ≡ Some (val_map f (by_ids type))
  meant_by_id I32 named = refl
  meant_by_id I64 named = refl
  meant_by_id F32 named = refl
  meant_by_id F64 named = refl
  meant_by_id V128 named = refl
  meant_by_id (Ref nullable (Abstract heap)) named = refl
  meant_by_id (Ref nullable (Concrete index)) named =
      let less = is_less index (length cx.types) named in
      let (type, at) = get_some cx.types index less in
      let stands : type ≡ f (index_at ids index) = ap (λ q. unwrap_or q no_type) (sym at) ∙ index_stands features cx.types ids interned sub_types known index less in
      ap (λ q. option_map (λ defined. Ref nullable defined) (option_map (λ t. Concrete t) q)) at ∙ ap (λ t. Some (Ref nullable (Concrete t))) stands

  are_types : (type : ValType ℕ) → is_named (length cx.types) type ≡ true → AreTypes (by_id (slice_get sub_types)) (val_refs (by_ids type))
  are_types I32 named = tt
  are_types I64 named = tt
  are_types F32 named = tt
  are_types F64 named = tt
  are_types V128 named = tt
  are_types (Ref nullable (Abstract heap)) named = tt
  are_types (Ref nullable (Concrete index)) named =
      (id_is_type features cx.types ids interned sub_types known (index_at ids index) (index_within features cx.types ids interned sub_types known index (is_less index (length cx.types) named)), tt)

  refers_to_id : (type : ValType ℕ) → is_named (length cx.types) type ≡ true → RefersToId (by_ids type)
  refers_to_id I32 named = tt
  refers_to_id I64 named = tt
  refers_to_id F32 named = tt
  refers_to_id F64 named = tt
  refers_to_id V128 named = tt
  refers_to_id (Ref nullable (Abstract heap)) named = tt
  refers_to_id (Ref nullable (Concrete index)) named =
      let (id, at) = id_of features cx.types ids interned sub_types known index (is_less index (length cx.types) named) in
      (id, index_is features cx.types ids interned sub_types known index id at)

  -- ---- a type that isn't

  meant_none : (type : ValType ℕ) → is_named (length cx.types) type ≡ false → meant cx type ≡ None
  meant_none I32 unnamed = absurd cc
  meant_none I64 unnamed = absurd cc
  meant_none F32 unnamed = absurd cc
  meant_none F64 unnamed = absurd cc
  meant_none V128 unnamed = absurd cc
  meant_none (Ref nullable (Abstract heap)) unnamed = absurd cc
  meant_none (Ref nullable (Concrete index)) unnamed =
      ap (λ q. option_map (λ defined. Ref nullable defined) (option_map (λ t. Concrete t) q)) (slice_get_past cx.types index (not_less index (length cx.types) unnamed))

  below_none : (a b : ValType ℕ) → is_named (length cx.types) a ≡ false → IsBelow cx a b → ⊥
  below_none a b unnamed is = let none = rw (meant_none a unnamed) at is in none

  nothing_above : (a b : ValType ℕ) → is_named (length cx.types) a ≡ false → is_named (length cx.types) b ≡ true → is_val_below (by_id (slice_get sub_types)) (by_ids a) (by_ids b) ≡ false
  nothing_above I32 b unnamed named = absurd cc
  nothing_above I64 b unnamed named = absurd cc
  nothing_above F32 b unnamed named = absurd cc
  nothing_above F64 b unnamed named = absurd cc
  nothing_above V128 b unnamed named = absurd cc
  nothing_above (Ref nullable (Abstract heap)) b unnamed named = absurd cc
  nothing_above (Ref nullable (Concrete index)) b unnamed named =
      let past = not_less index (length cx.types) unnamed in
      let itself : index_at ids index ≡ Module index = ap (id_or index) (slice_get_past ids index (omega (arith, past, as_many features cx.types ids interned sub_types known))) in
      ap (λ r. is_val_below (by_id (slice_get sub_types)) (Ref nullable (Concrete r)) (by_ids b)) itself
      ∙ below_nothing (slice_get sub_types) nullable index (by_ids b) (refers_to_id b named)

  -- ---- tests

  module _ (test : Below) (tells : TellsBelow cx test) where
    named_told : (a b : ValType ℕ) → is_named (length cx.types) a ≡ true → is_named (length cx.types) b ≡ true → Decides (test a b) (ValBelow unrolled (val_map f (by_ids a)) (val_map f (by_ids b)))
    named_told a b named named' = (
      λ so. rw (meant_by_id a named, meant_by_id b named') at ((tells a b).0 so),
      λ h. (tells a b).1 (rw (meant_by_id a named, meant_by_id b named') h),
    )

    by_ids_decided : (a b : ValType ℕ) → is_named (length cx.types) a ≡ true → is_named (length cx.types) b ≡ true → is_wanted_under features b ≡ true
        → Decides (is_val_below (by_id (slice_get sub_types)) (by_ids a) (by_ids b)) (ValBelow unrolled (val_map f (by_ids a)) (val_map f (by_ids b)))
    by_ids_decided a b named named' wanted = by_features (needs_type_canonicalization features) refl
      where
        by_features : (canonical : Bool) → needs_type_canonicalization features ≡ canonical → Decides (is_val_below (by_id (slice_get sub_types)) (by_ids a) (by_ids b)) (ValBelow unrolled (val_map f (by_ids a)) (val_map f (by_ids b)))
        by_features true on = decided features cx.types ids interned sub_types known on (by_ids a) (by_ids b) (are_types a named) (are_types b named')
        by_features false off =
            let plain : is_abstract b ≡ true = ap (λ canonical. canonical || is_abstract b) (sym off) ∙ wanted in
            decided_abstract features cx.types ids interned sub_types known (by_ids a) (by_ids b) (are_types a named) (still_abstract (index_at ids) b ∙ plain)

    agree_at : (a b : ValType ℕ) → is_named (length cx.types) b ≡ true → is_wanted_under features b ≡ true → is_val_below (by_id (slice_get sub_types)) (by_ids a) (by_ids b) ≡ test a b
    agree_at a b named wanted = by_name (is_named (length cx.types) a) refl
      where
        by_name : (is : Bool) → is_named (length cx.types) a ≡ is → is_val_below (by_id (slice_get sub_types)) (by_ids a) (by_ids b) ≡ test a b
        by_name true is = same_from_decides (is_val_below (by_id (slice_get sub_types)) (by_ids a) (by_ids b)) (test a b) (by_ids_decided a b is named wanted) (named_told a b is named)
        by_name false isnt = nothing_above a b isnt named ∙ sym (never (test a b) (λ so. below_none a b isnt ((tells a b).0 so)))

    pub agrees : (written : List (SubType ℕ)) → AgreeOn (WantedBy (is_named_under (length cx.types) features)) (index_at ids) (items_in written cx test) (is_val_below (by_id (slice_get sub_types)))
    agrees written a b wanted = let parts = and_parts (is_named (length cx.types) b) (is_wanted_under features b) wanted in agree_at a b parts.0 parts.1
