use Rattle.std.proofs.Common.{◌≡◌, ◌+◌, ◌<◌, ℕ, zero, suc, length, Option, Some, None, slice_get, refl, sym, ap, ◌∙◌, subst, arith}
use Rattle.std.proofs.lemmas.Option.{same_Some}
use Rattle.std.specs.List.{AllByRecursion}
use Rattle.wasm_spec.specs.Features.{default_features}
use Rattle.wasm_spec.specs.Trees.{AreDistinct, DefType, type_at, unrolled}
use Rattle.wasm_spec.specs.TypeReferences.{composite_refs, sub_map, sub_refs}
use Rattle.wasm_spec.specs.Types.{SubType}
use Rattle.wasmparser_type_relations.specs.Chains.{AreBelowEarlier, IsBelowEarlier, below_none, below_one}
use Rattle.wasmparser_types.specs.Index.{Index, Id}
use Rattle.wasmparser_validator.specs.Examples.{empty_structure, function_to, ids, interned, open_below, open_type, sub_types, types, written_types}
use Rattle.wasmparser_validator.specs.TypesById.{AreKnown, AreWritten, IsIdBelow, stands_for}
use Rattle.wasmparser_validator.proofs.examples.known_types.Goals as goal

-- ---- no type has two ids

-- the place of a type among these, by its references
abbrev place_in : Option (SubType DefType) → ℕ
place_in None = 3
place_in (Some type) = length type.supertypes + (length (composite_refs type.composite_type) + length (composite_refs type.composite_type))

abbrev place : DefType → ℕ
place type = place_in (unrolled type)

placed : (index : ℕ) (type : DefType) → slice_get interned index ≡ Some type → index ≡ place type
placed zero type e = let same : type_at interned 0 ≡ type = same_Some _ _ e in ap place same
placed (suc zero) type e = let same : type_at interned 1 ≡ type = same_Some _ _ e in ap place same
placed (suc (suc zero)) type e = let same : type_at interned 2 ≡ type = same_Some _ _ e in ap place same
placed (suc (suc (suc index))) type e = absurd cc

distinct : AreDistinct interned
distinct i j type e e' = placed i type e ∙ sym (placed j type e')

-- ---- sub types

by_place : (P : ℕ → SubType Index → Type 0) → P 0 (open_type empty_structure) → P 1 (open_below (Id 0) empty_structure) → P 2 (function_to (Id 1))
    → (id : ℕ) (type : SubType Index) → slice_get sub_types id ≡ Some type → P id type
by_place P first second third zero type e = subst (P 0) (same_Some _ _ e) first
by_place P first second third (suc zero) type e = subst (P 1) (same_Some _ _ e) second
by_place P first second third (suc (suc zero)) type e = subst (P 2) (same_Some _ _ e) third
by_place P first second third (suc (suc (suc id))) type e = absurd cc

earlier : AreBelowEarlier (slice_get sub_types)
earlier =
    by_place (IsBelowEarlier (slice_get sub_types)) (below_none refl) (below_one 0 refl (omega arith) (record { type = open_type empty_structure; is = refl; holds = refl })) (below_none refl)

are_known : AreKnown default_features types ids interned sub_types
are_known = record {
  stand = refl;
  within = (omega arith, (omega arith, (omega arith, (omega arith, tt))));
  count = refl;
  unrolls = by_place (λ id type. unrolled (type_at interned id) ≡ Some (sub_map (stands_for interned) type)) refl refl refl;
  refer = by_place (λ id type. AllByRecursion (IsIdBelow (length interned)) (sub_refs type)) tt (omega arith, tt) (omega arith, tt);
  earlier = earlier;
  distinct = λ on. distinct;
}

-- ---- types as they are written

by_index : (P : ℕ → SubType ℕ → Type 0) → P 0 (open_type empty_structure) → P 1 (open_type empty_structure) → P 2 (open_below 1 empty_structure) → P 3 (function_to 2)
    → (index : ℕ) (type : SubType ℕ) → slice_get written_types index ≡ Some type → P index type
by_index P first second third fourth zero type e = subst (P 0) (same_Some _ _ e) first
by_index P first second third fourth (suc zero) type e = subst (P 1) (same_Some _ _ e) second
by_index P first second third fourth (suc (suc zero)) type e = subst (P 2) (same_Some _ _ e) third
by_index P first second third fourth (suc (suc (suc zero))) type e = subst (P 3) (same_Some _ _ e) fourth
by_index P first second third fourth (suc (suc (suc (suc index)))) type e = absurd cc

are_written : AreWritten default_features types written_types
are_written = record {
  count = refl;
  unrolls = by_index (λ index type. unrolled (type_at types index) ≡ Some (sub_map (type_at types) type)) refl refl refl refl;
  refer = by_index (λ index type. AllByRecursion (λ other. other < length types) (sub_refs type)) tt tt (omega arith, tt) (omega arith, tt);
  plain = λ off index type e. absurd cc;
}

pub returns : goal.returns
returns c = record { written = are_written; known = are_known; first = refl; second = refl; third = refl; none = refl }
