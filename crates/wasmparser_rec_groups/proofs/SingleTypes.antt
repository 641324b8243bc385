-- A type that is interned by itself leaves a list such as subtyping and the laws ask for.
use Rattle.std.proofs.Common.{◌≡◌, ℕ, zero, suc, ◌+◌, Bool, true, false, [], ◌∷◌, ◌++◌, length, map, Some, None, inl, inr, refl, sym, ap, ◌∙◌, subst, arith, slice_get}
use Rattle.std.proofs.lemmas.Grind.{flat_map-append}
use Rattle.std.proofs.lemmas.List.{length-map}
use Rattle.std.specs.List.{AllByRecursion}
use Rattle.wasm_spec.proofs.MappedTypes.{all_map}
use Rattle.wasm_spec.proofs.Places.{get_cases}
use Rattle.wasm_spec.proofs.TypeMaps.{subs_refs-map}
use Rattle.wasm_spec.specs.TypeReferences.{sub_map, sub_refs, subs_map, subs_refs}
use Rattle.wasm_spec.specs.Types.{SubType}
use Rattle.wasmparser_type_relations.specs.Chains.{AreBelowEarlier, IsBelowEarlier, below_none, below_one}
use Rattle.wasmparser_type_list.specs.TypeTables.{Interns, TypeTables, absolute, sub_types}
use Rattle.wasmparser_type_list.specs.IdTypes.{RefersToNoModule}
use Rattle.wasmparser_rec_groups.proofs.KnownTypes.{join}
use Rattle.wasmparser_rec_groups.proofs.CanonicalGroups.{old_type, same_abstract, still_below}
use Rattle.wasmparser_types.specs.Index.{Index, Module, RecGroup as Place, Id, module_index}
use Rattle.wasmparser_types.specs.SubTypes.{sub_type}

module _ (old new : TypeTables) (type : SubType Index) where
  abbrev start : ℕ
  start = length old.types

  module _ (types : sub_types new ≡ sub_types old ++ subs_map (absolute (length old.types)) (type ∷ [])) where
    now_below : IsBelowEarlier (slice_get (sub_types old)) start type → IsBelowEarlier (slice_get (sub_types new)) start (sub_map (absolute start) type)
    now_below (below_none none) = below_none (ap (map (absolute start)) none)
    now_below (below_one t is less kind) =
        below_one t (ap (map (absolute start)) is) less
        (record { type = kind.type; is = old_type old new (type ∷ []) types t kind.type kind.is; holds = kind.holds ∙ sym (same_abstract (absolute start) type.composite_type) })

    at_own : (place n : ℕ) (found : SubType Index) → n ≡ length (sub_types old) + place → slice_get (subs_map (absolute start) (type ∷ [])) place ≡ Some found
        → IsBelowEarlier (slice_get (sub_types old)) start type → IsBelowEarlier (slice_get (sub_types new)) n found
    at_own zero n found is at below =
        let one : sub_map (absolute start) type ≡ found = cc in
        let n_is : start ≡ n = omega (arith, is, length-map old.types sub_type) in
        subst (λ m. IsBelowEarlier (slice_get (sub_types new)) m found) n_is (subst (IsBelowEarlier (slice_get (sub_types new)) start) one (now_below below))
    at_own (suc place) n found is at below = absurd cc

    all_below : AreBelowEarlier (slice_get (sub_types old)) → IsBelowEarlier (slice_get (sub_types old)) start type → AreBelowEarlier (slice_get (sub_types new))
    all_below earlier below n found at = elim (get_cases (sub_types old) (subs_map (absolute start) (type ∷ [])) n found (sym (ap (λ q. slice_get q n) types) ∙ at)) [
      | inl was ↦ still_below old new (type ∷ []) types n found (earlier n found was)
      | inr added ↦ at_own added.0 n found added.1 added.2 below
    ]

  pub still_earlier : (is_new : Bool) (number : ℕ) → AreBelowEarlier (slice_get (sub_types old)) → IsBelowEarlier (slice_get (sub_types old)) start type
      → Interns old new true (type ∷ []) is_new number → AreBelowEarlier (slice_get (sub_types new))
  still_earlier true number earlier below interned = all_below interned.adds.types earlier below
  still_earlier false number earlier below interned = subst (λ t. AreBelowEarlier (slice_get (sub_types t))) (sym interned.1) earlier

  none_left : (index : Index) → module_index index ≡ None → module_index (absolute start index) ≡ None
  none_left (Module n) none = none
  none_left (Place place) none = refl
  none_left (Id id) none = refl

  pub still_no_module : (is_new : Bool) (number : ℕ) → RefersToNoModule old → AllByRecursion (λ index. module_index index ≡ None) (sub_refs type)
      → Interns old new true (type ∷ []) is_new number → RefersToNoModule new
  still_no_module false number none own interned = subst RefersToNoModule (sym interned.1) none
  still_no_module true number none own interned =
      let IsNone : Index → Type 0 = λ index. module_index index ≡ None in
      let added = subs_map (absolute start) (type ∷ []) in
      let plain : AllByRecursion IsNone (subs_refs (type ∷ [])) = join IsNone (sub_refs type) [] own tt in
      let mapped : AllByRecursion IsNone (subs_refs added) =
      subst (AllByRecursion IsNone) (sym (subs_refs-map (absolute start) (type ∷ []))) (all_map IsNone IsNone (absolute start) none_left (subs_refs (type ∷ [])) plain) in
      let parts : subs_refs (sub_types new) ≡ subs_refs (sub_types old) ++ subs_refs added = ap subs_refs interned.adds.types ∙ flat_map-append sub_refs (sub_types old) added in
      subst (AllByRecursion IsNone) (sym parts) (join IsNone (subs_refs (sub_types old)) (subs_refs added) none mapped)
