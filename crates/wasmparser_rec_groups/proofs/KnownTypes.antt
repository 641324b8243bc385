-- Ids stand for what they stood for before more was interned, and no known type names a type by its index in a module.
use Rattle.std.proofs.Common.{◌+◌, ◌≡◌, ℕ, ◌-◌, ◌<◌, Bool, true, false, List, [], ◌∷◌, ◌++◌, length, map, Option, Some, None, refl, sym, ap, ◌∙◌, subst, arith, nat_lt, ◌≤◌}
use Rattle.std.proofs.lemmas.Bool.{ltb-false, ltb-true}
use Rattle.std.proofs.lemmas.Grind.{flat_map-append}
use Rattle.std.proofs.lemmas.List.{length-append}
use Rattle.std.specs.List.{AllByRecursion, slice_get}
use Rattle.wasm_spec.proofs.GroupTrees.{type_kept}
use Rattle.wasm_spec.proofs.MappedTypes.{all_map}
use Rattle.wasm_spec.proofs.TypeMaps.{subs_refs-map}
use Rattle.wasm_spec.specs.Syntax.{members}
use Rattle.wasm_spec.specs.TypeReferences.{sub_refs, subs_map, subs_refs}
use Rattle.wasm_spec.specs.Trees.{DefType, places_of, tree_of, type_at}
use Rattle.wasm_spec.specs.Types.{RecGroup, SubType}
use Rattle.wasmparser_type_relations.specs.Canonical.{canonical_index, id_or_place}
use Rattle.wasmparser_type_list.specs.TypeTables.{Interns, range_after, TablesAgree, TypeTables, absolute, sub_types}
use Rattle.wasmparser_type_list.proofs.IdLaws.{id_count}
use Rattle.wasmparser_type_list.proofs.InternedGroups.{still_found, types_more}
use Rattle.wasmparser_type_list.specs.IdTypes.{AreFoundByKey, IsFoundByKey, RefersToNoModule, group_after, id_types, tree_as}
use Rattle.wasmparser_rec_groups.specs.Contexts.{types_of}
use Rattle.wasmparser_rec_groups.proofs.CanonicalGroups.{members_mapped, of_members}
use Rattle.wasmparser_rec_groups.specs.Interning.{AreKnown, IsModuleIndex, NamesModuleTypes, canonical_members}
use Rattle.wasmparser_types.specs.Index.{Index, Module, RecGroup as Place, Id, module_index}
use Rattle.wasmparser_types.specs.RecGroups as code

module _ (canonical : ℕ → Bool) (old new : TypeTables) (agree : TablesAgree old) where
  same_from : (more : List DefType) (ids : List ℕ) → AllByRecursion (λ id. id < length old.types) ids
      → map (type_at (id_types canonical old ++ more)) ids ≡ map (type_at (id_types canonical old)) ids
  same_from more [] known = refl
  same_from more (id ∷ ids) known =
      let within : id < length (id_types canonical old) = let h = known.0 in omega (arith, h, id_count canonical old agree) in
      ap (λ t. t ∷ map (type_at (id_types canonical old ++ more)) ids) (type_kept (id_types canonical old) more id within)
      ∙ ap (λ q. type_at (id_types canonical old) id ∷ q) (same_from more ids known.1)

  -- the types of known ids, before and after
  pub same_context : (is_canonical is_new : Bool) (group : List (SubType Index)) (number : ℕ) → Interns old new is_canonical group is_new number → (ids : List ℕ) → AreKnown old ids
      → types_of canonical new ids ≡ types_of canonical old ids
  same_context is_canonical true group number interned ids known =
      let added = group_after (length old.types) group in
      ap (λ q. map (type_at q) ids) (types_more old new group number agree interned.adds canonical)
      ∙ same_from (places_of (tree_as (canonical number) number (tree_of (id_types canonical old) added)) 0 (members added)) ids known
  same_context is_canonical false group number interned ids known = ap (λ t. types_of canonical t ids) interned.1

no_module_left : (ids : List ℕ) (start : ℕ) (index : Index) → IsModuleIndex index → module_index (absolute start (canonical_index ids index)) ≡ None
no_module_left ids start (Module n) h = go (slice_get ids n) where
  go : (o : Option ℕ) → module_index (absolute start (id_or_place o (n - length ids))) ≡ None
  go None = refl
  go (Some id) = refl
no_module_left ids start (Place place) h = absurd h
no_module_left ids start (Id id) h = absurd h

pub join : {X : Type 0} (P : X → Type 0) (xs ys : List X) → AllByRecursion P xs → AllByRecursion P ys → AllByRecursion P (xs ++ ys)
join P [] ys h k = k
join P (x ∷ xs) ys h k = (h.0, join P xs ys h.1 k)

-- a list without type indexes of modules stays so
pub still_no_module : (old new : TypeTables) (ids : List ℕ) (group : RecGroup Index) (is_canonical is_new : Bool) (number : ℕ) → Interns old new is_canonical (canonical_members ids group) is_new number
    → NamesModuleTypes group → RefersToNoModule old → RefersToNoModule new
still_no_module old new ids group is_canonical false number interned names none = subst RefersToNoModule (sym interned.1) none
still_no_module old new ids group is_canonical true number interned names none =
    let start = length old.types in
    let IsNone : Index → Type 0 = λ index. module_index index ≡ None in
    let plain = code.members group in
    let added = canonical_members ids group in
    let refs : subs_refs (subs_map (absolute start) added) ≡ map (absolute start) (map (canonical_index ids) (subs_refs plain)) =
    subs_refs-map (absolute start) added ∙ ap (λ ms. map (absolute start) (subs_refs ms)) (members_mapped (canonical_index ids) group)
    ∙ ap (map (absolute start)) (subs_refs-map (canonical_index ids) plain) in
    let own : AllByRecursion IsNone (map (absolute start) (map (canonical_index ids) (subs_refs plain))) =
    all_map (λ index. module_index (absolute start index) ≡ None) IsNone (absolute start) (λ index h. h) (map (canonical_index ids) (subs_refs plain))
    (all_map IsModuleIndex (λ index. module_index (absolute start index) ≡ None) (canonical_index ids) (no_module_left ids start) (subs_refs plain) (of_members IsModuleIndex group names)) in
    let parts : subs_refs (sub_types new) ≡ subs_refs (sub_types old) ++ subs_refs (subs_map (absolute start) added) =
    ap subs_refs interned.adds.types ∙ flat_map-append sub_refs (sub_types old) (subs_map (absolute start) added) in
    subst (AllByRecursion IsNone) (sym (parts ∙ ap (λ q. subs_refs (sub_types old) ++ q) refs)) (join IsNone (subs_refs (sub_types old)) _ none own)

-- groups that count as canonical are still found by their keys
pub still_canonical : (canonical : ℕ → Bool) (old new : TypeTables) (is_canonical is_new : Bool) (group : List (SubType Index)) (number : ℕ) → Interns old new is_canonical group is_new number
    → (canonical number ≡ true → is_canonical ≡ true) → AreFoundByKey canonical old → AreFoundByKey canonical new
still_canonical canonical old new is_canonical false group number interned own found n less counted = subst (AreFoundByKey canonical) (sym interned.1) found n less counted
still_canonical canonical old new is_canonical true group number interned own found n less counted = go (nat_lt n (length old.groups)) refl where
  was_found : n < length old.groups → IsFoundByKey new n
  was_found before = still_found old new is_canonical group true number n interned (found n before counted)

  is_last : length old.groups ≤ n → n ≡ number
  is_last after =
      let count : length new.groups ≡ length old.groups + 1 = ap length interned.adds.groups ∙ length-append old.groups (range_after (length old.types) (length group) ∷ []) in
      omega (arith, after, less, count, interned.adds.number_is)

  now_found : n ≡ number → IsFoundByKey new n
  now_found is = subst (IsFoundByKey new) (sym is) (group, interned.known (own (subst (λ m. canonical m ≡ true) is counted)))

  go : (b : Bool) → nat_lt n (length old.groups) ≡ b → IsFoundByKey new n
  go true before = was_found (ltb-true n (length old.groups) before)
  go false after = now_found (is_last (ltb-false n (length old.groups) after))
