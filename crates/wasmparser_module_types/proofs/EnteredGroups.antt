-- What a list holds after a group was entered.
use Rattle.std.proofs.Common.{◌≡◌, ℕ, ◌+◌, ◌-◌, ◌<◌, Bool, true, false, List, [], ◌∷◌, ◌++◌, length, map, drop, Some, refl, sym, ap, ◌∙◌, subst, arith}
use Rattle.std.proofs.Math.Seq.{drop-append_seam}
use Rattle.std.proofs.lemmas.List.{append_assoc, length-append, length-map, map-append}
use Rattle.std.proofs.lemmas.Option.{slice_get_within}
use Rattle.std.specs.List.{AllByRecursion, range_with_len, slice_get}
use Rattle.std.specs.Option.{unwrap_or}
use Rattle.wasm_spec.proofs.GroupTrees.{length-places_of}
use Rattle.wasm_spec.proofs.MappedTypes.{all_map}
use Rattle.wasm_spec.proofs.Places.{all_by_place, get_left, get_right, get_some}
use Rattle.wasm_spec.specs.Features.{Features, needs_type_canonicalization}
use Rattle.wasm_spec.specs.Syntax as syntax
use Rattle.wasm_spec.specs.TypeReferences.{sub_map, subs_map}
use Rattle.wasm_spec.specs.Trees.{AreDistinct, DefType, no_type, places_of, tree_of, type_at}
use Rattle.wasm_spec.specs.Types.{RecGroup, SubType}
use Rattle.wasmparser_type_list.specs.TypeTables.{Interns, TablesAgree, TypeTables, absolute, group_ids, ids_in, range_after}
use Rattle.wasmparser_type_list.proofs.IdLaws.{id_count, ids_distinct}
use Rattle.wasmparser_type_list.proofs.InternedGroups.{types_more}
use Rattle.wasmparser_type_list.specs.IdTypes.{AreFoundByKey, RefersToNoModule, group_after, tree_as}
use Rattle.wasmparser_module_types.specs.History.{Enters, HasRoom, IsHeld, is_held, is_new}
use Rattle.wasmparser_module_types.specs.ModuleTypes.{all_groups, interned_types, module_types}
use Rattle.wasmparser_rec_groups.specs.Interning.{AreKnown}
use Rattle.wasmparser_types.specs.Index.{Index, number_of}

-- ---- lists

-- what holds of the items of two lists holds of those of the second
right_part : {X : Type 0} (P : X → Type 0) (xs ys : List X) → AllByRecursion P (xs ++ ys) → AllByRecursion P ys
right_part P [] ys h = h
right_part P (x ∷ xs) ys h = right_part P xs ys h.1

-- what follows one front is told by the list
same_rest : {X : Type 0} (front other more rest : List X) → front ≡ other → front ++ more ≡ other ++ rest → more ≡ rest
same_rest front other more rest one same = sym (drop-append_seam front more) ∙ ap (drop (length front)) same ∙ ap (λ q. drop (length q) (other ++ rest)) one ∙ drop-append_seam other rest

-- the last items of a list, by their places
last_items : (front more : List DefType) → map (type_at (front ++ more)) (range_with_len (length front) (length more)) ≡ more
last_items front [] = refl
last_items front (type ∷ more) =
    let here : slice_get (front ++ type ∷ more) (length front) ≡ Some type =
    let none : length front + 0 ≡ length front = omega arith in subst (λ n. slice_get (front ++ type ∷ more) n ≡ Some type) none (get_right front (type ∷ more) 0) in
    let moved : front ++ type ∷ more ≡ (front ++ type ∷ []) ++ more = sym (append_assoc front (type ∷ []) more) in
    let count : length front + 1 ≡ length (front ++ type ∷ []) = omega (arith, length-append front (type ∷ [])) in
    ap (λ o. unwrap_or o no_type ∷ map (type_at (front ++ type ∷ more)) (range_with_len (length front + 1) (length more))) here
    ∙ ap (λ q. type ∷ map (type_at q) (range_with_len (length front + 1) (length more))) moved
    ∙ ap (λ n. type ∷ map (type_at ((front ++ type ∷ []) ++ more)) (range_with_len n (length more))) count
    ∙ ap (λ q. type ∷ q) (last_items (front ++ type ∷ []) more)

-- no type is one of those before it
apart : (held own : List DefType) → AreDistinct (held ++ own) → AllByRecursion (λ type. ¬ (IsHeld held type)) own
apart held own distinct = all_by_place (λ type. ¬ (IsHeld held type)) own not_held where
  not_held : (place : ℕ) (type : DefType) → slice_get own place ≡ Some type → ¬ (IsHeld held type)
  not_held place type at (id, here) =
      let within : id < length held = slice_get_within held id type here in
      let first : slice_get (held ++ own) id ≡ Some type = get_left held own id within ∙ here in
      let second : slice_get (held ++ own) (length held + place) ≡ Some type = get_right held own place ∙ at in
      absurd (omega (arith, within, distinct id (length held + place) type first second))

-- ---- groups

module _ (old new : TypeTables) (agree : TablesAgree old) (now : TablesAgree new) (canonical : Bool) (group : List (SubType Index)) (number : ℕ) (own : List DefType) where
  abbrev held : List DefType
  held = interned_types old

  abbrev ids : List ℕ
  ids = group_ids new number

  abbrev last : RecGroup ℕ
  last = group_after (length old.types) group

  abbrev more : List DefType
  more = places_of (tree_as true number (tree_of held last)) 0 (syntax.members last)

  -- a new group's types follow the others
  added : Interns old new canonical group true number → map (type_at (interned_types new)) ids ≡ own → interned_types new ≡ held ++ own
  added interned listed = grown ∙ ap (λ q. held ++ q) (sym more_is ∙ listed) where
    grown : interned_types new ≡ held ++ more
    grown = types_more old new group number agree interned.adds all_groups

    counted : length more ≡ length group
    counted =
        length-places_of (tree_as true number (tree_of held last)) 0 (syntax.members last)
        ∙ length-map (subs_map (absolute (length old.types)) group) (sub_map number_of) ∙ length-map group (sub_map (absolute (length old.types)))

    ranged : ids ≡ range_with_len (length held) (length more)
    ranged =
        let range = range_after (length old.types) (length group) in
        let here : length old.groups + 0 ≡ number = omega (arith, interned.adds.number_is) in
        let at : slice_get new.groups number ≡ Some range =
        ap (λ q. slice_get q number) interned.adds.groups ∙ subst (λ n. slice_get (old.groups ++ range ∷ []) n ≡ Some range) here (get_right old.groups (range ∷ []) 0) in
        let count : length old.types + length group - length old.types ≡ length more = omega (arith, counted) in
        ap ids_in at ∙ ap (range_with_len (length old.types)) count ∙ ap (λ n. range_with_len n (length more)) (sym (id_count all_groups old agree))

    more_is : map (type_at (interned_types new)) ids ≡ more
    more_is = ap (map (type_at (interned_types new))) ranged ∙ ap (λ q. map (type_at q) (range_with_len (length held) (length more))) grown ∙ last_items held more

  has : (id : ℕ) → id < length new.types → IsHeld (interned_types new) (type_at (interned_types new) id)
  has id less =
      let (type, here) = get_some (interned_types new) id (omega (arith, less, id_count all_groups new now)) in
      (id, here ∙ ap Some (sym (ap (λ q. unwrap_or q no_type) here)))

  entered : (features : Features) → HasRoom held own → canonical ≡ needs_type_canonicalization features → (is_added : Bool) → Interns old new canonical group is_added number → RefersToNoModule new
      → (needs_type_canonicalization features ≡ true → AreFoundByKey all_groups new) → AreKnown new ids → map (type_at (interned_types new)) ids ≡ own → Enters features held own (interned_types new)
  entered features room asked true interned no_module found known listed =
      let all = added interned listed in
      subst (Enters features held own) (sym all) (is_new room (λ needs. apart held own (subst AreDistinct all (ids_distinct new now no_module all_groups (found needs)))))
  entered features room asked false interned no_module found known listed =
      let same : interned_types new ≡ held = ap interned_types interned.1 in
      let are_held : AllByRecursion (IsHeld (interned_types new)) own =
      subst (AllByRecursion (IsHeld (interned_types new))) listed (all_map (λ id. id < length new.types) (IsHeld (interned_types new)) (type_at (interned_types new)) has ids known) in
      subst (Enters features held own) (sym same) (is_held room (sym asked ∙ interned.0) (subst (λ q. AllByRecursion (IsHeld q) own) same are_held))

-- A group was entered whose ids were added to those of a module.
pub enters : (features : Features) (old new : TypeTables) (group : List (SubType Index)) (is_added : Bool) (number : ℕ) (before own : List DefType) (ids new_ids : List ℕ) → TablesAgree old → TablesAgree new
    → Interns old new (needs_type_canonicalization features) group is_added number → RefersToNoModule new → (needs_type_canonicalization features ≡ true → AreFoundByKey all_groups new)
    → AreKnown new new_ids → new_ids ≡ ids ++ group_ids new number → module_types new ids ≡ before → module_types new new_ids ≡ before ++ own → HasRoom (interned_types old) own
    → Enters features (interned_types old) own (interned_types new)
enters features old new group is_added number before own ids new_ids agree now interned no_module found known more same all room =
    entered old new agree now (needs_type_canonicalization features) group number own features room refl is_added interned no_module found
    (right_part (λ id. id < length new.types) ids (group_ids new number) (subst (AreKnown new) more known))
    (same_rest (module_types new ids) before (module_types new (group_ids new number)) own same
    (sym (map-append (type_at (interned_types new)) ids (group_ids new number)) ∙ ap (module_types new) (sym more) ∙ all))
