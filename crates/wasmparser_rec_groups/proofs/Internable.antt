-- A group that keeps all rules can be interned.
use Rattle.std.proofs.Common.{◌≡◌, ℕ, suc, ◌+◌, ◌-◌, ◌<◌, Bool, List, [], ◌∷◌, ◌++◌, length, map, Some, inl, inr, refl, sym, ap, ◌∙◌, subst, arith}
use Rattle.std.proofs.lemmas.List.{length-map}
use Rattle.std.proofs.lemmas.Option.{slice_get-map, slice_get_within}
use Rattle.std.specs.List.{AllByRecursion, slice_get}
use Rattle.std.specs.Option.{option_map, unwrap_or}
use Rattle.wasm_spec.proofs.GroupTrees.{opened-roll}
use Rattle.wasm_spec.proofs.MappedBack.{all_left}
use Rattle.wasm_spec.proofs.Places.{all_by_place, all_get, get_either, get_left, get_right, get_some}
use Rattle.wasm_spec.proofs.TypeMaps.{group_refs-map}
use Rattle.wasm_spec.specs.Features.{Features, Gc, has}
use Rattle.wasm_spec.specs.Groups.{Extends, IsWellFormedAt, KeepsGroupRules}
use Rattle.wasm_spec.specs.Matching.{CompositeMatches}
use Rattle.wasm_spec.specs.Subtyping.{IsOfKind, SubTypes, abstract_of}
use Rattle.wasm_spec.specs.Syntax as syntax
use Rattle.wasm_spec.specs.TypeReferences.{composite_map, group_refs, sub_map, subs_map}
use Rattle.wasm_spec.specs.Trees.{DefType, no_type, opened, reference_of, seen_from, tree_of, type_at, types_after, types_of_group, unrolled}
use Rattle.wasm_spec.specs.Types.{ArrayComposite, CompositeType, ContComposite, FuncComposite, RecGroup, StructComposite, SubType}
use Rattle.wasmparser_type_relations.specs.Canonical.{HasEarlierSupertype, HaveEarlierSupertypes, IsBelow, canonical_index, id_or_place, index_bound}
use Rattle.wasmparser_type_list.specs.TypeTables.{TablesAgree, TypeTables, sub_types}
use Rattle.wasmparser_type_list.proofs.IdLaws.{ids_unroll}
use Rattle.wasmparser_type_list.specs.IdTypes.{RefersToNoModule, id_types, type_of_index}
use Rattle.wasmparser_rec_groups.proofs.Judged.{bound_is, each_at}
use Rattle.wasmparser_rec_groups.proofs.MappedGates.{same_gate}
use Rattle.wasmparser_rec_groups.proofs.OwnTypes.{places_at, section_members}
use Rattle.wasmparser_rec_groups.specs.Contexts.{in_section, types_of}
use Rattle.wasmparser_rec_groups.proofs.CanonicalGroups.{mapped_at, members_mapped, of_members, of_type, same_abstract}
use Rattle.wasmparser_rec_groups.specs.Interning.{AreKnown, CanBeInterned, IsModuleIndex, NamesModuleTypes, canonical_members}
use Rattle.wasmparser_rec_groups.specs.Kinds.{HasSupertypesOfKind, HaveSupertypesOfKind, earlier_or_own}
use Rattle.wasmparser_types.specs.Index.{Index, Module, RecGroup as Place, Id, number_of}
use Rattle.wasmparser_types.specs.RecGroups.{members}
use Rattle.wasmparser_types.specs.SubTypes.{sub_type}

-- ---- lists

-- indexes whose numbers are below a bound are below it
below_bound : (bound : ℕ) (refs : List Index) → AllByRecursion (λ n. n < bound) (map number_of refs) → AllByRecursion (IsBelow bound) refs
below_bound bound [] h = tt
below_bound bound (Module n ∷ refs) h = (h.0, below_bound bound refs h.1)
below_bound bound (Place place ∷ refs) h = (tt, below_bound bound refs h.1)
below_bound bound (Id id ∷ refs) h = (tt, below_bound bound refs h.1)

some_same : {X : Type 0} (x y : X) → Some x ≡ Some y → x ≡ y
some_same x y e = cc

-- ---- kinds

matches_kind : {R : Type 0} (sub_at : SubTypes R) (a b : CompositeType R) → CompositeMatches sub_at a b → abstract_of a ≡ abstract_of b
matches_kind sub_at (FuncComposite a) (FuncComposite b) h = refl
matches_kind sub_at (FuncComposite a) (StructComposite b) h = absurd h
matches_kind sub_at (FuncComposite a) (ArrayComposite b) h = absurd h
matches_kind sub_at (FuncComposite a) (ContComposite b) h = absurd h
matches_kind sub_at (StructComposite a) (FuncComposite b) h = absurd h
matches_kind sub_at (StructComposite a) (StructComposite b) h = refl
matches_kind sub_at (StructComposite a) (ArrayComposite b) h = absurd h
matches_kind sub_at (StructComposite a) (ContComposite b) h = absurd h
matches_kind sub_at (ArrayComposite a) (FuncComposite b) h = absurd h
matches_kind sub_at (ArrayComposite a) (StructComposite b) h = absurd h
matches_kind sub_at (ArrayComposite a) (ArrayComposite b) h = refl
matches_kind sub_at (ArrayComposite a) (ContComposite b) h = absurd h
matches_kind sub_at (ContComposite a) (FuncComposite b) h = absurd h
matches_kind sub_at (ContComposite a) (StructComposite b) h = absurd h
matches_kind sub_at (ContComposite a) (ArrayComposite b) h = absurd h
matches_kind sub_at (ContComposite a) (ContComposite b) h = refl

-- ---- a group in the context of a list

module _ (canonical : ℕ → Bool) (features : Features) (ids : List ℕ) (tables : TypeTables) (group : RecGroup Index) (agree : TablesAgree tables) (none : RefersToNoModule tables)
    (known : AreKnown tables ids) (names : NamesModuleTypes group) (rules : KeepsGroupRules features (types_of canonical tables ids) (in_section group)) where
  abbrev types : List DefType
  types = id_types canonical tables

  abbrev context : List DefType
  context = types_of canonical tables ids

  abbrev section : List DefType
  section = types_after context (in_section group)

  abbrev canonical_group : List (SubType Index)
  canonical_group = canonical_members ids group

  context_count : length context ≡ length ids
  context_count = length-map ids (type_at types)

  listed : (place : ℕ) (plain : SubType Index) → slice_get (members group) place ≡ Some plain → slice_get (syntax.members (in_section group)) place ≡ Some (sub_map number_of plain)
  listed place plain is = ap (λ q. slice_get q place) (section_members group) ∙ slice_get-map (sub_map number_of) (members group) place ∙ ap (option_map (sub_map number_of)) is

  well_at : (place : ℕ) (plain : SubType Index) → slice_get (members group) place ≡ Some plain → IsWellFormedAt section (length context + place) (sub_map number_of plain)
  well_at place plain is = each_at section (length context) (syntax.members (in_section group)) rules.each place (sub_map number_of plain) (listed place plain is)

  earlier_at : (place : ℕ) (plain : SubType Index) → slice_get (members group) place ≡ Some plain → HasEarlierSupertype (length ids + place) plain
  earlier_at place plain is =
      let well = well_at place plain is in
      let sum : length context + place ≡ length ids + place = omega (arith, context_count) in
      record {
        at_most_one = let few = well.extends.at_most_one in omega (arith, few, length-map plain.supertypes number_of, length-map (map number_of plain.supertypes) (type_at section));
        earlier = below_bound (length ids + place) plain.supertypes (subst (λ b. AllByRecursion (λ n. n < b) (map number_of plain.supertypes)) sum well.earlier);
      }

  all_earlier : HaveEarlierSupertypes (length ids) (members group)
  all_earlier = from (length ids) (members group) earlier_at where
    from : (first : ℕ) (list : List (SubType Index)) → ((place : ℕ) (plain : SubType Index) → slice_get list place ≡ Some plain → HasEarlierSupertype (first + place) plain) → HaveEarlierSupertypes first list
    from first [] each = tt
    from first (type ∷ list) each =
        let here : first + 0 ≡ first = omega arith in (
          subst (λ n. HasEarlierSupertype n type) here (each 0 type refl),
          from (suc first) list (λ place other at. let next : first + suc place ≡ suc first + place = omega arith in subst (λ n. HasEarlierSupertype n other) next (each (suc place) other at)),
        )

  -- ---- kinds of supertypes

  own_kind : (place : ℕ) (supertype : SubType DefType) → place < length (members group) → unrolled (type_at section (length ids + place)) ≡ Some supertype
      → (plain : SubType Index) × (slice_get (members group) place ≡ Some plain) × (abstract_of plain.composite_type ≡ abstract_of supertype.composite_type)
  own_kind place supertype less is =
      let at = get_some (members group) place less in
      let plain = at.0 in
      let tree = tree_of context (in_section group) in
      let members_count : length (syntax.members (in_section group)) ≡ length (members group) = ap length (section_members group) ∙ length-map (members group) (sub_map number_of) in
      let own = types_of_group context (in_section group) in
      let zero_add : 0 + place ≡ place = omega arith in
      let type_is : type_at section (length ids + place) ≡ record { tree = tree; place = place } =
      ap (λ o. unwrap_or o no_type)
      (ap (λ n. slice_get (context ++ own) (n + place)) (sym context_count) ∙ get_right context own place
      ∙ places_at tree 0 (syntax.members (in_section group)) place (omega (arith, less, members_count)))
      ∙ ap (λ p. record { tree = tree; place = p }) zero_add in
      let opens : slice_get (opened tree) place ≡ Some (sub_map (reference_of context) (sub_map number_of plain)) =
      ap (λ q. slice_get q place) (opened-roll (subs_map (reference_of context) (syntax.members (in_section group))))
      ∙ slice_get-map (sub_map (reference_of context)) (syntax.members (in_section group)) place ∙ ap (option_map (sub_map (reference_of context))) (listed place plain at.1) in
      let unrolls : unrolled (type_at section (length ids + place)) ≡ Some (sub_map (seen_from tree) (sub_map (reference_of context) (sub_map number_of plain))) =
      ap unrolled type_is ∙ ap (option_map (sub_map (seen_from tree))) opens in
      let one : supertype ≡ sub_map (seen_from tree) (sub_map (reference_of context) (sub_map number_of plain)) = some_same supertype _ (sym is ∙ unrolls) in
      let kind : abstract_of supertype.composite_type ≡ abstract_of plain.composite_type =
      ap (λ (t : SubType DefType). abstract_of t.composite_type) one
      ∙ same_abstract (seen_from tree) (composite_map (reference_of context) (composite_map number_of plain.composite_type))
      ∙ same_abstract (reference_of context) (composite_map number_of plain.composite_type) ∙ same_abstract number_of plain.composite_type in
      (plain, at.1, sym kind)

  known_kind : (id : ℕ) (supertype : SubType DefType) → id < length tables.types → unrolled (type_at types id) ≡ Some supertype
      → (type : SubType Index) × (slice_get (sub_types tables) id ≡ Some type) × (abstract_of type.composite_type ≡ abstract_of supertype.composite_type)
  known_kind id supertype less is =
      let at = get_some (sub_types tables) id (omega (arith, less, length-map tables.types sub_type)) in
      let unrolls = ids_unroll tables agree none canonical (Id id) at.0 at.1 in
      let one : supertype ≡ sub_map (type_of_index canonical tables) at.0 = some_same supertype _ (sym is ∙ unrolls) in
      (at.0, at.1, sym (ap (λ (t : SubType DefType). abstract_of t.composite_type) one ∙ same_abstract (type_of_index canonical tables) at.0.composite_type))

  supertype_like : (place : ℕ) (plain : SubType Index) → place < length (members group) → (index : Index) → IsModuleIndex index → IsBelow (length ids + place) index
      → Extends unrolled (sub_map (type_at section) (sub_map number_of plain)) (type_at section (number_of index)) → IsOfKind (earlier_or_own tables canonical_group) (canonical_index ids index) (abstract_of (composite_map (canonical_index ids) plain.composite_type))
  supertype_like place plain less (Place n) name below extends = absurd name
  supertype_like place plain less (Id n) name below extends = absurd name
  supertype_like place plain less (Module n) name below extends = elim (get_either ids n) [
    | inl at ↦
        let id = at.0 in
        let is : canonical_index ids (Module n) ≡ Id id = ap (λ o. id_or_place o (n - length ids)) at.1 in
        let within : n < length context = let h = at.2 in omega (arith, h, context_count) in
        let type_is : type_at section n ≡ type_at types id =
        ap (λ o. unwrap_or o no_type) (get_left context (types_of_group context (in_section group)) n within ∙ slice_get-map (type_at types) ids n ∙ ap (option_map (type_at types)) at.1) in
        let it = known_kind id extends.supertype (all_get (λ i. i < length tables.types) ids known n id at.1) (sym (ap unrolled type_is) ∙ extends.is) in
        record { type = it.0; is = ap (earlier_or_own tables canonical_group) is ∙ it.1; holds = it.2 ∙ kind }
    | inr past ↦
        let q = past.1.0 in
        let n_is : n ≡ length ids + q = past.1.1 in
        let q_is : n - length ids ≡ q = omega (arith, n_is) in
        let is : canonical_index ids (Module n) ≡ Place q = ap (λ o. id_or_place o (n - length ids)) past.0 ∙ ap Place q_is in
        let it = own_kind q extends.supertype (omega (arith, below, n_is, less)) (sym (ap (λ m. unrolled (type_at section m)) n_is) ∙ extends.is) in
        let found : slice_get canonical_group q ≡ Some (sub_map (canonical_index ids) it.0) =
        ap (λ ms. slice_get ms q) (members_mapped (canonical_index ids) group) ∙ slice_get-map (sub_map (canonical_index ids)) (members group) q ∙ ap (option_map (sub_map (canonical_index ids))) it.1 in
        record {
          type = sub_map (canonical_index ids) it.0;
          is = ap (earlier_or_own tables canonical_group) is ∙ found;
          holds = same_abstract (canonical_index ids) it.0.composite_type ∙ it.2 ∙ kind;
        }
  ] where
    composite : CompositeType Index
    composite = composite_map (canonical_index ids) plain.composite_type

    kind : abstract_of extends.supertype.composite_type ≡ abstract_of composite
    kind =
        sym (matches_kind unrolled (composite_map (type_at section) (composite_map number_of plain.composite_type)) extends.supertype.composite_type extends.matches)
        ∙ same_abstract (type_at section) (composite_map number_of plain.composite_type) ∙ same_abstract number_of plain.composite_type
        ∙ sym (same_abstract (canonical_index ids) plain.composite_type)

  kinds_of : (place : ℕ) (plain : SubType Index) → slice_get (members group) place ≡ Some plain → HasSupertypesOfKind (earlier_or_own tables canonical_group) (sub_map (canonical_index ids) plain)
  kinds_of place plain is =
      each plain.supertypes (all_left IsModuleIndex plain.supertypes _ (of_type IsModuleIndex (members group) place plain (of_members IsModuleIndex group names) is)) (earlier_at place plain is).earlier
      (well_at place plain is).extends.each where
        each : (supertypes : List Index) → AllByRecursion IsModuleIndex supertypes → AllByRecursion (IsBelow (length ids + place)) supertypes
            → AllByRecursion (Extends unrolled (sub_map (type_at section) (sub_map number_of plain))) (map (type_at section) (map number_of supertypes))
            → AllByRecursion (λ r. IsOfKind (earlier_or_own tables canonical_group) r (abstract_of (composite_map (canonical_index ids) plain.composite_type))) (map (canonical_index ids) supertypes)
        each [] name below extends = tt
        each (index ∷ supertypes) name below extends =
            (supertype_like place plain (slice_get_within (members group) place plain is) index name.0 below.0 extends.0, each supertypes name.1 below.1 extends.1)

  all_kinds : HaveSupertypesOfKind (earlier_or_own tables canonical_group) canonical_group
  all_kinds =
      all_by_place (HasSupertypesOfKind (earlier_or_own tables canonical_group)) canonical_group (λ place type is.
      let plain = mapped_at (sub_map (canonical_index ids)) (members group) place type (ap (λ ms. slice_get ms place) (sym (members_mapped (canonical_index ids) group)) ∙ is) in
      subst (HasSupertypesOfKind (earlier_or_own tables canonical_group)) (sym plain.2) (kinds_of place plain.0 plain.1))

  pub can_be_interned : CanBeInterned features ids tables group
  can_be_interned = record {
    allowed = sym (same_gate number_of features group) ∙ rules.allowed;
    supertypes = all_earlier;
    in_range =
        let bound = index_bound (has features Gc) (length ids) (length (members group)) in
        below_bound bound (group_refs group)
        (subst (AllByRecursion (λ n. n < bound)) (group_refs-map number_of group)
        (subst (λ b. AllByRecursion (λ n. n < b) (group_refs (in_section group))) (bound_is features context ids group context_count) rules.in_range));
    kinds = all_kinds;
  }
