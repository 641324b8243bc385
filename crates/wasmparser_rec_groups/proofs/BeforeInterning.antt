-- What is asked of a group before it is interned, step by step.
use Rattle.std.proofs.Common.{◌≡◌, ℕ, Bool, true, List, length, inl, inr, sym, ap, ◌∙◌, subst}
use Rattle.std.specs.List.{AllByRecursion}
use Rattle.wasm_spec.specs.Features.{Features, Gc, has, needs_type_canonicalization}
use Rattle.wasm_spec.specs.Gates.{is_allowed_group}
use Rattle.wasm_spec.specs.TypeReferences.{group_map, group_refs}
use Rattle.wasm_spec.specs.Types.{SubType, RecGroup}
use Rattle.wasmparser_error.specs.declared.error.Error.{Error}
use Rattle.wasmparser_type_relations.specs.Canonical.{HaveEarlierSupertypes, IsBelow, IsNotCanonical, canonical_index, index_bound}
use Rattle.wasmparser_type_list.specs.TypeTables.{Interns, IsNoIntern, TypeTables, has_room}
use Rattle.wasmparser_rec_groups.specs.Interning.{CanBeInterned, Refuses, canonical_members, has_no_room, out_of_memory}
use Rattle.wasmparser_rec_groups.specs.ItemLimits.{HaveFewItems}
use Rattle.wasmparser_rec_groups.specs.Kinds.{HaveSupertypesOfKind, earlier_or_own}
use Rattle.wasmparser_types.specs.Index.{Index}
use Rattle.wasmparser_types.specs.RecGroups.{members}

module _ (features : Features) (ids : List ℕ) (tables : TypeTables) (group : RecGroup Index) where
  pub not_canonical : (gc : Bool) → gc ≡ has features Gc → IsNotCanonical gc (length ids) group → ¬ (CanBeInterned features ids tables group)
  not_canonical gc is (inl later) internable = later internable.supertypes
  not_canonical gc is (inr out) internable =
      out (subst (λ g. AllByRecursion (IsBelow (index_bound g (length ids) (length (members group)))) (group_refs group)) (sym is) internable.in_range)

  -- types: those of the group in canonical form, as the code has them
  pub another_kind : (types : List (SubType Index)) (canonical : RecGroup Index) → types ≡ members canonical → canonical ≡ group_map (canonical_index ids) group
      → ¬ (HaveSupertypesOfKind (earlier_or_own tables types) types) → ¬ (CanBeInterned features ids tables group)
  another_kind types canonical are is fails internable = fails (subst (λ m. HaveSupertypesOfKind (earlier_or_own tables m) m) (sym (are ∙ ap members is)) internable.kinds)

  pub can_be_interned : (gc : Bool) (types : List (SubType Index)) (canonical : RecGroup Index) → gc ≡ has features Gc → types ≡ members canonical
      → canonical ≡ group_map (canonical_index ids) group → is_allowed_group features group ≡ true → HaveEarlierSupertypes (length ids) (members group)
      → AllByRecursion (IsBelow (index_bound gc (length ids) (length (members group)))) (group_refs group)
      → HaveSupertypesOfKind (earlier_or_own tables types) types → CanBeInterned features ids tables group
  can_be_interned gc types canonical gc_is are is allowed earlier below kinds = record {
    allowed = allowed;
    supertypes = earlier;
    in_range = subst (λ g. AllByRecursion (IsBelow (index_bound g (length ids) (length (members group)))) (group_refs group)) gc_is below;
    kinds = subst (λ m. HaveSupertypesOfKind (earlier_or_own tables m) m) (are ∙ ap members is) kinds;
  }

  -- interning a group that is the one in canonical form
  pub interns_members : (new : TypeTables) (needs : Bool) (canonical : RecGroup Index) → canonical ≡ group_map (canonical_index ids) group → needs ≡ needs_type_canonicalization features
      → (is_new : Bool) (number : ℕ) → Interns tables new needs (members canonical) is_new number
      → Interns tables new (needs_type_canonicalization features) (canonical_members ids group) is_new number
  interns_members new needs canonical is needs_is is_new number interned =
      subst (λ b. Interns tables new b (canonical_members ids group) is_new number) needs_is (subst (λ c. Interns tables new needs (members c) is_new number) is interned)

  pub no_intern : (new : TypeTables) (offset : ℕ) (canonical : RecGroup Index) → canonical ≡ group_map (canonical_index ids) group → CanBeInterned features ids tables group
      → HaveFewItems (members group) → new ≡ tables → (e : Error)
      → IsNoIntern (has_room tables (members canonical)) e offset → Refuses features ids tables new group offset e
  no_intern new offset canonical is internable few same e (inl none) =
      subst (Refuses features ids tables new group offset) (sym none.1) (has_no_room internable (sym (ap (λ c. has_room tables (members c)) is) ∙ none.0) same)
  no_intern new offset canonical is internable few same e (inr out) = subst (Refuses features ids tables new group offset) (sym out.1) (out_of_memory internable few same)
