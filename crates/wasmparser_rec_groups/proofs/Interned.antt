-- An interned group in the context that was there before.
use Rattle.std.proofs.Common.{true, ◌≡◌, ℕ, Bool, List, ◌++◌, ap, ◌∙◌, subst}
use Rattle.std.proofs.lemmas.List.{map-append}
use Rattle.wasm_core_types.specs.declared.limits.Limit.TheVariants as limits
use Rattle.wasm_spec.specs.Features.{Features, needs_type_canonicalization}
use Rattle.wasm_spec.specs.Groups.{IsWellFormedGroup}
use Rattle.wasm_spec.specs.Trees.{type_at, types_after}
use Rattle.wasm_spec.specs.Types.{RecGroup}
use Rattle.wasmparser_type_list.specs.TypeTables.{Interns, IsGroupAt, TypeTables, group_ids}
use Rattle.wasmparser_type_list.specs.IdTypes.{AreFoundByKey, RefersToNoModule, id_types}
use Rattle.wasmparser_rec_groups.proofs.Judged.{keeps_limits, keeps_rules, limit_passed, no_rule_broken}
use Rattle.wasmparser_rec_groups.proofs.KnownTypes.{same_context, still_no_module}
use Rattle.wasmparser_rec_groups.proofs.OwnTypes.{own_types}
use Rattle.wasmparser_rec_groups.specs.Contexts.{IsGroupOfModule, JustifiesRefusal, breaks_a_rule, in_section, passes_a_limit, types_of}
use Rattle.wasmparser_rec_groups.proofs.KnownIds.{group_at}
use Rattle.wasmparser_rec_groups.specs.Interning.{CanBeInterned, canonical_members}
use Rattle.wasmparser_rec_groups.specs.ItemLimits.{HaveFewItems}
use Rattle.wasmparser_rec_groups.specs.Rules.{IsRefused, IsRefusedGroup, KeepsRulesAndDepth, breaks_a_rule as rule, is_too_deep}
use Rattle.wasmparser_types.specs.Index.{Index}
use Rattle.wasmparser_types.specs.RecGroups.{members}

module _ (canonical : ℕ → Bool) (features : Features) (ids : List ℕ) (old new : TypeTables) (group : RecGroup Index) (is_new : Bool) (number : ℕ) (it : IsGroupOfModule old new ids group)
    (internable : CanBeInterned features ids old group) (interned : Interns old new (needs_type_canonicalization features) (canonical_members ids group) is_new number)
    (own : canonical number ≡ true) where
  none : RefersToNoModule new
  none = still_no_module old new ids group (needs_type_canonicalization features) is_new number interned it.names it.none

  context : types_of canonical new ids ≡ types_of canonical old ids
  context = same_context canonical old new it.agree (needs_type_canonicalization features) is_new (canonical_members ids group) number interned ids it.known

  stands : IsGroupAt new number (canonical_members ids group)
  stands = group_at features ids old new group number it.agree it.now it.known it.names internable is_new interned

  pub well_formed : HaveFewItems (members group) → KeepsRulesAndDepth new number → IsWellFormedGroup features (types_of canonical old ids) (in_section group)
  well_formed few kept =
      subst (λ before. IsWellFormedGroup features before (in_section group)) context (record {
        rules = keeps_rules canonical features ids old new group number it.now none it.names internable stands own kept;
        within_limits = keeps_limits canonical features ids old new group number it.now none it.names internable stands own few kept;
      })

  pub types : (new_ids : List ℕ) → new_ids ≡ ids ++ group_ids new number → types_of canonical new new_ids ≡ types_after (types_of canonical old ids) (in_section group)
  types new_ids is =
      ap (types_of canonical new) is ∙ map-append (type_at (id_types canonical new)) ids (group_ids new number)
      ∙ ap (λ q. types_of canonical new ids ++ q) (own_types canonical new it.now ids group it.names number stands own)
      ∙ ap (λ before. types_after before (in_section group)) context

  pub justified : (needs_type_canonicalization features ≡ true → AreFoundByKey canonical new) → (kind : _) → IsRefusedGroup new number kind → JustifiesRefusal features (types_of canonical old ids) (in_section group) kind
  justified found kind refused = subst (λ before. JustifiesRefusal features before (in_section group) kind) context (go kind refused.2) where
    go : (kind : _) → IsRefused new refused.0 kind → JustifiesRefusal features (types_of canonical new ids) (in_section group) kind
    go _ (rule breaks) =
        breaks_a_rule (no_rule_broken canonical features ids old new group number it.now none it.names internable stands own found refused.0 refused.1 breaks)
    go _ (is_too_deep passes) = passes_a_limit limits.Depth (limit_passed canonical features ids old new group number it.now none it.names internable stands own refused.0 _ refused.1 passes)
