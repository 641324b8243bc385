-- Limits on the items of types ask for no reference.
use Rattle.std.proofs.Common.{◌≡◌, ℕ, ◌+◌, Bool, List, map, slice_get, Some, option_map, sym, ap, ◌∙◌, subst, arith}
use Rattle.std.proofs.lemmas.Option.{slice_get-map, slice_get_within}
use Rattle.wasm_spec.proofs.GroupTrees.{opened-roll}
use Rattle.wasm_spec.proofs.MappedTypes.{all_map, items_in_map}
use Rattle.wasm_spec.specs.Groups.{items_in, many_items}
use Rattle.wasm_spec.specs.Limits.{Limit, IsPassedBy}
use Rattle.wasm_spec.specs.Syntax as syntax
use Rattle.wasm_spec.specs.TypeReferences.{composite_map, sub_map, subs_map}
use Rattle.wasm_spec.specs.Trees.{opened, reference_of, seen_from, tree_of}
use Rattle.wasm_spec.specs.Types.{SubType, RecGroup}
use Rattle.wasmparser_type_list.specs.TypeTables.{TypeTables}
use Rattle.wasmparser_rec_groups.proofs.OwnTypes.{places_at, section_members}
use Rattle.wasmparser_rec_groups.specs.Contexts.{PassesGroupLimit, in_section, types_of}
use Rattle.wasmparser_rec_groups.specs.ItemLimits.{HaveFewItems, HaveManyItems}
use Rattle.wasmparser_types.specs.Index.{Index, number_of}
use Rattle.wasmparser_types.specs.RecGroups.{members}

pub few_mapped : {R S : Type 0} (f : R → S) (types : List (SubType R)) → HaveFewItems types → HaveFewItems (map (sub_map f) types)
few_mapped {R = R} {S = S} f types few =
    all_map (λ (type : SubType R). (limit : Limit) → ¬ (IsPassedBy limit (items_in type.composite_type limit))) (λ (type : SubType S). (limit : Limit) → ¬ (IsPassedBy limit (items_in type.composite_type limit)))
    (sub_map f) (λ type h limit passes. h limit (subst (IsPassedBy limit) (items_in_map f type.composite_type limit) passes)) types few

-- a type of the group that has many items passes a limit in the context of a module
pub many_in_section : (canonical : ℕ → Bool) (tables : TypeTables) (ids : List ℕ) (group : RecGroup Index) (l : Limit) → HaveManyItems (members group) l
    → PassesGroupLimit (types_of canonical tables ids) (in_section group) l
many_in_section canonical tables ids group l many =
    let context = types_of canonical tables ids in
    let tree = tree_of context (in_section group) in
    let place = many.place in
    let plain = many.type in
    let listed : slice_get (syntax.members (in_section group)) place ≡ Some (sub_map number_of plain) =
    ap (λ q. slice_get q place) (section_members group) ∙ slice_get-map (sub_map number_of) (members group) place ∙ ap (option_map (sub_map number_of)) many.at in
    let zero_add : 0 + place ≡ place = omega arith in
    let opens : slice_get (opened tree) place ≡ Some (sub_map (reference_of context) (sub_map number_of plain)) =
    ap (λ q. slice_get q place) (opened-roll (subs_map (reference_of context) (syntax.members (in_section group))))
    ∙ slice_get-map (sub_map (reference_of context)) (syntax.members (in_section group)) place ∙ ap (option_map (sub_map (reference_of context))) listed in
    let composite = composite_map number_of plain.composite_type in
    let counted = items_in_map (seen_from tree) (composite_map (reference_of context) composite) l ∙ items_in_map (reference_of context) composite l ∙ items_in_map number_of plain.composite_type l in
    record {
      place = place;
      type = record { tree = tree; place = place };
      at = places_at tree 0 (syntax.members (in_section group)) place (slice_get_within (syntax.members (in_section group)) place (sub_map number_of plain) listed)
          ∙ ap (λ p. Some (record { tree = tree; place = p })) zero_add;
      passes = many_items (record {
        type = sub_map (seen_from tree) (sub_map (reference_of context) (sub_map number_of plain));
        is = ap (option_map (sub_map (seen_from tree))) opens;
        holds = subst (IsPassedBy l) (sym counted) many.passes;
      });
    }
