-- Why a module's group is refused by a list that knows the module's types.
use Rattle.std.proofs.Common.{◌≡◌, ℕ, suc, ◌+◌, ◌<◌, ◌≤◌, Bool, List, length, inl, inr, refl, sym, subst, arith}
use Rattle.std.proofs.lemmas.Bool.{leb-false}
use Rattle.wasm_core_types.specs.Limits.{limit}
use Rattle.wasm_core_types.specs.declared.limits.Limit.TheVariants as limits
use Rattle.wasm_spec.specs.Features.{Features, needs_type_canonicalization}
use Rattle.wasm_spec.specs.Groups.{KeepsGroupRules}
use Rattle.wasm_spec.specs.Limits.{Groups, Limit, Types, most}
use Rattle.wasm_spec.specs.Trees.{DefType, types_after}
use Rattle.wasm_spec.specs.Types.{RecGroup}
use Rattle.wasm_validity.specs.DefinedTypes as validity
use Rattle.wasmparser_error.specs.declared.error.Error.{Error}
use Rattle.wasmparser_error.specs.declared.error.ErrorKind.{ErrorKind}
use Rattle.wasmparser_error.specs.declared.error.ErrorKind.TheVariants as kinds
use Rattle.wasmparser_type_list.specs.TypeTables.{Interns, TypeTables}
use Rattle.wasmparser_type_list.proofs.IdLaws.{id_count}
use Rattle.wasmparser_module_types.proofs.AddedGroups.{after_count, section_count}
use Rattle.wasmparser_module_types.specs.ModuleTypes.{IsTooMany, KnowsModule, RefusesGroup, all_groups, breaks_a_rule, finds_no_room, known_types, module_types, out_of_memory, passes_a_limit}
use Rattle.wasmparser_rec_groups.proofs.KnownIds.{canonical_count}
use Rattle.wasmparser_rec_groups.specs.Contexts.{IsRightAsWritten, JustifiesRefusal, PassesGroupLimit, in_section, breaks_a_rule as rule_broken, passes_a_limit as limit_passed}
use Rattle.wasmparser_rec_groups.specs.Interning.{CanBeInterned, Refuses, as_written, breaks_a_rule as ill_formed, canonical_members, has_no_room, is_refused, out_of_memory as no_memory, passes_a_limit as has_many_items}
use Rattle.wasmparser_rec_groups.specs.ItemLimits.{HaveFewItems, HaveManyItems}
use Rattle.wasmparser_rec_groups.specs.Rules.{IsRefusedGroup}
use Rattle.wasmparser_types.specs.Index.{Index}
use Rattle.wasmparser_types.specs.RecGroups.{members}

same_limit : (before : List DefType) (group : RecGroup ℕ) (l : Limit) → PassesGroupLimit before group l → validity.PassesGroupLimit before group l
same_limit before group l passes = record { place = passes.place; type = passes.type; at = passes.at; passes = passes.passes }

justified : (features : Features) (list : TypeTables) (ids : List ℕ) (groups : ℕ) (group : RecGroup Index) (offset : ℕ) (kind : ErrorKind)
    → JustifiesRefusal features (module_types list ids) (in_section group) kind
    → RefusesGroup (known_types features list ids groups) (in_section group) offset (record { offset = offset; kind = kind })
justified features list ids groups group offset kind (rule_broken breaks) = record { cause = breaks_a_rule breaks; place = refl }
justified features list ids groups group offset kind (limit_passed l passes) =
    record { cause = passes_a_limit l (inr (inr (same_limit (module_types list ids) (in_section group) (limit l) passes))); place = refl }

pub refuses : (features : Features) (ids : List ℕ) (old new : TypeTables) (group : RecGroup Index) (offset : ℕ) → KnowsModule features old ids
    → length ids + length (members group) ≤ most Types
    → ((l : Limit) → HaveManyItems (members group) l → PassesGroupLimit (module_types old ids) (in_section group) l)
    → (CanBeInterned features ids old group → HaveFewItems (members group) → IsRightAsWritten features (module_types old ids) (in_section group))
    → (KeepsGroupRules features (module_types old ids) (in_section group) → CanBeInterned features ids old group)
    → ((is_new : Bool) (number : ℕ) → CanBeInterned features ids old group → Interns old new (needs_type_canonicalization features) (canonical_members ids group) is_new number
    → (kind : ErrorKind) → IsRefusedGroup new number kind → JustifiesRefusal features (module_types old ids) (in_section group) kind)
    → (groups : ℕ) → suc groups ≤ most Groups → (e : Error) → Refuses features ids old new group offset e → RefusesGroup (known_types features old ids groups) (in_section group) offset e
refuses features ids old new group offset knows room many right before after groups few e (as_written _ (ill_formed breaks) same) = record { cause = breaks_a_rule (λ keeps. breaks (before keeps)); place = refl }
refuses features ids old new group offset knows room many right before after groups few e (as_written _ (has_many_items l passes) same) =
    justified features old ids groups group offset (kinds.Limit l) (limit_passed l (many (limit l) passes))
refuses features ids old new group offset knows room many right before after groups few e (has_no_room internable none same) =
    let full = leb-false (length old.types + length (canonical_members ids group)) 1048576 none in
    let count = section_count group in
    record {
      cause = finds_no_room (record {
        within_limit = omega (arith, room, after_count old ids group);
        past_total = omega (arith, full, canonical_count ids group, count, id_count all_groups old knows.agree);
      });
      place = refl;
    }
refuses features ids old new group offset knows room many right before after groups few e (is_refused is_new number kind internable has interned refused) =
    justified features old ids groups group offset kind (after is_new number internable interned kind refused)
refuses features ids old new group offset knows room many right before after groups few e (no_memory internable few_items same) =
    record {
      cause = out_of_memory (record { few_groups = few; few_types = omega (arith, room, after_count old ids group); written = right internable few_items });
      place = refl;
    }

-- ---- before a group is interned

pub too_many : (features : Features) (list : TypeTables) (ids : List ℕ) (groups types : ℕ) (group : RecGroup Index) (offset : ℕ) (e : Error)
    → types ≡ length ids + length (members group) → IsTooMany groups types offset e → RefusesGroup (known_types features list ids groups) (in_section group) offset e
too_many features list ids groups types group offset e is (inl (told, many)) =
    subst (RefusesGroup (known_types features list ids groups) (in_section group) offset) (sym told) (record { cause = passes_a_limit limits.Groups (inl (refl, many)); place = refl })
too_many features list ids groups types group offset e is (inr (told, many)) =
    let more : most Types < length (types_after (module_types list ids) (in_section group)) = omega (arith, is, many, after_count list ids group) in
    subst (RefusesGroup (known_types features list ids groups) (in_section group) offset) (sym told) (record { cause = passes_a_limit limits.Types (inr (inl (refl, more))); place = refl })
