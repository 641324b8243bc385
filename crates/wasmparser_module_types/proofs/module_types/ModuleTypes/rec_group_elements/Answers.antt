use Rattle.std.proofs.Common.{ℕ, List, ◌≡◌, ◌∙◌, ◌<◌, length, subst, sym}
use Rattle.std.specs.List.{flat_map, range_with_len}
use Rattle.wasmparser_type_list.specs.IdTypes.{IsWholeGroup}
use Rattle.wasmparser_module_types.proofs.GroupIds.{are_parts, are_shown, is_whole}
use Rattle.wasmparser_module_types.specs.ModuleTypes.{KnownTypes, ids_of_group, interned_types}
use Rattle.wasmparser_module_types.proofs.module_types.ModuleTypes.rec_group_elements.Goals as goal

pub returns-clause-ids : goal.returns-clause-ids
returns-clause-ids c =
    let list = c.self.inside.list in
    subst (λ (known : KnownTypes). c.rec_group_elements.result ≡ ids_of_group known c.args.id) c.self.view_is (c.rec_group_elements.ensures ∙ are_shown list c.self.invariant.0.agree c.args.id)

pub returns-clause-whole : goal.returns-clause-whole
returns-clause-whole c =
    let list = c.self.inside.list in
    subst (λ (known : KnownTypes). c.args.id < length known.interned_groups → IsWholeGroup known.interned c.rec_group_elements.result) c.self.view_is
    (λ within. subst (IsWholeGroup (interned_types list)) (sym c.rec_group_elements.ensures) (is_whole list c.self.invariant.0.agree c.args.id within))

pub returns-clause-parts : goal.returns-clause-parts
returns-clause-parts c =
    subst (λ (known : KnownTypes). flat_map (λ (ids : List ℕ). ids) known.interned_groups ≡ range_with_len 0 (length known.interned)) c.self.view_is (are_parts c.self.inside.list c.self.invariant.0.agree)
