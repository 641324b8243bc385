use Rattle.std.proofs.Common.{◌<◌, ℕ, List, length, sym, ◌∙◌, ap, subst}
use Rattle.wasm_gen_view.proofs.KnownGroups.{are_ids, ids_are}
use Rattle.wasmparser_type_list.specs.IdTypes.{IsWholeGroup}
use Rattle.wasmparser_validator.specs.Shown.{known}
use Rattle.wasm_gen_view.proofs.known_group.group_of.Goals as goal

pub returns-clause-group : goal.returns-clause-group
returns-clause-group c =
    let types = known c.args.types.now in
    let group = c.rec_group_id_of-group.result in
    let whole = subst (λ (ids : List ℕ). group < length types.interned_groups → IsWholeGroup types.interned ids) c.rec_group_elements-ids.ensures.ids c.rec_group_elements-ids.ensures.whole in
    rw c.index.ensures
    (are_ids types c.args.id group c.in-Some.first c.len-count.result c.next.new.self c.rec_group_id_of-group.ensures whole c.rec_group_elements-ids.ensures.parts
    (sym c.rec_group_elements-ids.ensures.ids ∙ c.in-Some.ensures.steps) (c.len-count.ensures.value ∙ ap length c.in-Some.ensures.steps))

pub returns-clause-ids : goal.returns-clause-ids
returns-clause-ids c =
    let types = known c.args.types.now in
    let group = c.rec_group_id_of-group.result in
    let whole = subst (λ (ids : List ℕ). group < length types.interned_groups → IsWholeGroup types.interned ids) c.rec_group_elements-ids.ensures.ids c.rec_group_elements-ids.ensures.whole in
    rw c.index.ensures
    (ids_are types c.args.id group c.in-Some.first c.len-count.result c.next.new.self c.rec_group_id_of-group.ensures whole c.rec_group_elements-ids.ensures.parts
    (sym c.rec_group_elements-ids.ensures.ids ∙ c.in-Some.ensures.steps) (c.len-count.ensures.value ∙ ap length c.in-Some.ensures.steps))
