use Rattle.std.proofs.Common.{◌+◌, ap, arith, length, subst}
use Rattle.std.proofs.lemmas.List.{length-map}
use Rattle.std.proofs.lemmas.Result.{err_from_is_err_and}
use Rattle.wasm_core_types.specs.Features.{feature_set}
use Rattle.wasmparser_module_types.proofs.AddedGroups.{adds_group}
use Rattle.wasmparser_module_types.proofs.Refusals.{too_many}
use Rattle.wasmparser_module_types.specs.ModuleTypes.{AddsGroup, RefusesGroup, known_types}
use Rattle.wasmparser_rec_groups.specs.Contexts.{in_section}
use Rattle.wasmparser_types.specs.RecGroups.{rec_group}
use Rattle.wasmparser_types.specs.SubTypes.{sub_type}
use Rattle.wasmparser_module_types.proofs.module_types.ModuleTypes.add_rec_group.Goals as goal

pub returns-in_err-check_counts-clause-refused : goal.returns-in_err-check_counts-clause-refused
returns-in_err-check_counts-clause-refused c =
    let it = c.self.inside in
    let group = rec_group c.args.group in
    let ids = ap length c.type_ids-types.ensures in
    let members = ap length c.types.ensures in
    let p = err_from_is_err_and c.from_residual.result c.from_residual.ensures.1 in
    rw (p.1, p.2) (subst (λ known. RefusesGroup known (in_section group) c.args.offset c.in_err-check_counts.field-0.0) c.self.view_is
    (too_many (feature_set it.space.features) it.list it.space.ids.items it.groups (length c.type_ids-types.result.now + length c.types.result.now) group c.args.offset
    c.in_err-check_counts.field-0.0 (omega (arith, ids, members, length-map c.types.result.now sub_type)) c.in_err-check_counts.ensures.refused))

pub returns-in_err-add-clause-refused : goal.returns-in_err-add-clause-refused
returns-in_err-add-clause-refused c =
    let p = err_from_is_err_and c.from_residual-in_err-add.result c.from_residual-in_err-add.ensures.1 in
    rw (p.1, p.2) (subst (λ known. RefusesGroup known (in_section (rec_group c.args.group)) c.args.offset c.in_err-add.field-0.0) c.self.view_is (c.in_err-add.ensures.refused c.self.inside.groups c.in_ok-check_counts.ensures.groups))

pub returns-clause-added : goal.returns-clause-added
returns-clause-added c =
    let it = c.self.inside in
    let group = rec_group c.args.group in
    let told = c.in_ok-add.ensures in
    let counts = c.in_ok-check_counts.ensures in
    let ids = ap length c.type_ids-types.ensures in
    let members = ap length c.types.ensures in
    subst (λ known. AddsGroup known (known_types (feature_set c.add.new.space.features) c.add.new.list c.add.new.space.ids.items (it.groups + 1)) (in_section group)) c.self.view_is
    (adds_group (feature_set it.space.features) (feature_set c.add.new.space.features) it.list c.add.new.list it.space.ids.items c.add.new.space.ids.items it.groups group told.accepted
    told.added told.entered counts.groups (omega (arith, counts.types, ids, members, length-map c.types.result.now sub_type)))
