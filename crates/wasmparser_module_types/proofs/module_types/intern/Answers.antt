use Rattle.std.proofs.Common.{◌≡◌, true, refl}
use Rattle.std.proofs.lemmas.Result.{IfErr-weaker, on_ok_weaker}
use Rattle.wasm_core_types.specs.Features.{feature_set}
use Rattle.wasm_spec.specs.Features.{needs_type_canonicalization}
use Rattle.wasm_spec.proofs.GroupTrees.{length-places_of}
use Rattle.wasm_spec.specs.Syntax.{members}
use Rattle.wasm_spec.specs.Trees.{tree_of, types_of_group}
use Rattle.wasmparser_type_list.specs.IdTypes.{AreFoundByKey}
use Rattle.wasmparser_module_types.proofs.AddedGroups.{has_room_for, of_module, still_knows}
use Rattle.wasmparser_module_types.proofs.EnteredGroups.{enters}
use Rattle.wasmparser_module_types.proofs.Refusals.{refuses}
use Rattle.wasmparser_module_types.specs.ModuleTypes.{all_groups, module_types}
use Rattle.wasmparser_rec_groups.specs.Contexts.{in_section}
use Rattle.wasmparser_rec_groups.specs.Interning.{canonical_members}
use Rattle.wasmparser_types.specs.RecGroups.{rec_group}
use Rattle.wasmparser_module_types.proofs.module_types.intern.Goals as goal

pub returns-clause-accepted : goal.returns-clause-accepted
returns-clause-accepted c =
    let call = c.canonicalize_and_intern_rec_group in
    let features = feature_set c.args.space.now.features in
    let ids = c.args.space.now.ids.items in
    let group = rec_group c.args.group in
    let it = of_module features ids c.args.list.now call.new.types group c.requires.knows c.requires.indexes call.ensures.agree in
    on_ok_weaker call.result (λ accepts. c.accepted_groups_are_well_formed.ensures.well_formed all_groups features ids call.new.self.ids.items c.args.list.now call.new.types group it accepts refl)
    call.ensures.accepted

pub returns-clause-added : goal.returns-clause-added
returns-clause-added c =
    let call = c.canonicalize_and_intern_rec_group in
    let features = feature_set c.args.space.now.features in
    let ids = c.args.space.now.ids.items in
    let group = rec_group c.args.group in
    let it = of_module features ids c.args.list.now call.new.types group c.requires.knows c.requires.indexes call.ensures.agree in
    on_ok_weaker call.result (λ accepts. c.accepted_groups_are_well_formed.ensures.types all_groups features ids call.new.self.ids.items c.args.list.now call.new.types group it accepts refl)
    call.ensures.accepted

pub returns-clause-knows : goal.returns-clause-knows
returns-clause-knows c =
    let call = c.canonicalize_and_intern_rec_group in
    let features = feature_set c.args.space.now.features in
    let ids = c.args.space.now.ids.items in
    let new_ids = call.new.self.ids.items in
    let old = c.args.list.now in
    let new = call.new.types in
    let group = rec_group c.args.group in
    let told = call.ensures in
    let knows = c.requires.knows in
    let it = of_module features ids old new group knows c.requires.indexes told.agree in
    on_ok_weaker call.result
    (λ accepts.
    let valid = accepts.valid in
    let found : needs_type_canonicalization features ≡ true → AreFoundByKey all_groups new =
    λ needs. c.context_stays.ensures.found all_groups features ids old new group valid.is_new accepts.number valid.interned (λ _. needs) (knows.found needs c.requires.grows) in
    still_knows features ids new_ids old new group told.agree told.earlier told.known
    (c.context_stays.ensures.no_module features ids old new group valid.is_new accepts.number it valid.interned) found
    (c.accepted_groups_are_well_formed.ensures.types all_groups features ids new_ids old new group it accepts refl) c.requires.room)
    told.accepted

pub returns-clause-entered : goal.returns-clause-entered
returns-clause-entered c =
    let call = c.canonicalize_and_intern_rec_group in
    let features = feature_set c.args.space.now.features in
    let ids = c.args.space.now.ids.items in
    let new_ids = call.new.self.ids.items in
    let old = c.args.list.now in
    let new = call.new.types in
    let group = rec_group c.args.group in
    let told = call.ensures in
    let knows = c.requires.knows in
    let it = of_module features ids old new group knows c.requires.indexes told.agree in
    on_ok_weaker call.result
    (λ accepts.
    let valid = accepts.valid in
    let no_module = c.context_stays.ensures.no_module features ids old new group valid.is_new accepts.number it valid.interned in
    let found : needs_type_canonicalization features ≡ true → AreFoundByKey all_groups new =
    λ needs. c.context_stays.ensures.found all_groups features ids old new group valid.is_new accepts.number valid.interned (λ _. needs) (knows.found needs c.requires.grows) in
    enters features old new (canonical_members ids group) valid.is_new accepts.number (module_types old ids) (types_of_group (module_types old ids) (in_section group)) ids new_ids knows.agree told.agree
    valid.interned no_module found told.known accepts.added (c.context_stays.ensures.types all_groups features ids ids old new group valid.is_new accepts.number it valid.interned knows.known)
    (c.accepted_groups_are_well_formed.ensures.types all_groups features ids new_ids old new group it accepts refl)
    (has_room_for old ids group (types_of_group (module_types old ids) (in_section group)) knows.agree valid.room
    (length-places_of (tree_of (module_types old ids) (in_section group)) 0 (members (in_section group)))))
    told.accepted

pub returns-clause-refused : goal.returns-clause-refused
returns-clause-refused c groups few =
    let call = c.canonicalize_and_intern_rec_group in
    let features = feature_set c.args.space.now.features in
    let ids = c.args.space.now.ids.items in
    let old = c.args.list.now in
    let new = call.new.types in
    let group = rec_group c.args.group in
    let knows = c.requires.knows in
    let unchanged = of_module features ids old old group knows c.requires.indexes knows.agree in
    let it = of_module features ids old new group knows c.requires.indexes call.ensures.agree in
    IfErr-weaker call.result _ _
    (refuses features ids old new group c.args.offset knows c.requires.room (c.refused_groups_are_ill_formed.ensures.many_items all_groups old ids group)
    (c.refused_groups_are_ill_formed.ensures.out_of_memory all_groups features ids old group c.requires.indexes)
    (c.refused_groups_are_ill_formed.ensures.before_interning all_groups features ids old group unchanged)
    (λ is_new number internable interned.
    c.refused_groups_are_ill_formed.ensures.after_interning all_groups features ids old new group is_new number it internable interned
    (record { own = refl; all = λ needs. c.context_stays.ensures.found all_groups features ids old new group is_new number interned (λ _. needs) (knows.found needs c.requires.grows) }))
    groups few)
    call.ensures.refused
