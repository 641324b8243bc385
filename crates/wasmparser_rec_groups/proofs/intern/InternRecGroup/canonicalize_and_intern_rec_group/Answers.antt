use Rattle.std.proofs.Common.{sym, ap, ◌∙◌, ◌++◌, subst, length, refl, arith}
use Rattle.std.proofs.lemmas.List.{length-map}
use Rattle.std.proofs.lemmas.Result.{err_from_is_err_and}
use Rattle.wasm_core_types.specs.Features.{feature_set}
use Rattle.wasmparser_types.specs.RecGroups.{members, rec_group}
use Rattle.wasmparser_types.specs.SubTypes.{sub_type}
use Rattle.wasmparser_type_list.specs.TypeTables.{group_ids}
use Rattle.wasmparser_rec_groups.specs.Interning.{AreKnown, as_written, out_of_memory}
use Rattle.wasmparser_rec_groups.proofs.KnownIds.{canonical_count, group_count, known_after, known_after_refusal}
use Rattle.wasmparser_rec_groups.proofs.intern.InternRecGroup.canonicalize_and_intern_rec_group.Goals as goal

pub returns-in_err-canonical-clause-refused : goal.returns-in_err-canonical-clause-refused
returns-in_err-canonical-clause-refused g c =
    let p = err_from_is_err_and c.from_residual.result c.from_residual.ensures.1 in
    rw (p.1, p.2, ← c.type_ids.ensures, ← c.features-features.ensures) (as_written _ c.in_err-canonical.ensures.refused refl)

pub returns-in-Err-clause-refused : goal.returns-in-Err-clause-refused
returns-in-Err-clause-refused g c =
    let form = c.in_ok-canonical.ensures.form in
    rw (c.out_of_memory.ensures, ← c.type_ids.ensures, ← c.features-features.ensures) (out_of_memory form.internable form.few_items refl)

pub intern_rec_group-requires-clause-form : goal.intern_rec_group-requires-clause-form
intern_rec_group-requires-clause-form g c = (c.type_ids.result.now, rec_group c.args.rec_group, c.in_ok-canonical.ensures.form)

pub returns-in_err-group-clause-known : goal.returns-in_err-group-clause-known
returns-in_err-group-clause-known g c =
    let ids = c.type_ids.result.now in
    let group = rec_group c.args.rec_group in
    let form = c.in_ok-canonical.ensures.form in
    subst (AreKnown c.intern_rec_group.new.types) (c.type_ids.ensures ∙ sym c.in-Ok.ensures.ids)
    (known_after_refusal (feature_set c.features-features.result) ids c.args.types.now c.intern_rec_group.new.types group c.args.offset c.in_err-group.field-0.0
    (c.in_err-group.ensures.refused ids group form) form.known)

pub returns-in_err-group-clause-refused : goal.returns-in_err-group-clause-refused
returns-in_err-group-clause-refused g c =
    let p = err_from_is_err_and c.from_residual-in_err-group.result c.from_residual-in_err-group.ensures.1 in
    rw (p.1, p.2, ← c.type_ids.ensures, ← c.features-features.ensures) (c.in_err-group.ensures.refused c.type_ids.result.now (rec_group c.args.rec_group) c.in_ok-canonical.ensures.form)

pub add_group_ids-requires-clause-room : goal.add_group_ids-requires-clause-room
add_group_ids-requires-clause-room g c =
    let ids = c.type_ids.result.now in
    let group = rec_group c.args.rec_group in
    let form = c.in_ok-canonical.ensures.form in
    let told = c.in_ok-group.ensures in
    let valid = told.valid ids group form in
    let count = group_count (feature_set c.features-features.result) ids c.args.types.now c.intern_rec_group.new.types group c.in_ok-group.group c.requires.agree told.agree form.known form.names
    valid.internable valid.is_new valid.interned in
    omega (arith, count, ap length c.types.ensures, length-map c.types.result.now sub_type, ap (λ r. length (members r)) form.is, canonical_count ids group, c.in-Ok.ensures.room)

pub returns-clause-known : goal.returns-clause-known
returns-clause-known g c =
    let ids = c.type_ids.result.now in
    let group = rec_group c.args.rec_group in
    let form = c.in_ok-canonical.ensures.form in
    let told = c.in_ok-group.ensures in
    let valid = told.valid ids group form in
    let added = c.add_group_ids.ensures.ids ∙ ap (λ q. q ++ group_ids c.intern_rec_group.new.types c.in_ok-group.group) (c.in-Ok.ensures.ids ∙ sym c.type_ids.ensures) in
    known_after (feature_set c.features-features.result) ids c.args.types.now c.intern_rec_group.new.types group c.in_ok-group.group c.requires.agree told.agree form.known form.names
    valid.internable valid.is_new valid.interned _ added

pub returns-clause-accepted : goal.returns-clause-accepted
returns-clause-accepted g c =
    let group = rec_group c.args.rec_group in
    let added = c.add_group_ids.ensures.ids ∙ ap (λ q. q ++ group_ids c.intern_rec_group.new.types c.in_ok-group.group) (c.in-Ok.ensures.ids ∙ sym c.type_ids.ensures) in
    rw (← c.type_ids.ensures, ← c.features-features.ensures) (record {
      number = c.in_ok-group.group;
      valid = c.in_ok-group.ensures.valid c.type_ids.result.now group c.in_ok-canonical.ensures.form;
      added = added;
    })
