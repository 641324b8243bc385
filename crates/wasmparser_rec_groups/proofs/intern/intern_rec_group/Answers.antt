use Rattle.std.proofs.Common.{◌∙◌, ap, sym, subst, length, slice_get}
use Rattle.std.proofs.lemmas.Result.{err_from_is_err_and}
use Rattle.wasm_core_types.specs.Features.{feature_set}
use Rattle.wasmparser_types.specs.RecGroups.{members, rec_group}
use Rattle.wasmparser_type_relations.specs.Chains.{AreBelowEarlier}
use Rattle.wasmparser_type_list.specs.TypeTables.{AreWithin, has_room, sub_types}
use Rattle.wasmparser_rec_groups.proofs.BeforeInterning.{interns_members, no_intern}
use Rattle.wasmparser_rec_groups.specs.Interning.{is_refused}
use Rattle.wasmparser_rec_groups.proofs.CanonicalGroups.{still_earlier, within}
use Rattle.wasmparser_rec_groups.proofs.intern.intern_rec_group.Goals as goal

pub intern_canonical_rec_group-requires-clause-within : goal.intern_canonical_rec_group-requires-clause-within
intern_canonical_rec_group-requires-clause-within c =
    let it = c.requires.form in
    let ids = it.0 in
    let group = it.1 in
    let form = it.2 in
    subst (λ g. AreWithin (length c.args.types.now.types) (members g)) (sym form.is)
    (within (feature_set c.args.features) ids c.args.types.now group form.known form.names form.internable)

pub returns-in_err-id-clause-earlier : goal.returns-in_err-id-clause-earlier
returns-in_err-id-clause-earlier c = subst (λ t. AreBelowEarlier (slice_get (sub_types t))) (sym c.in_err-id.ensures.refused) c.requires.earlier

pub returns-in_err-id-clause-refused : goal.returns-in_err-id-clause-refused
returns-in_err-id-clause-refused c ids group form =
    let p = err_from_is_err_and c.from_residual.result c.from_residual.ensures.1 in
    rw (p.1, p.2) (no_intern (feature_set c.args.features) ids c.args.types.now group c.intern_canonical_rec_group.new.self c.args.offset
    (rec_group c.args.canonical) form.is form.internable form.few_items c.in_err-id.ensures.refused c.in_err-id.field-0.0 c.in_err-id.ensures.refusal)

pub check_rec_group-requires-clause-earlier : goal.check_rec_group-requires-clause-earlier
check_rec_group-requires-clause-earlier c =
    let features = feature_set c.args.features in
    let it = c.requires.form in
    let ids = it.0 in
    let group = it.1 in
    let form = it.2 in
    let interned = interns_members features ids c.args.types.now group c.intern_canonical_rec_group.new.self _ (rec_group c.args.canonical) form.is
    c.needs_type_canonicalization-needs_canonicalization.ensures _ _ c.in_ok-id.ensures.interned in
    still_earlier features ids c.args.types.now c.intern_canonical_rec_group.new.self group c.requires.earlier form.names form.internable _ _ _ interned

pub returns-in-Ok-clause-earlier : goal.returns-in-Ok-clause-earlier
returns-in-Ok-clause-earlier c =
    let features = feature_set c.args.features in
    let it = c.requires.form in
    let ids = it.0 in
    let group = it.1 in
    let form = it.2 in
    let interned = interns_members features ids c.args.types.now group c.intern_canonical_rec_group.new.self _ (rec_group c.args.canonical) form.is
    c.needs_type_canonicalization-needs_canonicalization.ensures _ _ c.in_ok-id.ensures.interned in
    still_earlier features ids c.args.types.now c.intern_canonical_rec_group.new.self group c.requires.earlier form.names form.internable _ _ _ interned

pub returns-in-Ok-clause-valid : goal.returns-in-Ok-clause-valid
returns-in-Ok-clause-valid c ids group form = record {
  is_new = _;
  internable = form.internable;
  few_items = form.few_items;
  room = sym (ap (λ g. has_room c.args.types.now (members g)) form.is) ∙ c.in_ok-id.ensures.room;
  interned = interns_members (feature_set c.args.features) ids c.args.types.now group c.intern_canonical_rec_group.new.self _ (rec_group c.args.canonical) form.is
      c.needs_type_canonicalization-needs_canonicalization.ensures _ _ c.in_ok-id.ensures.interned;
  kept = c.in-Ok.ensures.kept;
}

pub returns-in-Err-clause-earlier : goal.returns-in-Err-clause-earlier
returns-in-Err-clause-earlier c =
    let features = feature_set c.args.features in
    let it = c.requires.form in
    let ids = it.0 in
    let group = it.1 in
    let form = it.2 in
    let interned = interns_members features ids c.args.types.now group c.intern_canonical_rec_group.new.self _ (rec_group c.args.canonical) form.is
    c.needs_type_canonicalization-needs_canonicalization.ensures _ _ c.in_ok-id.ensures.interned in
    still_earlier features ids c.args.types.now c.intern_canonical_rec_group.new.self group c.requires.earlier form.names form.internable _ _ _ interned

pub returns-in-Err-clause-refused : goal.returns-in-Err-clause-refused
returns-in-Err-clause-refused c ids group form =
    let features = feature_set c.args.features in
    let interned = interns_members features ids c.args.types.now group c.intern_canonical_rec_group.new.self _ (rec_group c.args.canonical) form.is
    c.needs_type_canonicalization-needs_canonicalization.ensures _ _ c.in_ok-id.ensures.interned in
    is_refused _ c.in_ok-id.id c.in-Err.kind form.internable (sym (ap (λ g. has_room c.args.types.now (members g)) form.is) ∙ c.in_ok-id.ensures.room) interned c.in-Err.ensures.refused
