use Rattle.std.proofs.Common.{◌≡◌, ◌<◌, arith, length, refl, sym, ◌∙◌, subst, true, map}
use Rattle.std.proofs.lemmas.Result.{err_from_is_err_and}
use Rattle.wasm_core_types.specs.Features.{feature_set}
use Rattle.wasm_core_types.specs.Limits.{limit}
use Rattle.wasm_spec.specs.Gates.{is_allowed_group}
use Rattle.wasmparser_types.specs.Index.{packable}
use Rattle.wasmparser_types.specs.RecGroups.{rec_group}
use Rattle.wasmparser_types.specs.SubTypes.{sub_type}
use Rattle.wasmparser_rec_groups.specs.Interning.{RefusesAsWritten, breaks_a_rule, passes_a_limit}
use Rattle.wasmparser_rec_groups.specs.ItemLimits.{HaveFewItems, HaveManyItems}
use Rattle.wasmparser_rec_groups.specs.Kinds.{HaveSupertypesOfKind, earlier_or_own}
use Rattle.wasmparser_rec_groups.proofs.BeforeInterning.{another_kind, can_be_interned, not_canonical}
use Rattle.wasmparser_rec_groups.proofs.OwnTypes.{all_weaker}
use Rattle.wasmparser_rec_groups.proofs.intern.canonical_rec_group.Goals as goal

pub returns-in-Some-clause-refused : goal.returns-in-Some-clause-refused
returns-in-Some-clause-refused c =
    let many = subst (λ types. HaveManyItems types (limit c.in-Some.limit)) c.types.ensures c.in-Some.ensures.passed in
    subst (RefusesAsWritten (feature_set c.args.features) c.args.ids.now c.args.types.now (rec_group c.args.rec_group) c.args.offset) (sym c.passed.ensures) (passes_a_limit c.in-Some.limit many)

pub returns-then-not-is_allowed_group-clause-refused : goal.returns-then-not-is_allowed_group-clause-refused
returns-then-not-is_allowed_group-clause-refused c =
    subst (RefusesAsWritten (feature_set c.args.features) c.args.ids.now c.args.types.now (rec_group c.args.rec_group) c.args.offset) (sym c.invalid.ensures)
    (breaks_a_rule (λ internable. absurd (let on = internable.allowed in let off = c.if-not-is_allowed_group.true in let told = c.is_allowed_group.ensures in cc)))

pub canonicalize_rec_group-requires-clause-ids : goal.canonicalize_rec_group-requires-clause-ids
canonicalize_rec_group-requires-clause-ids c =
    all_weaker (λ id. id < length c.args.types.now.types) (λ id. id < packable) (λ id less. let few = c.requires.agree.count in omega (arith, less, few)) c.args.ids.now c.requires.known

pub returns-in_err-canonicalize_rec_group-clause-refused : goal.returns-in_err-canonicalize_rec_group-clause-refused
returns-in_err-canonicalize_rec_group-clause-refused c =
    let refused = c.in_err-canonicalize_rec_group.ensures.refused in
    let no = not_canonical (feature_set c.args.features) c.args.ids.now c.args.types.now (rec_group c.args.rec_group) c.gc.result c.gc.ensures refused.0 in
    let p = err_from_is_err_and c.from_residual.result c.from_residual.ensures.1 in
    rw (p.1, p.2) (subst (RefusesAsWritten (feature_set c.args.features) c.args.ids.now c.args.types.now (rec_group c.args.rec_group) c.args.offset) (sym refused.1) (breaks_a_rule no))

pub returns-then-not-have_supertypes_of_kind-clause-refused : goal.returns-then-not-have_supertypes_of_kind-clause-refused
returns-then-not-have_supertypes_of_kind-clause-refused c =
    let types = map sub_type c.types-2.result.now in
    let fails : HaveSupertypesOfKind (earlier_or_own c.args.types.now types) types → ⊥ = λ of_kind. absurd (let on = c.have_supertypes_of_kind.ensures.1 of_kind in let off = c.if-not-have_supertypes_of_kind.true in cc) in
    subst (RefusesAsWritten (feature_set c.args.features) c.args.ids.now c.args.types.now (rec_group c.args.rec_group) c.args.offset) (sym c.invalid-then-not-have_supertypes_of_kind.ensures)
    (breaks_a_rule
    (another_kind (feature_set c.args.features) c.args.ids.now c.args.types.now (rec_group c.args.rec_group) types (rec_group c.canonicalize_rec_group.new.group) c.types-2.ensures
    c.in_ok-canonicalize_rec_group.ensures.canonical fails))

pub returns-clause-form : goal.returns-clause-form
returns-clause-form c =
    let group = rec_group c.args.rec_group in
    let types = map sub_type c.types-2.result.now in
    let told = c.in_ok-canonicalize_rec_group.ensures in
    let yes : HaveSupertypesOfKind (earlier_or_own c.args.types.now types) types = c.have_supertypes_of_kind.ensures.0 c.if-not-have_supertypes_of_kind.false in
    let allowed : is_allowed_group (feature_set c.args.features) group ≡ true = sym c.is_allowed_group.ensures ∙ c.if-not-is_allowed_group.false in
    record {
      is = told.canonical;
      known = c.requires.known;
      names = c.requires.indexes;
      internable = can_be_interned (feature_set c.args.features) c.args.ids.now c.args.types.now group c.gc.result types (rec_group c.canonicalize_rec_group.new.group) c.gc.ensures c.types-2.ensures
          told.canonical allowed told.supertypes told.in_range yes;
      few_items = subst HaveFewItems c.types.ensures (c.in_default.ensures.none refl);
    }
