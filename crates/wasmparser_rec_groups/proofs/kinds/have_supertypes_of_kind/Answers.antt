use Rattle.std.proofs.Common.{◌≡◌, ◌↔◌, IsTrue, rules, subst, sym, tests, ◌∙◌, map}
use Rattle.std.proofs.lemmas.Iterator.{YieldsList-from_slice}
use Rattle.std.proofs.lemmas.Iterator.Search.{all_from_yields_List}
use Rattle.std.proofs.lemmas.List.Folds.{list_all-map}
use Rattle.wasmparser_rec_groups.specs.KindTests.{has_supertypes_of_kind, have_supertypes_of_kind}
use Rattle.wasmparser_rec_groups.specs.Kinds.{HaveSupertypesOfKind, earlier_or_own}
use Rattle.wasmparser_types.specs.SubTypes.{sub_type}
use Rattle.wasmparser_rec_groups.proofs.KindLaws.{kinds_iff}
use Rattle.wasmparser_rec_groups.proofs.kinds.have_supertypes_of_kind.Goals as goal

pub returns : goal.returns
returns c =
    let types = map sub_type c.args.group.now in
    let sub_at = earlier_or_own c.args.types.now types in
    let tested : c.all.result ≡ have_supertypes_of_kind sub_at types =
    all_from_yields_List (λ x. has_supertypes_of_kind sub_at (sub_type x)) _ _ _ c.all.ensures.ran (YieldsList-from_slice c.args.group.now cc) (λ x b q k. search (rules, tests))
    ∙ sym (list_all-map (has_supertypes_of_kind sub_at) sub_type c.args.group.now) in
    subst (λ b. IsTrue b ↔ HaveSupertypesOfKind sub_at types) (sym tested) (kinds_iff sub_at types)
