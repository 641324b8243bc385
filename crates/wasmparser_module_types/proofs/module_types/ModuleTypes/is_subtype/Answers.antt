use Rattle.std.proofs.Common.{◌≡◌, IsTrue, slice_get, subst}
use Rattle.std.proofs.lemmas.Bool.Decides.{same_from_decides}
use Rattle.wasm_core_types.specs.Features.{feature_set}
use Rattle.wasm_spec.specs.Subtyping.{ValBelow}
use Rattle.wasm_spec.specs.Trees.{unrolled}
use Rattle.wasm_spec.specs.TypeReferences.{val_map, val_refs}
use Rattle.wasmparser_type_relations.specs.Chains.{by_id}
use Rattle.wasmparser_type_list.specs.TypeTables.{sub_types, type_by_id}
use Rattle.wasmparser_module_types.proofs.Comparisons.{below, below_back}
use Rattle.wasmparser_module_types.specs.ModuleTypes.{AreIds, CanCompare, KnownTypes, stands_for}
use Rattle.wasmparser_type_relations.proofs.Deciding.{val_decided}
use Rattle.wasmparser_type_relations.proofs.Ids.{ids_rank}
use Rattle.wasmparser_type_relations.specs.Decision.{by_number, is_val_below}
use Rattle.wasmparser_types.specs.ValTypes.{val_type}
use Rattle.wasmparser_module_types.proofs.module_types.ModuleTypes.is_subtype.Goals as goal

pub returns-clause-below : goal.returns-clause-below
returns-clause-below c is =
    let it = c.self.inside in
    let a = val_type c.args.a in
    let b = val_type c.args.b in
    subst (λ (known : KnownTypes). ValBelow unrolled (val_map (stands_for known) a) (val_map (stands_for known) b)) c.self.view_is
    (below (feature_set it.space.features) it.list it.space.ids.items c.self.invariant.0 a b (c.valtype_is_subtype.ensures.0 is))

pub returns-clause-all : goal.returns-clause-all
returns-clause-all c =
    let it = c.self.inside in
    let a = val_type c.args.a in
    let b = val_type c.args.b in
    subst (λ (known : KnownTypes). AreIds known (val_refs a) → AreIds known (val_refs b) → CanCompare known.features (val_refs a) (val_refs b)
    → ValBelow unrolled (val_map (stands_for known) a) (val_map (stands_for known) b) → IsTrue c.valtype_is_subtype.result) c.self.view_is
    (λ lower upper can h. c.valtype_is_subtype.ensures.1 (below_back (feature_set it.space.features) it.list it.space.ids.items c.self.invariant.0 a b lower upper can h))

pub returns-clause-exact : goal.returns-clause-exact
returns-clause-exact c =
    let list = c.self.inside.list in
    let a = val_type c.args.a in
    let b = val_type c.args.b in
    subst (λ (known : KnownTypes). c.valtype_is_subtype.result ≡ is_val_below (by_id (slice_get known.sub_types)) a b) c.self.view_is
    (same_from_decides c.valtype_is_subtype.result (is_val_below (type_by_id list) a b) c.valtype_is_subtype.ensures
    (val_decided by_number (type_by_id list) (ids_rank (slice_get (sub_types list)) c.self.invariant.0.earlier) a b))
