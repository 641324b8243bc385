use Rattle.std.proofs.Common.{◌≡◌, ◌+◌, ◌-◌, ◌∙◌, ap, arith, length, map}
use Rattle.std.proofs.lemmas.List.{length-map}
use Rattle.std.proofs.lemmas.Result.{IfErr-weaker, err_from_is_err_and}
use Rattle.wasm_core_types.specs.Features.{feature_set}
use Rattle.wasm_core_types.specs.SubTypes.{sub_type}
use Rattle.wasm_smith_shapes.specs.Shapes.{imported_items, shape_types}
use Rattle.wasm_smith_shapes.proofs.ReasonLaws.{exports_reason, groups_reason, imports_reason, imports_there}
use Rattle.wasm_smith_shapes.proofs.shape.Shape.check_within.Goals as goal

pub returns-in_err-types-clause-bad : goal.returns-in_err-types-clause-bad
returns-in_err-types-clause-bad c =
    let p = err_from_is_err_and c.from_residual.result c.from_residual.ensures.1 in
    rw (p.1, p.2) (groups_reason _ _ _ _ _ c.in_err-types.ensures.bad)

pub returns-in_err-imported-clause-bad : goal.returns-in_err-imported-clause-bad
returns-in_err-imported-clause-bad c =
    let p = err_from_is_err_and c.from_residual-in_err-imported.result c.from_residual-in_err-imported.ensures.1 in
    let good = c.in_ok-types.ensures.good in
    let few = good.few in
    let all : length (shape_types c.args.self.now) + (c.args.most - length c.new-items.result.types.now) ≡ c.args.most =
    omega
    (arith, few, ap length c.new-items.ensures.stand.types, length-map c.new-items.result.types.now sub_type, ap (λ xs. length (map sub_type xs)) c.deref.ensures.value, ap length c.in_ok-types.ensures.types) in
    rw (p.1, p.2) (imports_reason _ _ _ _ good _ (ap feature_set c.new-items.ensures.features) _ all _ c.in_err-imported.ensures.bad)

pub returns-clause-bad : goal.returns-clause-bad
returns-clause-bad c =
    let good = c.in_ok-types.ensures.good in
    let few = good.few in
    let all : length (shape_types c.args.self.now) + (c.args.most - length c.new-items.result.types.now) ≡ c.args.most =
    omega
    (arith, few, ap length c.new-items.ensures.stand.types, length-map c.new-items.result.types.now sub_type, ap (λ xs. length (map sub_type xs)) c.deref.ensures.value, ap length c.in_ok-types.ensures.types) in
    let same = ap feature_set c.new-items.ensures.features in
    let imports = imports_there _ _ _ _ _ same _ all c.in_ok-imported.ensures.good in
    let within = c.in_ok-imported.ensures.within in
    let whole : length (shape_types c.args.self.now) + length (imported_items c.args.self.now) + (c.args.most - length c.new-items.result.types.now - c.in_ok-imported.imported) ≡ c.args.most =
    omega (arith, few, all, within, c.in_ok-imported.ensures.counted) in
    IfErr-weaker c.check_exports.result _ _ (λ e bad. exports_reason _ _ _ _ good imports _ (ap feature_set c.in_ok-imported.ensures.features ∙ same) _ whole e bad) c.check_exports.ensures.bad
