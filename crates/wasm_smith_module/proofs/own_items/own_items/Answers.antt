use Rattle.std.proofs.Common.{◌≡◌, ◌∙◌, map, ap, subst, sym, arith}
use Rattle.std.proofs.lemmas.List.{length-map}
use Rattle.std.specs.Prelude.{IfOk}
use Rattle.wasm_core_types.specs.SubTypes.{sub_type}
use Rattle.wasm_smith_definitions.specs.OwnItems.{OwnValue}
use Rattle.wasm_smith_module.proofs.OwnLaws.{few_shape_types, own_are}
use Rattle.wasm_smith_module.specs.Asked.{IsGoodFor}
use Rattle.wasm_smith_shapes.specs.declared.shape.ShapeUse.TheVariants.{Module, Exports}
use Rattle.wasm_smith_types.specs.Given.{or_else}
use Rattle.wasm_smith_module.proofs.own_items.own_items.Goals as goal

pub asked_items-requires-clause-few : goal.asked_items-requires-clause-few
asked_items-requires-clause-few c =
    few_shape_types c.args.config.now Module c.in-Some.shape (subst (IsGoodFor c.args.config.now Module) c.in-Some.is c.requires.shapes.module_shape)

pub returns-in-Some : goal.returns-in-Some
returns-in-Some c =
    let config = c.args.config.now in
    let good = subst (IsGoodFor config Module) c.in-Some.is c.requires.shapes.module_shape in
    let count = length-map c.args.types.now sub_type in
    let are = own_are config (map sub_type c.args.types.now) c.in-Some.shape Module _ good (sym count) (omega (arith, count, c.requires.few)) (ap (λ m. or_else m config.exports) c.in-Some.is) in
    subst (λ (v : OwnValue). IfOk c.asked_items.result (λ own. own ≡ v)) are c.asked_items.ensures

pub asked_items-requires-in-Some-exports-clause-few : goal.asked_items-requires-in-Some-exports-clause-few
asked_items-requires-in-Some-exports-clause-few c =
    few_shape_types c.args.config.now Exports c.in-Some-exports.shape (subst (IsGoodFor c.args.config.now Exports) c.in-Some-exports.is c.requires.shapes.exports)

pub returns-in-Some-exports : goal.returns-in-Some-exports
returns-in-Some-exports c =
    let config = c.args.config.now in
    let good = subst (IsGoodFor config Exports) c.in-Some-exports.is c.requires.shapes.exports in
    let count = length-map c.args.types.now sub_type in
    let asked = ap (λ m. or_else m config.exports) c.in_default.is ∙ c.in-Some-exports.is in
    let are = own_are config (map sub_type c.args.types.now) c.in-Some-exports.shape Exports _ good (sym count) (omega (arith, count, c.requires.few)) asked in
    subst (λ (v : OwnValue). IfOk c.asked_items-in-Some-exports.result (λ own. own ≡ v)) are c.asked_items-in-Some-exports.ensures
