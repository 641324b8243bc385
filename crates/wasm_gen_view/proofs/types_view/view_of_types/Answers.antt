use Rattle.std.proofs.Common.{refl}
use Rattle.wasm_gen_view.proofs.MadeViews.{view_is}
use Rattle.wasm_gen_view.proofs.ValidTypes.{names_have_types, numbered_view}
use Rattle.wasm_gen_view.proofs.types_view.view_of_types.Goals as goal
use Rattle.wasmparser_validator.specs.Shown.{spaces}

pub returns-clause-shown : goal.returns-clause-shown
returns-clause-shown c =
    let numbers = c.in_ok-numbers.numbers in
    let items = c.in_ok-items.items in
    let (trees, are) = c.in_ok-numbers.ensures in
    view_is (spaces c.args.types) trees numbers.groups numbers.places.items are items c.in_ok-items.ensures _ c.in_ok-groups.ensures.groups c.in_ok-groups.ensures.places refl refl refl refl refl refl c.in_ok-exports.ensures

pub returns-clause-numbered : goal.returns-clause-numbered
returns-clause-numbered c = numbered_view (spaces c.args.types) _ (names_have_types (spaces c.args.types) c.names_types.ensures) (returns-clause-shown c)
