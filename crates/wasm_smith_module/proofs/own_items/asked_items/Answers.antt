use Rattle.std.proofs.Common.{◌≡◌, ◌-◌, ◌∙◌, length, sym, ap}
use Rattle.wasm_smith_definitions.specs.OwnItems.{own_items}
use Rattle.wasm_smith_shapes.specs.Shapes.{shape_types}
use Rattle.wasm_smith_types.specs.Copies.{shifted_index}
use Rattle.wasm_smith_module.proofs.OwnLaws.{moved_are}
use Rattle.wasm_smith_module.proofs.own_items.asked_items.Goals as goal

pub returns : goal.returns
returns c =
    let count = c.args.type_count in
    let exports = c.shape.inside.exports.items in
    let n : c.types_in.result ≡ length (shape_types c.args.shape.now) = rw (sym c.shape.view_is) (rw c.deref.ensures.value at c.types_in.ensures) in
    let by : c.saturating_sub-by.result ≡ count - length (shape_types c.args.shape.now) = c.saturating_sub-by.ensures ∙ ap (λ k. count - k) n in
    let are = ap own_items (moved_are (shifted_index 0 c.saturating_sub-by.result) exports) in
    rw (sym by, sym c.shape.view_is, sym are) (rw c.deref-2.ensures.value at c.new.ensures)
