use Rattle.std.proofs.Common.{◌≡◌, ◌++◌, map, drop}
use Rattle.wasm_gen_view.specs.SameViews.{named_item}
use Rattle.wasm_gen_view.specs.Items.{exports_among}
use Rattle.wasm_smith_definitions.specs.Items.{export}
use Rattle.wasm_gen_view.proofs.items.Items.exports.Given as goal

abbrev pub invariant-loop-export : goal.invariant-loop-export
invariant-loop-export l = record {
  kept : map named_item l.all.items ++ exports_among l.self (map export (drop l.export-index l.exports)) ≡ exports_among l.self (map export l.exports);
}
