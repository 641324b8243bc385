use Rattle.std.proofs.Common.{◌≡◌, ◌++◌, map}
use Rattle.wasmparser_readers.specs.Exports.{export_item}
use Rattle.wasm_gen_view.specs.Items.{exports_among}
use Rattle.wasm_gen_view.specs.SameViews.{named_item}
use Rattle.wasmparser_validator.specs.Shown.{exports_left, spaces}
use Rattle.wasm_gen_view.proofs.known_exports.known_exports.Given as goal

abbrev pub invariant-loop-export : goal.invariant-loop-export
invariant-loop-export l = record {
  kept : map named_item l.all.items ++ exports_among l.items (exports_left l.export-iterator) ≡ exports_among l.items (spaces l.types).exports;
}
