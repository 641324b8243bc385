use Rattle.std.proofs.Common.{◌≡◌, ◌+◌, ◌<◌, ◌^◌, ◌++◌, map, drop, length}
use Rattle.wasm_spec.specs.Types.{ExternalKind}
use Rattle.wasm_smith_shapes.specs.Shapes.{named_item}
use Rattle.wasm_smith_externs.specs.ShapeExports.{count_in, shape_exports_from}
use Rattle.wasm_smith_externs.proofs.shape_exports.shape_exports.Given as goal

abbrev pub invariant-loop-export : goal.invariant-loop-export
invariant-loop-export l = record {
  exported : l.spaces.exports ++ shape_exports_from l.counts (map named_item (drop l.export-index l.exports)) ≡ shape_exports_from l.fn.before (map named_item l.exports);
  known : l.spaces ≡ record l.fn.spaces { exports = l.spaces.exports };
  few : (kind : ExternalKind) → count_in l.counts kind + length (drop l.export-index l.exports) < 2 ^ 32;
}
