use Rattle.std.proofs.Common.{◌≡◌, ◌≤◌, map, length}
use Rattle.std.specs.List.{range_with_len}
use Rattle.wasm_encoder_sections.specs.CoreItems.{export_kind}
use Rattle.wasm_smith_definitions.specs.Kinds.{count_of}
use Rattle.wasm_smith_externs.specs.AllExports.{AreExported}
use Rattle.wasm_smith_externs.specs.Exports.{AreNames}
use Rattle.wasm_smith_externs.proofs.all_exports.export_items.Given as goal

abbrev pub invariant-loop-index : goal.invariant-loop-index
invariant-loop-index l = record {
  exported : AreExported l.fn.spaces l.fn.unstructured l.spaces l.unstructured (map (λ index. (export_kind l.kind, index)) (range_with_len 0 l.index));
  names : AreNames l.names l.spaces.exports;
  count : count_of l.spaces (export_kind l.kind) ≡ count_of l.fn.spaces (export_kind l.kind);
  taken : length l.unstructured ≤ length l.fn.unstructured;
}
