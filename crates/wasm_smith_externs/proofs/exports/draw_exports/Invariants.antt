use Rattle.std.proofs.Common.{◌≡◌, ◌-◌, ◌≤◌, length}
use Rattle.wasm_smith_definitions.proofs.StepLaws.{IsGrowing}
use Rattle.wasm_smith_definitions.specs.Kinds.{of_export}
use Rattle.wasm_smith_validity.specs.Spaces.{functions_of}
use Rattle.wasm_smith_externs.specs.Exports.{AreCandidates, AreNames, HasShortName, left_for, wanted_exports}
use Rattle.wasm_smith_externs.specs.Sizes.{exports_size}
use Rattle.wasm_smith_externs.proofs.exports.draw_exports.Given as goal

abbrev pub invariant-grow : goal.invariant-grow
invariant-grow l = record {
  candidates : AreCandidates l.spaces.types (functions_of l.spaces) l.spaces.tags l.candidates;
  left : l.candidates.left ≡ left_for l.config l.imports_size l.spaces;
  size : exports_size l.spaces ≤ l.config.max_type_size - l.imports_size;
  names : AreNames l.names l.spaces.exports;
  taken : length l.unstructured ≤ length l.fn.unstructured;
  growing : IsGrowing l.config (wanted_exports l.config l.imports_size) of_export (λ export. HasShortName export.name) l.fn.spaces l.fn.unstructured l.spaces l.unstructured l.spaces.exports;
}

abbrev pub decreases-grow : goal.decreases-grow
decreases-grow l = l.config.max_exports - length l.spaces.exports
