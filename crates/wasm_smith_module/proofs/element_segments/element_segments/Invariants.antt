use Rattle.std.proofs.Common.{◌≡◌, ◌-◌, length, map, ◌≤◌}
use Rattle.wasm_smith_definitions.specs.Items.{element_segment}
use Rattle.wasm_smith_definitions.specs.Kinds.{of_element, wanted_elements}
use Rattle.wasm_smith_definitions.specs.Steps.{TablesKeep}
use Rattle.wasm_smith_definitions.proofs.StepLaws.{IsGrowing}
use Rattle.wasm_smith_module.specs.Elements.{IsDrawnElement}
use Rattle.wasm_smith_module.proofs.element_segments.element_segments.Given as goal
use Rattle.wasm_smith_validity.specs.ValidGroups.{AllKeepTypeRules}
use Rattle.wasm_smith_validity.specs.Spaces.{functions_of}

abbrev pub invariant-grow : goal.invariant-grow
invariant-grow l = record {
  can : l.can ≡ (wanted_elements l.config).can l.spaces;
  same : l.can ≡ (wanted_elements l.config).can l.fn.spaces;
  rules : AllKeepTypeRules l.spaces.types;
  tables : TablesKeep l.config l.spaces;
  functions : functions_of l.spaces ≡ functions_of l.fn.spaces;
  same_tables : l.spaces.tables ≡ l.fn.spaces.tables;
  taken : length l.unstructured ≤ length l.fn.unstructured;
  grown : IsGrowing l.config (wanted_elements l.config) of_element (IsDrawnElement l.config l.fn.spaces) l.fn.spaces l.fn.unstructured l.spaces l.unstructured (map element_segment l.segments.items);
}

abbrev pub decreases-grow : goal.decreases-grow
decreases-grow l = l.config.max_element_segments - l.spaces.element_segments
