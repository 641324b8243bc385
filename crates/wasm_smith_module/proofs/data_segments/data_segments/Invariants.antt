use Rattle.std.proofs.Common.{◌≡◌, ◌-◌, ◌+◌, ◌≤◌, length, map}
use Rattle.wasm_smith_definitions.specs.Items.{data_segment}
use Rattle.wasm_smith_definitions.specs.Kinds.{of_data, wanted_data}
use Rattle.wasm_smith_definitions.proofs.StepLaws.{IsGrowing}
use Rattle.wasm_smith_module.specs.Data.{total_size}
use Rattle.wasm_smith_module.specs.Traps.{IsSafeData}
use Rattle.wasm_smith_module.proofs.data_segments.data_segments.Given as goal
use Rattle.wasm_smith_validity.specs.ValidGroups.{AllKeepTypeRules}

abbrev pub invariant-grow : goal.invariant-grow
invariant-grow l = record {
  can : l.can ≡ (wanted_data l.config).can l.spaces;
  same : l.can ≡ (wanted_data l.config).can l.fn.spaces;
  rules : AllKeepTypeRules l.spaces.types;
  same_memories : l.spaces.memories ≡ l.fn.spaces.memories;
  grown : IsGrowing l.config (wanted_data l.config) of_data (IsSafeData l.config l.fn.spaces) l.fn.spaces l.fn.unstructured l.spaces l.unstructured (map data_segment l.segments.items);
  taken : length l.unstructured ≤ length l.fn.unstructured;
  within : total_size (map data_segment l.segments.items) + length l.unstructured ≤ length l.fn.unstructured;
}

abbrev pub decreases-grow : goal.decreases-grow
decreases-grow l = l.config.max_data_segments - l.spaces.data_segments
