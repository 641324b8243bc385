use Rattle.std.proofs.Common.{◌≡◌, ◌+◌, ◌-◌, true, map, ◌≤◌, length, vec_len}
use Rattle.wasm_smith_definitions.specs.Items.{placed_custom}
use Rattle.wasm_smith_types.specs.Growing.{grow_at, with_front}
use Rattle.wasm_smith_module.specs.Contents.{custom_total}
use Rattle.wasm_smith_module.specs.Customs.{custom_at, customs_at}
use Rattle.wasm_smith_module.proofs.custom_sections.some_custom_sections.Given as goal

abbrev pub invariant-grow : goal.invariant-grow
invariant-grow l = record {
  drawn : with_front (map placed_custom l.sections.items) (grow_at custom_at 0 10 (vec_len l.sections) l.unstructured) ≡ customs_at true l.fn.unstructured;
  taken : length l.unstructured ≤ length l.fn.unstructured;
  within : custom_total (map placed_custom l.sections.items) + length l.unstructured ≤ length l.fn.unstructured;
}

abbrev pub decreases-grow : goal.decreases-grow
decreases-grow l = 10 - vec_len l.sections
