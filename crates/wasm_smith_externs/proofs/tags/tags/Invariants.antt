use Rattle.std.proofs.Common.{◌≡◌, ◌-◌, length, ◌≤◌}
use Rattle.wasm_smith_definitions.proofs.StepLaws.{IsGrowing}
use Rattle.wasm_smith_definitions.specs.Kinds.{AnyBound}
use Rattle.wasm_smith_definitions.specs.FunctionTypes.{tag_indexes}
use Rattle.wasm_smith_externs.specs.Wanted.{of_tag, wanted_tags}
use Rattle.wasm_smith_externs.proofs.tags.tags.Given as goal

abbrev pub invariant-grow : goal.invariant-grow
invariant-grow l = record {
  indexes : l.indexes.items ≡ tag_indexes 0 l.spaces.types;
  can : l.can ≡ (wanted_tags l.config).can l.spaces;
  taken : length l.unstructured ≤ length l.fn.unstructured;
  growing : IsGrowing l.config (wanted_tags l.config) of_tag (AnyBound l.config) l.fn.spaces l.fn.unstructured l.spaces l.unstructured l.own.items;
}

abbrev pub decreases-grow : goal.decreases-grow
decreases-grow l = l.config.max_tags - length l.spaces.tags
