use Rattle.std.proofs.Common.{◌-◌, length, map, ◌≤◌}
use Rattle.wasm_smith_definitions.specs.Items as items
use Rattle.wasm_smith_definitions.specs.Kinds.{AnyBound, of_global, wanted_globals}
use Rattle.wasm_smith_definitions.proofs.StepLaws.{IsGrowing}
use Rattle.wasm_smith_validity.specs.ValidGroups.{AllKeepTypeRules}
use Rattle.wasm_smith_validity.specs.Spaces.{globals_of}
use Rattle.wasm_smith_definitions.proofs.globals.globals.Given as goal

abbrev pub invariant-grow : goal.invariant-grow
invariant-grow l = record {
  rules : AllKeepTypeRules l.spaces.types;
  taken : length l.unstructured ≤ length l.fn.unstructured;
  growing : IsGrowing l.config (wanted_globals l.config) of_global (AnyBound l.config) l.fn.spaces l.fn.unstructured l.spaces l.unstructured (map items.global l.own.items);
}

abbrev pub decreases-grow : goal.decreases-grow
decreases-grow l = l.config.max_globals - length (globals_of l.spaces)
