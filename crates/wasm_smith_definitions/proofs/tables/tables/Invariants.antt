use Rattle.std.proofs.Common.{◌≡◌, ◌-◌, [], length, map, ◌≤◌}
use Rattle.wasm_smith_definitions.specs.Bounds.{IsBoundedTable}
use Rattle.wasm_smith_definitions.specs.Items as items
use Rattle.wasm_smith_definitions.specs.Kinds.{of_table, wanted_tables}
use Rattle.wasm_smith_definitions.proofs.StepLaws.{IsGrowing}
use Rattle.wasm_smith_validity.specs.ValidGroups.{AllKeepTypeRules}
use Rattle.wasm_smith_definitions.proofs.tables.tables.Given as goal

abbrev pub invariant-grow : goal.invariant-grow
invariant-grow l = record {
  no_own_globals : l.spaces.own_globals ≡ [];
  rules : AllKeepTypeRules l.spaces.types;
  taken : length l.unstructured ≤ length l.fn.unstructured;
  growing : IsGrowing l.config (wanted_tables l.config) of_table (IsBoundedTable l.config) l.fn.spaces l.fn.unstructured l.spaces l.unstructured (map items.table l.own.items);
}

abbrev pub decreases-grow : goal.decreases-grow
decreases-grow l = l.config.max_tables - length l.spaces.tables
