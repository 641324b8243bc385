use Rattle.std.proofs.Common.{◌≡◌, ◌≤◌, [], drop, length, map}
use Rattle.wasm_encoder_sections.specs.CoreItems.{table_type}
use Rattle.wasm_smith_definitions.specs.Items as items
use Rattle.wasm_smith_definitions.specs.Kinds.{of_table}
use Rattle.wasm_smith_definitions.proofs.OwnStepLaws.{AreMade, MayHoldTables}
use Rattle.wasm_smith_definitions.proofs.tables.shape_tables.Given as goal

abbrev pub invariant-loop-ty : goal.invariant-loop-ty
invariant-loop-ty l = record {
  may_hold : MayHoldTables l.config l.spaces (map table_type (drop l.ty-index l.types));
  made : AreMade l.config of_table (λ t. t.type) (map table_type l.types) l.fn.spaces l.spaces (map items.table l.own.items) (map table_type (drop l.ty-index l.types));
  unread : l.types ≡ [] → l.unstructured ≡ l.fn.unstructured;
  taken : length l.unstructured ≤ length l.fn.unstructured;
}
