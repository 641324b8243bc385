use Rattle.wasm_encoder_sections.specs.CoreItems.{table_type}
use Rattle.wasm_smith_definitions.proofs.OfferedLaws.{asked_since}
use Rattle.wasm_smith_definitions.proofs.TableLaws.{element_written, null_table_allowed, filled_table_allowed}
use Rattle.wasm_smith_definitions.proofs.tables.table.Goals as goal

pub draw-requires-clause-written : goal.draw-requires-clause-written
draw-requires-clause-written c =
    element_written c.args.config.now c.args.spaces.now _ _ c.requires.few (asked_since _ _ _ _ c.bool_if.ensures.exact c.if-bool_if.true) c.table_type-ty.ensures.offered.element c.type_count.ensures.most

pub returns-clause-allowed : goal.returns-clause-allowed
returns-clause-allowed c = null_table_allowed c.args.config.now c.args.spaces.now _ (table_type c.table_type-ty.result) c.requires.few c.requires.room c.type_count.ensures.most c.table_type-ty.ensures.offered

pub returns-then-bool_if-clause-allowed : goal.returns-then-bool_if-clause-allowed
returns-then-bool_if-clause-allowed c =
    filled_table_allowed c.args.config.now c.args.spaces.now _ (table_type c.table_type-ty.result) _ c.requires.few c.requires.room c.type_count.ensures.most c.table_type-ty.ensures.offered c.requires.no_own_globals
    (asked_since _ _ _ _ c.bool_if.ensures.exact c.if-bool_if.true) c.in_ok-init.ensures.gives
