use Rattle.wasm_encoder_sections.specs.CoreItems.{table_type}
use Rattle.wasm_smith_definitions.proofs.OwnStepLaws.{filled_own_table, initialised_since, own_element_written}
use Rattle.wasm_smith_definitions.proofs.tables.shape_table.Goals as goal

pub draw-requires-clause-written : goal.draw-requires-clause-written
draw-requires-clause-written c =
    own_element_written c.args.config.now c.args.spaces.now (table_type c.args.ty) c.requires.kept (initialised_since c.args.config.now _ _ _ _ c.is_initialised.ensures.exact c.if-not-is_initialised.false)

pub returns-clause-allowed : goal.returns-clause-allowed
returns-clause-allowed c =
    filled_own_table c.args.config.now c.args.spaces.now (table_type c.args.ty) _ c.requires.kept c.requires.few c.requires.no_own_globals
    (initialised_since c.args.config.now _ _ _ _ c.is_initialised.ensures.exact c.if-not-is_initialised.false) c.in_ok-init.ensures.gives
