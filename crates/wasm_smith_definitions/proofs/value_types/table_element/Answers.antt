use Rattle.wasm_encoder_sections.specs.CoreItems.{ref_type}
use Rattle.wasm_smith_definitions.proofs.TableLaws.{element_offered}
use Rattle.wasm_smith_definitions.proofs.value_types.table_element.Goals as goal

pub returns-clause-offered : goal.returns-clause-offered
returns-clause-offered c =
    element_offered c.args.config.now c.args.offers.now c.args.type_count _ _ _ (ref_type c.nullable.result) c.requires c.if-not-config.false c.reference.ensures.drawn c.nullable.ensures
