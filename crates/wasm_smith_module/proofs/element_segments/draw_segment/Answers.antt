use Rattle.std.proofs.Common.{sym}
use Rattle.wasm_encoder_sections.specs.CoreItems.{ref_type}
use Rattle.wasm_smith_definitions.specs.Items.{element_items}
use Rattle.wasm_smith_module.proofs.ElementLaws.{bulk_on, other_element}
use Rattle.wasm_smith_module.proofs.TrapLaws.{other_drawn}
use Rattle.wasm_smith_module.proofs.element_segments.draw_segment.Goals as goal

pub draw_active-requires-clause-there : goal.draw_active-requires-clause-there
draw_active-requires-clause-there c = sym c.in-Some.ensures

pub returns-in_ok-items-in-None-clause-allowed : goal.returns-in_ok-items-in-None-clause-allowed
returns-in_ok-items-in-None-clause-allowed c =
    other_element c.args.config.now c.args.spaces.now c.mode_without_table-mode.result (element_items c.in_ok-items-in-None.items) (ref_type c.table_element-ty.result) c.mode_without_table-mode.ensures
    (bulk_on c.args.config.now.bulk_memory_enabled c.args.spaces.now.tables c.draw_index-index.result c.modes_without_table-others.result c.modes_without_table-others.ensures (rw c.count_of-tables.ensures at c.draw_index-index.ensures.below) c.in-None.ensures)
    c.in_ok-items-in-None.ensures.drawn

pub returns-in_ok-items-in-None-clause-drawn : goal.returns-in_ok-items-in-None-clause-drawn
returns-in_ok-items-in-None-clause-drawn c =
    other_drawn c.args.config.now c.args.spaces.now c.mode_without_table-mode.result (element_items c.in_ok-items-in-None.items) _ _ c.mode_without_table-mode.ensures
    c.bounds_alone-bounds.ensures.least c.bounds_alone-bounds.ensures.most c.in_ok-items-in-None.ensures.bounded
