use Rattle.std.proofs.Common.{arith}
use Rattle.wasm_encoder_sections.specs.CoreItems.{table_type}
use Rattle.wasm_smith_definitions.specs.Items.{element_items, expression}
use Rattle.wasm_smith_module.proofs.ElementLaws.{active_element, table_element}
use Rattle.wasm_smith_module.proofs.TrapLaws.{active_drawn}
use Rattle.wasm_smith_module.proofs.element_segments.draw_active.Goals as goal

pub draw_items-requires-clause-element : goal.draw_items-requires-clause-element
draw_items-requires-clause-element c = table_element c.args.config.now c.args.spaces.now (table_type c.args.table.now) (c.requires.tables _ _ c.requires.there)

pub returns-clause-allowed : goal.returns-clause-allowed
returns-clause-allowed c =
    active_element c.args.config.now c.args.spaces.now _ (table_type c.args.table.now) (element_items c.in_ok-items.items) (expression c.in_ok-offset.offset) c.requires.there c.in_ok-items.ensures.drawn
    c.in_ok-offset.ensures.gives

pub returns-clause-drawn : goal.returns-clause-drawn
returns-clause-drawn c =
    active_drawn c.args.config.now c.args.spaces.now _ (table_type c.args.table.now) (element_items c.in_ok-items.items) (expression c.in_ok-offset.offset) _ _ _ c.requires.there
    c.bounds_within-bounds.ensures.least c.bounds_within-bounds.ensures.most c.in_ok-items.ensures.bounded
    (omega (arith, c.from-last.ensures, c.saturating_sub-room.ensures, c.count_items.ensures)) c.in_ok-offset.ensures.within
