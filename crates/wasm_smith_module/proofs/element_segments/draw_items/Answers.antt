use Rattle.wasm_encoder_sections.specs.CoreItems.{ref_type}
use Rattle.wasm_smith_module.proofs.ElementLaws.{expressions_are}
use Rattle.wasm_smith_module.proofs.element_segments.draw_items.Goals as goal

pub returns-clause-drawn : goal.returns-clause-drawn
returns-clause-drawn c =
    expressions_are c.args.config.now c.args.spaces.now (ref_type c.args.ty) _ (c.requires.element.written (c.are_functions.ensures.constants c.if-are_functions.false)) c.in_ok-items.ensures.given
