use Rattle.std.proofs.Common.{arith}
use Rattle.wasm_encoder_sections.specs.CoreItems.{memory_type}
use Rattle.wasm_smith_definitions.specs.Items.{expression}
use Rattle.wasm_smith_module.proofs.DataLaws.{active_data}
use Rattle.wasm_smith_module.proofs.TrapLaws.{active_safe}
use Rattle.wasm_smith_module.proofs.data_segments.draw_active.Goals as goal

pub returns-clause-allowed : goal.returns-clause-allowed
returns-clause-allowed c =
    active_data c.args.config.now c.args.spaces.now c.args.memory (memory_type c.args.ty.now) (expression c.in_ok-offset.offset) c.requires.there c.in_ok-offset.ensures.gives

pub returns-clause-safe : goal.returns-clause-safe
returns-clause-safe c =
    active_safe c.args.config.now c.args.spaces.now c.args.memory (memory_type c.args.ty.now) c.in_ok-data.data.items (expression c.in_ok-offset.offset) _ _ _ c.requires.there
    c.least_bytes-size.ensures c.most_contents-most.ensures c.in_ok-data.ensures.few (omega (arith, c.saturating_sub-last.ensures, c.len.ensures)) c.in_ok-offset.ensures.within
