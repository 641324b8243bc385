use Rattle.std.proofs.Common.{sym}
use Rattle.wasm_encoder_sections.specs.CoreItems.{global_type}
use Rattle.wasm_smith_definitions.proofs.ConstantLaws.{global_gives}
use Rattle.wasm_smith_definitions.proofs.candidates.can_get.Goals as goal

pub returns : goal.returns
returns c = λ rules e.
    let below = rw c.types.ensures at c.is_below.ensures in
    global_gives c.args.config.now c.args.spaces.now _ c.args.global (global_type c.in-Some.global_type) (sym c.in-Some.ensures) (rw c.is_imported.ensures at c.if-not-is_visible.false)
    c.if-global_type.false ((below rules).0 e)
