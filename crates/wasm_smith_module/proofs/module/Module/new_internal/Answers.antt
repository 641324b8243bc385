use Rattle.std.proofs.Common.{arith}
use Rattle.wasm_smith_module.proofs.GivenTypes.{made_some}
use Rattle.wasm_smith_module.proofs.module.Module.new_internal.Goals as goal

pub unwrap-requires : goal.unwrap-requires
unwrap-requires c = made_some _ _ _ c.in_ok-made.made (omega arith) c.in_ok-made.ensures.passed
