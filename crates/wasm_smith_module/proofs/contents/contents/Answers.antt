use Rattle.std.proofs.Common.{ap, arith, length}
use Rattle.wasm_smith_module.proofs.DrawLaws.{bytes_taken}
use Rattle.wasm_smith_module.proofs.contents.contents.Goals as goal

pub returns-clause-within : goal.returns-clause-within
returns-clause-within c =
    omega (arith, ap length c.in_ok-contents.ensures.items, bytes_taken _ c.unwrap-bytes.result.now _ _ (rw c.unwrap-bytes.ensures at c.bytes.ensures.exact))
