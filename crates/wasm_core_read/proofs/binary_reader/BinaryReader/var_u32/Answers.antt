use Rattle.std.proofs.Common.{arith}
use Rattle.wasm_core_read.proofs.FrontLaws.{after_number}
use Rattle.wasm_core_read.proofs.binary_reader.BinaryReader.var_u32.Goals as goal

pub invariant_of-self : goal.invariant_of-self
invariant_of-self c = (omega (arith, c.in-Some.ensures.shorter, c.self.invariant.0), after_number 32 _ _ _ c.self.invariant.1 c.in-Some.ensures.read)
