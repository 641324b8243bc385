use Rattle.wasm_core_read.proofs.UnsignedLaws.{seven_bits, no_high_bits}
use Rattle.wasm_core_read.proofs.unsigned.has_bits.Goals as goal

pub returns-then-bits-ge7 : goal.returns-then-bits-ge7
returns-then-bits-ge7 c = seven_bits _ _ c.requires c.if-bits-ge7.true

pub returns-else-bits-ge7 : goal.returns-else-bits-ge7
returns-else-bits-ge7 c = no_high_bits c.args.byte c.args.bits
