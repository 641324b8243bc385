use Rattle.wasmparser_types.proofs.AbstractBits.{ref_type_at-flag}
use Rattle.wasmparser_types.proofs.ref_type.RefType.from_heap_bits.Goals as goal

pub returns : goal.returns
returns c = rw c.from.ensures (ref_type_at-flag c.args.nullable c.args.bits)
