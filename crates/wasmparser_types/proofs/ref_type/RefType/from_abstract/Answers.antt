use Rattle.std.proofs.Common.{ap, ◌∙◌}
use Rattle.wasmparser_types.proofs.AbstractBits.{abstract_bits, heap_type_at-code}
use Rattle.wasmparser_types.proofs.ref_type.RefType.from_abstract.Goals as goal

pub from_heap_bits-requires : goal.from_heap_bits-requires
from_heap_bits-requires c = abstract_bits _ _ c.code.ensures.byte c.code.ensures.code

pub returns : goal.returns
returns c = c.from_heap_bits.ensures ∙ ap (λ heap. record { nullable = c.args.nullable; heap_type = heap }) (heap_type_at-code _ _ c.code.ensures.code)
