use Rattle.wasm_smith_sections.proofs.ReadItems.{element_form, memory_form}
use Rattle.wasm_smith_sections.proofs.laws.segments_have_forms.Goals as goal

pub returns : goal.returns
returns c = record { elements = λ segment. element_form segment.mode segment.items; segments = memory_form }
