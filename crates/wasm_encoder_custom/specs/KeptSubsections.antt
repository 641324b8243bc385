-- The parts of the code as those of the definitions, and their encodings.
use Rattle.std.specs.Prelude.{ℕ, List}
use Rattle.wasm_encoder_custom.specs.Subsections as parts
use Rattle.wasm_encoder_custom.specs.Subsections.{subsection_encoding}
use Rattle.wasm_encoder_custom.specs.declared.subsections.Subsection.{Subsection}

abbrev pub subsection : Subsection → parts.Subsection
subsection it = record { id = it.id; content = it.content.items }

unfoldable pub subsection_bytes : Subsection → List ℕ
subsection_bytes it = subsection_encoding (subsection it)
