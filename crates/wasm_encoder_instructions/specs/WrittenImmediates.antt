-- What stands after codes, and how it is written.
use Rattle.std.specs.Int.{w32, w64, to_le_bytes}
use Rattle.std.specs.Prelude.{ℕ, List, [], ◌∷◌, map}
use Rattle.wasm_core_types.specs.CoreTypes.{heap_type, val_type}
use Rattle.wasm_encoder_instructions.specs.Immediates.{block_type, memory_argument}
use Rattle.wasm_encoder_instructions.specs.OperatorEncodings.{block_encoding, memory_argument_encoding, indexes_encoding, labels_encoding}
use Rattle.wasm_encoder_instructions.specs.declared.immediates.Immediates.{Immediates}
use Rattle.wasm_encoder_instructions.specs.declared.immediates.Immediates.TheVariants as forms
use Rattle.wasm_spec.specs.Shortest.{unsigned_encoding, signed_encoding, list_encoding}
use Rattle.wasm_spec.specs.TypeEncodings.{heap_encoding, val_encoding}

unfoldable pub written_immediates : Immediates → List ℕ
written_immediates forms.None = []
written_immediates (forms.Index index) = unsigned_encoding index
written_immediates (forms.Indexes first second) = indexes_encoding first second
written_immediates (forms.Block type) = block_encoding (block_type type)
written_immediates (forms.Labels labels other) = labels_encoding labels.now other
written_immediates (forms.ValueType type) = list_encoding val_encoding (val_type type ∷ [])
written_immediates (forms.ValueTypes types) = list_encoding val_encoding (map val_type types.now)
written_immediates (forms.Memory argument) = memory_argument_encoding (memory_argument argument)
written_immediates (forms.Number value) = signed_encoding value
written_immediates (forms.Float value) = to_le_bytes w32 value.bits
written_immediates (forms.Double value) = to_le_bytes w64 value.bits
written_immediates (forms.Heap heap) = heap_encoding (heap_type heap)
written_immediates (forms.Vector bytes) = bytes
