-- The tools of the code as those of the definitions, and their encodings.
use Rattle.std.specs.Prelude.{ℕ, List}
use Rattle.wasm_encoder_sections.specs.CoreItems.{name_of}
use Rattle.wasm_encoder_custom.specs.Producers as producers
use Rattle.wasm_encoder_custom.specs.Producers.{producer_value_encoding, producer_field_encoding}
use Rattle.wasm_encoder_custom.specs.declared.producers.KeptValue.{KeptValue}
use Rattle.wasm_encoder_custom.specs.declared.producers.KeptField.{KeptField}

abbrev pub producer_value : KeptValue → producers.ProducerValue
producer_value it = record { name = name_of it.name; version = name_of it.version }

abbrev pub producer_field : KeptField → producers.ProducerField
producer_field it = record { name = name_of it.name; values = it.values.items }

unfoldable pub producer_value_bytes : KeptValue → List ℕ
producer_value_bytes it = producer_value_encoding (producer_value it)

unfoldable pub producer_field_bytes : KeptField → List ℕ
producer_field_bytes it = producer_field_encoding (producer_field it)
