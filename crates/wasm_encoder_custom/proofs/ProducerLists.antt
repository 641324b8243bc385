-- Lists of tools, and their encodings.
use Rattle.std.proofs.Common.{◌≡◌, List, map}
use Rattle.wasm_core_write.proofs.TypeLists.{list_mapped}
use Rattle.wasm_spec.specs.Shortest.{list_encoding}
use Rattle.wasm_encoder_custom.specs.Producers.{producer_value_encoding, producer_field_encoding}
use Rattle.wasm_encoder_custom.specs.KeptProducers.{producer_value, producer_value_bytes, producer_field, producer_field_bytes}
use Rattle.wasm_encoder_custom.specs.declared.producers.KeptValue.{KeptValue}
use Rattle.wasm_encoder_custom.specs.declared.producers.KeptField.{KeptField}

pub values : (items : List KeptValue) → list_encoding producer_value_bytes items ≡ list_encoding producer_value_encoding (map producer_value items)
unfolding producer_value_bytes
values items = list_mapped producer_value_encoding producer_value items

pub fields : (items : List KeptField) → list_encoding producer_field_bytes items ≡ list_encoding producer_field_encoding (map producer_field items)
unfolding producer_field_bytes
fields items = list_mapped producer_field_encoding producer_field items

pub ruleset steps = (values, fields)
