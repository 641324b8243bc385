-- Which tools made a module, and in which versions. Tool Conventions of WebAssembly, "Producers Section".
use Rattle.std.specs.Prelude.{ℕ, List, ◌++◌}
use Rattle.wasm_spec.specs.Shortest.{list_encoding}
use Rattle.wasm_encoder_sections.specs.ItemEncodings.{name_encoding}

pub record ProducerValue : Type 0 where
  pub name : List ℕ
  pub version : List ℕ

unfoldable pub producer_value_encoding : ProducerValue → List ℕ
producer_value_encoding value = name_encoding value.name ++ name_encoding value.version

abbrev pub producer_values_encoding : List ProducerValue → List ℕ
producer_values_encoding values = list_encoding producer_value_encoding values

-- what a field is called, and the bytes of its values
pub record ProducerField : Type 0 where
  pub name : List ℕ
  pub values : List ℕ

unfoldable pub producer_field_encoding : ProducerField → List ℕ
producer_field_encoding field = name_encoding field.name ++ field.values

abbrev pub producers_encoding : List ProducerField → List ℕ
producers_encoding fields = list_encoding producer_field_encoding fields
