-- The encodings of items as they are kept.
use Rattle.std.specs.Prelude.{ℕ, List}
use Rattle.wasm_encoder_expression_sections.specs.ItemEncodings.{global_encoding, data_encoding, ActiveData, PassiveData}
use Rattle.wasm_encoder_expression_sections.specs.declared.data_section.Item as data_items
use Rattle.wasm_encoder_expression_sections.specs.declared.data_section.Item.TheVariants as data_cases
use Rattle.wasm_encoder_expression_sections.specs.declared.element_section.Item as element_items
use Rattle.wasm_encoder_expression_sections.specs.declared.element_section.Item.TheVariants as element_cases
use Rattle.wasm_encoder_expression_sections.specs.declared.global_section.Item as global_items
use Rattle.wasm_encoder_expression_sections.specs.declared.global_section.Item.TheVariants as global_cases
use Rattle.wasm_encoder_sections.specs.CoreItems.{global_type}

abbrev pub global_bytes : global_items.Item → List ℕ
global_bytes (global_cases.Global type initialiser) = global_encoding (global_type type) initialiser
global_bytes (global_cases.Raw bytes) = bytes

abbrev pub element_bytes : element_items.Item → List ℕ
element_bytes (element_cases.Segment bytes) = bytes
element_bytes (element_cases.Raw bytes) = bytes

abbrev pub data_bytes : data_items.Item → List ℕ
data_bytes (data_cases.Active memory offset contents) = data_encoding (ActiveData memory offset) contents
data_bytes (data_cases.Passive contents) = data_encoding PassiveData contents
data_bytes (data_cases.Raw bytes) = bytes
