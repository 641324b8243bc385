-- What custom sections hold: a name, and any bytes. Core Specification 3.0, Binary Format, Modules, "Custom Section".
use Rattle.std.specs.Prelude.{ℕ, List, ◌++◌}
use Rattle.wasm_encoder_sections.specs.ItemEncodings.{name_encoding}

unfoldable pub custom_content : List ℕ → List ℕ → List ℕ
custom_content name content = name_encoding name ++ content
