-- The content of a linking section of the code, and its encoding.
use Rattle.std.specs.Prelude.{ℕ, List}
use Rattle.wasm_encoder_custom.specs.Linking.{linking_encoding}
use Rattle.wasm_encoder_custom.specs.declared.linking.LinkingContent.{LinkingContent}

unfoldable pub linking_bytes : LinkingContent → List ℕ
linking_bytes it = linking_encoding it.parts
