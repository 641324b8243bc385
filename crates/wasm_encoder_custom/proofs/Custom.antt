-- Custom sections, as they are written.
use Rattle.std.proofs.Common.{◌≡◌, ℕ, ◌+◌, List, ◌++◌, length, append_assoc, length-append}
use Rattle.wasm_spec.specs.Shortest.{unsigned_encoding, framed_encoding}
use Rattle.wasm_encoder_custom.specs.CustomSections.{custom_content}
use Rattle.wasm_encoder_sections.specs.ItemEncodings.{name_encoding}

pub content_length : (name content : List ℕ) → length (custom_content name content) ≡ length (name_encoding name) + length content
unfolding custom_content
content_length name content = length-append (name_encoding name) content

pub custom_parts : (name content front : List ℕ) → ((front ++ unsigned_encoding (length (custom_content name content))) ++ name_encoding name) ++ content ≡ front ++ framed_encoding (custom_content name content)
unfolding custom_content framed_encoding
custom_parts name content front = simp append_assoc

pub ruleset custom_steps = (content_length, custom_parts, length-append)
