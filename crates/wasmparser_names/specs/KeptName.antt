-- Copies of names.
use Rattle.std.specs.Prelude.{ℕ, List}
use Rattle.std.specs.String.{string_bytes}
use Rattle.wasmparser_names.specs.declared.kept_name.Text.{Text}
use Rattle.wasmparser_names.specs.declared.kept_name.Text.TheVariants as texts

abbrev pub bytes_of : Text → List ℕ
bytes_of (texts.InPlace text) = text.bytes
bytes_of (texts.Apart text) = string_bytes text
