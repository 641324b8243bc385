-- Segments of the code as the encoder's calls take them.
use Rattle.std.specs.Prelude.{ℕ, zero, suc, map, Option, Some, None}
use Rattle.wasm_encoder_expression_sections.specs.ItemEncodings as encoder
use Rattle.wasm_encoder_sections.specs.CoreItems.{ref_type}
use Rattle.wasm_smith_definitions.specs.Items.{expression}
use Rattle.wasm_smith_definitions.specs.declared.segments.ElementItems.{ElementItems}
use Rattle.wasm_smith_definitions.specs.declared.segments.ElementItems.TheVariants.{Functions, Expressions}
use Rattle.wasm_smith_definitions.specs.declared.segments.ElementMode.{ElementMode}
use Rattle.wasm_smith_definitions.specs.declared.segments.ElementMode.TheVariants.{Active, Passive, Declared}
use Rattle.wasm_smith_sections.specs.Contents.{expression_bytes}

-- Table 0 isn't named.
abbrev pub named_table : ℕ → Option ℕ
named_table zero = None
named_table (suc table) = Some (suc table)

abbrev pub given_mode : ElementMode → encoder.ElementMode
given_mode (Active table offset) = encoder.Active (named_table table) (expression_bytes (expression offset))
given_mode Passive = encoder.Passive
given_mode Declared = encoder.Declared

abbrev pub given_items : ElementItems → encoder.Elements
given_items (Functions functions) = encoder.Functions functions.items
given_items (Expressions type constants) = encoder.Expressions (ref_type type) (map expression_bytes (map expression constants.items))
