-- The symbols of the code as those of the definitions, and their encodings.
use Rattle.std.specs.Option.{option_map}
use Rattle.std.specs.Prelude.{ℕ, List}
use Rattle.wasm_encoder_sections.specs.CoreItems.{name_of}
use Rattle.wasm_encoder_custom.specs.Linking as linking
use Rattle.wasm_encoder_custom.specs.Linking.{data_definition_encoding, indexed_symbol_encoding, data_symbol_encoding, symbol_encoding}
use Rattle.wasm_encoder_custom.specs.declared.symbol_table.DataSymbolDefinition.{DataSymbolDefinition}
use Rattle.wasm_encoder_custom.specs.declared.symbol_table.IndexedSymbol.{IndexedSymbol}
use Rattle.wasm_encoder_custom.specs.declared.symbol_table.DataSymbol.{DataSymbol}
use Rattle.wasm_encoder_custom.specs.declared.symbol_table.Symbol.{Symbol}
use Rattle.wasm_encoder_custom.specs.declared.symbol_table.Symbol.TheVariants as symbols

abbrev pub data_definition : DataSymbolDefinition → linking.DataDefinition
data_definition it = record { index = it.index; offset = it.offset; size = it.size }

abbrev pub indexed_symbol : IndexedSymbol → linking.IndexedSymbol
indexed_symbol it = record { flags = it.flags; index = it.index; name = option_map name_of it.name }

abbrev pub data_symbol : DataSymbol → linking.DataSymbol
data_symbol it = record { flags = it.flags; name = name_of it.name; definition = option_map data_definition it.definition }

abbrev pub symbol : Symbol → linking.Symbol
symbol (symbols.Function it) = linking.FunctionSymbol (indexed_symbol it)
symbol (symbols.Data it) = linking.AddressSymbol (data_symbol it)
symbol (symbols.Global it) = linking.GlobalSymbol (indexed_symbol it)
symbol (symbols.Table it) = linking.TableSymbol (indexed_symbol it)

unfoldable pub data_definition_bytes : DataSymbolDefinition → List ℕ
data_definition_bytes it = data_definition_encoding (data_definition it)

unfoldable pub indexed_symbol_bytes : IndexedSymbol → List ℕ
indexed_symbol_bytes it = indexed_symbol_encoding (indexed_symbol it)

unfoldable pub data_symbol_bytes : DataSymbol → List ℕ
data_symbol_bytes it = data_symbol_encoding (data_symbol it)

unfoldable pub symbol_bytes : Symbol → List ℕ
symbol_bytes it = symbol_encoding (symbol it)
