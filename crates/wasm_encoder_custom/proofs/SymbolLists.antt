-- Lists of symbols, what may be left out of them, and their encodings.
use Rattle.std.proofs.Common.{◌≡◌, List, map, Option, Some, None, refl}
use Rattle.std.specs.Option.{option_map}
use Rattle.wasm_core_write.proofs.TypeLists.{list_mapped}
use Rattle.wasm_spec.specs.Shortest.{list_encoding}
use Rattle.wasm_encoder_sections.specs.CoreItems.{name_of, name_bytes}
use Rattle.wasm_encoder_sections.specs.ItemEncodings.{name_encoding}
use Rattle.wasm_encoder_sections.specs.declared.names.Name.{Name}
use Rattle.wasm_encoder_custom.specs.KeptSymbols.{data_definition, data_definition_bytes, symbol, symbol_bytes}
use Rattle.wasm_encoder_custom.specs.Linking.{encoding_if_given, data_definition_encoding, symbol_encoding}
use Rattle.wasm_encoder_custom.specs.declared.symbol_table.DataSymbolDefinition.{DataSymbolDefinition}
use Rattle.wasm_encoder_custom.specs.declared.symbol_table.Symbol.{Symbol}

pub name_if_given : (name : Option Name) → encoding_if_given name_bytes name ≡ encoding_if_given name_encoding (option_map name_of name)
unfolding encoding_if_given name_bytes
name_if_given None = refl
name_if_given (Some name) = refl

pub definition_if_given : (it : Option DataSymbolDefinition) → encoding_if_given data_definition_bytes it ≡ encoding_if_given data_definition_encoding (option_map data_definition it)
unfolding encoding_if_given data_definition_bytes
definition_if_given None = refl
definition_if_given (Some it) = refl

pub ruleset optional_steps = (name_if_given, definition_if_given)

pub symbols : (items : List Symbol) → list_encoding symbol_bytes items ≡ list_encoding symbol_encoding (map symbol items)
unfolding symbol_bytes
symbols items = list_mapped symbol_encoding symbol items

pub ruleset steps = (symbols)
