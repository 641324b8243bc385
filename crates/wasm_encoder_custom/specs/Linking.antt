-- What linkers are told of an object file's symbols. Tool Conventions of WebAssembly, "Linking" (version 2: "Linking Metadata Section", "Symbol
-- Table Subsection").
use Rattle.std.specs.Prelude.{ℕ, List, [], ◌∷◌, ◌++◌, Option, Some, None}
use Rattle.wasm_spec.specs.Shortest.{unsigned_encoding, list_encoding}
use Rattle.wasm_encoder_sections.specs.ItemEncodings.{name_encoding}
use Rattle.wasm_encoder_custom.specs.Subsections.{Subsection, subsections_encoding}

-- what is left out where it isn't given: flags say which it is
unfoldable pub encoding_if_given : {A : Type 0} → (A → List ℕ) → Option A → List ℕ
encoding_if_given encoding None = []
encoding_if_given encoding (Some it) = encoding it

-- a symbol of what has an index; where it has no name, that of its import is meant
pub record IndexedSymbol : Type 0 where
  pub flags : ℕ
  pub index : ℕ
  pub name : Option (List ℕ)

unfoldable pub indexed_symbol_encoding : IndexedSymbol → List ℕ
indexed_symbol_encoding it = unsigned_encoding it.flags ++ (unsigned_encoding it.index ++ encoding_if_given name_encoding it.name)

-- where a symbol's bytes are: in which segment, from which offset on, and how many
pub record DataDefinition : Type 0 where
  pub index : ℕ
  pub offset : ℕ
  pub size : ℕ

unfoldable pub data_definition_encoding : DataDefinition → List ℕ
data_definition_encoding it = unsigned_encoding it.index ++ (unsigned_encoding it.offset ++ unsigned_encoding it.size)

-- a symbol of data
pub record DataSymbol : Type 0 where
  pub flags : ℕ
  pub name : List ℕ
  pub definition : Option DataDefinition

unfoldable pub data_symbol_encoding : DataSymbol → List ℕ
data_symbol_encoding it = unsigned_encoding it.flags ++ (name_encoding it.name ++ encoding_if_given data_definition_encoding it.definition)

pub data Symbol : Type 0 where
  FunctionSymbol : IndexedSymbol → Symbol
  AddressSymbol : DataSymbol → Symbol
  GlobalSymbol : IndexedSymbol → Symbol
  TableSymbol : IndexedSymbol → Symbol

-- the kind, and what there is of it
unfoldable pub symbol_encoding : Symbol → List ℕ
symbol_encoding (FunctionSymbol it) = 0x00 ∷ indexed_symbol_encoding it
symbol_encoding (AddressSymbol it) = 0x01 ∷ data_symbol_encoding it
symbol_encoding (GlobalSymbol it) = 0x02 ∷ indexed_symbol_encoding it
symbol_encoding (TableSymbol it) = 0x05 ∷ indexed_symbol_encoding it

abbrev pub symbols_encoding : List Symbol → List ℕ
symbols_encoding symbols = list_encoding symbol_encoding symbols

-- a symbol table, as the subsection that it is
abbrev pub symbol_table_part : List Symbol → Subsection
symbol_table_part symbols = record { id = 8; content = symbols_encoding symbols }

-- the version, and the subsections
unfoldable pub linking_encoding : List Subsection → List ℕ
linking_encoding parts = 2 ∷ subsections_encoding parts
