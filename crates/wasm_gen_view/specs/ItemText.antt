-- The text of the items of a module, and of names.
use Rattle.std.specs.Prelude.{ℕ, List, [], ◌∷◌, ◌++◌, ◌/◌, ◌%◌, Bool, ◌&&◌, not, leb, ◌==◌, codes, decimal, flat_map, get_or, Option, if◌then◌else◌}
use Rattle.wasm_gen_view.specs.TypeText.{or_dash, place_text, ref_text, val_text}
use Rattle.wasm_gen_view.specs.declared.view.GlobalType.{GlobalType}
use Rattle.wasm_gen_view.specs.declared.view.Item.{Item}
use Rattle.wasm_gen_view.specs.declared.view.Item.TheVariants.{Function, Table, Memory, Global, Tag}
use Rattle.wasm_gen_view.specs.declared.view.MemoryType.{MemoryType}
use Rattle.wasm_gen_view.specs.declared.view.TableType.{TableType}

-- ---- items

-- the least and the greatest size, and the bits of an index or an address
abbrev pub limits_text : ℕ → Option ℕ → Bool → List ℕ
limits_text minimum maximum is_64 = decimal minimum ++ codes " " ++ or_dash decimal maximum ++ (if is_64 then codes " 64" else codes " 32")

abbrev pub table_text : TableType → List ℕ
table_text type = ref_text type.element_type ++ codes " " ++ limits_text type.minimum type.maximum type.table64

abbrev pub memory_text : MemoryType → List ℕ
memory_text type = limits_text type.minimum type.maximum type.memory64 ++ (if type.shared then codes " shared " else codes " plain ") ++ or_dash decimal type.page_size_log2

abbrev pub global_text : GlobalType → List ℕ
global_text type = (if type.mutable then codes "var " else codes "const ") ++ val_text type.value_type

-- an item with its kind
abbrev pub item_text : Item → List ℕ
item_text (Function type) = codes "function " ++ place_text type
item_text (Table type) = codes "table " ++ table_text type
item_text (Memory type) = codes "memory " ++ memory_text type
item_text (Global type) = codes "global " ++ global_text type
item_text (Tag type) = codes "tag " ++ place_text type

-- ---- names

abbrev pub hex_digit : ℕ → ℕ
hex_digit digit = get_or (codes "0123456789abcdef") digit 0

-- a printable ASCII byte, but no quote and no backslash
abbrev pub is_plain : ℕ → Bool
is_plain byte = leb 0x20 byte && leb byte 0x7e && not (byte == 0x22) && not (byte == 0x5c)

-- a byte as itself, or a backslash and two hexadecimal digits
abbrev pub byte_text : ℕ → List ℕ
byte_text byte = if is_plain byte then byte ∷ [] else codes "\\" ++ hex_digit (byte / 16) ∷ hex_digit (byte % 16) ∷ []

-- a name in quotes
abbrev pub name_text : List ℕ → List ℕ
name_text name = codes "\"" ++ flat_map byte_text name ++ codes "\""
