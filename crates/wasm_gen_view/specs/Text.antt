-- The text of a view: a line for each type of a group, each item of an index space, and each export.
use Rattle.std.specs.Prelude.{ℕ, ◌+◌, List, [], ◌∷◌, ◌++◌, codes, decimal, flat_map}
use Rattle.std.specs.String.{string_bytes}
use Rattle.wasm_gen_view.specs.ItemText.{global_text, item_text, memory_text, name_text, table_text}
use Rattle.wasm_gen_view.specs.TypeText.{place_text, ref_text, sub_text}
use Rattle.wasm_gen_view.specs.declared.types.SubType.{SubType}
use Rattle.wasm_gen_view.specs.declared.view.Export.{Export}
use Rattle.wasm_gen_view.specs.declared.view.View.{View}

-- the texts of items, each with its number; the first has this one
abbrev pub numbered : {A : Type 0} → (ℕ → A → List ℕ) → ℕ → List A → List ℕ
numbered text number [] = []
numbered text number (x ∷ xs) = text number x ++ numbered text (number + 1) xs

-- a line: a word, a number, and an item
abbrev pub item_line : {A : Type 0} → List ℕ → (A → List ℕ) → ℕ → A → List ℕ
item_line word text number x = word ++ codes " " ++ decimal number ++ codes " " ++ text x ++ codes "\n"

-- the lines of an index space
abbrev pub item_lines : {A : Type 0} → List ℕ → (A → List ℕ) → List A → List ℕ
item_lines word text xs = numbered (item_line word text) 0 xs

-- the line of a type, by its group and its place there
abbrev pub type_line : ℕ → ℕ → SubType → List ℕ
type_line group place type = codes "type " ++ decimal group ++ codes "." ++ decimal place ++ codes " " ++ sub_text type ++ codes "\n"

-- the lines of a group's types
abbrev pub group_lines : ℕ → List SubType → List ℕ
group_lines group types = numbered (type_line group) 0 types

-- the line of an export
abbrev pub export_line : Export → List ℕ
export_line export = codes "export " ++ name_text (string_bytes export.name) ++ codes " " ++ item_text export.item ++ codes "\n"

-- the lines of tables, memories, globals, tags and element segments
abbrev pub resources_text : View → List ℕ
resources_text v =
    item_lines (codes "table") table_text v.tables.items
    ++ item_lines (codes "memory") memory_text v.memories.items
    ++ item_lines (codes "global") global_text v.globals.items
    ++ item_lines (codes "tag") place_text v.tags.items
    ++ item_lines (codes "element") ref_text v.elements.items

abbrev pub view_text : View → List ℕ
view_text v =
    numbered (λ group types. group_lines group types.items) 0 v.groups.items
    ++ item_lines (codes "index") place_text v.types.items
    ++ item_lines (codes "function") place_text v.functions.items
    ++ resources_text v
    ++ flat_map export_line v.exports.items
