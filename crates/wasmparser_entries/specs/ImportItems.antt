-- Items of groups of imports that share the name of a module.
use Rattle.std.specs.Prelude.{ℕ, Bool, true, false, List, [], ◌∷◌, ◌++◌, nat_lt, if◌then◌else◌}
use Rattle.wasm_spec.specs.Syntax.{ImportItem}
use Rattle.wasm_spec.specs.TypeReferences.{external_map}
use Rattle.wasmparser_types.specs.Index.{packable, number_of}
use Rattle.wasmparser_readers.specs.ItemTypes.{type_ref, packed_refs}
use Rattle.wasmparser_entries.specs.declared.import_item.ImportItemCompact.{ImportItemCompact}

-- the item of the specification, its indexes unpacked
abbrev pub import_item : ImportItemCompact → ImportItem
import_item item = record { name = item.name.now; type = external_map number_of (type_ref item.ty) }

-- whether indexes can be packed
abbrev pub are_packable : List ℕ → Bool
are_packable [] = true
are_packable (n ∷ ns) = if nat_lt n packable then are_packable ns else false

-- the type indexes of items that values keep packed
abbrev pub items_refs : List ImportItem → List ℕ
items_refs [] = []
items_refs (item ∷ items) = packed_refs item.type ++ items_refs items
