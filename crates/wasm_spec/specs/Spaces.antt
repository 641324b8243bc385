-- What is shown of a module: the sizes of its index spaces, those of data segments, locals, labels and fields aside, and the number of its exports.
-- Core Specification 3.0, Structure, Modules, "Indices", and Validation, "Modules".
use Rattle.std.specs.Prelude.{ℕ, ◌+◌, List, [], ◌∷◌, length}
use Rattle.std.specs.List.{flat_map}
use Rattle.wasm_spec.specs.Syntax.{Section, Custom, TypeSection, ImportSection, FunctionSection, TableSection, MemorySection, TagSection, GlobalSection, ExportSection, StartSection, ElementSection, DataCountSection, CodeSection, DataSection, types_in, imported_by}
use Rattle.wasm_spec.specs.Types.{ExternalType, ExternalKind, FuncKind, TableKind, MemoryKind, GlobalKind, TagKind, kind_of}

-- how many items each index space has (the elements are element segments), and how many exports there are
pub record Sizes : Type 0 where
  pub types : ℕ
  pub functions : ℕ
  pub tables : ℕ
  pub memories : ℕ
  pub globals : ℕ
  pub tags : ℕ
  pub elements : ℕ
  pub exports : ℕ

abbrev pub no_items : Sizes
no_items = record { types = 0; functions = 0; tables = 0; memories = 0; globals = 0; tags = 0; elements = 0; exports = 0 }

-- the items of both
abbrev pub together : Sizes → Sizes → Sizes
together a b = record {
  types = a.types + b.types;
  functions = a.functions + b.functions;
  tables = a.tables + b.tables;
  memories = a.memories + b.memories;
  globals = a.globals + b.globals;
  tags = a.tags + b.tags;
  elements = a.elements + b.elements;
  exports = a.exports + b.exports;
}

-- one item of a kind
abbrev pub one_of : ExternalKind → Sizes
one_of FuncKind = record no_items { functions = 1 }
one_of TableKind = record no_items { tables = 1 }
one_of MemoryKind = record no_items { memories = 1 }
one_of GlobalKind = record no_items { globals = 1 }
one_of TagKind = record no_items { tags = 1 }

-- imports of these types: each is an item of the space of its kind
abbrev pub imported : List (ExternalType ℕ) → Sizes
imported [] = no_items
imported (type ∷ types) = together (one_of (kind_of type)) (imported types)

-- what a section adds to each space
abbrev pub added_by : Section → Sizes
added_by (Custom name contents) = no_items
added_by (TypeSection groups) = record no_items { types = length (types_in (TypeSection groups)) }
added_by (ImportSection imports) = imported (flat_map imported_by imports)
added_by (FunctionSection indexes) = record no_items { functions = length indexes }
added_by (TableSection tables) = record no_items { tables = length tables }
added_by (MemorySection types) = record no_items { memories = length types }
added_by (TagSection indexes) = record no_items { tags = length indexes }
added_by (GlobalSection globals) = record no_items { globals = length globals }
added_by (ExportSection exports) = record no_items { exports = length exports }
added_by (StartSection function) = no_items
added_by (ElementSection segments) = record no_items { elements = length segments }
added_by (DataCountSection count) = no_items
added_by (CodeSection bodies) = no_items
added_by (DataSection segments) = no_items

-- what the sections of a module add up to
abbrev pub sizes_of : List Section → Sizes
sizes_of [] = no_items
sizes_of (section ∷ sections) = together (added_by section) (sizes_of sections)
