-- The exports of a shape. Each exports the item of the module's own that is made for it: those of a kind stand one after the other, in the order of their exports.
use Rattle.std.specs.Prelude.{◌≡◌, ℕ, ◌+◌, Bool, true, false, List, [], ◌∷◌, ◌++◌, length, map, drop, Option}
use Rattle.std.specs.List.{filter}
use Rattle.wasm_spec.specs.Syntax.{Export}
use Rattle.wasm_spec.specs.TypeReferences.{external_map}
use Rattle.wasm_spec.specs.Types.{ExternalType, ExternalKind, FuncKind, TableKind, MemoryKind, GlobalKind, TagKind, kind_of}
use Rattle.wasm_smith_definitions.specs.OwnItems.{functions_in, tables_in, memories_in, globals_in, tags_in}
use Rattle.wasm_smith_shapes.specs.Shapes.{NamedItem}
use Rattle.wasm_smith_validity.specs.Rules.{item_at}
use Rattle.wasm_smith_validity.specs.Spaces.{Spaces, functions_of, globals_of}
use Rattle.wasm_smith_externs.specs.declared.shape_exports.KindCounts.{KindCounts}

-- ---- how many items of each kind there are

abbrev pub count_in : KindCounts → ExternalKind → ℕ
count_in counts FuncKind = counts.functions
count_in counts TableKind = counts.tables
count_in counts MemoryKind = counts.memories
count_in counts GlobalKind = counts.globals
count_in counts TagKind = counts.tags

-- with one more item of a kind
abbrev pub with_one : KindCounts → ExternalKind → KindCounts
with_one counts FuncKind = record counts { functions = counts.functions + 1 }
with_one counts TableKind = record counts { tables = counts.tables + 1 }
with_one counts MemoryKind = record counts { memories = counts.memories + 1 }
with_one counts GlobalKind = record counts { globals = counts.globals + 1 }
with_one counts TagKind = record counts { tags = counts.tags + 1 }

abbrev pub is_kind : ExternalKind → ExternalKind → Bool
is_kind FuncKind FuncKind = true
is_kind TableKind TableKind = true
is_kind MemoryKind MemoryKind = true
is_kind GlobalKind GlobalKind = true
is_kind TagKind TagKind = true
is_kind _ _ = false

-- how many of these items are of a kind
abbrev pub how_many : ExternalKind → List NamedItem → ℕ
how_many kind items = length (filter (λ (item : NamedItem). is_kind kind (kind_of item.type)) items)

-- ---- exports

-- An item's export, after these: its index counts the items of its kind before all that are made for exports, and those that are made for earlier exports.
abbrev pub export_after : KindCounts → List NamedItem → NamedItem → Export
export_after before earlier item = record { name = item.name; kind = kind_of item.type; index = count_in before (kind_of item.type) + how_many (kind_of item.type) earlier }

abbrev pub exports_after : KindCounts → List NamedItem → List NamedItem → List Export
exports_after before earlier [] = []
exports_after before earlier (item ∷ items) = export_after before earlier item ∷ exports_after before (earlier ++ item ∷ []) items

-- the exports, where so many items of each kind come before those that are made for them
abbrev pub shape_exports_from : KindCounts → List NamedItem → List Export
shape_exports_from before items = exports_after before [] items

-- ---- where the items stand

abbrev pub BeginsWith : {A : Type 0} → List A → List A → Type 0
BeginsWith {A = A} front all = (rest : List A) × (all ≡ front ++ rest)

-- After so many items of each kind the spaces have these, kind by kind.
pub record StandFrom (spaces : Spaces) (before : KindCounts) (items : List (ExternalType ℕ)) : Type 0 where
  pub functions : BeginsWith (functions_in items) (drop before.functions (functions_of spaces))
  pub tables : BeginsWith (tables_in items) (drop before.tables spaces.tables)
  pub memories : BeginsWith (memories_in items) (drop before.memories spaces.memories)
  pub globals : BeginsWith (globals_in items) (drop before.globals (globals_of spaces))
  pub tags : BeginsWith (tags_in items) (drop before.tags spaces.tags)

-- The first items that the spaces have beyond earlier spaces are these, kind by kind.
pub record AreMadeFirst (old new : Spaces) (items : List (ExternalType ℕ)) : Type 0 where
  pub functions : BeginsWith (functions_of old ++ functions_in items) (functions_of new)
  pub tables : BeginsWith (old.tables ++ tables_in items) new.tables
  pub memories : BeginsWith (old.memories ++ memories_in items) new.memories
  pub globals : BeginsWith (globals_of old ++ globals_in items) (globals_of new)
  pub tags : BeginsWith (old.tags ++ tags_in items) new.tags

-- the types of what is exported, with the references to types moved
abbrev pub moved_types : (ℕ → ℕ) → List NamedItem → List (ExternalType ℕ)
moved_types f items = map (λ (item : NamedItem). external_map f item.type) items

-- what exports name in the spaces
abbrev pub named_in : Spaces → List Export → List (Option (ExternalType ℕ))
named_in spaces exports = map (λ (export : Export). item_at spaces export.kind export.index) exports
