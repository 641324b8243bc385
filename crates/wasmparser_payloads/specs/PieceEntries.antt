-- What the pieces of a module say, entry by entry.
use Rattle.std.specs.Prelude.{◌≡◌, ◌≤◌, ℕ, Bool, List, [], ◌∷◌, ◌++◌, Option, Some, None, option_map}
use Rattle.wasm_core_read.specs.TypeReading.{items_at}
use Rattle.wasm_spec.specs.Bytes.{IsItems}
use Rattle.wasm_spec.specs.Grammar.{header, IsSection, AreOrdered}
use Rattle.wasm_spec.specs.Syntax.{Section}
use Rattle.wasm_validity.specs.Entries.{Entry, OfCustom, OfTags, OfStart, OfDataCount, OfBody}
use Rattle.wasmparser_payloads.specs.EntryReading.{EntryReading, type_entry_at, import_entry_at, function_entry_at, table_entry_at, memory_entry_at, tag_entry_at, global_entry_at, export_entry_at, element_entry_at, data_entry_at}
use Rattle.wasmparser_payloads.specs.declared.payloads.Stage.TheVariants.{Done}
use Rattle.wasmparser_payloads.specs.Pieces.{Piece, Types, Imports, Functions, Tables, Memories, Tags, Globals, Exports, Start, Elements, DataCount, Body, Segments, Custom, Unknown, End, Remains, next_piece}
use Rattle.wasmparser_readers.specs.Sections.{Left, left_items}

-- the items of a piece, and how they read
pub record Items : Type 0 where
  pub entry_at : EntryReading
  pub left : Left

unfoldable pub items_of : Piece → Option Items
items_of (Types items) = Some (record { entry_at = type_entry_at; left = items.left })
items_of (Imports items) = Some (record { entry_at = import_entry_at; left = items.left })
items_of (Functions items) = Some (record { entry_at = function_entry_at; left = items.left })
items_of (Tables items) = Some (record { entry_at = table_entry_at; left = items.left })
items_of (Memories items) = Some (record { entry_at = memory_entry_at; left = items.left })
items_of (Tags items) = Some (record { entry_at = tag_entry_at; left = items.left })
items_of (Globals items) = Some (record { entry_at = global_entry_at; left = items.left })
items_of (Exports items) = Some (record { entry_at = export_entry_at; left = items.left })
items_of (Elements items) = Some (record { entry_at = element_entry_at; left = items.left })
items_of (Segments items) = Some (record { entry_at = data_entry_at; left = items.left })
items_of _ = None

-- what a piece says before its items
unfoldable pub said_first : Piece → List Entry
said_first (Tags items) = OfTags ∷ []
said_first (Start function place) = OfStart function ∷ []
said_first (DataCount count place) = OfDataCount count ∷ []
said_first (Body body) = OfBody body.rest ∷ []
said_first (Custom section) = OfCustom section.name ∷ []
said_first _ = []

abbrev pub with_items : List Entry → Option Items → Option (List Entry)
with_items first None = Some first
with_items first (Some items) = option_map (λ entries. first ++ entries) (left_items items.entry_at items.left)

-- what a piece says, where its items read; nothing is said by a section of an id that the format doesn't have
unfoldable pub entries_said : Piece → Option (List Entry)
entries_said (Unknown id contents place) = None
entries_said piece = with_items (said_first piece) (items_of piece)

-- pieces that follow each other say these entries, and lead from one state to another
pub data Reaches (start : Remains) : List Entry → Remains → Type 0 where
  Begun : Reaches start [] start
  Further : {entries : List Entry} {now : Remains} (piece : Piece) (said : List Entry) {next : Remains} → Reaches start entries now
      → next_piece now ≡ Some (piece, next) → entries_said piece ≡ Some said → Reaches start (entries ++ said) next

-- some items at the front of a piece
pub record HasFront (items : Items) (front : List Entry) : Type 0 where
  pub number : ℕ
  pub rest : List ℕ
  pub among : number ≤ items.left.count
  pub reads : items_at (items.entry_at items.left.input.features) number items.left.input.rest ≡ Some (front, rest)

-- After pieces that say some entries, the next piece says these others at its front.
pub record ReachesFront (start : Remains) (entries : List Entry) : Type 0 where
  pub before : List Entry
  pub now : Remains
  pub reached : Reaches start before now
  pub piece : Piece
  pub next : Remains
  pub is_next : next_piece now ≡ Some (piece, next)
  pub items : Items
  pub has : items_of piece ≡ Some items
  pub front : List Entry
  pub reads : HasFront items front
  pub say : entries ≡ before ++ (said_first piece ++ front)

-- after pieces that say some entries, the next piece says something by itself
pub record ReachesSaid (start : Remains) (entries : List Entry) : Type 0 where
  pub before : List Entry
  pub now : Remains
  pub reached : Reaches start before now
  pub piece : Piece
  pub next : Remains
  pub is_next : next_piece now ≡ Some (piece, next)
  pub say : entries ≡ before ++ said_first piece

-- no module: after some pieces, before the end, none follows, or one whose items don't read
pub data IsUnread (start : Remains) : Type 0 where
  no_piece : {entries : List Entry} {now : Remains} → Reaches start entries now → ¬ (now.stage ≡ Done) → next_piece now ≡ None → IsUnread start
  no_items : {entries : List Entry} {now : Remains} (piece : Piece) {next : Remains} → Reaches start entries now → next_piece now ≡ Some (piece, next)
      → entries_said piece ≡ None → IsUnread start

-- the pieces up to the end say these entries
pub record ReachesEnd (start : Remains) (entries : List Entry) : Type 0 where
  pub now : Remains
  pub reached : Reaches start entries now
  pub place : ℕ
  pub next : Remains
  pub ended : next_piece now ≡ Some (End place, next)

-- The header, and complete sections up to the end, in their order. Where the counts agree too, that is a module.
pub record HasAllSections (compact : Bool) (bytes : List ℕ) (sections : List Section) : Type 0 where
  pub body : List ℕ
  pub begins : bytes ≡ header ++ body
  pub holds : IsItems (IsSection compact) body sections
  pub ordered : AreOrdered 0 sections
