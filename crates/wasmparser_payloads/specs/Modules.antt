-- The sections of a module, from the pieces that are given of it.
use Rattle.std.specs.Prelude.{ℕ, zero, suc, Bool, List, [], ◌∷◌, length, Option, Some, None, ◌==◌, ◌&&◌, if◌then◌else◌}
use Rattle.wasm_core_read.specs.ModuleReading.{are_counted}
use Rattle.wasm_core_read.specs.PartReading.{import_at, table_at, global_at, export_at, element_at, data_at}
use Rattle.wasm_core_read.specs.Reading.{◌>>=◌, ReadingOf, unsigned_at}
use Rattle.wasm_core_read.specs.TypeReading.{rec_group_at, limits_at, tag_type_at}
use Rattle.wasm_spec.specs.Syntax as syntax
use Rattle.wasm_spec.specs.Syntax.{Section, functions_of, bodies_of}
use Rattle.wasmparser_readers.specs.Sections.{Limited, left_items}
use Rattle.wasmparser_payloads.specs.declared.payloads.Stage.{Stage}
use Rattle.wasmparser_payloads.specs.declared.payloads.Stage.TheVariants.{Header, Done}
use Rattle.wasmparser_payloads.specs.Parsing.{Settings, whole_module}
use Rattle.wasmparser_payloads.specs.Pieces.{Piece, Version, Types, Imports, Functions, Tables, Memories, Tags, Globals, Exports, Start, Elements, DataCount, CodeStart, Body, Segments, Custom, Unknown, End, Remains, next_piece}

-- all pieces that are given from here to the end, at most fuel; there are none where one of them is refused
unfoldable pub pieces_from : Stage → ℕ → Remains → Option (List Piece)
pieces_from Done fuel s = Some []
pieces_from _ zero s = None
pieces_from _ (suc fuel) s = next_piece s >>= λ x. pieces_from x.1.stage fuel x.1 >>= λ others. Some (x.0 ∷ others)

-- All pieces of a module. Each takes a byte, but for the end.
abbrev pub pieces_of : Settings → List ℕ → Option (List Piece)
pieces_of settings bytes = pieces_from Header (suc (length bytes)) (whole_module settings bytes)

-- bodies that belong to a code section before them, and the sections after them
abbrev pub Gathered : Type 0
Gathered = List (List ℕ) × List Section

-- a section before what was gathered; of a code section alone the bodies are
abbrev pub add_section : Gathered → Section → Option Gathered
add_section after section = Some ([], section ∷ after.1)

-- a section of items before what was gathered
abbrev pub add_items : {A : Type 0} → ReadingOf A → (List A → Section) → Limited → Gathered → Option Gathered
add_items item_at section items after = left_items (λ _. item_at) items.left >>= λ xs. add_section after (section xs)

-- a piece before what was gathered, where compact imports are on or not
abbrev pub add_piece : Bool → Piece → Gathered → Option Gathered
add_piece compact (Version num place) after = Some after
add_piece compact (Types items) after = add_items rec_group_at (λ xs. syntax.TypeSection xs) items after
add_piece compact (Imports items) after = add_items (import_at compact) (λ xs. syntax.ImportSection xs) items after
add_piece compact (Functions items) after = add_items (unsigned_at 32) (λ xs. syntax.FunctionSection xs) items after
add_piece compact (Tables items) after = add_items table_at (λ xs. syntax.TableSection xs) items after
add_piece compact (Memories items) after = add_items limits_at (λ xs. syntax.MemorySection xs) items after
add_piece compact (Tags items) after = add_items tag_type_at (λ xs. syntax.TagSection xs) items after
add_piece compact (Globals items) after = add_items global_at (λ xs. syntax.GlobalSection xs) items after
add_piece compact (Exports items) after = add_items export_at (λ xs. syntax.ExportSection xs) items after
add_piece compact (Start function place) after = add_section after (syntax.StartSection function)
add_piece compact (Elements items) after = add_items element_at (λ xs. syntax.ElementSection xs) items after
add_piece compact (DataCount count place) after = add_section after (syntax.DataCountSection count)
add_piece compact (CodeStart count place size) after = add_section after (syntax.CodeSection after.0)
add_piece compact (Body body) after = Some (body.rest ∷ after.0, after.1)
add_piece compact (Segments items) after = add_items data_at (λ xs. syntax.DataSection xs) items after
add_piece compact (Custom section) after = add_section after (syntax.Custom section.name section.contents)
add_piece compact (Unknown id contents place) after = None
add_piece compact (End place) after = Some after

unfoldable pub gathered : Bool → List Piece → Option Gathered
gathered compact [] = Some ([], [])
gathered compact (piece ∷ others) = gathered compact others >>= add_piece compact piece

-- sections with as many bodies as functions, and with the counts that are said
abbrev pub where_counted : List Section → Option (List Section)
where_counted sections = if length (functions_of sections) == length (bodies_of sections) && are_counted sections then Some sections else None

-- the sections that pieces are, where the items of each read and the counts agree
abbrev pub sections_in : Bool → List Piece → Option (List Section)
sections_in compact pieces = gathered compact pieces >>= λ x. where_counted x.1

-- the sections that the pieces of some bytes are
abbrev pub sections_given : Settings → Bool → List ℕ → Option (List Section)
sections_given settings compact bytes = pieces_of settings bytes >>= sections_in compact
