-- Where in a module a place is.
use Rattle.std.specs.Prelude.{◌≡◌, ◌≤◌, ◌<◌, ◌⊎◌, ℕ, ◌+◌, true, false, List, nat_eq, drop}
use Rattle.std.specs.List.{starts_with}
use Rattle.wasm_core_read.specs.Input.{Input}
use Rattle.wasm_spec.specs.Features.{CompactImports, Features, has}
use Rattle.wasm_spec.specs.Grammar.{header}
use Rattle.wasmparser_error.specs.declared.error.Error.{Error}
use Rattle.wasm_gen_explain.specs.Imports.{functions_among, imports_of}
use Rattle.wasm_gen_explain.specs.Passed.{ArePassed}
use Rattle.wasm_gen_explain.specs.Sections.{IsAtSection, PassesSection}
use Rattle.wasm_gen_explain.specs.Text.{line_text}
use Rattle.wasm_gen_explain.specs.declared.place.Place.{Place}
use Rattle.wasm_gen_explain.specs.declared.place.Place.TheVariants as places

-- what is left of a module, and how many functions the sections before it import
pub record ModuleLeft : Type 0 where
  pub input : Input
  pub imported : ℕ

-- the bytes after the header, before which nothing is imported
abbrev pub after_header : Features → List ℕ → ModuleLeft
after_header features bytes = record { input = record { rest = drop 8 bytes; position = 8; features = features }; imported = 0 }

-- the next section ends before a place, or at it with nothing left unread, and its imports are counted
pub record PassesNext (offset : ℕ) (old new : ModuleLeft) : Type 0 where
  pub section : PassesSection offset old.input new.input
  pub counted : new.imported ≡ old.imported + functions_among (imports_of (has old.input.features CompactImports) (section.id, section.content.rest))

-- a place is in the first section that isn't passed, or at the end
pub record IsAmong (start : ModuleLeft) (offset : ℕ) (place : Place) : Type 0 where
  pub number : ℕ
  pub now : ModuleLeft
  pub passed : ArePassed (PassesNext offset) start number now
  pub stands : IsAtSection now.imported now.input offset place

-- this is the place at an offset in a module
pub data IsPlace (features : Features) (bytes : List ℕ) (offset : ℕ) : Place → Type 0 where
  in_header : (offset < 8) ⊎ (starts_with nat_eq bytes header ≡ false) → IsPlace features bytes offset places.Header
  in_sections : (place : Place) → 8 ≤ offset → starts_with nat_eq bytes header ≡ true → IsAmong (after_header features bytes) offset place → IsPlace features bytes offset place

-- a text is the line on an error's place
pub record Explains (features : Features) (bytes : List ℕ) (error : Error) (text : List ℕ) : Type 0 where
  pub place : Place
  pub stands : IsPlace features bytes error.offset place
  pub written : text ≡ line_text place error
