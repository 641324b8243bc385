-- The sections of a module, read and validated but for what is in its bodies.
use Rattle.std.specs.Prelude.{◌≡◌, ◌≤◌, ⊤, ℕ, false, List, [], ◌∷◌, map, length, Option, Some, None, Result, Ok, Err}
use Rattle.std.specs.List.{AllByRecursion}
use Rattle.wasm_core_types.specs.Limits as core
use Rattle.wasm_core_read.specs.Input.{Input, end}
use Rattle.wasm_spec.specs.Features.{Features, CompactImports, has}
use Rattle.wasm_spec.specs.Grammar.{IsModule}
use Rattle.wasm_spec.specs.Syntax.{Section, bodies_of, data_counts_of}
use Rattle.wasm_spec.specs.Trees.{DefType}
use Rattle.wasm_validity.specs.Context.{Context, at_first}
use Rattle.wasm_validity.specs.Entries.{Entry, entries_of}
use Rattle.wasm_validity.specs.Fronts.{BeginsWith}
use Rattle.wasm_validity.specs.Validity.{AreFine, BeginsInvalid, BeginsPast, context_of}
use Rattle.wasmparser_error.specs.declared.error.Error.{Error}
use Rattle.wasmparser_error.specs.declared.error.ErrorKind.{ErrorKind}
use Rattle.wasmparser_error.specs.declared.error.ErrorKind.TheVariants as kinds
use Rattle.wasmparser_payloads.specs.PieceEntries.{HasAllSections}
use Rattle.wasmparser_module_state.specs.History.{EnterAll, OneFindsNoRoom, grows, held}
use Rattle.wasmparser_module_state.specs.State.{context, features_of}
use Rattle.wasmparser_validator.specs.KnownSpaces.{KnownModule}

-- the bytes of bodies
abbrev pub contents_of : List Input → List (List ℕ)
contents_of bodies = map (λ (b : Input). b.rest) bodies

-- bodies end by this place
abbrev pub EndBy : ℕ → List Input → Type 0
EndBy last bodies = AllByRecursion (λ (b : Input). end b ≤ last) bodies

-- the last of some numbers that come after another one, or after none
abbrev pub latest : Option ℕ → List ℕ → Option ℕ
latest last [] = last
latest last (number ∷ numbers) = latest (Some number) numbers

-- Sections were read to the end of the bytes, with these bodies and this data count. cx, new_held: what is known, and what the list of types holds, after them.
-- Nothing is said yet of the number of bodies, nor of that of data segments.
pub record AreRead (features : Features) (bytes : List ℕ) (old_held : List DefType) (cx : Context) (new_held : List DefType) (given : List Input) (stated : Option ℕ) : Type 0 where
  pub sections : List Section
  pub reads : HasAllSections (has features CompactImports) bytes sections
  pub fine : AreFine features (entries_of sections)
  pub known : cx ≡ context_of sections
  pub entered : EnterAll features at_first old_held (entries_of sections) new_held
  pub bodies : contents_of given ≡ bodies_of sections
  pub count : stated ≡ latest None (data_counts_of sections)
  pub inside : EndBy (length bytes) given

-- The bytes are a module whose sections keep all rules and limits but those on what is in bodies. old_held: what the list of types held before; ended, given: what
-- is known of the module at its end, and its bodies.
pub record AreAccepted (features : Features) (old_held : List DefType) (bytes : List ℕ) (ended : KnownModule) (given : List Input) : Type 0 where
  pub sections : List Section
  pub reads : IsModule (has features CompactImports) bytes sections
  pub fine : AreFine features (entries_of sections)
  pub known : context ended.state ≡ context_of sections
  pub entered : EnterAll features at_first old_held (entries_of sections) (held ended.state)
  pub rests : grows ended.state ≡ false
  pub same_features : features_of ended.state ≡ features
  pub bodies : contents_of given ≡ bodies_of sections
  pub inside : EndBy (length bytes) given

-- what the bytes say at their front, as far as some point, has a group for which a list that held these types has no room
pub record BeginsWithoutRoom (features : Features) (old_held : List DefType) (bytes : List ℕ) : Type 0 where
  pub entries : List Entry
  pub begins : BeginsWith (has features CompactImports) bytes entries
  pub no_room : OneFindsNoRoom features at_first old_held entries

-- what a refusal of sections names
abbrev pub NamesSections : Features → List DefType → List ℕ → ErrorKind → Type 0
NamesSections features old_held bytes kinds.Malformed = (sections : List Section) → ¬ (IsModule (has features CompactImports) bytes sections)
NamesSections features old_held bytes kinds.Invalid = BeginsInvalid features bytes
NamesSections features old_held bytes (kinds.Limit l) = BeginsPast features (core.limit l) bytes
NamesSections features old_held bytes kinds.Total = BeginsWithoutRoom features old_held bytes
NamesSections features old_held bytes kinds.Memory = ⊤
NamesSections features old_held bytes _ = ⊥

-- A refusal names what it finds, at a place of the bytes or their end.
abbrev pub RefusesSections : Features → List DefType → List ℕ → Error → Type 0
RefusesSections features old_held bytes e = NamesSections features old_held bytes e.kind × (e.offset ≤ length bytes)

-- the result of a call that reads all sections
abbrev pub ReadsSections : Features → List ℕ → List DefType → Result (Unit {0}) Error → Context → List DefType → List Input → Option ℕ → Type 0
ReadsSections features bytes old_held (Ok x) known new_held bodies stated = AreRead features bytes old_held known new_held bodies stated
ReadsSections features bytes old_held (Err e) known new_held bodies stated = RefusesSections features old_held bytes e

-- the result of a call that validates the sections of a module, by a list that held these types
abbrev pub ValidatesSections : Features → List DefType → List ℕ → Result KnownModule Error → List Input → Type 0
ValidatesSections features old_held bytes (Ok ended) given = AreAccepted features old_held bytes ended given
ValidatesSections features old_held bytes (Err e) given = RefusesSections features old_held bytes e
