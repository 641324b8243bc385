-- What the sections of a module say, item by item in the order of the bytes, as one kind of thing. Core Specification 3.0, Binary Format, "Modules".
use Rattle.std.specs.Prelude.{◌≡◌, ℕ, Bool, List, [], ◌∷◌, map}
use Rattle.std.specs.List.{flat_map}
use Rattle.wasm_spec.specs.Bytes.{IsU32}
use Rattle.wasm_spec.specs.ModuleParts.{IsImport, IsTable, IsGlobal, IsExport, IsElementSegment, IsBody, IsDataSegment}
use Rattle.wasm_spec.specs.Syntax.{Section, Custom, TypeSection, ImportSection, FunctionSection, TableSection, MemorySection, TagSection, GlobalSection, ExportSection, StartSection, ElementSection, DataCountSection, CodeSection, DataSection, ImportEntry, Table, Global, Export, ElementSegment, DataSegment}
use Rattle.wasm_spec.specs.TypeGrammar.{IsRecGroup, IsMemoryType, IsTagType}
use Rattle.wasm_spec.specs.Types.{RecGroup, MemoryType}

pub data Entry : Type 0 where
  -- a custom section, by its name
  OfCustom : List ℕ → Entry
  OfType : RecGroup ℕ → Entry
  OfImport : ImportEntry → Entry
  -- the type index of a function of the module's own
  OfFunction : ℕ → Entry
  OfTable : Table → Entry
  OfMemory : MemoryType → Entry
  -- that there is a tag section, which may be empty
  OfTags : Entry
  -- the type index of a tag of the module's own
  OfTag : ℕ → Entry
  OfGlobal : Global → Entry
  OfExport : Export → Entry
  OfStart : ℕ → Entry
  OfElement : ElementSegment → Entry
  OfDataCount : ℕ → Entry
  -- the bytes of a function's body
  OfBody : List ℕ → Entry
  OfData : DataSegment → Entry

abbrev pub entries_in : Section → List Entry
entries_in (Custom name contents) = OfCustom name ∷ []
entries_in (TypeSection groups) = map (λ x. OfType x) groups
entries_in (ImportSection imports) = map (λ x. OfImport x) imports
entries_in (FunctionSection indexes) = map (λ x. OfFunction x) indexes
entries_in (TableSection tables) = map (λ x. OfTable x) tables
entries_in (MemorySection types) = map (λ x. OfMemory x) types
entries_in (TagSection indexes) = OfTags ∷ map (λ x. OfTag x) indexes
entries_in (GlobalSection globals) = map (λ x. OfGlobal x) globals
entries_in (ExportSection exports) = map (λ x. OfExport x) exports
entries_in (StartSection function) = OfStart function ∷ []
entries_in (ElementSection segments) = map (λ x. OfElement x) segments
entries_in (DataCountSection count) = OfDataCount count ∷ []
entries_in (CodeSection bodies) = map (λ x. OfBody x) bodies
entries_in (DataSection segments) = map (λ x. OfData x) segments

abbrev pub entries_of : List Section → List Entry
entries_of sections = flat_map entries_in sections

-- ---- the items of a section as its bytes have them

-- The bytes are an item of a section of this id. Custom, start and data count sections have no items.
abbrev pub IsItem : Bool → ℕ → List ℕ → Entry → Type 0
IsItem compact id bytes (OfType group) = (id ≡ 1) × IsRecGroup bytes group
IsItem compact id bytes (OfImport entry) = (id ≡ 2) × IsImport compact bytes entry
IsItem compact id bytes (OfFunction index) = (id ≡ 3) × IsU32 bytes index
IsItem compact id bytes (OfTable table) = (id ≡ 4) × IsTable bytes table
IsItem compact id bytes (OfMemory type) = (id ≡ 5) × IsMemoryType bytes type
IsItem compact id bytes (OfTag index) = (id ≡ 13) × IsTagType bytes index
IsItem compact id bytes (OfGlobal global) = (id ≡ 6) × IsGlobal bytes global
IsItem compact id bytes (OfExport export) = (id ≡ 7) × IsExport bytes export
IsItem compact id bytes (OfElement segment) = (id ≡ 9) × IsElementSegment bytes segment
IsItem compact id bytes (OfBody body) = (id ≡ 10) × IsBody bytes body
IsItem compact id bytes (OfData segment) = (id ≡ 11) × IsDataSegment bytes segment
IsItem compact id bytes _ = ⊥
