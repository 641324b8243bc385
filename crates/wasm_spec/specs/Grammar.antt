-- The grammar of modules: which bytes are an encoding of which sections. Core Specification 3.0, Binary Format, "Modules". Of the features one
-- alone decides how bytes read: whether compact imports are on.
use Rattle.std.specs.Prelude.{◌≡◌, ◌<◌, ⊤, ℕ, Bool, List, [], ◌∷◌, ◌++◌, length, Option, Some, None}
use Rattle.std.specs.List.{AllByRecursion}
use Rattle.wasm_spec.specs.Bytes.{IsBytes, IsU32, IsPair, IsMarked, IsItems, IsList, IsFramed, IsName}
use Rattle.wasm_spec.specs.ModuleParts.{IsImport, IsTable, IsGlobal, IsExport, IsElementSegment, IsBody, IsDataSegment}
use Rattle.wasm_spec.specs.Syntax.{Section, Custom, TypeSection, ImportSection, FunctionSection, TableSection, MemorySection, TagSection, GlobalSection, ExportSection, StartSection, ElementSection, DataCountSection, CodeSection, DataSection, functions_of, bodies_of, data_of, data_counts_of}
use Rattle.wasm_spec.specs.TypeGrammar.{IsRecGroup, IsMemoryType, IsTagType}

-- what each module begins with, its preamble: the magic number and the version (Modules, "Modules")
abbrev pub header : List ℕ
header = 0x00 ∷ 0x61 ∷ 0x73 ∷ 0x6d ∷ 0x01 ∷ 0x00 ∷ 0x00 ∷ 0x00 ∷ []

-- the byte that a section begins with (Modules, "Sections")
abbrev pub section_id : Section → ℕ
section_id (Custom name contents) = 0
section_id (TypeSection groups) = 1
section_id (ImportSection imports) = 2
section_id (FunctionSection indexes) = 3
section_id (TableSection tables) = 4
section_id (MemorySection types) = 5
section_id (GlobalSection globals) = 6
section_id (ExportSection exports) = 7
section_id (StartSection function) = 8
section_id (ElementSection segments) = 9
section_id (CodeSection bodies) = 10
section_id (DataSection segments) = 11
section_id (DataCountSection count) = 12
section_id (TagSection indexes) = 13

-- what stands in the frame of a section (Modules, "Custom Section", "Type Section", and so on)
abbrev pub IsContent : Bool → List ℕ → Section → Type 0
IsContent compact bytes (Custom name contents) = IsPair IsName IsBytes bytes (name, contents)
IsContent compact bytes (TypeSection groups) = IsList IsRecGroup bytes groups
IsContent compact bytes (ImportSection imports) = IsList (IsImport compact) bytes imports
IsContent compact bytes (FunctionSection indexes) = IsList IsU32 bytes indexes
IsContent compact bytes (TableSection tables) = IsList IsTable bytes tables
IsContent compact bytes (MemorySection types) = IsList IsMemoryType bytes types
IsContent compact bytes (TagSection indexes) = IsList IsTagType bytes indexes
IsContent compact bytes (GlobalSection globals) = IsList IsGlobal bytes globals
IsContent compact bytes (ExportSection exports) = IsList IsExport bytes exports
IsContent compact bytes (StartSection function) = IsU32 bytes function
IsContent compact bytes (ElementSection segments) = IsList IsElementSegment bytes segments
IsContent compact bytes (DataCountSection count) = IsU32 bytes count
IsContent compact bytes (CodeSection bodies) = IsList IsBody bytes bodies
IsContent compact bytes (DataSection segments) = IsList IsDataSegment bytes segments

-- a section: its id, and its content in a frame (Modules, "Sections")
abbrev pub IsSection : Bool → List ℕ → Section → Type 0
IsSection compact bytes section = IsMarked (section_id section) (IsFramed (IsContent compact)) bytes section

-- The place of a section in the order of a module (Modules, "Modules"). These are no ids. A custom section stands anywhere.
abbrev pub place_of : Section → Option ℕ
place_of (Custom name contents) = None
place_of (TypeSection groups) = Some 1
place_of (ImportSection imports) = Some 2
place_of (FunctionSection indexes) = Some 3
place_of (TableSection tables) = Some 4
place_of (MemorySection types) = Some 5
place_of (TagSection indexes) = Some 6
place_of (GlobalSection globals) = Some 7
place_of (ExportSection exports) = Some 8
place_of (StartSection function) = Some 9
place_of (ElementSection segments) = Some 10
place_of (DataCountSection count) = Some 11
place_of (CodeSection bodies) = Some 12
place_of (DataSection segments) = Some 13

-- a place that a section has comes after the last one
abbrev pub ComesAfter : ℕ → Option ℕ → Type 0
ComesAfter last None = ⊤
ComesAfter last (Some place) = last < place

abbrev pub last_place : ℕ → Option ℕ → ℕ
last_place last None = last
last_place last (Some place) = place

-- the place of the last section that has one, after this place
abbrev pub last_of : ℕ → List Section → ℕ
last_of last [] = last
last_of last (section ∷ sections) = last_of (last_place last (place_of section)) sections

-- the sections stand in their order after a place, none of them twice
abbrev pub AreOrdered : ℕ → List Section → Type 0
AreOrdered last [] = ⊤
AreOrdered last (section ∷ sections) = ComesAfter last (place_of section) × AreOrdered (last_place last (place_of section)) sections

-- A module: the header, and its sections up to the end, in their order, with as many bodies as functions, and where a data count stands, as
-- many data segments (Modules, "Modules"). A section that is absent has none.
pub record IsModule (compact : Bool) (bytes : List ℕ) (sections : List Section) : Type 0 where
  pub body : List ℕ
  pub begins : bytes ≡ header ++ body
  pub holds : IsItems (IsSection compact) body sections
  pub ordered : AreOrdered 0 sections
  pub agreeing : length (functions_of sections) ≡ length (bodies_of sections)
  pub counted : AllByRecursion (λ count. count ≡ length (data_of sections)) (data_counts_of sections)
