-- Modules as the lists of their sections, in the order of the bytes (Core Specification 3.0, Binary Format, "Modules"), and what stands in
-- sections (Structure, "Modules"). Unlike in the abstract syntax, custom sections are kept. Of what can be written in several ways
-- these are kept apart: whether a table or a memory of index 0 is written, which imports share a module name or a type, and whether a group
-- of one type is written out.
use Rattle.std.specs.Prelude.{ℕ, List, [], ◌∷◌, map, Option}
use Rattle.std.specs.List.{flat_map}
use Rattle.wasm_spec.specs.Constants.{ConstantExpression}
use Rattle.wasm_spec.specs.Types.{RefType, SubType, RecGroup, Single, Group, MemoryType, TableType, GlobalType, ExternalType, ExternalKind}

-- ---- entries of sections

-- what is imported under a module's name
pub record ImportItem : Type 0 where
  pub name : List ℕ
  pub type : ExternalType ℕ

-- An entry of an import section. Those of any number of imports are a proposal's.
pub data ImportEntry : Type 0 where
  -- one import: the module's name, its own, and its type
  Import : List ℕ → List ℕ → ExternalType ℕ → ImportEntry
  -- imports that share the module's name
  CompactItems : List ℕ → List ImportItem → ImportEntry
  -- imports that share the module's name and the type: their own names
  CompactNames : List ℕ → ExternalType ℕ → List (List ℕ) → ImportEntry

-- a table; without an initialiser it is written as its type alone
pub record Table : Type 0 where
  pub type : TableType ℕ
  pub initialiser : Option ConstantExpression

pub record Global : Type 0 where
  pub type : GlobalType ℕ
  pub initialiser : ConstantExpression

-- what is exported: an index in the space of its kind
pub record Export : Type 0 where
  pub name : List ℕ
  pub kind : ExternalKind
  pub index : ℕ

pub data ElementMode : Type 0 where
  -- the table, where it is written (else it is table 0), and the offset
  ActiveElement : Option ℕ → ConstantExpression → ElementMode
  PassiveElement : ElementMode
  DeclaredElement : ElementMode

pub data ElementItems : Type 0 where
  -- function indexes
  FunctionItems : List ℕ → ElementItems
  -- expressions, and the type of what they give
  ExpressionItems : RefType ℕ → List ConstantExpression → ElementItems

pub record ElementSegment : Type 0 where
  pub mode : ElementMode
  pub items : ElementItems

pub data DataMode : Type 0 where
  -- the memory, where it is written (else it is memory 0), and the offset
  ActiveData : Option ℕ → ConstantExpression → DataMode
  PassiveData : DataMode

pub record DataSegment : Type 0 where
  pub mode : DataMode
  pub contents : List ℕ

-- ---- sections

pub data Section : Type 0 where
  -- a custom section: its name, and any bytes (Binary Format, Modules, "Custom Section")
  Custom : List ℕ → List ℕ → Section
  -- recursive groups, in which references are type indexes ("Type Section")
  TypeSection : List (RecGroup ℕ) → Section
  ImportSection : List ImportEntry → Section
  -- the type index of each function of the module's own ("Function Section")
  FunctionSection : List ℕ → Section
  TableSection : List Table → Section
  MemorySection : List MemoryType → Section
  -- the type index of each tag of the module's own ("Tag Section")
  TagSection : List ℕ → Section
  GlobalSection : List Global → Section
  ExportSection : List Export → Section
  -- the index of the function that a module starts with ("Start Section")
  StartSection : ℕ → Section
  ElementSection : List ElementSegment → Section
  -- the number of data segments, said before the bodies ("Data Count Section")
  DataCountSection : ℕ → Section
  -- the bytes of each of the own functions' bodies, its size aside ("Code Section")
  CodeSection : List (List ℕ) → Section
  DataSection : List DataSegment → Section

-- ---- what a section has

-- the types of a group in their order
abbrev pub members : {R : Type 0} → RecGroup R → List (SubType R)
members (Single type) = type ∷ []
members (Group types) = types

-- the types of the imports of an entry in their order
abbrev pub imported_by : ImportEntry → List (ExternalType ℕ)
imported_by (Import origin name type) = type ∷ []
imported_by (CompactItems origin items) = map (λ item. item.type) items
imported_by (CompactNames origin type names) = map (λ name. type) names

abbrev pub groups_in : Section → List (RecGroup ℕ)
groups_in (TypeSection groups) = groups
groups_in _ = []

abbrev pub types_in : Section → List (SubType ℕ)
types_in section = flat_map members (groups_in section)

abbrev pub functions_in : Section → List ℕ
functions_in (FunctionSection indexes) = indexes
functions_in _ = []

abbrev pub data_counts_in : Section → List ℕ
data_counts_in (DataCountSection count) = count ∷ []
data_counts_in _ = []

abbrev pub bodies_in : Section → List (List ℕ)
bodies_in (CodeSection bodies) = bodies
bodies_in _ = []

abbrev pub data_in : Section → List DataSegment
data_in (DataSection segments) = segments
data_in _ = []

-- ---- what the sections of a module have, in their order

abbrev pub groups_of : List Section → List (RecGroup ℕ)
groups_of sections = flat_map groups_in sections

abbrev pub types_of : List Section → List (SubType ℕ)
types_of sections = flat_map types_in sections

-- the own functions, tables, .. alone; imported ones stand before them in their spaces
abbrev pub functions_of : List Section → List ℕ
functions_of sections = flat_map functions_in sections

abbrev pub data_counts_of : List Section → List ℕ
data_counts_of sections = flat_map data_counts_in sections

abbrev pub bodies_of : List Section → List (List ℕ)
bodies_of sections = flat_map bodies_in sections

abbrev pub data_of : List Section → List DataSegment
data_of sections = flat_map data_in sections
