-- The kinds of items: their entries, and how many of each a configuration asks for.
use Rattle.std.specs.Prelude.{ℕ, true, ⊤, ◌||◌, nat_lt, length}
use Rattle.wasm_spec.specs.Syntax.{Global, Table, Export, ElementSegment, DataSegment}
use Rattle.wasm_spec.specs.Types.{MemoryType, ExternalKind, FuncKind, TableKind, MemoryKind, GlobalKind, TagKind}
use Rattle.wasm_validity.specs.Entries.{Entry, OfMemory, OfGlobal, OfTable, OfExport, OfElement, OfData}
use Rattle.wasm_smith_config.specs.declared.config.Config.{Config}
use Rattle.wasm_smith_definitions.specs.Steps.{Wanted}
use Rattle.wasm_smith_validity.specs.Spaces.{Spaces, functions_of, globals_of}

abbrev pub of_memory : MemoryType → Entry
of_memory type = OfMemory type

abbrev pub wanted_memories : Config → Wanted
wanted_memories c = record { least = c.min_memories; most = c.max_memories; count = λ spaces. length spaces.memories; can = λ _. true }

abbrev pub of_global : Global → Entry
of_global global = OfGlobal global

abbrev pub wanted_globals : Config → Wanted
wanted_globals c = record { least = c.min_globals; most = c.max_globals; count = λ spaces. length (globals_of spaces); can = λ _. true }

abbrev pub of_table : Table → Entry
of_table table = OfTable table

abbrev pub wanted_tables : Config → Wanted
wanted_tables c = record { least = c.min_tables; most = c.max_tables; count = λ spaces. length spaces.tables; can = λ _. true }

abbrev pub of_export : Export → Entry
of_export export = OfExport export

-- how many items of a kind there are
abbrev pub count_of : Spaces → ExternalKind → ℕ
count_of spaces FuncKind = length (functions_of spaces)
count_of spaces TableKind = length spaces.tables
count_of spaces MemoryKind = length spaces.memories
count_of spaces GlobalKind = length (globals_of spaces)
count_of spaces TagKind = length spaces.tags

abbrev pub of_element : ElementSegment → Entry
of_element segment = OfElement segment

-- an element segment is active, for one of the tables, or comes with bulk memory
abbrev pub wanted_elements : Config → Wanted
wanted_elements c = record {
  least = c.min_element_segments;
  most = c.max_element_segments;
  count = λ spaces. spaces.element_segments;
  can = λ spaces. nat_lt 0 (length spaces.tables) || c.bulk_memory_enabled;
}

abbrev pub of_data : DataSegment → Entry
of_data segment = OfData segment

-- a data segment is active, for one of the memories, or comes with bulk memory
abbrev pub wanted_data : Config → Wanted
wanted_data c = record {
  least = c.min_data_segments;
  most = c.max_data_segments;
  count = λ spaces. spaces.data_segments;
  can = λ spaces. nat_lt 0 (length spaces.memories) || c.bulk_memory_enabled;
}

-- no bound on items of a kind
abbrev pub AnyBound : {A : Type 0} → Config → A → Type 0
AnyBound c item = ⊤
