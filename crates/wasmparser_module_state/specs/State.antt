-- The context that a module's state stands for.
use Rattle.std.specs.Prelude.{◌≤◌, ◌<◌, ◌+◌, ℕ, Bool, false, List, [], get_or, length, map, ⊤, vec_capacity, vec_len}
use Rattle.std.specs.List.{AllByRecursion}
use Rattle.wasm_spec.specs.Features.{Features}
use Rattle.wasm_spec.specs.TypeReferences.{ref_map, table_map, global_map, external_map}
use Rattle.wasm_spec.specs.Types as spec
use Rattle.wasmparser_readers.specs.ItemTypes.{memory_type, table_type, global_type, type_ref}
use Rattle.wasmparser_readers.specs.declared.global_type.GlobalType.{GlobalType}
use Rattle.wasmparser_readers.specs.declared.table_type.TableType.{TableType}
use Rattle.wasmparser_readers.specs.declared.type_ref.TypeRef.{TypeRef}
use Rattle.wasmparser_types.specs.Index.{Index, number_of}
use Rattle.wasm_validity.specs.Context.{Context, functions_in}
use Rattle.wasm_validity.specs.Entries.{Entry, OfFunction, OfMemory, OfTag}
use Rattle.wasmparser_module_state.specs.declared.function_set.FunctionSet.{FunctionSet}
use Rattle.wasmparser_module_state.specs.declared.module_state.ModuleState.{ModuleState}

abbrev pub features_of : ModuleState → Features
features_of s = s.types.features

-- types of items, over type indexes
abbrev pub reference : spec.RefType Index → spec.RefType ℕ
reference type = ref_map number_of type

abbrev pub table : TableType → spec.TableType ℕ
table type = table_map number_of (table_type type)

abbrev pub global : GlobalType → spec.GlobalType ℕ
global type = global_map number_of (global_type type)

abbrev pub item : TypeRef → spec.ExternalType ℕ
item type = external_map number_of (type_ref type)

-- whether a function is in a set
abbrev pub members : FunctionSet → ℕ → Bool
members set = λ function. get_or set.flags.items function false

-- how many functions a set has room for
abbrev pub room : FunctionSet → ℕ
room set = length set.flags.items

-- what is known but for the names of imports
abbrev pub unnamed : ModuleState → Context
unnamed s = record {
  types = s.types.types;
  groups = s.types.groups;
  imports = s.imports;
  imported = [];
  imported_functions = s.imported_functions.items;
  own_functions = s.own_functions.items;
  tables = map table s.tables.items;
  memories = map memory_type s.memories.items;
  tags = s.tags.items;
  imported_globals = map global s.imported_globals.items;
  own_globals = map global s.own_globals.items;
  exports = s.exports;
  elements = map reference s.elements;
  declared = members s.declared;
  data_count = s.stated_data_count;
  segments = s.segments;
  type_size = s.type_size;
}

abbrev pub context : ModuleState → Context
context s = record (unnamed s) { imported = s.imported.imports }

-- there is room to declare each function
abbrev pub HasRoom : ModuleState → Type 0
HasRoom s = length (context s).imported_functions + length (context s).own_functions ≤ room s.declared

-- The vector of an entry of a kind that takes memory for nothing else has no capacity left.
abbrev pub IsFull : ModuleState → Entry → Type 0
IsFull s (OfFunction index) = vec_capacity s.own_functions ≤ vec_len s.own_functions
IsFull s (OfMemory type) = vec_capacity s.memories ≤ vec_len s.memories
IsFull s (OfTag index) = vec_capacity s.tags ≤ vec_len s.tags
IsFull s _ = ⊤

-- there is each of these functions
abbrev pub AreThere : Context → List ℕ → Type 0
AreThere cx functions = AllByRecursion (λ function. function < length (functions_in cx)) functions
