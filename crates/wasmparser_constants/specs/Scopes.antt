-- What constant expressions see of a module.
use Rattle.std.specs.Prelude.{ℕ, List, map}
use Rattle.wasm_spec.specs.Features.{Features}
use Rattle.wasm_spec.specs.TypeReferences.{global_map}
use Rattle.wasm_spec.specs.Types as spec
use Rattle.wasm_validity.specs.Context.{Context, at_first}
use Rattle.wasmparser_readers.specs.ItemTypes.{global_type}
use Rattle.wasmparser_readers.specs.declared.global_type.GlobalType.{GlobalType}
use Rattle.wasmparser_module_types.specs.ModuleTypes.{KnownTypes}
use Rattle.wasmparser_types.specs.Index.{Index, number_of}
use Rattle.wasmparser_types.specs.ValTypes.{storage_type, unpacked_type}
use Rattle.wasmparser_types.specs.declared.val_type.FieldType.{FieldType}
use Rattle.wasmparser_constants.specs.declared.scope.Scope.{Scope}

-- a global's type, over type indexes
abbrev pub global : GlobalType → spec.GlobalType ℕ
global type = global_map number_of (global_type type)

abbrev pub known : Scope → KnownTypes
known scope = scope.types.now

abbrev pub features_of : Scope → Features
features_of scope = (known scope).features

-- of a context, what constant expressions ask
abbrev pub seen : Context → Context
seen cx = record at_first {
  types = cx.types;
  imported_functions = cx.imported_functions;
  own_functions = cx.own_functions;
  imported_globals = cx.imported_globals;
  own_globals = cx.own_globals;
}

abbrev pub context : Scope → Context
context scope = record at_first {
  types = (known scope).types;
  imported_functions = scope.imported_functions.now;
  own_functions = scope.own_functions.now;
  imported_globals = map global scope.imported_globals.now;
  own_globals = map global scope.own_globals.now;
}

-- what fields hold, as operands
abbrev pub field_values : List FieldType → List (spec.ValType Index)
field_values fields = map (λ field. unpacked_type (storage_type field.element_type)) fields
