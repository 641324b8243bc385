-- Looking up a function type by its index.
use Rattle.std.proofs.Common.{◌≡◌, ℕ, List, Option, Some, None, is_some, refl}
use Rattle.std.specs.Borrow.{Bor}
use Rattle.std.specs.Option.{option_copied, option_map}
use Rattle.wasm_spec.specs.Trees.{DefType}
use Rattle.wasm_spec.specs.TypeReferences.{func_map}
use Rattle.wasm_validity.specs.DefinedTypes.{func_type_at}
use Rattle.wasmparser_types.specs.CompositeTypes.{func_type}
use Rattle.wasmparser_types.specs.Index.{Index}
use Rattle.wasmparser_types.specs.declared.composite_type.FuncType.{FuncType}

pub is_func : (types : List DefType) (stands_for : Index → DefType) (index : ℕ) (found : Option (Bor FuncType))
    → func_type_at types index ≡ option_map (func_map stands_for) (option_map func_type (option_copied found)) → is_some found ≡ is_some (func_type_at types index)
is_func types stands_for index None h = rw h refl
is_func types stands_for index (Some f) h = rw h refl

pub ruleset func_steps = (is_func)
