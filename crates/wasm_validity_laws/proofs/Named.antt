-- The module's own functions: they name function types, and imports leave them.
use Rattle.std.proofs.Common.{◌≡◌, ℕ, true, List, [], ◌∷◌, Some, is_some, slice_get, refl}
use Rattle.wasm_spec.specs.Features.{Features}
use Rattle.wasm_spec.specs.Types.{ExternalType, FuncExternal, TableExternal, MemoryExternal, GlobalExternal, TagExternal}
use Rattle.wasm_validity.specs.Context.{Context, after_all, after_item, after_items, at_first}
use Rattle.wasm_validity.specs.DefinedTypes.{func_type_at}
use Rattle.wasm_validity.specs.Entries.{Entry}
use Rattle.wasm_validity.specs.Rules.{KeepRules}
use Rattle.wasm_validity_laws.proofs.NamedTypes.{rest_of, types_named}

pub items_leave : (cx : Context) (types : List (ExternalType ℕ)) → ((after_items cx types).types ≡ cx.types) × ((after_items cx types).own_functions ≡ cx.own_functions)
items_leave cx [] = (refl, refl)
items_leave cx (FuncExternal function ∷ types) = items_leave (after_item cx (FuncExternal function)) types
items_leave cx (TableExternal type ∷ types) = items_leave (after_item cx (TableExternal type)) types
items_leave cx (MemoryExternal type ∷ types) = items_leave (after_item cx (MemoryExternal type)) types
items_leave cx (GlobalExternal type ∷ types) = items_leave (after_item cx (GlobalExternal type)) types
items_leave cx (TagExternal function ∷ types) = items_leave (after_item cx (TagExternal function)) types

-- they are the end of the list of functions
pub functions_named : (features : Features) (entries : List Entry) (place index : ℕ) → KeepRules features at_first entries
    → slice_get (after_all at_first entries).own_functions place ≡ Some index → is_some (func_type_at (after_all at_first entries).types index) ≡ true
functions_named features entries place index keep e =
    let cx = after_all at_first entries in
    rest_of cx.imported_functions cx.own_functions (types_named features entries keep).functions place index e
