-- Functions that take and give nothing.
use Rattle.std.proofs.Common.{◌≡◌, ℕ, Bool, false, List, length, Option, Some, None, refl, nat_eq}
use Rattle.std.specs.Prelude.{◌&&◌}
use Rattle.std.specs.Borrow.{Bor}
use Rattle.std.specs.Option.{option_copied, option_map}
use Rattle.std.proofs.lemmas.List.{length-map}
use Rattle.wasm_spec.specs.Trees.{DefType}
use Rattle.wasm_spec.specs.TypeReferences.{func_map, val_map}
use Rattle.wasm_validity.specs.DefinedTypes.{func_type_at}
use Rattle.wasm_validity.specs.Rules.{is_unit}
use Rattle.wasmparser_types.specs.CompositeTypes.{func_type}
use Rattle.wasmparser_types.specs.Index.{Index}
use Rattle.wasmparser_types.specs.declared.composite_type.FuncType.{FuncType as FuncType'}

-- whether a type is that of functions that take and give nothing, by the type that is found
abbrev pub is_unit_found : Option (Bor FuncType') → Bool
is_unit_found None = false
is_unit_found (Some f) = nat_eq (length (func_type f.now).params) 0 && nat_eq (length (func_type f.now).results) 0

pub unit_found : (types : List DefType) (stands_for : Index → DefType) (index : ℕ) (found : Option (Bor FuncType'))
    → func_type_at types index ≡ option_map (func_map stands_for) (option_map func_type (option_copied found)) → is_unit (func_type_at types index) ≡ is_unit_found found
unit_found types stands_for index None h = rw h refl
unit_found types stands_for index (Some f) h =
    rw (h, length-map (func_type f.now).params (val_map stands_for), length-map (func_type f.now).results (val_map stands_for)) refl

pub ruleset unit_steps = (unit_found)
