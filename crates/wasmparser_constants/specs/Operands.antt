-- The operands of a constant expression, by the types that ids stand for.
use Rattle.std.specs.Prelude.{◌≡◌, List, [], ◌∷◌, map, reverse, Option, Some, None}
use Rattle.std.specs.List.{AllByRecursion}
use Rattle.wasm_spec.specs.Trees.{DefType}
use Rattle.wasm_spec.specs.TypeReferences.{val_map, val_refs}
use Rattle.wasm_spec.specs.Types as spec
use Rattle.wasm_validity.specs.ConstantTyping as standard
use Rattle.wasmparser_module_types.specs.ModuleTypes.{KnownTypes, AreIds, stands_for}
use Rattle.wasmparser_types.specs.Index.{Index}
use Rattle.wasmparser_types.specs.ValTypes.{val_type}
use Rattle.wasmparser_types.specs.declared.val_type.ValType.{ValType}

-- the types of operands, the last one first, by ids
abbrev pub Operands : Type 0
Operands = List (spec.ValType Index)

-- those that are kept with the last one last
abbrev pub last_first : List ValType → Operands
last_first items = reverse (map val_type items)

-- What a call returned that takes the last operand off.
abbrev pub Pops : Operands → Option ValType → Operands → Type 0
Pops old None new = (old ≡ []) × (new ≡ [])
Pops old (Some type) new = old ≡ val_type type ∷ new

-- ---- as the specification has them

abbrev pub meant_type : KnownTypes → spec.ValType Index → spec.ValType DefType
meant_type known type = val_map (stands_for known) type

abbrev pub meant : KnownTypes → Operands → standard.Operands
meant known operands = map (meant_type known) operands

-- each index in them is an id
abbrev pub AreKnown : KnownTypes → Operands → Type 0
AreKnown known operands = AllByRecursion (λ type. AreIds known (val_refs type)) operands
