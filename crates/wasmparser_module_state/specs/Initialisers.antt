-- Constant expressions that a module's items stand on.
use Rattle.std.specs.Prelude.{◌≡◌, ⊤, ℕ, true, [], if◌then◌else◌, is_some, Option, Some, None, Result, slice_get, unwrap_or}
use Rattle.wasm_spec.specs.Constants.{ConstantExpression}
use Rattle.wasm_spec.specs.Features.{BulkMemory, Features, FunctionReferences, has}
use Rattle.wasm_spec.specs.Syntax.{ActiveData, DataMode, PassiveData, Table}
use Rattle.wasm_spec.specs.Types.{MemoryType}
use Rattle.wasm_validity.specs.Context.{Context}
use Rattle.wasm_validity.specs.Rules.{IsInitialised, value_of}
use Rattle.wasmparser_constants.specs.Steps as steps
use Rattle.wasmparser_constants.specs.Steps.{BeginsRightly}
use Rattle.wasmparser_error.specs.declared.error.Error.{Error}

-- the elements of a table of the module's own are something at first
pub record IsFilled (features : Features) (cx : Context) (table : Table) : Type 0 where
  pub filled : (if is_some table.initialiser then has features FunctionReferences else table.type.element_type.nullable) ≡ true
  pub initialiser : IsInitialised features (record cx { own_globals = [] }) (value_of table.type.element_type) table.initialiser

-- what a table begins as, where an expression says so, is right up to an operator of it
abbrev pub BeginsFilled : Features → Context → Option ConstantExpression → Type 0
BeginsFilled features cx None = ⊤
BeginsFilled features cx (Some initialiser) = BeginsRightly features (record cx { own_globals = [] }) initialiser

-- there is a memory, and an expression is right up to an operator of it
abbrev pub BeginsAddress : Features → Context → ConstantExpression → Option MemoryType → Type 0
BeginsAddress features cx address None = ⊥
BeginsAddress features cx address (Some memory) = BeginsRightly features cx address

-- a data segment may be used when it says, and its address, where it has one, is right up to an operator of it
abbrev pub BeginsPlaced : Features → Context → DataMode → Type 0
BeginsPlaced features cx (ActiveData memory address) = BeginsAddress features cx address (slice_get cx.memories (unwrap_or memory 0))
BeginsPlaced features cx PassiveData = has features BulkMemory ≡ true

-- The result of a call that checks that something holds. Nothing is said of what is right where memory ran out.
abbrev pub Judges : ℕ → Type 0 → Result (Unit {0}) Error → Type 0
Judges place Holds result = steps.Judges place Holds ⊤ result
