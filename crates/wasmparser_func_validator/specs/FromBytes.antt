-- The results of validating a body from its bytes.
use Rattle.std.specs.Prelude.{⊤, ℕ, Bool, not, List, Result, Ok, Err}
use Rattle.wasm_bodies.specs.Bodies.{HasManyLocals}
use Rattle.wasm_bodies.specs.BodyContext.{Local, ModuleItems}
use Rattle.wasm_bodies_laws.specs.Machine.{Machine}
use Rattle.wasm_core_types.specs.declared.features.WasmFeatures.{WasmFeatures}
use Rattle.wasm_core_types.specs.declared.limits.Limit.TheVariants as core
use Rattle.wasm_core_read.specs.Input.{Input}
use Rattle.wasm_spec.specs.Features.{Features}
use Rattle.wasm_spec.specs.Types.{FuncType}
use Rattle.wasmparser_bodies.specs.BodyStates.{BodyState}
use Rattle.wasmparser_bodies.specs.LocalsReading.{Declares}
use Rattle.wasmparser_error.specs.declared.error.Error.{Error}
use Rattle.wasmparser_error.specs.declared.error.ErrorKind.{ErrorKind}
use Rattle.wasmparser_error.specs.declared.error.ErrorKind.TheVariants as kinds
use Rattle.wasmparser_types.specs.Index.{Index}

-- what a validator knows of its body: the index is that of the function's type
abbrev pub state_of : Features → ModuleItems Index → ℕ → List (Local Index) → Machine Index → Bool → BodyState
state_of features items index locals machine failed =
    record { features = features; items = items; index = index; locals = locals; machine = machine; is_ready = not failed }

-- what no call changes
pub record Given (T : Type 0) : Type 0 where
  pub resources : T
  pub features : WasmFeatures
  pub ty : ℕ
  pub index : ℕ

-- what is refused after a refusal
abbrev pub failed_at : ℕ → Error
failed_at position = record { offset = position; kind = kinds.Failed }

-- no runs declare locals of a function of this type
abbrev pub DeclaresNone : Features → ModuleItems Index → FuncType Index → List ℕ → Type 0
DeclaresNone features items type bytes = (locals : List (Local Index)) (rest : List ℕ) → ¬ (Declares features items type bytes locals rest)

-- what is wrong with what the locals of a body are read from
abbrev pub IsLocalsRefusal : Features → ModuleItems Index → FuncType Index → List ℕ → ErrorKind → Type 0
IsLocalsRefusal features items type bytes kinds.Body = DeclaresNone features items type bytes × ¬ (HasManyLocals features items type bytes)
IsLocalsRefusal features items type bytes (kinds.Limit core.Locals) = HasManyLocals features items type bytes
IsLocalsRefusal features items type bytes kinds.Memory = ⊤
IsLocalsRefusal features items type bytes _ = ⊥

-- The result of a call that reads the locals of a body, of a function of this type.
abbrev pub ReadsDeclared : Features → ModuleItems Index → FuncType Index → Input → Input → List (Local Index) → Result (Unit {0}) Error → Type 0
ReadsDeclared features items type from to locals (Ok x) = Declares features items type from.rest locals to.rest
ReadsDeclared features items type from to locals (Err e) = IsLocalsRefusal features items type from.rest e.kind
