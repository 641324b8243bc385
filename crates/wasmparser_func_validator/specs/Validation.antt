-- The results of a body validator's calls.
use Rattle.std.specs.Prelude.{◌≡◌, ◌++◌, ◌+◌, ℕ, Bool, true, false, List, length, replicate, Option, Some, None, IsSome, is_some, option_map, Result, Ok, Err, if◌then◌else◌}
use Rattle.wasm_bodies.specs.Bodies.{declared_local}
use Rattle.wasm_bodies.specs.BodyContext.{Local}
use Rattle.wasm_bodies.specs.Operands.{Operand, Known, Unknown, UnknownRef}
use Rattle.wasm_bodies_laws.specs.Machine.{Machine}
use Rattle.wasm_core_types.specs.declared.limits.Limit.TheVariants.{Locals}
use Rattle.wasm_spec.specs.Limits as limits
use Rattle.wasm_spec.specs.Types.{ValType}
use Rattle.wasmparser_error.specs.declared.error.Error.{Error}
use Rattle.wasmparser_error.specs.declared.error.ErrorKind.{ErrorKind}
use Rattle.wasmparser_error.specs.declared.error.ErrorKind.TheVariants as kinds
use Rattle.wasmparser_bodies.specs.declared.locals.LocalsError.{LocalsError}
use Rattle.wasmparser_bodies.specs.declared.locals.LocalsError.TheVariants as locals
use Rattle.wasmparser_types.specs.Index.{Index}
use Rattle.wasmparser_types.specs.ValTypes.{val_type}
use Rattle.wasmparser_types.specs.declared.val_type.ValType as code

-- ---- operators

-- the cause of an error at an operator: it leads nowhere, memory ran out though it leads somewhere, or an earlier one was refused
abbrev pub IsRefusedAt : ErrorKind → ℕ → Bool → ℕ → Option (Machine Index) → Type 0
IsRefusedAt kinds.Body at failed offset wanted = (failed ≡ false) × (wanted ≡ None) × (at ≡ offset)
IsRefusedAt kinds.Memory at failed offset wanted = (failed ≡ false) × IsSome wanted × (at ≡ offset)
IsRefusedAt kinds.Failed at failed offset wanted = (failed ≡ true) × (at ≡ offset)
IsRefusedAt _ at failed offset wanted = ⊥

-- An operator at a place leads where it leads. A refusal is the last thing.
abbrev pub Validates : Bool → ℕ → Option (Machine Index) → Machine Index → Bool → Result (Unit {0}) Error → Type 0
Validates failed offset wanted new after (Ok x) = (failed ≡ false) × (wanted ≡ Some new) × (after ≡ false)
Validates failed offset wanted new after (Err e) = IsRefusedAt e.kind e.offset failed offset wanted × (after ≡ true)

-- The same, but a refusal leaves all as it was.
abbrev pub Tries : Bool → ℕ → Option (Machine Index) → Machine Index → Machine Index → Bool → Result (Unit {0}) Error → Type 0
Tries failed offset wanted old new after (Ok x) = (failed ≡ false) × (wanted ≡ Some new) × (after ≡ false)
Tries failed offset wanted old new after (Err e) = IsRefusedAt e.kind e.offset failed offset wanted × (new ≡ old) × (after ≡ failed)

-- ---- locals

abbrev pub IsRefusedRun : ErrorKind → ℕ → Bool → ℕ → ℕ → Option (ValType Index) → Type 0
IsRefusedRun kinds.Body at failed offset total type = (failed ≡ false) × (type ≡ None) × (at ≡ offset)
IsRefusedRun (kinds.Limit Locals) at failed offset total type = (failed ≡ false) × (is_some type ≡ true) × limits.IsPassedBy limits.Locals total × (at ≡ offset)
IsRefusedRun kinds.Memory at failed offset total type = (failed ≡ false) × (is_some type ≡ true) × (limits.IsPassedBy limits.Locals total → ⊥) × (at ≡ offset)
IsRefusedRun kinds.Failed at failed offset total type = (failed ≡ true) × (at ≡ offset)
IsRefusedRun _ at failed offset total type = ⊥

-- More locals of a type that stands for something, within the limit. A refusal is the last thing.
abbrev pub Defines : Bool → ℕ → ℕ → Option (ValType Index) → List (Local Index) → List (Local Index) → Bool → Result (Unit {0}) Error → Type 0
Defines failed offset count type old new after (Ok x) =
    (failed ≡ false) × ((t : ValType Index) × (type ≡ Some t) × (new ≡ old ++ replicate count (declared_local t))) × (limits.IsPassedBy limits.Locals (length old + count) → ⊥) × (after ≡ false)
Defines failed offset count type old new after (Err e) = IsRefusedRun e.kind e.offset failed offset (length old + count) type × (after ≡ true)

-- ---- what can be asked

-- nothing is told after a refusal
abbrev pub unless_failed : {A : Type 0} → Bool → A → A → A
unless_failed failed nothing something = if failed then nothing else something

abbrev pub is_refused : Result (Unit {0}) Error → Bool
is_refused (Ok x) = false
is_refused (Err e) = true

abbrev pub locals_error : LocalsError → ℕ → Error
locals_error locals.Limit offset = record { offset = offset; kind = kinds.Limit Locals }
locals_error locals.Memory offset = record { offset = offset; kind = kinds.Memory }

-- a body that isn't begun
abbrev pub IsRefusedStart : List (ValType Index) → ErrorKind → ℕ → Type 0
IsRefusedStart params (kinds.Limit Locals) at = limits.IsPassedBy limits.Locals (length params) × (at ≡ 0)
IsRefusedStart params kinds.Memory at = (limits.IsPassedBy limits.Locals (length params) → ⊥) × (at ≡ 0)
IsRefusedStart params kind at = ⊥

-- the type of an operand, if it is known
abbrev pub known_type : Operand Index → Option (ValType Index)
known_type (Known type) = Some type
known_type Unknown = None
known_type UnknownRef = None

abbrev pub type_seen : Option code.ValType → Option (ValType Index)
type_seen type = option_map val_type type
