-- The results of reading the locals of a body.
use Rattle.std.specs.Prelude.{◌≡◌, ◌⊎◌, ◌++◌, ◌+◌, ℕ, true, List, length, replicate, Option, Some, None, is_some, Result, Ok, Err}
use Rattle.wasm_bodies.specs.Bodies.{Run, declared_local}
use Rattle.wasm_bodies.specs.BodyContext.{Local}
use Rattle.wasm_core_types.specs.declared.limits.Limit.TheVariants as core
use Rattle.wasm_core_read.specs.Input.{Input, GoesOn, IsWithin}
use Rattle.wasm_core_read.specs.TypeReading.{val_type_at}
use Rattle.wasm_spec.specs.Limits as limits
use Rattle.wasm_spec.specs.TypeReferences.{val_refs}
use Rattle.wasm_spec.specs.Types.{ValType}
use Rattle.wasmparser_error.specs.declared.error.Error.{Error}
use Rattle.wasmparser_error.specs.declared.error.ErrorKind.{ErrorKind}
use Rattle.wasmparser_error.specs.declared.error.ErrorKind.TheVariants as kinds
use Rattle.wasmparser_types.specs.Index.{Index}
use Rattle.wasmparser_types.specs.declared.val_type.ValType as code
use Rattle.wasmparser_readers.specs.Answers.{HasLargeIndex}
use Rattle.wasmparser_operators.specs.OperatorValues.{IsOfModule, module_type}
use Rattle.wasmparser_bodies.specs.BodyAnswers.{HasManyTypes, left_at}
use Rattle.wasmparser_bodies.specs.BodyStates.{BodyState, with_locals_in}
use Rattle.wasmparser_bodies.specs.Fronts.{Fits, StopsAmong, StopsInRuns}
use Rattle.wasmparser_bodies.specs.LocalsReading.{LocalsOutcome, Locals, TooMany, NoLocals, run_at, with_run, locals_outcome}

-- ---- one run

-- what is wrong with a run: its type stands for nothing, there are too many locals, or memory ran out for a run that may come
abbrev pub IsRefusedRun : ErrorKind → ℕ → ℕ → ℕ → Option (ValType Index) → Type 0
IsRefusedRun kinds.Body at offset total type = (type ≡ None) × (at ≡ offset)
IsRefusedRun (kinds.Limit core.Locals) at offset total type = (is_some type ≡ true) × limits.IsPassedBy limits.Locals total × (at ≡ offset)
IsRefusedRun kinds.Memory at offset total type = (is_some type ≡ true) × (limits.IsPassedBy limits.Locals total → ⊥) × (at ≡ offset)
IsRefusedRun _ at offset total type = ⊥

-- so many locals more of what a type stands for, within the limit
abbrev pub DefinesRun : ℕ → ℕ → Option (ValType Index) → BodyState → BodyState → Result (Unit {0}) Error → Type 0
DefinesRun offset count type old new (Ok x) =
    ((t : ValType Index) × (type ≡ Some t) × (new ≡ with_locals_in (old.locals ++ replicate count (declared_local t)) old)) × ¬ (limits.IsPassedBy limits.Locals (length old.locals + count))
DefinesRun offset count type old new (Err e) = IsRefusedRun e.kind e.offset offset (length old.locals + count) type

-- what reads as the type of a run, if one does with an index that can be packed
abbrev pub ReadsLocalType : Input → Input → Option code.ValType → Type 0
ReadsLocalType old new (Some type) = (val_type_at old.rest ≡ Some (module_type type, new.rest)) × IsOfModule type × GoesOn old new
ReadsLocalType old new None = (val_type_at old.rest ≡ None) ⊎ HasLargeIndex val_refs (val_type_at old.rest)

-- ---- what is validated

-- The fault that a refusal names. `Body` may also come for right locals that name a type which can't be packed; `Memory` comes with so_far.
abbrev pub NamesLocalsFault : Type 0 → Type 0 → ErrorKind → LocalsOutcome Index → Type 0
NamesLocalsFault unpacked so_far kinds.Body outcome = (outcome ≡ NoLocals) ⊎ unpacked
NamesLocalsFault unpacked so_far (kinds.Limit core.Locals) outcome = outcome ≡ TooMany
NamesLocalsFault unpacked so_far kinds.Memory outcome = so_far
NamesLocalsFault unpacked so_far _ outcome = ⊥

abbrev pub Others : Type 0
Others = List (Local Index) → List ℕ → LocalsOutcome Index

abbrev pub run_outcome : BodyState → List ℕ → Others → LocalsOutcome Index
run_outcome state bytes others = with_run state.features state.items state.locals (run_at bytes) others

-- The result of a call that reads a run: it fits, or it is refused, whatever comes after it.
abbrev pub ReadsRun : BodyState → BodyState → Input → Input → Result (Unit {0}) Error → Type 0
ReadsRun old new from to (Ok x) = ((run : Run) × Fits old.features old.items old.locals from.rest run new.locals to.rest) × (new ≡ with_locals_in new.locals old) × GoesOn from to
ReadsRun old new from to (Err e) =
    ((others : Others) → NamesLocalsFault (HasManyTypes old.items) (StopsAmong old.features old.items 1 old.locals from.rest (left_at from e.offset)) e.kind (run_outcome old from.rest others))
    × IsWithin from e.offset

-- The result of a call that reads all runs.
abbrev pub ReadsLocals : BodyState → BodyState → Input → Input → Result (Unit {0}) Error → Type 0
ReadsLocals old new from to (Ok x) = (locals_outcome old.features old.items old.locals from.rest ≡ Locals new.locals to.rest) × (new ≡ with_locals_in new.locals old) × GoesOn from to
ReadsLocals old new from to (Err e) =
    NamesLocalsFault (HasManyTypes old.items) (StopsInRuns old.features old.items old.locals from.rest (left_at from e.offset)) e.kind (locals_outcome old.features old.items old.locals from.rest)
    × IsWithin from e.offset
