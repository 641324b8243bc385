-- Rows of a flag and whether it is on.
use Rattle.std.specs.Prelude.{ℕ, Bool, List, [], ◌∷◌, map}
use Rattle.wasm_core_types.specs.Features.{feature_set}
use Rattle.wasm_core_types.specs.declared.features.WasmFeatures.{WasmFeatures}
use Rattle.wasm_spec.specs.Features.{bit_of, MutableGlobal, SaturatingFloatToInt, SignExtension, ReferenceTypes, MultiValue, BulkMemory, Simd, RelaxedSimd, Threads, TailCall, Floats, MultiMemory, Exceptions, Memory64, ExtendedConst, FunctionReferences, Gc, GcTypes, CustomPageSizes, CompactImports, WideArithmetic, StackSwitching}
use Rattle.wasm_smith_config.specs.declared.config.Config.{Config}
use Rattle.wasm_smith_config.specs.Config.{is_on}

-- the rows of the code, with their flags as numbers
abbrev pub rows_of : List (WasmFeatures × Bool) → List (ℕ × Bool)
rows_of rows = map (λ row. (feature_set row.0, row.1)) rows

-- a row of each flag
abbrev pub switches : Config → List (ℕ × Bool)
switches c = map (λ flag. (bit_of flag, is_on c flag)) (
    MutableGlobal ∷ SaturatingFloatToInt ∷ SignExtension ∷ ReferenceTypes ∷ MultiValue ∷ BulkMemory ∷ Simd ∷ RelaxedSimd ∷ Threads ∷
    TailCall ∷ Floats ∷ MultiMemory ∷ Exceptions ∷ Memory64 ∷ ExtendedConst ∷ FunctionReferences ∷ Gc ∷ GcTypes ∷ CustomPageSizes ∷
    CompactImports ∷ WideArithmetic ∷ StackSwitching ∷ [])
