-- Segments that lie within their table or memory as it is at first, so that writing them can't trap.
use Rattle.std.specs.Prelude.{◌≡◌, ◌≤◌, ◌+◌, ◌*◌, ⊤, ℕ, true, [], ◌∷◌, length, Option, Some, None, slice_get}
use Rattle.std.specs.Int.{w32, w64, cast_unsigned}
use Rattle.std.specs.Option.{unwrap_or}
use Rattle.wasm_spec.specs.Constants.{ConstantExpression, I32Const, I64Const}
use Rattle.wasm_spec.specs.Syntax.{ElementMode, ActiveElement, ElementSegment, DataMode, ActiveData, DataSegment}
use Rattle.wasm_spec.specs.Types.{MemoryType, TableType}
use Rattle.wasm_validity.specs.Rules.{count_of}
use Rattle.wasm_smith_config.specs.declared.config.Config.{Config}
use Rattle.wasm_smith_definitions.specs.Offered.{page_bytes}
use Rattle.wasm_smith_validity.specs.Spaces.{Spaces}

-- the number that a single constant states, read without a sign
abbrev pub stated : ConstantExpression → Option ℕ
stated (I32Const n ∷ []) = Some (cast_unsigned w32 n)
stated (I64Const n ∷ []) = Some (cast_unsigned w64 n)
stated _ = None

-- an offset is a number up to this one
abbrev pub IsUpTo : ℕ → ConstantExpression → Type 0
IsUpTo last offset = (n : ℕ) × (stated offset ≡ Some n) × (n ≤ last)

-- so many items from an offset on lie within a size
abbrev pub LieWithin : ℕ → ℕ → ConstantExpression → Type 0
LieWithin size count offset = (n : ℕ) × (stated offset ≡ Some n) × (n + count ≤ size)

-- ---- element segments

-- so many items from an offset on lie within the minimum of a table, if there is one
abbrev pub LieInTable : ℕ → ConstantExpression → Option (TableType ℕ) → Type 0
LieInTable count offset None = ⊥
LieInTable count offset (Some table) = LieWithin table.limits.minimum count offset

abbrev pub LieAsElements : Spaces → ℕ → ElementMode → Type 0
LieAsElements spaces count (ActiveElement table offset) = LieInTable count offset (slice_get spaces.tables (unwrap_or table 0))
LieAsElements spaces count _ = ⊤

-- an element segment lies within its table, if it has one
abbrev pub LiesInTable : Spaces → ElementSegment → Type 0
LiesInTable spaces segment = LieAsElements spaces (count_of segment.items) segment.mode

-- ---- data segments

-- the bytes that a memory has at least
abbrev pub least_bytes : MemoryType → ℕ
least_bytes memory = memory.minimum * page_bytes memory.page_size_log2

-- so many bytes from an offset on lie within the minimum of a memory, if there is one
abbrev pub LieInMemory : ℕ → ConstantExpression → Option MemoryType → Type 0
LieInMemory count offset None = ⊥
LieInMemory count offset (Some memory) = LieWithin (least_bytes memory) count offset

abbrev pub LieAsData : Spaces → ℕ → DataMode → Type 0
LieAsData spaces count (ActiveData memory offset) = LieInMemory count offset (slice_get spaces.memories (unwrap_or memory 0))
LieAsData spaces count _ = ⊤

-- a data segment lies within its memory, if it has one
abbrev pub LiesInMemory : Spaces → DataSegment → Type 0
LiesInMemory spaces segment = LieAsData spaces (length segment.contents) segment.mode

-- ---- where a configuration disallows traps

abbrev pub IsSafeElement : Config → Spaces → ElementSegment → Type 0
IsSafeElement c spaces segment = c.disallow_traps ≡ true → LiesInTable spaces segment

abbrev pub IsSafeData : Config → Spaces → DataSegment → Type 0
IsSafeData c spaces segment = c.disallow_traps ≡ true → LiesInMemory spaces segment
