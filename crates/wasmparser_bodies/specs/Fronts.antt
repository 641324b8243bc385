-- Places at which memory may run out: the item there may come, and so may all before it. A means of proof, like the outcomes of bytes.
use Rattle.std.specs.Prelude.{◌≡◌, ◌≤◌, ◌+◌, ◌⊎◌, ℕ, zero, suc, List, [], ◌∷◌, ◌++◌, length, map, replicate, Some, IsSome}
use Rattle.wasm_bodies.specs.Bodies.{Run, declared_local, parameter}
use Rattle.wasm_bodies.specs.BodyContext.{BodyContext, ModuleItems, Local, written}
use Rattle.wasm_bodies.specs.Operators.{Operator, Indexed}
use Rattle.wasm_bodies_laws.specs.Machine.{Machine, at_start, frame_type, stepped}
use Rattle.wasm_core_read.specs.Reading.{unsigned_at}
use Rattle.wasm_spec.specs.Features.{Features}
use Rattle.wasm_spec.specs.Limits as limits
use Rattle.wasm_spec.specs.Types.{FuncType, ValType}
use Rattle.wasmparser_operators.specs.OperatorReading.{operator_at}
use Rattle.wasmparser_bodies.specs.BodyAnswers.{context_of}
use Rattle.wasmparser_bodies.specs.LocalsReading.{Locals, locals_outcome, run_at}

-- ---- operators

-- these operators are read one after the other, and lead from one machine to another
abbrev pub PassesBy : {R : Type 0} → BodyContext R → List (Operator ℕ) → Machine R → List ℕ → Machine R → List ℕ → Type 0
PassesBy cx [] old bytes new rest = (new ≡ old) × (rest ≡ bytes)
PassesBy {R} cx (operator ∷ operators) old bytes new rest =
    (mid : Machine R) × (left : List ℕ) × (operator_at cx.features bytes ≡ Some (operator, left)) × (stepped cx old operator ≡ Some mid) × PassesBy cx operators mid left new rest

-- Operators at the front of the bytes lead from one machine to another, and these bytes are left.
pub record Passes {R : Type 0} (cx : BodyContext R) (old new : Machine R) (bytes rest : List ℕ) : Type 0 where
  pub operators : List (Operator ℕ)
  pub passed : PassesBy cx operators old bytes new rest

-- An operator that may come stands behind others that may, where so many bytes are left.
pub record StopsInOperators {R : Type 0} (cx : BodyContext R) (m : Machine R) (bytes : List ℕ) (left : ℕ) : Type 0 where
  pub reached : Machine R
  pub rest : List ℕ
  pub passes : Passes cx m reached bytes rest
  pub operator : Operator ℕ
  pub after : List ℕ
  pub reads : operator_at cx.features rest ≡ Some (operator, after)
  pub leads : IsSome (stepped cx reached operator)
  pub place : left ≡ length rest

-- ---- locals

-- The bytes begin with this run, its type is allowed, and with it the locals are within the limit.
pub record Fits {R : Type 0} (features : Features) (items : ModuleItems R) (locals : List (Local R)) (bytes : List ℕ) (run : Run) (more : List (Local R)) (rest : List ℕ) : Type 0 where
  pub type : ValType R
  pub reads : run_at bytes ≡ Some (run, rest)
  pub stands : written features items run.type ≡ Some type
  pub within : length locals + run.count ≤ limits.most limits.Locals
  pub adds : more ≡ locals ++ replicate run.count (declared_local type)

-- So many runs are to come. One stands where this number of bytes is left; it fits, and so do those before it.
abbrev pub StopsAmong : {R : Type 0} → Features → ModuleItems R → ℕ → List (Local R) → List ℕ → ℕ → Type 0
StopsAmong features items zero locals bytes left = ⊥
StopsAmong {R} features items (suc n) locals bytes left =
    (run : Run) × (more : List (Local R)) × (rest : List ℕ) × Fits features items locals bytes run more rest × ((left ≡ length bytes) ⊎ StopsAmong features items n more rest left)

-- the same after the number of runs
pub record StopsInRuns {R : Type 0} (features : Features) (items : ModuleItems R) (params : List (Local R)) (bytes : List ℕ) (left : ℕ) : Type 0 where
  pub count : ℕ
  pub rest : List ℕ
  pub counted : unsigned_at 32 bytes ≡ Some (count, rest)
  pub among : StopsAmong features items count params rest left

-- ---- bodies

-- an operator that may come stands there, after all locals
pub record StopsInCode {R : Type 0} (features : Features) (items : ModuleItems R) (type : FuncType R) (params : List (Local R)) (m : Machine R) (bytes : List ℕ) (left : ℕ) : Type 0 where
  pub locals : List (Local R)
  pub rest : List ℕ
  pub declared : locals_outcome features items params bytes ≡ Locals locals rest
  pub stops : StopsInOperators (context_of features items type locals) m rest left

-- A run or an operator that may come stands where so many bytes are left. The body has these locals so far, and its operators led to this machine.
abbrev pub StopsIn : {R : Type 0} → Features → ModuleItems R → FuncType R → List (Local R) → Machine R → List ℕ → ℕ → Type 0
StopsIn features items type params m bytes left = StopsInRuns features items params bytes left ⊎ StopsInCode features items type params m bytes left

-- the same from the start of a body; its function's type has this index
abbrev pub StopsInBody : {R : Type 0} → Features → ModuleItems R → ℕ → List ℕ → ℕ → Type 0
StopsInBody features items index bytes left =
    StopsIn features items (frame_type items (Indexed index)) (map parameter (frame_type items (Indexed index)).params) (at_start index) bytes left
