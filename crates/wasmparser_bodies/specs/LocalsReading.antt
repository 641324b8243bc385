-- Validating the locals of a body from its bytes: a means of proof, which laws tie to the rules on bodies.
use Rattle.std.specs.Prelude.{◌≡◌, ℕ, zero, suc, ◌+◌, List, ◌++◌, length, replicate, Option, Some, None, nat_le, if◌then◌else◌}
use Rattle.wasm_bodies.specs.Bodies.{Run, declared_local, AreLocals, in_function}
use Rattle.wasm_bodies.specs.BodyContext.{ModuleItems, Local, written}
use Rattle.wasm_core_read.specs.Reading.{ReadingOf, unsigned_at, seen_at, pair_at}
use Rattle.wasm_core_read.specs.TypeReading.{val_type_at}
use Rattle.wasm_spec.specs.Features.{Features}
use Rattle.wasm_spec.specs.Limits as limits
use Rattle.wasm_spec.specs.Types.{ValType, FuncType}

-- the outcomes of bytes
pub data LocalsOutcome (R : Type 0) : Type 0 where
  -- these locals, the parameters first, and the bytes after them
  Locals : List (Local R) → List ℕ → LocalsOutcome R
  -- there are too many
  TooMany : LocalsOutcome R
  -- no locals, for another reason
  NoLocals : LocalsOutcome R

unfoldable pub run_at : ReadingOf Run
run_at = seen_at (λ x. record { count = x.0; type = x.1 }) (pair_at (unsigned_at 32) val_type_at)

-- so many locals more of a type, if it stands for one
abbrev pub with_locals : {R : Type 0} → List (Local R) → ℕ → Option (ValType R) → (List (Local R) → LocalsOutcome R) → LocalsOutcome R
with_locals locals count None others = NoLocals
with_locals locals count (Some type) others =
    if nat_le (length locals + count) (limits.most limits.Locals) then others (locals ++ replicate count (declared_local type)) else TooMany

-- this reads as the next run, if one does
abbrev pub with_run : {R : Type 0} → Features → ModuleItems R → List (Local R) → Option (Run × List ℕ) → (List (Local R) → List ℕ → LocalsOutcome R) → LocalsOutcome R
with_run features items locals None others = NoLocals
with_run features items locals (Some read) others = with_locals locals read.0.count (written features items read.0.type) (λ more. others more read.1)

-- so many runs after these locals
unfoldable pub runs_outcome : {R : Type 0} → Features → ModuleItems R → ℕ → List (Local R) → List ℕ → LocalsOutcome R
runs_outcome features items zero locals bytes = Locals locals bytes
runs_outcome features items (suc n) locals bytes = with_run features items locals (run_at bytes) (λ more rest. runs_outcome features items n more rest)

-- this reads as the number of runs, if one does
abbrev pub with_count : {R : Type 0} → Features → ModuleItems R → List (Local R) → Option (ℕ × List ℕ) → LocalsOutcome R
with_count features items params None = NoLocals
with_count features items params (Some read) =
    if nat_le (length params) (limits.most limits.Locals) then runs_outcome features items read.0 params read.1 else TooMany

-- the locals that a body declares after these parameters
unfoldable pub locals_outcome : {R : Type 0} → Features → ModuleItems R → List (Local R) → List ℕ → LocalsOutcome R
locals_outcome features items params bytes = with_count features items params (unsigned_at 32 bytes)

-- ---- what they mean

-- the bytes begin with runs that declare the locals of a function, whose parameters come first
pub record Declares {R : Type 0} (features : Features) (items : ModuleItems R) (type : FuncType R) (bytes : List ℕ) (locals : List (Local R)) (rest : List ℕ) : Type 0 where
  pub runs : List Run
  pub encoding : List ℕ
  pub begins : bytes ≡ encoding ++ rest
  pub are : AreLocals features items type encoding runs
  pub declares : locals ≡ (in_function features items type runs).locals
