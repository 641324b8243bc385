-- The locals of a body, as they are written (Core Specification 3.0, Binary Format, Modules, "Code Section"): runs of locals of one type.
use Rattle.std.specs.Prelude.{◌≡◌, ℕ, ◌<◌, ◌≤◌, ◌^◌, ⊤, List, [], ◌∷◌, ◌++◌, length, replicate}
use Rattle.std.specs.List.{AllByRecursion, flat_map}
use Rattle.wasm_bodies.specs.Bodies.{Run}
use Rattle.wasm_spec.specs.Shortest.{unsigned_encoding, list_encoding}
use Rattle.wasm_spec.specs.TypeEncodings.{val_encoding}
use Rattle.wasm_core_types.specs.CoreTypes.{val_type}
use Rattle.wasm_core_types.specs.declared.types.ValType.{ValType}

-- how many locals, and of which type
unfoldable pub run_encoding : Run → List ℕ
run_encoding run = unsigned_encoding run.count ++ val_encoding run.type

abbrev pub locals_encoding : List Run → List ℕ
locals_encoding runs = list_encoding run_encoding runs

-- a run of the code
abbrev pub run_of : ℕ × ValType → Run
run_of run = record { count = run.0; type = val_type run.1 }

-- what the runs stand for, one after the other
abbrev pub expansion : {A : Type 0} → List (ℕ × A) → List A
expansion runs = flat_map (λ run. replicate run.0 run.1) runs

-- the first run, if there is one, is of another type
abbrev pub BeginsWithOther : {A : Type 0} → A → List (ℕ × A) → Type 0
BeginsWithOther type [] = ⊤
BeginsWithOther type (run ∷ runs) = ¬ (type ≡ run.1)

-- no two neighbours are of one type
abbrev pub AreApart : {A : Type 0} → List (ℕ × A) → Type 0
AreApart [] = ⊤
AreApart (run ∷ runs) = BeginsWithOther run.1 runs × AreApart runs

-- The runs of equal neighbours: none is empty, and none could be longer.
pub record AreRunsOf {A : Type 0} (types : List A) (runs : List (ℕ × A)) : Type 0 where
  pub expand : expansion runs ≡ types
  pub some : AllByRecursion (λ run. 1 ≤ run.0) runs
  pub apart : AreApart runs

-- Runs that can be written: their number is one of 32 bits, and so is that of each run's locals.
pub record AreWritable {A : Type 0} (runs : List (ℕ × A)) : Type 0 where
  pub few : length runs < 2 ^ 32
  pub short : AllByRecursion (λ run. run.0 < 2 ^ 32) runs

-- Types whose runs can be written, and types whose runs can't.
abbrev pub FitLength : {A : Type 0} → List A → Type 0
FitLength {A} types = (runs : List (ℕ × A)) × AreRunsOf types runs × AreWritable runs

abbrev pub PassLength : {A : Type 0} → List A → Type 0
PassLength {A} types = (runs : List (ℕ × A)) × AreRunsOf types runs × ¬ (AreWritable runs)
