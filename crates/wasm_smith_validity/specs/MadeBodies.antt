-- The bodies of a made module. Core Specification 3.0, Binary Format, Modules, "Code Section".
use Rattle.std.specs.Prelude.{◌≡◌, ◌≢◌, ⊤, ℕ, ◌<◌, Bool, List, [], ◌∷◌, ◌++◌, replicate, slice_get, Option, Some, None, is_some}
use Rattle.std.specs.List.{AllZip, flat_map}
use Rattle.std.specs.Option.{option_and_then}
use Rattle.wasm_bodies.specs.Bodies.{Run, IsRun}
use Rattle.wasm_spec.specs.Bytes.{IsList}
use Rattle.wasm_smith_validity.specs.Made.{MadeBody}

-- runs of locals of which none is empty and no two neighbours have one type
abbrev pub AreMerged : List Run → Type 0
AreMerged [] = ⊤
AreMerged (run ∷ []) = 0 < run.count
AreMerged (run ∷ next ∷ runs) = (0 < run.count) × (run.type ≢ next.type) × AreMerged (next ∷ runs)

-- what follows the locals: the one operator `unreachable` and the end, or raw bytes
abbrev pub code_of : Option (List ℕ) → List ℕ
code_of None = 0x00 ∷ 0x0b ∷ []
code_of (Some raw) = raw

-- The bytes are a body with these locals and this code.
pub record IsMadeBody (made : MadeBody) (body : List ℕ) : Type 0 where
  pub runs : List Run
  pub encoding : List ℕ
  pub is : body ≡ encoding ++ code_of made.raw
  pub declared : IsList IsRun encoding runs
  pub merged : AreMerged runs
  pub locals_are : flat_map (λ run. replicate run.count run.type) runs ≡ made.locals

abbrev pub AreMadeBodies : List MadeBody → List (List ℕ) → Type 0
AreMadeBodies made bodies = AllZip IsMadeBody made bodies

-- the body at a place has raw bytes, which may be none, or those of `unreachable`
abbrev pub is_raw_at : List MadeBody → ℕ → Bool
is_raw_at bodies place = is_some (option_and_then (λ body. body.raw) (slice_get bodies place))
