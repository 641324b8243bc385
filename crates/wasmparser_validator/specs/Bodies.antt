-- Validation of the bodies of a module: a means of proof.
use Rattle.std.specs.Prelude.{◌≡◌, ◌<◌, ℕ, List, length, Some, is_some, true, Result, Ok, Err, slice_get}
use Rattle.wasm_bodies.specs.BodyContext.{ModuleItems, func_at}
use Rattle.wasm_core_read.specs.Input.{Input}
use Rattle.wasm_spec.specs.Features.{Features}
use Rattle.wasm_spec.specs.Types.{FuncType}
use Rattle.wasm_validity.specs.Context.{Context}
use Rattle.wasm_validity.specs.DefinedTypes.{func_type_at}
use Rattle.wasmparser_bodies.specs.BodyAnswers.{IsBodyValidated}
use Rattle.wasmparser_error.specs.declared.error.Error.{Error}
use Rattle.wasmparser_types.specs.Index.{Index}

-- each function of the module's own has a function type
abbrev pub AreNamed : Context → Type 0
AreNamed cx = (place index : ℕ) → slice_get cx.own_functions place ≡ Some index → is_some (func_type_at cx.types index) ≡ true

-- A body of the function of the module's own at a place is validated so, by what bodies may ask with ids.
pub record ValidatesOwn (features : Features) (items : ModuleItems Index) (cx : Context) (place : ℕ) (body : Input) (answer : Result (Unit {0}) Error) : Type 0 where
  pub index : ℕ
  pub type : FuncType Index
  pub indexed : slice_get cx.own_functions place ≡ Some index
  pub named : func_at items index ≡ Some type
  pub validated : IsBodyValidated features items type body.rest body.position answer

-- the same of the body that is there
pub record ValidatedAt (features : Features) (items : ModuleItems Index) (cx : Context) (bodies : List Input) (answer : Result (Unit {0}) Error) (place : ℕ) : Type 0 where
  pub body : Input
  pub has : slice_get bodies place ≡ Some body
  pub own : ValidatesOwn features items cx place body answer

-- the result of a call that validates bodies: each is fine, or one is refused
abbrev pub ValidatesBodies : Features → ModuleItems Index → Context → List Input → Result (Unit {0}) Error → Type 0
ValidatesBodies features items cx bodies (Ok x) = (place : ℕ) → place < length cx.own_functions → ValidatedAt features items cx bodies (Ok x) place
ValidatesBodies features items cx bodies (Err e) = (place : ℕ) × (place < length cx.own_functions) × ValidatedAt features items cx bodies (Err e) place
