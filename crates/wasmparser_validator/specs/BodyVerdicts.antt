-- The verdict on the bytes of a module's body, in terms of the rules on modules.
use Rattle.std.specs.Prelude.{◌≡◌, ◌≤◌, ◌⊎◌, ◌+◌, ℕ, List, length, Result, IfErr, OnOk}
use Rattle.wasm_core_types.specs.declared.limits.Limit.TheVariants as core
use Rattle.wasm_spec.specs.Features.{Features}
use Rattle.wasm_spec.specs.Syntax.{Section}
use Rattle.wasm_spec.specs.Types.{FuncType}
use Rattle.wasm_validity.specs.Modules.{IsTypedBody, IsBodyPast, IsOtherBody, IsBrokenBody}
use Rattle.wasmparser_error.specs.declared.error.Error.{Error}
use Rattle.wasmparser_error.specs.declared.error.ErrorKind.TheVariants as kinds

-- The answer to the bytes of a body, for a function of a type over the module's type indexes. The first of the bytes stands at a position of the input.
pub record IsBodyJudged (features : Features) (sections : List Section) (type : FuncType ℕ) (bytes : List ℕ) (position : ℕ) (answer : Result (Unit {0}) Error) : Type 0 where
  -- a yes is right, and each body gets one, unless memory runs out
  pub right : OnOk answer (IsTypedBody features sections type bytes)
  pub complete : IfErr answer (λ e. IsTypedBody features sections type bytes → e.kind ≡ kinds.Memory)
  -- each refusal comes only with its cause, and there is one alone
  pub operator : IfErr answer (λ e. e.kind ≡ kinds.Operator → IsOtherBody features sections type bytes)
  pub limit : IfErr answer (λ e. e.kind ≡ kinds.Limit core.Locals → IsBodyPast features sections type bytes)
  pub broken : IfErr answer (λ e. e.kind ≡ kinds.Body → IsBrokenBody features sections type bytes)
  pub others : IfErr answer (λ e. (e.kind ≡ kinds.Operator) ⊎ (e.kind ≡ kinds.Limit core.Locals) ⊎ (e.kind ≡ kinds.Body) ⊎ (e.kind ≡ kinds.Memory))
  -- the place is among the body's bytes, or at their end
  pub from : IfErr answer (λ e. position ≤ e.offset)
  pub to : IfErr answer (λ e. e.offset ≤ position + length bytes)
