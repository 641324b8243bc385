-- The verdict on any bytes.
use Rattle.std.specs.Prelude.{◌≡◌, ◌≢◌, ◌≤◌, ◌⊎◌, ⊤, ℕ, false, List, [], length, Result, IfOk, IfErr}
use Rattle.wasm_core_types.specs.declared.limits.Limit.TheVariants as limits
use Rattle.wasm_core_types.specs.Limits as core
use Rattle.wasm_core_types.specs.declared.limits.Limit.{Limit}
use Rattle.wasm_spec.specs.Features.{Features, CompactImports, has}
use Rattle.wasm_spec.specs.Grammar.{IsModule}
use Rattle.wasm_spec.specs.Syntax.{Section}
use Rattle.wasm_spec.specs.Trees.{DefType}
use Rattle.wasm_validity.specs.Context.{at_first}
use Rattle.wasm_validity.specs.Entries.{entries_of}
use Rattle.wasm_validity.specs.IndexSpaces.{spaces_of}
use Rattle.wasm_validity.specs.Modules.{IsValid, HasBody, IsBodyPast, IsOtherBody, IsBrokenBody}
use Rattle.wasm_validity.specs.Validity.{BeginsPast, BeginsInvalid}
use Rattle.wasmparser_error.specs.declared.error.Error.{Error}
use Rattle.wasmparser_error.specs.declared.error.ErrorKind.{ErrorKind}
use Rattle.wasmparser_error.specs.declared.error.ErrorKind.TheVariants as kinds
use Rattle.wasmparser_module_state.specs.History.{EnterAll, grows, held}
use Rattle.wasmparser_module_state.specs.State.{features_of}
use Rattle.wasmparser_validator.specs.Sections.{BeginsWithoutRoom}
use Rattle.wasmparser_validator.specs.KnownSpaces.{KnownModule, spaces_known}

-- the bytes read as a module that is valid under the features
pub record IsAccepted (features : Features) (bytes : List ℕ) (sections : List Section) : Type 0 where
  pub reads : IsModule (has features CompactImports) bytes sections
  pub valid : IsValid features sections

-- The kinds of refusals that a validator gives; it gives no other.
abbrev pub IsNamed : ErrorKind → Type 0
IsNamed kinds.Total = ⊤
IsNamed kinds.Malformed = ⊤
IsNamed kinds.Invalid = ⊤
IsNamed (kinds.Limit l) = ⊤
IsNamed kinds.Operator = ⊤
IsNamed kinds.Body = ⊤
IsNamed kinds.Memory = ⊤
IsNamed _ = ⊥

-- A validator that has not failed, and whose list holds these types, answers so to any bytes.
pub record IsValidated (features : Features) (old_held : List DefType) (bytes : List ℕ) (verdict : Result KnownModule Error) : Type 0 where
  -- a yes is right, and shows the index spaces of the module and its exports; its ids stand for the types that the list holds
  -- after the module's groups, in a copy that doesn't grow
  pub right : IfOk verdict (λ known. (sections : List Section) × IsAccepted features bytes sections × (spaces_known known ≡ spaces_of sections) × EnterAll features at_first old_held (entries_of sections) (held known.state)
      × (features_of known.state ≡ features) × (grows known.state ≡ false))
  -- a module that is to be accepted is refused only when out of memory, or where the list has no room; that memory did run out is left to tests
  pub complete : (sections : List Section) → IsAccepted features bytes sections → IfErr verdict (λ e. (e.kind ≡ kinds.Memory) ⊎ (e.kind ≡ kinds.Total))
  -- bytes are malformed only where no module reads
  pub malformed : IfErr verdict (λ e. e.kind ≡ kinds.Malformed → (sections : List Section) → ¬ (IsModule (has features CompactImports) bytes sections))
  -- a module is invalid only where what its bytes say at their front breaks a rule that is no limit, no grammar and no matter of bodies
  pub invalid : IfErr verdict (λ e. e.kind ≡ kinds.Invalid → BeginsInvalid features bytes)
  -- a limit is named only where what the bytes say at their front passes it; that of locals only where all else is fine and the locals of a body
  -- pass it
  pub limit : IfErr verdict (λ e. (l : Limit) → l ≢ limits.Locals → e.kind ≡ kinds.Limit l → BeginsPast features (core.limit l) bytes)
  pub locals : IfErr verdict (λ e. e.kind ≡ kinds.Limit limits.Locals → HasBody features (IsBodyPast features) bytes)
  -- `Total` comes only where what the bytes say at their front has a group for which there is no room
  pub total : IfErr verdict (λ e. e.kind ≡ kinds.Total → BeginsWithoutRoom features old_held bytes)
  -- there is room for the first module of a list
  pub first : old_held ≡ [] → IfErr verdict (λ e. e.kind ≢ kinds.Total)
  -- bodies are refused only where all else is fine: where a code is no operator's of the table, or the body is broken otherwise
  pub operator : IfErr verdict (λ e. e.kind ≡ kinds.Operator → HasBody features (IsOtherBody features) bytes)
  pub body : IfErr verdict (λ e. e.kind ≡ kinds.Body → HasBody features (IsBrokenBody features) bytes)
  -- no other refusal comes
  pub others : IfErr verdict (λ e. IsNamed e.kind)
  -- the place of a refusal is among the bytes, or at their end; which place it is is open
  pub place : IfErr verdict (λ e. e.offset ≤ length bytes)
