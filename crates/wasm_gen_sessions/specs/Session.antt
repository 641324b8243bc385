-- The results of a session's calls.
use Rattle.std.specs.Prelude.{◌≡◌, ℕ, List, true, false, not, Result, IfOk, IsErrAnd}
use Rattle.wasmparser_validator.specs.Validation.{IsValidated}
use Rattle.wasmparser_error.specs.declared.error.Error.{Error}
use Rattle.wasmparser_error.specs.declared.error.ErrorKind.TheVariants.{Failed}
use Rattle.wasmparser_validator.specs.Judges.{GoesOn}
use Rattle.wasmparser_validator.specs.KnownSpaces.{KnownModule}
use Rattle.wasm_gen_sessions.specs.History.{History}

-- what a session answers to the bytes of a module, and how it goes on
pub record Checks (old : History) (bytes : List ℕ) (verdict : Result KnownModule Error) (new : History) : Type 0 where
  -- a validator that has not failed validates the bytes under the session's features, by its list of types
  pub validated : old.has_failed ≡ false → IsValidated old.features old.held bytes verdict
  -- it fails by some answers, and then its list holds nothing; else the list goes on
  pub goes_on : old.has_failed ≡ false → GoesOn old.features old.held bytes verdict (not new.has_failed) new.held
  -- what is shown bears the validator's name
  pub named : IfOk verdict (λ known. known.id ≡ old.id)
  -- a validator that has failed refuses whatever comes
  pub refused : old.has_failed ≡ true → IsErrAnd verdict (λ e. (e.kind ≡ Failed) × (e.offset ≡ 0))
  -- one that has failed stays as it is
  pub stays : old.has_failed ≡ true → new ≡ old
  pub features_kept : new.features ≡ old.features
  pub id_kept : new.id ≡ old.id
