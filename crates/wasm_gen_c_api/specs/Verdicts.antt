-- Verdicts for C.
use Rattle.std.specs.Prelude.{◌≡◌, ◌<◌, ◌≤◌, ◌^◌, ℕ, List, [], Result, Ok, Err}
use Rattle.wasm_spec.specs.Features.{Features}
use Rattle.wasm_spec.specs.Spaces.{Sizes}
use Rattle.wasm_validity.specs.IndexSpaces.{sizes_in}
use Rattle.wasmparser_error.specs.declared.error.Error.{Error}
use Rattle.wasmparser_validator.specs.KnownSpaces.{KnownModule, spaces_known}
use Rattle.wasmparser_validator.specs.Validation.{IsValidated}
use Rattle.wasm_gen_c_api.specs.Codes.{kind_code, unknown_features, yes}
use Rattle.wasm_gen_c_api.specs.declared.verdict.Verdict.{Verdict}

-- a refusal with this code, at this place
abbrev pub refused : ℕ → ℕ → Verdict
refused kind offset = record {
  kind = kind;
  offset = offset;
  types = 0;
  functions = 0;
  tables = 0;
  memories = 0;
  globals = 0;
  tags = 0;
  elements = 0;
  exports = 0;
}

-- a valid module, whose index spaces have these sizes
abbrev pub valid : Sizes → Verdict
valid sizes = record {
  kind = yes;
  offset = 0;
  types = sizes.types;
  functions = sizes.functions;
  tables = sizes.tables;
  memories = sizes.memories;
  globals = sizes.globals;
  tags = sizes.tags;
  elements = sizes.elements;
  exports = sizes.exports;
}

-- a validator's result as a code, an offset and sizes
abbrev pub verdict_of : Result KnownModule Error → Verdict
verdict_of (Ok known) = valid (sizes_in (spaces_known known))
verdict_of (Err e) = refused (kind_code e.kind) e.offset

-- the result is that of a validator that holds no types yet
pub record IsJudged (features : Features) (bytes : List ℕ) (told : Verdict) : Type 0 where
  pub answer : Result KnownModule Error
  pub validated : IsValidated features [] bytes answer
  pub same : told ≡ verdict_of answer

-- the same under features as a number, of which each bit has to be a feature
pub record IsChecked (features : ℕ) (bytes : List ℕ) (told : Verdict) : Type 0 where
  pub known : features < 2 ^ 22 → IsJudged features bytes told
  pub unknown : 2 ^ 22 ≤ features → told ≡ refused unknown_features 0
