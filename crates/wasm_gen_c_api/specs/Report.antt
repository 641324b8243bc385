-- Reports on modules, written into a caller's buffer.
use Rattle.std.specs.Prelude.{◌≡◌, ◌==◌, ◌<◌, ◌≤◌, ◌^◌, ⊤, ℕ, List, [], ◌++◌, codes, length, nat_le, if◌then◌else◌, Option, Some, None, Result, Ok, Err}
use Rattle.wasm_spec.specs.Features.{Features}
use Rattle.wasmparser_error.specs.Error.{kind_name}
use Rattle.wasmparser_error.specs.declared.error.Error.{Error}
use Rattle.wasmparser_error.specs.declared.error.ErrorKind.{ErrorKind}
use Rattle.wasmparser_validator.specs.KnownSpaces.{KnownModule, spaces_known}
use Rattle.wasmparser_validator.specs.Validation.{IsValidated}
use Rattle.wasm_gen_c_api.specs.Buffers.{buffer_with}
use Rattle.wasm_gen_c_api.specs.Codes.{kind_code, memory, short_buffer, unknown_features}
use Rattle.wasm_gen_c_api.specs.Verdicts.{verdict_of}
use Rattle.wasm_gen_view.specs.TypesText.{IsViewText}

-- the line of a refusal
abbrev pub refusal_line : ErrorKind → List ℕ
refusal_line kind = codes "no " ++ kind_name kind ++ codes "\n"

-- the report on a refusal: its line, or none where memory ran out
abbrev pub refusal_report : ErrorKind → Option (List ℕ)
refusal_report kind = if kind_code kind == memory then None else Some (refusal_line kind)

-- It is the report on a validator's answer: the text of a valid module's view, for which memory may run out, or the report on a refusal.
abbrev pub IsReport : Result KnownModule Error → Option (List ℕ) → Type 0
IsReport (Ok known) (Some text) = IsViewText (spaces_known known) text
IsReport (Ok known) None = ⊤
IsReport (Err e) report = report ≡ refusal_report e.kind

-- the code of a report on this verdict, for a buffer like this: the kind of the verdict where the report fits
abbrev pub report_code : Result KnownModule Error → Option (List ℕ) → List ℕ → ℕ
report_code answer (Some text) buffer = if nat_le (length text) (length buffer) then (verdict_of answer).kind else short_buffer
report_code answer None buffer = memory

-- how many bytes the report has, if there is one
abbrev pub report_length : Option (List ℕ) → ℕ
report_length (Some text) = length text
report_length None = 0

-- the buffer after it
abbrev pub buffer_after : Option (List ℕ) → List ℕ → List ℕ
buffer_after (Some text) buffer = buffer_with text buffer
buffer_after None buffer = buffer

-- the report on a verdict has a code and a length, and is written where it fits
pub record IsToldOf (answer : Result KnownModule Error) (old new : List ℕ) (len code : ℕ) : Type 0 where
  pub report : Option (List ℕ)
  pub is_report : IsReport answer report
  pub told : code ≡ report_code answer report old
  pub needed : len ≡ report_length report
  pub buffer : new ≡ buffer_after report old

-- so is that on what a validator answers that holds no types yet
pub record IsReported (features : Features) (bytes old new : List ℕ) (len code : ℕ) : Type 0 where
  pub answer : Result KnownModule Error
  pub validated : IsValidated features [] bytes answer
  pub told : IsToldOf answer old new len code

-- nothing is reported, with this code
pub record IsUnreported (kind : ℕ) (old new : List ℕ) (len code : ℕ) : Type 0 where
  pub told : code ≡ kind
  pub no_length : len ≡ 0
  pub untouched : new ≡ old

-- the same under features as a number, of which each bit has to be a feature
pub record IsReportOf (features : ℕ) (bytes old new : List ℕ) (len code : ℕ) : Type 0 where
  pub known : features < 2 ^ 22 → IsReported features bytes old new len code
  pub unknown : 2 ^ 22 ≤ features → IsUnreported unknown_features old new len code
