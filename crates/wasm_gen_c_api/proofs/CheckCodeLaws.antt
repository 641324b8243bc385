-- The codes that the bytes of a module and features come to.
use Rattle.std.proofs.Common.{◌≡◌, ◌⊎◌, ◌==◌, ◌<◌, ◌≤◌, ◌^◌, ℕ, Bool, true, false, List, [], length, nat_le, Option, Some, None, Result, Ok, Err, IfErr, refl, sym, subst, ap, ◌∙◌, inl, inr, if◌then◌else◌}
use Rattle.std.proofs.lemmas.Bool.{cases_lt}
use Rattle.std.specs.List.{list_any}
use Rattle.wasm_spec.specs.Features.{Features}
use Rattle.wasmparser_error.specs.declared.error.Error.{Error}
use Rattle.wasmparser_error.specs.declared.error.ErrorKind.{ErrorKind}
use Rattle.wasmparser_error.specs.declared.error.ErrorKind.TheVariants as kinds
use Rattle.wasmparser_validator.specs.KnownSpaces.{KnownModule}
use Rattle.wasmparser_validator.specs.Validation.{IsNamed, IsValidated}
use Rattle.wasm_gen_c_api.specs.Codes.{codes_of_checking, kind_code, memory, short_buffer, unknown_features}
use Rattle.wasm_gen_c_api.specs.Report.{IsReportOf, IsReported, IsToldOf, report_code}
use Rattle.wasm_gen_c_api.specs.Verdicts.{IsChecked, IsJudged, verdict_of}
use Rattle.wasm_gen_c_api.specs.declared.verdict.Verdict.{Verdict}

abbrev IsAmong : ℕ → Type 0
IsAmong code = list_any (λ other. code == other) codes_of_checking ≡ true

-- a refusal by a validator that holds no types
refused_among : (kind : ErrorKind) → (kind ≡ kinds.Total → ⊥) → IsNamed kind → IsAmong (kind_code kind)
refused_among kinds.Malformed not_full named = refl
refused_among kinds.Invalid not_full named = refl
refused_among (kinds.Limit passed) not_full named = refl
refused_among kinds.Operator not_full named = refl
refused_among kinds.Body not_full named = refl
refused_among kinds.Total not_full named = absurd (not_full refl)
refused_among kinds.Order not_full named = absurd named
refused_among kinds.Failed not_full named = absurd named
refused_among kinds.Memory not_full named = refl

verdict_among : (features : Features) (bytes : List ℕ) (answer : Result KnownModule Error) → IsValidated features [] bytes answer → IsAmong (verdict_of answer).kind
verdict_among features bytes (Ok known) validated = refl
verdict_among features bytes (Err e) validated = refused_among e.kind (validated.first refl) validated.others

judged_among : (features : Features) (bytes : List ℕ) (verdict : Verdict) → IsJudged features bytes verdict → IsAmong verdict.kind
judged_among features bytes verdict judged =
    subst (λ (v : Verdict). IsAmong v.kind) (sym judged.same) (verdict_among features bytes judged.answer judged.validated)

checked_among : (features : ℕ) (bytes : List ℕ) (verdict : Verdict) → (features < 2 ^ 22) ⊎ (2 ^ 22 ≤ features) → IsChecked features bytes verdict → IsAmong verdict.kind
checked_among features bytes verdict (inl small) checked = judged_among features bytes verdict (checked.known small)
checked_among features bytes verdict (inr large) checked = subst (λ (v : Verdict). IsAmong v.kind) (sym (checked.unknown large)) refl

pub checked_codes : (features : ℕ) (bytes : List ℕ) (verdict : Verdict) → IsChecked features bytes verdict → IsAmong verdict.kind
checked_codes features bytes verdict checked = checked_among features bytes verdict (cases_lt features (2 ^ 22)) checked

-- ---- reports

fitting_among : (fits : Bool) (code : ℕ) → IsAmong code
    → ((if fits then code else short_buffer) ≡ short_buffer) ⊎ IsAmong (if fits then code else short_buffer)
fitting_among true code known = inr known
fitting_among false code known = inl refl

report_among : (answer : Result KnownModule Error) (report : Option (List ℕ)) (buffer : List ℕ) → IsAmong (verdict_of answer).kind
    → (report_code answer report buffer ≡ short_buffer) ⊎ IsAmong (report_code answer report buffer)
report_among answer (Some text) buffer known = fitting_among (nat_le (length text) (length buffer)) (verdict_of answer).kind known
report_among answer None buffer known = inr refl

reported_among : (features : Features) (bytes old new : List ℕ) (len code : ℕ) → IsReported features bytes old new len code → (code ≡ short_buffer) ⊎ IsAmong code
reported_among features bytes old new len code reported =
    subst (λ code. (code ≡ short_buffer) ⊎ IsAmong code) (sym reported.told.told)
    (report_among reported.answer reported.told.report old (verdict_among features bytes reported.answer reported.validated))

report_of_among : (features : ℕ) (bytes old new : List ℕ) (len code : ℕ) → (features < 2 ^ 22) ⊎ (2 ^ 22 ≤ features) → IsReportOf features bytes old new len code
    → (code ≡ short_buffer) ⊎ IsAmong code
report_of_among features bytes old new len code (inl small) is = reported_among features bytes old new len code (is.known small)
report_of_among features bytes old new len code (inr large) is = inr (subst IsAmong (sym (is.unknown large).told) refl)

pub reported_codes : (features : ℕ) (bytes old new : List ℕ) (len code : ℕ) → IsReportOf features bytes old new len code → (code ≡ short_buffer) ⊎ IsAmong code
reported_codes features bytes old new len code is = report_of_among features bytes old new len code (cases_lt features (2 ^ 22)) is
