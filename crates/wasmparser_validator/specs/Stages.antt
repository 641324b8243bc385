-- The stages of a validator.
use Rattle.std.specs.Coded.{Coded, code_by, coded_ℕ}
use Rattle.std.specs.Prelude.{◌≡◌, ℕ, zero, suc, Bool, true, false, refl}
use Rattle.wasmparser_validator.specs.declared.validator.Stage.{Stage}
use Rattle.wasmparser_validator.specs.declared.validator.Stage.TheVariants as stages

abbrev pub stage_number : Stage → ℕ
stage_number stages.Header = 0
stage_number stages.Sections = 1
stage_number stages.Code = 2
stage_number stages.End = 3
stage_number stages.Failed = 4

abbrev pub stage_numbered : ℕ → Stage
stage_numbered zero = stages.Header
stage_numbered (suc zero) = stages.Sections
stage_numbered (suc (suc zero)) = stages.Code
stage_numbered (suc (suc (suc zero))) = stages.End
stage_numbered n = stages.Failed

pub stage_again : (stage : Stage) → stage_numbered (stage_number stage) ≡ stage
stage_again stages.Header = refl
stage_again stages.Sections = refl
stage_again stages.Code = refl
stage_again stages.End = refl
stage_again stages.Failed = refl

abbrev pub stage_code : Coded Stage
stage_code = code_by ℕ coded_ℕ stage_number stage_numbered stage_again

-- another module may begin
abbrev pub may_begin : Stage → Bool
may_begin stages.Header = true
may_begin stages.End = true
may_begin stage = false
