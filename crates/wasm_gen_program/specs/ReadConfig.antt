-- Runs that read a configuration.
use Rattle.std.specs.Prelude.{◌≡◌, ◌≢◌, ◌≤◌, ◌⊎◌, ◌^◌, ℕ, List, length, Option, Result, IfErr, IfOk}
use Rattle.wasm_smith.specs.Parts.{Config}
use Rattle.wasm_gen_config.specs.Outcome.{IsCauseIn, IsGivenByText}
use Rattle.wasm_gen_config.specs.declared.config_error.ConfigError.{ConfigError}
use Rattle.wasm_gen_config.specs.declared.config_error.ConfigError.TheVariants.{Memory}
use Rattle.wasm_gen_program.specs.Device.{SourceView}
use Rattle.wasm_gen_program.specs.Input.{ReadsInput}
use Rattle.wasm_gen_program.specs.Transfer.{ConsumesAll}
use Rattle.wasm_gen_program.specs.declared.error.RunError.{RunError}
use Rattle.wasm_gen_program.specs.declared.error.RunError.TheVariants as runs

-- the reader's bytes are read to their end, and give this configuration, or none for this cause
pub record GivesConfig (unread left : Option (List ℕ)) (read : Result Config ConfigError) : Type 0 where
  pub text : List ℕ
  pub whole : ConsumesAll unread left text
  pub within : length text ≤ 2 ^ 28
  pub given : IfOk read (IsGivenByText text)
  pub refused : IfErr read (IsCauseIn text)
  pub is_cause : IfErr read (λ e. e ≢ Memory)

-- a configuration is read
pub record ReadsConfig (unread left : SourceView) (result : Result (Result Config ConfigError) RunError) : Type 0 where
  pub config : IfOk result (GivesConfig unread.remaining left.remaining)
  pub kinds : IfErr result (λ e. (e ≡ runs.Read) ⊎ (e ≡ runs.TooLong) ⊎ (e ≡ runs.Memory))
  pub input : ReadsInput unread left result
