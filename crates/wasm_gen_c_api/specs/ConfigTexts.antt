-- Configurations that C hands in as text.
use Rattle.std.specs.Prelude.{◌≡◌, ◌<◌, ◌^◌, ℕ, List, Result, Ok, Err, IfOk, IfErr}
use Rattle.wasm_gen_config.specs.Outcome.{IsCauseIn, IsGivenByText}
use Rattle.wasm_gen_config.specs.declared.config_error.ConfigError.{ConfigError}
use Rattle.wasm_gen_c_api.specs.Codes.{text_code, yes}
use Rattle.wasm_smith.specs.Config.{AreFeaturesOf, sanitized}
use Rattle.wasm_smith.specs.Parts.{Config}

-- a text gives this configuration, or none for this cause
pub record IsRead (text : List ℕ) (config : Result Config ConfigError) : Type 0 where
  pub given : IfOk config (IsGivenByText text)
  pub refused : IfErr config (IsCauseIn text)

-- the code for a text that gives a configuration, or none
abbrev pub code_of_reading : Result Config ConfigError → ℕ
code_of_reading (Ok c) = yes
code_of_reading (Err e) = text_code e

-- The features that the modules of a text's configuration may use are returned; where the text gives none, there are none.
pub record AreTold (text : List ℕ) (features code : ℕ) : Type 0 where
  pub config : Result Config ConfigError
  pub read : IsRead text config
  pub told : code ≡ code_of_reading config
  pub used : IfOk config (λ c. AreFeaturesOf (sanitized c) features)
  pub no_further_bits : features < 2 ^ 22
  pub none : IfErr config (λ e. features ≡ 0)
