-- Modules made of a configuration and a seed, and written into a caller's buffer.
use Rattle.std.specs.Prelude.{◌≡◌, ℕ, List, length, nat_le, if◌then◌else◌, Result, Ok, Err, IfOk, IfErr}
use Rattle.wasm_gen_config.specs.declared.config_error.ConfigError.{ConfigError}
use Rattle.wasm_gen_sessions.specs.Asked.{MakesLists, RefusesRightly}
use Rattle.wasm_gen_sessions.specs.Generate.{IsGeneratedFrom, IsCause}
use Rattle.wasm_gen_sessions.specs.declared.error.GenerateError.{GenerateError}
use Rattle.wasm_gen_c_api.specs.Buffers.{buffer_with}
use Rattle.wasm_gen_c_api.specs.Codes.{refusal_code, short_buffer, text_code, yes}
use Rattle.wasm_gen_c_api.specs.ConfigTexts.{IsRead}
use Rattle.wasm_spec.specs.Features.{Features}
use Rattle.wasm_smith.specs.Config.{AreFeaturesOf, sanitized}
use Rattle.wasm_smith.specs.Defaults.{IsDefault}
use Rattle.wasm_smith.specs.Parts.{Config}

-- The features under which what the default configuration makes is valid: the default ones but threads and several memories.
abbrev pub generated_features : Features
generated_features = 0x3f6ff

-- the generator's answer to a seed, for a configuration
pub record IsAnswer (c : Config) (seed : List ℕ) (answer : Result (List ℕ) GenerateError) : Type 0 where
  pub generated : IfOk answer (IsGeneratedFrom (sanitized c) seed)
  pub lists : IfOk answer (MakesLists (sanitized c) seed)
  pub cause : IfErr answer (IsCause (sanitized c) seed)
  pub rightly : IfErr answer (RefusesRightly (sanitized c) seed)

-- its code, for a buffer like this
abbrev pub code_of : Result (List ℕ) GenerateError → List ℕ → ℕ
code_of (Ok bytes) buffer = if nat_le (length bytes) (length buffer) then yes else short_buffer
code_of (Err e) buffer = refusal_code e

-- how many bytes the module has, if there is one
abbrev pub length_of : Result (List ℕ) GenerateError → ℕ
length_of (Ok bytes) = length bytes
length_of (Err e) = 0

-- the buffer after it
abbrev pub buffer_after : Result (List ℕ) GenerateError → List ℕ → List ℕ
buffer_after (Ok bytes) buffer = buffer_with bytes buffer
buffer_after (Err e) buffer = buffer

-- what the generator returns has a code and a length, and a module that fits is written
pub record IsWritten (c : Config) (seed old new : List ℕ) (len code : ℕ) : Type 0 where
  pub answer : Result (List ℕ) GenerateError
  pub answered : IsAnswer c seed answer
  pub told : code ≡ code_of answer old
  pub needed : len ≡ length_of answer
  pub buffer : new ≡ buffer_after answer old

-- nothing is made, since there is no configuration
pub record IsUnread (e : ConfigError) (old new : List ℕ) (len code : ℕ) : Type 0 where
  pub told : code ≡ text_code e
  pub no_length : len ≡ 0
  pub untouched : new ≡ old

-- The module is made by the configuration that the text gives; where the text gives none, nothing is made.
pub record IsMade (text seed old new : List ℕ) (len code : ℕ) : Type 0 where
  pub config : Result Config ConfigError
  pub read : IsRead text config
  pub made : IfOk config (λ c. IsWritten c seed old new len code)
  pub refused : IfErr config (λ e. IsUnread e old new len code)

-- the module is made by the default configuration
pub record IsMadeByDefault (seed old new : List ℕ) (len code : ℕ) : Type 0 where
  pub config : Config
  pub is_default : IsDefault config
  pub features : AreFeaturesOf (sanitized config) generated_features
  pub written : IsWritten config seed old new len code
