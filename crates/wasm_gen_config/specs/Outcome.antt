-- Outcomes of reading a text as a configuration.
use Rattle.std.specs.Prelude.{◌≡◌, ℕ, List, Option, Some, None, IsUtf8, string_bytes, ⊤}
use Rattle.toml.specs.Data.{Members}
use Rattle.toml.specs.Errors.{IsMemory, IsWithin, IsBlank}
use Rattle.toml.specs.Parse.{parse_document}
use Rattle.wasm_smith_config.specs.declared.config.Config.{Config}
use Rattle.wasm_gen_config.specs.Settings.{IsGiven, first_bad}
use Rattle.wasm_gen_config.specs.declared.bad_key.BadKey.{BadKey}
use Rattle.wasm_gen_config.specs.declared.bad_key.Takes.{Takes}
use Rattle.wasm_gen_config.specs.declared.config_error.ConfigError.{ConfigError}
use Rattle.wasm_gen_config.specs.declared.config_error.ConfigError.TheVariants.{Text, Key, Memory}

-- the key that the code names, and what its field takes
abbrev pub named : BadKey → List ℕ × Option Takes
named bad = (bad.key.now, bad.takes)

-- a configuration that a text gives: it is UTF-8 and TOML, and its table has no bad key and gives the configuration
pub record IsGivenByText (text : List ℕ) (c : Config) : Type 0 where
  pub is_utf8 : IsUtf8 text
  pub table : Members
  pub is_table : parse_document text ≡ Some table
  pub is_good : first_bad table ≡ None
  pub is_given : IsGiven table c

-- a text that is TOML with a bad key, the first of which is this one
pub record HasBadKey (text key : List ℕ) (takes : Option Takes) : Type 0 where
  pub is_utf8 : IsUtf8 text
  pub table : Members
  pub is_table : parse_document text ≡ Some table
  pub is_bad : first_bad table ≡ Some (key, takes)

-- the cause by which a text gives no configuration; memory doesn't run out over a blank text
abbrev pub IsCauseIn : List ℕ → ConfigError → Type 0
IsCauseIn text (Text cause) = (IsUtf8 text → parse_document text ≡ None) × IsWithin text cause × ¬ IsMemory cause
IsCauseIn text (Key key takes) = HasBadKey text (string_bytes key) takes
IsCauseIn text Memory = ¬ IsBlank text

-- the error of a bad key: it has this key, unless memory ran out
abbrev pub Owns : BadKey → ConfigError → Type 0
Owns bad (Text cause) = ⊥
Owns bad (Key key takes) = (string_bytes key, takes) ≡ named bad
Owns bad Memory = ⊤
