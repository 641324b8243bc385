-- The line that is shown for a key which is bad.
use Rattle.std.specs.Prelude.{ℕ, ◌-◌, ◌^◌, List, ◌++◌, min, Option, Some, None, codes, string_bytes}
use Rattle.std.specs.Fmt.{decimal}
use Rattle.wasm_gen_config.specs.declared.bad_key.Takes.{Takes}
use Rattle.wasm_gen_config.specs.declared.bad_key.Takes.TheVariants.{Boolean, NumberTo, Kinds, Weights}
use Rattle.wasm_gen_config.specs.declared.config_error.ConfigError.{ConfigError}
use Rattle.wasm_gen_config.specs.declared.config_error.ConfigError.TheVariants.{Text, Key, Memory}

-- words for the values that are taken; an integer of TOML ends at 2^63 - 1
abbrev pub takes_text : Takes → List ℕ
takes_text Boolean = codes "true or false"
takes_text (NumberTo most) = codes "a whole number from 0 to " ++ decimal (min most (2 ^ 63 - 1))
takes_text Kinds = codes "a string of names of kinds, separated by commas without blanks, such as \"Numeric,Control\""
takes_text Weights = codes "a string of three numbers from 0 to 4294967295, separated by commas without blanks, such as \"90,9,1\""

-- the line of a key, beside what its field takes
abbrev pub key_line : List ℕ → Option Takes → List ℕ
key_line key (Some what) = key ++ (codes " takes " ++ takes_text what)
key_line key None = key ++ codes " isn't a field"

-- The line of an error. Of a text that isn't TOML nothing is said.
abbrev pub error_line : ConfigError → Option (List ℕ)
error_line (Text cause) = None
error_line (Key key takes) = Some (key_line (string_bytes key) takes)
error_line Memory = Some (codes "out of memory")
