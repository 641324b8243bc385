-- The codes that calls answer, and what they are called.
use Rattle.std.specs.Prelude.{ℕ, zero, suc, List, [], ◌∷◌, codes}
use Rattle.wasm_gen_config.specs.declared.config_error.ConfigError.{ConfigError}
use Rattle.wasm_gen_config.specs.declared.config_error.ConfigError.TheVariants as configs
use Rattle.wasm_gen_sessions.specs.declared.error.GenerateError.{GenerateError}
use Rattle.wasm_gen_sessions.specs.declared.error.GenerateError.TheVariants as generator
use Rattle.wasmparser_error.specs.declared.error.ErrorKind.{ErrorKind}
use Rattle.wasmparser_error.specs.declared.error.ErrorKind.TheVariants as kinds

-- a yes, or the bytes of a module were written
abbrev pub yes : ℕ
yes = 0

-- memory ran out
abbrev pub memory : ℕ
memory = 9

-- a bit of the features that is none
abbrev pub unknown_features : ℕ
unknown_features = 10

-- the buffer is shorter than what is to be written
abbrev pub short_buffer : ℕ
short_buffer = 11

-- a text that gives no configuration
abbrev pub config_text : ℕ
config_text = 12

-- the code of a refusal by the validator
abbrev pub kind_code : ErrorKind → ℕ
kind_code kinds.Malformed = 1
kind_code kinds.Invalid = 2
kind_code (kinds.Limit _) = 3
kind_code kinds.Operator = 4
kind_code kinds.Body = 5
kind_code kinds.Total = 6
kind_code kinds.Order = 7
kind_code kinds.Failed = 8
kind_code kinds.Memory = memory

-- the code of a refusal by the generator
abbrev pub refusal_code : GenerateError → ℕ
refusal_code (generator.Limit _) = 3
refusal_code generator.Memory = memory
refusal_code (generator.Config _) = 13
refusal_code (generator.Shape _) = 14
refusal_code generator.Minimum = 15
refusal_code generator.EmptyChoice = 16
refusal_code generator.TypeSize = 17

-- the code of a text that isn't read as a configuration
abbrev pub text_code : ConfigError → ℕ
text_code (configs.Text cause) = config_text
text_code (configs.Key key takes) = config_text
text_code configs.Memory = memory

-- The codes that a configuration's text and a seed may come to. A text gives no shapes, so no shape is refused (14), nor is a constant wanting for one (16).
abbrev pub codes_of_making : List ℕ
codes_of_making = yes ∷ 3 ∷ memory ∷ short_buffer ∷ config_text ∷ 13 ∷ 15 ∷ 17 ∷ []

-- The codes that the bytes of a module and features may come to. A validator of its own has space for a module's types (6), has no calls out of order (7),
-- and refused no module before (8).
abbrev pub codes_of_checking : List ℕ
codes_of_checking = yes ∷ 1 ∷ 2 ∷ 3 ∷ 4 ∷ 5 ∷ memory ∷ unknown_features ∷ []

-- what codes are called, in turn
abbrev pub names : List (List ℕ)
names = codes "yes"
    ∷ codes "malformed"
    ∷ codes "invalid"
    ∷ codes "limit"
    ∷ codes "operator"
    ∷ codes "body"
    ∷ codes "total"
    ∷ codes "order"
    ∷ codes "failed"
    ∷ codes "memory"
    ∷ codes "features"
    ∷ codes "buffer"
    ∷ codes "config text"
    ∷ codes "config"
    ∷ codes "shape"
    ∷ codes "minimum"
    ∷ codes "empty choice"
    ∷ codes "type size"
    ∷ []

-- the name at a place, if there is one, and else nothing
abbrev pub name_at : List (List ℕ) → ℕ → List ℕ
name_at [] place = []
name_at (name ∷ others) zero = name
name_at (name ∷ others) (suc place) = name_at others place

-- what a code is called; a number that is none has no name
abbrev pub code_name : ℕ → List ℕ
code_name = name_at names
