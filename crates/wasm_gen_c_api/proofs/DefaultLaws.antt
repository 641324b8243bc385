-- Calls with empty text: the configuration is the default one.
use Rattle.std.proofs.Common.{◌≡◌, ◌^◌, ◌<◌, ℕ, List, [], Result, Ok, Err, IfOk, sym, ◌∙◌, arith}
use Rattle.wasm_gen_config.specs.declared.config_error.ConfigError.{ConfigError}
use Rattle.wasm_gen_c_api.proofs.ConfigLaws.{are_generated}
use Rattle.wasm_gen_c_api.proofs.ConfigTextLaws.{by_default, no_cause}
use Rattle.wasm_gen_c_api.proofs.FeatureLaws.{same_features}
use Rattle.wasm_gen_c_api.specs.Codes.{yes}
use Rattle.wasm_gen_c_api.specs.ConfigTexts.{AreTold, IsRead, code_of_reading}
use Rattle.wasm_gen_c_api.specs.Generate.{IsMade, IsMadeByDefault, IsWritten, generated_features}
use Rattle.wasm_smith.specs.Config.{AreFeaturesOf, sanitized}
use Rattle.wasm_smith.specs.Parts.{Config}

written_by_default : (config : Result Config ConfigError) (seed old new : List ℕ) (len code : ℕ) → IsRead [] config → IfOk config (λ c. IsWritten c seed old new len code)
    → IsMadeByDefault seed old new len code
written_by_default (Ok c) seed old new len code read written =
    let is = by_default c read.given in record { config = c; is_default = is; features = are_generated c is; written = written }
written_by_default (Err e) seed old new len code read written = absurd (no_cause e read.refused)

pub made_by_default : (seed old new : List ℕ) (len code : ℕ) → IsMade [] seed old new len code → IsMadeByDefault seed old new len code
made_by_default seed old new len code made = written_by_default made.config seed old new len code made.read made.made

used_by_default : (config : Result Config ConfigError) (features code : ℕ) → IsRead [] config → code ≡ code_of_reading config
    → IfOk config (λ c. AreFeaturesOf (sanitized c) features) → features < 2 ^ 22 → (code ≡ yes) × (features ≡ generated_features)
used_by_default (Ok c) features code read told used small =
    let are = are_generated c (by_default c read.given) in
    (told, same_features features generated_features (λ flag. used flag ∙ sym (are flag)) small (omega arith))
used_by_default (Err e) features code read told used small = absurd (no_cause e read.refused)

pub told_by_default : (features code : ℕ) → AreTold [] features code → (code ≡ yes) × (features ≡ generated_features)
told_by_default features code are = used_by_default are.config features code are.read are.told are.used are.no_further_bits
