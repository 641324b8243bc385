-- The bytes written for a configuration and a seed, and the verdict on them.
use Rattle.std.proofs.Common.{◌≡◌, ◌⊎◌, ◌<◌, ◌^◌, ℕ, Bool, true, false, get_or, List, [], ◌++◌, length, take, drop, nat_le, Result, Ok, Err, IfOk, IfErr, refl, sym, subst, ap, inl, inr, arith, rules, if◌then◌else◌}
use Rattle.std.proofs.Math.Seq.{take-append_seam}
use Rattle.wasm_spec.specs.Features.{Features}
use Rattle.wasmparser_validator.specs.Validation.{IsAccepted, IsValidated}
use Rattle.wasmparser_validator.specs.KnownSpaces.{KnownModule}
use Rattle.wasmparser_error.specs.declared.error.Error.{Error}
use Rattle.wasm_smith.specs.Config.{AreFeaturesOf, sanitized}
use Rattle.wasm_smith.specs.Parts.{Config}
use Rattle.wasm_gen_sessions.specs.Generate.{IsGeneratedFrom}
use Rattle.wasm_gen_sessions.specs.declared.error.GenerateError.{GenerateError}
use Rattle.wasm_gen_sessions.specs.declared.error.GenerateError.TheVariants as generator
use Rattle.wasm_smith_validity.specs.Sections.{sections_with}
use Rattle.wasm_gen_config.specs.Outcome.{IsGivenByText}
use Rattle.wasm_gen_config.specs.declared.config_error.ConfigError.{ConfigError}
use Rattle.wasm_gen_config.specs.declared.config_error.ConfigError.TheVariants as configs
use Rattle.wasm_gen_c_api.proofs.ConfigTextLaws.{same_given}
use Rattle.wasm_gen_c_api.proofs.DefaultLaws.{made_by_default}
use Rattle.wasm_gen_c_api.specs.Codes.{kind_code, memory, refusal_code, short_buffer, text_code, yes}
use Rattle.wasm_gen_c_api.specs.ConfigTexts.{AreTold, IsRead, code_of_reading}
use Rattle.wasm_gen_c_api.specs.Generate.{IsAnswer, IsMade, IsUnread, IsWritten, buffer_after, code_of, generated_features, length_of}
use Rattle.wasm_gen_c_api.specs.Verdicts.{IsChecked, IsJudged, verdict_of}
use Rattle.wasm_gen_c_api.specs.declared.verdict.Verdict.{Verdict}

-- a generated module is valid under the features of the configuration
accepted : (c : Config) (seed bytes : List ℕ) (features : Features) (g : IsGeneratedFrom c seed bytes) → AreFeaturesOf c features → c.allow_invalid_funcs ≡ false
    → IsAccepted features bytes (sections_with c.bulk_memory_enabled g.generated.bodies g.made)
accepted c seed bytes features g are off = record {
  reads = g.generated.reads features are;
  valid = g.generated.all_valid off features are;
}

-- a validator that holds no types refuses such bytes only when out of memory
judged_so : (c : Config) (seed bytes : List ℕ) (features : Features) (answer : Result KnownModule Error) → IsGeneratedFrom c seed bytes → AreFeaturesOf c features
    → c.allow_invalid_funcs ≡ false → IsValidated features [] bytes answer → ((verdict_of answer).kind ≡ yes) ⊎ ((verdict_of answer).kind ≡ memory)
judged_so c seed bytes features (Ok known) g are off validated = inl refl
judged_so c seed bytes features (Err e) g are off validated =
    elim (validated.complete (sections_with c.bulk_memory_enabled g.generated.bodies g.made) (accepted c seed bytes features g are off)) [
      | inl is ↦ inr (ap kind_code is)
      | inr total ↦ absurd (validated.first refl total)
    ]

-- a refusal's code isn't that of a yes
not_yes : (e : GenerateError) → yes ≡ refusal_code e → ⊥
not_yes (generator.Config field) is = search rules
not_yes (generator.Shape part) is = search rules
not_yes generator.Minimum is = search rules
not_yes generator.EmptyChoice is = search rules
not_yes generator.TypeSize is = search rules
not_yes (generator.Limit passed) is = search rules
not_yes generator.Memory is = search rules

unread : (e : ConfigError) → yes ≡ text_code e → ⊥
unread (configs.Text cause) is = search rules
unread (configs.Key key takes) is = search rules
unread configs.Memory is = search rules

-- where it is said that bytes were written, they stand at the buffer's front
front_is : (fits : Bool) (bytes rest old : List ℕ) → yes ≡ (if fits then yes else short_buffer) → take (length bytes) (if fits then bytes ++ rest else old) ≡ bytes
front_is true bytes rest old is = take-append_seam bytes rest
front_is false bytes rest old is = search rules

module _ (c : Config) (features : Features) (are : AreFeaturesOf (sanitized c) features) (off : c.allow_invalid_funcs ≡ false) (seed old new : List ℕ) (len : ℕ) (told : Verdict) where
  answer_accepted : (answer : Result (List ℕ) GenerateError) → IsAnswer c seed answer → yes ≡ code_of answer old
      → len ≡ length_of answer → new ≡ buffer_after answer old → IsJudged features (take len new) told → (told.kind ≡ yes) ⊎ (told.kind ≡ memory)
  answer_accepted (Err e) answered is len_is new_is judged = absurd (not_yes e is)
  answer_accepted (Ok bytes) answered is len_is new_is judged =
      let front : take len new ≡ bytes = rw (len_is, new_is) (front_is (nat_le (length bytes) (length old)) bytes (drop (length bytes) old) old is) in
      let validated : IsValidated features [] bytes judged.answer = subst (λ front. IsValidated features [] front judged.answer) front judged.validated in
      subst (λ (told : Verdict). (told.kind ≡ yes) ⊎ (told.kind ≡ memory)) (sym judged.same)
      (judged_so (sanitized c) seed bytes features judged.answer answered.generated are off validated)

  written_accepted : features < 2 ^ 22 → IsWritten c seed old new len yes → IsChecked features (take len new) told → (told.kind ≡ yes) ⊎ (told.kind ≡ memory)
  written_accepted small written checked = answer_accepted written.answer written.answered written.told written.needed written.buffer (checked.known small)

-- a module was written, so by the configuration that the text gives
written_for : (text seed old new : List ℕ) (len : ℕ) (c : Config) (config : Result Config ConfigError) → IsGivenByText text c → IsRead text config
    → IfOk config (λ c. IsWritten c seed old new len yes) → IfErr config (λ e. IsUnread e old new len yes) → IsWritten c seed old new len yes
written_for text seed old new len c (Ok d) is read made refused = subst (λ c. IsWritten c seed old new len yes) (same_given text d c read.given is) made
written_for text seed old new len c (Err e) is read made refused = absurd (unread e refused.told)

-- and features were returned, so for this configuration
used_for : (text : List ℕ) (features : Features) (c : Config) (config : Result Config ConfigError) → IsGivenByText text c → IsRead text config
    → yes ≡ code_of_reading config → IfOk config (λ c. AreFeaturesOf (sanitized c) features) → AreFeaturesOf (sanitized c) features
used_for text features c (Ok d) is read told used = subst (λ c. AreFeaturesOf (sanitized c) features) (same_given text d c read.given is) used
used_for text features c (Err e) is read told used = absurd (unread e told)

pub is_accepted : (text seed old new : List ℕ) (len features : ℕ) (told : Verdict) (c : Config) → IsGivenByText text c → c.allow_invalid_funcs ≡ false
    → IsMade text seed old new len yes → AreTold text features yes → IsChecked features (take len new) told → (told.kind ≡ yes) ⊎ (told.kind ≡ memory)
is_accepted text seed old new len features told c is off made used checked =
    written_accepted c features (used_for text features c used.config is used.read used.told used.used) off seed old new len told used.no_further_bits
    (written_for text seed old new len c made.config is made.read made.made made.refused) checked

pub accepted_by_default : (seed old new : List ℕ) (len : ℕ) (told : Verdict) → IsMade [] seed old new len yes
    → IsChecked generated_features (take len new) told → (told.kind ≡ yes) ⊎ (told.kind ≡ memory)
accepted_by_default seed old new len told made checked =
    let it = made_by_default seed old new len yes made in
    let off : it.config.allow_invalid_funcs ≡ false = ap (λ (switches : List Bool). get_or switches 0 true) it.is_default.off in
    written_accepted it.config generated_features it.features off seed old new len told (omega arith) it.written checked
