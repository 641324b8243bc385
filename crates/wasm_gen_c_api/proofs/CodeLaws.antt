-- The codes that a configuration's text and a seed come to.
use Rattle.std.proofs.Common.{◌≡◌, ◌⊎◌, ◌==◌, ℕ, Bool, true, false, List, [], length, nat_le, Result, Ok, Err, IfOk, IfErr, refl, sym, subst, ap, ◌∙◌, inl, inr, if◌then◌else◌}
use Rattle.std.specs.List.{list_any}
use Rattle.wasm_gen_config.specs.Outcome.{IsGivenByText}
use Rattle.wasm_gen_config.specs.declared.config_error.ConfigError.{ConfigError}
use Rattle.wasm_gen_config.specs.declared.config_error.ConfigError.TheVariants as configs
use Rattle.wasm_gen_c_api.proofs.ConfigLaws.{is_askable}
use Rattle.wasm_gen_c_api.proofs.DefaultLaws.{made_by_default}
use Rattle.wasm_gen_c_api.specs.Codes.{codes_of_making, memory, refusal_code, short_buffer, text_code, yes}
use Rattle.wasm_gen_c_api.specs.ConfigTexts.{IsRead}
use Rattle.wasm_gen_c_api.specs.Generate.{IsAnswer, IsMade, IsUnread, IsWritten, code_of}
use Rattle.wasm_gen_sessions.specs.Asked.{IsMemoryOrLimit}
use Rattle.wasm_gen_sessions.specs.Generate.{IsCause}
use Rattle.wasm_gen_sessions.specs.declared.error.GenerateError.{GenerateError}
use Rattle.wasm_gen_sessions.specs.declared.error.GenerateError.TheVariants as generator
use Rattle.wasm_smith.specs.Config.{sanitized}
use Rattle.wasm_smith.specs.Family.{IsAskable}
use Rattle.wasm_smith.specs.Parts.{Config}
use Rattle.wasm_smith_module.proofs.BareLaws.{HasNoShapes, all_nullable, not_refused}

abbrev IsAmong : ℕ → Type 0
IsAmong code = list_any (λ other. code == other) codes_of_making ≡ true

-- a code that is one of these
among : (code same : ℕ) → code ≡ same → IsAmong same → IsAmong code
among code same is known = subst IsAmong (sym is) known

-- a text gives no shapes
no_shapes : (text : List ℕ) (c : Config) → IsGivenByText text c → HasNoShapes (sanitized c)
no_shapes text c is = record {
  module_shape = is.is_given.no_module_shape;
  available_imports = is.is_given.no_available_imports;
  exports = is.is_given.no_exports;
}

refused_among : (c : Config) (seed : List ℕ) (e : GenerateError) → HasNoShapes c → IsCause c seed e → IsAmong (refusal_code e)
refused_among c seed (generator.Config field) none cause = refl
refused_among c seed (generator.Shape part) none cause = absurd (not_refused c none _ cause.bad)
refused_among c seed generator.Minimum none cause = refl
refused_among c seed generator.EmptyChoice none cause = let some : false ≡ true = sym (all_nullable c none) ∙ cause.some in absurd cc
refused_among c seed generator.TypeSize none cause = refl
refused_among c seed (generator.Limit passed) none cause = refl
refused_among c seed generator.Memory none cause = refl

fitting_among : (fits : Bool) → IsAmong (if fits then yes else short_buffer)
fitting_among true = refl
fitting_among false = refl

answer_among : (c : Config) (seed old : List ℕ) (answer : Result (List ℕ) GenerateError) → HasNoShapes (sanitized c) → IsAnswer c seed answer → IsAmong (code_of answer old)
answer_among c seed old (Ok bytes) none answered = fitting_among (nat_le (length bytes) (length old))
answer_among c seed old (Err e) none answered = refused_among (sanitized c) seed e none answered.cause

unread_among : (e : ConfigError) → IsAmong (text_code e)
unread_among (configs.Text cause) = refl
unread_among (configs.Key key takes) = refl
unread_among configs.Memory = refl

read_among : (text seed old new : List ℕ) (len code : ℕ) (config : Result Config ConfigError) → IsRead text config → IfOk config (λ c. IsWritten c seed old new len code)
    → IfErr config (λ e. IsUnread e old new len code) → IsAmong code
read_among text seed old new len code (Ok c) read made refused =
    among code (code_of made.answer old) made.told (answer_among c seed old made.answer (no_shapes text c read.given) made.answered)
read_among text seed old new len code (Err e) read made refused = among code (text_code e) refused.told (unread_among e)

pub made_codes : (text seed old new : List ℕ) (len code : ℕ) → IsMade text seed old new len code → IsAmong code
made_codes text seed old new len code made = read_among text seed old new len code made.config made.read made.made made.refused

-- ---- by default

fitting_codes : (fits : Bool) (code : ℕ) → code ≡ (if fits then yes else short_buffer) → (code ≡ yes) ⊎ (code ≡ short_buffer) ⊎ (code ≡ 3) ⊎ (code ≡ memory)
fitting_codes true code is = inl is
fitting_codes false code is = inr (inl is)

answer_codes : (c : Config) (seed old : List ℕ) (code : ℕ) (answer : Result (List ℕ) GenerateError) → IfErr answer (IsMemoryOrLimit c seed) → code ≡ code_of answer old
    → (code ≡ yes) ⊎ (code ≡ short_buffer) ⊎ (code ≡ 3) ⊎ (code ≡ memory)
answer_codes c seed old code (Ok bytes) refused is = fitting_codes (nat_le (length bytes) (length old)) code is
answer_codes c seed old code (Err e) refused is = elim refused [
  | inl want ↦ inr (inr (inr (is ∙ ap refusal_code want)))
  | inr limit ↦ inr (inr (inl (is ∙ ap refusal_code limit.1)))
]

askable_refusal : (c : Config) (seed : List ℕ) (answer : Result (List ℕ) GenerateError) → IsAskable (sanitized c) → IsAnswer c seed answer → IfErr answer (IsMemoryOrLimit (sanitized c) seed)
askable_refusal c seed (Ok bytes) askable answered = tt
askable_refusal c seed (Err e) askable answered = answered.rightly.total askable

pub few_codes : (seed old new : List ℕ) (len code : ℕ) → IsMade [] seed old new len code
    → (code ≡ yes) ⊎ (code ≡ short_buffer) ⊎ (code ≡ 3) ⊎ (code ≡ memory)
few_codes seed old new len code made =
    let it = made_by_default seed old new len code made in
    let written = it.written in
    let askable = is_askable it.config it.is_default in
    answer_codes (sanitized it.config) seed old code written.answer (askable_refusal it.config seed written.answer askable written.answered) written.told
