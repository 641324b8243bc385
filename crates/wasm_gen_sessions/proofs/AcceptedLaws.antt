-- Generated modules are accepted.
use Rattle.std.proofs.Common.{◌≡◌, ◌⊎◌, ℕ, false, List, [], Ok, Err, inl, inr, refl, subst}
use Rattle.wasm_spec.specs.Features.{Features, CompactImports, has}
use Rattle.wasmparser_validator.specs.Validation.{IsAccepted, IsValidated}
use Rattle.wasm_core_read.proofs.ModuleForms.{module_one}
use Rattle.wasm_validity.specs.Modules.{IsValid}
use Rattle.wasmparser_validator.specs.KnownSpaces.{KnownModule}
use Rattle.wasmparser_error.specs.declared.error.Error.{Error}
use Rattle.wasmparser_error.specs.declared.error.ErrorKind.TheVariants.{Memory, Total}
use Rattle.wasm_smith.specs.Config.{AreFeaturesOf}
use Rattle.wasm_smith.specs.Parts.{Config}
use Rattle.wasm_gen_sessions.specs.Generate.{HasTypedRaw, IsGeneratedFrom}
use Rattle.wasm_gen_sessions.specs.History.{History}
use Rattle.wasm_gen_sessions.specs.Session.{Checks}
use Rattle.wasm_smith_validity.specs.MadeBodies.{is_raw_at}
use Rattle.wasm_smith_validity.specs.Sections.{sections_with}
use Rattle.wasm_smith_validity.proofs.ValidModules.{valid_where_typed}

-- what is generated is a module that is valid under the features of the configuration, where its raw bodies are well typed
accepted : (c : Config) (seed bytes : List ℕ) (features : Features) (g : IsGeneratedFrom c seed bytes) → AreFeaturesOf c features → HasTypedRaw features c seed bytes g
    → IsAccepted features bytes (sections_with c.bulk_memory_enabled g.generated.bodies g.made)
accepted c seed bytes features g are typed = record {
  reads = g.generated.reads features are;
  valid =
      (valid_where_typed features (is_raw_at g.made.bodies) (sections_with c.bulk_memory_enabled g.generated.bodies g.made) (g.generated.valid features are)).1 typed;
}

-- a session with these features that hasn't failed refuses it then only when it is out of memory, or there is no room
pub resources_alone : (c : Config) (seed bytes : List ℕ) (old new : History) (e : Error) (g : IsGeneratedFrom c seed bytes) → AreFeaturesOf c old.features → old.has_failed ≡ false
    → HasTypedRaw old.features c seed bytes g → Checks old bytes (Err e) new → (e.kind ≡ Memory) ⊎ (e.kind ≡ Total)
resources_alone c seed bytes old new e g are going typed checks =
    let validated : IsValidated old.features old.held bytes (Err e) = checks.validated going in
    validated.complete (sections_with c.bulk_memory_enabled g.generated.bodies g.made) (accepted c seed bytes old.features g are typed)

-- a new session only when it is out of memory
pub memory_alone : (c : Config) (seed bytes : List ℕ) (features : Features) (id : ℕ) (new : History) (e : Error) (g : IsGeneratedFrom c seed bytes)
    → AreFeaturesOf c features → HasTypedRaw features c seed bytes g
    → Checks (record { features = features; id = id; has_failed = false; held = [] }) bytes (Err e) new → e.kind ≡ Memory
memory_alone c seed bytes features id new e g are typed checks =
    let validated : IsValidated features [] bytes (Err e) = checks.validated refl in
    let resource = resources_alone c seed bytes (record { features = features; id = id; has_failed = false; held = [] }) new e g are refl typed checks in
    elim resource [
      | inl memory ↦ memory
      | inr total ↦ absurd (validated.first refl total)
    ]

-- it accepts it only where they are
pub typed_where_accepted : (c : Config) (seed bytes : List ℕ) (old new : History) (known : KnownModule) (g : IsGeneratedFrom c seed bytes) → AreFeaturesOf c old.features → old.has_failed ≡ false
    → Checks old bytes (Ok known) new → HasTypedRaw old.features c seed bytes g
typed_where_accepted c seed bytes old new known g are going checks =
    let validated : IsValidated old.features old.held bytes (Ok known) = checks.validated going in
    let right = validated.right in
    let sections = sections_with c.bulk_memory_enabled g.generated.bodies g.made in
    let one : right.0 ≡ sections = module_one (has old.features CompactImports) bytes right.0 sections right.1.reads (g.generated.reads old.features are) in
    (valid_where_typed old.features (is_raw_at g.made.bodies) sections (g.generated.valid old.features are)).0 (subst (IsValid old.features) one right.1.valid)

-- where the configuration allows no raw bodies there are none
pub no_raw_typed : (c : Config) (seed bytes : List ℕ) (features : Features) (g : IsGeneratedFrom c seed bytes) → AreFeaturesOf c features → c.allow_invalid_funcs ≡ false
    → HasTypedRaw features c seed bytes g
no_raw_typed c seed bytes features g are off =
    (valid_where_typed features (is_raw_at g.made.bodies) (sections_with c.bulk_memory_enabled g.generated.bodies g.made) (g.generated.valid features are)).0
    (g.generated.all_valid off features are)
