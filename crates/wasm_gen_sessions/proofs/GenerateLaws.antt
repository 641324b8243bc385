-- Generating, and why nothing is generated.
use Rattle.std.proofs.Common.{◌≡◌, ℕ, Bool, true, List, [], IfSome, refl, subst, inl, inr}
use Rattle.std.specs.List.{AllByRecursion}
use Rattle.wasm_core.specs.LimitCases as limits
use Rattle.wasm_core.specs.Limits.{limit}
use Rattle.wasm_core.specs.Parts as core
use Rattle.wasm_spec.specs.Features.{Features}
use Rattle.wasm_spec.specs.Limits.{Limit, Types, most}
use Rattle.wasm_validity.specs.Context.{at_first}
use Rattle.wasm_validity.specs.Entries.{entries_of}
use Rattle.wasm_validity.specs.Rules.{PassLimit, Passes, are_within}
use Rattle.wasm_smith.specs.Config.{AreFeaturesOf}
use Rattle.wasm_smith.specs.ErrorCases as smith
use Rattle.wasm_smith.specs.Parts.{Config, Error}
use Rattle.wasm_smith.proofs.SeedLaws.{features_for}
use Rattle.wasm_smith_module.specs.Measured.{AreShort, IsPassed, IsShortRaw}
use Rattle.wasm_smith_module.specs.Measures.{numbers_of}
use Rattle.wasm_smith_module.specs.Bounds.{IsWithinBounds}
use Rattle.wasm_smith_module.specs.Generating.{HasFront, front_at}
use Rattle.wasm_smith_module.specs.ModuleValue.{ModuleValue}
use Rattle.wasm_smith_module.specs.Promise.{HasDrawnData, IsMadeFor, PassesTypes}
use Rattle.wasm_smith_module.specs.TrueToShapes.{IsTrueTo, TakesImports}
use Rattle.wasm_smith_sections.specs.ModuleEncoding.{IsModuleEncoding, IsUnwritten}
use Rattle.wasm_smith_validity.specs.Made.{Made}
use Rattle.wasm_smith_validity.specs.Sections.{sections_with}
use Rattle.wasm_smith_validity.specs.Validity.{IsValidByIndex}
use Rattle.wasm_gen_sessions.specs.Generate.{IsCause, IsGeneratedFrom, IsPast, IsUnwritable, PassesLimit, told}
use Rattle.wasm_gen_sessions.specs.declared.error.GenerateError.{GenerateError}
use Rattle.wasm_gen_sessions.specs.declared.error.GenerateError.TheVariants.{Config as BadConfig, Shape, Minimum, EmptyChoice, TypeSize, Limit as PastLimit, Memory}
use Rattle.wasm_gen_sessions.specs.Written.{CanBeStated, IsGenerated, PassesNoLimit}

-- ---- writing

-- a made module passes each limit that one of its numbers passes
abbrev pub PassedLaw : Type 0
PassedLaw = (features : Features) (m : Made) (counted : Bool) (bodies : List (List ℕ)) (limit : Limit) → IsValidByIndex features m
    → Passes limit (numbers_of bodies m) → PassLimit limit at_first (entries_of (sections_with counted bodies m))

pub past_limit : PassedLaw → (c : Config) (m : ModuleValue) (passed : core.Limit) → IsMadeFor c m → IsPassed m.made passed → IsPast c (limit passed) m.made
past_limit law c m passed made (inl passes) =
    let (features, are) = features_for c in inl (law features m.made c.bulk_memory_enabled [] (limit passed) (made.valid features are) (passes []))
past_limit law c m passed made (inr long) = inr (inl long)

pub no_limit : (m : Made) → ((bodies : List (List ℕ)) → AreShort bodies → are_within (numbers_of bodies m) ≡ true) → AllByRecursion IsShortRaw m.bodies → PassesNoLimit m
no_limit m numbers raw = record { numbers = numbers; raw = raw }

-- a made module that passes no limit is generated as its encoding
abbrev pub GeneratedLaw : Type 0
GeneratedLaw = (c : Config) (m : Made) (bytes : List ℕ) → ((features : Features) → AreFeaturesOf c features → IsValidByIndex features m) → IsWithinBounds c m
    → IsTrueTo c m → CanBeStated m → PassesNoLimit m → IsModuleEncoding c.bulk_memory_enabled m bytes → IsGenerated c m bytes

pub written : GeneratedLaw → (c : Config) (m : ModuleValue) (bytes : List ℕ) → IsMadeFor c m → CanBeStated m.made → PassesNoLimit m.made
    → IsModuleEncoding m.config.bulk_memory_enabled m.made bytes → IsGenerated c m.made bytes
written law c m bytes made small no_limit encoded =
    law c m.made bytes made.valid made.bounds made.true_to_shapes small no_limit (subst (λ (c : Config). IsModuleEncoding c.bulk_memory_enabled m.made bytes) made.config encoded)

of_writing : (c : Config) (m : Made) (e : Error) → IsUnwritten c.bulk_memory_enabled m e → IsUnwritable c m (told e)
of_writing c m smith.IncorrectFormat h = h
of_writing c m smith.EmptyChoose h = h
of_writing c m smith.NotEnoughData h = h
of_writing c m (smith.BadConfig field) h = h
of_writing c m (smith.BadShape field) h = h
of_writing c m smith.TypeSize h = h
of_writing c m smith.Memory h = tt
of_writing c m smith.TooLong h = inr (inr (refl, h))

pub unwritten : (c : Config) (m : ModuleValue) (e : Error) → IsMadeFor c m → IsUnwritten m.config.bulk_memory_enabled m.made e → IsUnwritable c m.made (told e)
unwritten c m e made h = of_writing c m.made e (subst (λ (c : Config). IsUnwritten c.bulk_memory_enabled m.made e) made.config h)

-- ---- drawing

-- what is drawn first is of this module, where it is drawn so
abbrev pub IsDrawn : Config → List ℕ → Made → List ℕ → Type 0
IsDrawn c seed m left = IfSome (front_at c seed) (λ drawn. HasFront c drawn m left)

pub generated_from : (c : Config) (seed left : List ℕ) (m : ModuleValue) (bytes : List ℕ) → IsMadeFor c m → IsDrawn c seed m.made left → TakesImports c seed m.made
    → HasDrawnData seed left m.made → IsGenerated c m.made bytes → IsGeneratedFrom c seed bytes
generated_from c seed left m bytes made drawn imports contents generated = record {
  good = made.good;
  shapes = made.shapes;
  made = m.made;
  left = left;
  drawn = drawn;
  imports = imports;
  contents = contents;
  generated = generated;
}

pub refused_from : (c : Config) (seed left : List ℕ) (m : ModuleValue) (e : GenerateError) → IsMadeFor c m → IsDrawn c seed m.made left → TakesImports c seed m.made
    → HasDrawnData seed left m.made → IsUnwritable c m.made e → IsCause c seed e
refused_from c seed left m (BadConfig field) made drawn imports contents h = absurd h
refused_from c seed left m (Shape part) made drawn imports contents h = absurd h
refused_from c seed left m Minimum made drawn imports contents h = absurd h
refused_from c seed left m EmptyChoice made drawn imports contents h = absurd h
refused_from c seed left m TypeSize made drawn imports contents h = absurd h
refused_from c seed left m (PastLimit passed) made drawn imports contents h = record {
  good = made.good;
  shapes = made.shapes;
  past = inl (record {
    made = m.made;
    left = left;
    valid = made.valid;
    bounds = made.bounds;
    true_to_shapes = made.true_to_shapes;
    contents = contents;
    past = h;
    drawn = drawn;
    imports = imports;
  });
}
refused_from c seed left m Memory made drawn imports contents h = tt

-- More types are asked for than there may be.
pub passes_types : (c : Config) (seed : List ℕ) → PassesTypes c seed (most Types) → PassesLimit c seed limits.Types
passes_types c seed past = record { good = past.good; shapes = past.shapes; past = inr (record { is = refl; asks = past }) }
