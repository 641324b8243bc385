-- The bytes of a made module.
use Rattle.std.specs.Prelude.{◌≡◌, ℕ, Bool, true, false, List}
use Rattle.std.specs.List.{AllByRecursion}
use Rattle.wasm_spec.specs.Features.{Features, CompactImports, has}
use Rattle.wasm_spec.specs.Grammar.{IsModule}
use Rattle.wasm_validity.specs.Modules.{IsValid, IsValidBut}
use Rattle.wasm_smith_config.specs.Config.{AreFeaturesOf}
use Rattle.wasm_smith_config.specs.declared.config.Config.{Config}
use Rattle.wasm_smith_module.specs.Measured.{AreShort, IsShortRaw}
use Rattle.wasm_smith_module.specs.Measures.{numbers_of}
use Rattle.wasm_smith_module.specs.Bounds.{IsWithinBounds}
use Rattle.wasm_smith_module.specs.TrueToShapes.{IsTrueTo}
use Rattle.wasm_smith_sections.specs.ModuleEncoding.{AreBodyEncodings, encoding_with}
use Rattle.wasm_smith_sections.specs.SmallModules.{IsReadable, IsSmallModule}
use Rattle.wasm_smith_validity.specs.Made.{Made}
use Rattle.wasm_smith_validity.specs.Sections.{sections_with}
use Rattle.wasm_smith_validity.specs.MadeBodies.{AreMadeBodies, is_raw_at}
use Rattle.wasm_validity.specs.Rules.{are_within}

-- Bytes can state the module, where compact imports are on, or where no import is compact.
abbrev pub CanBeStated : Made → Type 0
CanBeStated m = (compact : Bool) → AllByRecursion (IsReadable compact) m.imports → IsSmallModule compact m

-- No number of a module passes its limit, where its bodies are short; and each raw body is short enough.
pub record PassesNoLimit (m : Made) : Type 0 where
  pub numbers : (bodies : List (List ℕ)) → AreShort bodies → are_within (numbers_of bodies m) ≡ true
  pub raw : AllByRecursion IsShortRaw m.bodies

-- The bytes read as a made module, under the features of the configuration. It is valid under the same features but for its raw bodies, of which there are none
-- where the configuration doesn't allow them, and each other body is its locals and `unreachable`. It is within the configuration's bounds, and true to its shapes.
-- The bytes are its encoding, the shortest that there is. Data segments are counted where bulk memory is on.
pub record IsGenerated (c : Config) (m : Made) (bytes : List ℕ) : Type 0 where
  pub bodies : List (List ℕ)
  pub encoded : AreBodyEncodings m.bodies bodies
  pub made : AreMadeBodies m.bodies bodies
  pub reads : (features : Features) → AreFeaturesOf c features → IsModule (has features CompactImports) bytes (sections_with c.bulk_memory_enabled bodies m)
  pub valid : (features : Features) → AreFeaturesOf c features → IsValidBut features (is_raw_at m.bodies) (sections_with c.bulk_memory_enabled bodies m)
  pub all_valid : c.allow_invalid_funcs ≡ false → (features : Features) → AreFeaturesOf c features → IsValid features (sections_with c.bulk_memory_enabled bodies m)
  pub within : IsWithinBounds c m
  pub true_to_shapes : IsTrueTo c m
  pub shortest : bytes ≡ encoding_with c.bulk_memory_enabled m bodies
