-- The bytes of a made module are a module as asked for.
use Rattle.std.proofs.Common.{◌≡◌, ℕ, ◌≤◌, Bool, true, List, [], length, ◌∙◌}
use Rattle.std.specs.List.{AllByRecursion}
use Rattle.wasm_smith_config.specs.Config.{AreFeaturesOf}
use Rattle.wasm_smith_config.specs.declared.config.Config.{Config}
use Rattle.wasm_smith_module.specs.Measures.{numbers_of}
use Rattle.wasm_smith_module.specs.Bounds.{IsWithinBounds}
use Rattle.wasm_smith_module.specs.TrueToShapes.{IsTrueTo}
use Rattle.wasm_smith_sections.specs.ModuleEncoding.{IsModuleEncoding}
use Rattle.wasm_smith_sections.specs.SmallModules.{IsSmallModule}
use Rattle.wasm_smith_validity.specs.ValidGroups.{types_of}
use Rattle.wasm_smith_validity.specs.Made.{Made}
use Rattle.wasm_smith_validity.specs.Sections.{sections_with}
use Rattle.wasm_smith_validity.specs.Validity.{IsValidByIndex}
use Rattle.wasm_smith_validity.specs.MadeBodies.{AreMadeBodies, is_raw_at}
use Rattle.wasm_spec.specs.Features.{Features, BulkMemory, CompactImports, has}
use Rattle.wasm_spec.specs.Grammar.{IsModule}
use Rattle.wasm_spec.specs.Limits.{Name, Types, most}
use Rattle.wasm_validity.specs.Modules.{IsValidBut}
use Rattle.wasm_validity.specs.Context.{at_first}
use Rattle.wasm_validity.specs.Entries.{entries_of}
use Rattle.wasm_validity.specs.Rules.{KeepLimits, KeepRules, are_within}
use Rattle.wasm_validity.specs.Validity.{AreFine}
use Rattle.wasm_gen_sessions.specs.Written.{CanBeStated, IsGenerated, PassesNoLimit}
use Rattle.wasm_smith_validity.proofs.ValidModules.{valid_without_raw}
use Rattle.wasm_gen_sessions.proofs.BodyEncodings.{OneBodyLaw, bodies_are, bodies_within}
use Rattle.wasm_gen_sessions.proofs.SmallModules.{few_small, first_within, legal_names, readable}

-- the laws of the crates below
pub record Laws : Type 0 where
  pub rules : (features : Features) (m : Made) (counted : Bool) (bodies : List (List ℕ)) → IsValidByIndex features m → length (types_of m.groups) ≤ most Types
      → (counted ≡ true → has features BulkMemory ≡ true) → KeepRules features at_first (entries_of (sections_with counted bodies m))
  pub limits : (features : Features) (m : Made) (counted : Bool) (bodies : List (List ℕ)) → IsValidByIndex features m
      → AllByRecursion (λ custom. length custom.name ≤ most Name) m.customs → are_within (numbers_of bodies m) ≡ true
      → KeepLimits at_first (entries_of (sections_with counted bodies m))
  pub bodies : (features : Features) (m : Made) (counted : Bool) (bodies : List (List ℕ)) → AreFine features (entries_of (sections_with counted bodies m))
      → IsValidByIndex features m → AllByRecursion (λ body. length body.locals ≤ 100) m.bodies → AreMadeBodies m.bodies bodies
      → IsValidBut features (is_raw_at m.bodies) (sections_with counted bodies m)
  pub one : OneBodyLaw
  pub reading : (compact counted : Bool) (m : Made) (encoding : List ℕ) (is : IsModuleEncoding counted m encoding) → IsSmallModule compact m
      → length m.bodies ≡ length m.funcs → IsModule compact encoding (sections_with counted is.bodies m)

pub is_generated : Laws → (c : Config) (m : Made) (bytes : List ℕ) → ((features : Features) → AreFeaturesOf c features → IsValidByIndex features m) → IsWithinBounds c m
    → IsTrueTo c m → CanBeStated m → PassesNoLimit m → IsModuleEncoding c.bulk_memory_enabled m bytes → IsGenerated c m bytes
is_generated laws c m bytes v bounds shaped small no_limit e =
    let few : length (types_of m.groups) ≤ most Types = first_within (numbers_of [] m) (no_limit.numbers [] tt) in
    let locals = few_small c m bounds small in
    let within = no_limit.numbers e.bodies (bodies_within laws.one m.bodies e.bodies locals no_limit.raw e.are) in
    let made = bodies_are m.bodies e.bodies locals e.are in
    let valid : (features : Features) → AreFeaturesOf c features → IsValidBut features (is_raw_at m.bodies) (sections_with c.bulk_memory_enabled e.bodies m) = λ features are.
    laws.bodies features m c.bulk_memory_enabled e.bodies
    (record {
      rules = laws.rules features m c.bulk_memory_enabled e.bodies (v features are) few (λ on. are BulkMemory ∙ on);
      limits = laws.limits features m c.bulk_memory_enabled e.bodies (v features are) (legal_names c m bounds) within;
    }) (v features are) bounds.few_locals made in
    record {
      bodies = e.bodies;
      encoded = e.are;
      made = made;
      reads = λ features are.
          laws.reading (has features CompactImports) c.bulk_memory_enabled m bytes e
          (small (has features CompactImports) (readable c (has features CompactImports) (are CompactImports) m.imports bounds.made_imports)) (v features are).bodies;
      valid = valid;
      all_valid = λ off features are. valid_without_raw features m.bodies (sections_with c.bulk_memory_enabled e.bodies m) (valid features are) (bounds.no_raw off);
      within = bounds;
      true_to_shapes = shaped;
      shortest = e.is;
    }
