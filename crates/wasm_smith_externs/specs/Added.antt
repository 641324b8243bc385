-- Imports that the parts of their step add.
use Rattle.std.specs.Prelude.{◌≡◌, ◌⊎◌, ℕ, ◌+◌, ◌^◌, ◌<◌, ◌≤◌, true, List, length, map, max}
use Rattle.std.specs.List.{AllByRecursion}
use Rattle.wasm_core_types.specs.SubTypes.{sub_type}
use Rattle.wasm_spec.specs.Features.{Features}
use Rattle.wasm_spec.specs.Syntax.{ImportEntry}
use Rattle.wasm_spec.specs.Types.{ExternalType, ExternalKind, SubType}
use Rattle.wasm_smith_config.specs.Config.{AreFeaturesOf}
use Rattle.wasm_smith_config.specs.declared.config.Config.{Config}
use Rattle.wasm_smith_definitions.specs.Offered.{HasByteLimits, HasFewTables}
use Rattle.wasm_smith_definitions.specs.Kinds.{count_of}
use Rattle.wasm_smith_types.specs.Offering.{offers}
use Rattle.wasm_smith_validity.specs.Rules.{keep_items}
use Rattle.wasm_smith_validity.specs.Spaces.{Spaces, with_item, with_items}
use Rattle.wasm_smith_definitions.specs.FunctionTypes.{function_indexes, tag_indexes}
use Rattle.wasm_smith_externs.specs.Bounds.{AreWithin, most_in}
use Rattle.wasm_smith_externs.specs.Candidates.{HasLarger, IsOfferedImport, type_size, type_sizes}
use Rattle.wasm_smith_externs.specs.Imports.{IsMadeEntry}
use Rattle.wasm_smith_externs.specs.Named.{HasPlainName, IsShortlyNamed, Named, all_named, types_of}
use Rattle.wasm_smith_externs.specs.Names.{AreDrawnNames}
use Rattle.wasm_smith_externs.specs.declared.bounds.ImportBounds.{ImportBounds}
use Rattle.wasm_smith_externs.specs.declared.names.DuplicateImportsBehavior.{DuplicateImportsBehavior}
use Rattle.wasm_smith_externs.specs.declared.names.DuplicateImportsBehavior.TheVariants.{Allowed}
use Rattle.wasm_smith_externs.specs.declared.importer.Importer.{Importer}
use Rattle.wasm_smith_externs.specs.declared.progress.Progress.{Progress}

-- An importer has what imports are drawn from where there are these types.
pub record IsImporterFor (types : List (SubType ℕ)) (it : Importer) : Type 0 where
  pub known : map sub_type it.types.now ≡ types
  pub functions : it.functions.items ≡ function_indexes 0 types
  pub tags : it.tags.items ≡ tag_indexes 0 types
  pub offers : it.offers ≡ offers it.config.now
  pub few : length types ≤ 2 ^ 31
  pub within : AreWithin it.config.now it.bounds
  pub limits : HasByteLimits it.config.now
  pub tables : HasFewTables it.config.now

-- As many imports are made, and as many may still come.
pub record IsAsFar (before after : Progress) : Type 0 where
  pub count : after.count ≡ before.count
  pub left : after.left ≡ before.left
  pub size : after.size_left ≡ before.size_left

-- One import is added.
pub record IsAdded (old new : Spaces) (before after : Progress) (item : ExternalType ℕ) : Type 0 where
  pub spaces : new ≡ with_item old item
  pub count : after.count ≡ before.count + 1
  pub left : after.left + 1 ≡ before.left
  pub size : type_size old.types item + after.size_left ≡ before.size_left
  pub names : after.names ≡ before.names

-- No import is added, since its type is too large, and none comes after it.
pub record IsLast (old new : Spaces) (before after : Progress) (item : ExternalType ℕ) : Type 0 where
  pub spaces : new ≡ old
  pub count : after.count ≡ before.count
  pub left : after.left ≡ 0
  pub large : before.size_left < type_size old.types item
  pub size : after.size_left ≡ before.size_left
  pub names : after.names ≡ before.names

-- These imports are added, one after the other: each keeps its rule under the features of the configuration, and there is room for each.
pub record AreAdded (c : Config) (b : ImportBounds) (old new : Spaces) (before after : Progress) (xs : List Named) : Type 0 where
  pub keep : (features : Features) → AreFeaturesOf c features → keep_items features old (types_of xs) ≡ true
  pub spaces : new ≡ with_items old (types_of xs)
  pub offered : AllByRecursion (IsOfferedImport c old.types) (types_of xs)
  pub room : (kind : ExternalKind) → count_of new kind ≤ max (most_in b kind) (count_of old kind)
  pub count : after.count ≡ before.count + length xs
  pub left : after.left + length xs ≤ before.left
  -- as many may still come as before, but for these; or one was too large
  pub stopped : (after.count + after.left ≡ before.count + before.left) ⊎ HasLarger c old.types after.size_left
  pub size : type_sizes old.types (types_of xs) + after.size_left ≡ before.size_left
  pub names : AreDrawnNames before.names after.names xs
  pub short : AllByRecursion IsShortlyNamed xs
  pub plain : before.names.duplicates ≡ Allowed → AllByRecursion HasPlainName xs

-- The imports that are made so far, from the start of the step on.
pub record AreMadeSoFar (c : Config) (b : ImportBounds) (duplicates : DuplicateImportsBehavior) (start now : Spaces) (progress : Progress) (entries : List ImportEntry) : Type 0 where
  pub before : Progress
  pub count : before.count ≡ 0
  pub left : before.left ≡ c.max_imports
  pub size : before.size_left ≡ b.type_size
  pub names : before.names.duplicates ≡ duplicates
  pub added : AreAdded c b start now before progress (all_named entries)
  pub made : AllByRecursion (IsMadeEntry c) entries
