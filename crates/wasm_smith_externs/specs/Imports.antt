-- The step of imports: how many imports are wanted, when one can be made, the bounds on them, and that each keeps its rule.
use Rattle.std.specs.Prelude.{◌≡◌, ◌⊎◌, ℕ, ◌-◌, ◌<◌, ◌≤◌, Bool, false, ⊤, List, [], length, max, if◌then◌else◌}
use Rattle.std.specs.List.{AllByRecursion, IsDistinct}
use Rattle.wasm_spec.specs.Syntax.{ImportEntry, Import, CompactItems, CompactNames, imported_by}
use Rattle.wasm_spec.specs.Types.{ExternalKind}
use Rattle.wasm_validity.specs.Entries.{Entry, OfImport}
use Rattle.wasm_smith_config.specs.declared.config.Config.{Config}
use Rattle.wasm_smith_definitions.specs.Kinds.{count_of}
use Rattle.wasm_smith_definitions.specs.Steps.{IsStep}
use Rattle.wasm_smith_types.specs.Growing.{grows_at}
use Rattle.wasm_smith_validity.specs.Spaces.{Spaces}
use Rattle.wasm_smith_externs.specs.Bounds.{most_in}
use Rattle.wasm_smith_externs.specs.Candidates.{HasLarger, IsOfferedImport, can_import_some, type_sizes}
use Rattle.wasm_smith_externs.specs.Named.{HasPlainName, IsShortlyNamed, all_named, have_same_names, types_of}
use Rattle.wasm_smith_externs.specs.declared.bounds.ImportBounds.{ImportBounds}
use Rattle.wasm_smith_externs.specs.declared.names.DuplicateImportsBehavior.{DuplicateImportsBehavior}
use Rattle.wasm_smith_externs.specs.declared.names.DuplicateImportsBehavior.TheVariants.{Allowed, Disallowed}

abbrev pub of_import : ImportEntry → Entry
of_import entry = OfImport entry

-- how many imports entries have
abbrev pub import_count : List ImportEntry → ℕ
import_count entries = length (all_named entries)

-- The first draw of the step: true where a first import is made. Nothing is drawn where no item can be imported.
abbrev pub asked_imports : Config → ImportBounds → Spaces → List ℕ → Bool × List ℕ
asked_imports c b k s = if can_import_some c b k then grows_at c.min_imports c.max_imports 0 s else (false, s)

-- an import by itself
abbrev pub IsLone : ImportEntry → Type 0
IsLone (Import origin name type) = ⊤
IsLone (CompactItems origin items) = ⊥
IsLone (CompactNames origin type names) = ⊥

-- An entry has an import. Several share their module's name, or their type besides, only where the configuration enables it.
pub record IsMadeEntry (c : Config) (entry : ImportEntry) : Type 0 where
  pub some : 0 < length (imported_by entry)
  pub lone : c.compact_imports_enabled ≡ false → IsLone entry

-- The bounds on imports: on how many they are, on the items of each index space, on the sizes of their types, and on each import.
pub record AreBoundedImports (c : Config) (b : ImportBounds) (old new : Spaces) (entries : List ImportEntry) : Type 0 where
  pub enough : c.min_imports ≤ import_count entries
  pub few : import_count entries ≤ c.max_imports
  pub room : (kind : ExternalKind) → count_of new kind ≤ max (most_in b kind) (count_of old kind)
  pub size : type_sizes old.types (types_of (all_named entries)) ≤ b.type_size
  pub offered : AllByRecursion (IsOfferedImport c old.types) (types_of (all_named entries))
  pub short : AllByRecursion IsShortlyNamed (all_named entries)
  pub made : AllByRecursion (IsMadeEntry c) entries

-- Fewer imports than are owed are made, since no item can be imported any more, or one is too large beside these.
pub record LackImports (c : Config) (b : ImportBounds) (old new : Spaces) : Type 0 where
  pub entries : List ImportEntry
  pub step : IsStep c of_import old new entries
  pub few : import_count entries < c.min_imports
  pub end : (can_import_some c b new ≡ false) ⊎ HasLarger c old.types (b.type_size - type_sizes old.types (types_of (all_named entries)))

-- Imports that grow from some bytes, whatever these are. If no import is asked for, there are none, and no more than the first draw is taken.
pub record AreGrownImports (c : Config) (b : ImportBounds) (duplicates : DuplicateImportsBehavior) (old : Spaces) (s : List ℕ) (new : Spaces) (left : List ℕ) (entries : List ImportEntry) : Type 0 where
  pub step : IsStep c of_import old new entries
  pub bounded : AreBoundedImports c b old new entries
  pub distinct : duplicates ≡ Disallowed → IsDistinct have_same_names (all_named entries)
  -- where names need not be new, none has a number at its end
  pub plain : duplicates ≡ Allowed → AllByRecursion HasPlainName (all_named entries)
  pub nothing : (asked_imports c b old s).0 ≡ false → (entries ≡ []) × (left ≡ (asked_imports c b old s).1)
