-- Exports of everything there is, with no draw but that of names, and the exports of a module in either case.
use Rattle.std.specs.Prelude.{◌≡◌, ℕ, ◌+◌, ◌-◌, ◌<◌, ◌≤◌, true, false, List, [], ◌∷◌, map}
use Rattle.std.specs.List.{AllByRecursion, flat_map, range_with_len, sum_by}
use Rattle.wasm_spec.specs.Features.{Features}
use Rattle.wasm_spec.specs.Syntax.{Export}
use Rattle.wasm_spec.specs.Types.{ExternalKind, FuncKind, TableKind, MemoryKind, GlobalKind, TagKind}
use Rattle.wasm_smith_config.specs.Config.{AreFeaturesOf}
use Rattle.wasm_smith_config.specs.declared.config.Config.{Config}
use Rattle.wasm_smith_definitions.specs.Kinds.{count_of, of_export}
use Rattle.wasm_smith_definitions.specs.Steps.{IsGrown, IsStep}
use Rattle.wasm_smith_unstructured.specs.Draws.{text_at}
use Rattle.wasm_smith_validity.specs.Rules.{KeepAll}
use Rattle.wasm_smith_validity.specs.Spaces.{Spaces, functions_of, spaces_after_all}
use Rattle.wasm_smith_externs.specs.Exports.{HasShortName, wanted_exports}
use Rattle.wasm_smith_externs.specs.Sizes.{exports_size, item_size}
use Rattle.wasm_smith_externs.specs.Wanted.{AreTooFew}

-- ---- everything

-- all items of a kind, by increasing index, imported ones first
abbrev pub all_of : Spaces → ExternalKind → List (ExternalKind × ℕ)
all_of k kind = map (λ index. (kind, index)) (range_with_len 0 (count_of k kind))

-- all functions, then all tables, memories, globals and tags
abbrev pub everything : Spaces → List (ExternalKind × ℕ)
everything k = flat_map (all_of k) (FuncKind ∷ TableKind ∷ MemoryKind ∷ GlobalKind ∷ TagKind ∷ [])

-- the size of the types of such items
abbrev pub items_size : Spaces → List (ExternalKind × ℕ) → ℕ
items_size k items = sum_by (λ (item : ExternalKind × ℕ). item_size k.types (functions_of k) k.tags item.0 item.1) items

-- the items that are exported
abbrev pub exported_by : List Export → List (ExternalKind × ℕ)
exported_by exports = map (λ (export : Export). (export.kind, export.index)) exports

-- the bytes that are left after a name of at most 1000 bytes for each of these items
abbrev pub after_names : List (ExternalKind × ℕ) → List ℕ → List ℕ
after_names [] s = s
after_names (item ∷ items) s = after_names items (text_at 1000 s).1

-- These items are exported one after the other. The exports keep their rules, and the spaces grow by them alone.
pub record AreExported (old : Spaces) (s : List ℕ) (new : Spaces) (left : List ℕ) (items : List (ExternalKind × ℕ)) : Type 0 where
  pub exports : List Export
  pub keep : (c : Config) (features : Features) → AreFeaturesOf c features → KeepAll features old (map of_export exports)
  pub known : new ≡ spaces_after_all old (map of_export exports)
  pub are : exported_by exports ≡ items
  pub short : AllByRecursion (λ export. HasShortName export.name) exports
  pub named : left ≡ after_names items s

-- Everything is exported.
pub record IsAllExported (old : Spaces) (s : List ℕ) (new : Spaces) (left : List ℕ) : Type 0 where
  pub step : (c : Config) → IsStep c of_export old new new.exports
  pub are : exported_by new.exports ≡ everything old
  pub short : AllByRecursion (λ export. HasShortName export.name) new.exports
  pub named : left ≡ after_names (everything old) s

-- ---- in either case

-- Exports that the spaces keep: everything where that is asked for, else as many as are asked for.
pub record AreExports (c : Config) (imports_size : ℕ) (old : Spaces) (s : List ℕ) (new : Spaces) (left : List ℕ) : Type 0 where
  pub step : IsStep c of_export old new new.exports
  pub bounded : AllByRecursion (λ export. HasShortName export.name) new.exports
  pub size : exports_size new ≤ c.max_type_size - imports_size
  pub drawn : c.export_everything ≡ false → IsGrown c (wanted_exports c imports_size) of_export (λ export. HasShortName export.name) old s new left new.exports
  pub all : c.export_everything ≡ true → IsAllExported old s new left

-- Exports are fewer than their minimum, and none can be made any more. Not everything is to be exported.
pub record LackExports (c : Config) (imports_size : ℕ) (k : Spaces) : Type 0 where
  pub drawn : c.export_everything ≡ false
  pub few : AreTooFew (wanted_exports c imports_size) k

-- Everything is to be exported, though the types of all imports and of everything are too large together.
pub record AreTooLarge (c : Config) (imports_size : ℕ) (k : Spaces) : Type 0 where
  pub all : c.export_everything ≡ true
  pub larger : c.max_type_size < imports_size + items_size k (everything k)
