-- Judging imported items.
use Rattle.std.specs.Prelude.{◌≡◌, ◌≤◌, ◌+◌, ⊤, ℕ, true, false, List, [], ◌∷◌, ◌++◌, length, take, Option, Some, None, Result, Ok, Err}
use Rattle.wasm_core_types.specs.Limits as core
use Rattle.wasm_spec.specs.Features.{Features}
use Rattle.wasm_spec.specs.Limits.{Limit, TypeSize, most}
use Rattle.wasm_spec.specs.Syntax.{ImportEntry, Import, imported_by}
use Rattle.wasm_spec.specs.Types.{ExternalType, FuncType, ExternalKind, FuncKind, TableKind, MemoryKind, GlobalKind, TagKind}
use Rattle.wasm_validity.specs.Context.{Context, after_item, after_items, imports_of}
use Rattle.wasm_validity.specs.ImportedItems.{Imported, with_imports}
use Rattle.wasm_validity.specs.Entries.{OfImport}
use Rattle.wasm_validity.specs.Rules.{keeps_item, keep_items, item_measures, items_measures, name_measures, import_names, Passes, are_within}
use Rattle.wasmparser_error.specs.declared.error.Error.{Error}
use Rattle.wasmparser_error.specs.declared.error.ErrorKind.{ErrorKind}
use Rattle.wasmparser_error.specs.declared.error.ErrorKind.TheVariants as kinds
use Rattle.wasmparser_module_state.specs.Judging.{IsAt, IsLeft, HasItemsMore}

-- what a refusal of an imported item names
abbrev pub NamesItem : Features → Context → ExternalType ℕ → ErrorKind → Type 0
NamesItem features cx type kinds.Invalid = keeps_item features cx type ≡ false
NamesItem features cx type (kinds.Limit l) = Passes (core.limit l) (item_measures cx type)
NamesItem features cx type kinds.Memory = ⊤
NamesItem features cx type _ = ⊥

-- an item was accepted, and is known now
pub record AcceptsItem (features : Features) (old : Context) (type : ExternalType ℕ) (new : Context) : Type 0 where
  pub rule : keeps_item features old type ≡ true
  pub limits : are_within (item_measures old type) ≡ true
  pub known : new ≡ after_item old type

-- The result of a call that validates an imported item and adds it. After a refusal nothing more is known than before.
abbrev pub AddsItem : Features → Context → ExternalType ℕ → ℕ → Result (Unit {0}) Error → Context → Type 0
AddsItem features old type place (Ok x) new = AcceptsItem features old type new
AddsItem features old type place (Err e) new = NamesItem features old type e.kind × IsAt place e.kind e.offset × (new ≡ old)

-- ---- several items

-- The fault named by a refusal of imported items, each validated after those before it: a rule, or a limit on these numbers, which are measured of them and of
-- their names.
abbrev pub NamesItems : Features → Context → List (ExternalType ℕ) → List (Limit × ℕ) → ErrorKind → Type 0
NamesItems features cx types measured kinds.Invalid = keep_items features cx types ≡ false
NamesItems features cx types measured (kinds.Limit l) = Passes (core.limit l) measured
NamesItems features cx types measured kinds.Memory = ⊤
NamesItems features cx types measured _ = ⊥

-- items were accepted, and are known now
pub record AcceptsItems (features : Features) (old : Context) (types : List (ExternalType ℕ)) (measured : List (Limit × ℕ)) (new : Context) : Type 0 where
  pub rules : keep_items features old types ≡ true
  pub limits : are_within measured ≡ true
  pub known : new ≡ after_items old types

-- The result of a call that validates imported items and adds them; what holds after a refusal is given.
abbrev pub AddsItems : Features → Context → List (ExternalType ℕ) → List (Limit × ℕ) → ℕ → Type 0 → Result (Unit {0}) Error → Context → Type 0
AddsItems features old types measured place Left (Ok x) new = AcceptsItems features old types measured new
AddsItems features old types measured place Left (Err e) new = NamesItems features old types measured e.kind × IsAt place e.kind e.offset × Left

-- the numbers that are measured of items and their names
abbrev pub named_measures : Context → List (List ℕ) → List (ExternalType ℕ) → List (Limit × ℕ)
named_measures cx names types = name_measures names ++ items_measures cx types

-- The same of an item and its name, after a refusal of which nothing more is known.
abbrev pub AddsNamed : Features → Context → List ℕ → ExternalType ℕ → ℕ → Result (Unit {0}) Error → Context → Type 0
AddsNamed features old name type place result new = AddsItems features old (type ∷ []) (named_measures old (name ∷ []) (type ∷ [])) place (new ≡ old) result new

-- The same of the items of a group of imports, after a refusal of which some may stand.
abbrev pub AddsGroup : Features → Context → List (List ℕ) → List (ExternalType ℕ) → ℕ → Result (Unit {0}) Error → Context → Type 0
AddsGroup features old names types place result new = AddsItems features old types (named_measures old names types) place (HasItemsMore old new) result new

-- The same of the items of an entry of an import section. The entry itself isn't counted.
abbrev pub AddsImports : Features → Context → ImportEntry → ℕ → Result (Unit {0}) Error → Context → Type 0
AddsImports features old entry place result new =
    AddsItems features old (imported_by entry) (named_measures old (import_names entry) (imported_by entry)) place (IsLeft old (OfImport entry) new) result new

-- The names of an entry's imports that are kept. After a refusal of an import the names are as before; of a group it is open which are kept.
abbrev pub NamesImports : Context → ImportEntry → List Imported → Result (Unit {0}) Error → List Imported → Type 0
NamesImports cx entry old (Ok x) new = new ≡ with_imports old (imports_of cx entry)
NamesImports cx (Import origin name type) old (Err e) new = new ≡ old
NamesImports cx entry old (Err e) new = ⊤

-- the items of a kind that come before this index alone, and types that count so much
abbrev pub cut_off : Context → ExternalKind → ℕ → ℕ → Context
cut_off cx FuncKind index size = record cx { imported_functions = take index cx.imported_functions; type_size = size }
cut_off cx TableKind index size = record cx { tables = take index cx.tables; type_size = size }
cut_off cx MemoryKind index size = record cx { memories = take index cx.memories; type_size = size }
cut_off cx GlobalKind index size = record cx { imported_globals = take index cx.imported_globals; type_size = size }
cut_off cx TagKind index size = record cx { tags = take index cx.tags; type_size = size }

-- ---- sizes

-- The size of a function type, or where it passes the limit on sizes some number that does.
pub record IsSizeUpTo {R : Type 0} (type : FuncType R) (size : ℕ) : Type 0 where
  pub exact : size ≤ most TypeSize → size ≡ 2 + (length type.params + length type.results)
  pub large : 2 + (length type.params + length type.results) ≤ most TypeSize → size ≤ most TypeSize

-- the same of a type that an index names, if it names one
abbrev pub IsTypeSize : {R : Type 0} → Option (FuncType R) → Option ℕ → Type 0
IsTypeSize None None = ⊤
IsTypeSize (Some type) (Some size) = IsSizeUpTo type size
IsTypeSize _ _ = ⊥
