-- The index spaces after imports.
use Rattle.std.proofs.Common.{◌≡◌, ℕ, zero, suc, true, List, [], ◌∷◌, ◌++◌, map, refl, ◌∙◌, inl, inr, subst, Some}
use Rattle.std.specs.List.{AllByRecursion}
use Rattle.std.specs.Prelude.{slice_get}
use Rattle.std.proofs.lemmas.Bool.{and_parts}
use Rattle.wasm_spec.proofs.Places.{get_cases}
use Rattle.wasm_spec.specs.Features.{Features}
use Rattle.wasm_spec.specs.Syntax.{ImportEntry, Table, imported_by}
use Rattle.wasm_spec.specs.Types.{SubType, TableType, ExternalType, FuncExternal, TableExternal, MemoryExternal, GlobalExternal, TagExternal}
use Rattle.wasm_smith_config.specs.Config.{AreFeaturesOf}
use Rattle.wasm_smith_config.specs.declared.config.Config.{Config}
use Rattle.wasm_smith_definitions.specs.Bounds.{IsBoundedTable}
use Rattle.wasm_smith_externs.proofs.ImportLaws.{spaces_by_entries}
use Rattle.wasm_smith_externs.specs.Candidates.{IsOfferedImport}
use Rattle.wasm_smith_externs.specs.Imports.{of_import}
use Rattle.wasm_smith_externs.specs.Named.{all_named, types_of}
use Rattle.wasm_smith_definitions.proofs.FrameLaws.{kept_by}
use Rattle.wasm_smith_definitions.specs.Kinds.{of_table}
use Rattle.wasm_smith_definitions.specs.Steps.{IsStep, TablesKeep}
use Rattle.wasm_smith_module.specs.Elements.{AreNullable}
use Rattle.wasm_smith_types.proofs.ListLaws.{all_append}
use Rattle.wasm_smith_validity.specs.Rules.{KeepAll, is_table_type, keep_items, keeps_item}
use Rattle.wasm_smith_validity.specs.Spaces.{Spaces, spaces_after, spaces_after_all, with_item, with_items}

-- ---- what imports, tags and functions leave as it was

-- types, and what is made later
abbrev pub later : Spaces → Spaces
later k = record k { imported_functions = []; own_functions = []; tables = []; memories = []; tags = []; imported_globals = [] }

item_later : (k : Spaces) (item : ExternalType ℕ) → later (with_item k item) ≡ later k
item_later k (FuncExternal function) = refl
item_later k (TableExternal type) = refl
item_later k (MemoryExternal type) = refl
item_later k (GlobalExternal type) = refl
item_later k (TagExternal function) = refl

items_later : (k : Spaces) (items : List (ExternalType ℕ)) → later (with_items k items) ≡ later k
items_later k [] = refl
items_later k (item ∷ items) = items_later (with_item k item) items ∙ item_later k item

pub imports_later : (c : Config) (old new : Spaces) (entries : List ImportEntry) → IsStep c of_import old new entries → later new ≡ later old
imports_later c old new entries h = kept_by later c of_import old new entries (λ k entry. items_later k (imported_by entry)) h

-- ---- tables

last_is : {A : Type 0} (x y : A) (j : ℕ) → slice_get (x ∷ []) j ≡ Some y → x ≡ y
last_is x y zero e = cc
last_is x y (suc j) e = absurd cc

one_table : (c : Config) (k : Spaces) (new : TableType ℕ) → TablesKeep c k → ((features : Features) → AreFeaturesOf c features → is_table_type features k.types new ≡ true)
    → TablesKeep c (record k { tables = k.tables ++ new ∷ [] })
one_table c k new h keep index type at features f = elim (get_cases k.tables (new ∷ []) index type at) [
  | inl before ↦ h index type before features f
  | inr last ↦ let is : new ≡ type = last_is new type last.0 last.2 in subst (λ it. is_table_type features k.types it ≡ true) is (keep features f)
]

pub own_tables : (c : Config) (k : Spaces) (ts : List Table) → TablesKeep c k → ((features : Features) → AreFeaturesOf c features → KeepAll features k (map of_table ts))
    → TablesKeep c (spaces_after_all k (map of_table ts))
own_tables c k [] h keep = h
own_tables c k (t ∷ ts) h keep =
    own_tables c (spaces_after k (of_table t)) ts
    (one_table c k t.type h (λ features f. (and_parts (is_table_type features k.types t.type) _ (keep features f).0.type).0))
    (λ features f. (keep features f).1)

item_tables : (c : Config) (k : Spaces) (item : ExternalType ℕ) → TablesKeep c k → ((features : Features) → AreFeaturesOf c features → keeps_item features k item ≡ true)
    → TablesKeep c (with_item k item)
item_tables c k (FuncExternal function) h keep = h
item_tables c k (TableExternal type) h keep = one_table c k type h (λ features f. (and_parts (is_table_type features k.types type) _ (keep features f)).0)
item_tables c k (MemoryExternal type) h keep = h
item_tables c k (GlobalExternal type) h keep = h
item_tables c k (TagExternal function) h keep = h

items_tables : (c : Config) (k : Spaces) (items : List (ExternalType ℕ)) → TablesKeep c k → ((features : Features) → AreFeaturesOf c features → keep_items features k items ≡ true)
    → TablesKeep c (with_items k items)
items_tables c k [] h keep = h
items_tables c k (item ∷ items) h keep =
    let parts = λ (features : Features) (f : AreFeaturesOf c features). and_parts (keeps_item features k item) (keep_items features (with_item k item) items) (keep features f) in
    items_tables c (with_item k item) items (item_tables c k item h (λ features f. (parts features f).0)) (λ features f. (parts features f).1)

pub imported_tables : (c : Config) (k : Spaces) (entries : List ImportEntry) → TablesKeep c k → ((features : Features) → AreFeaturesOf c features → KeepAll features k (map of_import entries))
    → TablesKeep c (spaces_after_all k (map of_import entries))
imported_tables c k [] h keep = h
imported_tables c k (entry ∷ entries) h keep =
    imported_tables c (with_items k (imported_by entry)) entries
    (items_tables c k (imported_by entry) h (λ features f. (keep features f).0.1))
    (λ features f. (keep features f).1)

-- ---- tables whose elements may be null

abbrev IsNullable : TableType ℕ → Type 0
IsNullable type = type.element_type.nullable ≡ true

item_nullable : (c : Config) (types : List (SubType ℕ)) (k : Spaces) (item : ExternalType ℕ) → AreNullable k.tables → IsOfferedImport c types item → AreNullable (with_item k item).tables
item_nullable c types k (FuncExternal function) h offered = h
item_nullable c types k (TableExternal type) h offered = all_append IsNullable k.tables (type ∷ []) h (offered.element.nullable, tt)
item_nullable c types k (MemoryExternal type) h offered = h
item_nullable c types k (GlobalExternal type) h offered = h
item_nullable c types k (TagExternal function) h offered = h

items_nullable : (c : Config) (types : List (SubType ℕ)) (k : Spaces) (items : List (ExternalType ℕ)) → AreNullable k.tables → AllByRecursion (IsOfferedImport c types) items
    → AreNullable (with_items k items).tables
items_nullable c types k [] h offered = h
items_nullable c types k (item ∷ items) h offered = items_nullable c types (with_item k item) items (item_nullable c types k item h offered.0) offered.1

pub imported_nullable : (c : Config) (types : List (SubType ℕ)) (k : Spaces) (entries : List ImportEntry) → AreNullable k.tables
    → AllByRecursion (IsOfferedImport c types) (types_of (all_named entries)) → AreNullable (spaces_after_all k (map of_import entries)).tables
imported_nullable c types k entries h offered =
    subst (λ (it : Spaces). AreNullable it.tables) (spaces_by_entries k entries) (items_nullable c types k (types_of (all_named entries)) h offered)

pub own_nullable : (c : Config) (k : Spaces) (ts : List Table) → AreNullable k.tables → AllByRecursion (IsBoundedTable c) ts → AreNullable (spaces_after_all k (map of_table ts)).tables
own_nullable c k [] h bounded = h
own_nullable c k (t ∷ ts) h bounded = own_nullable c (spaces_after k (of_table t)) ts (all_append IsNullable k.tables (t.type ∷ []) h (bounded.0.nullable, tt)) bounded.1
