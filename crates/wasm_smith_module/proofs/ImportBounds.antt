-- The bounds that drawn imports leave for items of the module's own, and those of a shape.
use Rattle.std.proofs.Common.{◌≡◌, ℕ, ◌+◌, ◌-◌, ◌≤◌, ◌^◌, not, List, [], length, max, min, Option, Some, None, is_some, refl, sym, ap, ◌∙◌, subst, arith, if◌then◌else◌}
use Rattle.std.specs.List.{AllByRecursion, flat_map}
use Rattle.std.proofs.lemmas.Bool.{ltb-false}
use Rattle.wasm_spec.specs.Syntax.{ImportEntry, imported_by}
use Rattle.wasm_spec.specs.Types.{ExternalKind, FuncKind, TableKind, MemoryKind, GlobalKind, TagKind, SubType}
use Rattle.wasm_smith_config.specs.Config.{IsGood, at_least}
use Rattle.wasm_smith_config.specs.declared.config.Config.{Config}
use Rattle.wasm_smith_definitions.specs.Kinds.{count_of}
use Rattle.wasm_smith_externs.proofs.ImportLaws.{spaces_by_entries}
use Rattle.wasm_smith_externs.proofs.ShapeImportLaws.{all_types, imports_made}
use Rattle.wasm_smith_externs.specs.Bounds.{most_in, most_of, own_size}
use Rattle.wasm_smith_externs.specs.Candidates.{type_sizes}
use Rattle.wasm_smith_externs.specs.Imports.{AreGrownImports, IsMadeEntry}
use Rattle.wasm_smith_externs.specs.Named.{all_named, types_of}
use Rattle.wasm_smith_externs.specs.ShapeImports.{shape_imports_at}
use Rattle.wasm_smith_externs.specs.declared.names.DuplicateImportsBehavior.{DuplicateImportsBehavior}
use Rattle.wasm_smith_module.specs.Asked.{import_bounds, imports_start, own_of}
use Rattle.wasm_smith_module.specs.Bounds.{own_count}
use Rattle.wasm_smith_module.specs.Building.{AreImports, AreImportsFrom}
use Rattle.wasm_smith_shapes.specs.Shapes.{ShapeValue}
use Rattle.wasm_smith_types.specs.Given.{import_shape}
use Rattle.wasm_smith_validity.specs.Spaces.{Spaces, spaces_of_types, with_items}

pub size_small : (c : Config) → IsGood c → c.max_type_size ≤ 2 ^ 31
size_small c good = ltb-false (2 ^ 31) c.max_type_size (good 23 (at_least [] 0 0) (omega arith))

-- how many items of a kind are imported where a shape has the imports
abbrev pub given_imports : Option ShapeValue → Spaces → ExternalKind → ℕ
given_imports asked imported kind = if is_some asked then count_of imported kind else 0

-- the size of the types of imports where a shape has them
abbrev pub given_imports_size : Option ShapeValue → ℕ → ℕ
given_imports_size asked size = if is_some asked then size else 0

module _ (c : Config) (duplicates : DuplicateImportsBehavior) (types : List (SubType ℕ)) (s : List ℕ) (new : Spaces) (left : List ℕ) (entries : List ImportEntry)
    (h : AreImports c duplicates (spaces_of_types types) s new left entries) where
  pub imported_are : new ≡ with_items (spaces_of_types types) (flat_map imported_by entries)
  imported_are = h.step.known ∙ sym (spaces_by_entries (spaces_of_types types) entries) ∙ ap (with_items (spaces_of_types types)) (all_types entries)

  pub drawn_imports : import_shape c ≡ None → AreGrownImports c (import_bounds c types) duplicates (spaces_of_types types) s new left entries
  drawn_imports none = subst (λ x. AreImportsFrom x c duplicates (spaces_of_types types) s new left entries) none h.origin

  pub given_entries : (shape : ShapeValue) → import_shape c ≡ Some shape
      → ◌≡◌ {A = List ImportEntry × List ℕ} (entries, left) (shape_imports_at (not (is_some c.module_shape)) c.compact_imports_enabled (λ index. imports_start c (length types) + index) shape.imports s)
  given_entries shape asked = subst (λ x. AreImportsFrom x c duplicates (spaces_of_types types) s new left entries) asked h.origin

  -- drawn imports leave room for own items
  room_left : import_shape c ≡ None → (kind : ExternalKind) → count_of new kind ≤ most_of c kind - own_count (own_of c types) kind
  room_left none kind = go kind ((drawn_imports none).bounded.room kind)
    where
      go : (kind : ExternalKind) → count_of new kind ≤ max (most_in (import_bounds c types) kind) (count_of (spaces_of_types types) kind) → count_of new kind ≤ most_of c kind - own_count (own_of c types) kind
      go FuncKind room = omega (arith, room)
      go TableKind room = omega (arith, room)
      go MemoryKind room = omega (arith, room)
      go GlobalKind room = omega (arith, room)
      go TagKind room = omega (arith, room)

  -- a number that is bounded by what is imported and own is bounded by what comes from shapes
  pub counted_within : (kind : ExternalKind) (most all : ℕ) → most ≡ most_of c kind → all ≤ max most (count_of new kind + own_count (own_of c types) kind)
      → all ≤ max most (given_imports (import_shape c) new kind + own_count (own_of c types) kind)
  counted_within kind most all is few = go (import_shape c) refl
    where
      go : (asked : Option ShapeValue) → import_shape c ≡ asked → all ≤ max most (given_imports asked new kind + own_count (own_of c types) kind)
      go (Some shape) e = few
      go None e = let room = room_left e kind in omega (arith, few, room, is)

  -- so is a size
  pub sized_within : (exported : ℕ) → exported ≡ own_size types (own_of c types)
      → type_sizes types (types_of (all_named entries)) + exported
      ≤ max c.max_type_size (given_imports_size (import_shape c) (type_sizes types (types_of (all_named entries))) + exported)
  sized_within exported is = go (import_shape c) refl
    where
      go : (asked : Option ShapeValue) → import_shape c ≡ asked
          → type_sizes types (types_of (all_named entries)) + exported ≤ max c.max_type_size (given_imports_size asked (type_sizes types (types_of (all_named entries))) + exported)
      go (Some shape) e = omega arith
      go None e =
          let size : type_sizes types (types_of (all_named entries)) ≤ c.max_type_size - own_size types (own_of c types) = (drawn_imports e).bounded.size in
          omega (arith, size, is)

  -- where exports are drawn, they take what imports leave
  pub sized_beside : IsGood c → (imports exported : ℕ) → imports ≡ min (type_sizes types (types_of (all_named entries))) (2 ^ 64 - 1) → exported ≤ c.max_type_size - imports
      → type_sizes types (types_of (all_named entries)) + exported
      ≤ max c.max_type_size (given_imports_size (import_shape c) (type_sizes types (types_of (all_named entries))) + 0)
  sized_beside good imports exported is size = go (import_shape c) refl
    where
      small : c.max_type_size ≤ 2 ^ 31
      small = size_small c good

      go : (asked : Option ShapeValue) → import_shape c ≡ asked
          → type_sizes types (types_of (all_named entries)) + exported ≤ max c.max_type_size (given_imports_size asked (type_sizes types (types_of (all_named entries))) + 0)
      go (Some shape) e = omega (arith, is, size, small)
      go None e =
          let drawn : type_sizes types (types_of (all_named entries)) ≤ c.max_type_size - own_size types (own_of c types) = (drawn_imports e).bounded.size in
          omega (arith, is, size, small, drawn)

  -- each entry has an import, and the form that is allowed
  pub entries_made : AllByRecursion (IsMadeEntry c) entries
  entries_made = go (import_shape c) refl
    where
      go : (asked : Option ShapeValue) → import_shape c ≡ asked → AllByRecursion (IsMadeEntry c) entries
      go (Some shape) e =
          let are = ap (λ (x : List ImportEntry × List ℕ). x.0) (given_entries shape e) in
          subst (AllByRecursion (IsMadeEntry c)) (sym are) (imports_made (not (is_some c.module_shape)) (λ index. imports_start c (length types) + index) shape.imports s c)
      go None e = (drawn_imports e).bounded.made
