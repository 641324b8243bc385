-- Without tables of references that can't be null in shapes, no imported and no own table is one.
use Rattle.std.proofs.Common.{◌≡◌, ℕ, ◌+◌, Bool, true, false, not, List, [], ◌∷◌, ◌++◌, map, length, Option, Some, None, refl, sym, ap, ◌∙◌, subst}
use Rattle.std.specs.List.{AllByRecursion, list_any}
use Rattle.std.proofs.lemmas.Bool.{or_parts}
use Rattle.wasm_spec.specs.Syntax.{ImportEntry}
use Rattle.wasm_spec.specs.TypeReferences.{external_map}
use Rattle.wasm_spec.specs.Types.{ExternalType, FuncExternal, TableExternal, MemoryExternal, GlobalExternal, TagExternal, SubType, TableType}
use Rattle.wasm_smith_config.specs.declared.config.Config.{Config}
use Rattle.wasm_smith_definitions.proofs.ImportCounts.{tables_after}
use Rattle.wasm_smith_definitions.specs.OwnItems.{tables_in}
use Rattle.wasm_smith_definitions.specs.Parts.{IsPart, none, kept, left_out}
use Rattle.wasm_smith_externs.specs.ShapeExports.{moved_types}
use Rattle.wasm_smith_externs.specs.declared.names.DuplicateImportsBehavior.{DuplicateImportsBehavior}
use Rattle.wasm_smith_module.proofs.ImportedLaws.{imported_nullable}
use Rattle.wasm_smith_module.proofs.OwnKeepLaws.{imported_from}
use Rattle.wasm_smith_module.proofs.OwnLaws.{moved_items}
use Rattle.wasm_smith_module.specs.Asked.{exports_in, exports_start, has_non_null, imports_start, is_plain_item, items_in, own_of}
use Rattle.wasm_smith_module.specs.Building.{AreImports, AreImportsFrom}
use Rattle.wasm_smith_module.specs.Elements.{AreNullable}
use Rattle.wasm_smith_shapes.specs.Shapes.{ShapeValue, exported_items, imported_items}
use Rattle.wasm_smith_types.proofs.ListLaws.{all_append}
use Rattle.wasm_smith_types.specs.Given.{export_shape, import_shape, or_else}
use Rattle.wasm_smith_validity.specs.Spaces.{Spaces, spaces_of_types}

-- ---- items of references that may be null

abbrev ArePlain : List (ExternalType ℕ) → Type 0
ArePlain items = AllByRecursion (λ item. is_plain_item item ≡ true) items

pub all_parts : {A : Type 0} (P : A → Type 0) (xs ys : List A) → AllByRecursion P (xs ++ ys) → AllByRecursion P xs × AllByRecursion P ys
all_parts P [] ys all = (tt, all)
all_parts P (x ∷ xs) ys all = let others = all_parts P xs ys all.1 in ((all.0, others.0), others.1)

pub all_chosen : {A : Type 0} (P : A → Type 0) {chosen items : List A} → IsPart chosen items → AllByRecursion P items → AllByRecursion P chosen
all_chosen P none all = tt
all_chosen P (kept part) all = (all.0, all_chosen P part all.1)
all_chosen P (left_out part) all = all_chosen P part all.1

is_not : (b : Bool) → not b ≡ false → b ≡ true
is_not true e = refl
is_not false e = absurd cc

none_non_null : (items : List (ExternalType ℕ)) → list_any (λ item. not (is_plain_item item)) items ≡ false → ArePlain items
none_non_null [] e = tt
none_non_null (item ∷ items) e =
    let parts = or_parts (not (is_plain_item item)) (list_any (λ item. not (is_plain_item item)) items) e in
    (is_not (is_plain_item item) parts.0, none_non_null items parts.1)

module _ (c : Config) (plain : has_non_null c ≡ false) where
  parts : ArePlain (items_in c.module_shape) × ArePlain (items_in c.available_imports ++ items_in c.exports)
  parts = all_parts (λ item. is_plain_item item ≡ true) (items_in c.module_shape) (items_in c.available_imports ++ items_in c.exports) (none_non_null _ plain)

  others : ArePlain (items_in c.available_imports) × ArePlain (items_in c.exports)
  others = all_parts (λ item. is_plain_item item ≡ true) (items_in c.available_imports) (items_in c.exports) parts.1

  in_shape : (shape : ShapeValue) → ArePlain (items_in (Some shape)) → ArePlain (imported_items shape) × ArePlain (exported_items shape)
  in_shape shape all = all_parts (λ item. is_plain_item item ≡ true) (imported_items shape) (exported_items shape) all

  imports_plain : (shape : ShapeValue) → import_shape c ≡ Some shape → ArePlain (imported_items shape)
  imports_plain shape asked = go c.module_shape refl
    where
      go : (m : Option ShapeValue) → c.module_shape ≡ m → ArePlain (imported_items shape)
      go (Some whole) e = (in_shape shape (subst (λ x. ArePlain (items_in x)) (e ∙ sym (ap (λ m. or_else m c.available_imports) e) ∙ asked) parts.0)).0
      go None e = (in_shape shape (subst (λ x. ArePlain (items_in x)) (sym (ap (λ m. or_else m c.available_imports) e) ∙ asked) others.0)).0

  exports_plain : (shape : ShapeValue) → export_shape c ≡ Some shape → ArePlain (exported_items shape)
  exports_plain shape asked = go c.module_shape refl
    where
      go : (m : Option ShapeValue) → c.module_shape ≡ m → ArePlain (exported_items shape)
      go (Some whole) e = (in_shape shape (subst (λ x. ArePlain (items_in x)) (e ∙ sym (ap (λ m. or_else m c.exports) e) ∙ asked) parts.0)).1
      go None e = (in_shape shape (subst (λ x. ArePlain (items_in x)) (sym (ap (λ m. or_else m c.exports) e) ∙ asked) others.1)).1

-- ---- their tables

pub nullable_front : (xs ys : List (TableType ℕ)) → AreNullable xs → AreNullable ys → AreNullable (xs ++ ys)
nullable_front xs ys h g = all_append (λ (type : TableType ℕ). type.element_type.nullable ≡ true) xs ys h g

plain_tables : (f : ℕ → ℕ) (items : List (ExternalType ℕ)) → ArePlain items → AreNullable (tables_in (map (external_map f) items))
plain_tables f [] all = tt
plain_tables f (FuncExternal function ∷ items) all = plain_tables f items all.1
plain_tables f (TableExternal type ∷ items) all = (all.0, plain_tables f items all.1)
plain_tables f (MemoryExternal type ∷ items) all = plain_tables f items all.1
plain_tables f (GlobalExternal type ∷ items) all = plain_tables f items all.1
plain_tables f (TagExternal function ∷ items) all = plain_tables f items all.1

module _ (c : Config) (plain : has_non_null c ≡ false) where
  pub own_plain : (types : List (SubType ℕ)) → AreNullable (own_of c types).tables
  own_plain types = go (export_shape c) refl
    where
      f : ℕ → ℕ
      f = λ r. exports_start c (length types) + r

      go : (asked : Option ShapeValue) → export_shape c ≡ asked → AreNullable (own_of c types).tables
      go (Some shape) e =
          subst (λ items. AreNullable (tables_in items)) (sym (ap (λ x. moved_types f (exports_in x)) e ∙ moved_items f shape.exports))
          (plain_tables f (exported_items shape) (exports_plain c plain shape e))
      go None e = subst (λ items. AreNullable (tables_in items)) (sym (ap (λ x. moved_types f (exports_in x)) e)) tt

  pub imported_plain : (duplicates : DuplicateImportsBehavior) (types : List (SubType ℕ)) (s : List ℕ) (new : Spaces) (left : List ℕ) (entries : List ImportEntry)
      → AreImports c duplicates (spaces_of_types types) s new left entries → AreNullable new.tables
  imported_plain duplicates types s new left entries h = go (import_shape c) refl
    where
      go : (asked : Option ShapeValue) → import_shape c ≡ asked → AreNullable new.tables
      go (Some shape) e =
          let imported = imported_from c duplicates types s new left entries shape e h in
          let f : ℕ → ℕ = λ r. imports_start c (length types) + r in
          let are : new.tables ≡ tables_in (map (external_map f) imported.chosen) =
          ap (λ (k : Spaces). k.tables) imported.known ∙ tables_after (spaces_of_types types) (map (external_map f) imported.chosen) in
          subst AreNullable (sym are) (plain_tables f imported.chosen (all_chosen (λ item. is_plain_item item ≡ true) imported.part (imports_plain c plain shape e)))
      go None e =
          let drawn = subst (λ x. AreImportsFrom x c duplicates (spaces_of_types types) s new left entries) e h.origin in
          subst (λ (k : Spaces). AreNullable k.tables) (sym h.step.known) (imported_nullable c types (spaces_of_types types) entries tt drawn.bounded.offered)
