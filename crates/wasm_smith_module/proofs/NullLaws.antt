-- Tables and globals of references that can't be null come from shapes.
use Rattle.std.proofs.Common.{◌≡◌, ℕ, ◌+◌, Bool, true, false, not, ◌||◌, List, [], ◌∷◌, ◌++◌, map, length, Option, Some, None, Any, refl, sym, ap, ◌∙◌, subst, inl, inr, ◌⊎◌}
use Rattle.std.specs.List.{list_any}
use Rattle.std.proofs.lemmas.Bool.{or_right}
use Rattle.std.proofs.lemmas.List.Folds.{list_any-append, list_any-from_Any}
use Rattle.wasm_spec.specs.TypeReferences.{external_map, val_map}
use Rattle.wasm_spec.specs.Types.{ExternalType, FuncExternal, TableExternal, MemoryExternal, GlobalExternal, TagExternal, GlobalType, SubType, TableType, ValType, I32, I64, F32, F64, V128, Ref}
use Rattle.wasm_smith_config.specs.declared.config.Config.{Config}
use Rattle.wasm_smith_definitions.specs.Constants.{has_plain}
use Rattle.wasm_smith_definitions.specs.OwnItems.{OwnValue, globals_in, tables_in}
use Rattle.wasm_smith_externs.specs.ShapeExports.{moved_types}
use Rattle.wasm_smith_module.specs.Asked.{exports_in, exports_start, has_non_null, is_plain_item, items_in, own_of}
use Rattle.wasm_smith_module.specs.Building.{IsEnd}
use Rattle.wasm_smith_unstructured.specs.declared.error.Error.{Error}
use Rattle.wasm_smith_unstructured.specs.declared.error.Error.TheVariants as errors
use Rattle.wasm_smith_shapes.specs.Shapes.{NamedItem, ShapeValue, exported_items, imported_items}
use Rattle.wasm_smith_types.specs.Given.{export_shape, or_else}

-- an item of references that can't be null
abbrev pub is_non_null : ExternalType ℕ → Bool
is_non_null type = not (is_plain_item type)

abbrev type_of : NamedItem → ExternalType ℕ
type_of item = item.type

either : (b r q : Bool) → (r ≡ true → q ≡ true) → (b || r) ≡ true → (b || q) ≡ true
either true r q h e = refl
either false r q h e = h e

-- ---- among the items of exports

tables_lead : (f : ℕ → ℕ) (items : List NamedItem) → list_any (λ (t : TableType ℕ). not t.element_type.nullable) (tables_in (moved_types f items)) ≡ true → list_any is_non_null (map type_of items) ≡ true
tables_lead f [] e = e
tables_lead f (item ∷ items) e = go (tables_lead f items) item.type e
  where
    go : (list_any (λ (t : TableType ℕ). not t.element_type.nullable) (tables_in (moved_types f items)) ≡ true → list_any is_non_null (map type_of items) ≡ true) → (type : ExternalType ℕ) → list_any (λ (t : TableType ℕ). not t.element_type.nullable) (tables_in (external_map f type ∷ moved_types f items)) ≡ true
        → (is_non_null type || list_any is_non_null (map type_of items)) ≡ true
    go others (FuncExternal function) h = others h
    go others (TableExternal table) h = either (not table.element_type.nullable) _ _ others h
    go others (MemoryExternal memory) h = others h
    go others (GlobalExternal global) h = or_right (is_non_null (GlobalExternal global)) _ (others h)
    go others (TagExternal function) h = others h

plain_moved : (f : ℕ → ℕ) (type : ValType ℕ) → has_plain (val_map f type) ≡ has_plain type
plain_moved f I32 = refl
plain_moved f I64 = refl
plain_moved f F32 = refl
plain_moved f F64 = refl
plain_moved f V128 = refl
plain_moved f (Ref nullable heap) = refl

globals_lead : (f : ℕ → ℕ) (items : List NamedItem) → list_any (λ (t : GlobalType ℕ). not (has_plain t.value_type)) (globals_in (moved_types f items)) ≡ true → list_any is_non_null (map type_of items) ≡ true
globals_lead f [] e = e
globals_lead f (item ∷ items) e = go (globals_lead f items) item.type e
  where
    go : (list_any (λ (t : GlobalType ℕ). not (has_plain t.value_type)) (globals_in (moved_types f items)) ≡ true → list_any is_non_null (map type_of items) ≡ true) → (type : ExternalType ℕ) → list_any (λ (t : GlobalType ℕ). not (has_plain t.value_type)) (globals_in (external_map f type ∷ moved_types f items)) ≡ true
        → (is_non_null type || list_any is_non_null (map type_of items)) ≡ true
    go others (FuncExternal function) h = others h
    go others (TableExternal table) h = or_right (is_non_null (TableExternal table)) _ (others h)
    go others (MemoryExternal memory) h = others h
    go others (GlobalExternal global) h =
        either (not (has_plain global.value_type)) _ _ others (ap (λ b. not b || list_any (λ (t : GlobalType ℕ). not (has_plain t.value_type)) (globals_in (moved_types f items))) (sym (plain_moved f global.value_type)) ∙ h)
    go others (TagExternal function) h = others h

-- ---- among the items of all shapes

in_exports : (asked : Option ShapeValue) → list_any is_non_null (map type_of (exports_in asked)) ≡ true → list_any is_non_null (items_in asked) ≡ true
in_exports (Some shape) e = list_any-append is_non_null (imported_items shape) (exported_items shape) ∙ or_right (list_any is_non_null (imported_items shape)) _ e
in_exports None e = e

left_of : (a b : Bool) → a ≡ true → (a || b) ≡ true
left_of true b e = refl
left_of false b e = absurd cc

pub among_shapes : (c : Config) → list_any is_non_null (map type_of (exports_in (export_shape c))) ≡ true → has_non_null c ≡ true
among_shapes c e = go c.module_shape refl
  where
    whole : List (ExternalType ℕ)
    whole = items_in c.available_imports ++ items_in c.exports

    all : has_non_null c ≡ (list_any is_non_null (items_in c.module_shape) || list_any is_non_null (items_in c.available_imports ++ items_in c.exports))
    all = list_any-append is_non_null (items_in c.module_shape) (items_in c.available_imports ++ items_in c.exports)

    go : (asked : Option ShapeValue) → c.module_shape ≡ asked → has_non_null c ≡ true
    go (Some shape) is =
        let own : list_any is_non_null (items_in c.module_shape) ≡ true = in_exports c.module_shape (ap (λ m. list_any is_non_null (map type_of (exports_in m))) (is ∙ sym (ap (λ m. or_else m c.exports) is)) ∙ e) in
        all ∙ left_of _ _ own
    go None is =
        let other : list_any is_non_null (items_in c.exports) ≡ true = in_exports c.exports (ap (λ m. list_any is_non_null (map type_of (exports_in m))) (sym (ap (λ m. or_else m c.exports) is)) ∙ e) in
        all ∙ or_right _ _ (list_any-append is_non_null (items_in c.available_imports) (items_in c.exports) ∙ or_right _ _ other)

-- ---- own items

pub non_null_table : (c : Config) (types : List (SubType ℕ)) → Any (λ t. t.element_type.nullable ≡ false) (own_of c types).tables → has_non_null c ≡ true
non_null_table c types h =
    among_shapes c (tables_lead (λ r. exports_start c (length types) + r) (exports_in (export_shape c))
    (list_any-from_Any (λ (t : TableType ℕ). not t.element_type.nullable) (own_of c types).tables (h.0, h.1, h.2, h.3, ap not h.4)))

pub non_null_global : (c : Config) (types : List (SubType ℕ)) → Any (λ t. has_plain t.value_type ≡ false) (own_of c types).globals → has_non_null c ≡ true
non_null_global c types h =
    among_shapes c (globals_lead (λ r. exports_start c (length types) + r) (exports_in (export_shape c))
    (list_any-from_Any (λ (t : GlobalType ℕ). not (has_plain t.value_type)) (own_of c types).globals (h.0, h.1, h.2, h.3, ap not h.4)))

-- ---- refusals

pub tables_end : (c : Config) (types : List (SubType ℕ)) (own : OwnValue) (asked : List (TableType ℕ)) (e : Error) → asked ≡ own.tables → own ≡ own_of c types
    → (e ≡ errors.Memory) ⊎ ((e ≡ errors.EmptyChoose) × Any (λ t. t.element_type.nullable ≡ false) asked) → IsEnd c e
tables_end c types own asked e are is refused = elim refused [
  | inl memory ↦ rw memory tt
  | inr empty ↦ rw empty.0 (non_null_table c types (subst (Any (λ (t : TableType ℕ). t.element_type.nullable ≡ false)) (are ∙ ap (λ (v : OwnValue). v.tables) is) empty.1))
]

pub globals_end : (c : Config) (types : List (SubType ℕ)) (own : OwnValue) (asked : List (GlobalType ℕ)) (e : Error) → asked ≡ own.globals → own ≡ own_of c types
    → (e ≡ errors.Memory) ⊎ ((e ≡ errors.EmptyChoose) × Any (λ t. has_plain t.value_type ≡ false) asked) → IsEnd c e
globals_end c types own asked e are is refused = elim refused [
  | inl memory ↦ rw memory tt
  | inr empty ↦ rw empty.0 (non_null_global c types (subst (Any (λ (t : GlobalType ℕ). has_plain t.value_type ≡ false)) (are ∙ ap (λ (v : OwnValue). v.globals) is) empty.1))
]
