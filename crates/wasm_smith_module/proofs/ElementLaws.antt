-- Element segments keep their rule under the features of a configuration.
use Rattle.std.proofs.Common.{◌≡◌, ℕ, zero, suc, ◌+◌, ◌<◌, Bool, true, false, ◌&&◌, ◌||◌, List, [], ◌∷◌, length, map, refl, sym, ◌∙◌, inl, inr, ◌⊎◌, arith, Some, None, slice_get, if◌then◌else◌}
use Rattle.std.specs.List.{AllByRecursion}
use Rattle.std.specs.Option.{unwrap_or}
use Rattle.std.proofs.lemmas.Bool.{and_from, and_parts, or_cases}
use Rattle.wasm_spec.specs.Constants.{ConstantExpression}
use Rattle.wasm_spec.specs.Features.{Features, has, ReferenceTypes, BulkMemory}
use Rattle.wasm_spec.specs.Gates.{is_allowed}
use Rattle.wasm_spec.specs.Subtyping.{same}
use Rattle.wasm_spec.specs.Syntax.{ActiveElement, ElementItems, FunctionItems, ExpressionItems}
use Rattle.wasm_spec.specs.Types.{Func, HeapType, Abstract, Concrete, RefType, SubType, TableType}
use Rattle.wasm_spec.proofs.Places.{get_some, all_get}
use Rattle.wasm_validity.specs.Context.{element_type}
use Rattle.wasm_validity.specs.Rules.{value_of}
use Rattle.wasm_validity.specs.TypeRules.{is_funcref}
use Rattle.wasm_smith_config.specs.Config.{AreFeaturesOf}
use Rattle.wasm_smith_config.specs.declared.config.Config.{Config}
use Rattle.wasm_smith_definitions.specs.Constants.{Gives, MayWrite}
use Rattle.wasm_smith_definitions.specs.Items.{element_mode, expression, written_table}
use Rattle.wasm_smith_definitions.specs.Kinds.{of_element}
use Rattle.wasm_smith_definitions.specs.Steps.{Allows, TablesKeep}
use Rattle.wasm_smith_definitions.specs.declared.constant.Constant.{Constant}
use Rattle.wasm_smith_definitions.specs.declared.segments.ElementMode.{ElementMode}
use Rattle.wasm_smith_definitions.specs.declared.segments.ElementMode.TheVariants as modes
use Rattle.wasm_smith_module.specs.Elements.{AreItems, AreNullable, AreOf, IsElementType}
use Rattle.wasm_smith_validity.specs.Constants.{IsBelow, IsConstant, scope}
use Rattle.wasm_smith_validity.specs.Rules.{index_type, is_table_type}
use Rattle.wasm_smith_validity.specs.Spaces.{Spaces, is_named}

-- ---- items

all_given : (c : Config) (k : Spaces) (type : _) (constants : List Constant) → AllByRecursion (λ constant. Gives c k type (expression constant)) constants → (features : Features) → AreFeaturesOf c features
    → AllByRecursion (IsConstant features (scope features k) type) (map expression constants)
all_given c k type [] h features f = tt
all_given c k type (x ∷ xs) h features f = (h.0 features f, all_given c k type xs h.1 features f)

pub expressions_are : (c : Config) (k : Spaces) (type : RefType ℕ) (constants : List Constant) → MayWrite c k (value_of type) → AllByRecursion (λ constant. Gives c k (value_of type) (expression constant)) constants
    → AreItems c k type (ExpressionItems type (map expression constants))
expressions_are c k type constants written h = record { keep = λ features f. (written features f, all_given c k (value_of type) constants h features f); are = λ features f. refl }

-- ---- types

func_is : (nullable : Bool) (heap : HeapType ℕ) → is_funcref (record { nullable = nullable; heap_type = heap }) ≡ true → (nullable ≡ true) × (heap ≡ Abstract Func)
func_is true (Abstract Func) e = (refl, refl)
func_is true (Abstract _) e = absurd cc
func_is true (Concrete index) e = absurd cc
func_is false heap e = absurd cc

func_value : (features : Features) (k : Spaces) (type : RefType ℕ) → is_funcref type ≡ true → has features ReferenceTypes ≡ true → (is_allowed features (value_of type) && is_named k.types type.heap_type) ≡ true
func_value features k type e on = let is = func_is type.nullable type.heap_type e in rw (is.0, is.1, on) refl

no_false : false ≡ true → ⊥
no_false e = cc

-- the type of a table whose type may be written
pub table_element : (c : Config) (k : Spaces) (type : TableType ℕ) → ((features : Features) → AreFeaturesOf c features → is_table_type features k.types type ≡ true) → IsElementType c k type.element_type
table_element c k type h = record {
  written = λ on features f.
      let parts = and_parts (is_funcref type.element_type || is_allowed features (value_of type.element_type)) _ (and_parts _ _ (h features f)).0 in
      elim (or_cases (is_funcref type.element_type) _ parts.0) [
        | inl func ↦ func_value features k type.element_type func (f ReferenceTypes ∙ on)
        | inr allowed ↦ and_from _ _ allowed parts.1
      ];
  functions = λ features f off.
      let parts = and_parts (is_funcref type.element_type || is_allowed features (value_of type.element_type)) _ (and_parts _ _ (h features f)).0 in
      elim (or_cases (is_funcref type.element_type) _ parts.0) [
        | inl func ↦ func
        | inr allowed ↦ absurd (no_false (sym (f ReferenceTypes ∙ off) ∙ (and_parts (has features ReferenceTypes) _ allowed).0))
      ];
}

true_is_not_false : (b : Bool) → b ≡ true → b ≡ false → ⊥
true_is_not_false b on off = no_false (sym off ∙ on)

-- the elements of one of the tables can't be null
pub not_nullable : (tables : List (TableType ℕ)) (index : ℕ) (type : TableType ℕ) → slice_get tables index ≡ Some type → type.element_type.nullable ≡ false → ¬ (AreNullable tables)
not_nullable tables index type at off all = true_is_not_false type.element_type.nullable (all_get (λ type. type.element_type.nullable ≡ true) tables all index type at) off

-- ---- segments

pub written_back : (table : ℕ) (items : ElementItems) → unwrap_or (written_table table items) 0 ≡ table
written_back zero (FunctionItems functions) = refl
written_back zero (ExpressionItems type expressions) = unwritten (is_funcref type)
  where
    unwritten : (b : Bool) → unwrap_or (if b then None else Some zero) zero ≡ zero
    unwritten true = refl
    unwritten false = refl
written_back (suc table) items = refl

itself : (types : List (SubType ℕ)) (type : RefType ℕ) → IsBelow types (value_of type) (value_of type)
itself types type = record { null = λ e. e; heap = same }

items_below : (types : List (SubType ℕ)) (type : RefType ℕ) (items : ElementItems) → AreOf type items → IsBelow types (value_of (element_type items)) (value_of type)
items_below types type (FunctionItems functions) are = let is = func_is type.nullable type.heap_type are in rw (is.0, is.1) (record { null = λ e. refl; heap = same })
items_below types type (ExpressionItems own expressions) are = rw are (itself types type)

pub active_element : (c : Config) (k : Spaces) (table : ℕ) (type : TableType ℕ) (items : ElementItems) (offset : ConstantExpression) → slice_get k.tables table ≡ Some type → AreItems c k type.element_type items
    → Gives c k (index_type type.limits.is_64) offset → Allows c k (of_element (record { mode = ActiveElement (written_table table items) offset; items = items }))
active_element c k table type items offset at are gives features f = record {
  items = are.keep features f;
  mode = rw (written_back table items, at) (items_below k.types type.element_type items (are.are features f), gives features f);
}

none_is_some : {A : Type 0} (x : A) → None ≡ Some x → ⊥
none_is_some x e = cc

-- where a drawn index is that of no table there is bulk memory
pub bulk_on : (bulk : Bool) (tables : List (TableType ℕ)) (index others : ℕ) → others ≡ (if bulk then 2 else 0) → index < length tables + others → None ≡ slice_get tables index → bulk ≡ true
bulk_on true tables index others offered lt none = refl
bulk_on false tables index others offered lt none =
    let within : index < length tables = omega arith in
    let at = get_some tables index within in absurd (none_is_some at.0 (none ∙ at.1))

pub other_element : (c : Config) (k : Spaces) (mode : ElementMode) (items : ElementItems) (type : RefType ℕ) → (mode ≡ modes.Passive) ⊎ (mode ≡ modes.Declared) → c.bulk_memory_enabled ≡ true → AreItems c k type items
    → Allows c k (of_element (record { mode = element_mode mode items; items = items }))
other_element c k mode items type (inl is) bulk are features f = record { items = are.keep features f; mode = rw is (f BulkMemory ∙ bulk) }
other_element c k mode items type (inr is) bulk are features f = record { items = are.keep features f; mode = rw is (f BulkMemory ∙ bulk) }

-- ---- one segment more

pub tables_keep_more : (c : Config) (k new : Spaces) (n : ℕ) → new ≡ record k { element_segments = n } → TablesKeep c k → TablesKeep c new
tables_keep_more c k new n e h index type at features f = rw e (h index type (rw e at at) features f)
