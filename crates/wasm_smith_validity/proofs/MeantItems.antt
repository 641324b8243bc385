-- Rules on items by index, in the context that is meant.
use Rattle.std.proofs.Common.{◌≡◌, ℕ, Bool, true, false, ◌&&◌, List, [], ◌∷◌, option_map, refl, ap, sym, ◌∙◌, Some, None, Option, is_some, subst}
use Rattle.std.specs.List.{AllByRecursion, slice_get}
use Rattle.std.specs.Option.{unwrap_or}
use Rattle.std.proofs.lemmas.Bool.{and_parts}
use Rattle.std.proofs.lemmas.List.{length-map}
use Rattle.wasm_spec.specs.Constants.{ConstantExpression}
use Rattle.wasm_spec.specs.Features.{Features}
use Rattle.wasm_spec.specs.Syntax.{Table, Global, Export, ElementMode, ActiveElement, PassiveElement, DeclaredElement, ElementItems, FunctionItems, ExpressionItems, ElementSegment, DataMode, ActiveData, PassiveData}
use Rattle.wasm_spec.specs.Trees.{type_at}
use Rattle.wasm_spec.specs.TypeReferences.{val_map, func_map}
use Rattle.wasm_spec.specs.Types.{ValType, I32, I64, FuncType, SubType, MemoryType, TableType, ExternalType, FuncExternal, TableExternal, MemoryExternal, GlobalExternal, TagExternal, ExternalKind, FuncKind, TableKind, MemoryKind, GlobalKind, TagKind}
use Rattle.wasm_spec.proofs.GroupTrees.{Stand}
use Rattle.wasm_validity.specs.ConstantTyping.{IsConstantFor, IsConstantOf}
use Rattle.wasm_validity.specs.Context.{Context, functions_in, after_item, element_type, item_at as item_in}
use Rattle.wasm_validity.specs.DefinedTypes.{func_type_at as defined_at}
use Rattle.wasm_validity.specs.Rules as rules
use Rattle.wasm_validity.specs.TypeRules as types
use Rattle.wasm_validity.specs.Rules.{value_of}
use Rattle.wasm_smith_validity.specs.Constants.{Scope, scope, imported_scope, IsConstant}
use Rattle.wasm_smith_validity.specs.Rules.{keeps_table, keeps_tag, keeps_item, keep_items, IsInitialised, KeepsOwnTable, KeepsGlobal, index_type, KeepsItems, FitsTable, KeepsElementMode, KeepsElement, FitsMemory, KeepsData, item_at, keeps_export, is_unit, starts}
use Rattle.wasm_smith_validity.specs.Spaces.{Spaces, func_type_at}
use Rattle.wasm_smith_validity.proofs.IndexedContext.{by_index, item_after, item_types}
use Rattle.wasm_smith_validity.proofs.MeantConstants.{IsScope, is_scope, is_imported_scope, constant_as, constant_for}
use Rattle.wasm_smith_validity.proofs.MeantTypes.{is_named_value, named_as, value_as, named_of, meant_as, func_meant, value_named_above, below_as}

-- ---- types of items

pub table_as : (features : Features) (ts : List (SubType ℕ)) (cx : Context) → Stand ts cx.types → (type : TableType ℕ)
    → rules.keeps_table features cx type ≡ keeps_table features (by_index ts cx) type
table_as features ts cx stand type = rw (named_as ts cx stand type.element_type.heap_type) refl

pub function_as : (ts : List (SubType ℕ)) (cx : Context) → Stand ts cx.types → (index : ℕ) → is_some (defined_at cx.types index) ≡ is_some (func_type_at ts index)
function_as ts cx stand index = rw (func_meant ts cx.types stand index) (still (func_type_at ts index))
  where
    still : (o : Option (FuncType ℕ)) → is_some (option_map (func_map (type_at cx.types)) o) ≡ is_some o
    still None = refl
    still (Some type) = refl

tag_is : (features : Features) (ts : List (SubType ℕ)) (cx : Context) → Stand ts cx.types → (index : ℕ) (o : Option (FuncType ℕ)) → func_type_at ts index ≡ o
    → types.is_tag_type features cx index ≡ keeps_tag features (by_index ts cx) index
tag_is features ts cx stand index None e = rw (func_meant ts cx.types stand index, e) refl
tag_is features ts cx stand index (Some type) e = rw (func_meant ts cx.types stand index, e, length-map type.results (val_map (type_at cx.types))) refl

pub tag_as : (features : Features) (ts : List (SubType ℕ)) (cx : Context) → Stand ts cx.types → (index : ℕ)
    → types.is_tag_type features cx index ≡ keeps_tag features (by_index ts cx) index
tag_as features ts cx stand index = tag_is features ts cx stand index (func_type_at ts index) refl

item_as : (features : Features) (ts : List (SubType ℕ)) (cx : Context) → Stand ts cx.types → (type : ExternalType ℕ)
    → rules.keeps_item features cx type ≡ keeps_item features (by_index ts cx) type
item_as features ts cx stand (FuncExternal function) = function_as ts cx stand function
item_as features ts cx stand (TableExternal type) = table_as features ts cx stand type
item_as features ts cx stand (MemoryExternal type) = refl
item_as features ts cx stand (GlobalExternal type) = rw (value_as features ts cx stand type.value_type) refl
item_as features ts cx stand (TagExternal function) = tag_as features ts cx stand function

pub items_as : (features : Features) (ts : List (SubType ℕ)) (cx : Context) → Stand ts cx.types → (items : List (ExternalType ℕ))
    → rules.keep_items features cx items ≡ keep_items features (by_index ts cx) items
items_as features ts cx stand [] = refl
items_as features ts cx stand (type ∷ items) =
    ap (λ first. first && rules.keep_items features (after_item cx type) items) (item_as features ts cx stand type)
    ∙ ap (λ others. keeps_item features (by_index ts cx) type && others)
    (items_as features ts (after_item cx type) (subst (Stand ts) (sym (item_types cx type)) stand) items ∙ ap (λ k. keep_items features k items) (item_after ts cx type))

-- ---- tables and globals

pub element_named : (features : Features) (k : Spaces) (type : TableType ℕ) → keeps_table features k type ≡ true → is_named_value k.types (value_of type.element_type) ≡ true
element_named features k type e = (and_parts _ _ (and_parts _ _ (and_parts _ _ e).0).0).1

initialised_as : (features : Features) (cx : Context) (s : Scope) → IsScope features cx s → (type : ValType ℕ) (initialiser : Option ConstantExpression)
    → is_named_value s.types type ≡ true → IsInitialised features s type initialiser → rules.IsInitialised features cx type initialiser
initialised_as features cx s h type None n g = tt
initialised_as features cx s h type (Some initialiser) n g = constant_for features cx s h type initialiser g n

pub own_table_as : (features : Features) (ts : List (SubType ℕ)) (cx : Context) → Stand ts cx.types → (table : Table) → KeepsOwnTable features (by_index ts cx) table
    → rules.KeepsOwnTable features cx table
own_table_as features ts cx stand table h = record {
  type = table_as features ts cx stand table.type ∙ h.type;
  filled = h.filled;
  initialiser = initialised_as features (record cx { own_globals = [] }) (imported_scope (by_index ts cx)) (is_imported_scope features ts cx stand)
      (value_of table.type.element_type) table.initialiser (element_named features (by_index ts cx) table.type h.type) h.initialiser;
}

pub global_as : (features : Features) (ts : List (SubType ℕ)) (cx : Context) → Stand ts cx.types → (global : Global) → KeepsGlobal features (by_index ts cx) global
    → rules.KeepsGlobal features cx global
global_as features ts cx stand global h = record {
  type = value_as features ts cx stand global.type.value_type ∙ h.type;
  initialiser = constant_for features cx (scope features (by_index ts cx)) (is_scope features ts cx stand) global.type.value_type global.initialiser h.initialiser
      (named_of features ts global.type.value_type h.type);
}

-- ---- segments

offset_as : (features : Features) (cx : Context) (s : Scope) → IsScope features cx s → (is_64 : Bool) (offset : ConstantExpression)
    → IsConstant features s (index_type is_64) offset → IsConstantOf features cx (rules.index_type is_64) offset
offset_as features cx s h true offset g = constant_as features cx s h I64 offset g refl
offset_as features cx s h false offset g = constant_as features cx s h I32 offset g refl

expressions_as : (features : Features) (cx : Context) (s : Scope) → IsScope features cx s → (type : ValType ℕ) → is_named_value s.types type ≡ true
    → (expressions : List ConstantExpression) → AllByRecursion (IsConstant features s type) expressions → AllByRecursion (IsConstantFor features cx type) expressions
expressions_as features cx s h type n [] g = tt
expressions_as features cx s h type n (e ∷ es) g = (constant_for features cx s h type e g.0 n, expressions_as features cx s h type n es g.1)

segment_items_as : (features : Features) (ts : List (SubType ℕ)) (cx : Context) → Stand ts cx.types → (items : ElementItems) → KeepsItems features (by_index ts cx) items
    → rules.KeepsItems features cx items
segment_items_as features ts cx stand (FunctionItems functions) h = h
segment_items_as features ts cx stand (ExpressionItems type expressions) h = (
  value_as features ts cx stand (value_of type) ∙ h.0,
  expressions_as features cx (scope features (by_index ts cx)) (is_scope features ts cx stand) (value_of type) (named_of features ts (value_of type) h.0) expressions h.1,
)

items_named : (features : Features) (k : Spaces) (items : ElementItems) → KeepsItems features k items → is_named_value k.types (value_of (element_type items)) ≡ true
items_named features k (FunctionItems functions) h = refl
items_named features k (ExpressionItems type expressions) h = named_of features k.types (value_of type) h.0

fits_table : (features : Features) (ts : List (SubType ℕ)) (cx : Context) → Stand ts cx.types → (type : ValType ℕ) → is_named_value ts type ≡ true
    → (offset : ConstantExpression) (table : Option (TableType ℕ)) → FitsTable features (by_index ts cx) type offset table → rules.FitsTable features cx type offset table
fits_table features ts cx stand type n offset None h = absurd h
fits_table features ts cx stand type n offset (Some table) h =
    let element = value_of table.element_type in
    let above = value_named_above ts type element h.0 n in (
      rw (meant_as ts cx stand type n, meant_as ts cx stand element above) (below_as ts cx.types stand type element h.0),
      offset_as features cx (scope features (by_index ts cx)) (is_scope features ts cx stand) table.limits.is_64 offset h.1,
    )

element_mode_as : (features : Features) (ts : List (SubType ℕ)) (cx : Context) → Stand ts cx.types → (type : ValType ℕ) → is_named_value ts type ≡ true → (mode : ElementMode)
    → KeepsElementMode features (by_index ts cx) type mode → rules.KeepsElementMode features cx type mode
element_mode_as features ts cx stand type n (ActiveElement table offset) h = fits_table features ts cx stand type n offset (slice_get cx.tables (unwrap_or table 0)) h
element_mode_as features ts cx stand type n PassiveElement h = h
element_mode_as features ts cx stand type n DeclaredElement h = h

pub element_as : (features : Features) (ts : List (SubType ℕ)) (cx : Context) → Stand ts cx.types → (segment : ElementSegment) → KeepsElement features (by_index ts cx) segment
    → rules.KeepsElement features cx segment
element_as features ts cx stand segment h = record {
  items = segment_items_as features ts cx stand segment.items h.items;
  mode = element_mode_as features ts cx stand (value_of (element_type segment.items)) (items_named features (by_index ts cx) segment.items h.items) segment.mode h.mode;
}

fits_memory : (features : Features) (ts : List (SubType ℕ)) (cx : Context) → Stand ts cx.types → (offset : ConstantExpression) (memory : Option MemoryType)
    → FitsMemory features (by_index ts cx) offset memory → rules.FitsMemory features cx offset memory
fits_memory features ts cx stand offset None h = absurd h
fits_memory features ts cx stand offset (Some memory) h = offset_as features cx (scope features (by_index ts cx)) (is_scope features ts cx stand) memory.is_64 offset h

pub data_as : (features : Features) (ts : List (SubType ℕ)) (cx : Context) → Stand ts cx.types → (mode : DataMode) → KeepsData features (by_index ts cx) mode
    → rules.KeepsData features cx mode
data_as features ts cx stand (ActiveData memory offset) h = fits_memory features ts cx stand offset (slice_get cx.memories (unwrap_or memory 0)) h
data_as features ts cx stand PassiveData h = h

-- ---- exports and the start function

pub export_as : (features : Features) (ts : List (SubType ℕ)) (cx : Context) (export : Export)
    → rules.keeps_export features cx export ≡ keeps_export features (by_index ts cx) export
export_as features ts cx export = rw (at export.kind) refl
  where
    at : (kind : ExternalKind) → item_in cx kind export.index ≡ item_at (by_index ts cx) kind export.index
    at FuncKind = refl
    at TableKind = refl
    at MemoryKind = refl
    at GlobalKind = refl
    at TagKind = refl

unit_is : (ts : List (SubType ℕ)) (cx : Context) → Stand ts cx.types → (index : ℕ) (o : Option (FuncType ℕ)) → func_type_at ts index ≡ o
    → rules.is_unit (defined_at cx.types index) ≡ is_unit (func_type_at ts index)
unit_is ts cx stand index None e = rw (func_meant ts cx.types stand index, e) refl
unit_is ts cx stand index (Some type) e =
    rw (func_meant ts cx.types stand index, e, length-map type.params (val_map (type_at cx.types)), length-map type.results (val_map (type_at cx.types))) refl

start_is : (ts : List (SubType ℕ)) (cx : Context) → Stand ts cx.types → (function : ℕ) (o : Option ℕ) → slice_get (functions_in cx) function ≡ o
    → rules.keeps_start cx function ≡ starts (by_index ts cx) o
start_is ts cx stand function None e = rw e refl
start_is ts cx stand function (Some index) e = rw e (unit_is ts cx stand index (func_type_at ts index) refl)

pub start_as : (ts : List (SubType ℕ)) (cx : Context) → Stand ts cx.types → (function : ℕ)
    → rules.keeps_start cx function ≡ starts (by_index ts cx) (slice_get (functions_in cx) function)
start_as ts cx stand function = start_is ts cx stand function (slice_get (functions_in cx) function) refl
