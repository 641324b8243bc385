-- What stands in the index spaces names types of the module, whatever types come after.
use Rattle.std.proofs.Common.{◌≡◌, ℕ, zero, suc, ◌+◌, Bool, true, false, ◌&&◌, List, [], ◌∷◌, ◌++◌, length, Option, Some, None, is_some, slice_get, refl, sym, subst, inl, inr, arith, length-append, ◌∙◌}
use Rattle.std.proofs.lemmas.Option.{slice_get_within}
use Rattle.wasm_spec.proofs.Places.{get_cases, get_left, get_right}
use Rattle.wasm_spec.specs.Features.{Features, has, Exceptions}
use Rattle.wasm_spec.specs.Syntax.{ElementItems, FunctionItems, ExpressionItems, imported_by}
use Rattle.wasm_spec.specs.Trees.{DefType, types_of_group}
use Rattle.wasm_spec.specs.Types.{HeapType, Abstract, Concrete, ValType, Ref, FuncType, TableType, ExternalType, FuncExternal, TableExternal, MemoryExternal, GlobalExternal, TagExternal}
use Rattle.wasm_validity.specs.Context.{Context, after, after_all, after_item, after_items, at_first, element_type}
use Rattle.wasm_validity.specs.DefinedTypes.{func_type_at}
use Rattle.wasm_validity.specs.Entries.{Entry, OfType, OfImport, OfFunction, OfTable, OfMemory, OfTag, OfGlobal, OfExport, OfElement}
use Rattle.wasm_validity.specs.IndexSpaces.{Spaces, spaces_in}
use Rattle.wasm_validity.specs.Rules.{Keeps, KeepRules, KeepsItems, keep_items, keeps_item, keeps_table, shares_small_index}
use Rattle.wasm_validity.specs.TypeRules.{is_tag_type, is_value}
use Rattle.wasm_validity_laws.specs.NamedTypes.{Each, NamesTypes, names_heap, names_value}

-- ---- lists

-- what is in a list stays at its place when more comes after it
get_more : {X : Type 0} (xs ys : List X) (i : ℕ) (x : X) → slice_get xs i ≡ Some x → slice_get (xs ++ ys) i ≡ Some x
get_more xs ys i x e = get_left xs ys i (slice_get_within xs i x e) ∙ e

-- two lists as one
joined : {X : Type 0} {P : X → Type 0} (xs ys : List X) → Each P xs → Each P ys → Each P (xs ++ ys)
joined xs ys front rest place x e = elim (get_cases xs ys place x e) [ inl at ↦ front place x at | inr at ↦ rest at.0 x at.2 ]

front_of : {X : Type 0} {P : X → Type 0} (xs ys : List X) → Each P (xs ++ ys) → Each P xs
front_of xs ys each place x e = each place x (get_more xs ys place x e)

pub rest_of : {X : Type 0} {P : X → Type 0} (xs ys : List X) → Each P (xs ++ ys) → Each P ys
rest_of xs ys each place x e = each (length xs + place) x (get_right xs ys place ∙ e)

alone : {X : Type 0} (P : X → Type 0) (x : X) → P x → Each P (x ∷ [])
alone P x holds zero y e = let same : x ≡ y = cc in subst P same holds
alone P x holds (suc place) y e = absurd cc

-- one item more: at the end of a list, or of either of two that stand as one, as imported items and the module's own do
one_more : {X : Type 0} {P : X → Type 0} (xs : List X) (x : X) → Each P xs → P x → Each P (xs ++ x ∷ [])
one_more {P} xs x each holds = joined xs (x ∷ []) each (alone P x holds)

first_more : {X : Type 0} {P : X → Type 0} (xs ys : List X) (x : X) → Each P (xs ++ ys) → P x → Each P ((xs ++ x ∷ []) ++ ys)
first_more xs ys x each holds = joined (xs ++ x ∷ []) ys (one_more xs x (front_of xs ys each) holds) (rest_of xs ys each)

rest_more : {X : Type 0} {P : X → Type 0} (xs ys : List X) (x : X) → Each P (xs ++ ys) → P x → Each P (xs ++ (ys ++ x ∷ []))
rest_more xs ys x each holds = joined xs (ys ++ x ∷ []) (front_of xs ys each) (one_more ys x (rest_of xs ys each) holds)

-- ---- more types: what an index names stays where it is

abbrev IsNamed : List DefType → ℕ → Type 0
IsNamed types index = is_some (func_type_at types index) ≡ true

function_stays : (types more : List DefType) (index : ℕ) → IsNamed types index → IsNamed (types ++ more) index
function_stays types more index named = at (slice_get types index) refl
  where
    at : (found : Option DefType) → slice_get types index ≡ found → IsNamed (types ++ more) index
    at None e = let never : false ≡ true = rw e at named in absurd cc
    at (Some type) e = rw (get_more types more index type e) (rw e at named)

heap_stays : (types more : List DefType) (heap : HeapType ℕ) → names_heap types heap ≡ true → names_heap (types ++ more) heap ≡ true
heap_stays types more (Abstract heap) named = refl
heap_stays types more (Concrete index) named = grind (arith, length-append types more)

value_stays : (types more : List DefType) (type : ValType ℕ) → names_value types type ≡ true → names_value (types ++ more) type ≡ true
value_stays types more (Ref nullable heap) named = heap_stays types more heap named
value_stays types more _ named = refl

more_types : (spaces : Spaces) (more : List DefType) → NamesTypes spaces → NamesTypes (record spaces { types = spaces.types ++ more })
more_types spaces more named = record {
  functions = λ place index e. function_stays spaces.types more index (named.functions place index e);
  tables = λ place type e. heap_stays spaces.types more type.element_type.heap_type (named.tables place type e);
  globals = λ place type e. value_stays spaces.types more type.value_type (named.globals place type e);
  tags = λ place index e. function_stays spaces.types more index (named.tags place index e);
  elements = λ place type e. heap_stays spaces.types more type.heap_type (named.elements place type e);
}

-- ---- what the rules ask

both : (a b : Bool) → (a && b) ≡ true → (a ≡ true) × (b ≡ true)
both true b e = (refl, e)
both false b e = absurd cc

named_table : (features : Features) (cx : Context) (type : TableType ℕ) → keeps_table features cx type ≡ true → names_heap cx.types type.element_type.heap_type ≡ true
named_table features cx type keeps = (both _ _ (both _ _ (both _ _ keeps).0).0).1

named_value : (features : Features) (cx : Context) (type : ValType ℕ) → is_value features cx type ≡ true → names_value cx.types type ≡ true
named_value features cx (Ref nullable heap) keeps = (both _ _ keeps).1
named_value features cx _ keeps = refl

named_tag : (features : Features) (cx : Context) (index : ℕ) → is_tag_type features cx index ≡ true → IsNamed cx.types index
named_tag features cx index keeps = at (func_type_at cx.types index) refl
  where
    at : (found : Option (FuncType DefType)) → func_type_at cx.types index ≡ found → IsNamed cx.types index
    at None e = let never : false ≡ true = (both (has features Exceptions) false (rw e at keeps)).1 in absurd cc
    at (Some type) e = rw e refl

named_element : (features : Features) (cx : Context) (items : ElementItems) → KeepsItems features cx items → names_heap cx.types (element_type items).heap_type ≡ true
named_element features cx (FunctionItems functions) keeps = refl
named_element features cx (ExpressionItems type expressions) keeps = (both _ _ keeps.0).1

-- ---- imports

-- The record is written out also where no part changes: it is about other spaces then.
one_item : (features : Features) (cx : Context) (type : ExternalType ℕ) → NamesTypes (spaces_in cx) → keeps_item features cx type ≡ true → NamesTypes (spaces_in (after_item cx type))
one_item features cx (FuncExternal function) named keeps =
    record { functions = first_more cx.imported_functions cx.own_functions function named.functions keeps; tables = named.tables; globals = named.globals; tags = named.tags; elements = named.elements }
one_item features cx (TableExternal type) named keeps =
    record { functions = named.functions; tables = one_more cx.tables type named.tables (named_table features cx type keeps); globals = named.globals; tags = named.tags; elements = named.elements }
one_item features cx (MemoryExternal type) named keeps = record { functions = named.functions; tables = named.tables; globals = named.globals; tags = named.tags; elements = named.elements }
one_item features cx (GlobalExternal type) named keeps =
    record { functions = named.functions; tables = named.tables; globals = first_more cx.imported_globals cx.own_globals type named.globals (named_value features cx type.value_type (both _ _ keeps).0); tags = named.tags; elements = named.elements }
one_item features cx (TagExternal function) named keeps =
    record { functions = named.functions; tables = named.tables; globals = named.globals; tags = one_more cx.tags function named.tags (named_tag features cx function keeps); elements = named.elements }

all_items : (features : Features) (cx : Context) (types : List (ExternalType ℕ)) → NamesTypes (spaces_in cx) → keep_items features cx types ≡ true → NamesTypes (spaces_in (after_items cx types))
all_items features cx [] named keep = named
all_items features cx (type ∷ types) named keep =
    let kept = both (keeps_item features cx type) (keep_items features (after_item cx type) types) keep in
    all_items features (after_item cx type) types (one_item features cx type named kept.0) kept.1

-- The count of imports is no part of the spaces. The rule judges items before it goes up, and they are added after.
uncounted : (cx : Context) (imports : ℕ) (types : List (ExternalType ℕ)) → spaces_in (after_items (record cx { imports = imports }) types) ≡ spaces_in (after_items cx types)
uncounted cx imports [] = refl
uncounted cx imports (FuncExternal function ∷ types) = uncounted (after_item cx (FuncExternal function)) imports types
uncounted cx imports (TableExternal type ∷ types) = uncounted (after_item cx (TableExternal type)) imports types
uncounted cx imports (MemoryExternal type ∷ types) = uncounted (after_item cx (MemoryExternal type)) imports types
uncounted cx imports (GlobalExternal type ∷ types) = uncounted (after_item cx (GlobalExternal type)) imports types
uncounted cx imports (TagExternal function ∷ types) = uncounted (after_item cx (TagExternal function)) imports types

-- ---- entries

one : (features : Features) (cx : Context) (entry : Entry) → NamesTypes (spaces_in cx) → Keeps features cx entry → NamesTypes (spaces_in (after cx entry))
one features cx (OfType group) named keeps = more_types (spaces_in cx) (types_of_group cx.types group) named
one features cx (OfImport entry) named keeps =
    let kept = both (shares_small_index entry) (keep_items features cx (imported_by entry)) keeps in
    let after_them = subst NamesTypes (sym (uncounted cx (suc cx.imports) (imported_by entry))) (all_items features cx (imported_by entry) named kept.1) in
    record { functions = after_them.functions; tables = after_them.tables; globals = after_them.globals; tags = after_them.tags; elements = after_them.elements }
one features cx (OfFunction index) named keeps =
    record { functions = rest_more cx.imported_functions cx.own_functions index named.functions keeps; tables = named.tables; globals = named.globals; tags = named.tags; elements = named.elements }
one features cx (OfTable table) named keeps = one_item features cx (TableExternal table.type) named keeps.type
one features cx (OfMemory type) named keeps = one_item features cx (MemoryExternal type) named keeps
one features cx (OfTag index) named keeps = one_item features cx (TagExternal index) named keeps
one features cx (OfGlobal global) named keeps =
    record { functions = named.functions; tables = named.tables; globals = rest_more cx.imported_globals cx.own_globals global.type named.globals (named_value features cx global.type.value_type keeps.type); tags = named.tags; elements = named.elements }
one features cx (OfExport export) named keeps = record { functions = named.functions; tables = named.tables; globals = named.globals; tags = named.tags; elements = named.elements }
one features cx (OfElement segment) named keeps =
    record { functions = named.functions; tables = named.tables; globals = named.globals; tags = named.tags; elements = one_more cx.elements (element_type segment.items) named.elements (named_element features cx segment.items keeps.items) }
one features cx _ named keeps = named

all : (features : Features) (cx : Context) (entries : List Entry) → NamesTypes (spaces_in cx) → KeepRules features cx entries → NamesTypes (spaces_in (after_all cx entries))
all features cx [] named keep = named
all features cx (entry ∷ entries) named keep = all features (after cx entry) entries (one features cx entry named keep.0) keep.1

nothing_named : NamesTypes (spaces_in at_first)
nothing_named = record { functions = λ place index e. absurd cc; tables = λ place type e. absurd cc; globals = λ place type e. absurd cc; tags = λ place index e. absurd cc; elements = λ place type e. absurd cc }

pub types_named : (features : Features) (entries : List Entry) → KeepRules features at_first entries → NamesTypes (spaces_in (after_all at_first entries))
types_named features entries keep = all features at_first entries nothing_named keep
