-- Exports of a shape name the items that are asked for, and so have the size of these.
use Rattle.std.proofs.Common.{◌≡◌, ℕ, List, [], ◌∷◌, ◌++◌, map, Option, Some, None, option_map, slice_get, refl, sym, ap, ◌∙◌, arith}
use Rattle.std.specs.List.{sum_by}
use Rattle.std.specs.Option.{option_and_then}
use Rattle.std.proofs.lemmas.List.Sums.{sum_by-cons}
use Rattle.wasm_spec.specs.Syntax.{Export}
use Rattle.wasm_spec.specs.Types.{ExternalKind, FuncKind, TableKind, MemoryKind, GlobalKind, TagKind, ExternalType, FuncExternal, TableExternal, MemoryExternal, GlobalExternal, TagExternal, GlobalType, MemoryType, SubType, TableType}
use Rattle.wasm_smith_definitions.proofs.SpaceLaws.{got_mapped}
use Rattle.wasm_smith_definitions.specs.FunctionTypes.{func_size}
use Rattle.wasm_smith_definitions.specs.OwnItems.{functions_in, own_items, tags_in}
use Rattle.wasm_smith_externs.specs.Bounds.{own_size}
use Rattle.wasm_smith_externs.specs.Candidates.{type_size, type_sizes}
use Rattle.wasm_smith_externs.specs.ShapeExports.{exports_after, named_in}
use Rattle.wasm_smith_externs.specs.Sizes.{exports_size, item_size}
use Rattle.wasm_smith_externs.specs.declared.shape_exports.KindCounts.{KindCounts}
use Rattle.wasm_smith_shapes.specs.Shapes.{NamedItem}
use Rattle.wasm_smith_validity.specs.Rules.{item_at}
use Rattle.wasm_smith_validity.specs.Spaces.{Spaces, func_type_at, functions_of, globals_of}

-- ---- the size of an item is that of its type

indexed : (types : List (SubType ℕ)) (make : ℕ → ExternalType ℕ) → ((index : ℕ) → func_size (func_type_at types index) ≡ type_size types (make index)) → (o : Option ℕ) (type : ExternalType ℕ)
    → option_map make o ≡ Some type → func_size (option_and_then (func_type_at types) o) ≡ type_size types type
indexed types make same None type e = absurd cc
indexed types make same (Some index) type e = let is : make index ≡ type = cc in same index ∙ ap (type_size types) is

counts_one : {A : Type 0} (types : List (SubType ℕ)) (make : A → ExternalType ℕ) → ((x : A) → 1 ≡ type_size types (make x)) → (o : Option A) (type : ExternalType ℕ)
    → option_map make o ≡ Some type → 1 ≡ type_size types type
counts_one types make same None type e = absurd cc
counts_one types make same (Some x) type e = let is : make x ≡ type = cc in same x ∙ ap (type_size types) is

item_sized : (k : Spaces) (kind : ExternalKind) (index : ℕ) (type : ExternalType ℕ) → item_at k kind index ≡ Some type → item_size k.types (functions_of k) k.tags kind index ≡ type_size k.types type
item_sized k FuncKind index type at = indexed k.types (λ x. FuncExternal x) (λ x. refl) (slice_get (functions_of k) index) type (sym (got_mapped (λ x. FuncExternal x) (functions_of k) index) ∙ at)
item_sized k TableKind index type at = counts_one k.types (λ (x : TableType ℕ). TableExternal x) (λ x. refl) (slice_get k.tables index) type (sym (got_mapped (λ x. TableExternal x) k.tables index) ∙ at)
item_sized k MemoryKind index type at = counts_one k.types (λ (x : MemoryType). MemoryExternal x) (λ x. refl) (slice_get k.memories index) type (sym (got_mapped (λ x. MemoryExternal x) k.memories index) ∙ at)
item_sized k GlobalKind index type at = counts_one k.types (λ (x : GlobalType ℕ). GlobalExternal x) (λ x. refl) (slice_get (globals_of k) index) type (sym (got_mapped (λ x. GlobalExternal x) (globals_of k) index) ∙ at)
item_sized k TagKind index type at = indexed k.types (λ x. TagExternal x) (λ x. refl) (slice_get k.tags index) type (sym (got_mapped (λ x. TagExternal x) k.tags index) ∙ at)

all_sized : (k : Spaces) (exports : List Export) (types : List (ExternalType ℕ)) → named_in k exports ≡ map (λ type. Some type) types
    → sum_by (λ (export : Export). item_size k.types (functions_of k) k.tags export.kind export.index) exports ≡ type_sizes k.types types
all_sized k [] [] e = refl
all_sized k [] (type ∷ types) e = absurd cc
all_sized k (export ∷ exports) [] e = absurd cc
all_sized k (export ∷ exports) (type ∷ types) e =
    let first : item_at k export.kind export.index ≡ Some type = cc in
    let others : named_in k exports ≡ map (λ type. Some type) types = cc in
    let size : Export → ℕ = λ (export : Export). item_size k.types (functions_of k) k.tags export.kind export.index in
    sum_by-cons size export exports
    ∙ rw (item_sized k export.kind export.index type first, all_sized k exports types others) (sym (sum_by-cons (type_size k.types) type types))

own_sized : (types : List (SubType ℕ)) (items : List (ExternalType ℕ)) → type_sizes types items ≡ own_size types (own_items items)
own_sized types [] = omega arith
own_sized types (FuncExternal function ∷ items) =
    omega
    (arith, own_sized types items, sum_by-cons (type_size types) (FuncExternal function) items, sum_by-cons (λ index. func_size (func_type_at types index)) function (functions_in items))
own_sized types (TableExternal type ∷ items) = omega (arith, own_sized types items, sum_by-cons (type_size types) (TableExternal type) items)
own_sized types (MemoryExternal type ∷ items) = omega (arith, own_sized types items, sum_by-cons (type_size types) (MemoryExternal type) items)
own_sized types (GlobalExternal type ∷ items) = omega (arith, own_sized types items, sum_by-cons (type_size types) (GlobalExternal type) items)
own_sized types (TagExternal function ∷ items) =
    omega
    (arith, own_sized types items, sum_by-cons (type_size types) (TagExternal function) items, sum_by-cons (λ index. func_size (func_type_at types index)) function (tags_in items))

-- exports that name such items have the size of these
pub named_size : (k : Spaces) (items : List (ExternalType ℕ)) → named_in k k.exports ≡ map (λ type. Some type) items → exports_size k ≡ own_size k.types (own_items items)
named_size k items named = all_sized k k.exports items named ∙ own_sized k.types items

-- ---- what is named stays

-- what exports and segments leave as it was
abbrev pub without_uses : Spaces → Spaces
without_uses k = record k { exports = []; element_segments = 0; data_segments = 0 }

item_stays : (k other : Spaces) → without_uses k ≡ without_uses other → (kind : ExternalKind) (index : ℕ) → item_at k kind index ≡ item_at other kind index
item_stays k other same FuncKind index = ap (λ (s : Spaces). item_at s FuncKind index) same
item_stays k other same TableKind index = ap (λ (s : Spaces). item_at s TableKind index) same
item_stays k other same MemoryKind index = ap (λ (s : Spaces). item_at s MemoryKind index) same
item_stays k other same GlobalKind index = ap (λ (s : Spaces). item_at s GlobalKind index) same
item_stays k other same TagKind index = ap (λ (s : Spaces). item_at s TagKind index) same

pub named_stay : (k other : Spaces) → without_uses k ≡ without_uses other → (exports : List Export) → named_in k exports ≡ named_in other exports
named_stay k other same [] = refl
named_stay k other same (export ∷ exports) = rw (item_stays k other same export.kind export.index, named_stay k other same exports) refl

pub names_asked : (before : KindCounts) (earlier items : List NamedItem) → map (λ (export : Export). export.name) (exports_after before earlier items) ≡ map (λ (item : NamedItem). item.name) items
names_asked before earlier [] = refl
names_asked before earlier (item ∷ items) = ap (λ (names : List (List ℕ)). item.name ∷ names) (names_asked before (earlier ++ item ∷ []) items)
