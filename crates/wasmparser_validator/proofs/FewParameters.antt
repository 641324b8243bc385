-- No function type of a module has more parameters than there may be locals, where entries keep all limits.
use Rattle.std.proofs.Common.{◌≡◌, inl, inr, ℕ, zero, suc, ◌≤◌, ◌<◌, List, [], ◌∷◌, ◌++◌, length, Option, Some, None, slice_get, refl, sym, subst, ◌∙◌, arith}
use Rattle.std.specs.List.{AllByRecursion}
use Rattle.std.specs.Option.{option_and_then}
use Rattle.std.proofs.lemmas.Bool.{cases_lt}
use Rattle.wasm_spec.specs.Groups.{PassesLimit, many_items, items_in}
use Rattle.wasm_spec.specs.Limits.{Params, IsPassedBy}
use Rattle.wasm_spec.specs.Syntax.{imported_by}
use Rattle.wasm_spec.specs.Trees.{DefType, types_of_group, unrolled}
use Rattle.wasm_spec.specs.Types.{ExternalType, FuncExternal, TableExternal, MemoryExternal, GlobalExternal, TagExternal, FuncType, CompositeType, FuncComposite, StructComposite, ArrayComposite, ContComposite, SubType}
use Rattle.wasm_validity.specs.Context.{Context, after, after_all, after_item, after_items, at_first}
use Rattle.wasm_validity.specs.DefinedTypes.{func_in, func_type_at}
use Rattle.wasm_validity.specs.Entries.{Entry, OfCustom, OfType, OfImport, OfFunction, OfTable, OfMemory, OfTags, OfTag, OfGlobal, OfExport, OfStart, OfElement, OfDataCount, OfBody, OfData}
use Rattle.wasm_validity.specs.Rules.{KeepLimits, IsWithin}

abbrev HasFew : DefType → Type 0
HasFew type = PassesLimit unrolled type Params → ⊥

all_places : (xs : List DefType) → ((place : ℕ) (x : DefType) → slice_get xs place ≡ Some x → HasFew x) → AllByRecursion HasFew xs
all_places [] h = tt
all_places (x ∷ xs) h = (h 0 x refl, all_places xs (λ place y at. h (suc place) y at))

both : (xs ys : List DefType) → AllByRecursion HasFew xs → AllByRecursion HasFew ys → AllByRecursion HasFew (xs ++ ys)
both [] ys a b = b
both (x ∷ xs) ys a b = (a.0, both xs ys a.1 b)

item_adds_none : (cx : Context) (type : ExternalType ℕ) → (after_item cx type).types ≡ cx.types
item_adds_none cx (FuncExternal function) = refl
item_adds_none cx (TableExternal type) = refl
item_adds_none cx (MemoryExternal type) = refl
item_adds_none cx (GlobalExternal type) = refl
item_adds_none cx (TagExternal function) = refl

items_add_none : (cx : Context) (types : List (ExternalType ℕ)) → (after_items cx types).types ≡ cx.types
items_add_none cx [] = refl
items_add_none cx (type ∷ types) = items_add_none (after_item cx type) types ∙ item_adds_none cx type

few_after : (cx : Context) (entry : Entry) → AllByRecursion HasFew cx.types → IsWithin cx entry → AllByRecursion HasFew (after cx entry).types
few_after cx (OfType group) few within =
    both cx.types (types_of_group cx.types group) few
    (all_places (types_of_group cx.types group) (λ place type at passes. within.types Params (record { place = place; type = type; at = at; passes = passes })))
few_after cx (OfImport entry) few within = subst (AllByRecursion HasFew) (sym (items_add_none (record cx { imports = suc cx.imports }) (imported_by entry))) few
few_after cx (OfCustom name) few within = few
few_after cx (OfFunction index) few within = few
few_after cx (OfTable table) few within = few
few_after cx (OfMemory type) few within = few
few_after cx OfTags few within = few
few_after cx (OfTag index) few within = few
few_after cx (OfGlobal global) few within = few
few_after cx (OfExport export) few within = few
few_after cx (OfStart function) few within = few
few_after cx (OfElement segment) few within = few
few_after cx (OfDataCount count) few within = few
few_after cx (OfBody body) few within = few
few_after cx (OfData segment) few within = few

few_all : (cx : Context) (entries : List Entry) → AllByRecursion HasFew cx.types → KeepLimits cx entries → AllByRecursion HasFew (after_all cx entries).types
few_all cx [] few keep = few
few_all cx (entry ∷ entries) few keep = few_all (after cx entry) entries (few_after cx entry few keep.0) keep.1

-- a defined type that unrolls to a function type has as few parameters as it has
of_sub : (d : DefType) (found : Option (SubType DefType)) (type : FuncType DefType) → unrolled d ≡ found → HasFew d → option_and_then (λ sub. func_in sub.composite_type) found ≡ Some type → length type.params ≤ 1000
of_sub d None type is few e = absurd cc
of_sub d (Some sub) type is few e = by_kind sub.composite_type refl e
  where
    not_more : (n : ℕ) → (1000 < n → ⊥) → n ≤ 1000
    not_more n h = elim (cases_lt 1000 n) [ inl m ↦ absurd (h m) | inr m ↦ omega (arith, m) ]

    by_kind : (c : CompositeType DefType) → sub.composite_type ≡ c → func_in c ≡ Some type → length type.params ≤ 1000
    by_kind (FuncComposite t) same e =
        let one : t ≡ type = cc in
        not_more (length type.params) (λ past. few (many_items (record { type = sub; is = is; holds = subst (λ c. IsPassedBy Params (items_in c Params)) (sym same) (subst (λ (u : FuncType DefType). IsPassedBy Params (length u.params)) (sym one) past) })))
    by_kind (StructComposite fields) same e = absurd cc
    by_kind (ArrayComposite field) same e = absurd cc
    by_kind (ContComposite function) same e = absurd cc

at_place : (types : List DefType) (place : ℕ) (type : FuncType DefType) → AllByRecursion HasFew types → func_type_at types place ≡ Some type → length type.params ≤ 1000
at_place [] place type few e = absurd cc
at_place (d ∷ types) zero type few e = of_sub d (unrolled d) type refl few.0 e
at_place (d ∷ types) (suc place) type few e = at_place types place type few.1 e

pub few_parameters : (entries : List Entry) → KeepLimits at_first entries → (index : ℕ) (type : FuncType DefType) → func_type_at (after_all at_first entries).types index ≡ Some type → length type.params ≤ 1000
few_parameters entries keep index type e = at_place (after_all at_first entries).types index type (few_all at_first entries tt keep) e
