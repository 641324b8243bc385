-- The items of an entry of an import section are judged one after the other.
use Rattle.std.proofs.Common.{◌≡◌, inl, inr, ◌≤◌, ◌<◌, ℕ, suc, Bool, true, false, List, [], ◌∷◌, ◌++◌, length, refl, sym, ap, subst, ◌∙◌, arith, rules}
use Rattle.std.specs.Prelude.{not, nat_lt, ◌&&◌, Result, Ok, Err}
use Rattle.std.proofs.lemmas.Bool.{lt-ltb}
use Rattle.std.proofs.lemmas.List.{append-nil}
use Rattle.std.specs.List.{AllByRecursion, list_all}
use Rattle.wasm_core_types.specs.Limits as core
use Rattle.wasm_spec.specs.Features.{Features}
use Rattle.wasm_spec.specs.Limits.{Limit, Imports as TheImports, Name, most, total_of_types}
use Rattle.wasm_spec.specs.Syntax.{ImportEntry, imported_by}
use Rattle.wasm_spec.specs.Trees.{DefType}
use Rattle.wasm_spec.specs.TypeReferences.{external_map, global_refs, table_refs}
use Rattle.wasm_spec.specs.Types.{ExternalType, FuncExternal, TableExternal, MemoryExternal, GlobalExternal, TagExternal}
use Rattle.wasm_validity.specs.Context.{Context, after_item, after_items, imports_of, item_names, origin_of}
use Rattle.wasm_validity.specs.Entries.{OfImport}
use Rattle.wasm_validity.specs.ImportedItems.{Imported, with_imports}
use Rattle.wasm_validity.specs.Rules.{keeps_item, keep_items, has_small_index, shares_small_index, import_names, item_measures, items_measures, name_measures, Passes, is_past}
use Rattle.wasmparser_error.specs.declared.error.Error.{Error}
use Rattle.wasmparser_error.specs.declared.error.ErrorKind.{ErrorKind}
use Rattle.wasmparser_error.specs.declared.error.ErrorKind.TheVariants as kinds
use Rattle.wasmparser_entries.specs.declared.imports.Imports.{Imports}
use Rattle.wasmparser_entries.specs.declared.imports.Imports.TheVariants as entries
use Rattle.wasmparser_entries.specs.ImportEntries.{IsEntryOfModule, import_entry}
use Rattle.wasmparser_readers.specs.ItemTypes.{packed_refs, type_ref}
use Rattle.wasmparser_module_state.proofs.NamedImports.{named_items, named_measures_of, named_next, named_rules}
use Rattle.wasmparser_module_state.specs.Items.{AddsItem, NamesItem, AcceptsItems, AddsItems, AddsNamed, NamesItems, named_measures}
use Rattle.wasmparser_module_state.specs.Judging.{Accepts, NamesEntry}
use Rattle.wasmparser_types.specs.Index.{number_of, packable}

-- ---- limits

within_limit : (limit : Limit) (n : ℕ) → n ≤ most limit → not (is_past limit n) ≡ true
within_limit limit n le = search (rules, arith)

past_limit : (limit : Limit) (n : ℕ) → most limit < n → is_past limit n ≡ true
past_limit limit n lt = search (rules, arith)

pub passes_first : (limit : Limit) (ms ns : List (Limit × ℕ)) → Passes limit ms → Passes limit (ms ++ ns)
passes_first limit (m ∷ ms) ns (inl p) = inl p
passes_first limit (m ∷ ms) ns (inr p) = inr (passes_first limit ms ns p)
passes_first limit [] ns p = absurd p

pub passes_later : (limit : Limit) (ms ns : List (Limit × ℕ)) → Passes limit ns → Passes limit (ms ++ ns)
passes_later limit [] ns p = p
passes_later limit (m ∷ ms) ns p = inr (passes_later limit ms ns p)

-- ---- an item with its name

one_type : (features : Features) (cx : Context) (type : ExternalType ℕ) (b : Bool) → keeps_item features cx type ≡ b → keep_items features cx (type ∷ []) ≡ b
one_type features cx type true e = rw e refl
one_type features cx type false e = rw e refl

-- the measures of one item by itself
one_measured : (cx : Context) (type : ExternalType ℕ) → items_measures cx (type ∷ []) ≡ item_measures cx type
one_measured cx type = append-nil (item_measures cx type)

pub name_is_past : (cx : Context) (name : List ℕ) (names : List (List ℕ)) (types : List (ExternalType ℕ)) → most Name < length name → Passes Name (named_measures cx (name ∷ names) types)
name_is_past cx name names types lt = inl (refl, past_limit Name (length name) lt)

named_kind : (features : Features) (old : Context) (name : List ℕ) (type : ExternalType ℕ) (kind : ErrorKind) → NamesItem features old type kind → NamesItems features old (type ∷ []) (named_measures old (name ∷ []) (type ∷ [])) kind
named_kind features old name type kinds.Invalid h = one_type features old type false h
named_kind features old name type (kinds.Limit l) h = inr (rw (one_measured old type) h)
named_kind features old name type kinds.Memory h = tt
named_kind features old name type kinds.Malformed h = absurd h
named_kind features old name type kinds.Operator h = absurd h
named_kind features old name type kinds.Body h = absurd h
named_kind features old name type kinds.Total h = absurd h
named_kind features old name type kinds.Order h = absurd h
named_kind features old name type kinds.Failed h = absurd h

pub named_item : (features : Features) (old : Context) (name : List ℕ) (type : ExternalType ℕ) (place : ℕ) (result : Result (Unit {0}) Error) (new : Context) → length name ≤ most Name → AddsItem features old type place result new
    → AddsNamed features old name type place result new
named_item features old name type place (Ok x) new short h = record {
  rules = one_type features old type true h.rule;
  limits = rw (within_limit Name (length name) short, one_measured old type) h.limits;
  known = h.known;
}
named_item features old name type place (Err e) new short h = (named_kind features old name type e.kind h.0, h.1, h.2)

pub ruleset named_steps = (name_is_past, named_item)

-- ---- the name of a module before those of its items

pub with_origin : (features : Features) (old : Context) (origin : List ℕ) (names : List (List ℕ)) (types : List (ExternalType ℕ)) (place : ℕ) (Left : Type 0) (result : Result (Unit {0}) Error) (new : Context) → length origin ≤ most Name
    → AddsItems features old types (named_measures old names types) place Left result new → AddsItems features old types (named_measures old (origin ∷ names) types) place Left result new
with_origin features old origin names types place Left (Ok x) new short h = record { rules = h.rules; limits = rw (within_limit Name (length origin) short) h.limits; known = h.known }
with_origin features old origin names types place Left (Err e) new short h = (by_kind e.kind h.0, h.1, h.2)
  where
    by_kind : (kind : ErrorKind) → NamesItems features old types (named_measures old names types) kind → NamesItems features old types (named_measures old (origin ∷ names) types) kind
    by_kind kinds.Invalid h = h
    by_kind (kinds.Limit l) h = inr h
    by_kind kinds.Memory h = tt
    by_kind kinds.Malformed h = absurd h
    by_kind kinds.Operator h = absurd h
    by_kind kinds.Body h = absurd h
    by_kind kinds.Total h = absurd h
    by_kind kinds.Order h = absurd h
    by_kind kinds.Failed h = absurd h

pub ruleset origin_steps = (name_is_past, with_origin)

-- ---- entries

-- that an entry is counted changes nothing of its items
counted_items : (cx : Context) (n : ℕ) (types : List (ExternalType ℕ)) → after_items (record cx { imports = n }) types ≡ record (after_items cx types) { imports = n }
counted_items cx n [] = refl
counted_items cx n (FuncExternal function ∷ types) = counted_items (after_item cx (FuncExternal function)) n types
counted_items cx n (TableExternal type ∷ types) = counted_items (after_item cx (TableExternal type)) n types
counted_items cx n (MemoryExternal type ∷ types) = counted_items (after_item cx (MemoryExternal type)) n types
counted_items cx n (GlobalExternal type ∷ types) = counted_items (after_item cx (GlobalExternal type)) n types
counted_items cx n (TagExternal function ∷ types) = counted_items (after_item cx (TagExternal function)) n types

counted_measures : (cx : Context) (n : ℕ) (types : List (ExternalType ℕ)) → items_measures (record cx { imports = n }) types ≡ items_measures cx types
counted_measures cx n [] = refl
counted_measures cx n (FuncExternal function ∷ types) = ap (λ ms. item_measures cx (FuncExternal function) ++ ms) (counted_measures (after_item cx (FuncExternal function)) n types)
counted_measures cx n (TableExternal type ∷ types) = ap (λ ms. item_measures cx (TableExternal type) ++ ms) (counted_measures (after_item cx (TableExternal type)) n types)
counted_measures cx n (MemoryExternal type ∷ types) = ap (λ ms. item_measures cx (MemoryExternal type) ++ ms) (counted_measures (after_item cx (MemoryExternal type)) n types)
counted_measures cx n (GlobalExternal type ∷ types) = ap (λ ms. item_measures cx (GlobalExternal type) ++ ms) (counted_measures (after_item cx (GlobalExternal type)) n types)
counted_measures cx n (TagExternal function ∷ types) = ap (λ ms. item_measures cx (TagExternal function) ++ ms) (counted_measures (after_item cx (TagExternal function)) n types)

-- the indexes in a group's type, which was kept packed
all_below : (indexes : List ℕ) → AllByRecursion (λ n. n < packable) indexes → list_all (λ index. nat_lt index total_of_types) indexes ≡ true
all_below [] all = refl
all_below (index ∷ indexes) all = rw (lt-ltb index total_of_types all.0) (all_below indexes all.1)

has_small : (type : ExternalType ℕ) → AllByRecursion (λ n. n < packable) (packed_refs type) → has_small_index type ≡ true
has_small (FuncExternal function) all = refl
has_small (TableExternal type) all = all_below (table_refs type) all
has_small (MemoryExternal type) all = refl
has_small (GlobalExternal type) all = all_below (global_refs type) all
has_small (TagExternal function) all = refl

shares_small : (entry : Imports) → IsEntryOfModule entry → shares_small_index (import_entry entry) ≡ true
shares_small (entries.Single start import) is = refl
shares_small (entries.Compact1 origin items) is = refl
shares_small (entries.Compact2 origin type names) is = has_small (external_map number_of (type_ref type)) is.2

pub accepted_entry : (features : Features) (old mid : Context) (had has : List Imported) (entry : Imports) (n : ℕ) → IsEntryOfModule entry → n ≡ suc old.imports → n ≤ 1000000
    → AcceptsItems features old (imported_by (import_entry entry)) (named_measures old (import_names (import_entry entry)) (imported_by (import_entry entry))) mid
    → has ≡ with_imports had (imports_of old (import_entry entry))
    → Accepts features (record old { imported = had }) (OfImport (import_entry entry)) (record mid { imports = n; imported = has })
accepted_entry features old mid had has entry n is counted few h named =
    let types = imported_by (import_entry entry) in
    record {
      rule = rw (shares_small entry is) (named_rules features old had types ∙ h.rules);
      limits = record { numbers = rw (sym counted, within_limit TheImports n few, named_measures_of (record old { imports = n }) had types, counted_measures old n types) h.limits; types = λ limit p. p };
      known =
          rw (h.known, named, sym counted, named_items (record old { imports = n }) had types, counted_items old n types, named_next old had (origin_of (import_entry entry)) (item_names (import_entry entry)) types) refl;
    }

-- what refuses its items refuses the entry
pub refused_entry : (features : Features) (old : Context) (had : List Imported) (held : List DefType) (entry : ImportEntry) (kind : ErrorKind) → NamesItems features old (imported_by entry) (named_measures old (import_names entry) (imported_by entry)) kind
    → suc old.imports ≤ most TheImports → NamesEntry features (record old { imported = had }) held (OfImport entry) kind
refused_entry features old had held entry kinds.Invalid h few = by_shared (shares_small_index entry) (named_rules features old had (imported_by entry) ∙ h)
  where
    by_shared : (small : Bool) → keep_items features (record old { imported = had }) (imported_by entry) ≡ false → (small && keep_items features (record old { imported = had }) (imported_by entry)) ≡ true → ⊥
    by_shared true h k = let w = sym h ∙ k in absurd cc
    by_shared false h k = absurd cc
refused_entry features old had held entry (kinds.Limit l) h few =
    let same = named_measures_of (record old { imports = suc old.imports }) had (imported_by entry) ∙ counted_measures old (suc old.imports) (imported_by entry) in
    inl (inr (subst (λ ms. Passes (core.limit l) (name_measures (import_names entry) ++ ms)) (sym same) h))
refused_entry features old had held entry kinds.Memory h few = few
refused_entry features old had held entry kinds.Malformed h few = absurd h
refused_entry features old had held entry kinds.Operator h few = absurd h
refused_entry features old had held entry kinds.Body h few = absurd h
refused_entry features old had held entry kinds.Total h few = absurd h
refused_entry features old had held entry kinds.Order h few = absurd h
refused_entry features old had held entry kinds.Failed h few = absurd h
