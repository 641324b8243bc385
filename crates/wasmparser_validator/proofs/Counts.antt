-- No index space has more items than its limit lets through, where entries keep all limits.
use Rattle.std.proofs.Common.{◌≡◌, ℕ, suc, ◌+◌, true, List, [], ◌∷◌, ◌++◌, length, refl, length-append, arith}
use Rattle.std.specs.Prelude.{not}
use Rattle.std.proofs.lemmas.Bool.{and_parts}
use Rattle.wasm_spec.specs.Limits.{Limit}
use Rattle.wasm_spec.specs.Syntax.{imported_by}
use Rattle.wasm_spec.specs.Types.{ExternalType, FuncExternal, TableExternal, MemoryExternal, GlobalExternal, TagExternal}
use Rattle.wasm_validity.specs.Context.{Context, after, after_all, after_item, after_items, at_first, element_type}
use Rattle.wasm_validity.specs.Entries.{Entry, OfCustom, OfType, OfImport, OfFunction, OfTable, OfMemory, OfTags, OfTag, OfGlobal, OfExport, OfStart, OfElement, OfDataCount, OfBody, OfData}
use Rattle.wasm_validity.specs.Rules.{KeepLimits, measures, name_measures, import_names, item_measures, items_measures, is_past, are_within}
use Rattle.wasm_validity_laws.proofs.Within.{within}
use Rattle.wasmparser_validator.specs.KnownSpaces.{AreFew}

within_both : (xs ys : List (Limit × ℕ)) → are_within (xs ++ ys) ≡ true → (are_within xs ≡ true) × (are_within ys ≡ true)
within_both [] ys w = (refl, w)
within_both (x ∷ xs) ys w =
    let both = and_parts (not (is_past x.0 x.1)) (are_within (xs ++ ys)) w in
    let others = within_both xs ys both.1 in
    (rw both.0 others.0, others.1)

few_item : (cx : Context) (type : ExternalType ℕ) → AreFew cx → are_within (item_measures cx type) ≡ true → AreFew (after_item cx type)
few_item cx (FuncExternal function) few w =
    let fits = within 1000000 (suc (length cx.imported_functions + length cx.own_functions)) (and_parts _ _ w).0 in
    record { functions = omega (arith, fits, length-append cx.imported_functions (function ∷ [])); tables = few.tables; memories = few.memories; globals = few.globals; tags = few.tags; elements = few.elements; exports = few.exports }
few_item cx (TableExternal type) few w =
    let fits = within 100 (suc (length cx.tables)) (and_parts _ _ w).0 in
    record { functions = few.functions; tables = omega (arith, fits, length-append cx.tables (type ∷ [])); memories = few.memories; globals = few.globals; tags = few.tags; elements = few.elements; exports = few.exports }
few_item cx (MemoryExternal type) few w =
    let fits = within 100 (suc (length cx.memories)) (and_parts _ _ w).0 in
    record { functions = few.functions; tables = few.tables; memories = omega (arith, fits, length-append cx.memories (type ∷ [])); globals = few.globals; tags = few.tags; elements = few.elements; exports = few.exports }
few_item cx (GlobalExternal type) few w =
    let fits = within 1000000 (suc (length cx.imported_globals + length cx.own_globals)) (and_parts _ _ w).0 in
    record { functions = few.functions; tables = few.tables; memories = few.memories; globals = omega (arith, fits, length-append cx.imported_globals (type ∷ [])); tags = few.tags; elements = few.elements; exports = few.exports }
few_item cx (TagExternal function) few w =
    let fits = within 1000000 (suc (length cx.tags)) (and_parts _ _ w).0 in
    record { functions = few.functions; tables = few.tables; memories = few.memories; globals = few.globals; tags = omega (arith, fits, length-append cx.tags (function ∷ [])); elements = few.elements; exports = few.exports }

few_items : (cx : Context) (types : List (ExternalType ℕ)) → AreFew cx → are_within (items_measures cx types) ≡ true → AreFew (after_items cx types)
few_items cx [] few w = few
few_items cx (type ∷ types) few w =
    let both = within_both (item_measures cx type) (items_measures (after_item cx type) types) w in
    few_items (after_item cx type) types (few_item cx type few both.0) both.1

few_after : (cx : Context) (entry : Entry) → AreFew cx → are_within (measures cx entry) ≡ true → AreFew (after cx entry)
few_after cx (OfImport entry) few w =
    let items : Context = record cx { imports = suc cx.imports } in
    let others = (and_parts _ (are_within (name_measures (import_names entry) ++ items_measures items (imported_by entry))) w).1 in
    let now =
    few_items items (imported_by entry) (record { functions = few.functions; tables = few.tables; memories = few.memories; globals = few.globals; tags = few.tags; elements = few.elements; exports = few.exports })
    (within_both (name_measures (import_names entry)) (items_measures items (imported_by entry)) others).1 in
    record { functions = now.functions; tables = now.tables; memories = now.memories; globals = now.globals; tags = now.tags; elements = now.elements; exports = now.exports }
few_after cx (OfFunction index) few w =
    let fits = within 1000000 (suc (length cx.imported_functions + length cx.own_functions)) (and_parts _ _ w).0 in
    record { functions = omega (arith, fits, length-append cx.own_functions (index ∷ [])); tables = few.tables; memories = few.memories; globals = few.globals; tags = few.tags; elements = few.elements; exports = few.exports }
few_after cx (OfTable table) few w =
    let fits = within 100 (suc (length cx.tables)) (and_parts _ _ w).0 in
    record { functions = few.functions; tables = omega (arith, fits, length-append cx.tables (table.type ∷ [])); memories = few.memories; globals = few.globals; tags = few.tags; elements = few.elements; exports = few.exports }
few_after cx (OfMemory type) few w =
    let fits = within 100 (suc (length cx.memories)) (and_parts _ _ w).0 in
    record { functions = few.functions; tables = few.tables; memories = omega (arith, fits, length-append cx.memories (type ∷ [])); globals = few.globals; tags = few.tags; elements = few.elements; exports = few.exports }
few_after cx (OfTag index) few w =
    let fits = within 1000000 (suc (length cx.tags)) (and_parts _ _ w).0 in
    record { functions = few.functions; tables = few.tables; memories = few.memories; globals = few.globals; tags = omega (arith, fits, length-append cx.tags (index ∷ [])); elements = few.elements; exports = few.exports }
few_after cx (OfGlobal global) few w =
    let fits = within 1000000 (suc (length cx.imported_globals + length cx.own_globals)) (and_parts _ _ w).0 in
    record { functions = few.functions; tables = few.tables; memories = few.memories; globals = omega (arith, fits, length-append cx.own_globals (global.type ∷ [])); tags = few.tags; elements = few.elements; exports = few.exports }
few_after cx (OfCustom name) few w = few
few_after cx (OfType group) few w = record { functions = few.functions; tables = few.tables; memories = few.memories; globals = few.globals; tags = few.tags; elements = few.elements; exports = few.exports }
few_after cx OfTags few w = few
few_after cx (OfExport export) few w =
    let fits = within 1000000 (suc (length cx.exports)) (and_parts _ _ w).0 in
    record { functions = few.functions; tables = few.tables; memories = few.memories; globals = few.globals; tags = few.tags; elements = few.elements; exports = omega (arith, fits, length-append cx.exports (export ∷ [])) }
few_after cx (OfStart function) few w = few
few_after cx (OfElement segment) few w =
    let fits = within 100000 (suc (length cx.elements)) (and_parts _ _ w).0 in
    record { functions = few.functions; tables = few.tables; memories = few.memories; globals = few.globals; tags = few.tags; elements = omega (arith, fits, length-append cx.elements (element_type segment.items ∷ [])); exports = few.exports }
few_after cx (OfDataCount count) few w = record { functions = few.functions; tables = few.tables; memories = few.memories; globals = few.globals; tags = few.tags; elements = few.elements; exports = few.exports }
few_after cx (OfBody body) few w = few
few_after cx (OfData segment) few w = record { functions = few.functions; tables = few.tables; memories = few.memories; globals = few.globals; tags = few.tags; elements = few.elements; exports = few.exports }

few_all : (cx : Context) (entries : List Entry) → AreFew cx → KeepLimits cx entries → AreFew (after_all cx entries)
few_all cx [] few keep = few
few_all cx (entry ∷ entries) few keep = few_all (after cx entry) entries (few_after cx entry few keep.0.numbers) keep.1

pub are_few : (entries : List Entry) → KeepLimits at_first entries → AreFew (after_all at_first entries)
are_few entries keep = few_all at_first entries (record { functions = omega arith; tables = omega arith; memories = omega arith; globals = omega arith; tags = omega arith; elements = omega arith; exports = omega arith }) keep
