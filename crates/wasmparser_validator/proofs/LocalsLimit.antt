-- No entry passes the limit on locals, which is one on bodies.
use Rattle.std.proofs.Common.{◌≡◌, ◌≢◌, inl, inr, ℕ, List, [], ◌∷◌, ◌++◌, refl, subst, arith}
use Rattle.std.specs.List.{AllByRecursion}
use Rattle.wasm_spec.specs.Groups.{PassesLimit, many_items, many_links, items_in}
use Rattle.wasm_spec.specs.Limits.{Limit, Locals, IsPassedBy}
use Rattle.wasm_spec.specs.Subtyping.{SubTypes}
use Rattle.wasm_spec.specs.Syntax.{imported_by}
use Rattle.wasm_spec.specs.Types.{CompositeType, FuncComposite, StructComposite, ArrayComposite, ContComposite, ExternalType, FuncExternal, TableExternal, MemoryExternal, GlobalExternal, TagExternal}
use Rattle.wasm_validity.specs.Context.{Context, after, after_item}
use Rattle.wasm_validity.specs.Entries.{Entry, OfCustom, OfType, OfImport, OfFunction, OfTable, OfMemory, OfTags, OfTag, OfGlobal, OfExport, OfStart, OfElement, OfDataCount, OfBody, OfData}
use Rattle.wasm_validity.specs.Rules.{PassLimit, Passes, PassesByTypes, measures, name_measures, import_names, item_measures, items_measures}

abbrev HasNoLocals : List (Limit × ℕ) → Type 0
HasNoLocals measured = AllByRecursion (λ m. m.0 ≢ Locals) measured

none_passed : (measured : List (Limit × ℕ)) → HasNoLocals measured → ¬ (Passes Locals measured)
none_passed [] none passes = passes
none_passed (m ∷ ms) none passes = elim passes [ inl here ↦ none.0 here.0 | inr later ↦ none_passed ms none.1 later ]

both_none : (a b : List (Limit × ℕ)) → HasNoLocals a → HasNoLocals b → HasNoLocals (a ++ b)
both_none [] b none other = other
both_none (m ∷ ms) b none other = (none.0, both_none ms b none.1 other)

no_names : (names : List (List ℕ)) → HasNoLocals (name_measures names)
no_names [] = tt
no_names (name ∷ names) = ((λ e. absurd cc), no_names names)

no_item : (cx : Context) (type : ExternalType ℕ) → HasNoLocals (item_measures cx type)
no_item cx (FuncExternal function) = ((λ e. absurd cc), ((λ e. absurd cc), tt))
no_item cx (TableExternal type) = ((λ e. absurd cc), ((λ e. absurd cc), tt))
no_item cx (MemoryExternal type) = ((λ e. absurd cc), ((λ e. absurd cc), tt))
no_item cx (GlobalExternal type) = ((λ e. absurd cc), ((λ e. absurd cc), tt))
no_item cx (TagExternal function) = ((λ e. absurd cc), ((λ e. absurd cc), tt))

no_items : (cx : Context) (types : List (ExternalType ℕ)) → HasNoLocals (items_measures cx types)
no_items cx [] = tt
no_items cx (type ∷ types) = both_none (item_measures cx type) (items_measures (after_item cx type) types) (no_item cx type) (no_items (after_item cx type) types)

no_measure : (cx : Context) (entry : Entry) → HasNoLocals (measures cx entry)
no_measure cx (OfCustom name) = ((λ e. absurd cc), tt)
no_measure cx (OfType group) = ((λ e. absurd cc), ((λ e. absurd cc), tt))
no_measure cx (OfImport entry) = ((λ e. absurd cc), both_none (name_measures (import_names entry)) _ (no_names (import_names entry)) (no_items _ (imported_by entry)))
no_measure cx (OfFunction index) = ((λ e. absurd cc), tt)
no_measure cx (OfTable table) = ((λ e. absurd cc), tt)
no_measure cx (OfMemory type) = ((λ e. absurd cc), tt)
no_measure cx OfTags = tt
no_measure cx (OfTag index) = ((λ e. absurd cc), tt)
no_measure cx (OfGlobal global) = ((λ e. absurd cc), tt)
no_measure cx (OfExport export) = ((λ e. absurd cc), ((λ e. absurd cc), ((λ e. absurd cc), tt)))
no_measure cx (OfStart function) = tt
no_measure cx (OfElement segment) = ((λ e. absurd cc), ((λ e. absurd cc), tt))
no_measure cx (OfDataCount count) = tt
no_measure cx (OfBody body) = ((λ e. absurd cc), tt)
no_measure cx (OfData segment) = ((λ e. absurd cc), tt)

no_locals_in : {R : Type 0} (type : CompositeType R) → ¬ (IsPassedBy Locals (items_in type Locals))
no_locals_in (FuncComposite type) passes = absurd (omega (arith, passes))
no_locals_in (StructComposite fields) passes = absurd (omega (arith, passes))
no_locals_in (ArrayComposite field) passes = absurd (omega (arith, passes))
no_locals_in (ContComposite function) passes = absurd (omega (arith, passes))

no_type : {R : Type 0} {sub_at : SubTypes R} {r : R} {limit : Limit} → limit ≡ Locals → ¬ (PassesLimit sub_at r limit)
no_type e (many_items {limit} d) = no_locals_in d.type.composite_type (subst (λ (l : Limit). IsPassedBy l (items_in d.type.composite_type l)) e d.holds)
no_type e (many_links links passed) = absurd cc

no_types : (cx : Context) (entry : Entry) → ¬ (PassesByTypes Locals cx entry)
no_types cx (OfType group) passes = no_type refl passes.passes
no_types cx (OfCustom name) passes = passes
no_types cx (OfImport entry) passes = passes
no_types cx (OfFunction index) passes = passes
no_types cx (OfTable table) passes = passes
no_types cx (OfMemory type) passes = passes
no_types cx OfTags passes = passes
no_types cx (OfTag index) passes = passes
no_types cx (OfGlobal global) passes = passes
no_types cx (OfExport export) passes = passes
no_types cx (OfStart function) passes = passes
no_types cx (OfElement segment) passes = passes
no_types cx (OfDataCount count) passes = passes
no_types cx (OfBody body) passes = passes
no_types cx (OfData segment) passes = passes

pub no_locals : (cx : Context) (entries : List Entry) → ¬ (PassLimit Locals cx entries)
no_locals cx [] passes = passes
no_locals cx (entry ∷ entries) passes = elim passes [
  | inl numbers ↦ none_passed (measures cx entry) (no_measure cx entry) numbers
  | inr other ↦ elim other [ inl types ↦ no_types cx entry types | inr later ↦ no_locals (after cx entry) entries later ]
]
