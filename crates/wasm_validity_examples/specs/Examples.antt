-- Values that worked examples share.
use Rattle.std.specs.Prelude.{◌≡◌, ℕ, suc, Bool, true, false, List, [], ◌∷◌, ◌++◌, length, Some, None}
use Rattle.std.specs.List.{list_all}
use Rattle.wasm_spec.specs.Features.{Flag, Features, has}
use Rattle.wasm_spec.specs.Limits.{Limit}
use Rattle.wasm_spec.specs.Syntax.{Section, ElementItems, ElementSegment, Export, ExpressionItems, FunctionItems, Import, PassiveElement, Table}
use Rattle.wasm_spec.specs.Types.{HeapType, Concrete, F32, I32, I64, RefType, ValType, FuncComposite, Single, Limits, TableType, GlobalType, ExternalType, ExternalKind, FuncExternal, FuncKind, GlobalExternal, TagKind, funcref}
use Rattle.wasm_spec_examples.specs.Examples.{at_least}
use Rattle.wasm_spec_examples.specs.TypeExamples.{empty_structure, final_type, gives, takes}
use Rattle.wasm_validity.specs.Context.{Context, after_all, at_first}
use Rattle.wasm_validity.specs.ImportedItems.{Imported}
use Rattle.wasm_validity.specs.Entries.{Entry, OfElement, OfExport, OfFunction, OfGlobal, OfImport, OfMemory, OfTable, OfTag, OfType, entries_of}
use Rattle.wasm_validity.specs.Rules.{Keeps, Passes, measures}
use Rattle.wasm_validity.specs.Validity.{AreFine}

-- ---- what is said

-- what the sections of a module say is fine
abbrev pub IsFine : Features → List Section → Type 0
IsFine features sections = AreFine features (entries_of sections)

-- an entry keeps its rule exactly where these flags are all on
abbrev pub KeptWith : List Flag → Context → Entry → Type 0
KeptWith flags cx entry =
    (features : Features) → (list_all (has features) flags ≡ true → Keeps features cx entry) × (list_all (has features) flags ≡ false → ¬ (Keeps features cx entry))

-- an entry keeps its rule whatever the flags, and breaks it whatever they are
abbrev pub IsKept : Context → Entry → Type 0
IsKept cx entry = (features : Features) → Keeps features cx entry

abbrev pub IsBroken : Context → Entry → Type 0
IsBroken cx entry = (features : Features) → ¬ (Keeps features cx entry)

-- An entry passes a limit where what is known has this number of what the limit counts, and doesn't where it has one less.
abbrev pub IsFullAt : ℕ → Limit → (Context → ℕ) → Entry → Type 0
IsFullAt n limit count entry =
    (cx : Context) → (count cx ≡ n → Passes limit (measures cx entry)) × (suc (count cx) ≡ n → ¬ (Passes limit (measures cx entry)))

-- the same of the length of a list that an entry has: it may have this length, and not one more
abbrev pub IsLongestAt : ℕ → Limit → (List ℕ → Entry) → Type 0
IsLongestAt n limit entry =
    (cx : Context) (list : List ℕ) → (length list ≡ n → ¬ (Passes limit (measures cx (entry list)))) × (length list ≡ suc n → Passes limit (measures cx (entry list)))

-- ---- bounds, tables and globals

abbrev pub between : ℕ → ℕ → Limits
between minimum maximum = record { minimum = minimum; maximum = Some maximum; shared = false; is_64 = false; page_size_log2 = None }

abbrev pub wide : Limits → Limits
wide limits = record limits { is_64 = true }

abbrev pub shared : Limits → Limits
shared limits = record limits { shared = true }

-- with pages of a size that is this power of two
abbrev pub paged : ℕ → Limits → Limits
paged log2 limits = record limits { page_size_log2 = Some log2 }

abbrev pub reference : Bool → HeapType ℕ → RefType ℕ
reference nullable heap = record { nullable = nullable; heap_type = heap }

abbrev pub table_of : RefType ℕ → Limits → TableType ℕ
table_of type limits = record { element_type = type; limits = limits }

-- a table of the module's own without an initialiser
abbrev pub own_table : RefType ℕ → Limits → Entry
own_table type limits = OfTable (record { type = table_of type limits; initialiser = None })

-- one of references to functions
abbrev pub one_table : Table
one_table = record { type = table_of funcref (at_least 1); initialiser = None }

abbrev pub constant : ValType ℕ → GlobalType ℕ
constant type = record { value_type = type; mutable = false }

abbrev pub variable : ValType ℕ → GlobalType ℕ
variable type = record { value_type = type; mutable = true }

-- ---- imports and exports

-- an import without names
abbrev pub imports : ExternalType ℕ → Entry
imports type = OfImport (Import [] [] type)

abbrev pub named : List ℕ → List ℕ → ExternalKind → ℕ → Imported
named origin name kind index = record { origin = origin; name = name; kind = kind; index = index }

abbrev pub export_of : List ℕ → ExternalKind → ℕ → Export
export_of name kind index = record { name = name; kind = kind; index = index }

abbrev pub exports : List ℕ → ExternalKind → ℕ → Entry
exports name kind index = OfExport (export_of name kind index)

-- ---- types

-- four types, each by itself: functions that take and give nothing, that take two numbers, that give one, and an empty structure
abbrev pub four_types : List Entry
four_types =
    OfType (Single (final_type (FuncComposite (takes [])))) ∷ OfType (Single (final_type (FuncComposite (takes (I32 ∷ I64 ∷ []))))) ∷ OfType (Single (final_type (FuncComposite (gives (I32 ∷ [])))))
    ∷ OfType (Single (final_type empty_structure)) ∷ []

-- what is known after these types and further entries
abbrev pub with_types : List Entry → Context
with_types entries = after_all at_first (four_types ++ entries)

-- what is known after items of each space, and two exports
abbrev pub one_of_each : Context
one_of_each = with_types (
    imports (FuncExternal 2) ∷ OfFunction 0 ∷ OfFunction 1 ∷ own_table funcref (at_least 1) ∷ OfMemory (at_least 1) ∷ OfMemory (at_least 2) ∷ imports (GlobalExternal (constant F32))
    ∷ OfGlobal (record { type = variable I32; initialiser = [] }) ∷ OfTag 1 ∷ exports (97 ∷ []) TagKind 0 ∷ exports (98 ∷ []) FuncKind 2 ∷ OfElement (passive (FunctionItems (0 ∷ 0 ∷ [])))
    ∷ OfElement (passive (ExpressionItems (reference false (Concrete 1)) [])) ∷ OfElement (passive (ExpressionItems funcref [])) ∷ []
    )
  where
    passive : ElementItems → ElementSegment
    passive items = record { mode = PassiveElement; items = items }
