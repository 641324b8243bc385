-- Which items may be exported: those whose types fit into what is left.
use Rattle.std.specs.Prelude.{◌≡◌, ℕ, ◌-◌, ◌<◌, ◌≤◌, Bool, bytes_eq, false, ◌&&◌, ◌||◌, List, [], ◌∷◌, length, nat_lt, nat_le}
use Rattle.std.specs.List.{filter, list_any}
use Rattle.wasm_spec.specs.Syntax.{Export}
use Rattle.wasm_spec.specs.Types.{SubType, ExternalKind, FuncKind, TableKind, MemoryKind, GlobalKind, TagKind}
use Rattle.wasm_validity.specs.Context.{names_of}
use Rattle.wasm_smith_config.specs.declared.config.Config.{Config}
use Rattle.wasm_smith_definitions.specs.FunctionTypes.{func_size}
use Rattle.wasm_smith_definitions.specs.Kinds.{count_of}
use Rattle.wasm_smith_definitions.specs.Steps.{Wanted}
use Rattle.wasm_smith_unstructured.specs.Names.{is_name}
use Rattle.wasm_smith_validity.specs.Spaces.{Spaces, functions_of, globals_of, func_type_at}
use Rattle.wasm_smith_externs.specs.Fitting.{fits, sized}
use Rattle.wasm_smith_externs.specs.Sizes.{item_size, exports_size}
use Rattle.wasm_smith_externs.specs.declared.candidates.Candidates.{Candidates}

-- the function type of an index fits into what is left
abbrev pub type_fits : List (SubType ℕ) → ℕ → ℕ → Bool
type_fits types left index = nat_le (func_size (func_type_at types index)) left

-- there is an item of a kind whose type fits into what is left
abbrev pub kind_fits : Spaces → ℕ → ExternalKind → Bool
kind_fits k left FuncKind = list_any (type_fits k.types left) (functions_of k)
kind_fits k left TableKind = nat_lt 0 left && nat_lt 0 (length k.tables)
kind_fits k left MemoryKind = nat_lt 0 left && nat_lt 0 (length k.memories)
kind_fits k left GlobalKind = nat_lt 0 left && nat_lt 0 (length (globals_of k))
kind_fits k left TagKind = list_any (type_fits k.types left) k.tags

-- there is an item whose type fits into what is left
abbrev pub any_fits : Spaces → ℕ → Bool
any_fits k left = list_any (kind_fits k left) (FuncKind ∷ TableKind ∷ MemoryKind ∷ GlobalKind ∷ TagKind ∷ [])

-- what the sizes of imports and of the exports so far leave
abbrev pub left_for : Config → ℕ → Spaces → ℕ
left_for c imports_size k = c.max_type_size - imports_size - exports_size k

-- As many exports as the configuration asks for, as long as there is an item whose type fits into what is left.
abbrev pub wanted_exports : Config → ℕ → Wanted
wanted_exports c imports_size = record {
  least = c.min_exports;
  most = c.max_exports;
  count = λ k. length k.exports;
  can = λ k. any_fits k (left_for c imports_size k);
}

-- of functions and tags with these type indexes, those that fit into what is left
pub record AreCandidates (types : List (SubType ℕ)) (functions tags : List ℕ) (candidates : Candidates) : Type 0 where
  pub of_functions : candidates.functions ≡ filter (fits candidates.left) (sized types 0 functions)
  pub of_tags : candidates.tags ≡ filter (fits candidates.left) (sized types 0 tags)

-- an item to export, and the size of its type
pub record IsExportable (k : Spaces) (left : ℕ) (kind : ExternalKind) (index size : ℕ) : Type 0 where
  pub there : index < count_of k kind
  pub is : size ≡ item_size k.types (functions_of k) k.tags kind index
  pub small : size ≤ left

-- An item to export is taken: what is left is less by the size of its type.
pub record IsTaken (k : Spaces) (old new : Candidates) (kind : ExternalKind) (index : ℕ) : Type 0 where
  pub item : IsExportable k old.left kind index (item_size k.types (functions_of k) k.tags kind index)
  pub left : new.left ≡ old.left - item_size k.types (functions_of k) k.tags kind index
  pub candidates : AreCandidates k.types (functions_of k) k.tags new

-- a name of at most 1000 bytes, and perhaps a number of at most 20 digits
abbrev pub HasShortName : List ℕ → Type 0
HasShortName name = length name ≤ 1020

-- a name that is new among these, and is added to them
pub record IsAddedName (old new : List (List ℕ)) (name : List ℕ) : Type 0 where
  pub is_new : is_name old name ≡ false
  pub added : (text : List ℕ) → is_name new text ≡ (bytes_eq name text || is_name old text)
  pub short : HasShortName name

-- the names are those of the exports
abbrev pub AreNames : List (List ℕ) → List Export → Type 0
AreNames names exports = (text : List ℕ) → is_name names text ≡ list_any (bytes_eq text) (names_of exports)
