-- Items of a kind.
use Rattle.std.specs.Prelude.{ℕ, Bool, true, false, not, ◌&&◌, ◌||◌, List}
use Rattle.std.specs.List.{list_any}
use Rattle.wasm_spec.specs.Types.{ExternalKind, FuncKind, TableKind, MemoryKind, GlobalKind, TagKind, ExternalType, FuncExternal, TableExternal, MemoryExternal, GlobalExternal, TagExternal}

-- an item is of a kind
abbrev pub is_of : ExternalKind → ExternalType ℕ → Bool
is_of FuncKind (FuncExternal function) = true
is_of TableKind (TableExternal type) = true
is_of MemoryKind (MemoryExternal type) = true
is_of GlobalKind (GlobalExternal type) = true
is_of TagKind (TagExternal function) = true
is_of kind type = false

-- there aren't items of a kind in both lists, or there may be several of this kind
abbrev pub may_meet : Bool → ExternalKind → List (ExternalType ℕ) → List (ExternalType ℕ) → Bool
may_meet several kind items others = several || not (list_any (is_of kind) items && list_any (is_of kind) others)
