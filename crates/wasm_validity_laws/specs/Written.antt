-- The types of a module as they are written, by its entries. Core Specification 3.0, Binary Format, Modules, "Type Section", and Validation, Conventions, "Contexts".
use Rattle.std.specs.Prelude.{ℕ, Bool, true, ◌<◌, List, [], ◌∷◌, nat_lt}
use Rattle.std.specs.List.{AllByRecursion, flat_map}
use Rattle.wasm_spec.specs.Syntax.{members}
use Rattle.wasm_spec.specs.TypeReferences.{sub_refs}
use Rattle.wasm_spec.specs.Types.{HeapType, Abstract, Concrete, ValType, Ref, SubType, RecGroup}
use Rattle.wasm_validity.specs.Entries.{Entry, OfType}

-- the groups that entries write
abbrev pub groups_in : List Entry → List (RecGroup ℕ)
groups_in [] = []
groups_in (OfType group ∷ entries) = group ∷ groups_in entries
groups_in (_ ∷ entries) = groups_in entries

-- their sub types, by type index
abbrev pub written_in : List Entry → List (SubType ℕ)
written_in entries = flat_map members (groups_in entries)

-- all references of a type are indexes below this
abbrev pub IsInRange : ℕ → SubType ℕ → Type 0
IsInRange n type = AllByRecursion (λ index. index < n) (sub_refs type)

-- a type index, if it is one, is below this
abbrev pub is_heap_below : ℕ → HeapType ℕ → Bool
is_heap_below n (Abstract heap) = true
is_heap_below n (Concrete index) = nat_lt index n

-- a value type refers to none but the first so many types
abbrev pub is_named : ℕ → ValType ℕ → Bool
is_named n (Ref nullable heap) = is_heap_below n heap
is_named n type = true
