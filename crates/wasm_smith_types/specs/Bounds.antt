-- How large the types are at most, whatever the configuration says. This, with how groups are drawn (`DrawnGroups` and what it names, `Spelling`), is
-- what a reader has to believe of this crate.
use Rattle.std.specs.Prelude.{⊤, ℕ, ◌≤◌, List, length}
use Rattle.std.specs.List.{AllByRecursion}
use Rattle.wasm_spec.specs.Types.{CompositeType, FuncComposite, StructComposite, ArrayComposite, ContComposite, SubType}

-- a function type has at most 20 parameters and 20 results, a structure type at most 20 fields
abbrev pub IsSmallComposite : CompositeType ℕ → Type 0
IsSmallComposite (FuncComposite type) = (length type.params ≤ 20) × (length type.results ≤ 20)
IsSmallComposite (StructComposite fields) = length fields ≤ 20
IsSmallComposite (ArrayComposite field) = ⊤
IsSmallComposite (ContComposite function) = ⊤

abbrev pub IsSmall : SubType ℕ → Type 0
IsSmall type = IsSmallComposite type.composite_type

abbrev pub AreSmall : List (SubType ℕ) → Type 0
AreSmall types = AllByRecursion IsSmall types
