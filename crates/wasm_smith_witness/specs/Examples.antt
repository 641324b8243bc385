-- Lists of worked examples.
use Rattle.std.specs.Prelude.{ℕ, true, false, List, [], ◌∷◌}
use Rattle.wasm_spec.specs.Types.{Concrete, Ref, Val, FuncComposite, StructComposite, SubType}

-- a group of a function type without parameters and results
abbrev pub no_values : List (SubType ℕ)
no_values = record { is_final = true; supertypes = []; composite_type = FuncComposite (record { params = []; results = [] }) } ∷ []

abbrev pub one_function : List (List (SubType ℕ))
one_function = no_values ∷ []

abbrev pub two_functions : List (List (SubType ℕ))
two_functions = no_values ∷ no_values ∷ []

-- a structure of one constant field, which refers to the type of this index, or is null
abbrev pub pointer : ℕ → SubType ℕ
pointer index = record {
  is_final = true;
  supertypes = [];
  composite_type = StructComposite (record { element_type = Val (Ref true (Concrete index)); mutable = false } ∷ []);
}

-- a group of two structures that refer to each other
abbrev pub two_structures : List (List (SubType ℕ))
two_structures = (pointer 1 ∷ pointer 0 ∷ []) ∷ []
