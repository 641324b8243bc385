-- Types that worked examples of subtyping share, and what is said of them.
use Rattle.std.specs.Prelude.{◌≡◌, ℕ, true, List, [], ◌∷◌}
use Rattle.wasm_spec.specs.Trees.{type_at}
use Rattle.wasm_spec.specs.Types.{ArrayComposite, Concrete, Group, I32, RecGroup, Ref, Single, SubType, ValType}
use Rattle.wasm_spec_examples.specs.TypeExamples.{const_field, empty_function, final_type, one_field, open_below, open_type, two_fields}
use Rattle.wasm_validity.specs.Context.{Context, after_all, at_first}
use Rattle.wasm_validity.specs.Entries.{Entry, OfType}
use Rattle.wasm_validity.specs.Rules.{IsBelow}

-- Types by their indexes: 0 is a structure, 1 is below it, and 2 below that; 3 is a function, and 4 below it; 5 is an array; 6 is written as 0 is; 7 and 8
-- are a group of two such structures, and so are 9 and 10; 11 has the fields of 1 but no supertype; 12 is as 1, below 6.
abbrev pub related : Context
related =
    after_all at_first (
    one (open_type one_field) ∷ one (open_below 0 two_fields) ∷ one (open_below 1 two_fields)
    ∷ one (open_type empty_function) ∷ one (open_below 3 empty_function) ∷ one (final_type (ArrayComposite (const_field I32)))
    ∷ one (open_type one_field) ∷ OfType two ∷ OfType two ∷ one (open_type two_fields) ∷ one (open_below 6 two_fields) ∷ [])
  where
    one : SubType ℕ → Entry
    one type = OfType (Single type)

    two : RecGroup ℕ
    two = Group (open_type one_field ∷ open_type one_field ∷ [])

-- and further entries
abbrev pub with_related : List Entry → Context
with_related entries = after_all related entries

-- a reference to what an index names, which may be null
abbrev pub to : ℕ → ValType ℕ
to index = Ref true (Concrete index)

-- one type is below another in this context
abbrev pub Below : ValType ℕ → ValType ℕ → Type 0
Below a b = IsBelow related a b

-- two indexes name one type
abbrev pub AreOne : ℕ → ℕ → Type 0
AreOne i j = type_at related.types i ≡ type_at related.types j
