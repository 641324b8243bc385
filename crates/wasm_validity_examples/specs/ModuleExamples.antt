-- Types and modules that worked examples share.
use Rattle.std.specs.Prelude.{ℕ, List, [], ◌∷◌}
use Rattle.wasm_spec.specs.Syntax.{Section, TypeSection, FunctionSection, CodeSection}
use Rattle.wasm_spec.specs.Types.{CompositeType, FuncComposite, I32, RecGroup, Single}
use Rattle.wasm_spec_examples.specs.TypeExamples.{empty_function, final_type, gives}

-- a final type that stands alone
abbrev pub alone : CompositeType ℕ → RecGroup ℕ
alone composite = Single (final_type composite)

-- functions of nothing, without results or with a number
abbrev pub no_result : RecGroup ℕ
no_result = alone empty_function

abbrev pub a_number : RecGroup ℕ
a_number = alone (FuncComposite (gives (I32 ∷ [])))

-- a module of these types, with a function of one of them
abbrev pub one_function : List (RecGroup ℕ) → ℕ → List ℕ → List Section
one_function types index body = TypeSection types ∷ FunctionSection (index ∷ []) ∷ CodeSection (body ∷ []) ∷ []

-- a module that says nothing but a type
abbrev pub one_type : List Section
one_type = TypeSection (no_result ∷ []) ∷ []
