-- Worked examples of constant expressions.
use Rattle.std.specs.Prelude.{◌≡◌, ℕ, pos, Bool, true, false, List, [], ◌∷◌, Option, Some, None}
use Rattle.std.specs.List.{list_all}
use Rattle.wasm_spec.specs.Constants.{ConstantOperator, I32Const, I64Const, RefNull, ConstantExpression}
use Rattle.wasm_spec.specs.Features.{Flag, Features, has}
use Rattle.wasm_spec.specs.Syntax.{ActiveElement, DataMode, ElementItems, ElementMode, FunctionItems}
use Rattle.wasm_spec.specs.Trees.{DefType, type_at}
use Rattle.wasm_spec.specs.Types.{Abstract, Any, Concrete, Func, I32, I64, I8, I16, Ref, RefType, ValType, CompositeType, StructComposite, ArrayComposite, GlobalType, GlobalExternal, Single, funcref}
use Rattle.wasm_spec_examples.specs.Examples.{at_least}
use Rattle.wasm_spec_examples.specs.TypeExamples.{const_field, final_type, var_field}
use Rattle.wasm_validity.specs.ConstantTyping.{IsConstantOf}
use Rattle.wasm_validity.specs.Context.{Context, after_all, at_first}
use Rattle.wasm_validity.specs.Entries.{Entry, OfData, OfElement, OfGlobal, OfMemory, OfTable, OfType}
use Rattle.wasm_validity_examples.specs.Examples.{constant, imports, own_table, table_of, variable, wide}

-- an expression gives a value of the type exactly where these flags are all on
abbrev pub GivesWith : List Flag → Context → ValType DefType → ConstantExpression → Type 0
GivesWith flags cx type expression =
    (features : Features) → (list_all (has features) flags ≡ true → IsConstantOf features cx type expression) × (list_all (has features) flags ≡ false → ¬ (IsConstantOf features cx type expression))

-- whatever the flags
abbrev pub Gives : Context → ValType DefType → ConstantExpression → Type 0
Gives cx type expression = (features : Features) → IsConstantOf features cx type expression

abbrev pub GivesNone : Context → ValType DefType → ConstantExpression → Type 0
GivesNone cx type expression = (features : Features) → ¬ (IsConstantOf features cx type expression)

-- numbers
abbrev pub i32_number : ConstantOperator
i32_number = I32Const (pos 7)

abbrev pub i64_number : ConstantOperator
i64_number = I64Const (pos 7)

-- what a type index stands for, as a reference
abbrev pub to_type : Bool → Context → ℕ → ValType DefType
to_type nullable cx index = Ref nullable (Concrete (type_at cx.types index))

-- Aggregates: a structure of a number of 64 bits and a packed one, an array of references to it that aren't null, one of packed numbers, a structure of a
-- reference to anything, one of a number and a reference to the first that isn't null, and an array of references to anything.
abbrev pub aggregates : Context
aggregates =
    after_all at_first (
    one (StructComposite (const_field I64 ∷ record { element_type = I8; mutable = true } ∷ []))
    ∷ one (ArrayComposite (const_field (Ref false (Concrete 0))))
    ∷ one (ArrayComposite (record { element_type = I16; mutable = true }))
    ∷ one (StructComposite (var_field (Ref true (Abstract Any)) ∷ []))
    ∷ one (StructComposite (const_field I32 ∷ const_field (Ref false (Concrete 0)) ∷ []))
    ∷ one (ArrayComposite (var_field (Ref true (Abstract Any))))
    ∷ [])
  where
    one : CompositeType ℕ → Entry
    one composite = OfType (Single (final_type composite))

-- ---- entries with constant expressions

abbrev pub own_global : GlobalType ℕ → ConstantExpression → Entry
own_global type initialiser = OfGlobal (record { type = type; initialiser = initialiser })

-- a table of one item at least, with an initialiser
abbrev pub table_from : RefType ℕ → ConstantExpression → Entry
table_from type initialiser = OfTable (record { type = table_of type (at_least 1); initialiser = Some initialiser })

abbrev pub element : ElementMode → ElementItems → Entry
element mode items = OfElement (record { mode = mode; items = items })

-- a data segment of no bytes
abbrev pub segment : DataMode → Entry
segment mode = OfData (record { mode = mode; contents = [] })

-- an imported global, one that may be written to, and the module's own two likewise
abbrev pub globals : Context
globals =
    after_all at_first (
    imports (GlobalExternal (constant I32)) ∷ imports (GlobalExternal (variable I32))
    ∷ own_global (constant I32) (i32_number ∷ []) ∷ own_global (variable I32) (i32_number ∷ []) ∷ [])

-- an imported global that holds a function or null, one that may be written to, and one of the module's own
abbrev pub function_globals : Context
function_globals =
    after_all at_first (
    imports (GlobalExternal (constant (Ref true (Abstract Func)))) ∷ imports (GlobalExternal (variable (Ref true (Abstract Func))))
    ∷ own_global (constant (Ref true (Abstract Func))) (RefNull (Abstract Func) ∷ []) ∷ [])

-- two memories, and two tables: the first of each has indexes of 32 bits, the second of 64
abbrev pub two_memories : Context
two_memories = after_all at_first (OfMemory (at_least 1) ∷ OfMemory (wide (at_least 1)) ∷ [])

abbrev pub two_tables : Context
two_tables = after_all at_first (own_table funcref (at_least 1) ∷ own_table funcref (wide (at_least 1)) ∷ [])

-- items that are put into the first table
abbrev pub element_of : ElementItems → Entry
element_of items = element (ActiveElement None (i32_number ∷ [])) items

-- a segment of no items, at an offset in a table
abbrev pub element_at_offset : Option ℕ → ConstantExpression → Entry
element_at_offset table offset = element (ActiveElement table offset) (FunctionItems [])
