-- What worked examples say, and the module that they stand in. Its types are named by their indexes.
use Rattle.std.specs.Prelude.{◌-◌, ℕ, suc, Bool, true, false, not, ◌&&◌, ◌||◌, List, [], ◌∷◌, nat_eq, slice_get, Option, Some, None}
use Rattle.wasm_bodies.specs.Bodies.{Code, done, simple, IsTyped, Run, in_function}
use Rattle.wasm_bodies.specs.BodyContext.{NamedType, ModuleItems, BodyContext}
use Rattle.wasm_bodies.specs.Operators.{Operator}
use Rattle.wasm_spec.specs.Features.{Flag, Features, bit_of, default_features}
use Rattle.wasm_spec.specs.Subtyping.{abstract_of, bottom_of, is_abstract_below}
use Rattle.wasm_spec.specs.Types.{AbstractHeapType, Func, Extern, Struct, HeapType, Abstract, Concrete, ValType, I32, I64, F32, F64, V128, Ref, I8, I16, FieldType, FuncType, CompositeType, FuncComposite, StructComposite, ArrayComposite, RefType, TableType, Limits, funcref}
use Rattle.wasm_spec_examples.specs.Examples.{at_least}
use Rattle.wasm_spec_examples.specs.TypeExamples.{const_field, gives, takes}

-- ---- what is said

-- a body is well typed
pub record IsRight {R : Type 0} (cx : BodyContext R) (code : Code) : Type 0 where
  pub typed : IsTyped cx code

-- a body isn't
pub record IsWrong {R : Type 0} (cx : BodyContext R) (code : Code) : Type 0 where
  pub broken : ¬ (IsTyped cx code)

-- operators that open no block, one after the other, and then other code
abbrev pub then : List (Operator ℕ) → Code → Code
then [] rest = rest
then (operator ∷ operators) rest = simple operator (then operators rest)

abbrev pub straight : List (Operator ℕ) → Code
straight operators = then operators done

-- all features that are on where nothing else is said, but this one
abbrev pub without : Flag → Features
without flag = default_features - bit_of flag

-- ---- the module

abbrev pub function : List (ValType ℕ) → List (ValType ℕ) → CompositeType ℕ
function params results = FuncComposite (record { params = params; results = results })

abbrev pub var_packed : FieldType ℕ
var_packed = record { element_type = I8; mutable = true }

-- types by their indexes, from this one on
abbrev pub named_from : ℕ → List (CompositeType ℕ) → List (NamedType ℕ)
named_from index [] = []
named_from index (composite ∷ composites) = record { reference = index; composite = composite } ∷ named_from (suc index) composites

abbrev pub to_type : ℕ → ValType ℕ
to_type index = Ref false (Concrete index)

abbrev pub any_structure : ValType ℕ
any_structure = Ref true (Abstract Struct)

abbrev pub types : List (NamedType ℕ)
types =
    named_from 0 (
    -- functions: of nothing, of two numbers, without parameters
    function [] [] ∷ function (I32 ∷ I64 ∷ []) (I32 ∷ []) ∷ function [] (I32 ∷ [])
    -- a structure of a number and a packed one, and an array of packed ones
    ∷ StructComposite (const_field I64 ∷ var_packed ∷ []) ∷ ArrayComposite (record { element_type = I16; mutable = true })
    -- a structure of two numbers and, between them, a reference to the structure, which isn't null, and an array of such references
    ∷ StructComposite (const_field I32 ∷ const_field (to_type 3) ∷ const_field I64 ∷ []) ∷ ArrayComposite (const_field (to_type 3))
    -- functions: of a number to a number, and to structures
    ∷ function (I32 ∷ []) (I32 ∷ []) ∷ function [] (to_type 3 ∷ []) ∷ function [] (any_structure ∷ [])
    -- functions of two numbers to two numbers, of a number to another, and of a structure to any
    ∷ function (I32 ∷ I64 ∷ []) (I32 ∷ I64 ∷ []) ∷ function (I32 ∷ []) (I64 ∷ []) ∷ function (to_type 3 ∷ []) (any_structure ∷ []) ∷ [])

-- ---- subtyping: no type of the module is declared below another

abbrev pub is_kind_below : Option (NamedType ℕ) → AbstractHeapType → Bool
is_kind_below None b = false
is_kind_below (Some named) b = is_abstract_below (abstract_of named.composite) b

abbrev pub is_bottom_of : AbstractHeapType → Option (NamedType ℕ) → Bool
is_bottom_of a None = false
is_bottom_of a (Some named) = is_abstract_below a (bottom_of named.composite)

abbrev pub is_heap_below : HeapType ℕ → HeapType ℕ → Bool
is_heap_below (Abstract a) (Abstract b) = is_abstract_below a b
is_heap_below (Concrete i) (Abstract b) = is_kind_below (slice_get types i) b
is_heap_below (Abstract a) (Concrete j) = is_bottom_of a (slice_get types j)
is_heap_below (Concrete i) (Concrete j) = nat_eq i j

abbrev pub is_type_below : ValType ℕ → ValType ℕ → Bool
is_type_below I32 I32 = true
is_type_below I64 I64 = true
is_type_below F32 F32 = true
is_type_below F64 F64 = true
is_type_below V128 V128 = true
is_type_below (Ref n a) (Ref m b) = (not n || m) && is_heap_below a b
is_type_below _ _ = false

-- ---- items

abbrev pub wide : Limits → Limits
wide limits = record limits { is_64 = true }

abbrev pub table_of : RefType ℕ → Limits → TableType ℕ
table_of type limits = record { element_type = type; limits = limits }

abbrev pub external : RefType ℕ
external = record { nullable = true; heap_type = Abstract Extern }

-- functions of one type, the third, which is below all functions
abbrev pub of_one_type : RefType ℕ
of_one_type = record { nullable = true; heap_type = Concrete 2 }

-- functions, and never null
abbrev pub not_null : RefType ℕ
not_null = record { nullable = false; heap_type = Abstract Func }

-- Six functions, of types 0, 1, 2, 7, 8 and 9, of which a body may refer to the third. Five tables: of functions, of functions with indexes of 64
-- bits, of what comes from outside, of functions of one type, and of functions without null. Two memories, the second of which has addresses of 64
-- bits; a global that can't be set, and one that can; four element segments: of functions, of what comes from outside, of functions of one type, and
-- of functions without null; one data segment.
abbrev pub module_items : ModuleItems ℕ
module_items = record {
  types = types;
  functions = 0 ∷ 1 ∷ 2 ∷ 7 ∷ 8 ∷ 9 ∷ [];
  tables = table_of funcref (at_least 1) ∷ table_of funcref (wide (at_least 1)) ∷ table_of external (at_least 1) ∷ table_of of_one_type (at_least 1)
      ∷ table_of not_null (at_least 1) ∷ [];
  memories = at_least 1 ∷ wide (at_least 1) ∷ [];
  globals = record { value_type = I64; mutable = false } ∷ record { value_type = I64; mutable = true } ∷ [];
  tags = [];
  elements = funcref ∷ external ∷ of_one_type ∷ not_null ∷ [];
  data_count = Some 1;
  declared = λ function. nat_eq function 2;
  is_below = is_type_below;
}

-- the same without a data count
abbrev pub uncounted_items : ModuleItems ℕ
uncounted_items = record module_items { data_count = None }

-- ---- functions of the module

-- a function with these locals after its parameters
abbrev pub function_with : Features → FuncType ℕ → List Run → BodyContext ℕ
function_with features type runs = in_function features module_items type runs

-- the operators are the body of a function without parameters that gives these results, or aren't
abbrev pub Gives : List (ValType ℕ) → List (Operator ℕ) → Type 0
Gives results operators = IsRight (function_with default_features (gives results) []) (straight operators)

abbrev pub GivesNot : List (ValType ℕ) → List (Operator ℕ) → Type 0
GivesNot results operators = IsWrong (function_with default_features (gives results) []) (straight operators)

-- the same of code with blocks
abbrev pub CodeGives : List (ValType ℕ) → Code → Type 0
CodeGives results code = IsRight (function_with default_features (gives results) []) code

abbrev pub CodeGivesNot : List (ValType ℕ) → Code → Type 0
CodeGivesNot results code = IsWrong (function_with default_features (gives results) []) code

-- they are with all features that are on by default, and aren't without this one
abbrev pub GivesWith : Flag → List (ValType ℕ) → List (Operator ℕ) → Type 0
GivesWith flag results operators =
    IsRight (function_with default_features (gives results) []) (straight operators) × IsWrong (function_with (without flag) (gives results) []) (straight operators)

abbrev pub CodeGivesWith : Flag → List (ValType ℕ) → Code → Type 0
CodeGivesWith flag results code = IsRight (function_with default_features (gives results) []) code × IsWrong (function_with (without flag) (gives results) []) code

abbrev pub run_of : ℕ → ValType ℕ → Run
run_of count type = record { count = count; type = type }

-- the code is the body of a function of these parameters, with locals, that gives nothing, or isn't
abbrev pub Uses : List (ValType ℕ) → List Run → Code → Type 0
Uses params runs code = IsRight (function_with default_features (takes params) runs) code

abbrev pub UsesNot : List (ValType ℕ) → List Run → Code → Type 0
UsesNot params runs code = IsWrong (function_with default_features (takes params) runs) code
