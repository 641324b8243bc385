-- What the bodies of a module are judged in: its items over type indexes. Core Specification 3.0, Validation, Conventions, "Contexts", and Modules, "Functions" and
-- "Modules".
use Rattle.std.specs.Prelude.{◌≡◌, ◌↔◌, ℕ, suc, Bool, IsTrue, List, [], ◌∷◌, Option, Some, slice_get}
use Rattle.std.specs.List.{EachIndex, SomeIndex}
use Rattle.std.specs.Option.{option_and_then}
use Rattle.wasm_bodies.specs.BodyContext.{NamedType, ModuleItems, func_in}
use Rattle.wasm_spec.specs.Syntax.{Section, types_of, functions_of, bodies_of}
use Rattle.wasm_spec.specs.Types.{ValType, FuncType, SubType}
use Rattle.wasm_validity.specs.Context.{Context, functions_in, globals_in}
use Rattle.wasm_validity.specs.Rules.{IsBelow}
use Rattle.wasm_validity.specs.Validity.{context_of}

-- ---- items

-- types as they are written, over type indexes, the first of which has this index
abbrev pub named_from : ℕ → List (SubType ℕ) → List (NamedType ℕ)
named_from index [] = []
named_from index (type ∷ types) = record { reference = index; composite = type.composite_type } ∷ named_from (suc index) types

-- whether one type is below another
abbrev pub Below : Type 0
Below = ValType ℕ → ValType ℕ → Bool

-- What a body may name in the context of a whole module, whose types are written so.
abbrev pub items_in : List (SubType ℕ) → Context → Below → ModuleItems ℕ
items_in types cx is_below = record {
  types = named_from 0 types;
  functions = functions_in cx;
  tables = cx.tables;
  memories = cx.memories;
  globals = globals_in cx;
  tags = cx.tags;
  elements = cx.elements;
  data_count = cx.data_count;
  declared = cx.declared;
  is_below = is_below;
}

-- it says of any two types over the type indexes of a context whether the first is below the second
abbrev pub TellsBelow : Context → Below → Type 0
TellsBelow cx is_below = (a b : ValType ℕ) → IsTrue (is_below a b) ↔ IsBelow cx a b

-- It holds of what a module's bodies may name. All that tell which types are below which say the same.
abbrev pub OfItems : List Section → (ModuleItems ℕ → Type 0) → Type 0
OfItems sections Holds = (is_below : Below) → TellsBelow (context_of sections) is_below → Holds (items_in (types_of sections) (context_of sections) is_below)

-- ---- functions

-- the function type that an index names among types as they are written, if it names one
abbrev pub func_type_in : List (SubType ℕ) → ℕ → Option (FuncType ℕ)
func_type_in types index = option_and_then (λ type. func_in type.composite_type) (slice_get types index)

-- the function of the module's own at a place has a type and a body of which something holds
pub record BodyAt (Holds : FuncType ℕ → List ℕ → Type 0) (sections : List Section) (place : ℕ) : Type 0 where
  pub index : ℕ
  pub type : FuncType ℕ
  pub body : List ℕ
  pub indexed : slice_get (functions_of sections) place ≡ Some index
  pub named : func_type_in (types_of sections) index ≡ Some type
  pub has : slice_get (bodies_of sections) place ≡ Some body
  pub holds : Holds type body

-- it holds of each body
abbrev pub EachBody : (FuncType ℕ → List ℕ → Type 0) → List Section → Type 0
EachBody Holds sections = EachIndex (functions_of sections) (BodyAt Holds sections)

-- it holds of each body among some, a set of bodies being a test of their functions' places among the module's own
abbrev pub EachBodyAmong : (ℕ → Bool) → (FuncType ℕ → List ℕ → Type 0) → List Section → Type 0
EachBodyAmong is_among Holds sections = EachIndex (functions_of sections) (λ place. IsTrue (is_among place) → BodyAt Holds sections place)

-- it holds of some body
abbrev pub SomeBody : (FuncType ℕ → List ℕ → Type 0) → List Section → Type 0
SomeBody Holds sections = SomeIndex (functions_of sections) (BodyAt Holds sections)
