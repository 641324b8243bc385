-- Which modules are valid. Core Specification 3.0, Validation, "Modules". What sections say keeps the rules on it, and bodies are well typed.
use Rattle.std.specs.Prelude.{ℕ, Bool, not, List}
use Rattle.wasm_bodies.specs.Bodies.{IsFunctionBody, HasManyLocals, HasOtherOperator}
use Rattle.wasm_spec.specs.Features.{Features, CompactImports, has}
use Rattle.wasm_spec.specs.Grammar.{IsModule}
use Rattle.wasm_spec.specs.Syntax.{Section}
use Rattle.wasm_spec.specs.Types.{FuncType}
use Rattle.wasm_validity.specs.Entries.{entries_of}
use Rattle.wasm_validity.specs.Validity.{AreFine}
use Rattle.wasm_validity.specs.ModuleBodies.{OfItems, EachBody, EachBodyAmong, SomeBody}

-- ---- bodies: bytes in a module, for a function of a type over its type indexes

-- a body is well typed
abbrev pub IsTypedBody : Features → List Section → FuncType ℕ → List ℕ → Type 0
IsTypedBody features sections type body = OfItems sections (λ items. IsFunctionBody features items type body)

-- a body has too many locals
abbrev pub IsBodyPast : Features → List Section → FuncType ℕ → List ℕ → Type 0
IsBodyPast features sections type body = OfItems sections (λ items. HasManyLocals features items type body)

-- after operators that some body begins with, a body has a code that no operator of the table has
abbrev pub IsOtherBody : Features → List Section → FuncType ℕ → List ℕ → Type 0
IsOtherBody features sections type body = OfItems sections (λ items. HasOtherOperator features items type body)

-- a body isn't well typed, for another reason than these two
abbrev pub IsBrokenBody : Features → List Section → FuncType ℕ → List ℕ → Type 0
IsBrokenBody features sections type body =
    OfItems sections (λ items. (¬ (IsFunctionBody features items type body)) × (¬ (HasManyLocals features items type body)) × (¬ (HasOtherOperator features items type body)))

-- ---- modules

-- Sections that read as a module are those of a valid one under a set of features: they are fine, and each body is well typed.
pub record IsValid (features : Features) (sections : List Section) : Type 0 where
  pub fine : AreFine features (entries_of sections)
  pub bodies : EachBody (IsTypedBody features sections) sections

-- They are those of a valid one but for some bodies: they are fine, and each other body is well typed.
pub record IsValidBut (features : Features) (excepted : ℕ → Bool) (sections : List Section) : Type 0 where
  pub fine : AreFine features (entries_of sections)
  pub others : EachBodyAmong (λ place. not (excepted place)) (IsTypedBody features sections) sections

-- the bytes read as a module whose sections are fine, and of some body of it something holds
pub record HasBody (features : Features) (Holds : List Section → FuncType ℕ → List ℕ → Type 0) (bytes : List ℕ) : Type 0 where
  pub sections : List Section
  pub reads : IsModule (has features CompactImports) bytes sections
  pub fine : AreFine features (entries_of sections)
  pub some : SomeBody (Holds sections) sections
