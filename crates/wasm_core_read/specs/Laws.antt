-- What it is for reading to be that of a form.
use Rattle.std.specs.Prelude.{◌≡◌, ℕ, Bool, List, ◌∷◌, ◌++◌, Option, Some, Result, Ok, Err}
use Rattle.wasm_spec.specs.Bytes.{AreBytes, IsBytes, IsU32, IsList, IsFramed}
use Rattle.wasm_spec.specs.Grammar.{section_id, IsContent, IsModule}
use Rattle.wasm_spec.specs.ModuleParts.{IsBody}
use Rattle.wasm_spec.specs.Syntax.{Section}
use Rattle.wasm_spec.specs.TypeGrammar.{IsValType, IsFuncType, IsRecGroup}
use Rattle.wasm_spec.specs.Types.{ValType, FuncType, RecGroup}
use Rattle.wasm_core_read.specs.declared.malformed.Malformed.{Malformed}
use Rattle.wasm_core_read.specs.Input.{Input, GoesOn, IsWithin}

-- What is read from the front of a list of bytes is an encoding of the form, and each encoding of the form is read, whatever follows it.
pub record ReadsExactly {A : Type 0} (IsA : List ℕ → A → Type 0) (a_at : List ℕ → Option (A × List ℕ)) : Type 0 where
  pub found : (bytes : List ℕ) (v : A) (rest : List ℕ) → AreBytes bytes → a_at bytes ≡ Some (v, rest) → (encoding : List ℕ) × (bytes ≡ encoding ++ rest) × IsA encoding v
  pub again : (encoding : List ℕ) (v : A) (rest : List ℕ) → IsA encoding v → a_at (encoding ++ rest) ≡ Some (v, rest)

-- What is read from all of a list of bytes is what they are an encoding of.
pub record FillsExactly {A : Type 0} (IsA : List ℕ → A → Type 0) (a_of : List ℕ → Option A) : Type 0 where
  pub found : (bytes : List ℕ) (v : A) → AreBytes bytes → a_of bytes ≡ Some v → IsA bytes v
  pub again : (bytes : List ℕ) (v : A) → IsA bytes v → a_of bytes ≡ Some v

-- the bytes are an encoding of some value, or of none
abbrev pub HasValue : {A : Type 0} → (List ℕ → A → Type 0) → List ℕ → Type 0
HasValue {A} IsA bytes = (value : A) × IsA bytes value

abbrev pub HasNone : {A : Type 0} → (List ℕ → A → Type 0) → List ℕ → Type 0
HasNone {A} IsA bytes = (value : A) → ¬ (IsA bytes value)

-- An encoding has one value, and none begins another.
abbrev pub IsPrefixFree : {A : Type 0} → (List ℕ → A → Type 0) → Type 0
IsPrefixFree {A} IsA = (a b x y : List ℕ) (v w : A) → IsA a v → IsA b w → a ++ x ≡ b ++ y → (a ≡ b) × (v ≡ w)

-- the bytes begin with an encoding of the value
pub record Begins {A : Type 0} (IsA : List ℕ → A → Type 0) (bytes : List ℕ) (v : A) (rest : List ℕ) : Type 0 where
  pub encoding : List ℕ
  pub parts : bytes ≡ encoding ++ rest
  pub encodes : IsA encoding v

-- the value and the rest are what the reader's bytes begin with, and nothing else is
pub record IsRead {A : Type 0} (IsA : List ℕ → A → Type 0) (old new : Input) (v : A) : Type 0 where
  pub found : Begins IsA old.rest v new.rest
  pub only : (w : A) (rest : List ℕ) → Begins IsA old.rest w rest → (w ≡ v) × (rest ≡ new.rest)
  pub goes_on : GoesOn old new

-- the reader's bytes begin with no encoding of the form
pub record IsRefused {A : Type 0} (IsA : List ℕ → A → Type 0) (old : Input) (offset : ℕ) : Type 0 where
  pub none : (w : A) (rest : List ℕ) → ¬ (Begins IsA old.rest w rest)
  pub within : IsWithin old offset

-- What a call returned, seen by view, is what the reader's bytes begin with. A refusal leaves the reader as it was.
abbrev pub Reads : {X A : Type 0} → (List ℕ → A → Type 0) → (X → A) → Input → Input → Result X Malformed → Type 0
Reads IsA view old new (Ok x) = IsRead IsA old new (view x)
Reads IsA view old new (Err e) = IsRefused IsA old e.offset × (new ≡ old)

-- The bytes are an encoding of no module, where compact imports are on or not.
abbrev pub IsNoModule : Bool → List ℕ → Type 0
IsNoModule compact encoding = (sections : List Section) → ¬ (IsModule compact encoding sections)

-- the bytes are the content of the section, whose id is this one
abbrev pub IsContentOf : Bool → ℕ → List ℕ → Section → Type 0
IsContentOf compact id encoding section = IsContent compact encoding section × (section_id section ≡ id)

-- the id of a section, and its content in a frame, whatever the content
abbrev pub IsFrame : List ℕ → ℕ × List ℕ → Type 0
IsFrame encoding frame = (framed : List ℕ) × (encoding ≡ frame.0 ∷ framed) × IsFramed IsBytes framed frame.1

-- Lists of some forms: a law takes a form by its name.
abbrev pub IsValTypes : List ℕ → List (ValType ℕ) → Type 0
IsValTypes encoding types = IsList IsValType encoding types

abbrev pub IsFuncTypes : List ℕ → List (FuncType ℕ) → Type 0
IsFuncTypes encoding types = IsList IsFuncType encoding types

abbrev pub IsIndexes : List ℕ → List ℕ → Type 0
IsIndexes encoding indexes = IsList IsU32 encoding indexes

abbrev pub IsRecGroups : List ℕ → List (RecGroup ℕ) → Type 0
IsRecGroups encoding groups = IsList IsRecGroup encoding groups

abbrev pub IsBodies : List ℕ → List (List ℕ) → Type 0
IsBodies encoding bodies = IsList IsBody encoding bodies
