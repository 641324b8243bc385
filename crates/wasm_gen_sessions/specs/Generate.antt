-- Promises on a module that is generated, and on refusals.
use Rattle.std.specs.Prelude.{◌≡◌, ◌⊎◌, ⊤, ℕ, List, [], IfSome}
use Rattle.wasm_core.specs.LimitCases as limits
use Rattle.wasm_core.specs.Limits.{limit}
use Rattle.wasm_core.specs.Parts as core
use Rattle.wasm_spec.specs.Features.{Features}
use Rattle.wasm_spec.specs.Limits.{Limit as NumberedLimit, BodySize, Length, Types, most}
use Rattle.wasm_validity.specs.Context.{at_first}
use Rattle.wasm_validity.specs.Entries.{entries_of}
use Rattle.wasm_validity.specs.ModuleBodies.{EachBodyAmong}
use Rattle.wasm_validity.specs.Modules.{IsTypedBody}
use Rattle.wasm_validity.specs.Rules.{PassLimit}
use Rattle.wasm_smith.specs.Config.{AreFeaturesOf, IsGood, IsBadField}
use Rattle.wasm_smith.specs.ErrorCases as smith
use Rattle.wasm_smith.specs.Parts.{Config, Error}
use Rattle.wasm_smith_module.specs.Asked.{HasGoodShapes}
use Rattle.wasm_smith_module.specs.Bounds.{IsWithinBounds}
use Rattle.wasm_smith_module.specs.Generating.{HasFront, front_at}
use Rattle.wasm_smith_module.specs.Measured.{HasLongBody}
use Rattle.wasm_smith_module.specs.Promise.{ExportsEverything, HasDrawnData, HasNonNull, IsOwed, PassesTypes, RefusesShape}
use Rattle.wasm_smith_module.specs.TrueToShapes.{IsTrueTo, TakesImports}
use Rattle.wasm_smith_sections.specs.ModuleEncoding.{PassesLength}
use Rattle.wasm_smith_validity.specs.Made.{Made}
use Rattle.wasm_smith_validity.specs.MadeBodies.{is_raw_at}
use Rattle.wasm_smith_validity.specs.Sections.{sections_with}
use Rattle.wasm_smith_validity.specs.Validity.{IsValidByIndex}
use Rattle.wasm_gen_sessions.specs.declared.error.GenerateError.{GenerateError}
use Rattle.wasm_gen_sessions.specs.declared.error.GenerateError.TheVariants.{Config as BadConfig, Shape, Minimum, EmptyChoice, TypeSize, Limit, Memory}
use Rattle.wasm_gen_sessions.specs.Written.{IsGenerated}

-- the error that tells of one of the generator
abbrev pub told : Error → GenerateError
told smith.IncorrectFormat = Minimum
told smith.EmptyChoose = EmptyChoice
told smith.NotEnoughData = EmptyChoice
told (smith.BadConfig field) = BadConfig field
told (smith.BadShape part) = Shape part
told smith.TypeSize = TypeSize
told smith.Memory = Memory
told smith.TooLong = Limit limits.Length

-- From these bytes a made module is generated, for a configuration that was put in order and is good, as its shapes are. Its types and functions are those that
-- are drawn, where the draws say which they are; where nothing is left then, and nothing else is owed, it has nothing else. The imports that it takes of a shape
-- are those that the draws choose, where these say which they are. Its data, raw bodies and custom sections are no longer than these bytes.
pub record IsGeneratedFrom (c : Config) (seed bytes : List ℕ) : Type 0 where
  pub good : IsGood c
  pub shapes : HasGoodShapes c
  pub made : Made
  pub left : List ℕ
  pub drawn : IfSome (front_at c seed) (λ drawn. HasFront c drawn made left)
  pub imports : TakesImports c seed made
  pub contents : HasDrawnData seed left made
  pub generated : IsGenerated c made bytes

-- The raw bodies of a generated module are well typed.
abbrev pub HasTypedRaw : Features → (c : Config) (seed bytes : List ℕ) → IsGeneratedFrom c seed bytes → Type 0
HasTypedRaw features c seed bytes g =
    let sections = sections_with c.bulk_memory_enabled g.generated.bodies g.made in
    EachBodyAmong (is_raw_at g.made.bodies) (IsTypedBody features sections) sections

-- ---- limits

-- The sections of a made module pass the limit, bodies aside, or a raw body is too long, or a length can't be stated.
abbrev pub IsPast : Config → NumberedLimit → Made → Type 0
IsPast c passed made =
    PassLimit passed at_first (entries_of (sections_with c.bulk_memory_enabled [] made))
    ⊎ ((passed ≡ BodySize) × HasLongBody made)
    ⊎ ((passed ≡ Length) × PassesLength c.bulk_memory_enabled made)

-- A made module that is as it should be, but for a limit that it passes. It is the drawn one, as far as the draws say which one that is.
pub record MakesPast (c : Config) (seed : List ℕ) (passed : NumberedLimit) : Type 0 where
  pub made : Made
  pub left : List ℕ
  pub valid : (features : Features) → AreFeaturesOf c features → IsValidByIndex features made
  pub bounds : IsWithinBounds c made
  pub true_to_shapes : IsTrueTo c made
  pub contents : HasDrawnData seed left made
  pub past : IsPast c passed made
  pub drawn : IfSome (front_at c seed) (λ drawn. HasFront c drawn made left)
  pub imports : TakesImports c seed made

-- More types are asked for than there may be, and are allowed. They aren't made past their limit.
pub record AsksPast (c : Config) (seed : List ℕ) (passed : NumberedLimit) : Type 0 where
  pub is : passed ≡ Types
  pub asks : PassesTypes c seed (most Types)

-- the limit is passed by what is made from these bytes, or is asked for
pub record PassesLimit (c : Config) (seed : List ℕ) (passed : core.Limit) : Type 0 where
  pub good : IsGood c
  pub shapes : HasGoodShapes c
  pub past : MakesPast c seed (limit passed) ⊎ AsksPast c seed (limit passed)

-- ---- refusals

-- why a made module isn't written: it passes a limit, or memory ran out
abbrev pub IsUnwritable : Config → Made → GenerateError → Type 0
IsUnwritable c made (BadConfig field) = ⊥
IsUnwritable c made (Shape part) = ⊥
IsUnwritable c made Minimum = ⊥
IsUnwritable c made EmptyChoice = ⊥
IsUnwritable c made TypeSize = ⊥
IsUnwritable c made (Limit passed) = IsPast c (limit passed) made
IsUnwritable c made Memory = ⊤

-- why nothing is generated for a configuration that was put in order, from these bytes
abbrev pub IsCause : Config → List ℕ → GenerateError → Type 0
IsCause c seed (BadConfig field) = IsBadField c field.now
IsCause c seed (Shape part) = RefusesShape c part.now
IsCause c seed Minimum = IsOwed c
IsCause c seed EmptyChoice = HasNonNull c
IsCause c seed TypeSize = ExportsEverything c
IsCause c seed (Limit passed) = PassesLimit c seed passed
IsCause c seed Memory = ⊤
